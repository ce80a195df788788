-- A client of whose sessions one is lost with its link, as its row says.
use Rattle.std.specs.Prelude.{◌≡◌, ◌⊎◌, ◌<◌, ◌^◌, ℕ, suc, Bool, true, false, not, ◌&&◌, is_some, nat_eq, if◌then◌else◌, List, Option, Some, None}
use Rattle.std.specs.Option.{option_map, option_map_or}
use Rattle.std.proofs.Common.{refl, sym, ap, ◌∙◌, subst}
use Rattle.mx_base.specs.declared.names.ClientNo.{ClientNo}
use Rattle.mx_base.specs.declared.names.Hostgroup.{Hostgroup}
use Rattle.mx_base.specs.declared.names.LinkId.{LinkId}
use Rattle.session_state.specs.Pins.{is_pinned}
use Rattle.session_state.specs.declared.names.SessionName.{SessionName}
use Rattle.client_session.specs.Setups.{Setup as Service}
use Rattle.std.proofs.lemmas.Option.{same_Some}
use Rattle.private_model.proofs.Maps.{client_of, hostgroup_of}
use Rattle.private_model.specs.Story.{is_hostgroup}
use Rattle.log_story.specs.Tale as tales
use Rattle.client_desk.specs.Desks.{gone, session_of}
use Rattle.client_desk.specs.Sessions.{next_session}
use Rattle.client_desk.specs.declared.desk.Desk.{Desk}
use Rattle.client_desk.specs.declared.session.Session.{Session}
use Rattle.desk_laws.proofs.Rows.{session_hostgroup, session_put}
use Rattle.router_laws.proofs.OfLinks.Sessions.{home_row}
use Rattle.desk_laws.specs.Stands.{HasRow}
use Rattle.core_tables.specs.Parting.{changed_for, gone_row, present_in}
use Rattle.core_tables.specs.Tables.{Tabled}
use Rattle.core_tables.specs.declared.client.Client.{Client}
use Rattle.core_stands.specs.Grounds.{Ground, view_on}
use Rattle.core_stands.specs.Stands.{Stands}
use Rattle.core_laws.proofs.OfParting.Redesking.{present_so}
use Rattle.core_laws.specs.parting.Partings.{IsLosing}
use Rattle.core_laws.proofs.OfWriting.Knowing.{Knows, knows}
use Rattle.core_laws.specs.clients.Turns.{waits_at}
use Rattle.router_laws.proofs.OfLinks.Rowing.{gone_other}
use Rattle.router_laws.specs.links.Loses.{GoesWithIt}

-- What goes with a link may go, by rows.

module _ (service : Service) (g : Ground) (t : Tabled) (l : LinkId) (stands : Stands service g t) where
  -- the present session that the link carries, at its client's desk
  pub present_row : (n : SessionName) → present_in l t ≡ Some n
      → (row : Client) × (t.clients n.client ≡ Some row) × ((session_of row.desk n.hostgroup).home ≡ Some l)
      × ((session_of row.desk n.hostgroup).life ≡ n.life)
  present_row n at =
      let there = present_so t l n at in stands.homes.home l there.server n there.there there.carries there.mine there.whole

  life_now : (n : SessionName) → present_in l t ≡ Some n → (view_on g).lives n.client n.hostgroup ≡ n.life
  life_now n at =
      let its = present_row n at in
      let k : Knows g n.client its.0 = knows service g t n.client its.0 stands its.1 in
      ap (λ (c : ClientNo). (view_on g).lives c n.hostgroup) (sym k.known.number) ∙ (k.is.desk.sessions.each n.hostgroup).life ∙ its.3

  pub losing_so : (given : ClientNo → Option (List ℕ)) → GoesWithIt l (λ c. is_some (given c)) t → IsLosing g t l given
  losing_so given with_it = record {
    lives = λ n at. subst (λ (life : ℕ). suc life < 2 ^ 64) (sym (life_now n at)) (with_it.lives n at);
    work = with_it.work;
  }

-- Whether its next message waits for a capture.

abbrev captured : Session → Bool
captured s = not (is_pinned s.pin) && not (is_some s.id)

next_ready : (desk : Desk) (h : Hostgroup) → HasRow desk.sessions h → captured (session_of (gone h desk) h) ≡ false
next_ready desk h there =
    let hostgroup : (session_of desk h).hostgroup ≡ h = session_hostgroup desk.lefts desk.sessions h in
    ap captured (session_put desk.lefts desk.sessions (next_session (session_of desk h)) h hostgroup there)

gone_ready : (row : Client) (h : Hostgroup) → HasRow row.desk.sessions h → waits_at row ≡ false → waits_at (gone_row h row) ≡ false
gone_ready row h there none = by row.went none where
  by : (went : Option Hostgroup) → option_map_or (λ (k : Hostgroup). captured (session_of row.desk k)) went false ≡ false
      → option_map_or (λ (k : Hostgroup). captured (session_of (gone h row.desk) k)) went false ≡ false
  by None was = refl
  by (Some k) was = at (is_hostgroup k h) refl where
    at : (b : Bool) → is_hostgroup k h ≡ b → captured (session_of (gone h row.desk) k) ≡ false
    at true here = ap (λ (j : Hostgroup). captured (session_of (gone h row.desk) j)) (hostgroup_of k h here) ∙ next_ready row.desk h there
    at false apart = ap captured (gone_other h k row.desk apart) ∙ was

module _ (service : Service) (g : Ground) (t : Tabled) (l : LinkId) (stands : Stands service g t) (c : ClientNo) (row : Client) (there : t.clients c ≡ Some row)
    (unawaited : (n : SessionName) (x : Client) → present_in l t ≡ Some n → t.clients n.client ≡ Some x → nat_eq n.client.0 c.0 ≡ true → waits_at x ≡ false) where
  pub record HasGone : Type 0 where
    pub row_now : Client
    pub is : changed_for gone_row (present_in l t) c (t.clients c) ≡ Some row_now
    pub waits : waits_at row_now ≡ waits_at row

  gone_by : (p : Option SessionName) → present_in l t ≡ p → (row_now : Client) × (changed_for gone_row p c (t.clients c) ≡ Some row_now) × (waits_at row_now ≡ waits_at row)
  gone_by None at = (row, there, refl)
  gone_by (Some n) at = by (nat_eq n.client.0 c.0) refl where
    by : (b : Bool) → nat_eq n.client.0 c.0 ≡ b
        → (row_now : Client) × ((if b then option_map (gone_row n.hostgroup) (t.clients c) else t.clients c) ≡ Some row_now) × (waits_at row_now ≡ waits_at row)
    by false apart = (row, there, refl)
    by true same =
        let its = present_row service g t l stands n at in
        let none : waits_at its.0 ≡ false = unawaited n its.0 at its.1 same in
        let row_is : its.0 ≡ row = same_Some its.0 row (sym its.1 ∙ ap t.clients (client_of n.client c same) ∙ there) in
        let has : HasRow row.desk.sessions n.hostgroup =
        home_row row.desk.lefts row.desk.sessions n.hostgroup l (ap (λ (x : Client). (session_of x.desk n.hostgroup).home) (sym row_is) ∙ its.2) in
        let none_row : waits_at row ≡ false = ap waits_at (sym row_is) ∙ none in
        (gone_row n.hostgroup row, ap (option_map (gone_row n.hostgroup)) there, gone_ready row n.hostgroup has none_row ∙ sym none_row)

  pub has_gone : HasGone
  has_gone = let by = gone_by (present_in l t) refl in record { row_now = by.0; is = by.1; waits = by.2 }
