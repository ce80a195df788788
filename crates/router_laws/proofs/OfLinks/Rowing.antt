-- A link is lost, and statements are given up: other links are done with their sessions just as they were.
use Rattle.std.specs.Prelude.{◌≡◌, ℕ, Bool, true, false, not, ◌&&◌, is_some, nat_eq, if◌then◌else◌, List, Option, Some, None}
use Rattle.std.specs.Option.{option_map, option_map_or}
use Rattle.std.proofs.Common.{refl, sym, ap, ◌∙◌, subst}
use Rattle.std.proofs.lemmas.Bool.{true≢false}
use Rattle.std.proofs.lemmas.Option.{same_Some}
use Rattle.mx_base.specs.declared.names.ClientNo.{ClientNo}
use Rattle.mx_base.specs.declared.names.Hostgroup.{Hostgroup}
use Rattle.mx_base.specs.declared.names.LinkId.{LinkId}
use Rattle.session_state.specs.declared.names.SessionName.{SessionName}
use Rattle.client_session.specs.Setups.{Setup as Service}
use Rattle.private_model.proofs.Maps.{client_of, hostgroup_of, same_link}
use Rattle.private_model.specs.Story.{is_client, is_hostgroup, is_name}
use Rattle.client_desk.specs.Desks.{carried_of, gone, session_of}
use Rattle.client_desk.specs.Sessions.{next_session}
use Rattle.client_desk.specs.declared.desk.Desk.{Desk}
use Rattle.client_desk.specs.declared.session.Session.{Session}
use Rattle.client_desk.specs.declared.work.Work.{Work}
use Rattle.desk_laws.specs.Stands.{name_at}
use Rattle.link_state.specs.declared.state.Carried.TheVariants.{Lent}
use Rattle.desk_laws.proofs.Rows.{session_elsewhere, session_hostgroup}
use Rattle.link_state.specs.declared.wish.Session as links
use Rattle.lent_link.specs.declared.link.LentLink.{LentLink}
use Rattle.served_link.specs.declared.row.LeftSession.{LeftSession}
use Rattle.core_tables.specs.Parting.{at_desk, changed_for, given_row, given_up_in, gone_row, is_done_for, is_done_in, is_given_up, lost_in, lost_row, name_in, present_in, unlinked, waits_in}
use Rattle.core_tables.specs.Tables.{Tabled}
use Rattle.core_tables.specs.declared.client.Client.{Client}
use Rattle.core_tables.specs.declared.server.Server.{Server}
use Rattle.core_stands.specs.Grounds.{Ground}
use Rattle.core_stands.specs.Stands.{Stands}
use Rattle.core_laws.proofs.OfParting.Redesking.{present_so}
use Rattle.core_laws.proofs.OfLinks.Desks.{Alike, done_alike, done_with, given_alike}
use Rattle.router_laws.proofs.OfReading.Lent.{IsLentElsewhere, desk_alike, not_waiting}
use Rattle.core_laws.proofs.OfLinks.Opens.{done_of}

-- A session is gone, and others of its client stay.

pub gone_other : (h k : Hostgroup) (desk : Desk) → is_hostgroup k h ≡ false → session_of (gone h desk) k ≡ session_of desk k
gone_other h k desk apart =
    session_elsewhere desk.lefts desk.sessions (next_session (session_of desk h)) k
    (ap (λ (j : Hostgroup). is_hostgroup k j) (session_hostgroup desk.lefts desk.sessions h) ∙ apart)

gone_alike : (h k : Hostgroup) (desk : Desk) → is_hostgroup k h ≡ false → Alike (carried_of (gone h desk) k) (carried_of desk k)
gone_alike h k desk apart =
    let same : session_of (gone h desk) k ≡ session_of desk k = gone_other h k desk apart in
    record { present = refl; pin = ap (λ (s : Session). s.pin) same; id = ap (λ (s : Session). s.id) same }

abbrev IsApart : SessionName → Option SessionName → Type 0
IsApart m p = (n : SessionName) → p ≡ Some n → nat_eq n.client.0 m.client.0 ≡ true → is_hostgroup m.hostgroup n.hostgroup ≡ false

changed_alike : (m : SessionName) (p : Option SessionName) (found : Option Client) → IsApart m p
    → Alike (at_desk m (changed_for gone_row p m.client found)) (at_desk m found)
changed_alike m None found apart = record { present = refl; pin = refl; id = refl }
changed_alike m (Some n) found apart = by (nat_eq n.client.0 m.client.0) refl found where
  by : (b : Bool) → nat_eq n.client.0 m.client.0 ≡ b → (x : Option Client)
      → Alike (at_desk m (if b then option_map (gone_row n.hostgroup) x else x)) (at_desk m x)
  by false same x = record { present = refl; pin = refl; id = refl }
  by true same None = record { present = refl; pin = refl; id = refl }
  by true same (Some row) = gone_alike n.hostgroup m.hostgroup row.desk (apart n refl same)

both_alike : (m : SessionName) (p : Option SessionName) (q : Option (List ℕ)) (found : Option Client) → IsApart m p
    → Alike (at_desk m (option_map (given_row q) (changed_for gone_row p m.client found))) (at_desk m found)
both_alike m p q found apart =
    subst (λ (s : links.Session). Alike s (at_desk m found)) (sym (desk_alike q m (changed_for gone_row p m.client found)))
    (changed_alike m p found apart)

-- What waits in a session waits there still as another is gone.

waits_gone : (h : Hostgroup) (m : SessionName) (desk : Desk) (work : Work) → is_hostgroup m.hostgroup h ≡ false
    → waits_in m (gone h desk) work ≡ waits_in m desk work
waits_gone h m desk work apart = by (is_hostgroup m.hostgroup work.hostgroup) refl where
  by : (b : Bool) → is_hostgroup m.hostgroup work.hostgroup ≡ b → waits_in m (gone h desk) work ≡ waits_in m desk work
  by false other =
      λ i. not work.sent && (is_client m.client desk.seat.client.number && (in_other (session_of (gone h desk) work.hostgroup).life (session_of desk work.hostgroup).life i)) where
        in_other : (a b : ℕ) → (is_hostgroup m.hostgroup work.hostgroup && nat_eq m.life a) ≡ (is_hostgroup m.hostgroup work.hostgroup && nat_eq m.life b)
        in_other a b = ap (λ (x : Bool). x && nat_eq m.life a) other ∙ sym (ap (λ (x : Bool). x && nat_eq m.life b) other)
  by true here =
      let same : m.hostgroup ≡ work.hostgroup = hostgroup_of m.hostgroup work.hostgroup here in
      ap (λ (s : Session). not work.sent && is_name m (name_at desk.seat.client.number work.hostgroup s.life))
      (gone_other h work.hostgroup desk (ap (λ (k : Hostgroup). is_hostgroup k h) (sym same) ∙ apart))

given_gone : (m : SessionName) (p : Option SessionName) (found : Option Client) → IsApart m p
    → is_given_up m (changed_for gone_row p m.client found) ≡ is_given_up m found
given_gone m None found apart = refl
given_gone m (Some n) found apart = by (nat_eq n.client.0 m.client.0) refl found where
  in_it : (row : Client) → nat_eq n.client.0 m.client.0 ≡ true → (work : Option Work)
      → option_map_or (waits_in m (gone n.hostgroup row.desk)) work false ≡ option_map_or (waits_in m row.desk) work false
  in_it row same None = refl
  in_it row same (Some work) = waits_gone n.hostgroup m row.desk work (apart n refl same)

  by : (b : Bool) → nat_eq n.client.0 m.client.0 ≡ b → (x : Option Client)
      → is_given_up m (if b then option_map (gone_row n.hostgroup) x else x) ≡ is_given_up m x
  by false same x = refl
  by true same None = refl
  by true same (Some row) = ap not (in_it row same row.desk.work)

-- what is given up then wasn't what waits in this one
both_given : (m : SessionName) (p : Option SessionName) (q : Option (List ℕ)) (found : Option Client) → IsApart m p
    → ((row : Client) (work : Work) → found ≡ Some row → row.desk.work ≡ Some work → is_some q ≡ true → waits_in m row.desk work ≡ false)
    → is_given_up m (option_map (given_row q) (changed_for gone_row p m.client found)) ≡ is_given_up m found
both_given m p None found apart waits = none_given (changed_for gone_row p m.client found) ∙ given_gone m p found apart where
  none_given : (x : Option Client) → is_given_up m (option_map (given_row None) x) ≡ is_given_up m x
  none_given None = refl
  none_given (Some row) = refl
both_given m p (Some payload) found apart waits = given_all (changed_for gone_row p m.client found) ∙ sym (by found refl) where
  given_all : (x : Option Client) → is_given_up m (option_map (given_row (Some payload)) x) ≡ true
  given_all None = refl
  given_all (Some row) = refl

  in_it : (row : Client) → found ≡ Some row → (work : Option Work) → row.desk.work ≡ work → not (option_map_or (waits_in m row.desk) work false) ≡ true
  in_it row at None none = refl
  in_it row at (Some work) some = ap not (waits row work at some refl)

  by : (x : Option Client) → found ≡ x → is_given_up m x ≡ true
  by None at = refl
  by (Some row) at = in_it row at row.desk.work refl

-- Of a link that is lost, or whose session was left, the desk tells nothing.
with_alike : (lost : Bool) (left : Option LeftSession) (link : LentLink) (a b : links.Session) (given : Bool) → (lost ≡ false → left ≡ None → Alike a b)
    → done_with lost left link a given ≡ done_with lost left link b given
with_alike true left link a b given alike = refl
with_alike false (Some kept) link a b given alike = refl
with_alike false None link a b given alike = done_alike false None link a b given (alike refl refl)

lost_undone : (t : Tabled) (found : Option Server) → done_of t (option_map lost_row found) ≡ false
lost_undone t None = refl
lost_undone t (Some server) = by (name_in server.row.link.state.carries) where
  by : (named : Option SessionName) → is_done_for t (lost_row server) named ≡ false
  by None = refl
  by (Some m) = refl

module _ (service : Service) (g : Ground) (t : Tabled) (l : LinkId) (given : ClientNo → Option (List ℕ)) (is : Stands service g t)
    (aside : (x : LinkId) → nat_eq l.0 x.0 ≡ false → IsLentElsewhere t given x) where
  abbrev pub gone_on : Tabled
  gone_on = given_up_in given (lost_in l t)

  abbrev p : Option SessionName
  p = present_in l t

  -- another link has another session as its own

  apart_there : (other : LinkId) (server : Server) (m : SessionName) → nat_eq l.0 other.0 ≡ false → t.links other ≡ Some server
      → name_in server.row.link.state.carries ≡ Some m → server.row.lost ≡ false → server.row.left ≡ None → IsApart m p
  apart_there other server m aside there carries whole mine n at same = by (is_hostgroup m.hostgroup n.hostgroup) refl where
    by : (b : Bool) → is_hostgroup m.hostgroup n.hostgroup ≡ b → b ≡ false
    by false apart = refl
    by true here =
        let client : n.client ≡ m.client = client_of n.client m.client same in
        let hostgroup : m.hostgroup ≡ n.hostgroup = hostgroup_of m.hostgroup n.hostgroup here in
        let at_l = present_so t l n at in
        let its = is.homes.home l at_l.server n at_l.there at_l.carries at_l.mine at_l.whole in
        let theirs = is.homes.home other server m there carries mine whole in
        let row : its.0 ≡ theirs.0 = same_Some its.0 theirs.0 (sym its.1 ∙ ap t.clients client ∙ theirs.1) in
        let home : Some l ≡ Some other =
        sym its.2 ∙ (λ i. (session_of (row i).desk (sym hostgroup i)).home) ∙ theirs.2 in
        absurd (true≢false (sym (same_link l) ∙ ap (λ (k : LinkId). nat_eq l.0 k.0) (same_Some l other home) ∙ aside))

  other_by : (other : LinkId) (server : Server) → nat_eq l.0 other.0 ≡ false → t.links other ≡ Some server → (named : Option SessionName)
      → name_in server.row.link.state.carries ≡ named → is_done_for gone_on server named ≡ is_done_for t server named
  other_by other server apart there None carries = refl
  other_by other server apart there (Some m) carries =
      with_alike server.row.lost server.row.left server.row.link (at_desk m (gone_on.clients m.client)) (at_desk m (t.clients m.client))
      (is_given_up m (gone_on.clients m.client))
      (λ whole mine. both_alike m p (given m.client) (t.clients m.client) (apart_there other server m apart there carries whole mine))
      ∙ given_alike server.row.lost server.row.left server.row.link (at_desk m (t.clients m.client)) (is_given_up m (gone_on.clients m.client))
      (is_given_up m (t.clients m.client))
      (λ whole mine n lent.
      let same : n ≡ m = same_Some n m (sym (ap name_in lent) ∙ carries) in
      both_given m p (given m.client) (t.clients m.client) (apart_there other server m apart there carries whole mine)
      (not_waiting service g t is given other (aside other apart) server there m
      (subst (λ (k : SessionName). server.row.link.state.carries ≡ Lent k) same lent) whole mine))

  other_done : (other : LinkId) → nat_eq l.0 other.0 ≡ false → (found : Option Server) → t.links other ≡ found → done_of gone_on found ≡ done_of t found
  other_done other aside None there = refl
  other_done other aside (Some server) there = other_by other server aside there (name_in server.row.link.state.carries) refl

  undone_by : (x : LinkId) (b : Bool) → nat_eq l.0 x.0 ≡ b → is_done_in x t ≡ false
      → done_of gone_on (if b then option_map lost_row (t.links l) else t.links x) ≡ false
  undone_by x true here undone = lost_undone gone_on (t.links l)
  undone_by x false aside undone = other_done x aside (t.links x) refl ∙ undone

  pub gone_undone : (x : LinkId) → is_done_in x t ≡ false → is_done_in x gone_on ≡ false
  gone_undone x undone = undone_by x (nat_eq l.0 x.0) refl undone

  -- and so it is where its row is taken out

  unlinked_by : (x : LinkId) (b : Bool) → is_done_in x gone_on ≡ false → done_of gone_on (if b then None else gone_on.links x) ≡ false
  unlinked_by x true undone = refl
  unlinked_by x false undone = undone

  pub forgotten_undone : (x : LinkId) → is_done_in x t ≡ false → is_done_in x (unlinked l gone_on) ≡ false
  forgotten_undone x undone = unlinked_by x (nat_eq l.0 x.0) (gone_undone x undone)
