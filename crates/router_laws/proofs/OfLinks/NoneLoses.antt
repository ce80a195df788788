-- A link to a server is lost, and nobody goes on.
use Rattle.std.specs.Prelude.{◌≡◌, ◌≤◌, ◌<◌, ◌+◌, ℕ, suc, Bool, true, false, ◌&&◌, ◌||◌, not, All, is_some, nat_le, if◌then◌else◌, slice_index_or, List, [], ◌∷◌, Option, Some, None}
use Rattle.std.specs.Option.{option_map, option_map_or}
use Rattle.std.proofs.Common.{refl, sym, ap, ◌∙◌, subst}
use Rattle.std.proofs.lemmas.Bool.{false≢true, true≢false}
use Rattle.std.proofs.lemmas.List.Elements.{All-weaker}
use Rattle.std.proofs.lemmas.Option.{none-some, same_Some}
use Rattle.mx_wire.specs.declared.entry.Entry.{Entry}
use Rattle.mx_wire.specs.Log.{Log}
use Rattle.client_session.specs.Setups.{Setup as Service}
use Rattle.private_model.proofs.Maps.{client_of, same_number}
use Rattle.private_model.specs.Names.{ClientNo, LinkId, SessionName}
use Rattle.private_model.specs.Story.{is_client}
use Rattle.log_story.specs.Clients.{is_event_of}
use Rattle.log_story.specs.Owed.{name_of}
use Rattle.log_story.specs.Plan.{gives_up, is_before}
use Rattle.log_story.specs.Servers.{links_are_freed}
use Rattle.log_story.specs.Tale as tales
use Rattle.log_story.specs.Tale.{Tale}
use Rattle.log_story.specs.Telling.{tale_step}
use Rattle.client_seat.specs.Seats.{is_ended}
use Rattle.step_laws.specs.Freed.{NoneDone}
use Rattle.step_laws.specs.Seats.{IsSeated}
use Rattle.step_laws.specs.Steps.{ends_now, told_then}
use Rattle.step_laws.specs.Taken.{GivesUpNone, is_called}
use Rattle.core_tables.specs.Parting.{name_in}
use Rattle.core_tables.specs.Tables.{Tabled}
use Rattle.core_tables.specs.declared.client.Client.{Client}
use Rattle.core_stands.specs.Clients.{IsClientOr, IsPhase}
use Rattle.core_stands.specs.Grounds.{Ground, on, view_on}
use Rattle.core_stands.specs.Stands.{IsAt, Rests, Stands}
use Rattle.core_laws.proofs.OfEntry.Composing.{rest_of_nobody, told_alone}
use Rattle.core_laws.proofs.OfEntry.Lists.{seated_of}
use Rattle.core_laws.specs.entry.Entries.{AreCalmToo, IsOfNobody, behind}
use Rattle.core_laws.specs.clients.Going.{GivenUp, Going, IsCalled, is_going, told_to}
use Rattle.router_laws.specs.decisions.Deeds.{known_with}
use Rattle.router_laws.proofs.OfReading.Nobody.{carried_test}
use Rattle.router_laws.proofs.OfReading.Somebody.{before_by, le_of, lt_of}
use Rattle.router_laws.proofs.OfLinks.Breaking as breaking
use Rattle.router_laws.proofs.OfLinks.Giving.{given_aside}
use Rattle.router_laws.proofs.OfLinks.Breaking.{lost_tells}
use Rattle.router_laws.proofs.OfLinks.Losses as losses
use Rattle.router_laws.proofs.OfLinks.Losses.{IsLoss, Laws}
use Rattle.router_laws.specs.links.Loses.{Break, LosesSo, entry_by}

-- one that doesn't go on ended
over_phase : (h : Ground) (client : tales.Client) (row : Client) (b : Bool) → not b ≡ false → IsPhase b h client row → h.over client.number ≡ true
over_phase h client row true is phase = phase.over
over_phase h client row false is phase = absurd (true≢false is)

over_row : (h : Ground) (client : tales.Client) (found : Option Client) → is_going found ≡ false → IsClientOr h client found → h.over client.number ≡ true
over_row h client None is row = row.over
over_row h client (Some row) is at = over_phase h client row (is_ended row.desk.seat.phase) is at.phase

none_of : (over : Bool) → (not over && false) ≡ false
none_of true = refl
none_of false = refl

none_more : (over ends : Bool) → ends ≡ false → (over || ends) ≡ over
none_more true ends none = refl
none_more false ends none = none

module _ (laws : Laws) (service : Service) (default : List ℕ) (g : Ground) (log : Log) (t now : Tabled) (roomy : ClientNo → Bool) (l : LinkId)
    (how : Break) (given : Option GivenUp) (rests : Rests service g t roomy)
    (is : IsLoss service default g log (entry_by how l) given None) (so : LosesSo service default l given None t now) where
  abbrev e : Entry
  e = entry_by how l

  abbrev moment : ℕ
  moment = suc g.tale.moment

  abbrev later : Tale
  later = losses.later laws service default g log t now roomy l how given None rests is so

  told_as : later ≡ told_then g.setup g.plan g.tale e
  told_as = breaking.told_as service g t roomy l how (told_to given) rests so.server so.there

  stands_now : Stands service (on g later) now
  stands_now =
      laws.same service (on g later) so.lost now (losses.lost_stands laws service default g log t now roomy l how given None rests is so) so.goes

  -- whose session the link carries

  abbrev at : Option SessionName
  at = name_in so.server.row.link.state.carries

  abbrev whose : ClientNo → Bool
  whose = carried_test at

  carried : (n : SessionName) → at ≡ Some n → whose n.client ≡ true
  carried n is = ap (λ (o : Option SessionName). carried_test o n.client) is ∙ same_number n.client.0

  theirs_by : (found : Option SessionName) → at ≡ found → IsCalled found given t None → (up : GivenUp) → given ≡ Some up
      → carried_test found up.client ≡ true
  theirs_by (Some n) same called up some = ap (is_client n.client) (called.0 up some) ∙ same_number n.client.0
  theirs_by None same called up some =
      absurd (none-some up.client (called ∙ ap (λ (p : Option GivenUp). option_map (λ (u : GivenUp). u.client) p) some))

  theirs : (up : GivenUp) → given ≡ Some up → whose up.client ≡ true
  theirs = theirs_by at refl so.called

  -- it ended, where it is a client of the tale

  stopped_by : (found : Option SessionName) → IsCalled found given t None → (c : ClientNo) → carried_test found c ≡ true
      → is_going (t.clients c) ≡ false
  stopped_by None called c its = absurd (false≢true its)
  stopped_by (Some n) called c its = by (is_going (t.clients n.client)) refl called.1 where
    by : (b : Bool) → is_going (t.clients n.client) ≡ b → None ≡ (if b then Some n.client else None) → is_going (t.clients c) ≡ false
    by false is none = ap (λ (k : ClientNo). is_going (t.clients k)) (sym (client_of n.client c its)) ∙ is
    by true is none = absurd (none-some n.client none)

  over_at : (client : tales.Client) → IsAt g t client → whose client.number ≡ true → g.over client.number ≡ true
  over_at client at its =
      over_row g client (t.clients client.number) (stopped_by (name_in so.server.row.link.state.carries) so.called client.number its) at.row

  all_over : All (λ (client : tales.Client). whose client.number ≡ true → g.over client.number ≡ true) g.tale.clients
  all_over =
      All-weaker (IsAt g t) (λ (client : tales.Client). whose client.number ≡ true → g.over client.number ≡ true) over_at g.tale.clients
      rests.stands.clients.each

  -- nobody is ended

  ends_by : (c : ClientNo) (b : Bool) → nat_le c.0 (known_with log e) ≡ b → ends_now g.plan moment c ≡ false
  ends_by c true known = is.plans.ends c (le_of c.0 (known_with log e) known) ∙ none_of (g.over c)
  ends_by c false unknown = is.plans.strangers c (lt_of c.0 (known_with log e) unknown)

  pub endless : (c : ClientNo) → ends_now g.plan moment c ≡ false
  endless c = ends_by c (nat_le c.0 (known_with log e)) refl

  -- nobody takes anything up

  keeps : All (λ (c : tales.Client). whose c.number ≡ false → GivesUpNone g.plan moment c) g.tale.clients
  keeps = losses.keeps laws service default g log t now roomy l how given None rests is so whose theirs

  over_uncalled : (c : tales.Client) → g.over c.number ≡ true → is_called g.plan moment (view_on g) e c ≡ false
  over_uncalled c over =
      let before : is_before moment (g.plan.ends c.number) ≡ true =
      before_by g.tale.moment (g.plan.ends c.number) ∙ sym (rests.over c.number) ∙ over in
      ap (λ (b : Bool). (is_event_of (view_on g) c e || gives_up g.plan moment (name_of c c.taken)) && not b) before
      ∙ and_none (is_event_of (view_on g) c e || gives_up g.plan moment (name_of c c.taken))
    where
      and_none : (b : Bool) → (b && false) ≡ false
      and_none true = refl
      and_none false = refl

  abbrev Uncalled : tales.Client → Type 0
  Uncalled c = whose c.number ≡ false → is_called g.plan later.moment (view_on g) e c ≡ false

  others : All Uncalled g.tale.clients
  others = breaking.uncalled service g t roomy l how (told_to given) rests so.server so.there whose carried keeps

  none_called : (c : tales.Client) → (whose c.number ≡ true → g.over c.number ≡ true) → Uncalled c → (b : Bool) → whose c.number ≡ b
      → is_called g.plan later.moment (view_on g) e c ≡ false
  none_called c over aside true its = over_uncalled c (over its)
  none_called c over aside false other = aside other

  uncalled : All (λ (c : tales.Client). is_called g.plan later.moment (view_on g) e c ≡ false) later.clients
  uncalled k d within =
      let c : tales.Client = slice_index_or g.tale.clients k d in
      none_called c (all_over k d within) (others k d within) (whose c.number) refl

  undone : NoneDone g.setup g.plan later
  undone =
      breaking.undone service g t roomy l how (told_to given) rests so.server so.there (laws.tests service)
      (losses.lost_then laws service default g log t now roomy l how given None rests is so) (given_aside l given t so.may)

  of_nobody : IsOfNobody g e
  of_nobody = record {
    unfreed = subst (NoneDone g.setup g.plan) told_as undone;
    uncalled = subst (λ (tale : Tale). All (λ (c : tales.Client). is_called g.plan tale.moment (view_on g) e c ≡ false) tale.clients) told_as uncalled;
    endless = endless;
  }

  pub step_is : tale_step g.setup g.plan g.tale e ≡ later
  step_is = told_alone service g t now roomy roomy e rests of_nobody ∙ sym told_as

  module _ (over room : ClientNo → Bool) (overs : (c : ClientNo) → over c ≡ (g.over c || ends_now g.plan moment c))
      (rooms : (c : ClientNo) → room c ≡ false → roomy c ≡ false) where
    over_same : over ≡ g.over
    over_same = λ i c. (overs c ∙ none_more (g.over c) (ends_now g.plan moment c) (endless c)) i

    calm : AreCalmToo whose (behind g e g.over) room
    calm client seated its going full =
        let before : IsSeated g.tale client = subst (λ (tale : Tale). IsSeated tale client) step_is seated in
        let ended : g.over client.number ≡ true =
        seated_of (λ (c : tales.Client). whose c.number ≡ true → g.over c.number ≡ true) g.tale client before all_over its in
        absurd (true≢false (sym ended ∙ going))

    rests_so : Rests service (behind g e g.over) now room
    rests_so =
        rest_of_nobody service g t now roomy room e rests of_nobody whose (lost_tells whose g.tale how l)
        (breaking.spared service g t roomy l how (told_to given) rests so.server so.there whose carried keeps)
        (subst (λ (tale : Tale). Stands service (on g tale) now) told_as stands_now) (λ c other full. rooms c full) calm

    pub nobody_rests : Rests service (behind g e over) now room
    nobody_rests = subst (λ (x : ClientNo → Bool). Rests service (behind g e x) now room) (sym over_same) rests_so
