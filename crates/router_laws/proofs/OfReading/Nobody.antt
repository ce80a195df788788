-- Bytes are read on a link to a server, and nobody goes on.
use Rattle.std.specs.Prelude.{◌≡◌, ◌⊎◌, ◌≤◌, ◌<◌, ◌+◌, ℕ, suc, Bool, true, false, ◌&&◌, ◌||◌, not, All, filter, is_some, nat_le, if◌then◌else◌, slice_index_or, List, [], ◌∷◌, Option, Some, None}
use Rattle.std.specs.Option.{option_map, option_map_or}
use Rattle.std.proofs.Common.{refl, sym, ap, ◌∙◌, subst, inl, inr}
use Rattle.std.proofs.lemmas.Bool.{false≢true, true≢false}
use Rattle.std.proofs.lemmas.List.Elements.{All-nil, All-weaker}
use Rattle.std.proofs.lemmas.Option.{none-some, same_Some}
use Rattle.mx_wire.specs.declared.entry.Entry.{Entry}
use Rattle.mx_wire.specs.declared.entry.Entry.TheVariants as entry
use Rattle.mx_wire.specs.Log.{Log}
use Rattle.client_session.specs.Setups.{Setup as Service}
use Rattle.private_model.proofs.Maps.{client_of, same_number}
use Rattle.private_model.specs.Names.{ClientNo, LinkId, SessionName}
use Rattle.private_model.specs.Story.{is_client, is_link_id}
use Rattle.private_model.specs.View.{session_in}
use Rattle.log_story.specs.Clients.{is_event_of}
use Rattle.log_story.specs.Owed.{name_of}
use Rattle.log_story.specs.Servers.{links_are_freed}
use Rattle.log_story.specs.Plan.{gives_up, is_before}
use Rattle.log_story.specs.Tale as tales
use Rattle.log_story.specs.Tale.{Tale, is_to_server, link_in}
use Rattle.log_story.specs.Telling.{tale_step}
use Rattle.client_seat.specs.Seats.{is_ended}
use Rattle.step_laws.proofs.Giving.{one_in}
use Rattle.step_laws.proofs.Leaving.{none_ended}
use Rattle.step_laws.proofs.Stepping.{step_rests}
use Rattle.step_laws.specs.Seats.{IsSeated}
use Rattle.step_laws.specs.Steps.{IsOfNone, ends_now}
use Rattle.step_laws.specs.Taken.{GivesUpNone, IsPassed, is_called}
use Rattle.core_tables.specs.Parting.{name_in}
use Rattle.core_tables.specs.Tables.{Tabled}
use Rattle.core_tables.specs.declared.client.Client.{Client}
use Rattle.core_stands.specs.Clients.{IsClientOr, IsPhase}
use Rattle.core_stands.specs.Grounds.{Ground, on, view_on}
use Rattle.core_stands.specs.Stands.{IsAt, Rests, Stands}
use Rattle.core_laws.specs.parting.Frames.{AreHomed}
use Rattle.core_laws.proofs.OfEntry.Calming.{none_idle}
use Rattle.core_laws.proofs.OfEntry.Lists.{seated_of}
use Rattle.core_laws.proofs.OfEntry.Resting.{entry_rests, none_seats}
use Rattle.core_laws.specs.entry.Entries.{AreCalmToo, IsSpared, behind}
use Rattle.core_laws.specs.clients.Going.{GivenUp, Going, IsCalled, is_going, told_to}
use Rattle.router_laws.specs.decisions.Deeds.{Deeds, known_with}
use Rattle.router_laws.specs.decisions.Goings.{deeds_of}
use Rattle.router_laws.proofs.OfReading.Hearing as hearing
use Rattle.router_laws.proofs.OfReading.Hearing.{Laws}
use Rattle.router_laws.proofs.OfReading.Somebody.{le_of, lt_of, before_by}
use Rattle.router_laws.proofs.OfReading.Untouched as reads
use Rattle.router_laws.specs.reading.Hearing.{IsHearing}
use Rattle.router_laws.specs.reading.Hears.{HearsSo}

-- one that doesn't go on ended
over_phase : (h : Ground) (client : tales.Client) (row : Client) (b : Bool) → b ≡ true → IsPhase b h client row → h.over client.number ≡ true
over_phase h client row true is phase = phase.over
over_phase h client row false is phase = absurd (false≢true is)

ended_of : (b : Bool) → not b ≡ false → b ≡ true
ended_of true is = refl
ended_of false is = absurd (true≢false is)

over_row : (h : Ground) (client : tales.Client) (found : Option Client) → is_going found ≡ false → IsClientOr h client found → h.over client.number ≡ true
over_row h client None is row = row.over
over_row h client (Some row) is at = over_phase h client row (is_ended row.desk.seat.phase) (ended_of (is_ended row.desk.seat.phase) is) at.phase

none_of : (over : Bool) → (not over && false) ≡ false
none_of true = refl
none_of false = refl

none_more : (over ends : Bool) → ends ≡ false → (over || ends) ≡ over
none_more true ends none = refl
none_more false ends none = none

abbrev pub carried_test : Option SessionName → ClientNo → Bool
carried_test at c = option_map_or (λ (n : SessionName). is_client n.client c) at false

module _ (laws : Laws) (service : Service) (default : List ℕ) (g : Ground) (log : Log) (t now : Tabled) (roomy : ClientNo → Bool) (l : LinkId)
    (bytes : List ℕ) (clock : ℕ) (given : Option GivenUp) (rests : Rests service g t roomy) (is : IsHearing service default g log l bytes given None)
    (so : HearsSo service default l bytes clock given None t now) where
  abbrev e : Entry
  e = entry.Got l bytes

  abbrev moment : ℕ
  moment = suc g.tale.moment

  abbrev heard : Tale
  heard = hearing.heard laws service default g log t now roomy l bytes clock given None rests is so

  abbrev pub freed : Tale
  freed = hearing.freed laws service default g log t now roomy l bytes clock given None rests is so

  stands : Stands service (on g freed) so.freed
  stands = hearing.freed_stands laws service default g log t now roomy l bytes clock given None rests is so

  there : is_to_server g.tale l ≡ true
  there = hearing.there laws service default g log t now roomy l bytes clock given None rests is so

  -- whose session the link carries

  abbrev at : Option SessionName
  at = name_in so.server.row.link.state.carries

  abbrev pub whose : ClientNo → Bool
  whose = carried_test at

  carried : (n : SessionName) → at ≡ Some n → whose n.client ≡ true
  carried n is = ap (λ (o : Option SessionName). carried_test o n.client) is ∙ same_number n.client.0

  theirs_by : (found : Option SessionName) → at ≡ found → IsCalled found given so.freed None → (up : GivenUp) → given ≡ Some up
      → carried_test found up.client ≡ true
  theirs_by (Some n) same called up some = ap (is_client n.client) (called.0 up some) ∙ same_number n.client.0
  theirs_by None same called up some =
      absurd (none-some up.client (called ∙ ap (λ (p : Option GivenUp). option_map (λ (u : GivenUp). u.client) p) some))

  theirs : (up : GivenUp) → given ≡ Some up → whose up.client ≡ true
  theirs = theirs_by at refl so.called

  -- it ended, where it is a client of the tale

  stopped_by : (found : Option SessionName) → IsCalled found given so.freed None → (c : ClientNo) → carried_test found c ≡ true
      → is_going (so.freed.clients c) ≡ false
  stopped_by None called c its = absurd (false≢true its)
  stopped_by (Some n) called c its = by (is_going (so.freed.clients n.client)) refl called.1 where
    by : (b : Bool) → is_going (so.freed.clients n.client) ≡ b → None ≡ (if b then Some n.client else None) → is_going (so.freed.clients c) ≡ false
    by false is none = ap (λ (k : ClientNo). is_going (so.freed.clients k)) (sym (client_of n.client c its)) ∙ is
    by true is none = absurd (none-some n.client none)

  over_at : (client : tales.Client) → IsAt (on g freed) so.freed client → whose client.number ≡ true → g.over client.number ≡ true
  over_at client at its =
      over_row (on g freed) client (so.freed.clients client.number) (stopped_by (name_in so.server.row.link.state.carries) so.called client.number its) at.row

  same_seats : freed.clients ≡ g.tale.clients
  same_seats = hearing.freed_clients laws service default g log t now roomy l bytes clock given None rests is so

  all_over : All (λ (client : tales.Client). whose client.number ≡ true → g.over client.number ≡ true) freed.clients
  all_over =
      All-weaker (IsAt (on g freed) so.freed) (λ (client : tales.Client). whose client.number ≡ true → g.over client.number ≡ true) over_at freed.clients
      stands.clients.each

  -- nobody is ended

  ends_by : (c : ClientNo) (b : Bool) → nat_le c.0 (known_with log e) ≡ b → ends_now g.plan moment c ≡ false
  ends_by c true known = is.plans.ends c (le_of c.0 (known_with log e) known) ∙ none_of (g.over c)
  ends_by c false unknown = is.plans.strangers c (lt_of c.0 (known_with log e) unknown)

  pub endless : (c : ClientNo) → ends_now g.plan moment c ≡ false
  endless c = ends_by c (nat_le c.0 (known_with log e)) refl

  heard_at : heard.moment ≡ moment
  heard_at = hearing.heard_moment laws service default g log t now roomy l bytes clock given None rests is so

  -- nobody takes anything up

  keeps : All (λ (c : tales.Client). whose c.number ≡ false → GivesUpNone g.plan moment c) g.tale.clients
  keeps = hearing.keeps laws service default g log t now roomy l bytes clock given None rests is so whose carried theirs

  homes : AreHomed (view_on g).links (view_on g).held
  homes = hearing.homes laws service default g log t now roomy l bytes clock given None rests is so

  carried_by : (n : SessionName) → session_in (link_in g.setup g.tale l).carries ≡ Some n → whose n.client ≡ true
  carried_by = hearing.carried_by laws service default g log t now roomy l bytes clock given None rests is so whose carried theirs

  first : links_are_freed g.setup g.plan heard ≡ freed
  first =
      one_in g.setup g.plan l heard.links heard
      (hearing.heard_there laws service default g log t now roomy l bytes clock given None rests is so)
      (hearing.alone laws service default g log t now roomy l bytes clock given None rests is so whose carried theirs)

  over_uncalled : (c : tales.Client) → g.over c.number ≡ true → is_called g.plan moment (view_on g) e c ≡ false
  over_uncalled c over =
      let before : is_before moment (g.plan.ends c.number) ≡ true =
      before_by g.tale.moment (g.plan.ends c.number) ∙ sym (rests.over c.number) ∙ over in
      ap (λ (b : Bool). (is_event_of (view_on g) c e || gives_up g.plan moment (name_of c c.taken)) && not b) before
      ∙ and_none (is_event_of (view_on g) c e || gives_up g.plan moment (name_of c c.taken))
    where
      and_none : (b : Bool) → (b && false) ≡ false
      and_none true = refl
      and_none false = refl

  abbrev Uncalled : tales.Client → Type 0
  Uncalled c = whose c.number ≡ false → is_called g.plan heard.moment (view_on g) e c ≡ false

  uncalled : All Uncalled heard.clients
  uncalled = reads.others_uncalled service g t roomy rests l bytes whose there carried_by homes keeps

  freed_at : freed.moment ≡ moment
  freed_at = hearing.freed_moment laws service default g log t now roomy l bytes clock given None rests is so

  passes_by : (c : tales.Client) → (whose c.number ≡ true → g.over c.number ≡ true) → Uncalled c → (b : Bool) → whose c.number ≡ b
      → is_called g.plan freed.moment (view_on g) e c ≡ false
  passes_by c over others true its = ap (λ (m : ℕ). is_called g.plan m (view_on g) e c) freed_at ∙ over_uncalled c (over its)
  passes_by c over others false other =
      ap (λ (m : ℕ). is_called g.plan m (view_on g) e c) (freed_at ∙ sym heard_at) ∙ others other

  uncalled_freed : All Uncalled freed.clients
  uncalled_freed =
      subst (All Uncalled) (hearing.heard_clients laws service default g log t now roomy l bytes clock given None rests is so ∙ sym same_seats) uncalled

  of_none : IsOfNone g.setup g.plan g.tale e [] freed
  of_none = record {
    first = first;
    passes = λ k d within other.
        let c : tales.Client = slice_index_or freed.clients k d in
        inl (passes_by c (all_over k d within) (uncalled_freed k d within) (whose c.number) refl);
    ends = none_ended g.plan heard (λ k d within.
        let c : ClientNo = (slice_index_or heard.clients k d).number in ap (λ (m : ℕ). ends_now g.plan m c) heard_at ∙ endless c);
  }

  pub step_is : tale_step g.setup g.plan g.tale e ≡ freed
  step_is = step_rests g.setup g.plan g.tale e freed of_none

  module _ (over room : ClientNo → Bool) (overs : (c : ClientNo) → over c ≡ (g.over c || ends_now g.plan moment c))
      (rooms : (c : ClientNo) → room c ≡ false → roomy c ≡ false) where
    over_same : over ≡ g.over
    over_same = λ i c. (overs c ∙ none_more (g.over c) (ends_now g.plan moment c) (endless c)) i

    stands_behind : Stands service (behind g e over) now
    stands_behind =
        subst (λ (by : ClientNo → Bool). Stands service (record g { tale = tale_step g.setup g.plan g.tale e; over = by }) now) (sym over_same)
        (subst (λ (x : Tale). Stands service (on g x) now) (sym step_is) (laws.same service (on g freed) so.freed now stands so.goes))

    calm : AreCalmToo whose (behind g e over) room
    calm client seated its going full =
        let seated_freed : IsSeated freed client = subst (λ (x : Tale). IsSeated x client) step_is seated in
        let ended : g.over client.number ≡ true =
        seated_of (λ (c : tales.Client). whose c.number ≡ true → g.over c.number ≡ true) freed client seated_freed all_over its in
        absurd (true≢false (sym ended ∙ sym (ap (λ (by : ClientNo → Bool). by client.number) over_same) ∙ going))

    pub nobody_rests : Rests service (behind g e over) now room
    nobody_rests =
        entry_rests service g t now roomy room e over whose rests stands_behind overs
        (none_seats g.setup g.plan whose g.tale e [] freed of_none
        (reads.others_untold service g t roomy rests l bytes whose there carried_by homes))
        (λ other seated aside idle. none_idle g.setup g.plan other g.tale e [] freed whose of_none (All-nil (λ (c : ClientNo). whose c ≡ true)) aside
        (let spared : IsSpared g e other =
        seated_of (λ (c : tales.Client). whose c.number ≡ false → IsSpared g e c) g.tale other seated
        (reads.others_spared service g t roomy rests l bytes whose there carried_by homes keeps) aside in
        record { aside = spared.aside; keeps = spared.keeps; idle = idle }))
        (λ c other full. rooms c full) calm
