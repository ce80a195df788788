-- A link to a server is lost, and one client goes on.
use Rattle.std.specs.Prelude.{◌≡◌, ◌⊎◌, ◌≤◌, ◌<◌, ◌+◌, ℕ, suc, Bool, true, false, ◌&&◌, ◌||◌, not, All, filter, is_some, nat_eq, nat_le, if◌then◌else◌, slice_index_or, List, [], ◌∷◌, Option, Some, None}
use Rattle.std.specs.Option.{option_map, option_map_or}
use Rattle.std.proofs.Common.{refl, sym, ap, ◌∙◌, subst, arith, inl, inr}
use Rattle.std.proofs.lemmas.Bool.{false≢true, true≢false}
use Rattle.std.proofs.lemmas.List.Elements.{All-weaker}
use Rattle.std.proofs.lemmas.Option.{none-some, same_Some}
use Rattle.mx_wire.specs.declared.entry.Entry.{Entry}
use Rattle.mx_wire.specs.Log.{Log}
use Rattle.client_session.specs.Setups.{Setup as Service}
use Rattle.client_session.specs.Answers.{opening_of}
use Rattle.private_model.proofs.Maps.{client_of, same_number}
use Rattle.private_model.specs.Names.{ClientNo, LinkId, SessionName}
use Rattle.private_model.specs.Story.{is_client, is_link_id}
use Rattle.private_model.specs.View.{session_in}
use Rattle.log_story.specs.Clients.{is_event_of}
use Rattle.log_story.specs.Owed.{name_of, talk_of}
use Rattle.log_story.specs.Plan.{LastWord, Plan, gives_up, is_before, is_by_now, word_at}
use Rattle.log_story.specs.Servers.{links_are_freed}
use Rattle.log_story.specs.Tale as tales
use Rattle.log_story.specs.Tale.{Tale, is_to_server, link_in}
use Rattle.client_seat.specs.Seats.{is_ended}
use Rattle.client_desk.specs.declared.work.Work.{Work}
use Rattle.step_laws.proofs.Leaving.{none_ended, one_ended}
use Rattle.step_laws.specs.Freed.{Ascend}
use Rattle.step_laws.specs.Seats.{IsSeated, is_its}
use Rattle.step_laws.specs.Steps.{IsOfOne, ended_now, ends_now, told_then}
use Rattle.step_laws.specs.Taken.{GivesUpNone, IsPassed, is_called}
use Rattle.core_tables.specs.Parting.{name_in}
use Rattle.core_tables.specs.Tables.{Tabled}
use Rattle.core_tables.specs.declared.client.Client.{Client}
use Rattle.core_stands.specs.Clients.{IsClientOr, IsPhase}
use Rattle.core_stands.specs.Grounds.{Ground, on, view_on}
use Rattle.core_stands.specs.Stands.{IsAt, IsKnown, Rests, Stands}
use Rattle.core_laws.proofs.OfEntry.Lists.{seated_of}
use Rattle.core_laws.specs.entry.Tells.{IsWhoItSays}
use Rattle.core_laws.proofs.OfClients.Facts.{its_row}
use Rattle.core_laws.specs.clients.Chosen.{PlanHas}
use Rattle.core_laws.specs.clients.Following.{IsFollowing, IsPartedIn, StandTold, ended_by}
use Rattle.core_laws.specs.clients.Follows.{FollowsSo, Leaves, Parting, Stays, Tells, ends_by, quits_by}
use Rattle.core_laws.specs.clients.Going.{GivenUp, Going, IsCalled, is_going, told_to}
use Rattle.core_laws.specs.clients.Turns.{Choice, Ends, Halt, Quits, Rests as Resting, Waits}
use Rattle.router_laws.specs.decisions.Deeds as deeds
use Rattle.router_laws.specs.decisions.Deeds.{Deeds, Word, for_one, known_with}
use Rattle.router_laws.specs.decisions.Goings.{deeds_of, end_of}
use Rattle.router_laws.specs.decisions.Plans.{HasDeeds}
use Rattle.router_laws.proofs.OfReading.Somebody.{before_by, for_other, for_same, le_of, let_in, lt_of}
use Rattle.router_laws.specs.reading.Hearing.{IsTelling, TellsFor, last_word}
use Rattle.router_laws.proofs.OfLinks.Breaking as breaking
use Rattle.router_laws.proofs.OfLinks.Breaking.{lost_event, lost_tells}
use Rattle.router_laws.proofs.OfLinks.Giving.{given_aside, may_each}
use Rattle.router_laws.proofs.OfLinks.Losses as losses
use Rattle.router_laws.proofs.OfLinks.Losses.{IsLoss, Laws}
use Rattle.router_laws.specs.links.Loses.{Break, IsGivenUpWith, LosesSo, entry_by}

-- Small facts.

phase_open : (h : Ground) (client : tales.Client) (row : Client) (b : Bool) → not b ≡ true → IsPhase b h client row → h.over client.number ≡ false
phase_open h client row false is phase = phase.going
phase_open h client row true is phase = absurd (false≢true is)

row_open : (h : Ground) (client : tales.Client) (found : Option Client) → is_going found ≡ true → IsClientOr h client found → h.over client.number ≡ false
row_open h client None is row = absurd (false≢true is)
row_open h client (Some row) is at = phase_open h client row (is_ended row.desk.seat.phase) is at.phase

phase_works : (h : Ground) (client : tales.Client) (row : Client) (work : Work) (b : Bool) → IsPhase b h client row → row.desk.work ≡ Some work
    → h.over client.number ≡ false
phase_works h client row work false phase works = phase.going
phase_works h client row work true phase works = absurd (none-some work (sym phase.idle ∙ works))

calls : (a b over : Bool) → (a || b) ≡ true → over ≡ false → ((a || b) && not over) ≡ true
calls a b over any going = λ i. any i && not (going i)

or_first : (a b : Bool) → a ≡ true → (a || b) ≡ true
or_first a b is = ap (λ (x : Bool). x || b) is

or_second : (a b : Bool) → b ≡ true → (a || b) ≡ true
or_second true b is = refl
or_second false b is = is

some_ends : (halt : Halt) (parting : Parting) → is_some (deeds.ends_by halt (end_of parting)) ≡ ends_by halt parting
some_ends Waits Stays = refl
some_ends Waits Leaves = refl
some_ends Waits (Tells payload) = refl
some_ends Resting Stays = refl
some_ends Resting Leaves = refl
some_ends Resting (Tells payload) = refl
some_ends Quits parting = refl
some_ends Ends parting = refl

leaves_silent : (halt : Halt) (now : ℕ) → deeds.said_at now (deeds.ends_by halt (Some None)) ≡ None
leaves_silent Waits now = refl
leaves_silent Resting now = refl
leaves_silent Quits now = refl
leaves_silent Ends now = refl

tells_by : (halt : Halt) (now : ℕ) (payload : List ℕ) → quits_by halt ≡ false
    → deeds.said_at now (deeds.ends_by halt (end_of (Tells payload))) ≡ Some (last_word now payload)
tells_by Waits now payload goes = refl
tells_by Resting now payload goes = refl
tells_by Quits now payload goes = absurd (true≢false goes)
tells_by Ends now payload goes = absurd (true≢false goes)

flip_client : (a b : ClientNo) → is_client a b ≡ false → is_client b a ≡ false
flip_client a b apart = grind arith

module _ (laws : Laws) (service : Service) (default : List ℕ) (g : Ground) (log : Log) (t now : Tabled) (roomy : ClientNo → Bool) (l : LinkId)
    (how : Break) (given : Option GivenUp) (it : Going) (rests : Rests service g t roomy)
    (is : IsLoss service default g log (entry_by how l) given (Some it)) (so : LosesSo service default l given (Some it) t now) where
  abbrev e : Entry
  e = entry_by how l

  abbrev decided : Deeds
  decided = deeds_of given (Some it)

  abbrev moment : ℕ
  moment = suc g.tale.moment

  abbrev later : Tale
  later = losses.later laws service default g log t now roomy l how given (Some it) rests is so

  stands : Stands service (on g later) so.lost
  stands = losses.lost_stands laws service default g log t now roomy l how given (Some it) rests is so

  told_as : later ≡ told_then g.setup g.plan g.tale e
  told_as = breaking.told_as service g t roomy l how (told_to given) rests so.server so.there

  -- it is a client of the tale

  pub found : (client : tales.Client) × IsKnown (on g later) it.client client
  found = stands.clients.known it.client so.goes.homes.row so.goes.homes.there

  abbrev x : tales.Client
  x = found.0

  pub number : x.number ≡ it.client
  number = found.1.number

  pub seated : IsSeated g.tale x
  seated = found.1.seated

  has : HasDeeds g decided x
  has = seated_of (HasDeeds g decided) g.tale x seated is.plans.each

  its : is_client it.client x.number ≡ true
  its = ap (λ (c : ClientNo). is_client it.client c) number ∙ same_number it.client.0

  its_test : (c : ClientNo) → c ≡ it.client → is_its x c ≡ true
  its_test c same = (λ i. is_client (same i) (number i)) ∙ same_number it.client.0

  -- Who it is: it goes on, and is called.

  pub record Who : Type 0 where
    pub own : (up : GivenUp) → given ≡ Some up → up.client ≡ it.client
    pub carried : (n : SessionName) → name_in so.server.row.link.state.carries ≡ Some n → n.client ≡ it.client
    pub going : g.over x.number ≡ false
    pub cause : (is_event_of (view_on g) x e || gives_up g.plan moment (name_of x x.taken)) ≡ true

  going_by : (n : SessionName) (b : Bool) → is_going (t.clients n.client) ≡ b → Some it.client ≡ (if b then Some n.client else None)
      → (it.client ≡ n.client) × (is_going (t.clients n.client) ≡ true)
  going_by n true is called = (same_Some it.client n.client called, is)
  going_by n false is called = absurd (none-some it.client (sym called))

  open_row : is_going (t.clients it.client) ≡ true → g.over x.number ≡ false
  open_row goes =
      row_open g x (t.clients x.number) (ap (λ (c : ClientNo). is_going (t.clients c)) number ∙ goes)
      (seated_of (IsAt g t) g.tale x seated rests.stands.clients.each).row

  who_carried : (n : SessionName) → name_in so.server.row.link.state.carries ≡ Some n → ((up : GivenUp) → given ≡ Some up → up.client ≡ n.client)
      → (it.client ≡ n.client) × (is_going (t.clients n.client) ≡ true) → Who
  who_carried n at own goes = record {
    own = λ up some. own up some ∙ sym goes.0;
    carried = λ m is. ap (λ (k : SessionName). k.client) (same_Some m n (sym is ∙ at)) ∙ sym goes.0;
    going = open_row (ap (λ (c : ClientNo). is_going (t.clients c)) goes.0 ∙ goes.1);
    cause =
        or_first (is_event_of (view_on g) x e) (gives_up g.plan moment (name_of x x.taken))
        (lost_event (view_on g) x how l
        ∙ or_second (is_link_id x.link l)
        (option_map_or (λ (m : SessionName). is_client m.client x.number) (session_in (link_in g.setup g.tale l).carries) false)
        (ap (λ (o : Option SessionName). option_map_or (λ (m : SessionName). is_client m.client x.number) o false)
        (breaking.carries service g t roomy l how (told_to given) rests so.server so.there ∙ at)
        ∙ (λ i. is_client (sym goes.0 i) x.number) ∙ its));
  }

  -- it is given up, with a link that carries nobody

  open_work : IsGivenUpWith l x.number t → g.over x.number ≡ false
  open_work may =
      phase_works g x may.row may.work (is_ended may.row.desk.seat.phase) (its_row service g t x may.row rests.stands seated may.at_work.there).phase
      may.at_work.in_work

  given_is : (p : Option GivenUp) → given ≡ p → Some it.client ≡ option_map (λ (up : GivenUp). up.client) p
      → (up : GivenUp) × (given ≡ Some up) × (up.client ≡ it.client)
  given_is None same called = absurd (none-some it.client (sym called))
  given_is (Some up) same called = (up, same, same_Some up.client it.client (sym called))

  who_given : name_in so.server.row.link.state.carries ≡ None → (up : GivenUp) → given ≡ Some up → up.client ≡ it.client → Who
  who_given none up some same =
      let some_told : is_some (told_to given x.number) ≡ true =
      ap (λ (p : Option GivenUp). is_some (told_to p x.number)) some
      ∙ ap (λ (b : Bool). is_some (if b then Some up.payload else None)) ((λ i. is_client (same i) x.number) ∙ its) in
      record {
        own = λ other is. ap (λ (u : GivenUp). u.client) (same_Some other up (sym is ∙ some)) ∙ same;
        carried = λ n is. absurd (none-some n (sym none ∙ is));
        going = open_work (may_each l given t so.may x.number some_told);
        cause = or_second (is_event_of (view_on g) x e) (gives_up g.plan moment (name_of x x.taken)) (has.gives some_told);
      }

  who_by : (at : Option SessionName) → name_in so.server.row.link.state.carries ≡ at → IsCalled at given t (Some it.client) → Who
  who_by (Some n) at called = who_carried n at called.0 (going_by n (is_going (t.clients n.client)) refl called.1)
  who_by None at called = let up = given_is given refl called in who_given at up.0 up.1 up.2

  who : Who
  who = who_by (name_in so.server.row.link.state.carries) refl so.called

  -- What the plan has of it.

  calls_are : decided.calls x.number ≡ it.choices
  calls_are = for_same it.client x.number it.choices [] its

  halts_are : decided.halts x.number ≡ it.halt
  halts_are = for_same it.client x.number it.halt Resting its

  ends_are : deeds.ends_in decided x.number ≡ deeds.ends_by it.halt (end_of it.parting)
  ends_are = λ i. deeds.ends_by (halts_are i) (for_same it.client x.number (end_of it.parting) None its i)

  chosen : PlanHas it.choices it.halt g.setup.keys g.plan moment (name_of x (suc x.taken))
  chosen =
      subst (λ (halt : Halt). PlanHas it.choices halt g.setup.keys g.plan moment (name_of x (suc x.taken))) halts_are
      (subst (λ (choices : List Choice). PlanHas choices (decided.halts x.number) g.setup.keys g.plan moment (name_of x (suc x.taken))) calls_are
      (has.chosen who.going))

  none_of : (over : Bool) → (not over && false) ≡ false
  none_of true = refl
  none_of false = refl

  other_ends : (c : ClientNo) → is_client x.number c ≡ false → (b : Bool) → nat_le c.0 (known_with log e) ≡ b → ends_now g.plan moment c ≡ false
  other_ends c other true known =
      is.plans.ends c (le_of c.0 (known_with log e) known)
      ∙ ap (λ (end : Option (Option Word)). not (g.over c) && is_some end)
      (λ i. deeds.ends_by (for_other it.client c it.halt Resting (ap (λ (n : ClientNo). is_client n c) (sym number) ∙ other) i)
      (for_other it.client c (end_of it.parting) None (ap (λ (n : ClientNo). is_client n c) (sym number) ∙ other) i))
      ∙ none_of (g.over c)
  other_ends c other false unknown = is.plans.strangers c (lt_of c.0 (known_with log e) unknown)

  its_end : ends_now g.plan moment x.number ≡ ends_by it.halt it.parting
  its_end =
      has.ends ∙ ap (λ (b : Bool). not b && is_some (deeds.ends_in decided x.number)) who.going
      ∙ ap (λ (end : Option (Option Word)). is_some end) ends_are ∙ some_ends it.halt it.parting

  ends_by_test : (c : ClientNo) (b : Bool) → is_client x.number c ≡ b → ends_now g.plan moment c ≡ (b && ends_by it.halt it.parting)
  ends_by_test c true same = ap (ends_now g.plan moment) (sym (client_of x.number c same)) ∙ its_end
  ends_by_test c false other = other_ends c other (nat_le c.0 (known_with log e)) refl

  pub ends : (c : ClientNo) → ends_now g.plan moment c ≡ (is_client x.number c && ends_by it.halt it.parting)
  ends c = ends_by_test c (is_client x.number c) refl

  -- who is ended

  ended_later : (b : Bool) → ends_by it.halt it.parting ≡ b → ended_now g.plan later ≡ (if b then x.number ∷ [] else [])
  ended_later true one =
      one_ended g.plan x later (record {
        seated = seated;
        ends = its_end ∙ one;
        others = λ k d within other.
            let c : ClientNo = (slice_index_or later.clients k d).number in
            ends c ∙ ap (λ (b : Bool). b && ends_by it.halt it.parting) (flip_client c x.number other);
      })
  ended_later false none =
      none_ended g.plan later (λ k d within.
      let c : ClientNo = (slice_index_or later.clients k d).number in
      ends c ∙ false_by (is_client x.number c) none) where
        false_by : (a : Bool) {b : Bool} → b ≡ false → (a && b) ≡ false
        false_by true is = is
        false_by false is = refl

  -- the entry is of it

  carried_its : (n : SessionName) → name_in so.server.row.link.state.carries ≡ Some n → is_its x n.client ≡ true
  carried_its n at = its_test n.client (who.carried n at)

  given_its : (up : GivenUp) → given ≡ Some up → is_its x up.client ≡ true
  given_its up some = its_test up.client (who.own up some)

  keeps : All (λ (c : tales.Client). is_its x c.number ≡ false → GivesUpNone g.plan moment c) g.tale.clients
  keeps = losses.keeps laws service default g log t now roomy l how given (Some it) rests is so (is_its x) given_its

  abbrev Uncalled : tales.Client → Type 0
  Uncalled c = is_its x c.number ≡ false → is_called g.plan later.moment (view_on g) e c ≡ false

  others : All Uncalled g.tale.clients
  others = breaking.uncalled service g t roomy l how (told_to given) rests so.server so.there (is_its x) carried_its keeps

  abbrev Passes : tales.Client → Type 0
  Passes c = is_its x c.number ≡ false → IsPassed g.setup g.plan (view_on g) e later c

  of_one : IsOfOne g.setup g.plan g.tale e x (ended_by it.halt it.parting x.number) later
  of_one = record {
    first = breaking.first service g t roomy l how (told_to given) rests so.server so.there (laws.tests service)
        (losses.lost_then laws service default g log t now roomy l how given (Some it) rests is so) (given_aside l given t so.may);
    seated = subst (λ (tale : Tale). IsSeated tale x) told_as seated;
    single = λ m route theirs routed. is.plans.single m route routed;
    passes = All-weaker Uncalled Passes (λ c uncalled other. inl (uncalled other)) later.clients others;
    ends = ap (ended_now g.plan) (sym told_as) ∙ ended_later (ends_by it.halt it.parting) refl;
  }

  not_before : is_before moment (g.plan.ends x.number) ≡ false
  not_before = before_by g.tale.moment (g.plan.ends x.number) ∙ sym (rests.over x.number) ∙ who.going

  words : word_at g.plan moment x.number ≡ deeds.said_at moment (deeds.ends_by it.halt (end_of it.parting))
  words = has.word who.going ∙ ap (deeds.said_at moment) ends_are

  told_by : (payload : List ℕ) → it.parting ≡ Tells payload → (b : Bool) → quits_by it.halt ≡ b → StandTold payload service g x.number moment
  told_by payload same true quits = absurd (not_stays (sym same ∙ so.goes.once quits)) where
    not_stays : Tells payload ≡ Stays → ⊥
    not_stays is = cc
  told_by payload same false goes =
      let telling : IsTelling service payload it.client = subst (λ (p : Parting). TellsFor p service it.client) same is.tells in
      subst (λ (c : ClientNo). StandTold payload service g c moment) (sym number)
      (telling g moment (ap g.over (sym number) ∙ who.going) rests.looked
      (ap (word_at g.plan moment) (sym number) ∙ words
      ∙ ap (λ (p : Parting). deeds.said_at moment (deeds.ends_by it.halt (end_of p))) same ∙ tells_by it.halt moment payload goes))

  parted_by : (parting : Parting) → it.parting ≡ parting → IsPartedIn parting service g x.number moment
  parted_by Stays same = tt
  parted_by Leaves same =
      words ∙ ap (λ (p : Parting). deeds.said_at moment (deeds.ends_by it.halt (end_of p))) same ∙ leaves_silent it.halt moment
  parted_by (Tells payload) same = told_by payload same (quits_by it.halt) refl

  pub following : IsFollowing service default g e x later it.choices it.halt it.parting
  following = record {
    of_one = of_one;
    tells = lost_tells (is_its x) g.tale how l;
    spared = breaking.spared service g t roomy l how (told_to given) rests so.server so.there (is_its x) carried_its keeps;
    called = calls (is_event_of (view_on g) x e) (gives_up g.plan moment (name_of x x.taken)) (is_before moment (g.plan.ends x.number))
        who.cause not_before;
    going = who.going;
    classes = is.classes;
    let_in = let_in default g x
        (seated_of (λ (client : tales.Client). IsWhoItSays g.setup g.plan default client (opening_of (talk_of g.plan client))) g.tale x seated is.who);
    unrouted = is.plans.nowhere x.number;
    chosen = chosen;
    parted = parted_by it.parting refl;
    ends = ends;
    rising = is.rising;
  }

  pub follows : FollowsSo service default x.number it.choices it.halt it.parting it.links so.lost now
  follows = subst (λ (c : ClientNo). FollowsSo service default c it.choices it.halt it.parting it.links so.lost now) (sym number) so.goes
