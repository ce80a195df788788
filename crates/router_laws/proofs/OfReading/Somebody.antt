-- Bytes are read on a link to a server, and one client goes on.
use Rattle.std.specs.Prelude.{◌≡◌, ◌⊎◌, ◌≤◌, ◌<◌, ◌+◌, ℕ, suc, Bool, true, false, ◌&&◌, ◌||◌, not, All, filter, is_some, nat_eq, nat_le, if◌then◌else◌, slice_index_or, List, [], ◌∷◌, Option, Some, None}
use Rattle.std.specs.Option.{option_map, option_map_or}
use Rattle.std.proofs.Common.{refl, sym, ap, ◌∙◌, subst, arith, inl, inr}
use Rattle.std.proofs.lemmas.Bool.{false≢true, true≢false}
use Rattle.std.proofs.lemmas.Bool.Decides.{nat_tests}
use Rattle.std.proofs.lemmas.List.Elements.{All-weaker}
use Rattle.std.proofs.lemmas.Option.{none-some, same_Some}
use Rattle.server_side.specs.Account.{Account as Login}
use Rattle.mx_wire.specs.declared.entry.Entry.{Entry}
use Rattle.mx_wire.specs.declared.entry.Entry.TheVariants as entry
use Rattle.mx_wire.specs.Log.{Log}
use Rattle.client_session.specs.Setups.{Setup as Service}
use Rattle.client_session.specs.Answers.{account, account_in, opening_of}
use Rattle.client_side.specs.Login.{Fails, Opening, Says, Waits as Waiting}
use Rattle.private_model.proofs.Maps.{client_of, same_number}
use Rattle.private_model.specs.Names.{ClientNo, LinkId, SessionName}
use Rattle.private_model.specs.Story.{is_client, is_link_id}
use Rattle.private_model.specs.View.{session_in}
use Rattle.log_story.specs.Clients.{is_event_of}
use Rattle.log_story.specs.Owed.{name_of, talk_of}
use Rattle.log_story.specs.Plan.{Behind, LastWord, Plan, gives_up, is_before, is_by_now, word_at}
use Rattle.log_story.specs.Tale as tales
use Rattle.log_story.specs.Tale.{Tale, is_to_server}
use Rattle.client_seat.specs.Seats.{first_place, is_ended}
use Rattle.client_desk.specs.declared.work.Work.{Work}
use Rattle.step_laws.proofs.Leaving.{none_ended, one_ended}
use Rattle.step_laws.specs.Freed.{Ascend}
use Rattle.step_laws.specs.Seats.{IsSeated, is_its}
use Rattle.step_laws.specs.Steps.{ended_now, ends_now}
use Rattle.step_laws.specs.Taken.{is_called}
use Rattle.core_tables.specs.Parting.{name_in}
use Rattle.core_tables.specs.Tables.{Tabled}
use Rattle.core_tables.specs.declared.client.Client.{Client}
use Rattle.core_stands.specs.Clients.{IsPhase}
use Rattle.core_stands.specs.Grounds.{Ground, on, view_on}
use Rattle.core_stands.specs.Stands.{IsKnown, Rests, Stands}
use Rattle.core_laws.specs.arrival.Looks.{IsLetIn}
use Rattle.core_laws.proofs.OfEntry.Linked.{link_alone}
use Rattle.core_laws.proofs.OfEntry.Lists.{seated_of}
use Rattle.core_laws.specs.entry.Kinds.{IsOnLink}
use Rattle.core_laws.specs.entry.Tells.{IsWhoItSays}
use Rattle.core_laws.proofs.OfClients.Facts.{its_row}
use Rattle.core_laws.specs.clients.Chosen.{PlanHas}
use Rattle.core_laws.specs.clients.Following.{IsFollowed, IsFollowing, IsPartedIn, StandTold, ended_by, to_look}
use Rattle.core_laws.specs.clients.Follows.{FollowsSo, Leaves, Parting, Stays, Tells, ends_by, quits_by}
use Rattle.core_laws.specs.clients.Going.{GivenUp, Going, IsCalled, is_going, told_to}
use Rattle.core_laws.specs.clients.Turns.{Choice, Ends, Halt, Quits, Rests as Resting, Waits, count_by}
use Rattle.router_laws.specs.decisions.Deeds as deeds
use Rattle.router_laws.specs.decisions.Deeds.{Deeds, Word, for_one, known_with}
use Rattle.router_laws.specs.decisions.Goings.{deeds_of, end_of}
use Rattle.router_laws.specs.decisions.Plans.{HasDeeds}
use Rattle.router_laws.proofs.OfReading.Hearing as hearing
use Rattle.router_laws.proofs.OfReading.Hearing.{Laws}
use Rattle.router_laws.proofs.OfReading.Untouched as reads
use Rattle.router_laws.specs.reading.Givings.{MayBeGivenUp}
use Rattle.router_laws.specs.reading.Hearing.{IsHearing, IsTelling, TellsFor, last_word}
use Rattle.router_laws.specs.reading.Hears.{HearsSo}

-- Who is let in is who it says.
module _ (default : List ℕ) (g : Ground) (client : tales.Client) where
  known_none : (at : Opening) → account_in (talk_of g.plan client) at ≡ None → opening_of (talk_of g.plan client) ≡ at → (login : Login)
      → account (talk_of g.plan client) ≡ Some login → ⊥
  known_none at none same login known =
      none-some login (sym (ap (account_in (talk_of g.plan client)) same ∙ none) ∙ known)

  let_in_by : (at : Opening) → opening_of (talk_of g.plan client) ≡ at → IsWhoItSays g.setup g.plan default client at → IsLetIn g default client
  let_in_by (Says switched response id rest) at is = record {
    account = λ login known. (is login known).0;
    place = λ login s r i more known says.
        let both : Says switched response id rest ≡ Says s r i more = sym at ∙ says in
        let same : response ≡ r = cc in
        (is login known).1 ∙ ap (first_place default) same;
  }
  let_in_by (Waiting switched) at is = record {
    account = λ login known. absurd (known_none (Waiting switched) refl at login known);
    place = λ login s r i more known says. absurd (known_none (Waiting switched) refl at login known);
  }
  let_in_by (Fails switched fault id) at is = record {
    account = λ login known. absurd (known_none (Fails switched fault id) refl at login known);
    place = λ login s r i more known says. absurd (known_none (Fails switched fault id) refl at login known);
  }

  pub let_in : IsWhoItSays g.setup g.plan default client (opening_of (talk_of g.plan client)) → IsLetIn g default client
  let_in is = let_in_by (opening_of (talk_of g.plan client)) refl is

-- Small facts.

phase_open : (h : Ground) (client : tales.Client) (row : Client) (b : Bool) → b ≡ false → IsPhase b h client row → h.over client.number ≡ false
phase_open h client row false is phase = phase.going
phase_open h client row true is phase = absurd (true≢false is)

phase_works : (h : Ground) (client : tales.Client) (row : Client) (work : Work) (b : Bool) → IsPhase b h client row → row.desk.work ≡ Some work
    → h.over client.number ≡ false
phase_works h client row work false phase works = phase.going
phase_works h client row work true phase works = absurd (none-some work (sym phase.idle ∙ works))

open_of : (b : Bool) → not b ≡ true → b ≡ false
open_of false is = refl
open_of true is = absurd (false≢true is)

pub before_by : (m : ℕ) (at : Option ℕ) → is_before (suc m) at ≡ is_by_now m at
before_by m None = refl
before_by m (Some n) = grind arith

calls : (a b over : Bool) → (a || b) ≡ true → over ≡ false → ((a || b) && not over) ≡ true
calls a b over any going = λ i. any i && not (going i)

or_first : (a b : Bool) → a ≡ true → (a || b) ≡ true
or_first a b is = ap (λ (x : Bool). x || b) is

or_second : (a b : Bool) → b ≡ true → (a || b) ≡ true
or_second true b is = refl
or_second false b is = is

pub le_of : (n k : ℕ) → nat_le n k ≡ true → n ≤ k
le_of n k is = grind (arith, nat_tests)

pub lt_of : (n k : ℕ) → nat_le n k ≡ false → k < n
lt_of n k is = grind (arith, nat_tests)

pub for_same : {A : Type 0} (c other : ClientNo) (value others : A) → is_client c other ≡ true → for_one c value others other ≡ value
for_same c other value others same = ap (λ (b : Bool). if b then value else others) same

pub for_other : {A : Type 0} (c other : ClientNo) (value others : A) → is_client c other ≡ false → for_one c value others other ≡ others
for_other c other value others apart = ap (λ (b : Bool). if b then value else others) apart

some_ends : (halt : Halt) (parting : Parting) → is_some (deeds.ends_by halt (end_of parting)) ≡ ends_by halt parting
some_ends Waits Stays = refl
some_ends Waits Leaves = refl
some_ends Waits (Tells payload) = refl
some_ends Resting Stays = refl
some_ends Resting Leaves = refl
some_ends Resting (Tells payload) = refl
some_ends Quits parting = refl
some_ends Ends parting = refl

leaves_silent : (halt : Halt) (now : ℕ) → deeds.said_at now (deeds.ends_by halt (Some None)) ≡ None
leaves_silent Waits now = refl
leaves_silent Resting now = refl
leaves_silent Quits now = refl
leaves_silent Ends now = refl

tells_by : (halt : Halt) (now : ℕ) (payload : List ℕ) → quits_by halt ≡ false
    → deeds.said_at now (deeds.ends_by halt (end_of (Tells payload))) ≡ Some (last_word now payload)
tells_by Waits now payload goes = refl
tells_by Resting now payload goes = refl
tells_by Quits now payload goes = absurd (true≢false goes)
tells_by Ends now payload goes = absurd (true≢false goes)

module _ (laws : Laws) (service : Service) (default : List ℕ) (g : Ground) (log : Log) (t now : Tabled)
    (roomy : ClientNo → Bool) (l : LinkId) (bytes : List ℕ) (clock : ℕ) (given : Option GivenUp) (it : Going) (rests : Rests service g t roomy)
    (is : IsHearing service default g log l bytes given (Some it)) (so : HearsSo service default l bytes clock given (Some it) t now) where
  abbrev e : Entry
  e = entry.Got l bytes

  abbrev decided : Deeds
  decided = deeds_of given (Some it)

  abbrev moment : ℕ
  moment = suc g.tale.moment

  abbrev heard : Tale
  heard = hearing.heard laws service default g log t now roomy l bytes clock given (Some it) rests is so

  abbrev freed : Tale
  freed = hearing.freed laws service default g log t now roomy l bytes clock given (Some it) rests is so

  stands : Stands service (on g freed) so.freed
  stands = hearing.freed_stands laws service default g log t now roomy l bytes clock given (Some it) rests is so

  there : is_to_server g.tale l ≡ true
  there = hearing.there laws service default g log t now roomy l bytes clock given (Some it) rests is so

  -- it is a client of the tale

  pub found : (client : tales.Client) × IsKnown (on g freed) it.client client
  found = stands.clients.known it.client so.goes.homes.row so.goes.homes.there

  abbrev x : tales.Client
  x = found.0

  pub number : x.number ≡ it.client
  number = found.1.number

  same_seats : freed.clients ≡ g.tale.clients
  same_seats = hearing.freed_clients laws service default g log t now roomy l bytes clock given (Some it) rests is so

  seated_in : (xs : List tales.Client) → freed.clients ≡ xs → filter (λ (other : tales.Client). is_client other.number x.number) xs ≡ x ∷ []
  seated_in xs same =
      subst (λ (ys : List tales.Client). filter (λ (other : tales.Client). is_client other.number x.number) ys ≡ x ∷ []) same found.1.seated

  pub seated : IsSeated g.tale x
  seated = seated_in g.tale.clients same_seats

  seated_heard : IsSeated heard x
  seated_heard =
      seated_in heard.clients
      (same_seats ∙ sym (hearing.heard_clients laws service default g log t now roomy l bytes clock given (Some it) rests is so))

  has : HasDeeds g decided x
  has = seated_of (HasDeeds g decided) g.tale x seated is.plans.each

  its : is_client it.client x.number ≡ true
  its = ap (λ (c : ClientNo). is_client it.client c) number ∙ same_number it.client.0

  its_test : (c : ClientNo) → c ≡ it.client → is_its x c ≡ true
  its_test c same = (λ i. is_client (same i) (number i)) ∙ same_number it.client.0

  row_at : so.freed.clients x.number ≡ Some so.goes.homes.row
  row_at = ap so.freed.clients number ∙ so.goes.homes.there

  -- Who it is: it goes on, and is called.

  pub record Who : Type 0 where
    pub own : (up : GivenUp) → given ≡ Some up → up.client ≡ it.client
    pub carried : (n : SessionName) → name_in so.server.row.link.state.carries ≡ Some n → n.client ≡ it.client
    pub going : g.over x.number ≡ false
    pub cause : (is_event_of (view_on g) x e || gives_up g.plan freed.moment (name_of x x.taken)) ≡ true

  going_by : (n : SessionName) (b : Bool) → is_going (so.freed.clients n.client) ≡ b → Some it.client ≡ (if b then Some n.client else None)
      → (it.client ≡ n.client) × (is_going (so.freed.clients n.client) ≡ true)
  going_by n true is called = (same_Some it.client n.client called, is)
  going_by n false is called = absurd (none-some it.client (sym called))

  open_row : is_going (so.freed.clients it.client) ≡ true → g.over x.number ≡ false
  open_row goes =
      phase_open (on g freed) x so.goes.homes.row (is_ended so.goes.homes.row.desk.seat.phase)
      (open_of (is_ended so.goes.homes.row.desk.seat.phase) (sym (ap is_going so.goes.homes.there) ∙ goes))
      (its_row service (on g freed) so.freed x so.goes.homes.row stands found.1.seated row_at).phase

  who_carried : (n : SessionName) → name_in so.server.row.link.state.carries ≡ Some n → ((up : GivenUp) → given ≡ Some up → up.client ≡ n.client)
      → (it.client ≡ n.client) × (is_going (so.freed.clients n.client) ≡ true) → Who
  who_carried n at own goes = record {
    own = λ up some. own up some ∙ sym goes.0;
    carried = λ m is. ap (λ (k : SessionName). k.client) (same_Some m n (sym is ∙ at)) ∙ sym goes.0;
    going = open_row (ap (λ (c : ClientNo). is_going (so.freed.clients c)) goes.0 ∙ goes.1);
    cause =
        or_first (is_event_of (view_on g) x e) (gives_up g.plan freed.moment (name_of x x.taken))
        (or_second (is_link_id x.link l)
        (option_map_or (λ (m : SessionName). is_client m.client x.number) (session_in ((view_on g).links l).carries) false)
        (ap (λ (o : Option SessionName). option_map_or (λ (m : SessionName). is_client m.client x.number) o false)
        (hearing.carries laws service default g log t now roomy l bytes clock given (Some it) rests is so ∙ at)
        ∙ (λ i. is_client (sym goes.0 i) x.number) ∙ its));
  }

  -- it is given up, on a link that carries nobody

  open_work : MayBeGivenUp l x.number so.heard → g.over x.number ≡ false
  open_work may =
      let said_stands = hearing.said_stands laws service default g log t now roomy l bytes clock given (Some it) rests is so in
      phase_works (on g (hearing.said_of laws service default g log t now roomy l bytes clock given (Some it) rests is so)) x may.row may.work
      (is_ended may.row.desk.seat.phase)
      (its_row service (on g (hearing.said_of laws service default g log t now roomy l bytes clock given (Some it) rests is so)) so.heard x may.row
      said_stands (seated_in _ (same_seats ∙ sym (hearing.said_clients laws service default g log t now roomy l bytes clock given (Some it) rests is so)))
      may.at_work.there).phase
      may.at_work.in_work

  given_is : (p : Option GivenUp) → given ≡ p → Some it.client ≡ option_map (λ (up : GivenUp). up.client) p
      → (up : GivenUp) × (given ≡ Some up) × (up.client ≡ it.client)
  given_is None same called = absurd (none-some it.client (sym called))
  given_is (Some up) same called = (up, same, same_Some up.client it.client (sym called))

  who_given : name_in so.server.row.link.state.carries ≡ None → (up : GivenUp) → given ≡ Some up → up.client ≡ it.client → Who
  who_given none up some same =
      let some_told : is_some (told_to given x.number) ≡ true =
      ap (λ (p : Option GivenUp). is_some (told_to p x.number)) some
      ∙ ap (λ (b : Bool). is_some (if b then Some up.payload else None))
      ((λ i. is_client (same i) x.number) ∙ its) in
      let may : MayBeGivenUp l x.number so.heard =
      hearing.may_each l given so.heard so.may x.number up.payload
      (ap (λ (p : Option GivenUp). told_to p x.number) some
      ∙ ap (λ (b : Bool). if b then Some up.payload else None) ((λ i. is_client (same i) x.number) ∙ its)) in
      record {
        own = λ other is. ap (λ (u : GivenUp). u.client) (same_Some other up (sym is ∙ some)) ∙ same;
        carried = λ n is. absurd (none-some n (sym none ∙ is));
        going = open_work may;
        cause =
            or_second (is_event_of (view_on g) x e) (gives_up g.plan freed.moment (name_of x x.taken))
            (ap (λ (m : ℕ). gives_up g.plan m (name_of x x.taken))
            (hearing.freed_moment laws service default g log t now roomy l bytes clock given (Some it) rests is so) ∙ has.gives some_told);
      }

  who_by : (at : Option SessionName) → name_in so.server.row.link.state.carries ≡ at → IsCalled at given so.freed (Some it.client) → Who
  who_by (Some n) at called = who_carried n at called.0 (going_by n (is_going (so.freed.clients n.client)) refl called.1)
  who_by None at called = let up = given_is given refl called in who_given at up.0 up.1 up.2

  who : Who
  who = who_by (name_in so.server.row.link.state.carries) refl so.called

  -- What the plan has of it.

  calls_are : decided.calls x.number ≡ it.choices
  calls_are = for_same it.client x.number it.choices [] its

  halts_are : decided.halts x.number ≡ it.halt
  halts_are = for_same it.client x.number it.halt Resting its

  ends_are : deeds.ends_in decided x.number ≡ deeds.ends_by it.halt (end_of it.parting)
  ends_are = λ i. deeds.ends_by (halts_are i) (for_same it.client x.number (end_of it.parting) None its i)

  moment_is : freed.moment ≡ moment
  moment_is = hearing.freed_moment laws service default g log t now roomy l bytes clock given (Some it) rests is so

  chosen : PlanHas it.choices it.halt g.setup.keys g.plan freed.moment (name_of x (suc x.taken))
  chosen =
      subst (λ (m : ℕ). PlanHas it.choices it.halt g.setup.keys g.plan m (name_of x (suc x.taken))) (sym moment_is)
      (subst (λ (halt : Halt). PlanHas it.choices halt g.setup.keys g.plan moment (name_of x (suc x.taken))) halts_are
      (subst (λ (choices : List Choice). PlanHas choices (decided.halts x.number) g.setup.keys g.plan moment (name_of x (suc x.taken))) calls_are
      (has.chosen who.going)))

  none_of : (over : Bool) → (not over && false) ≡ false
  none_of true = refl
  none_of false = refl

  other_ends : (c : ClientNo) → is_client x.number c ≡ false → (b : Bool) → nat_le c.0 (known_with log e) ≡ b → ends_now g.plan moment c ≡ false
  other_ends c other true known =
      is.plans.ends c (le_of c.0 (known_with log e) known)
      ∙ ap (λ (end : Option (Option Word)). not (g.over c) && is_some end)
      (λ i. deeds.ends_by (for_other it.client c it.halt Resting (ap (λ (n : ClientNo). is_client n c) (sym number) ∙ other) i)
      (for_other it.client c (end_of it.parting) None (ap (λ (n : ClientNo). is_client n c) (sym number) ∙ other) i))
      ∙ none_of (g.over c)
  other_ends c other false unknown = is.plans.strangers c (lt_of c.0 (known_with log e) unknown)

  its_end : ends_now g.plan moment x.number ≡ ends_by it.halt it.parting
  its_end =
      has.ends ∙ ap (λ (b : Bool). not b && is_some (deeds.ends_in decided x.number)) who.going
      ∙ ap (λ (end : Option (Option Word)). is_some end) ends_are ∙ some_ends it.halt it.parting

  ends_by_test : (c : ClientNo) (b : Bool) → is_client x.number c ≡ b → ends_now g.plan moment c ≡ (b && ends_by it.halt it.parting)
  ends_by_test c true same = ap (ends_now g.plan moment) (sym (client_of x.number c same)) ∙ its_end
  ends_by_test c false other = other_ends c other (nat_le c.0 (known_with log e)) refl

  ends : (c : ClientNo) → ends_now g.plan moment c ≡ (is_client x.number c && ends_by it.halt it.parting)
  ends c = ends_by_test c (is_client x.number c) refl

  -- who is ended

  abbrev heard_at : heard.moment ≡ moment
  heard_at = hearing.heard_moment laws service default g log t now roomy l bytes clock given (Some it) rests is so

  ended_is : (b : Bool) → ends_by it.halt it.parting ≡ b → ended_now g.plan heard ≡ (if b then x.number ∷ [] else [])
  ended_is true one =
      one_ended g.plan x heard (record {
        seated = seated_heard;
        ends = ap (λ (m : ℕ). ends_now g.plan m x.number) heard_at ∙ its_end ∙ one;
        others = λ k d within other.
            let c : ClientNo = (slice_index_or heard.clients k d).number in
            ap (λ (m : ℕ). ends_now g.plan m c) heard_at ∙ ends c
            ∙ ap (λ (b : Bool). b && ends_by it.halt it.parting) (reads.flip_client c x.number other);
      })
  ended_is false none =
      none_ended g.plan heard (λ k d within.
      let c : ClientNo = (slice_index_or heard.clients k d).number in
      ap (λ (m : ℕ). ends_now g.plan m c) heard_at ∙ ends c ∙ false_by (is_client x.number c) none) where
        false_by : (a : Bool) {b : Bool} → b ≡ false → (a && b) ≡ false
        false_by true is = is
        false_by false is = refl

  -- the entry is of it

  carried_its : (n : SessionName) → name_in so.server.row.link.state.carries ≡ Some n → is_its x n.client ≡ true
  carried_its n at = its_test n.client (who.carried n at)

  given_its : (up : GivenUp) → given ≡ Some up → is_its x up.client ≡ true
  given_its up some = its_test up.client (who.own up some)

  on_link : IsOnLink g e l x
  on_link = record {
    to_server = hearing.heard_there laws service default g log t now roomy l bytes clock given (Some it) rests is so;
    alone = hearing.alone laws service default g log t now roomy l bytes clock given (Some it) rests is so (is_its x) carried_its given_its;
    seated = seated_heard;
    single = λ m route theirs routed. is.plans.single m route routed;
    others = reads.others_uncalled service g t roomy rests l bytes (is_its x) there
        (hearing.carried_by laws service default g log t now roomy l bytes clock given (Some it) rests is so (is_its x) carried_its given_its)
        (hearing.homes laws service default g log t now roomy l bytes clock given (Some it) rests is so)
        (hearing.keeps laws service default g log t now roomy l bytes clock given (Some it) rests is so (is_its x) carried_its given_its);
  }

  not_before : is_before freed.moment (g.plan.ends x.number) ≡ false
  not_before =
      ap (λ (m : ℕ). is_before m (g.plan.ends x.number)) moment_is
      ∙ before_by g.tale.moment (g.plan.ends x.number) ∙ sym (rests.over x.number) ∙ who.going

  words : word_at g.plan freed.moment x.number ≡ deeds.said_at moment (deeds.ends_by it.halt (end_of it.parting))
  words = ap (λ (m : ℕ). word_at g.plan m x.number) moment_is ∙ has.word who.going ∙ ap (deeds.said_at moment) ends_are

  told_by : (payload : List ℕ) → it.parting ≡ Tells payload → (b : Bool) → quits_by it.halt ≡ b → StandTold payload service g x.number freed.moment
  told_by payload same true quits = absurd (not_stays (sym same ∙ so.goes.once quits)) where
    not_stays : Tells payload ≡ Stays → ⊥
    not_stays is = cc
  told_by payload same false goes =
      let telling : IsTelling service payload it.client = subst (λ (p : Parting). TellsFor p service it.client) same is.tells in
      subst (λ (c : ClientNo). StandTold payload service g c freed.moment) (sym number)
      (telling g freed.moment (ap g.over (sym number) ∙ who.going) rests.looked
      (ap (word_at g.plan freed.moment) (sym number) ∙ words
      ∙ ap (λ (p : Parting). deeds.said_at moment (deeds.ends_by it.halt (end_of p))) same ∙ tells_by it.halt moment payload goes
      ∙ ap (λ (m : ℕ). Some (last_word m payload)) (sym moment_is)))

  parted_by : (parting : Parting) → it.parting ≡ parting → IsPartedIn parting service g x.number freed.moment
  parted_by Stays same = tt
  parted_by Leaves same =
      words ∙ ap (λ (p : Parting). deeds.said_at moment (deeds.ends_by it.halt (end_of p))) same ∙ leaves_silent it.halt moment
  parted_by (Tells payload) same = told_by payload same (quits_by it.halt) refl

  pub following : IsFollowing service default g e x freed it.choices it.halt it.parting
  following = record {
    of_one = link_alone g e l x (ended_by it.halt it.parting x.number) on_link (ended_is (ends_by it.halt it.parting) refl);
    tells = reads.others_untold service g t roomy rests l bytes (is_its x) there
        (hearing.carried_by laws service default g log t now roomy l bytes clock given (Some it) rests is so (is_its x) carried_its given_its)
        (hearing.homes laws service default g log t now roomy l bytes clock given (Some it) rests is so);
    spared = reads.others_spared service g t roomy rests l bytes (is_its x) there
        (hearing.carried_by laws service default g log t now roomy l bytes clock given (Some it) rests is so (is_its x) carried_its given_its)
        (hearing.homes laws service default g log t now roomy l bytes clock given (Some it) rests is so)
        (hearing.keeps laws service default g log t now roomy l bytes clock given (Some it) rests is so (is_its x) carried_its given_its);
    called = calls (is_event_of (view_on g) x e) (gives_up g.plan freed.moment (name_of x x.taken)) (is_before freed.moment (g.plan.ends x.number))
        who.cause not_before;
    going = who.going;
    classes = is.classes;
    let_in = let_in default g x
        (seated_of (λ (client : tales.Client). IsWhoItSays g.setup g.plan default client (opening_of (talk_of g.plan client))) g.tale x seated is.who);
    unrouted = is.plans.nowhere x.number;
    chosen = chosen;
    parted = parted_by it.parting refl;
    ends = ends;
    rising = subst (Ascend (λ l. l.0)) (sym (hearing.freed_links laws service default g log t now roomy l bytes clock given (Some it) rests is so)) is.rising;
  }

  pub follows : FollowsSo service default x.number it.choices it.halt it.parting it.links so.freed now
  follows = subst (λ (c : ClientNo). FollowsSo service default c it.choices it.halt it.parting it.links so.freed now) (sym number) so.goes
