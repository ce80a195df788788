-- A client that goes on leaves as its link is lost: links are given back, it goes on or not, and it is ended.
use Rattle.std.specs.Prelude.{◌≡◌, ◌⊎◌, ◌<◌, ◌&&◌, ◌||◌, ◌+◌, ◌≤◌, ℕ, suc, nat_le, not, Bool, true, false, All, filter, if◌then◌else◌, is_some, length, List, [], ◌∷◌, Option, Some, None}
use Rattle.std.specs.List.{list_any}
use Rattle.std.specs.Option.{option_and_then, option_map_or}
use Rattle.std.proofs.Common.{refl, sym, ap, ◌∙◌, subst, arith, inl, inr}
use Rattle.std.proofs.lemmas.Bool.{false≢true, true≢false}
use Rattle.std.proofs.lemmas.List.Elements.{All-cons, All-nil, All-weaker}
use Rattle.std.proofs.lemmas.Option.{none-some}
use Rattle.mx_base.specs.declared.names.Hostgroup.{Hostgroup}
use Rattle.mx_base.specs.declared.names.LinkId.{LinkId}
use Rattle.mx_wire.specs.Log.{Log, opened_links}
use Rattle.mx_wire.specs.declared.entry.Entry.{Entry}
use Rattle.client_session.specs.Setups.{Setup as Service}
use Rattle.server_side.specs.Account.{Account}
use Rattle.private_model.proofs.Maps.{client_of, same_number}
use Rattle.private_model.specs.Names.{ClientNo, MessageName}
use Rattle.private_model.specs.Story.{Left, is_client, is_link_id}
use Rattle.private_model.specs.View.{Nobody, Setup, View, present}
use Rattle.log_story.specs.Clients.{captures_first, client_goes_on, is_answered, is_up, waits_for_capture}
use Rattle.log_story.specs.Owed.{has_room, messages, name_of}
use Rattle.log_story.specs.Plan.{LastWord, Plan, Route, gives_up, is_before, word_at}
use Rattle.log_story.specs.Servers.{links_are_freed}
use Rattle.log_story.specs.Tale as tales
use Rattle.log_story.specs.Tale.{Tale, counted, is_to_server, link_in, tell, view_of}
use Rattle.log_story.specs.Telling.{tale_step, told}
use Rattle.client_seat.specs.Seats.{account_in, ended, is_ended}
use Rattle.client_seat.specs.Stands.{IsHeardIn}
use Rattle.client_seat.specs.declared.phase.Phase.{Phase}
use Rattle.client_seat.specs.declared.phase.Phase.TheVariants as phase
use Rattle.client_seat.specs.declared.seat.Seat.{Seat}
use Rattle.step_laws.proofs.Apart.{counted_apart, freed_apart}
use Rattle.step_laws.proofs.Giving.{kept_in, none_in, none_left}
use Rattle.step_laws.proofs.Others.{idle_by}
use Rattle.step_laws.proofs.Stepping.{step_one}
use Rattle.step_laws.proofs.Taking.{called, idle_takes}
use Rattle.step_laws.specs.Freed.{Ascend, NoneDone, freed_in, is_among}
use Rattle.step_laws.specs.Seats.{IsSeated, is_its, seats}
use Rattle.step_laws.specs.Steps.{IsOfOne, ended_now, ends_now, its_end, leave, told_then}
use Rattle.step_laws.specs.Taken.{ArePassedBut, AreSingle, IsIdle, IsPassed, is_called}
use Rattle.core_tables.specs.Parting.{left_in, left_row, parted_in}
use Rattle.core_tables.specs.Tables.{IsSame, Tabled, client_put}
use Rattle.core_tables.specs.declared.client.Client.{Client}
use Rattle.core_stands.specs.Clients.{IsClient, IsGoing, IsPhase}
use Rattle.core_stands.specs.Grounds.{Ground, ending, on, view_on}
use Rattle.core_stands.specs.Stands.{IsAt, IsCalm, Rests, Stands}
use Rattle.core_laws.specs.parting.Frames.{AreHomed}
use Rattle.core_laws.proofs.OfArrival.Changing.{put-same}
use Rattle.core_laws.proofs.OfArrival.Finding.{client-same, client-true}
use Rattle.core_laws.proofs.OfArrival.Idling.{down-idles}
use Rattle.core_laws.proofs.OfEntry.Composing.{rest_of_one}
use Rattle.core_laws.proofs.OfEntry.Lists.{seated_of}
use Rattle.core_laws.proofs.OfEntry.Uneventful.{Counting, Testing}
use Rattle.core_laws.specs.entry.Entries.{behind}
use Rattle.core_laws.specs.entry.Freeing.{all_freed}
use Rattle.core_laws.specs.entry.Kinds.{IsStill}
use Rattle.core_laws.proofs.OfClients.Ending.{ends_so, leaves_so}
use Rattle.core_laws.proofs.OfClients.Facts.{has_lives}
use Rattle.core_laws.specs.clients.Follows.{AreHomesOf}
use Rattle.router_laws.proofs.OfClients.Closing.{left_undone}
use Rattle.router_laws.proofs.OfClients.Duing.{moment_more}
use Rattle.router_laws.proofs.OfClients.Leaving.{IsLoss, all_theirs, all_uncalled, freed_is, its_event, spared_by, told_left}
use Rattle.router_laws.proofs.OfClients.Linking.{client_there, is_client_row, known, link_is, row_there, unwritten}
use Rattle.router_laws.proofs.OfClients.Losing.{Alike, Ends, Frees, ended_again, phase_over}
use Rattle.router_laws.proofs.OfClients.Saying.{ended_is, goes_there, not_before}
use Rattle.router_laws.specs.clients.Behind.{IsDueBehind}
use Rattle.router_laws.specs.clients.Continues.{IsContinued}
use Rattle.router_laws.specs.clients.Leaves.{LeavesAtOnce}
use Rattle.router_laws.specs.clients.Plans.{IsDecided, ends_of}
use Rattle.router_laws.specs.clients.Speaks.{IsLinkOf}

-- no word by the next moment, and none by this one
pub word_before : (plan : Plan) (moment : ℕ) (c : ClientNo) → word_at plan (suc moment) c ≡ None → word_at plan moment c ≡ None
word_before plan moment c none = by (plan.words c) none where
  at : (word : LastWord) (b : Bool) → nat_le word.from moment ≡ b → (if nat_le word.from (suc moment) then Some word else None) ≡ None
      → (if nat_le word.from moment then Some word else None) ≡ None
  at word false late is = ap (λ (b : Bool). if b then Some word else None) late
  at word true early is =
      let later : nat_le word.from (suc moment) ≡ true = grind arith in
      absurd (none-some word (sym is ∙ ap (λ (b : Bool). if b then Some word else None) later))

  by : (found : Option LastWord) → option_and_then (λ (word : LastWord). if nat_le word.from (suc moment) then Some word else None) found ≡ None
      → option_and_then (λ (word : LastWord). if nat_le word.from moment then Some word else None) found ≡ None
  by None is = refl
  by (Some word) is = at word (nat_le word.from moment) refl is

-- who leaves has a row still
pub left_there : (c : ClientNo) (by : Seat → Seat) (t now : Tabled) (row : Client) → t.clients c ≡ Some row → IsSame now (left_in c by t)
    → now.clients c ≡ Some (left_row by row)
left_there c by t now row there same =
    same.clients c
    ∙ ap (λ (found : Option Client).
    (option_map_or (λ (r : Client). client_put c (Some (left_row by r)) (parted_in r.desk.sessions t)) found t).clients c) there
    ∙ put-same c (Some (left_row by row)) (parted_in row.desk.sessions t)

-- Links are given back by its first leave.

module _ (service : Service) (g : Ground) (t : Tabled) (roomy : ClientNo → Bool) (link : LinkId) (c : ClientNo) (row : Client)
    (rests : Rests service g t roomy) (its : IsLinkOf link c row t) (e : Entry) (loss : IsLoss link e)
    (nobody_on : (link_in g.setup g.tale link).carries ≡ Nobody) (still : All (IsStill g) g.tale.clients) (links : List LinkId)
    (homes : AreHomesOf c links t) (homed : AreHomed (view_on g).links (view_on g).held) (over : ClientNo → Bool) (left between : Tabled)
    (first : Stands service (record g { tale = tell (Left c) g.tale; over = over }) left)
    (still_first : All (IsStill (record g { tale = tell (Left c) g.tale; over = over })) g.tale.clients)
    (same : IsSame between (all_freed links left)) (counting : Counting service) (testing : Testing service) (alike : Alike) (frees : Frees)
    (rising : Ascend (λ l. l.0) g.tale.links) where
  abbrev client : tales.Client
  client = client_there service g t link c row rests.stands its

  number : client.number ≡ c
  number = (known service g t link c row rests.stands its).number

  seated : IsSeated g.tale client
  seated = (known service g t link c row rests.stands its).seated

  abbrev tale1 : Tale
  tale1 = tell (Left c) g.tale

  abbrev tale2 : Tale
  tale2 = counted tale1

  abbrev pub tale3 : Tale
  tale3 = freed_in g.setup g.plan links tale2

  abbrev at_tale : Tale → Ground
  at_tale tale = record g { tale = tale; over = over }

  told_as : told g.setup g.plan g.tale e ≡ tale1
  told_as = told_left service g t link c row rests.stands its e loss nobody_on still

  second : Stands service (at_tale tale2) left
  second = counting (at_tale tale1) left first still_first

  first_freed : links_are_freed g.setup g.plan (told_then g.setup g.plan g.tale e) ≡ tale3
  first_freed =
      ap (λ (tale : Tale). links_are_freed g.setup g.plan (counted tale)) told_as
      ∙ freed_is service g t link c row rests.stands its links homes homed rests.rested testing over left first second rising

  pub third : Stands service (at_tale tale3) between
  third =
      alike service (at_tale tale3) (all_freed links left) between
      (frees service (at_tale tale2) left links second (all_theirs service g t link c row rests.stands its links homes homed rests.rested)) same

  clients3 : tale3.clients ≡ g.tale.clients
  clients3 = kept_in g.setup g.plan (λ (tale : Tale). tale.clients) (λ story tale. refl) links tale2

  pub moment3 : tale3.moment ≡ suc g.tale.moment
  moment3 = kept_in g.setup g.plan (λ (tale : Tale). tale.moment) (λ story tale. refl) links tale2

  pub rising3 : Ascend (λ l. l.0) tale3.links
  rising3 =
      subst (λ (ls : List LinkId). Ascend (λ l. l.0) ls)
      (sym (kept_in g.setup g.plan (λ (tale : Tale). tale.links) (λ story tale. refl) links tale2)) rising

  abbrev seats_in : List tales.Client → Type 0
  seats_in xs = filter (λ (x : tales.Client). is_client x.number client.number) xs ≡ client ∷ []

  pub seated3 : IsSeated tale3 client
  seated3 = subst seats_in (sym clients3) seated

  pub seated_told : IsSeated (told_then g.setup g.plan g.tale e) client
  seated_told = subst (λ (tale : Tale). IsSeated (counted tale) client) (sym told_as) seated

  abbrev Passes : tales.Client → Type 0
  Passes x = is_its client x.number ≡ false → IsPassed g.setup g.plan (view_on g) e tale3 x

  passed : (x : tales.Client) → (is_client x.number c ≡ false → is_called g.plan (suc g.tale.moment) (view_on g) e x ≡ false) → Passes x
  passed x uncalled apart =
      inl (ap (λ (n : ℕ). is_called g.plan n (view_on g) e x) moment3
      ∙ uncalled (ap (λ (n : ClientNo). is_client x.number n) (sym number) ∙ apart))

  passes : ArePassedBut g.setup g.plan (view_on g) e (is_its client) tale3
  passes =
      subst (λ (xs : List tales.Client). All Passes xs) (sym clients3)
      (All-weaker (λ (x : tales.Client). is_client x.number c ≡ false → is_called g.plan (suc g.tale.moment) (view_on g) e x ≡ false) Passes passed
      g.tale.clients (all_uncalled service g t link c row rests.stands its e loss nobody_on still))

  pub of_one : (gone : List ClientNo) → AreSingle g.plan (is_its client) → ended_now g.plan (told_then g.setup g.plan g.tale e) ≡ gone
      → IsOfOne g.setup g.plan g.tale e client gone tale3
  of_one gone single ends = record { first = first_freed; seated = seated_told; single = single; passes = passes; ends = ends }

  pub calls : g.over client.number ≡ false → is_called g.plan tale3.moment (view_on g) e client ≡ true
  calls going =
      ap (λ (n : ℕ). is_called g.plan n (view_on g) e client) moment3
      ∙ ap (λ (b : Bool). (b || gives_up g.plan (suc g.tale.moment) (name_of client client.taken)) && not (is_before (suc g.tale.moment) (g.plan.ends client.number)))
      (its_event service g t link c row rests.stands its e loss nobody_on still)
      ∙ ap not (not_before g.tale.moment (g.plan.ends client.number) (sym (rests.over client.number) ∙ going))

  -- who has nothing up as it left has nothing up then
  pub idle3 : IsIdle g.setup g.plan tale1 client → IsIdle g.setup g.plan tale3 client
  idle3 idle =
      let kept : IsStill g client = seated_of (IsStill g) g.tale client seated still in
      idle_by g.setup g.plan client tale2 tale3 (freed_apart g.setup g.plan client links tale2).up
      (idle_by g.setup g.plan client tale1 tale2 (counted_apart g.setup g.plan client tale1 kept.keeps).up idle)

  pub only_its : (x : ClientNo) → is_its client x ≡ false → is_client c x ≡ false
  only_its x apart = by (is_client c x) refl where
    by : (b : Bool) → is_client c x ≡ b → is_client c x ≡ false
    by false other = other
    by true mine = absurd (true≢false (sym (client-same x client.number (sym (client-true c x mine) ∙ sym number)) ∙ apart))

-- It ends at once.

module _ (service : Service) (g : Ground) (t now : Tabled) (roomy room : ClientNo → Bool) (log : Log) (over : ClientNo → Bool) (link : LinkId) (c : ClientNo)
    (links : List LinkId) (e : Entry) (loss : IsLoss link e) (nobody_on : (link_in g.setup g.tale link).carries ≡ Nobody)
    (so : LeavesAtOnce link links c roomy t now) (decided : IsDecided g (ends_of c true) over) (wordless : word_at g.plan (suc g.tale.moment) c ≡ None)
    (unrouted : g.plan.routes (record { client = c; ordinal = 0 }) ≡ None) (single : AreSingle g.plan (λ x. true)) (rests : Rests service g t roomy)
    (rising : Ascend (λ l. l.0) g.tale.links) (others : (x : ClientNo) → is_client c x ≡ false → room x ≡ false → roomy x ≡ false) where
  abbrev it : tales.Client
  it = client_there service g t link c so.row rests.stands so.its

  it_number : it.number ≡ c
  it_number = (known service g t link c so.row rests.stands so.its).number

  it_seated : IsSeated g.tale it
  it_seated = (known service g t link c so.row rests.stands so.its).seated

  it_own : IsClient g it so.row
  it_own = is_client_row service g t link c so.row rests.stands so.its

  it_goes : g.over it.number ≡ false
  it_goes = goes_there g it so.row it_own so.going

  going_by : (b : Bool) → b ≡ false → IsPhase b g it so.row → IsGoing g it so.row
  going_by false is phase_is = phase_is
  going_by true is phase_is = absurd (true≢false is)

  it_going : IsGoing g it so.row
  it_going = going_by (is_ended so.row.desk.seat.phase) so.going it_own.phase

  silent : word_at g.plan g.tale.moment it.number ≡ None
  silent = ap (word_at g.plan g.tale.moment) it_number ∙ word_before g.plan g.tale.moment c wordless

  abbrev left_tale : Tale
  left_tale = tell (Left c) g.tale

  abbrev with_over : Tale → Ground
  with_over tale = record g { tale = tale; over = over }

  one_over : (a b : Bool) → (a || (b && true)) ≡ (b || a)
  one_over true true = refl
  one_over true false = refl
  one_over false true = refl
  one_over false false = refl

  over_is : (λ (x : ClientNo). is_client c x || g.over x) ≡ over
  over_is = λ i x. sym (decided.overs x ∙ one_over (g.over x) (is_client c x)) i

  pub over_its : over c ≡ true
  over_its = ap (λ (o : ClientNo → Bool). o c) (sym over_is) ∙ ap (λ (b : Bool). b || g.over c) (same_number c.0)

  -- it leaves

  pub first_stands : Ends → Alike → Stands service (with_over left_tale) so.ends.left
  first_stands law alike =
      alike service (with_over left_tale) (left_in c ended t) so.ends.left
      (subst (λ (o : ClientNo → Bool). Stands service (record g { tale = left_tale; over = o }) (left_in c ended t)) over_is
      (subst (λ (n : ClientNo). Stands service (ending n (on g (tell (Left n) g.tale))) (left_in n ended t)) it_number
      (law service g t it so.row ended rests.stands it_seated (row_there service g t link c so.row rests.stands so.its)
      (has_lives service g t it so.row rests.stands it_seated (row_there service g t link c so.row rests.stands so.its) so.ends.lives)
      (leaves_so service g t it so.row rests.stands it_seated (row_there service g t link c so.row rests.stands so.its) it_goes (rests.looked it.number) silent)
      (ends_so service g t it so.row rests.stands it_seated (row_there service g t link c so.row rests.stands so.its) it_goes (rests.looked it.number) silent))))
      so.ends.leaves

  still_at : (x : tales.Client) → IsStill g x → IsStill (with_over left_tale) x
  still_at x still = record { keeps = still.keeps; word = λ ends. by (is_client c x.number) refl (g.over x.number) refl ends } where
    by : (a : Bool) → is_client c x.number ≡ a → (b : Bool) → g.over x.number ≡ b → over x.number ≡ true
        → word_at g.plan (suc g.tale.moment) x.number ≡ word_at g.plan g.tale.moment x.number
    by true mine b was ends =
        let same : c ≡ x.number = client-true c x.number mine in
        ap (word_at g.plan (suc g.tale.moment)) (sym same) ∙ wordless
        ∙ sym (ap (word_at g.plan g.tale.moment) (sym same) ∙ word_before g.plan g.tale.moment c wordless)
    by false other true was ends = still.word was
    by false other false was ends =
        absurd (false≢true (sym ((λ i. other i || was i)) ∙ ap (λ (o : ClientNo → Bool). o x.number) over_is ∙ ends))

  pub still_left : All (IsStill (with_over left_tale)) g.tale.clients
  still_left = All-weaker (IsStill g) (IsStill (with_over left_tale)) still_at g.tale.clients decided.still

  -- nothing of it is up

  logging_in : (at : Phase) → is_ended at ≡ false → account_in at ≡ None → at ≡ phase.LoggingIn
  logging_in phase.LoggingIn going none = refl
  logging_in (phase.Serving account) going none = absurd (none-some account (sym none))
  logging_in phase.Ended going none = absurd (true≢false going)

  abbrev up_by : (Route → Bool) → Option Route → Bool
  up_by waits route =
      is_answered g.plan g.tale (view_on g) it it.taken
      && (not (option_map_or waits route false) && has_room (view_on g).replies g.plan g.tale.moment it)

  abbrev waits_in : View → Route → Bool
  waits_in view route = captures_first (view.held (present view it.number route.hostgroup))

  up_same : g.plan.routes (name_of it it.taken) ≡ None → is_up g.setup g.plan it left_tale ≡ is_up g.setup g.plan it g.tale
  up_same none = ap (up_by (waits_in (view_of g.setup left_tale))) none ∙ sym (ap (up_by (waits_in (view_on g))) none)

  idle_left : IsIdle g.setup g.plan left_tale it
  idle_left = by so.busy where
    by : (so.row.desk.seat.answered ≡ false) ⊎ ((account_in so.row.desk.seat.phase ≡ None) × (roomy c ≡ false)) → IsIdle g.setup g.plan left_tale it
    by (inl waits) =
        down-idles g.setup g.plan it left_tale
        (ap (λ (b : Bool). b && (not (waits_for_capture (view_of g.setup left_tale) g.plan it)
        && has_room (view_of g.setup left_tale).replies g.plan left_tale.moment it)) (sym it_going.answered ∙ waits))
    by (inr fresh) =
        let at : so.row.desk.seat.phase ≡ phase.LoggingIn = logging_in so.row.desk.seat.phase so.going fresh.0 in
        let entering = subst (λ (p : Phase). IsHeardIn p g.plan it so.row.desk.seat) at it_own.heard in
        let none : g.plan.routes (name_of it it.taken) ≡ None =
        (λ i. g.plan.routes (record { client = it_number i; ordinal = entering.untaken i })) ∙ unrouted in
        idle_by g.setup g.plan it g.tale left_tale (up_same none)
        (seated_of (IsCalm g roomy) g.tale it it_seated rests.calm it_goes (ap roomy it_number ∙ fresh.1))

  -- behind the links that are given back

  module _ (law : Ends) (alike : Alike) (frees : Frees) (counting : Counting service) (testing : Testing service)
      (homed : AreHomed (view_on g).links (view_on g).held)
      (homed_by : (tale : Tale) (o : ClientNo → Bool) (now : Tabled) → Stands service (record g { tale = tale; over = o }) now
      → AreHomed (view_of g.setup tale).links (view_of g.setup tale).held) where
    abbrev freed : Tale
    freed = freed_in g.setup g.plan links (counted left_tale)

    stands3 : Stands service (with_over freed) so.between
    stands3 =
        third service g t roomy link c so.row rests so.its e loss nobody_on decided.still links so.ends.homes homed over so.ends.left so.between
        (first_stands law alike) still_left so.ends.freed counting testing alike frees rising

    it_seated3 : IsSeated freed it
    it_seated3 =
        seated3 service g t roomy link c so.row rests so.its e loss nobody_on decided.still links so.ends.homes homed over so.ends.left so.between
        (first_stands law alike) still_left so.ends.freed counting testing alike frees rising

    there3 : so.between.clients it.number ≡ Some so.again.row
    there3 = ap so.between.clients it_number ∙ so.again.there

    over3 : over it.number ≡ true
    over3 = ap over it_number ∙ over_its

    its3 : IsLinkOf link c so.again.row so.between
    its3 =
        let at : IsAt (with_over freed) so.between it = seated_of (IsAt (with_over freed) so.between) freed it it_seated3 stands3.clients.each in
        record {
          numbered = ap so.between.numbers (sym (link_is service g t link c so.row rests.stands so.its)) ∙ at.found (ap is_some there3)
              ∙ ap (λ (n : ClientNo). Some n) it_number;
          there = so.again.there;
        }

    abbrev last : Tale
    last = tell (Left it.number) freed

    stands4 : Stands service (with_over last) now
    stands4 =
        alike service (with_over last) (left_in c ended so.between) now
        (subst (λ (n : ClientNo). Stands service (with_over last) (left_in n ended so.between)) it_number
        (ended_again service (with_over freed) so.between it so.again.row stands3 it_seated3 there3 over3 law so.again.lives)) so.again.same

    undone4 : NoneDone g.setup g.plan last
    undone4 =
        subst (λ (n : ClientNo). NoneDone g.setup g.plan (tell (Left n) freed)) (sym it_number)
        (left_undone service (with_over freed) so.between link c so.again.row stands3 its3
        (phase_over service (with_over freed) so.between it so.again.row stands3 it_seated3 there3 over3) (homed_by freed over so.between stands3) rested3) where
          rested3 : NoneDone g.setup g.plan freed
          rested3 = subst (NoneDone g.setup g.plan) of.first (none_left g.setup g.plan (told_then g.setup g.plan g.tale e)) where
            of : IsOfOne g.setup g.plan g.tale e it (ended_now g.plan (told_then g.setup g.plan g.tale e)) freed
            of =
                of_one service g t roomy link c so.row rests so.its e loss nobody_on decided.still links so.ends.homes homed over so.ends.left so.between
                (first_stands law alike) still_left so.ends.freed counting testing alike frees rising (ended_now g.plan (told_then g.setup g.plan g.tale e))
                (λ m route mine routed. single m route refl routed) refl

    decided_it : IsDecided g (ends_of it.number true) over
    decided_it = subst (λ (n : ClientNo). IsDecided g (ends_of n true) over) (sym it_number) decided

    one : IsOfOne g.setup g.plan g.tale e it (it.number ∷ []) freed
    one =
        of_one service g t roomy link c so.row rests so.its e loss nobody_on decided.still links so.ends.homes homed over so.ends.left so.between
        (first_stands law alike) still_left so.ends.freed counting testing alike frees rising (it.number ∷ []) (λ m route mine routed. single m route refl routed)
        (ended_is g e it true over decided_it
        (seated_told service g t roomy link c so.row rests so.its e loss nobody_on decided.still links so.ends.homes homed over so.ends.left so.between
        (first_stands law alike) still_left so.ends.freed counting testing alike frees rising))

    goes_nowhere : client_goes_on g.setup g.plan (view_on g) e freed it ≡ freed
    goes_nowhere =
        called g.setup g.plan (view_on g) e freed it
        (calls service g t roomy link c so.row rests so.its e loss nobody_on decided.still links so.ends.homes homed over so.ends.left so.between
        (first_stands law alike) still_left so.ends.freed counting testing alike frees rising it_goes)
        ∙ idle_takes g.setup g.plan (length (messages g.plan it)) it freed
        (idle3 service g t roomy link c so.row rests so.its e loss nobody_on decided.still links so.ends.homes homed over so.ends.left so.between
        (first_stands law alike) still_left so.ends.freed counting testing alike frees rising idle_left)

    step_is : tale_step g.setup g.plan g.tale e ≡ last
    step_is =
        step_one g.setup g.plan g.tale e it (it.number ∷ []) freed last one
        (ap (λ (tale : Tale). links_are_freed g.setup g.plan (leave (it.number ∷ []) tale)) goes_nowhere
        ∙ none_in g.setup g.plan last.links last (λ l there. undone4 l there))

    pub at_once_rests : Rests service (behind g e over) now room
    at_once_rests =
        rest_of_one service g t now roomy room e rests over it (it.number ∷ []) freed one
        (All-cons (λ (n : ClientNo). is_its it n ≡ true) it.number [] (same_number it.number.0) (All-nil (λ (n : ClientNo). is_its it n ≡ true)))
        (loss.of_all (is_its it) g.tale)
        (spared_by service g t link c so.row rests.stands so.its e loss nobody_on decided.still (is_its it) its_apart)
        (subst (λ (tale : Tale). Stands service (with_over tale) now) (sym step_is) stands4)
        (λ x. decided.overs x ∙ ap (λ (b : Bool). g.over x || b) (sym (decided.ends x)))
        (λ x apart full. others x (its_apart x apart) full)
        (λ x there mine going full. absurd (true≢false (sym (ap over (client_of x.number it.number mine) ∙ over3) ∙ going))) where
          its_apart : (x : ClientNo) → is_its it x ≡ false → is_client c x ≡ false
          its_apart x apart = by (is_client c x) refl where
            by : (b : Bool) → is_client c x ≡ b → is_client c x ≡ false
            by false other = other
            by true mine = absurd (true≢false (sym (client-same x it.number (sym (client-true c x mine) ∙ sym it_number)) ∙ apart))

    pub at_once_clients : (tale_step g.setup g.plan g.tale e).clients ≡ g.tale.clients
    at_once_clients =
        ap (λ (tale : Tale). tale.clients) step_is
        ∙ clients3 service g t roomy link c so.row rests so.its e loss nobody_on decided.still links so.ends.homes homed over so.ends.left so.between
        (first_stands law alike) still_left so.ends.freed counting testing alike frees rising

  and_left : (a b : Bool) → (a && b) ≡ true → a ≡ true
  and_left true b is = refl
  and_left false b is = is

  pub at_once_due : IsDueBehind g log e (ends_of c true) over now
  at_once_due = record {
    writes = λ x there. inl (unwritten e loss.silent x.link);
    unread = λ x there is. loss.unread x.link;
    says = λ was x there on_it mine going word at. absurd (none-some word (sym (no_word was x on_it mine) ∙ at));
    there = λ x there mine.
        ap (λ (n : ClientNo). is_some (now.clients n)) (sym (client-true c x.number (and_left (is_client c x.number) true mine)))
        ∙ ap is_some (left_there c ended so.between now so.again.row so.again.there so.again.same);
    comes = λ x there come. absurd (loss.none_comes g.tale x come);
  } where
    no_word : (was x : tales.Client) → IsContinued g.plan g.tale e was x → (is_client c was.number && true) ≡ true
        → word_at g.plan (behind g e over).tale.moment x.number ≡ None
    no_word was x on_it mine =
        (λ i. word_at g.plan (moment_more g.setup g.plan g.tale e i)
        ((on_it.number ∙ sym (client-true c was.number (and_left (is_client c was.number) true mine))) i)) ∙ wordless
