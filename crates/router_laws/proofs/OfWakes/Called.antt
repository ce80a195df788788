-- The tables rest behind an entry at which clients are called.
use Rattle.std.specs.Prelude.{◌≡◌, ◌<◌, ◌≤◌, ◌+◌, ◌||◌, ◌&&◌, not, ℕ, suc, Bool, true, false, All, cond, filter, if◌then◌else◌, length, map, List, [], ◌∷◌, Some}
use Rattle.std.proofs.Common.{refl, sym, ap, ◌∙◌, subst, arith}
use Rattle.std.proofs.lemmas.Bool.{false≢true, ne_eqb, or_parts, true≢false}
use Rattle.std.proofs.lemmas.List.Elements.{All-cons, All-filter, All-head, All-nil, All-tail, All-weaker, filter_passes}
use Rattle.mx_wire.specs.declared.entry.Entry.{Entry}
use Rattle.client_session.specs.Setups.{Setup as Service}
use Rattle.private_model.proofs.Maps.{client_of}
use Rattle.private_model.specs.Names.{ClientNo, LinkId}
use Rattle.private_model.specs.Story.{Left, is_client}
use Rattle.log_story.specs.Servers.{links_are_freed}
use Rattle.log_story.specs.Tale as tales
use Rattle.log_story.specs.Tale.{Tale, counted, is_to_server, tell}
use Rattle.log_story.specs.Telling.{tale_step, told}
use Rattle.row_laws.specs.Readied.{AreClasses}
use Rattle.client_seat.specs.Seats.{is_ended}
use Rattle.step_laws.proofs.Apart.{counted_apart, freed_apart}
use Rattle.step_laws.proofs.Giving.{kept_in}
use Rattle.step_laws.proofs.Leaving.{leave_spares}
use Rattle.step_laws.proofs.Others.{idle_alike, idle_by, spared_alike}
use Rattle.step_laws.proofs.Seating.{counted_seats}
use Rattle.step_laws.specs.Freed.{Ascend, NoneDone, freed_in}
use Rattle.step_laws.specs.Seats.{AreCounted, IsSeated, clients_of, numbers, seats}
use Rattle.step_laws.specs.Steps.{ended_now, ends_now, leave}
use Rattle.step_laws.specs.Taken.{ArePassedBut, AreSingle, GivesUpNone, IsIdle, SparesOthers, is_called as is_called_by}
use Rattle.core_tables.specs.Tables.{Tabled}
use Rattle.core_tables.specs.declared.client.Client.{Client}
use Rattle.core_stands.specs.Clients.{IsClient, IsPhase}
use Rattle.core_stands.specs.Grounds.{Ground, on, view_on}
use Rattle.core_stands.specs.Stands.{IsCalm, Rests, Stands}
use Rattle.core_laws.proofs.OfEntry.Lists.{seated_of}
use Rattle.core_laws.proofs.OfEntry.Resting.{entry_rests}
use Rattle.core_laws.specs.entry.Entries.{AreCalmToo, KeepsIdle, KeepsSeats, behind}
use Rattle.core_laws.specs.entry.Freeing.{all_freed}
use Rattle.core_laws.proofs.OfClients.Facts.{its_row}
use Rattle.core_laws.specs.clients.Turns.{count_by}
use Rattle.router_laws.proofs.OfWakes.Aligned.{AreNamed, aligned, called_of, callers_are, ended_among, ended_are, none_ended_in, one_ended_in}
use Rattle.router_laws.proofs.OfWakes.Callers.{AllWent, AreApart, AreCallers, DonesOf, IsAt, IsCaller, IsDone, all_gone, all_went, ended_on, is_in}
use Rattle.router_laws.proofs.OfWakes.Going.{Laws}
use Rattle.router_laws.proofs.OfWakes.Homed as homing
use Rattle.router_laws.proofs.OfWakes.Later.{duly_behind, later_itself, lawful_behind}
use Rattle.router_laws.proofs.OfWakes.Reordered.{stands_alike}
use Rattle.router_laws.proofs.OfWakes.Stepped as stepping
use Rattle.router_laws.specs.wakes.Calling.{Caller, CallsSo, IsThere, is_called}
use Rattle.router_laws.specs.wakes.Deciding.{found_in}

abbrev pub Frees : Type 0
Frees = (service : Service) (g : Ground) (t : Tabled) (links : List LinkId) → Stands service g t → All (λ (l : LinkId). is_to_server g.tale l ≡ true) links
    → Stands service (on g (freed_in g.setup g.plan links g.tale)) (all_freed links t)

-- Clients count up, and each has its number for itself.

abbrev of_number : ClientNo → List tales.Client → List tales.Client
of_number c xs = filter (λ (x : tales.Client). is_client x.number c) xs

seat_within : (from : ℕ) (xs : List tales.Client) → AreCounted from (map (λ (x : tales.Client). x.number) xs) → (c : ClientNo) (client : tales.Client)
    → filter (λ (x : tales.Client). is_client x.number c) xs ≡ client ∷ [] → (from ≤ c.0) × (c.0 < from + length xs)
seat_within from [] are c client seated = let none : 0 ≡ 1 = ap (λ (ys : List tales.Client). length ys) seated in absurd (omega (arith, none))
seat_within from (x ∷ xs) are c client seated = by (λ there. seat_within (suc from) xs are.1 c client there) (is_client x.number c) refl where
  by : (of_number c xs ≡ client ∷ [] → (suc from ≤ c.0) × (c.0 < suc from + length xs)) → (b : Bool) → is_client x.number c ≡ b
      → (from ≤ c.0) × (c.0 < from + suc (length xs))
  by on true same =
      let first : x.number.0 ≡ from = are.0 in
      let number : x.number.0 ≡ c.0 = ap (λ (n : ClientNo). n.0) (client_of x.number c same) in (omega (arith, first, number), omega (arith, first, number))
  by on false other =
      let later = on (sym (ap (λ (b : Bool). cond b (x ∷ of_number c xs) (of_number c xs)) other) ∙ seated) in
      let lower : suc from ≤ c.0 = later.0 in
      let upper : c.0 < suc from + length xs = later.1 in (omega (arith, lower), omega (arith, upper))

above_all : (from : ℕ) (xs : List tales.Client) → AreCounted from (map (λ (x : tales.Client). x.number) xs) → All (λ (x : tales.Client). from ≤ x.number.0) xs
above_all from [] are = All-nil (λ (x : tales.Client). from ≤ x.number.0)
above_all from (x ∷ xs) are =
    let first : x.number.0 ≡ from = are.0 in
    All-cons (λ (y : tales.Client). from ≤ y.number.0) x xs (omega (arith, first))
    (All-weaker (λ (y : tales.Client). suc from ≤ y.number.0) (λ (y : tales.Client). from ≤ y.number.0) (λ y above. omega (arith, above)) xs
    (above_all (suc from) xs are.1))

module _ (called : ClientNo → Bool) where
  abbrev kept : List tales.Client → List tales.Client
  kept xs = filter (λ (x : tales.Client). called x.number) xs

  apart_by : (x : tales.Client) (ys : List tales.Client) → All (λ (y : tales.Client). is_client y.number x.number ≡ false) ys → AreApart [] ys → (b : Bool)
      → AreApart [] (cond b (x ∷ ys) ys)
  apart_by x ys others apart true = (All-nil (λ (c : ClientNo). is_client x.number c ≡ false), others, apart)
  apart_by x ys others apart false = apart

  pub kept_apart : (from : ℕ) (xs : List tales.Client) → AreCounted from (map (λ (x : tales.Client). x.number) xs) → AreApart [] (kept xs)
  kept_apart from [] are = tt
  kept_apart from (x ∷ xs) are =
      let first : x.number.0 ≡ from = are.0 in
      apart_by x (kept xs)
      (All-filter (λ (y : tales.Client). called y.number) (λ (y : tales.Client). is_client y.number x.number ≡ false) xs
      (All-weaker (λ (y : tales.Client). suc from ≤ y.number.0) (λ (y : tales.Client). is_client y.number x.number ≡ false)
      (λ y above. let more : suc from ≤ y.number.0 = above in ne_eqb y.number.0 x.number.0 (λ same. omega (arith, same, more, first))) xs
      (above_all (suc from) xs are.1)))
      (kept_apart (suc from) xs are.1) (called x.number)

-- By a plan that has what was decided.
pub record IsCalling (service : Service) (default : List ℕ) (g : Ground) (e : Entry) (callers : List Caller) (over roomy room : ClientNo → Bool) : Type 0 where
  pub told_same : told g.setup g.plan g.tale e ≡ g.tale
  pub single : (whose : ClientNo → Bool) → AreSingle g.plan whose
  pub classes : AreClasses g.setup.reads
  pub plans : All (λ (caller : Caller).
      (x : tales.Client) → IsSeated g.tale x → x.number ≡ caller.client → g.over x.number ≡ false → IsCaller service default g caller x) callers
  pub keeps : All (λ (x : tales.Client). is_called callers x.number ≡ false → GivesUpNone g.plan (suc g.tale.moment) x) g.tale.clients
  pub passes : ArePassedBut g.setup g.plan (view_on g) e (is_called callers) (counted g.tale)
  pub calls : All (λ (x : tales.Client). g.over x.number ≡ false → is_called callers x.number ≡ true
      → is_called_by g.plan (suc g.tale.moment) (view_on g) e x ≡ true) g.tale.clients
  pub endless : (c : ClientNo) → is_called callers c ≡ false → ends_now g.plan (suc g.tale.moment) c ≡ false
  pub overs : (c : ClientNo) → over c ≡ (g.over c || ends_now g.plan (suc g.tale.moment) c)
  pub rooms : All (λ (x : tales.Client). is_called callers x.number ≡ false → g.over x.number ≡ false → room x.number ≡ false → roomy x.number ≡ false)
      g.tale.clients
  pub rising : Ascend (λ l. l.0) g.tale.links

-- Of a client that was called so many messages were taken up.
pub record IsCounted (g : Ground) (callers : List Caller) (x : tales.Client) : Type 0 where
  pub caller : Caller
  pub found : found_in callers x.number ≡ Some caller
  pub first : tales.Client
  pub seated : IsSeated g.tale first
  pub number : first.number ≡ x.number
  pub count : x.taken ≡ first.taken + count_by caller.choices caller.halt

going_by : (b : Bool) → b ≡ false → (g : Ground) (client : tales.Client) (row : Client) → IsPhase b g client row → g.over client.number ≡ false
going_by false is g client row phase = phase.going
going_by true is g client row phase = absurd (true≢false is)

module _ (laws : Laws) (frees : Frees) (service : Service) (default : List ℕ) (g : Ground) (t mid now : Tabled) (roomy room over : ClientNo → Bool) (e : Entry)
    (callers : List Caller) (links : List LinkId) (rests : Rests service g t roomy) (is : IsCalling service default g e callers over roomy room)
    (stands : Stands service (on g (counted g.tale)) mid) (rested : NoneDone g.setup g.plan (counted g.tale))
    (so : CallsSo service default callers links mid now) where
  abbrev called : ClientNo → Bool
  called = is_called callers

  abbrev heard : Tale
  heard = counted g.tale

  abbrev xs : List tales.Client
  xs = clients_of called heard

  abbrev late : Tale
  late = all_gone g.setup g.plan xs heard

  abbrev ended : List ClientNo
  ended = ended_now g.plan heard

  abbrev last : Tale
  last = leave ended late

  -- Whom code calls.

  pub numbered : AreCounted 1 (numbers heard)
  numbered = stands.clients.counted

  -- a client that code calls goes on
  pub record IsGoing (c : ClientNo) : Type 0 where
    pub client : tales.Client
    pub seated : IsSeated heard client
    pub number : client.number ≡ c
    pub going : g.over c ≡ false

  going_there : (c : ClientNo) → IsThere mid c → IsGoing c
  going_there c there =
      let known = stands.clients.known c there.row there.there in
      let at : mid.clients known.0.number ≡ Some there.row = ap mid.clients known.1.number ∙ there.there in
      let row : IsClient (on g heard) known.0 there.row = its_row service (on g heard) mid known.0 there.row stands known.1.seated at in
      record {
        client = known.0;
        seated = known.1.seated;
        number = known.1.number;
        going = ap g.over (sym known.1.number) ∙ going_by (is_ended there.row.desk.seat.phase) there.going (on g heard) known.0 there.row row.phase;
      }

  all_going : All (λ (k : Caller). IsGoing k.client) callers
  all_going = All-weaker (λ (k : Caller). IsThere mid k.client) (λ (k : Caller). IsGoing k.client) (λ k there. going_there k.client there) callers so.there

  named : AreNamed callers xs
  named =
      aligned called 1 heard.clients numbered callers so.in_order
      (All-weaker (λ (k : Caller). IsGoing k.client) (λ (k : Caller). (1 ≤ k.client.0) × (k.client.0 < 1 + length heard.clients))
      (λ k at.
      seat_within 1 heard.clients numbered k.client at.client
      (ap (λ (c : ClientNo). filter (λ (x : tales.Client). is_client x.number c) heard.clients) (sym at.number) ∙ at.seated)) callers all_going)
      (λ i d within. refl)

  all_seated : All (IsSeated heard) heard.clients
  all_seated = counted_seats heard numbered

  pub seated_xs : All (IsSeated heard) xs
  seated_xs = All-filter (λ (x : tales.Client). called x.number) (IsSeated heard) heard.clients all_seated

  theirs_xs : All (λ (x : tales.Client). called x.number ≡ true) xs
  theirs_xs = filter_passes (λ (x : tales.Client). called x.number) heard.clients

  abbrev HasPlan : Caller → Type 0
  HasPlan caller = (x : tales.Client) → IsSeated g.tale x → x.number ≡ caller.client → g.over x.number ≡ false → IsCaller service default g caller x

  pub are : AreCallers service default g callers xs
  are =
      callers_are service default g (λ (k : Caller). HasPlan k × IsGoing k.client) (IsSeated heard)
      (λ caller x both seated number. both.0 x seated number (ap g.over number ∙ both.1.going)) callers xs named
      (λ i d within. (is.plans i d within, all_going i d within)) seated_xs

  -- They went on.

  or_nobody : (a : Bool) → a ≡ (a || false)
  or_nobody true = refl
  or_nobody false = refl

  abbrev First : Type 0
  First = IsAt laws service default g rests.looked is.classes is.single [] heard heard g.over mid

  pub first : First
  first = record {
    stands = stands;
    later = later_itself g.setup g.plan heard;
    overs = λ c. or_nobody (g.over c);
    moment = refl;
  }

  abbrev Went : Type 0
  Went = AllWent laws service default g rests.looked is.classes is.single [] heard callers xs so.turned

  went : Went
  went =
      all_went laws service default g rests.looked is.classes is.single callers xs are [] heard heard g.over mid so.turned
      (kept_apart called 1 heard.clients numbered) seated_xs first so.going

  -- Those who end.

  abbrev ends : ClientNo → Bool
  ends c = ends_now g.plan (suc g.tale.moment) c

  ended_is : ended_on callers xs [] ≡ ended
  ended_is =
      ended_are service default g callers xs are []
      ∙ ended_among called ends heard.clients (λ i d within. λ other. is.endless _ other)

  its_end : (c : ClientNo) → ends c ≡ true → (b : Bool) → called c ≡ b → called c ≡ true
  its_end c ending true its = its
  its_end c ending false other = absurd (true≢false (sym ending ∙ is.endless c other))

  ended_in : (c : ClientNo) (b : Bool) → ends c ≡ b → is_in ended c ≡ ends c
  ended_in c false none = none_ended_in ends c (numbers heard) none ∙ sym none
  ended_in c true ending =
      let at : IsGoing c = called_of IsGoing c callers all_going (its_end c ending (called c) refl) in
      one_ended_in ends c heard.clients at.client
      (ap (λ (n : ClientNo). filter (λ (x : tales.Client). is_client x.number n) heard.clients) (sym at.number) ∙ at.seated) ending
      ∙ sym ending

  over_is : went.over ≡ over
  over_is = λ i c. (went.at.overs c ∙ ap (λ (cs : List ClientNo). g.over c || is_in cs c) ended_is
      ∙ ap (λ (b : Bool). g.over c || b) (ended_in c (ends c) refl) ∙ sym (is.overs c)) i

  all_end : All (λ (c : ClientNo). called c ≡ true) ended
  all_end =
      All-weaker (λ (c : ClientNo). ends c ≡ true) (λ (c : ClientNo). called c ≡ true) (λ c ending. its_end c ending (called c) refl) ended
      (filter_passes ends (numbers heard))

  -- The tables stand for the tale in which they leave behind all.
  stands_last : Stands service (record g { tale = last; over = over }) so.turned
  stands_last =
      subst (λ (by : ClientNo → Bool). Stands service (record g { tale = last; over = by }) so.turned) over_is
      (subst (λ (cs : List ClientNo). Stands service (record g { tale = leave cs late; over = went.over }) so.turned) ended_is
      (stands_alike service (record g { over = went.over }) went.early (leave (ended_on callers xs []) late) so.turned went.at.later.like
      (lawful_behind g.setup g.plan (ended_on callers xs []) late (went.at.later.lawful went.at.stands.lawful))
      (duly_behind g.setup g.plan (ended_on callers xs []) late (went.at.later.duly went.at.stands.duly)) went.at.stands))

  -- The step.

  calls_xs : All (λ (x : tales.Client). is_called_by g.plan heard.moment (view_on g) e x ≡ true) xs
  calls_xs =
      All-weaker (λ (x : tales.Client). (g.over x.number ≡ false → called x.number ≡ true → is_called_by g.plan heard.moment (view_on g) e x ≡ true)
      × (called x.number ≡ true)) (λ (x : tales.Client). is_called_by g.plan heard.moment (view_on g) e x ≡ true)
      (λ x both. both.0 (called_of IsGoing x.number callers all_going both.1).going both.1) xs
      (λ i d within. (
        All-filter (λ (x : tales.Client). called x.number)
            (λ (x : tales.Client). g.over x.number ≡ false → called x.number ≡ true → is_called_by g.plan heard.moment (view_on g) e x ≡ true) heard.clients
            is.calls i d within,
        theirs_xs i d within,
      ))

  spares : SparesOthers g.setup called heard late
  spares = stepping.late_spares g.setup g.plan is.single g.tale e is.told_same called rested is.passes calls_xs theirs_xs

  abbrev freed : Tale
  freed = links_are_freed g.setup g.plan last

  step_is : tale_step g.setup g.plan g.tale e ≡ freed
  step_is = stepping.step_is g.setup g.plan is.single g.tale e is.told_same called rested is.passes calls_xs theirs_xs

  last_spares : SparesOthers g.setup called heard last
  last_spares = homing.all_spared service g heard late mid callers links stands so.homes so.there rested spares ended all_end

  freed_is : freed ≡ freed_in g.setup g.plan links last
  freed_is = homing.as_named service g heard late mid callers links stands so.homes so.there rested spares ended all_end is.rising

  stands_freed : Stands service (record g { tale = freed; over = over }) now
  stands_freed =
      laws.same service (record g { tale = freed; over = over }) (all_freed links so.turned) now
      (subst (λ (x : Tale). Stands service (record g { tale = x; over = over }) (all_freed links so.turned)) (sym freed_is)
      (frees service (record g { tale = last; over = over }) so.turned links stands_last
      (homing.all_to_servers service g heard late mid callers links stands so.homes so.there rested spares ended all_end))) so.freed

  -- Others stand as they stood.

  abbrev new : Ground
  new = behind g e over

  freed_clients : freed.clients ≡ last.clients
  freed_clients = kept_in g.setup g.plan (λ (x : Tale). x.clients) (λ story x. refl) last.links last

  freed_seat : (n : ClientNo) → seats freed n ≡ seats last n
  freed_seat n = ap (λ (ys : List tales.Client). seats (record last { clients = ys }) n) freed_clients

  pub keeps_seats : KeepsSeats called g.tale new.tale
  keeps_seats = subst (KeepsSeats called g.tale) (sym step_is) (λ n other. freed_seat n ∙ last_spares.seat n other)

  freed_idle : (c : tales.Client) → IsIdle g.setup g.plan last c → IsIdle g.setup g.plan freed c
  freed_idle c idle = idle_by g.setup g.plan c last freed (freed_apart g.setup g.plan c last.links last).up idle

  abbrev IsKept : tales.Client → Type 0
  IsKept c = called c.number ≡ false → GivesUpNone g.plan (suc g.tale.moment) c

  keeps_idle : KeepsIdle called g.setup g.plan g.tale new.tale
  keeps_idle = subst (KeepsIdle called g.setup g.plan g.tale) (sym step_is) each where
    each : KeepsIdle called g.setup g.plan g.tale freed
    each c seated other idle =
        freed_idle c (idle_alike g.setup g.plan c heard last (spared_alike g.setup g.plan called heard last last_spares c other)
        (idle_by g.setup g.plan c g.tale heard
        (counted_apart g.setup g.plan c g.tale (seated_of IsKept g.tale c seated is.keeps other)).up idle))

  -- Who was called has nothing more to take up, or was ended.

  abbrev DoneOf : List Caller → List tales.Client → Type 0
  DoneOf cs ys = DonesOf laws service default g rests.looked is.classes is.single cs ys late

  pub record IsOver (cs : List Caller) (c : ClientNo) : Type 0 where
    pub caller : Caller
    pub found : found_in cs c ≡ Some caller
    pub x : tales.Client
    pub seated : IsSeated heard x
    pub number : x.number ≡ c
    pub is_caller : IsCaller service default g caller x
    pub done : IsDone laws service default g rests.looked is.classes is.single late caller x

  over_first : (c : ClientNo) (k : Caller) (ks : List Caller) (y : tales.Client) → IsSeated heard y → IsCaller service default g k y
      → IsDone laws service default g rests.looked is.classes is.single late k y → (is_called ks c ≡ true → IsOver ks c) → (b : Bool)
      → is_client c k.client ≡ b → (b || is_called ks c) ≡ true → IsOver (k ∷ ks) c
  over_first c k ks y seated caller done later true same there = record {
    caller = k;
    found = ap (λ (b : Bool). if b then Some k else found_in ks c) same;
    x = y;
    seated = seated;
    number = caller.number ∙ sym (client_of c k.client same);
    is_caller = caller;
    done = done;
  }
  over_first c k ks y seated caller done later false other there =
      let at : IsOver ks c = later there in
      record {
        caller = at.caller;
        found = ap (λ (b : Bool). if b then Some k else found_in ks c) other ∙ at.found;
        x = at.x;
        seated = at.seated;
        number = at.number;
        is_caller = at.is_caller;
        done = at.done;
      }

  over_of : (c : ClientNo) (cs : List Caller) (ys : List tales.Client) → AreCallers service default g cs ys → All (IsSeated heard) ys → DoneOf cs ys
      → is_called cs c ≡ true → IsOver cs c
  over_of c [] ys theirs seated dones there = absurd (false≢true there)
  over_of c (k ∷ ks) [] theirs seated dones there = absurd theirs
  over_of c (k ∷ ks) (y ∷ ys) theirs seated dones there =
      over_first c k ks y (All-head (IsSeated heard) y ys seated) theirs.0 dones.0
      (over_of c ks ys theirs.1 (All-tail (IsSeated heard) y ys seated) dones.1) (is_client c k.client) refl there

  leave_clients : (cs : List ClientNo) (tale : Tale) → (leave cs tale).clients ≡ tale.clients
  leave_clients [] tale = refl
  leave_clients (c ∷ cs) tale = leave_clients cs (tell (Left c) tale)

  new_clients : new.tale.clients ≡ late.clients
  new_clients = ap (λ (x : Tale). x.clients) step_is ∙ freed_clients ∙ leave_clients ended late

  its_last : (x : tales.Client) → IsSeated new.tale x → (at : IsOver callers x.number) → x ≡ at.done.last
  its_last x seated at =
      let number : x.number ≡ at.done.last.number = sym (at.done.number ∙ at.number) in
      let both : x ∷ [] ≡ at.done.last ∷ [] =
      sym seated ∙ (λ i. filter (λ (other : tales.Client). is_client other.number (number i)) (new_clients i)) ∙ at.done.seated in
      cc

  over_at : (c : ClientNo) → called c ≡ true → IsOver callers c
  over_at c its = over_of c callers xs are seated_xs went.dones its

  leaving_idle : (x : tales.Client) → ends x.number ≡ false → IsIdle g.setup g.plan late x → IsIdle g.setup g.plan last x
  leaving_idle x none idle =
      idle_alike g.setup g.plan x late last
      (spared_alike g.setup g.plan ends late last (leave_spares g.setup ends ended late (filter_passes ends (numbers heard))) x none) idle

  -- who has room again, and isn't called, still has
  abbrev roomier : ClientNo → Bool
  roomier c = room c || (roomy c && not (called c))

  going_then : (c : ClientNo) → over c ≡ false → (g.over c ≡ false) × (ends c ≡ false)
  going_then c going = or_parts (g.over c) (ends c) (sym (is.overs c) ∙ going)

  calm_too : AreCalmToo called new roomier
  calm_too x seated its going full =
      let at : IsOver callers x.number = over_at x.number its in
      let same : x ≡ at.done.last = its_last x seated at in
      let none : ends x.number ≡ false = (going_then x.number going).1 in
      let unended = sym at.is_caller.ends ∙ ap ends at.number ∙ none in
      let idle : IsIdle g.setup g.plan late x = subst (λ (y : tales.Client). IsIdle g.setup g.plan late y) (sym same) (at.done.idle unended) in
      subst (λ (tale : Tale). IsIdle g.setup g.plan tale x) (sym step_is) (freed_idle x (leaving_idle x none idle))

  not_roomy : (a b : Bool) → b ≡ false → (a && not b) ≡ false → a ≡ false
  not_roomy true b other none = absurd (true≢false (sym (ap not other) ∙ none))
  not_roomy false b other none = refl

  rooms : (c : ClientNo) → called c ≡ false → roomier c ≡ false → roomy c ≡ false
  rooms c other full = not_roomy (roomy c) (called c) other (or_parts (room c) (roomy c && not (called c)) full).1

  roomier_rests : Rests service new now roomier
  roomier_rests =
      entry_rests service g t now roomy roomier e over called rests
      (subst (λ (x : Tale). Stands service (record g { tale = x; over = over }) now) (sym step_is) stands_freed) is.overs keeps_seats keeps_idle rooms calm_too

  or_none : (a b : Bool) → a ≡ false → b ≡ false → (a || b) ≡ false
  or_none true b is none = is
  or_none false b is none = none

  and_none : (a : Bool) → (a && false) ≡ false
  and_none true = refl
  and_none false = refl

  -- whoever goes on and isn't called had no room before
  full_too : (a b : Bool) → (b ≡ false → a ≡ false) → (a && not b) ≡ false
  full_too a true how = and_none a
  full_too a false how = ap (λ (x : Bool). x && true) (how refl)

  is_full : (x : tales.Client) → IsSeated new.tale x → over x.number ≡ false → room x.number ≡ false → called x.number ≡ false → roomy x.number ≡ false
  is_full x seated going full other =
      let before : IsSeated g.tale x = sym (keeps_seats x.number other) ∙ seated in
      seated_of (λ (y : tales.Client). called y.number ≡ false → g.over y.number ≡ false → room y.number ≡ false → roomy y.number ≡ false) g.tale x before
      is.rooms other (going_then x.number going).0 full

  pub rests_behind : Rests service new now room
  rests_behind = record {
    stands = roomier_rests.stands;
    over = roomier_rests.over;
    looked = roomier_rests.looked;
    rested = roomier_rests.rested;
    calm = All-weaker (λ (x : tales.Client). IsCalm new roomier x × IsSeated new.tale x) (IsCalm new room)
        (λ x both going full.
        both.0 going (or_none (room x.number) (roomy x.number && not (called x.number)) full
        (full_too (roomy x.number) (called x.number) (is_full x both.1 going full)))) new.tale.clients
        (λ i d within. (roomier_rests.calm i d within, counted_seats new.tale roomier_rests.stands.clients.counted i d within));
  }

  -- What is counted.

  pub counts : (x : tales.Client) → IsSeated new.tale x → called x.number ≡ true → IsCounted g callers x
  counts x seated its =
      let at : IsOver callers x.number = over_at x.number its in
      let same : x ≡ at.done.last = its_last x seated at in
      record {
        caller = at.caller;
        found = at.found;
        first = at.x;
        seated = at.seated;
        number = at.number;
        count = ap (λ (y : tales.Client). y.taken) same ∙ at.done.count;
      }
