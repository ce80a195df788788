-- Where the loop waits, each client is told all that it is due, or its link takes no more.
use Rattle.std.specs.Prelude.{All, ◌≡◌, ◌⊎◌, ℕ, suc, Bool, true, false, ◌&&◌, bytes_eq, drop, find, length, if◌then◌else◌, List, [], ◌∷◌, Option, Some, None}
use Rattle.std.proofs.Common.{refl, sym, ap, ◌∙◌, subst, arith, inl, inr}
use Rattle.std.proofs.lemmas.Slice.Eq.{bytes_eq-Decides}
use Rattle.mx_wire.specs.Log.{Log, is_open, written_of}
use Rattle.mx_wire.specs.Moments.{AllLawful, AtEachMoment}
use Rattle.mx_wire.specs.declared.entry.Entry.{Entry}
use Rattle.ready_loop.specs.Drained.{write_dry}
use Rattle.private_model.proofs.Maps as maps
use Rattle.private_model.proofs.Maps.{same_link}
use Rattle.private_model.specs.Story.{is_link_id}
use Rattle.log_story.specs.Honest.{IsFront}
use Rattle.log_story.specs.Owed.{due_bytes}
use Rattle.log_story.specs.Plan.{is_by_now}
use Rattle.log_story.specs.Tale.{Client, Tale, is_to_server, view_of}
use Rattle.tale_world.specs.Decided.{plan_of}
use Rattle.tale_world.specs.Deciding.{World}
use Rattle.router_promises.specs.Closes.{has_bytes}
use Rattle.router_promises.specs.Due.{DueSo, due_to}
use Rattle.router_promises.specs.Now.{Now}
use Rattle.router_promises.specs.Terms.{Terms, plan_in, tale_at}
use Rattle.router_promises.specs.Wakes.{has_ended}
use Rattle.shared_router.specs.Fixed.{Fixed, IsNumbered, setup_of}
use Rattle.shared_router.specs.Known.{Known, known}
use Rattle.shared_router.specs.More.{More, now_of}
use Rattle.shared_router.specs.Ours.{IsOurLog, MayWait}
use Rattle.shared_router.specs.Owed.{Owed, may_part, owed_on, owed_on_client, owed_on_server, parts}
use Rattle.shared_router.specs.Shared.{final_terms, world_at}
use Rattle.shared_router.specs.Waited.{AreTold, AsItWaits, IsTold}
use Rattle.shared_router.proofs.Along.{IsAt, as_it_waits, moment_at}
use Rattle.shared_router.proofs.Apart as apart
use Rattle.shared_router.proofs.Apart.{IsSeat, seats_at}
use Rattle.shared_router.proofs.Calming.{left_false, nobody_parts, then_false}
use Rattle.shared_router.proofs.Distinct.{Distinct, IsApart, distinct_at}
use Rattle.shared_router.proofs.Greeting.{all_of}
use Rattle.shared_router.proofs.Looked.{Each, IsLooked, each-all, each-so, looks_at}
use Rattle.shared_router.proofs.Owes.{owes-so}
use Rattle.shared_router.proofs.Parting.{tale_then}
use Rattle.shared_router.proofs.Sparing.{ended_same}
use Rattle.shared_router.proofs.Staying.{log_at}

pub all-each : (P : Client → Type 0) (xs : List Client) → All P xs → Each P xs
all-each P [] all = tt
all-each P (x ∷ xs) all = (all 0 x (omega arith), all-each P xs (λ i d within. all (suc i) d (omega (arith, within))))

pub each-and : (P Q : Client → Type 0) (xs : List Client) → Each P xs → Each Q xs → Each (λ (c : Client). P c × Q c) xs
each-and P Q [] one other = tt
each-and P Q (x ∷ xs) one other = ((one.0, other.0), each-and P Q xs one.1 other.1)

-- a client's link is that client's alone

isnt : {A : Type 0} → true ≡ false → A
isnt is = absurd (cc)

abbrev finds : List Client → Client → Option Client
finds xs client = find (λ (x : Client). is_link_id x.link client.link) xs

apart-other : (x c : Client) → IsApart x.link c → is_link_id x.link c.link ≡ false
apart-other x c apart = by_test (is_link_id x.link c.link) refl where
  by_test : (b : Bool) → is_link_id x.link c.link ≡ b → b ≡ false
  by_test false at = refl
  by_test true at =
      isnt (sym (same_link c.link) ∙ ap (is_link_id c.link) (sym (maps.link_of x.link c.link at)) ∙ apart)

found_there : (xs : List Client) → Distinct xs → Each (λ (c : Client). finds xs c ≡ Some c) xs
found_there [] all = tt
found_there (x ∷ xs) all = (
  ap (λ b. if b then Some x else finds xs x) (same_link x.link),
  later xs (found_there xs all.1) all.0,
) where
  later : (ys : List Client) → Each (λ (c : Client). finds xs c ≡ Some c) ys → Each (IsApart x.link) ys
      → Each (λ (c : Client). finds (x ∷ xs) c ≡ Some c) ys
  later [] found apart = tt
  later (y ∷ ys) found apart = (ap (λ b. if b then Some x else finds xs y) (apart-other x y apart.0) ∙ found.0, later ys found.1 apart.1)

none_each : (test : Client → Bool) (xs : List Client) → find test xs ≡ None → Each (λ (c : Client). test c ≡ false) xs
none_each test [] none = tt
none_each test (x ∷ xs) none = by_test (test x) refl none (none_each test xs) where
  by_test : (b : Bool) → test x ≡ b → (if b then Some x else find test xs) ≡ None → (find test xs ≡ None → Each (λ (c : Client). test c ≡ false) xs)
      → (test x ≡ false) × Each (λ (c : Client). test c ≡ false) xs
  by_test true at none later = absurd (cc)
  by_test false at none later = (at, later none)

seats_of : (fixed : Fixed) (log : Log) (xs : List Client) → apart.AllOf (IsSeat fixed log) xs → Each (λ (c : Client). IsSeat fixed log c.link) xs
seats_of fixed log [] all = tt
seats_of fixed log (x ∷ xs) all = (all.0, seats_of fixed log xs all.1)

-- what is owed to a client is what of its due isn't written
module _ (k : Known) (client : Client) (seat : is_to_server k.now.tale client.link ≡ false) (found : finds k.now.tale.clients client ≡ Some client) where
  owed_is : (owed_on k client.link).bytes ≡ drop (length (written_of client.link k.log)) (due_to k.terms k.now client)
  owed_is =
      ap (λ b. (by_server b).bytes) seat ∙ ap (λ o. (owed_on_client k o).bytes) found
    where
      by_server : Bool → Owed
      by_server b = if b then owed_on_server k client.link else owed_on_client k (find (λ (x : Client). is_link_id x.link client.link) k.now.tale.clients)

module _ (fixed : Fixed) (numbered : IsNumbered fixed) (before later : Log) (e : Entry) (log : Log) (at : IsAt log before e later) where
  abbrev w : World More
  w = world_at fixed before

  abbrev k : Known
  k = known fixed w

  abbrev now : Now
  now = now_of fixed w

  abbrev last : Terms
  last = final_terms fixed log

  due_same : (client : Client) → IsLooked w.decided client → due_to last now client ≡ due_to k.terms now client
  due_same client looked =
      subst (λ l. due_bytes (view_of (setup_of fixed) w.tale).replies (plan_of (world_at fixed l).decided) w.tale.moment client ≡ due_to k.terms now client) at.is
      (owes-so fixed before (e ∷ later) (view_of (setup_of fixed) w.tale).replies client looked)

  module _ (may : MayWait k) (client : Client) (looked : IsLooked w.decided client) (seat : is_to_server w.tale client.link ≡ false)
      (found : finds w.tale.clients client ≡ Some client) (stays : parts k client ≡ false)
      (front : IsFront (written_of client.link w.more.log) (due_to last now client)) where
    abbrev written : List ℕ
    written = written_of client.link w.more.log

    abbrev due : List ℕ
    due = due_to last now client

    owed_here : (owed_on k client.link).bytes ≡ drop (length written) due
    owed_here = owed_is k client seat found ∙ ap (drop (length written)) (sym (due_same client looked))

    all_or_dry : is_open client.link w.more.log ≡ true → (written ≡ due) ⊎ (write_dry client.link w.more.log ≡ true)
    all_or_dry opened = by_test (has_bytes (owed_on k client.link).bytes) refl where
      by_test : (b : Bool) → has_bytes (owed_on k client.link).bytes ≡ b → (written ≡ due) ⊎ (write_dry client.link w.more.log ≡ true)
      by_test true has = inr (may.written client.link opened has)
      by_test false none = inl (all_of written due front (ap has_bytes (sym owed_here) ∙ none))

    not_all : is_open client.link w.more.log ≡ true → has_ended last now client ≡ true → written ≡ due → ⊥
    not_all opened ended all =
        let before_so : is_by_now w.tale.moment (w.decided.ends client.number) ≡ true = sym (ended_same fixed numbered before (e ∷ later) log at.is client) ∙ ended in
        let none = then_false (is_by_now w.tale.moment (w.decided.ends client.number)) (may_part k client)
        (then_false (is_open client.link w.more.log) (is_by_now w.tale.moment (w.decided.ends client.number) && may_part k client) stays opened) before_so in
        isnt (sym ((bytes_eq-Decides written (due_to k.terms now client)).1 (all ∙ due_same client looked))
        ∙ left_false (bytes_eq written (due_to k.terms now client)) _ none)

    told_here : is_open client.link w.more.log ≡ true → IsTold last w.more.log now client
    told_here opened = record {
      told = all_or_dry opened;
      ends = λ ended. elim (all_or_dry opened) [
        | inl all ↦ absurd (not_all opened ended all)
        | inr dry ↦ dry
      ];
    }

  abbrev IsFrontOf : Client → Type 0
  IsFrontOf client = IsFront (written_of client.link w.more.log) (due_to last now client)

  abbrev IsApartFrom : Client → Type 0
  IsApartFrom client = is_to_server w.tale client.link ≡ false

  abbrev IsFound : Client → Type 0
  IsFound client = finds w.tale.clients client ≡ Some client

  abbrev Stays : Client → Type 0
  Stays client = parts k client ≡ false

  fronts_here : DueSo last before → All IsFrontOf w.tale.clients
  fronts_here dues =
      subst (λ (l : Log). All (λ (c : Client). IsFront (written_of c.link l) (due_to last now c)) w.tale.clients) (sym (log_at fixed before))
      (subst (λ (tale : Tale). All (λ (c : Client). IsFront (written_of c.link before) (due_bytes (view_of (setup_of fixed) tale).replies (plan_in last) tale.moment c)) tale.clients)
      (subst (λ l. tale_at (final_terms fixed l) before ≡ w.tale) at.is (tale_then fixed before (e ∷ later))) dues)

  told_all : MayWait k → DueSo last before → AreTold last w.more.log now
  told_all may dues =
      let xs : List Client = w.tale.clients in
      let seats : Each IsApartFrom xs = each-so (λ (c : Client). IsSeat fixed before c.link) IsApartFrom xs (λ c seat. seat.apart)
      (seats_of fixed before xs (seats_at fixed before at.so_far)) in
      let found : Each IsFound xs = found_there xs (distinct_at fixed before at.so_far) in
      let stay : Each Stays xs = none_each (parts k) xs (nobody_parts k may.acted) in
      let fronts : Each IsFrontOf xs = all-each IsFrontOf xs (fronts_here dues) in
      each-all (λ (c : Client). is_open c.link w.more.log ≡ true → IsTold last w.more.log now c) xs
      (each-so (λ (c : Client). (IsLooked w.decided c × IsApartFrom c) × ((IsFound c × Stays c) × IsFrontOf c))
      (λ (c : Client). is_open c.link w.more.log ≡ true → IsTold last w.more.log now c) xs
      (λ c facts. told_here may c facts.0.0 facts.0.1 facts.1.0.0 facts.1.0.1 facts.1.1)
      (each-and (λ (c : Client). IsLooked w.decided c × IsApartFrom c) (λ (c : Client). (IsFound c × Stays c) × IsFrontOf c) xs
      (each-and (IsLooked w.decided) IsApartFrom xs (looks_at fixed before) seats)
      (each-and (λ (c : Client). IsFound c × Stays c) IsFrontOf xs (each-and IsFound Stays xs found stay) fronts)))

pub are_told : (fixed : Fixed) (log : Log) → IsNumbered fixed → IsOurLog fixed log → AtEachMoment (DueSo (final_terms fixed log)) log
    → AllLawful (AsItWaits AreTold (final_terms fixed log)) log
are_told fixed log numbered our dues =
    as_it_waits fixed numbered log AreTold
    (λ before later e at may. told_all fixed numbered before later e log at may (moment_at (DueSo (final_terms fixed log)) before (e ∷ later) log at.is dues)) our
