-- Clients that were ended are some of those that came.
use Rattle.std.specs.Prelude.{◌≡◌, ◌+◌, ◌≤◌, ◌⊎◌, ℕ, zero, suc, Bool, true, false, ◌&&◌, ◌||◌, fold, length, map, slice_get, if◌then◌else◌, List, [], ◌∷◌, ◌++◌, Option, Some, None}
use Rattle.std.specs.List.{list_any}
use Rattle.std.specs.Option.{option_map_or}
use Rattle.std.proofs.Common.{refl, sym, ap, ◌∙◌, subst, arith, inl, inr, length-append}
use Rattle.std.proofs.lemmas.Bool.{ne_eqb, cases_order}
use Rattle.mx_wire.specs.Log.{Log}
use Rattle.mx_wire.specs.declared.entry.Entry.{Entry}
use Rattle.private_model.specs.Names.{ClientNo}
use Rattle.private_model.specs.Story.{is_client}
use Rattle.private_model.specs.View.{Setup, View}
use Rattle.log_story.specs.Owed.{messages}
use Rattle.log_story.specs.Tale.{Client, Tale, client_gets, client_hears, new_client, view_of}
use Rattle.tale_world.specs.Decided.{plan_of}
use Rattle.tale_world.specs.Deciding.{Deciding, World}
use Rattle.tale_world.specs.World.{are_taken, decided_last, decided_next, ended_now, goes_on, is_called, is_counted, is_ended, is_told, next_of, taken_once, with_taken, world_step}
use Rattle.shared_router.specs.Ends.{ending_of, goes}
use Rattle.shared_router.specs.Fixed.{Fixed, setup_of}
use Rattle.shared_router.specs.Judged.{heard}
use Rattle.shared_router.specs.More.{More}
use Rattle.shared_router.specs.Shared.{shared, world_at}
use Rattle.shared_router.proofs.Looked.{Seats, anybody, ending-clients, freeing-clients, if-anybody, taken-clients, told-seats}
use Rattle.shared_router.proofs.Single.{Numbered, going-counts, step-counts}
use Rattle.shared_router.proofs.Parting as parting
use Rattle.shared_router.proofs.Parting.{next}
use Rattle.shared_router.proofs.Since.{going-on}
use Rattle.shared_router.proofs.Worded.{ended-same-ends, going-same-ends}

-- at least so many

abbrev AtLeast : ℕ → List Client → Type 0
AtLeast n cs = n ≤ length cs

map-length : (f : Client → Client) (cs : List Client) → length (map f cs) ≡ length cs
map-length f [] = refl
map-length f (x ∷ cs) = ap (λ n. suc n) (map-length f cs)

least-seats : (n : ℕ) → Seats anybody (AtLeast n)
least-seats n = record {
  comes = λ cs port link salt comes all. (let long : length (cs ++ new_client (length cs + 1) port link salt ∷ []) ≡ length cs + 1 = length-append cs (new_client (length cs + 1) port link salt ∷ []) in omega (arith, all, long));
  hears = λ cs link bytes all. (let long = map-length (client_hears link bytes) cs in omega (arith, all, long));
  gets = λ cs link count all. (let long = map-length (client_gets link count) cs in omega (arith, all, long));
}

-- nobody has a number beyond
beyond : (c : ClientNo) (g : Client → Bool) (from : ℕ) (xs : List Client) → Numbered from xs → from + length xs ≤ c.0
    → list_any (λ (x : Client). is_client x.number c && g x) xs ≡ false
beyond c g from [] all far = refl
beyond c g from (x ∷ xs) all far =
    let apart : is_client x.number c ≡ false = ne_eqb x.number.0 c.0 (λ is. omega (arith, is, all.0, far)) in
    ap (λ b. (b && g x) || list_any (λ (x : Client). is_client x.number c && g x) xs) apart ∙ beyond c g (suc from) xs all.1 (omega (arith, far))

ended-old : (moment : ℕ) (ends : Bool) (old : Option ℕ) (at : ℕ) → ended_now moment ends old ≡ Some at → (old ≡ Some at) ⊎ (ends ≡ true)
ended-old moment true old at is = inr refl
ended-old moment false old at is = inl is

isnt : {A : Type 0} → false ≡ true → A
isnt is = absurd (cc)

module _ (fixed : Fixed) where
  abbrev setup : Setup
  setup = setup_of fixed

  abbrev by : Deciding More
  by = shared fixed

  taking-least : (n most : ℕ) (client : Client) (w : World More) → AtLeast n w.tale.clients → AtLeast n (are_taken most setup by client w).tale.clients
  taking-least n zero client w all = all
  taking-least n (suc most) client w all = by_found (taken_once setup by w client) refl (taking-least n most (next_of client)) where
    after : Option Tale → World More
    after found = option_map_or (λ tale. are_taken most setup by (next_of client) (with_taken setup by w client tale)) found (record w { decided = decided_next setup by w client })

    by_found : (found : Option Tale) → taken_once setup by w client ≡ found
        → ((v : World More) → AtLeast n v.tale.clients → AtLeast n (are_taken most setup by (next_of client) v).tale.clients) → AtLeast n (after found).tale.clients
    by_found None is others = all
    by_found (Some tale) is others =
        let d = decided_next setup by w client in
        let came = taken-clients setup (plan_of d) client (slice_get (messages (plan_of d) client) client.taken) w.tale tale is in
        let same : length tale.clients ≡ length w.tale.clients = ap (λ cs. length cs) came.0 in
        let long = map-length (λ (other : Client). if is_client other.number client.number then next_of client else other) tale.clients in
        others (with_taken setup by w client tale) (omega (arith, all, same, long))

  going-least : (n : ℕ) (view : View) (e : Entry) (xs : List Client) (w : World More) → AtLeast n w.tale.clients → AtLeast n (fold (goes_on setup by view e) w xs).tale.clients
  going-least n view e [] w all = all
  going-least n view e (x ∷ xs) w all = going-least n view e xs (goes_on setup by view e w x) (by_test (is_called v.decided w.tale.moment view e x)) where
    v : World More
    v = record w { decided = decided_last by w x }

    by_test : (b : Bool) → AtLeast n (if b then are_taken (length (messages (plan_of v.decided) x)) setup by x v else v).tale.clients
    by_test true = taking-least n (length (messages (plan_of v.decided) x)) x v all
    by_test false = all

  grown : (w : World More) (e : Entry) → length w.tale.clients ≤ length (going-on fixed w e).tale.clients
  grown w e =
      let n = length w.tale.clients in
      let a : World More = is_told setup by w e in
      let b : World More = is_counted by a e in
      going-least n (view_of setup w.tale) e (heard fixed w e).tale.clients (heard fixed w e)
      (subst (AtLeast n) (sym (freeing-clients fixed b.tale.links b)) (told-seats anybody (AtLeast n) (least-seats n) setup (plan_of a.decided) w.tale e (if-anybody e) (omega arith)))

  abbrev pub AreSomeOf : World More → Type 0
  AreSomeOf w = (c : ClientNo) (n : ℕ) → w.decided.ends c ≡ Some n → c.0 ≤ length w.tale.clients

  step-some : (w : World More) (e : Entry) → Numbered 1 w.tale.clients → AreSomeOf w → AreSomeOf (world_step setup by w e)
  step-some w e counted some c n is =
      let d : World More = going-on fixed w e in
      let f : World More = is_ended by d e in
      let same : length (world_step setup by w e).tale.clients ≡ length d.tale.clients =
      ap (λ cs. length cs) (freeing-clients fixed f.tale.links f ∙ ending-clients (plan_of f.decided) d.tale.clients d.tale) in
      let more = grown w e in
      elim (ended-old d.tale.moment (by.ends d e c) (d.decided.ends c) n (ap (λ g. g c) (sym (ended-same-ends fixed w e).ends) ∙ is)) [
        | inl old ↦ (let early = some c n (ap (λ g. g c) (sym (going-same-ends fixed w e).ends) ∙ old) in omega (arith, early, more, same))
        | inr new ↦ elim (cases_order c.0 (length d.tale.clients)) [
          | inl equal ↦ omega (arith, equal, same)
          | inr apart ↦ elim apart [
            | inl below ↦ omega (arith, below, same)
            | inr above ↦ isnt (sym (beyond c (goes (ending_of fixed d e)) 1 d.tale.clients (going-counts fixed w e counted) (omega (arith, above))) ∙ new)
          ]
        ]
      ]

  log-some : (log : Log) (w : World More) → Numbered 1 w.tale.clients → AreSomeOf w → AreSomeOf (fold (next fixed) w log)
  log-some [] w counted some = some
  log-some (e ∷ log) w counted some = log-some log (next fixed w e) (step-counts fixed w e counted) (step-some w e counted some)

  pub some_at : (log : Log) → AreSomeOf (world_at fixed log)
  some_at log = log-some log (parting.first fixed) tt (λ c n is. absurd (cc))
