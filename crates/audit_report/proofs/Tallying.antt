-- The tallies of lines, and of lines behind them.
use Rattle.std.proofs.Common.{◌≡◌, ℕ, suc, ◌+◌, ◌-◌, ◌*◌, ◌^◌, ◌<◌, ◌≤◌, min, List, [], ◌∷◌, ◌++◌, length, take, drop, get_or, Option, Some, None, Result, Ok, Err, IfSome, IfOk, sym, refl, ap, ◌∙◌, subst, inl, inr, arith}
use Rattle.std.proofs.lemmas.Bool.{cases_Bool, cases_lt}
use Rattle.std.proofs.lemmas.List.{drop-drop, drop_all, length-take-le, take-append-drop, take_more}
use Rattle.std.specs.Fork.{slice_chunk}
use Rattle.indexmap.specs.IndexMap.{IndexMap, get}
use Rattle.mx_base.specs.declared.memory.OutOfMemory.{OutOfMemory}
use Rattle.audit_report.specs.Keys.{key_of, same_key}
use Rattle.audit_report.specs.Tallies.{both, of_key, tally_of, tally_in, tally_over, AllRead, IsPieces}
use Rattle.audit_report.specs.declared.key.Key.{Key}
use Rattle.audit_report.specs.declared.tally.Tally.{Tally}

pub both-none : (a : Option Tally) → both a None ≡ a
both-none None = refl
both-none (Some a) = refl

at-most : (a b c m : ℕ) → min (min (a + b) m + c) m ≡ min (a + min (b + c) m) m
at-most a b c m = omega arith

pub both-assoc : (a b c : Option Tally) → both (both a b) c ≡ both a (both b c)
both-assoc None b c = refl
both-assoc (Some a) None c = refl
both-assoc (Some a) (Some b) None = refl
both-assoc (Some a) (Some b) (Some c) = ap (λ n. let t : Tally = record { count = n; first = a.first } in Some t) (at-most a.count b.count c.count (2 ^ 64 - 1))

-- lines, and lines behind them
pub tally-append : (key : Key) (place : ℕ) (xs ys : List (List ℕ)) → tally_of key place (xs ++ ys) ≡ both (tally_of key place xs) (tally_of key (place + length xs) ys)
tally-append key place [] ys = let e : place + 0 ≡ place = omega arith in rw e refl
tally-append key place (x ∷ xs) ys =
    let one = of_key (key_of x) (record { count = 1; first = place }) key in
    let e : (place + 1) + length xs ≡ place + length (x ∷ xs) = omega arith in
    let rest : tally_of key (place + 1) (xs ++ ys) ≡ both (tally_of key (place + 1) xs) (tally_of key (place + length (x ∷ xs)) ys) = tally-append key (place + 1) xs ys ∙ ap (λ n. both (tally_of key (place + 1) xs) (tally_of key n ys)) e in
    ap (both one) rest ∙ sym (both-assoc one (tally_of key (place + 1) xs) (tally_of key (place + length (x ∷ xs)) ys))

-- one line behind
pub tally-push : (key : Key) (place : ℕ) (xs : List (List ℕ)) (x : List ℕ) → tally_of key place (xs ++ x ∷ []) ≡ both (tally_of key place xs) (of_key (key_of x) (record { count = 1; first = place + length xs }) key)
tally-push key place xs x = tally-append key place xs (x ∷ []) ∙ ap (both (tally_of key place xs)) (both-none (of_key (key_of x) (record { count = 1; first = place + length xs }) key))

-- a line more of those from a place on
pub pushed : (q : Key) (place at : ℕ) (lines : List (List ℕ)) (key : Key) → at < length lines → key ≡ key_of (get_or lines at [])
    → both (tally_of q place (take at lines)) (of_key key (record { count = 1; first = place + at }) q) ≡ tally_of q place (take (at + 1) lines)
pushed q place at lines key below is =
    let size : length (take at lines) ≡ at = length-take-le at lines (omega arith) in
    let push = tally-push q place (take at lines) (get_or lines at []) in
    rw (take_more lines at [] below, is) (sym (rw size at push))

-- no more lines than there are, and the first is one of them
pub record IsAmong (place n : ℕ) (tally : Tally) : Type 0 where
  pub from : place ≤ tally.first
  pub to : tally.first < place + n
  pub few : tally.count ≤ n

among-both : (place n m : ℕ) (a b : Option Tally) → IfSome a (IsAmong place n) → IfSome b (IsAmong (place + n) m) → IfSome (both a b) (IsAmong place (n + m))
among-both place n m None None p q = tt
among-both place n m None (Some b) p q = record { from = let h = q.from in omega arith; to = let h = q.to in omega arith; few = let h = q.few in omega arith }
among-both place n m (Some a) None p q = record { from = p.from; to = let h = p.to in omega arith; few = let h = p.few in omega arith }
among-both place n m (Some a) (Some b) p q = record { from = p.from; to = let h = p.to in omega arith; few = let h = p.few in let k = q.few in omega arith }

among-one : (key own : Key) (place : ℕ) → IfSome (of_key own (record { count = 1; first = place }) key) (IsAmong place 1)
among-one key own place = elim (cases_Bool (same_key own key)) [
  | inl same ↦ rw same (record { from = omega arith; to = omega arith; few = omega arith })
  | inr other ↦ rw other tt
]

pub among : (key : Key) (place : ℕ) (xs : List (List ℕ)) → IfSome (tally_of key place xs) (IsAmong place (length xs))
among key place [] = tt
among key place (x ∷ xs) =
    let all = among-both place 1 (length xs) (of_key (key_of x) (record { count = 1; first = place }) key) (tally_of key (place + 1) xs) (among-one key (key_of x) place) (among key (place + 1) xs) in
    let e : 1 + length xs ≡ length (x ∷ xs) = omega arith in
    subst (λ n. IfSome (tally_of key place (x ∷ xs)) (IsAmong place n)) e all

-- the first line of a key is one of the lines
pub first-there : (key : Key) (lines : List (List ℕ)) (tally : Tally) → tally_of key 0 lines ≡ Some tally → tally.first < length lines
first-there key lines tally is =
    let one : IsAmong 0 (length lines) tally = subst (λ (t : Option Tally). IfSome t (IsAmong 0 (length lines))) is (among key 0 lines) in
    let h = one.to in omega arith

-- Pieces in order.

-- a front of so many lines, and what is behind it
cut : (key : Key) (place size : ℕ) (lines : List (List ℕ)) → both (tally_of key place (take size lines)) (tally_of key (place + size) (drop size lines)) ≡ tally_of key place lines
cut key place size lines =
    let whole : tally_of key place lines ≡ both (tally_of key place (take size lines)) (tally_of key (place + length (take size lines)) (drop size lines)) = ap (tally_of key place) (sym (take-append-drop size lines)) ∙ tally-append key place (take size lines) (drop size lines) in
    elim (cases_lt (length lines) size) [
      | inr most ↦
          let full : length (take size lines) ≡ size = length-take-le size lines most in
          ap (λ n. both (tally_of key place (take size lines)) (tally_of key (place + n) (drop size lines))) (sym full) ∙ sym whole
      | inl less ↦
          let none : drop size lines ≡ [] = drop_all size lines (omega arith) in
          let behind : (place' : ℕ) → tally_of key place' (drop size lines) ≡ None = λ place'. ap (tally_of key place') none in
          ap (both (tally_of key place (take size lines))) (behind (place + size) ∙ sym (behind (place + length (take size lines)))) ∙ sym whole
    ]

module _ {S : Type 0} where
  -- a piece holds these lines from a place on
  abbrev Holds : (place : ℕ) → List (List ℕ) → (Result (IndexMap Key Tally S) OutOfMemory) → Type 0
  Holds place lines piece = IfOk piece (λ tallies. (key : Key) → get same_key tallies key ≡ tally_of key place lines)

  in-piece : (key : Key) (place : ℕ) (lines : List (List ℕ)) (piece : (Result (IndexMap Key Tally S) OutOfMemory)) (pieces : List (Result (IndexMap Key Tally S) OutOfMemory)) → Holds place lines piece → AllRead (piece ∷ pieces) → tally_in key piece ≡ tally_of key place lines
  in-piece key place lines (Ok tallies) pieces held read = held key
  in-piece key place lines (Err refused) pieces held read = absurd read

  read-rest : (piece : (Result (IndexMap Key Tally S) OutOfMemory)) (pieces : List (Result (IndexMap Key Tally S) OutOfMemory)) → AllRead (piece ∷ pieces) → AllRead pieces
  read-rest (Ok tallies) pieces read = read
  read-rest (Err refused) pieces read = absurd read

  -- the pieces from a number on
  over-from : (key : Key) (size n : ℕ) (lines : List (List ℕ)) (pieces : List (Result (IndexMap Key Tally S) OutOfMemory)) → length lines ≤ (n + length pieces) * size
      → ((k : ℕ) (d : (Result (IndexMap Key Tally S) OutOfMemory)) → k < length pieces → Holds ((n + k) * size) (slice_chunk lines size (n + k)) (get_or pieces k d)) → AllRead pieces
      → tally_over key pieces ≡ tally_of key (n * size) (drop (n * size) lines)
  over-from key size n lines [] all each read =
      let none : drop (n * size) lines ≡ [] = drop_all (n * size) lines (let e : (n + 0) * size ≡ n * size = ap (λ (m : ℕ). m * size) (let z : n + 0 ≡ n = omega arith in z) in omega arith) in
      rw none refl
  over-from key size n lines (piece ∷ pieces) all each read =
      let here : n + 0 ≡ n = omega arith in
      let first : Holds (n * size) (slice_chunk lines size n) piece = subst (λ m. Holds (m * size) (slice_chunk lines size m) piece) here (each 0 piece (omega arith)) in
      let e = in-piece key (n * size) (slice_chunk lines size n) piece pieces first read in
      let shift : (k : ℕ) → n + suc k ≡ (n + 1) + k = λ k. omega arith in
      let more : (k : ℕ) (d : (Result (IndexMap Key Tally S) OutOfMemory)) → k < length pieces → Holds (((n + 1) + k) * size) (slice_chunk lines size ((n + 1) + k)) (get_or pieces k d) = λ k d below. subst (λ m. Holds (m * size) (slice_chunk lines size m) (get_or pieces k d)) (shift k) (each (suc k) d (omega arith)) in
      let few : length lines ≤ ((n + 1) + length pieces) * size = subst (λ m. length lines ≤ m * size) (let s : n + length (piece ∷ pieces) ≡ (n + 1) + length pieces = omega arith in s) all in
      let rest = over-from key size (n + 1) lines pieces few more (read-rest piece pieces read) in
      let at : (n + 1) * size ≡ n * size + size = omega arith in
      let behind : tally_over key pieces ≡ tally_of key (n * size + size) (drop size (drop (n * size) lines)) = rest ∙ ap (λ m. tally_of key m (drop m lines)) at ∙ ap (tally_of key (n * size + size)) (sym (drop-drop size (n * size) lines)) in
      rw (e, behind) (cut key (n * size) size (drop (n * size) lines))

  -- all pieces
  pub over-all : (key : Key) (size : ℕ) (lines : List (List ℕ)) (pieces : List (Result (IndexMap Key Tally S) OutOfMemory)) → IsPieces lines size pieces → AllRead pieces → tally_over key pieces ≡ tally_of key 0 lines
  over-all key size lines pieces cut read =
      let none : (k : ℕ) → k ≡ 0 + k = λ k. omega arith in
      let start : 0 * size ≡ 0 = omega arith in
      over-from key size 0 lines pieces (subst (λ m. length lines ≤ m * size) (none (length pieces)) cut.all) (λ k d below. subst (λ m. Holds (m * size) (slice_chunk lines size m) (get_or pieces k d)) (none k) (cut.each k d below)) read
      ∙ ap (λ m. tally_of key m (drop m lines)) start
