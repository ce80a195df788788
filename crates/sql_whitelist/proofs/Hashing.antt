-- Hashes that were sorted, and of which each was kept once.
use Rattle.std.proofs.Common.{◌≡◌, ℕ, zero, suc, ◌<◌, Bool, true, false, ◌||◌, eqb, List, [], ◌∷◌, map, length, get_or, sym, refl, ap, ◌∙◌, subst, inl, inr, arith}
use Rattle.std.specs.Cmp.{both_ways}
use Rattle.std.specs.Ordering.{nat_cmp}
use Rattle.std.specs.List.{Contains, dedup, list_any}
use Rattle.std.specs.List.Sorted.{IsPermutation, IsSorted}
use Rattle.std.proofs.lemmas.Bool.{cases_Bool, eqb-true, eq-eqb}
use Rattle.std.proofs.lemmas.List.Kept.{Contains-dedup_nat, Contains-from_dedup}
use Rattle.std.proofs.lemmas.List.Sorted.{Contains-permutation, IsPermutation-sym}
use Rattle.std.proofs.lemmas.Map.Keys.{IsStrictlyIncreasing-dedup}
use Rattle.query_digest.specs.Hash.{hash_of}
use Rattle.sql_whitelist.specs.Hashes.{AreHashes}

abbrev has : ℕ → List ℕ → Bool
has x xs = list_any (λ y. eqb y x) xs

any-true : (b : Bool) → (b || true) ≡ true
any-true true = refl
any-true false = refl

has-at : (x : ℕ) (xs : List ℕ) (k : ℕ) → k < length xs → get_or xs k x ≡ x → has x xs ≡ true
has-at x [] k below is = absurd (omega arith)
has-at x (y ∷ ys) zero below is = rw (eq-eqb y x is) refl
has-at x (y ∷ ys) (suc k) below is = rw (has-at x ys k (omega arith) is) (any-true (eqb y x))

pub has-in : (x : ℕ) (xs : List ℕ) → Contains xs x → has x xs ≡ true
has-in x xs (k, below, is) = has-at x xs k below is

pub in-has : (x : ℕ) (xs : List ℕ) → has x xs ≡ true → Contains xs x
in-has x [] h = absurd (cc)
in-has x (y ∷ ys) h = elim (cases_Bool (eqb y x)) [
  | inl same ↦ (0, omega arith, eqb-true y x same)
  | inr other ↦ (let rest = in-has x ys (rw other at h) in (suc rest.0, (let b = rest.1 in omega arith), rest.2))
]

has-mapped : (hash : ℕ) (digests : List (List ℕ)) → has hash (map hash_of digests) ≡ list_any (λ digest. eqb (hash_of digest) hash) digests
has-mapped hash [] = refl
has-mapped hash (d ∷ ds) = ap (λ b. eqb (hash_of d) hash || b) (has-mapped hash ds)

pub are-hashes : (digests : List (List ℕ)) (each sorted kept : List ℕ) → each ≡ map hash_of digests → IsPermutation each sorted → IsSorted nat_cmp sorted → kept ≡ dedup eqb sorted → AreHashes digests kept
are-hashes digests each sorted kept hashed same ascend is =
    subst (AreHashes digests) (sym is) (record {
      ascend = IsStrictlyIncreasing-dedup sorted ascend;
      same = λ hash. both_ways (has hash (dedup eqb sorted)) (has hash each)
          (λ h. has-in hash each (Contains-permutation sorted each hash (IsPermutation-sym each sorted same) (Contains-from_dedup eqb sorted hash (in-has hash (dedup eqb sorted) h))))
          (λ h. has-in hash (dedup eqb sorted) (Contains-dedup_nat sorted hash (Contains-permutation each sorted hash same (in-has hash each h))))
          ∙ ap (has hash) hashed ∙ has-mapped hash digests;
    })
