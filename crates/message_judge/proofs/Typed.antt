-- Types that an execute gives itself are two bytes for each parameter, where it is whole: so it lacks none, or those that were bound are of that
-- length.
use Rattle.std.specs.Prelude.{◌≡◌, ◌≤◌, ◌+◌, ◌*◌, ◌-◌, ◌/◌, ℕ, zero, suc, Bool, true, false, ◌&&◌, not, drop, is_none, length, nat_eq, nat_le, slice_index_or, take, if◌then◌else◌, List, [], ◌∷◌, Option, Some, None}
use Rattle.std.specs.Option.{option_or}
use Rattle.std.proofs.Common.{refl, sym, ap, ◌∙◌, subst, arith, length-drop}
use Rattle.std.proofs.lemmas.Bool.{eq-eqb, leb-true, ne_eqb}
use Rattle.std.proofs.lemmas.List.{length-take-le}
use Rattle.private_model.specs.Commands.{Args}
use Rattle.log_story.specs.Executes.{given_in, typed}
use Rattle.router_promises.specs.Statements.{are_types, execute_size}

no-some : {A B : Type 0} (a : A) → None ≡ Some a → B
no-some a is = absurd (cc)

some-of : {A : Type 0} (a b : A) → Some a ≡ Some b → a ≡ b
some-of a b is = cc

-- the byte with which bytes go on
byte-at : (k : ℕ) (xs : List ℕ) (x : ℕ) (rest : List ℕ) → drop k xs ≡ x ∷ rest → slice_index_or xs k 0 ≡ x
byte-at zero xs x rest is = ap (λ ys. slice_index_or ys 0 0) is
byte-at (suc k) [] x rest is = absurd (cc)
byte-at (suc k) (y ∷ ys) x rest is = byte-at k ys x rest is

module _ (more : ℕ) (payload : List ℕ) where
  abbrev params : ℕ
  params = suc more

  abbrev size : ℕ
  size = (suc more + 7) / 8

  abbrev nulls : List ℕ
  nulls = take size (drop 10 payload)

  sized : (b : Bool) → nat_eq (slice_index_or payload (10 + size) 0) 1 ≡ b → execute_size params payload ≤ length payload → 11 + size + (if b then 2 * params else 0) ≤ length payload
  sized b at fits =
      subst (λ c. 11 + size + (if c then 2 * params else 0) ≤ length payload) at
      (subst (λ c. (if c then 10 else 11 + size + (if nat_eq (slice_index_or payload (10 + size) 0) 1 then 2 * params else 0)) ≤ length payload)
      (ne_eqb params 0 (λ e. omega arith)) fits)

  sent-by : (rest : List ℕ) → drop (10 + size) payload ≡ rest → execute_size params payload ≤ length payload → (types : List ℕ)
      → (typed params nulls rest).types ≡ Some types → length types ≡ 2 * params
  sent-by [] at fits types is = no-some types is
  sent-by (sends ∷ rest) at fits types is = by-test (nat_eq sends 1) refl is where
    behind : length payload - (10 + size) ≡ length (sends ∷ rest)
    behind = sym (length-drop (10 + size) payload) ∙ ap (λ (xs : List ℕ). length xs) at

    anew : Args
    anew = record { types = Some (take (2 * params) rest); nulls = nulls; values = drop (2 * params) rest; long = [] }

    before : Args
    before = record { types = None; nulls = nulls; values = rest; long = [] }

    by-test : (b : Bool) → nat_eq sends 1 ≡ b → (if◌then◌else◌ {A = Args} b anew before).types ≡ Some types → length types ≡ 2 * params
    by-test false none now = no-some types now
    by-test true one now =
        let flag : nat_eq (slice_index_or payload (10 + size) 0) 1 ≡ true = ap (λ n. nat_eq n 1) (byte-at (10 + size) payload sends rest at) ∙ one in
        let enough = sized true flag fits in
        ap (λ (xs : List ℕ). length xs) (sym (some-of (take (2 * params) rest) types now)) ∙ length-take-le (2 * params) rest (omega (arith, behind, enough))

  pub sent-long : execute_size params payload ≤ length payload → (types : List ℕ) → (given_in params payload).types ≡ Some types → length types ≡ 2 * params
  sent-long fits types is = sent-by (drop (10 + size) payload) refl fits types is

-- so it is by what was sent and what was bound before
pub lacks-same : (params : ℕ) (payload : List ℕ) (bound : Option (List ℕ))
    → (nat_le (execute_size params payload) (length payload) && not (not (nat_eq params 0) && not (are_types params (option_or (given_in params payload).types bound))))
    ≡ (nat_le (execute_size params payload) (length payload) && not (not (nat_eq params 0) && (is_none (given_in params payload).types && not (are_types params bound))))
lacks-same zero payload bound = refl
lacks-same (suc more) payload bound = by-fits (nat_le (execute_size (suc more) payload) (length payload)) refl where
  by-sent : (sent : Option (List ℕ)) → (given_in (suc more) payload).types ≡ sent → execute_size (suc more) payload ≤ length payload
      → not (are_types (suc more) (option_or sent bound)) ≡ (is_none sent && not (are_types (suc more) bound))
  by-sent None at fits = refl
  by-sent (Some types) at fits = ap not (eq-eqb (length types) (2 * suc more) (sent-long more payload fits types at))

  by-fits : (b : Bool) → nat_le (execute_size (suc more) payload) (length payload) ≡ b
      → (b && not (not (nat_eq (suc more) 0) && not (are_types (suc more) (option_or (given_in (suc more) payload).types bound))))
      ≡ (b && not (not (nat_eq (suc more) 0) && (is_none (given_in (suc more) payload).types && not (are_types (suc more) bound))))
  by-fits false at = refl
  by-fits true at =
      ap (λ c. not (not (nat_eq (suc more) 0) && c))
      (by-sent (given_in (suc more) payload).types refl (leb-true (execute_size (suc more) payload) (length payload) at))
