-- The unknown keys of a table, whose keys ascend.
use Rattle.std.proofs.Common.{◌≡◌, ℕ, Bool, not, ◌||◌, List, [], ◌∷◌, map, String, Global, Less, Some, option_map, string_bytes, bytes_eq, Bor, refl, ap, inl, inr}
use Rattle.std.proofs.lemmas.Bool.{cases_Bool}
use Rattle.std.specs.List.{list_any, find, AllByRecursion}
use Rattle.std.specs.List.Sorted.{IsStrictlySortedBy}
use Rattle.std.specs.Map.{keys_of}
use Rattle.std.specs.String.{string_cmp}
use Rattle.toml.specs.View.{members_view}
use Rattle.toml.specs.declared.value.Value.{Value}
use Rattle.mx_config.specs.Rows.{is_known, lesser, least_unknown}

pub is_known-map : (known : List (Bor (List ℕ))) (key : List ℕ) → list_any (λ k. bytes_eq k.now key) known ≡ is_known (map (λ k. k.now) known) key
is_known-map [] key = refl
is_known-map (k ∷ known) key = ap (λ (b : Bool). bytes_eq k.now key || b) (is_known-map known key)

lesser-find : (key : String Global) (keys : List (String Global)) (test : String Global → Bool) → AllByRecursion (λ k. string_cmp key k ≡ Less) keys
    → lesser (string_bytes key) (option_map string_bytes (find test keys)) ≡ string_bytes key
lesser-find key [] test above = refl
lesser-find key (k ∷ keys) test above =
    elim (cases_Bool (test k)) [
      | inl found ↦ rw (found, above.0) refl
      | inr other ↦ rw other (lesser-find key keys test above.1)
    ]

abbrev pub is_unknown : List (List ℕ) → String Global → Bool
is_unknown known key = not (is_known known (string_bytes key))

-- of ascending keys the first unknown one is the least
pub least_unknown-first : (known : List (List ℕ)) (es : List (String Global × Value)) → IsStrictlySortedBy string_cmp (keys_of es)
    → least_unknown known (members_view es) ≡ option_map string_bytes (find (is_unknown known) (keys_of es))
unfolding IsStrictlySortedBy
least_unknown-first known [] ascend = refl
least_unknown-first known (e ∷ es) ascend =
    elim (cases_Bool (is_known known (string_bytes e.0))) [
      | inl here ↦ rw here (least_unknown-first known es ascend.1)
      | inr other ↦ rw (other, least_unknown-first known es ascend.1) (ap (λ (k : List ℕ). Some k) (lesser-find e.0 (keys_of es) (is_unknown known) ascend.0))
    ]
