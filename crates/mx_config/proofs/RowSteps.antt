-- Reading the rows of a table, one after the other.
use Rattle.std.proofs.Common.{◌≡◌, ℕ, ◌+◌, ◌<◌, ◌≤◌, List, [], ◌∷◌, ◌++◌, length, get_or, drop, Ok, length-append, refl, sym, ◌∙◌, arith}
use Rattle.std.proofs.lemmas.List.{drop_all}
use Rattle.toml.specs.Data.{Data}
use Rattle.toml.specs.View.{view, items_view}
use Rattle.toml.specs.declared.value.Value.{Value}
use Rattle.toml.proofs.Views.{items_view-drop}
use Rattle.mx_config.specs.declared.fault.ConfigRefusal.{ConfigRefusal}
use Rattle.mx_config.specs.Faults.{Said, fault_of, Refuses}
use Rattle.mx_config.specs.Tables.{rows_from}
use Rattle.mx_config.proofs.Steps.{refused_before}

-- what a loop over the rows keeps: what is left, behind the rows so far, gives the whole
pub record Reads {X : Type 0} (row : List X → Data → Said X) (values : List Value) (i : ℕ) (before : List X) : Type 0 where
  pub left : rows_from row before (items_view (drop i values)) ≡ rows_from row [] (items_view values)
  pub counted : length before ≡ i

pub goes_on : {X : Type 0} (row : List X → Data → Said X) (values : List Value) (i : ℕ) (before : List X) (v : Value) (next : X) → Reads row values i before → i < length values
    → v ≡ get_or values i v → row before (view v) ≡ Ok next → Reads row values (i + 1) (before ++ next ∷ [])
unfolding rows_from
goes_on row values i before v next reads within is e =
    let one : rows_from row before (items_view (drop i values)) ≡ rows_from row (before ++ next ∷ []) (items_view (drop (i + 1) values)) =
    rw (items_view-drop values i v within, ← is, e) refl in
    record { left = sym one ∙ reads.left; counted = omega (arith, length-append before (next ∷ []), reads.counted) }

pub is_refused : {X : Type 0} (row : List X → Data → Said X) (values : List Value) (i : ℕ) (before : List X) (v : Value) (refusal : ConfigRefusal) → Reads row values i before → i < length values
    → v ≡ get_or values i v → Refuses refusal (fault_of (row before (view v))) → Refuses refusal (fault_of (rows_from row [] (items_view values)))
unfolding rows_from
is_refused row values i before v refusal reads within is h =
    rw (← reads.left, items_view-drop values i v within, ← is) (refused_before refusal (row before (view v)) _ h)

pub is_read : {X : Type 0} (row : List X → Data → Said X) (values : List Value) (i : ℕ) (before : List X) → Reads row values i before → length values ≤ i
    → rows_from row [] (items_view values) ≡ Ok before
unfolding rows_from
is_read row values i before reads past = sym reads.left ∙ rw (drop_all i values past) refl
