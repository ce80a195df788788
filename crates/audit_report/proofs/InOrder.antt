-- Rows in order, and what a line more does to them.
use Rattle.std.proofs.Common.{◌≡◌, true, cond, List, [], ◌∷◌, Ordering, Option, Some, None, sym, refl, ap, ◌∙◌, subst, inl, inr}
use Rattle.std.specs.declared.cmp.Ordering.TheVariants.{Less, Equal, Greater}
use Rattle.std.specs.Ordering.{is_eq, match_ordering, ordering_reverse}
use Rattle.std.specs.List.{AllByRecursion}
use Rattle.std.specs.List.Sorted.{IsStrictlySortedBy}
use Rattle.std.specs.Map.{keys_of, lookup}
use Rattle.std.specs.BTreeMap.{is_at}
use Rattle.std.proofs.lemmas.Bool.{cases_Bool}
use Rattle.std.proofs.lemmas.Map.{lookup-none}
use Rattle.std.proofs.lemmas.Map.Entries.{none_below_head}
use Rattle.std.proofs.lemmas.Map.Keys.{sorted_tail}
use Rattle.audit_report.specs.Keys.{key_cmp}
use Rattle.audit_report.specs.Report.{count_in, one_more}
use Rattle.audit_report.specs.declared.key.Key.{Key}
use Rattle.audit_report.specs.declared.row.ReportRow.{ReportRow}
use Rattle.audit_report.proofs.KeyOrder.{equal, key-total, key-exact, row_key, rows-cmp}

-- rows under their keys
abbrev pub entries : List ReportRow → List (Key × ReportRow)
entries [] = []
entries (row ∷ rows) = (row_key row, row) ∷ entries rows

abbrev pub IsInOrder : List ReportRow → Type 0
IsInOrder rows = IsStrictlySortedBy key_cmp (keys_of (entries rows))

abbrev pub find_row : Key → List ReportRow → Option ReportRow
find_row key rows = lookup (is_at (key_cmp key)) (entries rows)

-- the row of a key with a line more
abbrev pub more : ReportRow → Option ReportRow → ReportRow
more new None = new
more new (Some row) = one_more row

abbrev pub counted : ReportRow → (key : Key) → Option ReportRow → Option ReportRow
counted new key row = cond (is_eq (key_cmp key (row_key new))) (Some (more new row)) row

abbrev Put : ReportRow → ReportRow → List ReportRow → Ordering → List ReportRow
Put new row rows r = match_ordering r (new ∷ row ∷ rows) (one_more row ∷ rows) (row ∷ count_in new rows)

put-step : (new row : ReportRow) (rows : List ReportRow) (r : Ordering) → key_cmp (row_key new) (row_key row) ≡ r → count_in new (row ∷ rows) ≡ Put new row rows r
put-step new row rows r is = ap (Put new row rows) (rows-cmp new row ∙ is)

-- the key itself, or another
same-as : (q a b : Key) → is_eq (key_cmp q a) ≡ true → key_cmp q b ≡ key_cmp a b
same-as q a b same = ap (λ (k : Key). key_cmp k b) (key-exact q a (equal (key_cmp q a) same))

found-at : (new row : ReportRow) (rows : List ReportRow) (q : Key) (r : Ordering) → key_cmp (row_key new) (row_key row) ≡ r → IsInOrder (row ∷ rows) → find_row q (count_in new rows) ≡ counted new q (find_row q rows) → find_row q (Put new row rows r) ≡ counted new q (find_row q (row ∷ rows))
found-at new row rows q Less is sorted rest = elim (cases_Bool (is_eq (key_cmp q (row_key new)))) [
  | inl same ↦
      let below : key_cmp q (row_key row) ≡ Less = same-as q (row_key new) (row_key row) same ∙ is in
      let none : find_row q (row ∷ rows) ≡ None = lookup-none (is_at (key_cmp q)) (entries (row ∷ rows)) (none_below_head key-total q (row_key row, row) (entries rows) sorted below) in
      rw (same, none) refl
  | inr other ↦ rw other refl
]
found-at new row rows q Equal is sorted rest =
    let one : row_key new ≡ row_key row = key-exact _ _ is in
    let test : is_eq (key_cmp q (row_key new)) ≡ is_eq (key_cmp q (row_key row)) = ap (λ (k : Key). is_eq (key_cmp q k)) one in
    elim (cases_Bool (is_eq (key_cmp q (row_key row)))) [
      | inl same ↦ rw (test, same) refl
      | inr other ↦ rw (test, other) refl
    ]
found-at new row rows q Greater is sorted rest = elim (cases_Bool (is_eq (key_cmp q (row_key row)))) [
  | inl same ↦
      let back : key_cmp q (row_key new) ≡ Less = same-as q (row_key row) (row_key new) same ∙ key-total.antisymm (row_key row) (row_key new) ∙ ap ordering_reverse is in
      rw (same, back) refl
  | inr other ↦ rw (other, rest) refl
]

-- what is found of a key after a line more
pub found-counted : (new : ReportRow) (rows : List ReportRow) (q : Key) → IsInOrder rows → find_row q (count_in new rows) ≡ counted new q (find_row q rows)
found-counted new [] q sorted = refl
found-counted new (row ∷ rows) q sorted =
    let r = key_cmp (row_key new) (row_key row) in
    ap (find_row q) (put-step new row rows r refl) ∙ found-at new row rows q r refl sorted (found-counted new rows q (sorted_tail key_cmp (row_key row) (keys_of (entries rows)) sorted))

abbrev IsBelow : Key → List ReportRow → Type 0
IsBelow key rows = AllByRecursion (λ (k : Key). key_cmp key k ≡ Less) (keys_of (entries rows))

below-put : (key : Key) (new row : ReportRow) (rows : List ReportRow) (r : Ordering) → key_cmp key (row_key new) ≡ Less → IsBelow key (row ∷ rows) → IsBelow key (count_in new rows) → IsBelow key (Put new row rows r)
below-put key new row rows Less first below rest = (first, below)
below-put key new row rows Equal first below rest = below
below-put key new row rows Greater first below rest = (below.0, rest)

below-counted : (key : Key) (new : ReportRow) (rows : List ReportRow) → key_cmp key (row_key new) ≡ Less → IsBelow key rows → IsBelow key (count_in new rows)
below-counted key new [] first below = (first, tt)
below-counted key new (row ∷ rows) first below =
    let r = key_cmp (row_key new) (row_key row) in
    subst (IsBelow key) (sym (put-step new row rows r refl)) (below-put key new row rows r first below (below-counted key new rows first below.1))

below-through : (a b : Key) (rows : List ReportRow) → key_cmp a b ≡ Less → IsBelow b rows → IsBelow a rows
below-through a b [] less below = tt
below-through a b (row ∷ rows) less below = (key-total.trans a b (row_key row) less below.0, below-through a b rows less below.1)

ordered-put : (new row : ReportRow) (rows : List ReportRow) (r : Ordering) → key_cmp (row_key new) (row_key row) ≡ r → IsInOrder (row ∷ rows) → IsInOrder (count_in new rows) → IsInOrder (Put new row rows r)
unfolding IsStrictlySortedBy
ordered-put new row rows Less is sorted rest = ((is, below-through (row_key new) (row_key row) rows is sorted.0), sorted)
ordered-put new row rows Equal is sorted rest = sorted
ordered-put new row rows Greater is sorted rest = (below-counted (row_key row) new rows (key-total.antisymm (row_key row) (row_key new) ∙ ap ordering_reverse is) sorted.0, rest)

pub ordered-counted : (new : ReportRow) (rows : List ReportRow) → IsInOrder rows → IsInOrder (count_in new rows)
unfolding IsStrictlySortedBy
ordered-counted new [] sorted = (tt, tt)
ordered-counted new (row ∷ rows) sorted =
    let r = key_cmp (row_key new) (row_key row) in
    subst IsInOrder (sym (put-step new row rows r refl)) (ordered-put new row rows r refl sorted (ordered-counted new rows sorted.1))
