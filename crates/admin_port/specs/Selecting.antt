-- What a SELECT reads of a table.
use Rattle.std.specs.Prelude.{ℕ, Bool, false, nat_eq, if◌then◌else◌, List, [], ◌∷◌, ◌++◌, codes, bytes_eq, filter, length, map, position, slice_get, slice_index_or, take, unwrap_or, Option, Some, None}
use Rattle.std.specs.Fmt.{decimal}
use Rattle.mx_base.specs.Steps.{◌>>=◌}
use Rattle.sql_tokens.specs.Words.{same_text}
use Rattle.admin_port.specs.RowValues.{cell_of}
use Rattle.admin_port.specs.Sheets.{Cell, Sheet}
use Rattle.admin_port.specs.declared.pair.Pair.{Pair}
use Rattle.admin_port.specs.declared.statement.Picked.{Picked}
use Rattle.admin_port.specs.declared.statement.Picked.TheVariants.{All, Count, Columns}
use Rattle.admin_port.specs.declared.statement.Query.{Query}

-- the place of a column, in any case
abbrev pub place_in : (columns : List (List ℕ)) → (name : List ℕ) → Option ℕ
place_in columns name = position (λ column. same_text column name) columns

-- these, and the places of the columns of these names
abbrev pub places_from : (columns : List (List ℕ)) → (before : List ℕ) → (names : List (List ℕ)) → Option (List ℕ)
places_from columns before [] = Some before
places_from columns before (name ∷ names) = place_in columns name >>= (λ place. places_from columns (before ++ place ∷ []) names)

abbrev pub cell_at : List Cell → (place : ℕ) → Cell
cell_at row place = unwrap_or (slice_get row place) None

-- NULL is the same as nothing
abbrev pub same_cell : Cell → Cell → Bool
same_cell (Some a) (Some b) = bytes_eq a b
same_cell _ _ = false

-- the rows that have the value in the column
abbrev pub kept : Option Pair → Sheet → Option Sheet
kept None s = Some s
kept (Some pair) s = place_in s.columns pair.column >>= (λ place. Some (record s { rows = filter (λ row. same_cell (cell_at row place) (cell_of pair.value)) s.rows }))

abbrev pub count_sheet : ℕ → Sheet
count_sheet n = record { columns = codes "COUNT(*)" ∷ []; rows = (Some (decimal n) ∷ []) ∷ [] }

abbrev pub at_places : (places : List ℕ) → List Cell → List Cell
at_places places row = map (cell_at row) places

abbrev pub columns_at : (columns : List (List ℕ)) → (places : List ℕ) → List (List ℕ)
columns_at columns places = map (λ place. slice_index_or columns place []) places

abbrev pub named_sheet : (names : List (List ℕ)) → Sheet → Option Sheet
named_sheet names s =
    places_from s.columns [] names >>= (λ places. Some (record { columns = columns_at s.columns places; rows = map (at_places places) s.rows }))

-- no columns are none to pick
abbrev pub picked_sheet : Picked → Sheet → Option Sheet
picked_sheet All s = Some s
picked_sheet Count s = Some (count_sheet (length s.rows))
picked_sheet (Columns names) s = if nat_eq (length names) 0 then None else named_sheet names s

abbrev pub limited : Option ℕ → Sheet → Sheet
limited None s = s
limited (Some n) s = record s { rows = take n s.rows }

-- of the rows that have the value, the columns that are picked or how many there are, and of these the first so many
abbrev pub selected : Query → Sheet → Option Sheet
selected query s = do
  left ← kept query.condition s
  picked ← picked_sheet query.picked left
  Some (limited query.limit picked)
