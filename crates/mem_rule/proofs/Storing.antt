-- The list that data are written to says these data.
use Rattle.std.specs.Prelude.{◌≡◌, ◌≤◌, ℕ, zero, suc, List, [], ◌∷◌, ◌++◌, length}
use Rattle.std.proofs.Common.{refl, arith, length-append}
use Rattle.std.proofs.lemmas.List.{take_at, drop_at}
use Rattle.mem_rule.specs.Stored.{items_in, items_out, row_in, row_out, same, stored_after, table_in, table_out, tables_in, tables_out}
use Rattle.mem_rule.specs.Tables.{TableRows, Tables, after_all}
use Rattle.mem_rule.specs.declared.note.Note.{Note}

-- each item adds a number at least
long : {A : Type 0} (out : A → List ℕ) (items : List A) → length items ≤ length (items_out out items)
long out [] = omega arith
long out (a ∷ more) = let rest = long out more in omega (arith, length-append (out a) (items_out out more))

items_again : {A : Type 0} (out : A → List ℕ) (into : List ℕ → A) → ((a : A) → into (out a) ≡ a) → (most : ℕ) (items : List A) → length items ≤ most → items_in most into (items_out out items) ≡ items
items_again out into again zero [] small = refl
items_again out into again (suc most) [] small = refl
items_again out into again zero (a ∷ more) small = absurd (omega arith)
items_again out into again (suc most) (a ∷ more) small =
    rw (take_at (out a) (items_out out more) (length (out a)) refl, drop_at (out a) (items_out out more) (length (out a)) refl, again a, items_again out into again most more (omega arith)) refl

row_again : (row : ℕ × List ℕ) → row_in (row_out row) ≡ row
row_again row = refl

table_again : (table : TableRows) → table_in (table_out table) ≡ table
table_again table =
    let rows = items_out row_out table.rows in
    rw (take_at table.schema rows (length table.schema) refl, drop_at table.schema rows (length table.schema) refl, items_again row_out row_in row_again (length (table.schema ++ rows)) table.rows (let l = long row_out table.rows in omega (arith, length-append table.schema rows))) refl

pub tables_again : (t : Tables) → tables_in (tables_out t) ≡ t
tables_again t =
    let tables = items_out table_out t.tables in
    let held = items_out same t.held in
    rw (take_at tables held (length tables) refl, drop_at tables held (length tables) refl, items_again table_out table_in table_again (length (tables ++ held)) t.tables (let l = long table_out t.tables in omega (arith, length-append tables held)), items_again same same (λ a. refl) (length (tables ++ held)) t.held (let l = long same t.held in omega (arith, length-append tables held))) refl

-- notes done to data and to the list that says them
pub stored_again : (t : Tables) (notes : List Note) → stored_after (tables_out t) notes ≡ tables_out (after_all t notes)
stored_again t [] = refl
stored_again t (note ∷ notes) = rw (tables_again t) refl
