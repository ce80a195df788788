-- The statements of a load.
use Rattle.std.specs.Prelude.{ℕ, Bool, true, false, not, ◌%◌, ◌==◌, if◌then◌else◌, List, ◌∷◌, ◌++◌, codes}
use Rattle.std.specs.Fmt.{decimal}
use Rattle.generated_load.specs.declared.kind.Kind.{Kind}
use Rattle.generated_load.specs.declared.kind.Kind.TheVariants.{Insert, Select, Set, Update, Turn}

-- of eight numbers one is an insert, four are a select, and the others one each
abbrev pub kind_of : (number : ℕ) → Kind
kind_of number =
    if number == 0 then Insert
    else if number == 5 then Set
    else if number == 6 then Update
    else if number == 7 then Turn
    else Select

-- the statement names a row, whose number is drawn
abbrev pub takes_id : Kind → Bool
takes_id Select = true
takes_id Update = true
takes_id Insert = false
takes_id Set = false
takes_id Turn = false

unfoldable pub insert_text : (statement : ℕ) → List ℕ
insert_text statement = codes "INSERT INTO t (v) VALUES ('x" ++ (decimal statement ++ codes "')")

unfoldable pub select_text : (id : ℕ) → List ℕ
select_text id = codes "SELECT v FROM t WHERE id = " ++ decimal id

unfoldable pub update_text : (statement id : ℕ) → List ℕ
update_text statement id = codes "UPDATE t SET v = 'y" ++ (decimal statement ++ (codes "' WHERE id = " ++ decimal id))

abbrev pub set_text : (statement : ℕ) → List ℕ
set_text statement = if statement % 2 == 0 then codes "SET sql_mode = 'STRICT_TRANS_TABLES'" else codes "SET sql_mode = DEFAULT"

abbrev pub turn_text : (begun : Bool) → List ℕ
turn_text begun = if begun then codes "COMMIT" else codes "BEGIN"

-- the text of the statement at a place, of a client that has begun a transaction or not
abbrev pub text_of : Kind → (statement id : ℕ) → (begun : Bool) → List ℕ
text_of Insert statement id begun = insert_text statement
text_of Select statement id begun = select_text id
text_of Set statement id begun = set_text statement
text_of Update statement id begun = update_text statement id
text_of Turn statement id begun = turn_text begun

abbrev pub is_begun_behind : Kind → (begun : Bool) → Bool
is_begun_behind Turn begun = not begun
is_begun_behind Insert begun = begun
is_begun_behind Select begun = begun
is_begun_behind Set begun = begun
is_begun_behind Update begun = begun

-- COM_QUERY
abbrev pub query : (text : List ℕ) → List ℕ
query text = 3 ∷ text
