-- The texts by which the router sets and reads the insert id of a session.
use Rattle.std.specs.Prelude.{ℕ, List, ◌++◌, codes, decimal}

abbrev pub set_id_text : ℕ → List ℕ
set_id_text n = codes "SET SESSION last_insert_id = " ++ decimal n

abbrev pub read_id_text : List ℕ
read_id_text = codes "SELECT LAST_INSERT_ID()"
