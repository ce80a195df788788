-- What a reader lends, seen as what it stands for.
use Rattle.std.specs.Prelude.{◌≡◌, List, String, Result, Ok, Err}
use Rattle.std.specs.BTreeMap.{BTreeMap}
use Rattle.std.specs.Borrow.{Bor}
use Rattle.std.specs.declared.alloc.Global.{Global}
use Rattle.toml.specs.Data.{Members, Items}
use Rattle.toml.specs.View.{table_view, items_view}
use Rattle.toml.specs.declared.value.Value.{Value}
use Rattle.mx_config.specs.declared.fault.ConfigRefusal.{ConfigRefusal}
use Rattle.mx_config.specs.declared.fault.Place.{Place}
use Rattle.mx_config.specs.declared.row.Row.{Row}
use Rattle.mx_config.specs.Faults.{Said, fault_of, Refuses}

-- unless memory was refused, the members of the table are those that are said
abbrev pub GivesTable : Result (Bor (BTreeMap (String Global) Value)) ConfigRefusal → Said Members → Type 0
GivesTable (Ok t) said = said ≡ Ok (table_view t.now)
GivesTable (Err refusal) said = Refuses refusal (fault_of said)

-- unless memory was refused, the rows are the items that are said
abbrev pub GivesRows : Result (Bor (List Value)) ConfigRefusal → Said Items → Type 0
GivesRows (Ok rows) said = said ≡ Ok (items_view rows.now)
GivesRows (Err refusal) said = Refuses refusal (fault_of said)

-- unless memory was refused, the row stands at the place and has the members that are said
abbrev pub GivesRow : Result Row ConfigRefusal → Place → Said Members → Type 0
GivesRow (Ok row) place said = (row.place ≡ place) × (said ≡ Ok (table_view row.members.now))
GivesRow (Err refusal) place said = Refuses refusal (fault_of said)
