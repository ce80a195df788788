-- A client's statement is to be written next on a link.
use Rattle.std.specs.Prelude.{ℕ, Bool, if◌then◌else◌, List, ◌∷◌, Option, Some, None}
use Rattle.link_state.specs.Asks.{tag_of}
use Rattle.link_state.specs.declared.asking.Form.{Form}
use Rattle.link_state.specs.declared.asking.Purpose.{Purpose}
use Rattle.link_state.specs.declared.asking.Purpose.TheVariants as purposes
use Rattle.lent_link.specs.declared.link.Begins.TheVariants as begins
use Rattle.served_link.specs.Begins.{stands}
use Rattle.served_link.specs.Numbers.{without}
use Rattle.served_link.specs.declared.row.Row.{Row}
use Rattle.served_link.specs.declared.stating.Stated.{Stated}

abbrev pub purpose_of : Stated → Purpose
purpose_of s = purposes.Statement s.name s.ordinal s.key

abbrev pub states : Stated → Form → (packets : List ℕ) → Row → Row
states s form packets row =
    record (stands (tag_of (purpose_of s)) packets (begins.Asks (record { purpose = purpose_of s; form = form })) s.first s.number row)
    { multiplex = s.multiplex }

-- the numbers with long data once an execute of this one begins, where it has such
abbrev pub longer : (number : ℕ) → (has_long : Bool) → (long : List ℕ) → Option (List ℕ)
longer number has_long long = if has_long then Some (number ∷ without number long) else None

-- an execute of what has this number there
abbrev pub runs : Stated → Form → (there : ℕ) → (packets : List ℕ) → (has_long : Bool) → Row → Row
runs s form there packets has_long row = record (states s form packets row) { longer = longer there has_long row.long }
