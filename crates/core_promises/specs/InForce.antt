-- Whether an administrator came.
use Rattle.std.specs.Prelude.{Bool, false, true}
use Rattle.std.specs.List.{list_any}
use Rattle.mx_base.specs.declared.names.Port.TheVariants.{Admin}
use Rattle.mx_wire.specs.Log.{Log}
use Rattle.mx_wire.specs.declared.entry.Entry.{Entry}
use Rattle.mx_wire.specs.declared.entry.Entry.TheVariants.{Accepted}

abbrev pub is_administrators : Entry → Bool
is_administrators (Accepted Admin link salt) = true
is_administrators _ = false

-- an administrator came
abbrev pub has_administrator : Log → Bool
has_administrator log = list_any is_administrators log
