-- The marks of what servers do.
use Rattle.std.specs.Prelude.{Bool, true, false, [], ◌∷◌, Option, Some, None}
use Rattle.mx_base.specs.declared.names.LinkId.{LinkId}
use Rattle.mx_wire.specs.Log.{Log}
use Rattle.mx_wire.specs.declared.entry.Entry.{Entry}
use Rattle.mx_wire.specs.declared.entry.Entry.TheVariants as entry
use Rattle.scripted_wire.specs.declared.did.Did.{Did}
use Rattle.scripted_wire.specs.declared.did.Did.TheVariants as did

abbrev pub mark_of : LinkId → Did → Option Entry
mark_of link did.Nothing = None
mark_of link did.Answered = None
mark_of link did.Ran = Some (entry.Exec link)
mark_of link did.Dropped = Some (entry.Drop link)

abbrev pub is_work : Did → Bool
is_work did.Nothing = false
is_work _ = true

abbrev pub option_log : Option Entry → Log
option_log None = []
option_log (Some e) = e ∷ []

abbrev pub marks_of : LinkId → Did → Log
marks_of link what = option_log (mark_of link what)
