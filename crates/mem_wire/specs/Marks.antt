-- The entries of a server's marks.
use Rattle.std.specs.Prelude.{List, map}
use Rattle.mx_base.specs.declared.names.LinkId.{LinkId}
use Rattle.mx_wire.specs.Log.{Log}
use Rattle.mx_wire.specs.declared.entry.Entry.{Entry}
use Rattle.mx_wire.specs.declared.entry.Entry.TheVariants as entry
use Rattle.mem_wire.specs.declared.marks.Mark.{Mark}
use Rattle.mem_wire.specs.declared.marks.Mark.TheVariants as mark

abbrev pub mark_entry : LinkId → Mark → Entry
mark_entry link mark.Exec = entry.Exec link
mark_entry link mark.Drop = entry.Drop link

abbrev pub entries_of : LinkId → List Mark → Log
entries_of link marks = map (mark_entry link) marks
