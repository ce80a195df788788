-- Entries that tell the router nothing, and those that servers make.
use Rattle.std.specs.Prelude.{Bool, true, false}
use Rattle.mx_wire.specs.declared.entry.Entry.{Entry}
use Rattle.mx_wire.specs.declared.entry.Entry.TheVariants.{AcceptFailed, AcceptNothing, Drop, Exec, ListenFailed, Listening, Named, NoneNamed, Over, ReadNothing, WaitFailed, WriteNothing}

abbrev pub is_silent : Entry → Bool
is_silent (Listening port address) = true
is_silent (ListenFailed port) = true
is_silent WaitFailed = true
is_silent Over = true
is_silent (Named link) = true
is_silent NoneNamed = true
is_silent (AcceptNothing port) = true
is_silent (AcceptFailed port) = true
is_silent (ReadNothing link) = true
is_silent (WriteNothing link) = true
is_silent _ = false

-- by which the tables stay as they are
abbrev pub is_quiet : Entry → Bool
is_quiet (Exec link) = true
is_quiet (Drop link) = true
is_quiet e = is_silent e
