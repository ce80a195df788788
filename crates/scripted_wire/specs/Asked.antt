-- What a payload asks of a server in code.
use Rattle.std.specs.Prelude.{ℕ, nat_eq, List, Result, Ok, Err, if◌then◌else◌}
use Rattle.command_parse.specs.declared.fault.CommandFault.{CommandFault}
use Rattle.command_parse.specs.Meaning.{Meaning, Quit, InitDb, Query, FieldList, ResetConnection, Refused, parsed}
use Rattle.server_rule.specs.declared.command.Cmd.TheVariants as cmd
use Rattle.scripted_wire.specs.declared.asked.Asked.{Asked}
use Rattle.scripted_wire.specs.declared.asked.Asked.TheVariants as asked

-- COM_RESET_CONNECTION is the byte 31
abbrev pub asks_by : Meaning → Asked
asks_by Quit = asked.Quit
asks_by (InitDb schema) = asked.Run (cmd.InitDb schema)
asks_by (Query text) = asked.Run (cmd.Query text)
asks_by (FieldList rest) = asked.Run (cmd.FieldList rest)
asks_by ResetConnection = asked.Run cmd.Reset
asks_by (Refused byte) = if nat_eq byte 31 then asked.Run cmd.Reset else asked.Unknown
asks_by _ = asked.Unknown

abbrev pub asks_in : Result Meaning CommandFault → Asked
asks_in (Err fault) = asked.Unknown
asks_in (Ok meaning) = asks_by meaning

abbrev pub asks : List ℕ → Asked
asks payload = asks_in (parsed payload)
