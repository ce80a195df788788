-- What a client's payload commands.
use Rattle.std.specs.Prelude.{ℕ, Bool, nat_eq, ◌||◌, List, [], ◌∷◌, Option, None, Result, Ok, Err, if◌then◌else◌}
use Rattle.std.specs.Option.{option_copied}
use Rattle.mx_base.specs.Fields.{number_at}
use Rattle.command_parse.specs.declared.command.Command.{Command}
use Rattle.command_parse.specs.declared.command.Command.TheVariants as commands
use Rattle.command_parse.specs.declared.command_byte.TheConstants.{COM_QUIT, COM_INIT_DB, COM_QUERY, COM_FIELD_LIST, COM_PING, COM_STMT_EXECUTE, COM_STMT_SEND_LONG_DATA, COM_STMT_CLOSE, COM_STMT_RESET, COM_STMT_FETCH}
use Rattle.command_parse.specs.declared.fault.CommandFault.{CommandFault}
use Rattle.command_parse.specs.declared.fault.CommandFault.TheVariants.{Empty}

-- a command, wherever its texts lie
pub data Meaning : Type 0 where
  Quit : Meaning
  InitDb : (schema : List ℕ) → Meaning
  Query : (text : List ℕ) → Meaning
  FieldList : (rest : List ℕ) → Meaning
  Ping : Meaning
  Prepare : (text : List ℕ) → Meaning
  Execute : (id : ℕ) → (types : Option (List ℕ)) → (nulls values : List ℕ) → Meaning
  LongData : (id parameter : ℕ) → (bytes : List ℕ) → Meaning
  Close : (id : ℕ) → Meaning
  ResetStmt : (id : ℕ) → Meaning
  Fetch : (id : ℕ) → Meaning
  ResetConnection : Meaning
  Refused : (byte : ℕ) → Meaning

abbrev pub meaning_of : Command → Meaning
meaning_of commands.Quit = Quit
meaning_of (commands.InitDb schema) = InitDb schema.now
meaning_of (commands.Query text) = Query text.now
meaning_of (commands.FieldList rest) = FieldList rest.now
meaning_of commands.Ping = Ping
meaning_of (commands.Prepare text) = Prepare text.now
meaning_of (commands.Execute id types nulls values) = Execute id (option_copied types) nulls.now values.now
meaning_of (commands.LongData id parameter bytes) = LongData id parameter bytes.now
meaning_of (commands.Close id) = Close id
meaning_of (commands.ResetStmt id) = ResetStmt id
meaning_of (commands.Fetch id) = Fetch id
meaning_of commands.ResetConnection = ResetConnection
meaning_of (commands.Refused byte) = Refused byte

-- by the command byte, and the bytes behind it
abbrev pub command_of : (byte : ℕ) → List ℕ → Meaning
command_of byte rest =
    if nat_eq byte COM_QUIT then Quit
    else if nat_eq byte COM_INIT_DB then InitDb rest
    else if nat_eq byte COM_QUERY then Query rest
    else if nat_eq byte COM_FIELD_LIST then FieldList rest
    else if nat_eq byte COM_PING then Ping
    else Refused byte

-- what a payload commands, or why it commands nothing
abbrev pub parsed : List ℕ → Result Meaning CommandFault
parsed [] = Err Empty
parsed (byte ∷ rest) = Ok (command_of byte rest)

-- a part of a parameter and the end of a prepared statement: nothing answers these, whatever stands behind the byte
abbrev pub has_no_reply : (byte : ℕ) → Bool
has_no_reply byte = nat_eq byte COM_STMT_SEND_LONG_DATA || nat_eq byte COM_STMT_CLOSE

-- a command for a prepared statement
abbrev pub names_statement : (byte : ℕ) → Bool
names_statement byte = nat_eq byte COM_STMT_EXECUTE || nat_eq byte COM_STMT_SEND_LONG_DATA || nat_eq byte COM_STMT_CLOSE || nat_eq byte COM_STMT_RESET || nat_eq byte COM_STMT_FETCH

-- the number that stands behind the byte of such a command
abbrev pub statement_of : List ℕ → Option ℕ
statement_of [] = None
statement_of (byte ∷ rest) = if names_statement byte then number_at 4 1 (byte ∷ rest) else None
