-- The table of commands.
use Rattle.std.specs.Prelude.{ℕ, Bool, true, false, nat_eq, Option, None, Some, if◌then◌else◌}
use Rattle.command_parse.specs.declared.command_byte.TheConstants.{COM_QUIT, COM_INIT_DB, COM_QUERY, COM_FIELD_LIST, COM_PING, COM_STMT_PREPARE, COM_STMT_EXECUTE, COM_STMT_SEND_LONG_DATA, COM_STMT_CLOSE, COM_STMT_RESET, COM_STMT_FETCH, COM_RESET_CONNECTION}
use Rattle.command_parse.specs.declared.kind.CommandKind.{CommandKind}
use Rattle.command_parse.specs.declared.kind.CommandKind.TheVariants as kinds
use Rattle.command_parse.specs.declared.kind.CommandRow.{CommandRow}
use Rattle.command_parse.specs.declared.kind.Replied.{Replied}
use Rattle.command_parse.specs.declared.kind.Replied.TheVariants.{Fields, Prepared, Results}

abbrev pub row : (byte : ℕ) → (to_server : Bool) → Option Replied → (is_answered : Bool) → CommandRow
row byte to_server reply is_answered = record { byte = byte; to_server = to_server; reply = reply; is_answered = is_answered }

-- the byte, whether a server gets it, how the server's reply is read, whether the client gets an answer
abbrev pub row_of : CommandKind → CommandRow
row_of kinds.Quit = row COM_QUIT false None false
row_of kinds.InitDb = row COM_INIT_DB true (Some Results) true
row_of kinds.Query = row COM_QUERY true (Some Results) true
row_of kinds.FieldList = row COM_FIELD_LIST true (Some Fields) true
row_of kinds.Ping = row COM_PING false (Some Results) true
row_of kinds.Prepare = row COM_STMT_PREPARE true (Some Prepared) true
row_of kinds.Execute = row COM_STMT_EXECUTE true (Some Results) true
row_of kinds.LongData = row COM_STMT_SEND_LONG_DATA false None false
row_of kinds.Close = row COM_STMT_CLOSE false None false
row_of kinds.ResetStmt = row COM_STMT_RESET false (Some Results) true
row_of kinds.Fetch = row COM_STMT_FETCH false None true
row_of kinds.ResetConnection = row COM_RESET_CONNECTION false (Some Results) true

abbrev pub kind_of : (byte : ℕ) → Option CommandKind
kind_of byte =
    if nat_eq byte COM_QUIT then Some kinds.Quit
    else if nat_eq byte COM_INIT_DB then Some kinds.InitDb
    else if nat_eq byte COM_QUERY then Some kinds.Query
    else if nat_eq byte COM_FIELD_LIST then Some kinds.FieldList
    else if nat_eq byte COM_PING then Some kinds.Ping
    else if nat_eq byte COM_STMT_PREPARE then Some kinds.Prepare
    else if nat_eq byte COM_STMT_EXECUTE then Some kinds.Execute
    else if nat_eq byte COM_STMT_SEND_LONG_DATA then Some kinds.LongData
    else if nat_eq byte COM_STMT_CLOSE then Some kinds.Close
    else if nat_eq byte COM_STMT_RESET then Some kinds.ResetStmt
    else if nat_eq byte COM_STMT_FETCH then Some kinds.Fetch
    else if nat_eq byte COM_RESET_CONNECTION then Some kinds.ResetConnection
    else None
