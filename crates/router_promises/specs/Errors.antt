-- The payloads of the errors that the router answers, beside those of client_session.
use Rattle.std.specs.Prelude.{List, codes, ℕ, ◌++◌}
use Rattle.std.specs.Fmt.{decimal}
use Rattle.reply_text.specs.Replies.{err_payload}

-- errors of this router have the state HY000
abbrev pub own_error : (code : ℕ) → (text : List ℕ) → List ℕ
own_error code text = err_payload code (codes "HY000") text

unfoldable pub server_shutdown : List ℕ
server_shutdown = err_payload 1053 (codes "08S01") (codes "Server shutdown in progress")

unfoldable pub refused_by_rule : (text : List ℕ) → List ℕ
refused_by_rule text = err_payload 1148 (codes "42000") text

unfoldable pub unknown_statement : (number : ℕ) → List ℕ
unknown_statement number = own_error 1243 (codes "Unknown prepared statement " ++ decimal number)

unfoldable pub no_server_in : (hostgroup : ℕ) → List ℕ
no_server_in hostgroup = own_error 9100 (codes "No server in hostgroup " ++ decimal hostgroup)

unfoldable pub no_connection : (since now : ℕ) → List ℕ
no_connection since now = own_error 9102 (codes "No connection from " ++ (decimal since ++ (codes " to " ++ decimal now)))

unfoldable pub replay_refused : (code : ℕ) → List ℕ
replay_refused code = own_error 9104 (codes "Session replay refused with " ++ decimal code)

unfoldable pub server_offline : List ℕ
server_offline = own_error 9105 (codes "Server taken offline")

unfoldable pub diagnostics_gone : List ℕ
diagnostics_gone = own_error 9106 (codes "Diagnostics are gone")

unfoldable pub names_connection : List ℕ
names_connection = own_error 9107 (codes "Statement names a connection")

unfoldable pub sets_server : List ℕ
sets_server = own_error 9108 (codes "Global settings are not set here")

unfoldable pub buffers_full : (kept announced : ℕ) → List ℕ
buffers_full kept announced = own_error 9112 (codes "Buffers full: " ++ (decimal kept ++ (codes " and " ++ decimal announced)))

unfoldable pub too_many_statements : List ℕ
too_many_statements = own_error 9113 (codes "Too many prepared statements")

unfoldable pub out_of_memory : List ℕ
out_of_memory = own_error 9199 (codes "Out of memory")
