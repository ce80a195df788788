-- Statements worked out: what a transaction, a lock, an insert id and a temporary table come to.
use Rattle.std.specs.Prelude.{ℕ, false, List, [], ◌∷◌, codes, fold, Option}
use Rattle.session_state.specs.declared.reply_end.ReplyEnd.{ReplyEnd}
use Rattle.server_rule.specs.Replies.{one_number, reply_end}
use Rattle.server_rule.specs.Servers.{fresh, no_capabilities}
use Rattle.server_rule.specs.Texts.{read_id_text}
use Rattle.server_rule.specs.declared.command.Cmd.{Cmd}
use Rattle.server_rule.specs.declared.command.Cmd.TheVariants.{Query}
use Rattle.server_rule.specs.declared.session.Session.{Session}
use Rattle.mem_rule.specs.Commands.{ran, tables_after}
use Rattle.mem_rule.specs.Tables.{Tables, no_tables}

-- the data, a session, and the last reply in it
pub record Point : Type 0 where
  pub tables : Tables
  pub session : Session
  pub reply : List (List ℕ)

abbrev pub asks : Point → Cmd → Point
asks p c = record { tables = tables_after p.tables p.session c; session = (ran p.tables p.session c).session; reply = (ran p.tables p.session c).reply }

-- behind these commands
abbrev pub behind : Point → List Cmd → Point
behind p cmds = fold asks p cmds

abbrev pub new_session : Session
new_session = fresh (codes "u") no_capabilities []

-- a new server and a new session
abbrev pub opening : Point
opening = record { tables = no_tables; session = new_session; reply = [] }

abbrev pub create : Cmd
create = Query (codes "CREATE TABLE t")

abbrev pub insert : Cmd
insert = Query (codes "INSERT INTO t (v) VALUES ('a')")

abbrev pub count : Cmd
count = Query (codes "SELECT COUNT(*) FROM t")

abbrev pub end_of : Point → ReplyEnd
end_of p = reply_end false p.reply

-- an insert in a transaction, and how many rows there are once it was ended so
abbrev pub in_transaction : Point
in_transaction = behind opening (create ∷ Query (codes "BEGIN") ∷ insert ∷ [])

abbrev pub rows_behind : Cmd → Option ℕ
rows_behind ending = one_number (behind in_transaction (ending ∷ count ∷ [])).reply

-- a lock, and the error of another session's insert once this was done
abbrev pub locked : Point
locked = behind opening (create ∷ Query (codes "LOCK TABLES t WRITE") ∷ [])

abbrev pub other_behind : List Cmd → ReplyEnd
other_behind cmds = end_of (asks (record (behind locked cmds) { session = new_session }) insert)

-- an insert, and what LAST_INSERT_ID gives once this was done
abbrev pub filled : Point
filled = behind opening (create ∷ insert ∷ [])

abbrev pub id_behind : List Cmd → Option ℕ
id_behind cmds = one_number (asks (behind filled cmds) (Query read_id_text)).reply

-- a temporary table with a row
abbrev pub temporary : Point
temporary = behind opening (Query (codes "CREATE TEMPORARY TABLE t") ∷ insert ∷ [])
