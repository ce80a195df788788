-- The server of a load, before the first client comes.
use Rattle.std.specs.Prelude.{[], codes}
use Rattle.mem_rule.specs.Commands.{ran, tables_after}
use Rattle.mem_rule.specs.Tables.{Tables, no_tables}
use Rattle.server_rule.specs.Servers.{fresh, no_capabilities}
use Rattle.server_rule.specs.declared.command.Cmd.{Cmd}
use Rattle.server_rule.specs.declared.command.Cmd.TheVariants.{Query, Close}
use Rattle.server_rule.specs.declared.session.Session.{Session}

abbrev pub first_session : Session
first_session = fresh (codes "u") no_capabilities (codes "load")

abbrev pub create : Cmd
create = Query (codes "CREATE TABLE t")

-- in a session of the schema `load` it ran CREATE TABLE, and closed the session
abbrev pub load_tables : Tables
load_tables = tables_after (tables_after no_tables first_session create) (ran no_tables first_session create).session Close
