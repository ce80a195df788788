-- A table of servers in force.
use Rattle.std.specs.Prelude.{◌≤◌, List, All, length}
use Rattle.hostgroups.specs.declared.server.Server.{Server}
use Rattle.hostgroups.specs.Rounds.{AreFull, Coming}
use Rattle.hostgroups.specs.Servers.{rows_of, turning_rows}

-- the servers by number, and the turns that come in each hostgroup
pub record Table : Type 0 where
  pub servers : List Server
  pub rounds : List Coming

-- the turns are full rounds of the servers that haven't gone, each of which has one at least, and each server has a number
pub record Holds (table : Table) : Type 0 where
  pub full : AreFull (turning_rows table.servers) table.rounds
  pub weights : All (λ row. 1 ≤ row.weight) (rows_of table.servers)
  pub few : length table.servers ≤ 65535
