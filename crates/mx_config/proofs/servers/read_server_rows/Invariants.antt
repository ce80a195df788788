use Rattle.mx_config.specs.Lawful.{AreLawfulServers}
use Rattle.mx_config.specs.Tables.{server_row}
use Rattle.mx_config.proofs.RowSteps.{Reads}
use Rattle.mx_config.proofs.servers.read_server_rows.Given as goal

abbrev pub invariant-loop-value : goal.invariant-loop-value
invariant-loop-value l = record {
  reads : Reads server_row l.items l.value-index l.servers;
  lawful : AreLawfulServers l.servers;
}
