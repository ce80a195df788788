use Rattle.std.proofs.Common.{[]}
use Rattle.mx_config.specs.Lawful.{EachBehind, IsLawfulUser}
use Rattle.mx_config.specs.Tables.{user_row}
use Rattle.mx_config.proofs.RowSteps.{Reads}
use Rattle.mx_config.proofs.users.read_user_rows.Given as goal

abbrev pub invariant-loop-value : goal.invariant-loop-value
invariant-loop-value l = record {
  reads : Reads user_row l.items l.value-index l.users;
  lawful : EachBehind IsLawfulUser [] l.users;
}
