use Rattle.std.specs.Prelude.{◌≤◌, All}
use Rattle.std.proofs.Common.{subst, sym}
use Rattle.byte_checks.proofs.files.admin.put_config.Goals as goal

pub of-requires : goal.of-requires
of-requires c = subst (λ rows. All (λ row. 1 ≤ row.weight) rows) (sym c.as_slice-servers.ensures) c.requires.servers.weights
