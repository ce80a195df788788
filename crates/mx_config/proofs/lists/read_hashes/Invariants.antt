use Rattle.mx_config.specs.Lists.{digest_at}
use Rattle.mx_config.proofs.RowSteps.{Reads}
use Rattle.mx_config.proofs.lists.read_hashes.Given as goal

abbrev pub invariant-loop-value : goal.invariant-loop-value
invariant-loop-value l = Reads (λ _ entry. digest_at l.row.place entry) l.items l.value-index l.hashes
