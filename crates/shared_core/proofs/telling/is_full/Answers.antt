use Rattle.std.proofs.Common.{subst, sym}
use Rattle.std.proofs.lemmas.Bool.{ltb-true}
use Rattle.core_service.specs.Failures.{payload_of}
use Rattle.core_service.specs.declared.failure.Failure.{Failure}
use Rattle.router_laws.specs.decisions.Partings.{IsFull}
use Rattle.shared_core.proofs.Partings.{full-so}
use Rattle.shared_core.proofs.telling.is_full.Goals as goal

pub returns-in-BuffersFull : goal.returns-in-BuffersFull
returns-in-BuffersFull c = λ more.
    subst (λ (why : Failure). IsFull c.args.budget (payload_of why)) (sym c.in-BuffersFull.is)
    (full-so c.args.budget c.in-BuffersFull.kept c.in-BuffersFull.announced c.saturating_add.result c.saturating_add.ensures
    (ltb-true c.args.budget c.saturating_add.result more))
