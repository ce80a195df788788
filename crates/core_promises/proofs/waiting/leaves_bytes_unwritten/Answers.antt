use Rattle.std.proofs.Common.{sym, ◌∙◌, inl, inr}
use Rattle.router_promises.proofs.Refusals.{never}
use Rattle.core_promises.proofs.Done.{served-at}
use Rattle.core_promises.proofs.waiting.leaves_bytes_unwritten.Goals as goal

pub returns : goal.returns
returns c = λ terms before client wait goes untold wet. elim (served-at terms before client wait goes).told [
  | inl told ↦ untold told
  | inr dry ↦ never (sym dry ∙ wet)
]
