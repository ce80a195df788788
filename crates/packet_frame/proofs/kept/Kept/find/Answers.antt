use Rattle.std.proofs.Common.{◌∙◌, ap, sym, Err}
use Rattle.std.proofs.lemmas.Result.{err_from_is_err_and}
use Rattle.packet_frame.specs.FramerState.{answer}
use Rattle.packet_frame.proofs.Joins.{found-other}
use Rattle.packet_frame.proofs.kept.Kept.find.Goals as goal

pub returns-in_err-begin-clause-found : goal.returns-in_err-begin-clause-found
returns-in_err-begin-clause-found c =
    let other = c.in_err-begin.ensures.err in
    let left = err_from_is_err_and c.from_residual.result c.from_residual.ensures.1 in
    left.1 ∙ ap Err (left.2 ∙ other.0) ∙ sym (ap answer (found-other c.args.limit c.args.first c.args.self.now other.2 other.3))
