use Rattle.mx_base.proofs.PieceSteps.{one_more}
use Rattle.mx_base.proofs.pieces.one_piece.Goals as goal

pub returns-in-Some : goal.returns-in-Some
returns-in-Some c = rw (c.in_ok-rest.was, c.first_piece.ensures, c.in-Some.is) (one_more c.args.separators.now c.first_piece.result.0.now c.in-Some.field-0.now)
