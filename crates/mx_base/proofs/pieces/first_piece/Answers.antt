use Rattle.mx_base.specs.Pieces.{is_among}
use Rattle.mx_base.specs.PieceLaws.{uncut, cut}
use Rattle.mx_base.proofs.pieces.first_piece.Goals as goal

pub returns-in-Some : goal.returns-in-Some
returns-in-Some c = cut (is_among c.args.separators.now) c.args.text.now c.in-Some.at c.in-Some.ensures

pub returns-in-None : goal.returns-in-None
returns-in-None c = uncut (is_among c.args.separators.now) c.args.text.now c.in-None.ensures
