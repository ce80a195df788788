use Rattle.std.proofs.Common.{◌∙◌, sym}
use Rattle.shared_core.proofs.Tested.{lives-so}
use Rattle.shared_core.proofs.rows.may_leave.Goals as goal

pub returns-then-have_lives : goal.returns-then-have_lives
returns-then-have_lives c = λ few. lives-so c.args.desk.now (rw c.as_slice.ensures at (sym c.have_lives.ensures ∙ c.if-have_lives.true)) few
