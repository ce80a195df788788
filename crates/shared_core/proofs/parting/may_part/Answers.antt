use Rattle.std.proofs.Common.{◌∙◌, sym}
use Rattle.shared_core.proofs.parting.may_part.Goals as goal

pub returns-then-are_homeless : goal.returns-then-are_homeless
returns-then-are_homeless c = λ is. record {
  over = sym c.is_ended.ensures ∙ c.if-not-is_ended.false;
  homeless = rw c.as_slice.ensures at (sym c.are_homeless.ensures ∙ c.if-are_homeless.true);
  lives = c.may_leave.ensures is;
}
