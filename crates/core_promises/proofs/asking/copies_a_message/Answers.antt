use Rattle.std.proofs.Common.{sym, ◌∙◌}
use Rattle.router_promises.proofs.Refusals.{none-some}
use Rattle.core_promises.proofs.asking.copies_a_message.Goals as goal

pub returns : goal.returns
returns c = λ terms log m route second keeps goes copied. none-some (sym (keeps.copies m route goes) ∙ copied)
