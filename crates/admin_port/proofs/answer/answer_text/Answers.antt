use Rattle.admin_port.proofs.Whole.{whole_if}
use Rattle.admin_port.proofs.answer.answer_text.Goals as goal

pub returns-clause-whole : goal.returns-clause-whole
returns-clause-whole c = whole_if _ _ _ _ _ c.answered_text.ensures.said
