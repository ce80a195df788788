use Rattle.std.proofs.Common.{◌∙◌}
use Rattle.core_texts.proofs.Keeping.{less_on}
use Rattle.shared_core.specs.Stands.{tables}
use Rattle.shared_core.proofs.Needed.{begun_keeps, begun_less, begun_same}
use Rattle.shared_core.proofs.router.Router.begins.Goals as goal

pub returns-clause-less : goal.returns-clause-less
returns-clause-less c =
    begun_less c.args.self.now.texts c.drops_notes.new.self.texts c.begin.new.self
    (less_on c.args.self.now.texts c.forgets_texts.new.self.texts c.drops_notes.new.self.texts c.in_ok-forgets_texts.ensures.less
    c.in_ok-drops_notes.ensures.less) c.begin.ensures.last c.begin.ensures.noted c.begin.ensures.same

pub returns-clause-kept : goal.returns-clause-kept
returns-clause-kept c =
    begun_keeps c.args.self.now.texts c.drops_notes.new.self.texts c.begin.new.self (tables c.args.self.now)
    (begun_keeps c.args.self.now.texts c.forgets_texts.new.self.texts c.drops_notes.new.self.texts (tables c.args.self.now)
    c.in_ok-forgets_texts.ensures.kept c.in_ok-drops_notes.ensures.kept) c.begin.ensures.same

pub returns-clause-same : goal.returns-clause-same
returns-clause-same c =
    begun_same c.args.self.now c.drops_notes.new.self c.begin.new.self
    (c.in_ok-drops_notes.ensures.same
    ∙ begun_same c.args.self.now c.forgets_texts.new.self c.drops_notes.new.self.texts c.in_ok-forgets_texts.ensures.same)
