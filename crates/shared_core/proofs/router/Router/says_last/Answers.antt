use Rattle.std.proofs.lemmas.Result.{on_ok_weaker}
use Rattle.shared_core.specs.Follows.{Keeps}
use Rattle.shared_core.specs.Stands.{tables}
use Rattle.shared_core.proofs.Keeping.{keeps_along}
use Rattle.shared_core.proofs.Last.{left-told}
use Rattle.shared_core.proofs.router.Router.says_last.Goals as goal

pub returns-then-is_still-clause-told : goal.returns-then-is_still-clause-told
returns-then-is_still-clause-told c = on_ok_weaker c.ends.result
    (λ leaves. λ rests. λ rested.
    left-told c.args.who.now c.args.client c.args.why (tables c.args.self.now) (tables c.says.new.self) (tables c.ends.new.self) c.in_ok-says.ensures.told
    (c.is_still.ensures c.if-is_still.true) leaves rests rested)
    c.ends.ensures.ends

pub returns-then-is_still-clause-keeps : goal.returns-then-is_still-clause-keeps
returns-then-is_still-clause-keeps c = on_ok_weaker c.ends.result
    (λ (keeps : Keeps c.says.new.self c.ends.new.self).
    keeps_along c.args.self.now c.says.new.self c.ends.new.self keeps c.in_ok-says.ensures.keeps)
    c.ends.ensures.keeps
