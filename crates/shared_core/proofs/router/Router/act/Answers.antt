use Rattle.std.proofs.Common.{◌∙◌, sym}
use Rattle.marked_tables.proofs.Going.{goes_along}
use Rattle.shared_core.proofs.Acting.{asks_more, asks_none, asks_then}
use Rattle.shared_core.proofs.router.Router.act.Goals as goal

pub asked-init : goal.asked-init
asked-init c = asks_none c.args.self.now c.requires.closed c.requires.unasked

pub asked-preserved : goal.asked-preserved
asked-preserved c =
    asks_more c.args.self.now c.asked.self c.asks_for-act.new.self c.asks_for-act.result c.asked.invariant c.asks_for-act.ensures.acts
    c.asks_for-act.ensures.goes c.asks_for-act.ensures.asked
    (sym c.is_some.ensures ∙ c.if-is_some.false)

pub returns-then-is_some-clause-acts : goal.returns-then-is_some-clause-acts
returns-then-is_some-clause-acts c =
    asks_then c.args.self.now c.asked.self c.asks_for-act.new.self c.asks_for-act.result c.asked.invariant c.asks_for-act.ensures.acts

pub returns-then-is_some-clause-goes : goal.returns-then-is_some-clause-goes
returns-then-is_some-clause-goes c =
    goes_along c.args.self.now.marked c.asked.self.marked c.asks_for-act.new.self.marked c.asked.invariant.goes c.asks_for-act.ensures.goes
