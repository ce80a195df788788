use Rattle.std.proofs.Common.{◌∙◌, sym}
use Rattle.shared_core.proofs.Last.{rests-as}
use Rattle.shared_core.proofs.telling.who_rests.Goals as goal

pub returns-then-is_at_rest : goal.returns-then-is_at_rest
returns-then-is_at_rest c =
    rests-as c.who_of.result c.args.row.now (sym c.is_at_rest.ensures ∙ c.if-is_at_rest.true) c.who_of.ensures.number c.who_of.ensures.salt
