use Rattle.admin_port.proofs.Reading.{names_on}
use Rattle.admin_port.proofs.pair.read_names.Goals as goal

pub loop-name-preserved : goal.loop-name-preserved
loop-name-preserved c =
    names_on _ _ _ _ _ _ _ _ _ _ _ c.loop-name.invariant c.in-Some.ensures c.in-Some-first_token.ensures c.in_ok-name.ensures c.reads.ensures
    c.if-not-reads.false c.in_ok-push.ensures.ok
