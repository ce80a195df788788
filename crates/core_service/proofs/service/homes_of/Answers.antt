use Rattle.std.proofs.Common.{refl, ◌∙◌}
use Rattle.core_service.proofs.Homes.{put_before}
use Rattle.core_service.proofs.service.homes_of.Goals as goal

pub loop-k-preserved-in_ok-insert : goal.loop-k-preserved-in_ok-insert
loop-k-preserved-in_ok-insert c =
    put_before c.loop-k.users c.insert.new.self _ _ c.args.rows.now c.loop-k.k c.index-rows-k.result c.loop-k-test.true c.loop-k.auto.k c.index-rows-k.is
    (c.in_ok-name.ensures ∙ c.as_slice.ensures) refl c.loop-k.invariant c.in_ok-insert.ensures.updates.0

pub loop-k-preserved : goal.loop-k-preserved
loop-k-preserved c =
    put_before c.loop-k.users c.insert.new.self _ _ c.args.rows.now c.loop-k.k c.index-rows-k.result c.loop-k-test.true c.loop-k.auto.k c.index-rows-k.is
    (c.in_ok-name.ensures ∙ c.as_slice.ensures) refl c.loop-k.invariant c.in_ok-insert.ensures.updates.0
