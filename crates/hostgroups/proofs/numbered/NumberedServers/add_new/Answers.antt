use Rattle.std.proofs.Common.{sym, ◌∙◌}
use Rattle.hostgroups.proofs.Reloading.{room_for_new}
use Rattle.hostgroups.proofs.numbered.NumberedServers.add_new.Goals as goal

pub push-requires : goal.push-requires
push-requires c =
    room_for_new _ _ _ _ _ _ c.loop-row-test.true (sym c.is_new.ensures ∙ c.if-is_new.true) c.loop-row.invariant c.requires
