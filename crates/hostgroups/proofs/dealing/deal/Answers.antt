use Rattle.std.proofs.Common.{◌≡◌, take, arith}
use Rattle.std.proofs.lemmas.List.{take_all}
use Rattle.hostgroups.proofs.Evenness.{round_dealt}
use Rattle.hostgroups.proofs.dealing.deal.Goals as goal

pub returns : goal.returns
returns c =
    let whole : take c.loop-pass.pass-index c.deref-pass-items.result.now ≡ c.deref-pass-items.result.now = take_all _ _ (omega arith) in
    rw (c.loop-pass.invariant, whole, c.deref-pass-items.ensures.value)
    (round_dealt c.args.rows.now c.args.hostgroup c.heaviest-heaviest.result c.in_ok-shares.shares.items c.in_ok-passes.passes.items
    c.in_ok-shares.ensures c.in_ok-passes.ensures.all c.in_ok-passes.ensures.within)
