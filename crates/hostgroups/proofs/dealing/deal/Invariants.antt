use Rattle.std.proofs.Common.{◌≡◌, take}
use Rattle.std.specs.List.{flat_map}
use Rattle.hostgroups.specs.Dealing.{pass_turns}
use Rattle.hostgroups.proofs.dealing.deal.Given as goal

abbrev pub invariant-loop-pass : goal.invariant-loop-pass
invariant-loop-pass l = l.turns.items ≡ flat_map (pass_turns l.heaviest l.shares.items) (take l.pass-index l.pass-items)
