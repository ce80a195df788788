use Rattle.std.proofs.Common.{◌≡◌}
use Rattle.hostgroups.specs.Dealing.{upto}
use Rattle.hostgroups.proofs.dealing.passes.Given as goal

abbrev pub invariant-loop-pass : goal.invariant-loop-pass
invariant-loop-pass l = l.passes.items ≡ upto l.pass
