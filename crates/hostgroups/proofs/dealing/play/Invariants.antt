use Rattle.std.proofs.Common.{◌≡◌, ◌++◌, take}
use Rattle.hostgroups.specs.Dealing.{pass_turns}
use Rattle.hostgroups.proofs.dealing.play.Given as goal

abbrev pub invariant-loop-share : goal.invariant-loop-share
invariant-loop-share l = l.turns.items ≡ l.initial.turns.items ++ pass_turns l.heaviest (take l.share-index l.shares) l.pass
