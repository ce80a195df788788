use Rattle.std.proofs.Common.{◌≡◌, replicate}
use Rattle.generated_load.specs.Talks.{no_talk}
use Rattle.generated_load.proofs.talk.silent.Given as goal

abbrev pub invariant-loop : goal.invariant-loop
invariant-loop l = l.talks.items ≡ replicate l.counter no_talk
