use Rattle.std.proofs.Common.{◌≡◌, length}
use Rattle.generated_load.specs.Talks.{first_load, load_after}
use Rattle.generated_load.proofs.talk.loaded.Given as goal

-- what is said so far
abbrev pub invariant-loop-statement : goal.invariant-loop-statement
invariant-loop-statement l = record {
  said : l.load ≡ load_after l.statement (first_load l.ask);
  size : length l.load.talks ≡ l.ask.clients;
}
