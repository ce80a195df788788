use Rattle.std.proofs.Common.{◌≡◌, ◌++◌, All, map}
use Rattle.std.specs.Vec.Iter.{into_iter_items}
use Rattle.handshake.specs.Spelling.{IsText}
use Rattle.scripted_wire.specs.declared.script.Script.{Script}
use Rattle.generated_load.specs.Talks.{scripted, written_out}
use Rattle.generated_load.proofs.talk.load_scripts.Given as goal

-- the scripts so far, and those of the talks that are left
abbrev pub invariant-loop-talk : goal.invariant-loop-talk
invariant-loop-talk l = record {
  said : map written_out l.scripts.items ++ map scripted (into_iter_items l.talk-iterator) ≡ map scripted (into_iter_items l.initial.talk-iterator);
  users : All (λ (script : Script). IsText script.user) l.scripts.items;
}
