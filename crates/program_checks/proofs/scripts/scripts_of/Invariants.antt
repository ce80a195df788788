use Rattle.std.specs.List.{All}
use Rattle.handshake.specs.Spelling.{IsText}
use Rattle.scripted_wire.specs.declared.script.Script.{Script}
use Rattle.program_checks.proofs.scripts.scripts_of.Given as goal

abbrev pub invariant-loop-part : goal.invariant-loop-part
invariant-loop-part l = All (λ (script : Script). IsText script.user) l.scripts.items
