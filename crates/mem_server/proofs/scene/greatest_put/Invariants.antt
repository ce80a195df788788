use Rattle.std.proofs.Common.{◌≡◌, drop}
use Rattle.std.specs.Prelude.{fold}
use Rattle.mem_rule.specs.Scenes.{greater}
use Rattle.mem_server.proofs.scene.greatest_put.Given as goal

abbrev pub invariant-loop-note : goal.invariant-loop-note
invariant-loop-note l = fold (greater l.schema) l.greatest (drop l.note-index l.notes) ≡ fold (greater l.schema) l.most l.notes
