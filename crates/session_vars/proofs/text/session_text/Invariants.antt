use Rattle.std.proofs.Common.{◌≡◌, [], drop, fold}
use Rattle.session_vars.specs.Texts.{with_assignment}
use Rattle.session_vars.proofs.text.session_text.Given as goal

-- the text so far, with the assignments that are left
abbrev pub invariant-loop-change : goal.invariant-loop-change
invariant-loop-change l = fold with_assignment l.text (drop l.change-index l.changes) ≡ fold with_assignment [] l.changes
