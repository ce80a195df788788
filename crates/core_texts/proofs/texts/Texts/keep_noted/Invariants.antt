use Rattle.std.proofs.Common.{◌≡◌, ℕ}
use Rattle.core_texts.specs.Texts.{AreLess, key_at}
use Rattle.core_texts.proofs.texts.Texts.keep_noted.Given as goal

-- only notes are gone
abbrev pub invariant-loop-client : goal.invariant-loop-client
invariant-loop-client l = AreLess l.initial.self l.self × ((number : ℕ) → key_at l.self number ≡ key_at l.initial.self number)
