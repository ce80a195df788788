use Rattle.std.proofs.Common.{◌≡◌, map, drop}
use Rattle.admin_port.specs.Words.{behind}
use Rattle.admin_port.proofs.words.behind.Given as goal

-- the words that are left have to stand before what is left
abbrev pub invariant-loop-word : goal.invariant-loop-word
invariant-loop-word l = behind l.text (map (λ w. w.now) (drop l.word-index l.words)) l.left ≡ behind l.text (map (λ w. w.now) l.words) l.tokens
