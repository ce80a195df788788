use Rattle.std.proofs.Common.{◌≡◌, ◌||◌, ℕ, nat_eq}
use Rattle.std.specs.HashSet.{contains}
use Rattle.std.specs.List.{list_any}
use Rattle.link_state.proofs.standing.Standing.add_keys.Given as goal

-- the keys so far are in the set
abbrev pub invariant-loop-key : goal.invariant-loop-key
invariant-loop-key l = (q : ℕ) → contains nat_eq l.all q ≡ (contains nat_eq l.initial.all q || list_any (λ key. nat_eq key.now q) l.yielded)
