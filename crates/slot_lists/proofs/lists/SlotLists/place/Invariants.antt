use Rattle.std.proofs.Common.{ℕ, ◌+◌, ◌<◌, List}
use Rattle.slot_lists.specs.Chains.{Spells}
use Rattle.slot_lists.proofs.Walking.{Walked}
use Rattle.slot_lists.proofs.lists.SlotLists.place.Given as goal

abbrev pub invariant-loop : goal.invariant-loop
invariant-loop l =
    (l.at < l.self.slots + l.self.lists)
    × ((order : List ℕ) → Spells l.self l.moments order → Walked l.self l.moments order l.list l.moment l.counter l.at)
