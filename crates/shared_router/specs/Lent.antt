-- Who waits for a link of a key has one that is readied for it.
use Rattle.std.specs.Prelude.{◌≡◌, true, List, [], ◌∷◌}
use Rattle.tale_world.specs.Policy as policy
use Rattle.tale_world.specs.Policy.{Waiter}
use Rattle.router_promises.specs.Keys.{LinkKey}
use Rattle.shared_router.specs.Known.{Known}
use Rattle.shared_router.specs.Lends.{as_key, is_readied_for, readied_now}

abbrev pub HasLink : Known → Waiter → Type 0
HasLink k w = is_readied_for k.now.tale.links (readied_now k) w.name ≡ true

abbrev pub HaveLinks : Known → LinkKey → List Waiter → Type 0
HaveLinks k key [] = Unit {0}
HaveLinks k key (w ∷ ws) = (policy.is_key (as_key key) w.key ≡ true → HasLink k w) × HaveLinks k key ws
