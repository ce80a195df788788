use Rattle.std.specs.Prelude.{All, drop, take}
use Rattle.router_laws.specs.wakes.Calling.{IsThere}
use Rattle.shared_core.specs.Follows.{AreRising, IsOut, KeepsBut, made_by}
use Rattle.shared_core.specs.Stands.{tables}
use Rattle.shared_core.proofs.Goings.{HaveGoneSoFar}
use Rattle.shared_core.proofs.router.Router.all_go_on.Given as goal

abbrev pub invariant-loop-client : goal.invariant-loop-client
invariant-loop-client l = record {
  go : AreRising l.clients → All (λ c. IsThere (tables l.initial.self) c) l.clients
      → HaveGoneSoFar l.service (made_by l.service l.initial.self l.self)
      (IsOut l.ending l.initial.self.came.administrator (tables l.initial.self)) (take l.client-index l.clients) (drop l.client-index l.clients) (tables l.initial.self) (tables l.self);
  keeps : KeepsBut l.initial.self l.self;
}
