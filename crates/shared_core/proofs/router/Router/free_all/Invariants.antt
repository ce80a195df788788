use Rattle.std.specs.Prelude.{◌≡◌, take}
use Rattle.core_laws.specs.entry.Freeing.{all_freed}
use Rattle.shared_core.specs.Follows.{Keeps}
use Rattle.shared_core.specs.Stands.{tables}
use Rattle.shared_core.proofs.router.Router.free_all.Given as goal

abbrev pub invariant-loop-link : goal.invariant-loop-link
invariant-loop-link l = record {
  is : tables l.self ≡ all_freed (take l.link-index l.links) (tables l.initial.self);
  keeps : Keeps l.initial.self l.self;
}
