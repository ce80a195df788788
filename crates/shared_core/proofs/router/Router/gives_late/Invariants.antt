use Rattle.core_texts.specs.Texts.{noted_at}
use Rattle.shared_core.specs.Follows.{Keeps}
use Rattle.shared_core.specs.Stands.{tables}
use Rattle.shared_core.specs.Wakes.{HaveGivenUp}
use Rattle.shared_core.proofs.router.Router.gives_late.Given as goal

abbrev pub invariant-loop-up : goal.invariant-loop-up
invariant-loop-up l = record {
  gives : HaveGivenUp l.wait_ms l.now_ms l.came (noted_at l.initial.self.texts) l.initial.called l.called (tables l.initial.self) (tables l.self);
  keeps : Keeps l.initial.self l.self;
}
