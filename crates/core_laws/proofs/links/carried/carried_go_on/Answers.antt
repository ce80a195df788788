use Rattle.std.proofs.Common.{◌∙◌, inl}
use Rattle.step_laws.proofs.Taking.{called, passed}
use Rattle.core_stands.specs.Grounds.{on, view_on}
use Rattle.core_laws.proofs.links.carried.carried_go_on.Goals as goal
use Rattle.core_laws.specs.links.Parting.{first_freed}

pub returns : goal.returns
returns c = record {
  called = λ service g t e l client last tale is taking idle.
      called g.setup g.plan (view_on g) e (first_freed g e l) client is
      ∙ c.messages_are_taken.ensures.ends service client last (first_freed g e l) (on g tale) t taking idle;
  passed = λ g e l client isnt. passed g.setup g.plan (view_on g) e (first_freed g e l) client (inl isnt);
}
