use Rattle.std.proofs.Common.{sym, ◌∙◌}
use Rattle.log_story.specs.Plan.{Resets}
use Rattle.router_promises.proofs.Cares.{may-step}
use Rattle.router_promises.proofs.Refusals.{kept-at, never}
use Rattle.router_promises.proofs.careless.resets_a_statement_in_vain.Goals as goal

pub returns : goal.returns
returns c = λ terms before link number bytes has there begins is none.
    never (sym (may-step terms before link (Resets number) bytes (kept-at _ before has.more _ has.keeps.steps) there begins is) ∙ none)
