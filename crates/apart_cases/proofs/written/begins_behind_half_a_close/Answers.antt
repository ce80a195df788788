use Rattle.std.specs.Prelude.{Option}
use Rattle.log_story.specs.Honest.{IsStep}
use Rattle.log_story.specs.Plan.{StepText}
use Rattle.router_promises.specs.Terms.{tale_at}
use Rattle.std.proofs.Common.{subst}
use Rattle.apart_cases.proofs.Kept.{closes-at}
use Rattle.apart_cases.proofs.written.begins_behind_half_a_close.Goals as goal

pub returns : goal.returns
returns c = λ terms before link tag bytes number has there begins closes half. half
    (subst (λ (s : Option StepText). IsStep s ((tale_at terms before).wires link).written) closes (closes-at terms before _ has there begins))
