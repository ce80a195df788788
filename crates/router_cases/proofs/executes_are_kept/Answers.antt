use Rattle.router_cases.specs.Executed as executed
use Rattle.router_cases.proofs.Computed.{client_executed, executed_story}
use Rattle.router_cases.proofs.executes_are_kept.Goals as goal

pub returns : goal.returns
returns c = record { story = executed_story; keeps = c.kept_by_test.ensures executed.terms executed.log client_executed }
