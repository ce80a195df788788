use Rattle.router_cases.specs.Ended as ended
use Rattle.router_cases.proofs.Computed.{client_ended, ended_story}
use Rattle.router_cases.proofs.ends_are_kept.Goals as goal

pub returns : goal.returns
returns c = record { story = ended_story; keeps = c.kept_by_test.ensures ended.terms ended.log client_ended }
