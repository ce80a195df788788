use Rattle.std.specs.Prelude.{suc}
use Rattle.log_story.specs.Owed.{name_of}
use Rattle.client_session.specs.Errors.{connection_lost}
use Rattle.router_promises.specs.Terms.{plan_in, setup_in}
use Rattle.core_promises.proofs.Given.{cause-of, no-loss}
use Rattle.core_promises.proofs.giving.gives_up_without_a_loss.Goals as goal

pub returns : goal.returns
returns c = λ terms before e client given none.
    no-loss terms.router.proxy.wait_ms (setup_in terms) (plan_in terms) before e (name_of client (suc given.count)) (cause-of terms before e client connection_lost given) none
