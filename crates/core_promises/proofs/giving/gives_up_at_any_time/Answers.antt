use Rattle.std.specs.Prelude.{suc}
use Rattle.log_story.specs.Owed.{name_of}
use Rattle.router_promises.specs.Terms.{plan_in, setup_in}
use Rattle.core_promises.proofs.Given.{at-no-other, cause-of}
use Rattle.core_promises.proofs.giving.gives_up_at_any_time.Goals as goal

pub returns : goal.returns
returns c = λ terms before e client payload given none.
    at-no-other terms.router.proxy.wait_ms (setup_in terms) (plan_in terms) before e (name_of client (suc given.count)) payload (cause-of terms before e client payload given) none
