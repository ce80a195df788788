use Rattle.std.specs.Prelude.{take}
use Rattle.log_story.specs.Tale.{first_tale}
use Rattle.router_promises.specs.Terms.{plan_in, setup_in}
use Rattle.promise_tests.proofs.Telling.{passes-so}
use Rattle.promise_tests.proofs.Whole.{keeps-so, unbroken-at}
use Rattle.promise_tests.proofs.kept_by_test.Goals as goal

pub returns : goal.returns
returns c = λ terms log right. keeps-so terms log right
    (λ n. c.lawful_by_tests.ensures (setup_in terms) (plan_in terms) (take n log) (passes-so (setup_in terms) (plan_in terms) first_tale log right.lawful n)
    (unbroken-at terms log right n))
