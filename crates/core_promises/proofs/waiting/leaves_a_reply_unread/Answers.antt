use Rattle.core_promises.specs.Waits.{IsHeardOn}
use Rattle.router_promises.specs.Now.{now_at}
use Rattle.router_promises.proofs.Refusals.{at-index}
use Rattle.core_promises.proofs.Done.{done-at, neither}
use Rattle.core_promises.proofs.waiting.leaves_a_reply_unread.Goals as goal

pub returns : goal.returns
returns c = λ terms before place link wait within is opened usable sound wet few. neither _ _ wet few
    (at-index (IsHeardOn terms before (now_at terms before)) (now_at terms before).tale.links place link (done-at terms before wait).heard within is opened usable sound)
