use Rattle.std.proofs.Common.{subst}
use Rattle.log_story.specs.Honest.{IsFront}
use Rattle.log_story.specs.Owed.{due_bytes}
use Rattle.log_story.specs.Tale.{Client, Tale, view_of}
use Rattle.mx_wire.specs.Log.{written_of}
use Rattle.std.specs.Prelude.{All}
use Rattle.router_promises.specs.Due.{DueSo}
use Rattle.router_promises.specs.Now.{now_at}
use Rattle.router_promises.specs.Terms.{plan_in, setup_in}
use Rattle.router_promises.proofs.Refusals.{at-index, held-at}
use Rattle.router_promises.proofs.Saying.{now-tale}
use Rattle.std.proofs.Common.{sym}
use Rattle.router_promises.proofs.misled.tells_other_bytes.Goals as goal

pub returns : goal.returns
returns c = λ terms before more k client keeps within is other. other
    (at-index (λ (x : Client). IsFront (written_of x.link before) (due_bytes (view_of (setup_in terms) (now_at terms before).tale).replies (plan_in terms) (now_at terms before).tale.moment x))
    (now_at terms before).tale.clients k client
    (subst (λ (t : Tale). All (λ (x : Client). IsFront (written_of x.link before) (due_bytes (view_of (setup_in terms) t).replies (plan_in terms) t.moment x)) t.clients)
    (sym (now-tale terms before)) (held-at (DueSo terms) before more keeps.due)) within is)
