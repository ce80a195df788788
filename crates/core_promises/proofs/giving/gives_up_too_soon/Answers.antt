use Rattle.std.specs.Prelude.{suc}
use Rattle.mx_wire.specs.declared.entry.Entry.TheVariants as entry
use Rattle.log_story.specs.Owed.{name_of}
use Rattle.router_promises.specs.Errors.{no_connection}
use Rattle.router_promises.specs.Terms.{plan_in, setup_in}
use Rattle.core_promises.proofs.Given.{cause-of, too-soon, waited}
use Rattle.core_promises.proofs.giving.gives_up_too_soon.Goals as goal

pub returns : goal.returns
returns c = λ terms before until_ms now_ms since client given untaken.
    too-soon terms.router.proxy.wait_ms now_ms (setup_in terms) (plan_in terms) before (name_of client (suc given.count))
    (waited terms.router.proxy.wait_ms now_ms since _ _
    (cause-of terms before (entry.Woke until_ms now_ms) client (no_connection since now_ms) given)) untaken
