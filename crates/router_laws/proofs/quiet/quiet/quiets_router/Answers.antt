use Rattle.router_laws.proofs.OfWaits.Then.{waits_then}
use Rattle.router_laws.proofs.OfQuiet.Staying.{quiet_router}
use Rattle.router_laws.proofs.quiet.quiet.quiets_router.Goals as goal

pub returns : goal.returns
returns c = λ service texts admin log e t roomy router may quiet drained.
    quiet_router service
    (record {
      counting = c.counts_alone.ensures service.setup;
      testing = c.freed_stands.ensures.test service.setup;
      runs = c.marks_stay.ensures.runs service.setup;
      drops = c.marks_stay.ensures.drops service.setup;
    })
    log e t roomy router may quiet (waits_then c.waits_done.ensures service log t roomy router e drained)
