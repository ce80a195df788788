use Rattle.mx_wire.specs.declared.entry.Entry.TheVariants.{Woke}
use Rattle.router_laws.proofs.OfWaits.Then.{waits_then}
use Rattle.router_laws.proofs.OfDecisions.JudgedOn.{turns_judge}
use Rattle.router_laws.proofs.OfWakes.Known.{unsent_aside}
use Rattle.router_laws.proofs.OfWakes.Told.{tells_all}
use Rattle.router_laws.proofs.OfWakes.Woken.{woke_router}
use Rattle.router_laws.proofs.wakes.waking.wakes_router.Goals as goal

pub returns : goal.returns
returns c = λ service texts admin is log t now roomy room given callers links until_ms now_ms router may drained wakes given_ours late ours ousted ruled since settled.
    woke_router service given callers links log until_ms now_ms t now roomy room wakes
    (record {
      laws = record { turns = c.turns_stand.ensures; leaves = c.left_stands.ensures.ends; same = c.same_stands.ensures };
      frees = c.links_are_given_back.ensures;
      testing = c.freed_stands.ensures.test service.setup;
      counting = c.counted_stands.ensures service.setup;
      aside = unsent_aside c.given_up_aside.ensures service.setup;
      rises = c.links_rise.ensures.tale;
    }) router may given_ours late ours ousted (waits_then c.waits_done.ensures service log t roomy router (Woke until_ms now_ms) drained) (turns_judge c.turns_find.ensures) is settled ruled since (tells_all c.told_stands.ensures service.setup callers)
