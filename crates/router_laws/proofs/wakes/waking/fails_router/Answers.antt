use Rattle.router_laws.proofs.OfDecisions.JudgedOn.{turns_judge}
use Rattle.router_laws.proofs.OfWakes.Known.{unsent_aside}
use Rattle.router_laws.proofs.OfWakes.Told.{tells_all}
use Rattle.router_laws.proofs.OfWakes.Woken as woken
use Rattle.router_laws.proofs.wakes.waking.fails_router.Goals as goal

pub returns : goal.returns
returns c = λ service texts admin is log t now roomy given callers links server address router may fails given_ours refused ours stay ruled since settled.
    woken.fails_router service given callers links log server address t now roomy fails
    (record {
      laws = record { turns = c.turns_stand.ensures; leaves = c.left_stands.ensures.ends; same = c.same_stands.ensures };
      frees = c.links_are_given_back.ensures;
      testing = c.freed_stands.ensures.test service.setup;
      counting = c.counted_stands.ensures service.setup;
      aside = unsent_aside c.given_up_aside.ensures service.setup;
      rises = c.links_rise.ensures.tale;
    }) router may given_ours refused ours stay (turns_judge c.turns_find.ensures) is settled ruled since (tells_all c.told_stands.ensures service.setup callers)
