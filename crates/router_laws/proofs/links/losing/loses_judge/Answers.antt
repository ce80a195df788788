use Rattle.router_laws.proofs.OfDecisions.JudgedOn.{follows_judge}
use Rattle.router_laws.proofs.OfLinks.LossJudged as judged
use Rattle.router_laws.proofs.OfWakes.Told.{tells_going}
use Rattle.router_laws.proofs.links.losing.loses_judge.Goals as goal

pub returns : goal.returns
returns c = λ service texts admin is log t now roomy l how given going router follow so ours ruled why parted since settled.
    judged.loses_judge (record {
      losses = record { loses = c.lost_stands.ensures; tests = c.freed_stands.ensures.test; same = c.same_stands.ensures };
      follows = c.follows_rest.ensures;
      ungiven = c.ungiven_are_in_work.ensures.work;
      unreplied = c.ungiven_are_in_work.ensures.unreplied;
      kept = c.answers_are_kept.ensures.so;
      ends = c.ends_go_on.ensures;
      counts = c.counts_go_on.ensures;
      stood = c.routers_stood.ensures;
      rise = c.links_rise.ensures.tale;
    }) (follows_judge c.follows_find.ensures) c.carried_homes.ensures.row service log t now roomy l how given router follow is going so ours
    (tells_going c.told_stands.ensures going service.setup) ruled why parted since settled
