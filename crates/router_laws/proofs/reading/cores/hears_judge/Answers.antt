use Rattle.router_laws.proofs.OfDecisions.JudgedOn.{follows_judge}
use Rattle.router_laws.proofs.OfReading.Judged as judged
use Rattle.router_laws.proofs.reading.cores.hears_judge.Goals as goal

pub returns : goal.returns
returns c = λ service texts admin is log t now roomy l bytes clock given going router follow bytes_are so ours ruled why parted since settled.
    judged.hears_judge (record {
      reads = record {
        hears = c.bytes_are_heard.ensures;
        counts = c.counted_stands.ensures;
        tests = c.freed_stands.ensures.test;
        frees = c.freed_stands.ensures.stands;
        homed = c.lawful_homes.ensures;
        same = c.same_stands.ensures;
      };
      follows = c.follows_rest.ensures;
      ungiven = c.ungiven_are_in_work.ensures.work;
      unreplied = c.ungiven_are_in_work.ensures.unreplied;
      kept = c.answers_are_kept.ensures.so;
      ends = c.ends_go_on.ensures;
      counts = c.counts_go_on.ensures;
      stood = c.routers_stood.ensures;
      rise = c.links_rise.ensures.tale;
      tells = c.told_stands.ensures;
    }) (follows_judge c.follows_find.ensures) c.carried_homes.ensures.row service log t now roomy l bytes clock given router follow bytes_are since is settled going so ours ruled why parted
