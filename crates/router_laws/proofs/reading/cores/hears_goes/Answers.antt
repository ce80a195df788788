use Rattle.router_laws.proofs.OfReading.Onward.{goes_so}
use Rattle.router_laws.proofs.reading.cores.hears_goes.Goals as goal

pub returns : goal.returns
returns c = λ service texts admin log t now roomy l bytes clock given going router follow bytes_are so ours setup codes plan of fits.
    goes_so (record {
      reads = record {
        hears = c.bytes_are_heard.ensures;
        counts = c.counted_stands.ensures;
        tests = c.freed_stands.ensures.test;
        frees = c.freed_stands.ensures.stands;
        homed = c.lawful_homes.ensures;
        same = c.same_stands.ensures;
      };
      follows = c.follows_rest.ensures;
      ungiven = c.ungiven_are_in_work.ensures.work;
      unreplied = c.ungiven_are_in_work.ensures.unreplied;
      kept = c.answers_are_kept.ensures.so;
      ends = c.ends_go_on.ensures;
      counts = c.counts_go_on.ensures;
      stood = c.routers_stood.ensures;
      rise = c.links_rise.ensures.tale;
      tells = c.told_stands.ensures;
    }) service log t now roomy l bytes clock given going router follow bytes_are so ours setup codes plan of fits
