use Rattle.router_laws.proofs.OfReading.Rested.{going_heard}
use Rattle.router_laws.proofs.reading.reading.hears_rest.Goals as goal

pub returns : goal.returns
returns c = λ service default g log t now roomy room over l bytes clock given going rests is so overs rooms.
    going_heard (record {
      hears = c.bytes_are_heard.ensures;
      counts = c.counted_stands.ensures;
      tests = c.freed_stands.ensures.test;
      frees = c.freed_stands.ensures.stands;
      homed = c.lawful_homes.ensures;
      same = c.same_stands.ensures;
    }) c.follows_rest.ensures service default g log t now roomy room over l bytes clock given going rests is so overs rooms
