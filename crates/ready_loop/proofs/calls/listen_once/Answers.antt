use Rattle.std.proofs.Common.{refl}
use Rattle.ready_loop.proofs.Steps.{stays}
use Rattle.ready_loop.proofs.Counting.{unnamed}
use Rattle.ready_loop.specs.Serving.{IsPortFault}
use Rattle.ready_loop.proofs.Ending.{ends_with, woke_on}
use Rattle.ready_loop.proofs.Offering.{begun}
use Rattle.ready_loop.proofs.calls.listen_once.Goals as goal

pub returns-in-Done-clause-serves : goal.returns-in-Done-clause-serves
returns-in-Done-clause-serves g c = record {
  standing = stays _ _ _ _ c.quiet.ensures _ _ _ _ c.requires.serves.standing c.in-Done.ensures.told (λ log. tt) tt;
  tracks = unnamed _ _ _ _ _ refl refl (λ l. refl) c.requires.serves.tracks c.in-Done.ensures.told;
  watches = c.requires.serves.watches;
}

pub returns-in-Failed-clause-ends : goal.returns-in-Failed-clause-ends
returns-in-Failed-clause-ends g c = record {
  ends = record {
    standing = stays _ _ _ _ c.quiet.ensures _ _ _ _ c.requires.serves.standing c.in-Failed.ensures.told (λ log. tt) tt;
    halted = c.requires.going;
    woke = woke_on _ _ _ _ c.requires.serves.tracks c.in-Failed.ensures.told refl refl;
    so = ends_with IsPortFault _ _ _ c.in-Failed.ensures.told tt;
  };
  rose = λ fault. c.in-Failed.ensures.cause.rose refl;
}

pub returns-in-Done-clause-proceeds : goal.returns-in-Done-clause-proceeds
returns-in-Done-clause-proceeds g c = begun _ _ _ _ _ _ _ _ _ _ _ _ c.in-Done.ensures.told tt c.in-Done.ensures.rule c.in-Done.ensures.cause.later c.in-Done.ensures.faults refl

pub returns-in-Failed-clause-proceeds : goal.returns-in-Failed-clause-proceeds
returns-in-Failed-clause-proceeds g c = begun _ _ _ _ _ _ _ _ _ _ _ _ c.in-Failed.ensures.told tt c.in-Failed.ensures.rule c.in-Failed.ensures.cause.later c.in-Failed.ensures.faults refl
