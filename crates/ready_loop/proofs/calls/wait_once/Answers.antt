use Rattle.std.proofs.Common.{refl, sym}
use Rattle.ready_loop.proofs.Steps.{waits}
use Rattle.ready_loop.proofs.Counting.{unnamed, drained-marks}
use Rattle.ready_loop.proofs.Watching as watching
use Rattle.ready_loop.specs.Serving.{IsPortFault, IsOver}
use Rattle.ready_loop.proofs.Ending.{ends_with, woke_on, stood_before, broke}
use Rattle.ready_loop.proofs.Offering.{proceeded}
use Rattle.ready_loop.proofs.calls.wait_once.Goals as goal

pub returns-in_ok-take-in-Woke-clause-serves : goal.returns-in_ok-take-in-Woke-clause-serves
returns-in_ok-take-in-Woke-clause-serves g c = record {
  standing = waits _ _ _ _ c.quiet.ensures _ _ _ _ _ c.requires.going.serves.standing c.in-Woke.ensures.told c.requires.drained c.requires.going.acted (λ log due. due) (c.in_ok-take-in-Woke.ensures.carries _ (cc));
  tracks = unnamed _ _ _ _ _ refl c.woke.ensures (λ l. refl) c.requires.going.serves.tracks c.in-Woke.ensures.told;
  watches = watching.changes _ _ _ _ _ _ c.in_ok-take-in-Woke.ensures.changes c.requires.going.serves.watches;
}

pub returns-in-Over-clause-ends : goal.returns-in-Over-clause-ends
returns-in-Over-clause-ends g c = record {
  ends = record {
    standing = waits _ _ _ _ c.quiet.ensures _ _ _ _ _ c.requires.going.serves.standing c.in-Over.ensures.told c.requires.drained c.requires.going.acted (λ log due. due) (c.quiet.ensures _ _ tt);
    halted = c.requires.going.going;
    woke = woke_on _ _ _ _ c.requires.going.serves.tracks c.in-Over.ensures.told refl refl;
    so = ends_with IsOver _ _ _ c.in-Over.ensures.told tt;
  };
  rose = λ fault. cc;
}

pub returns-in-Failed-clause-ends : goal.returns-in-Failed-clause-ends
returns-in-Failed-clause-ends g c = record {
  ends = record {
    standing = waits _ _ _ _ c.quiet.ensures _ _ _ _ _ c.requires.going.serves.standing c.in-Failed.ensures.told c.requires.drained c.requires.going.acted (λ log due. due) (c.quiet.ensures _ _ tt);
    halted = c.requires.going.going;
    woke = woke_on _ _ _ _ c.requires.going.serves.tracks c.in-Failed.ensures.told refl refl;
    so = ends_with IsPortFault _ _ _ c.in-Failed.ensures.told tt;
  };
  rose = λ fault. c.in-Failed.ensures.cause.rose refl;
}

pub returns-in_err-take-in-Woke-clause-ends : goal.returns-in_err-take-in-Woke-clause-ends
returns-in_err-take-in-Woke-clause-ends g c = broke _ _ _ _ _ _ _ _ _ c.from_residual.result c.from_residual.ensures.1 (stood_before _ _ _ _ _ _ _ _ (λ log marks is all. (record { drained = drained-marks _ _ log marks all (c.requires.drained.holds log is); acted = c.requires.going.acted }, c.until_ms.ensures)) c.requires.going.serves.standing c.in-Woke.ensures.told (sym c.in_err-take-in-Woke.ensures.serves_by))

pub returns-in_err-take-in-Woke-clause-proceeds : goal.returns-in_err-take-in-Woke-clause-proceeds
returns-in_err-take-in-Woke-clause-proceeds g c = proceeded _ _ _ _ _ _ _ _ _ _ _ _ c.in-Woke.ensures.told tt tt c.in-Woke.ensures.rule c.in-Woke.ensures.cause.later c.in-Woke.ensures.faults c.in_err-take-in-Woke.ensures.serves_by

pub returns-in_ok-take-in-Woke-clause-proceeds : goal.returns-in_ok-take-in-Woke-clause-proceeds
returns-in_ok-take-in-Woke-clause-proceeds g c = proceeded _ _ _ _ _ _ _ _ _ _ _ _ c.in-Woke.ensures.told tt tt c.in-Woke.ensures.rule c.in-Woke.ensures.cause.later c.in-Woke.ensures.faults c.in_ok-take-in-Woke.ensures.serves_by

pub returns-in-Over-clause-proceeds : goal.returns-in-Over-clause-proceeds
returns-in-Over-clause-proceeds g c = proceeded _ _ _ _ _ _ _ _ _ _ _ _ c.in-Over.ensures.told tt tt c.in-Over.ensures.rule c.in-Over.ensures.cause.later c.in-Over.ensures.faults refl

pub returns-in-Failed-clause-proceeds : goal.returns-in-Failed-clause-proceeds
returns-in-Failed-clause-proceeds g c = proceeded _ _ _ _ _ _ _ _ _ _ _ _ c.in-Failed.ensures.told tt tt c.in-Failed.ensures.rule c.in-Failed.ensures.cause.later c.in-Failed.ensures.faults refl
