use Rattle.std.proofs.Common.{refl}
use Rattle.ready_loop.proofs.Offering.{write-offers, proceeds-so, took-elsewhere}
use Rattle.ready_loop.proofs.acts.offer.Goals as goal

pub returns-clause-proceeds : goal.returns-clause-proceeds
returns-clause-proceeds g c = proceeds-so _ _ _ _ _ _ _ _ _ _ _ _ c.write.ensures.told (took-elsewhere _ _ _ c.write.result) c.write.ensures.rule c.write.ensures.port_faults c.write.ensures.cause.later refl
    (write-offers _ _ _ _ _ _ c.in-Some.piece _ c.write.result c.write.ensures.told c.write.ensures.takes c.in-Some.ensures c.requires.owed)
