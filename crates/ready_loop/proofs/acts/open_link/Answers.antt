use Rattle.ready_loop.proofs.Ending.{stood_before, both, on_ok, on_err}
use Rattle.std.proofs.Common.{refl, ap, sym}
use Rattle.ready_loop.proofs.Steps.{goes_on}
use Rattle.ready_loop.proofs.Counting.{unnamed, named}
use Rattle.ready_loop.proofs.Marking as marking
use Rattle.ready_loop.proofs.Watching as watching
use Rattle.std.specs.Option.{option_map}
use Rattle.ready_loop.specs.Links.{dry_mark}
use Rattle.ready_loop.proofs.Offering.{proceeded}
use Rattle.ready_loop.proofs.acts.open_link.Goals as goal

pub returns-in-Link-clause-serves : goal.returns-in-Link-clause-serves
returns-in-Link-clause-serves g c =
    let told = both c.come.result _ _ c.come.ensures.carries c.come.ensures.changes in
    let queued = both c.come.result _ _ c.come.ensures.marks c.come.ensures.queue in
    on_ok c.come.result _ _ _ refl (both c.come.result _ _ told queued) (λ came. record {
      standing = goes_on _ _ _ _ c.quiet.ensures _ _ _ _ _ c.requires.serves.standing c.in-Link.ensures.told (λ log. tt) (came.0.0 _ (c.args.address, c.requires.awaited, refl));
      tracks = named _ _ _ _ _ _ refl c.come.ensures.round (ap (option_map dry_mark) came.1.0.same) (marking.others _ _ _ _ came.1.0) c.requires.serves.tracks c.in-Link.ensures.told;
      watches = watching.opened _ _ _ _ _ _ came.1.0 came.1.1 (watching.changes _ _ _ _ _ _ came.0.1 c.requires.serves.watches);
    })

pub returns-in-Link-clause-broke : goal.returns-in-Link-clause-broke
returns-in-Link-clause-broke g c = on_err c.come.result _ (stood_before _ _ _ _ _ _ _ _ (λ log marks is all. c.requires.awaited) c.requires.serves.standing c.in-Link.ensures.told (sym c.come.ensures.serves_by))

pub returns-in-Failed-clause-serves : goal.returns-in-Failed-clause-serves
returns-in-Failed-clause-serves g c = on_ok c.take.result _ _ _ refl (both c.take.result _ _ c.take.ensures.carries c.take.ensures.changes) (λ taken. record {
  standing = goes_on _ _ _ _ c.quiet.ensures _ _ _ _ _ c.requires.serves.standing c.in-Failed.ensures.told (λ log. tt) (taken.0 _ (c.args.address, c.requires.awaited, refl));
  tracks = unnamed _ _ _ _ _ refl refl (λ l. refl) c.requires.serves.tracks c.in-Failed.ensures.told;
  watches = watching.changes _ _ _ _ _ _ taken.1 c.requires.serves.watches;
})

pub returns-in-Failed-clause-broke : goal.returns-in-Failed-clause-broke
returns-in-Failed-clause-broke g c = on_err c.take.result _ (stood_before _ _ _ _ _ _ _ _ (λ log marks is all. c.requires.awaited) c.requires.serves.standing c.in-Failed.ensures.told (sym c.take.ensures.serves_by))

pub returns-in-Link-clause-proceeds : goal.returns-in-Link-clause-proceeds
returns-in-Link-clause-proceeds g c = proceeded _ _ _ _ _ _ _ _ _ _ _ _ c.in-Link.ensures.told tt tt c.in-Link.ensures.rule c.in-Link.ensures.port_faults c.in-Link.ensures.cause.later c.come.ensures.serves_by

pub returns-in-Failed-clause-proceeds : goal.returns-in-Failed-clause-proceeds
returns-in-Failed-clause-proceeds g c = proceeded _ _ _ _ _ _ _ _ _ _ _ _ c.in-Failed.ensures.told tt tt c.in-Failed.ensures.rule c.in-Failed.ensures.port_faults c.in-Failed.ensures.cause.later c.take.ensures.serves_by
