use Rattle.std.proofs.Common.{refl, ◌∙◌, ap}
use Rattle.std.specs.Option.{option_map}
use Rattle.ready_loop.specs.Links.{dry_mark, dry_of}
use Rattle.ready_loop.proofs.Counting.{parted}
use Rattle.ready_loop.proofs.Marking as marking
use Rattle.ready_loop.proofs.Offering.{proceeded, proceeds-then}
use Rattle.ready_loop.proofs.acts.close_link.Goals as goal

pub returns-clause-tracks : goal.returns-clause-tracks
returns-clause-tracks g c = parted _ _ _ _ _ _ _ (record { offered = _; offer = c.offer.ensures.offered; close = c.close.ensures.told }) c.offer.ensures.round refl (ap (option_map dry_mark) c.closed.ensures.marks.same) (λ other apart. marking.others _ _ _ _ c.closed.ensures.marks other apart ∙ ap (λ links. dry_of links other) c.offer.ensures.links) c.requires.tracks

pub returns-clause-proceeds : goal.returns-clause-proceeds
returns-clause-proceeds g c = proceeds-then _ _ _ _ _ _ _ _ _ _ _ _ _ c.offer.ensures.proceeds (proceeded _ _ _ _ _ _ _ _ _ _ _ _ c.close.ensures.told tt tt c.close.ensures.rule c.close.ensures.port_faults c.close.ensures.faults refl)
