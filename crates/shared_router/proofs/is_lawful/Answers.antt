use Rattle.std.specs.Prelude.{◌≡◌, drop, take}
use Rattle.std.proofs.Common.{ap, arith, subst, ◌∙◌}
use Rattle.std.proofs.lemmas.List.{take-append-drop}
use Rattle.log_story.specs.Tale.{Tale, first_tale}
use Rattle.mx_wire.specs.Log.{Log}
use Rattle.router_promises.specs.Terms.{tale_at}
use Rattle.tale_world.specs.Decided.{plan_of}
use Rattle.tale_world.specs.Tested.{has_broken}
use Rattle.tale_world.proofs.Lawfully.{lawful_so}
use Rattle.shared_router.specs.Fixed.{setup_of}
use Rattle.shared_router.specs.Shared.{final_terms, world_at}
use Rattle.shared_router.proofs.Keeping.{tested, tested_before}
use Rattle.shared_router.proofs.Parting.{tale_then}
use Rattle.shared_router.proofs.Prompting.{unbroken_at}
use Rattle.shared_router.proofs.is_lawful.Goals as goal

pub returns : goal.returns
returns c = λ fixed log our n.
    let plan = plan_of (world_at fixed log).decided in
    let same : tale_at (final_terms fixed log) (take n log) ≡ (world_at fixed (take n log)).tale =
    subst (λ (l : Log). tale_at (final_terms fixed l) (take n log) ≡ (world_at fixed (take n log)).tale) (take-append-drop n log) (tale_then fixed (take n log) (drop n log)) in
    lawful_so (setup_of fixed) plan (take n log) (tested_before (setup_of fixed) plan n log first_tale (tested fixed log (omega (arith, our.bounded)) our.ours our.fits))
    (ap (λ (t : Tale). has_broken t.story) same ∙ unbroken_at fixed log n (omega (arith, our.bounded)) our.ours our.fits)
