-- A log of which each entry is ours passes the tests.
use Rattle.std.specs.Prelude.{◌+◌, ◌<◌, ℕ, zero, suc, length, take, [], ◌∷◌, ◌++◌}
use Rattle.std.proofs.Common.{refl, subst, arith}
use Rattle.mx_wire.specs.Log.{Log}
use Rattle.mx_wire.specs.Moments.{LawfulAfter}
use Rattle.mx_wire.specs.Tells.{Fits}
use Rattle.private_model.specs.View.{Setup}
use Rattle.log_story.specs.Plan.{Plan}
use Rattle.log_story.specs.Tale.{Tale, first_tale}
use Rattle.log_story.specs.Telling.{tale_step}
use Rattle.tale_world.specs.Decided.{plan_of}
use Rattle.tale_world.specs.Tested.{IsTestedBy, IsTestedFrom}
use Rattle.tale_world.proofs.Agreeing.{agrees-itself}
use Rattle.tale_world.proofs.Tested.{tested_follows}
use Rattle.shared_router.specs.Fixed.{Fixed, setup_of}
use Rattle.shared_router.specs.Ours.{IsOurs}
use Rattle.shared_router.specs.Shared.{shared, world_at}
use Rattle.shared_router.proofs.Parting.{first, world_more}
use Rattle.shared_router.proofs.Passing.{passes_so}
use Rattle.shared_router.proofs.Prompting.{IsReached, first_reached, reached_next}

-- a beginning of a log that passes passes
pub tested_before : (setup : Setup) (plan : Plan) (n : ℕ) (log : Log) (tale : Tale) → IsTestedFrom setup plan tale log → IsTestedFrom setup plan tale (take n log)
tested_before setup plan zero log tale tested = tt
tested_before setup plan (suc n) [] tale tested = tt
tested_before setup plan (suc n) (e ∷ log) tale tested = (tested.0, tested_before setup plan n log (tale_step setup plan tale e) tested.1)

module _ (fixed : Fixed) where
  tested_later : (n : ℕ) (before later : Log) → n + length later < 18446744073709551616 → IsReached fixed n before → LawfulAfter (IsOurs fixed) before later → LawfulAfter Fits before later
      → IsTestedBy (setup_of fixed) (shared fixed) (world_at fixed before) later
  tested_later n before [] small is ours fits = tt
  tested_later n before (e ∷ later) small is ours fits = (
    passes_so fixed before e is.begun is.held.decided ours.0 fits.0,
    subst (λ w. IsTestedBy (setup_of fixed) (shared fixed) w later) (world_more fixed before (e ∷ []))
        (tested_later (suc n) (before ++ e ∷ []) later (omega arith) (reached_next fixed n before e (omega arith) is ours.0 fits.0) ours.1 fits.1),
  )

  pub tested : (log : Log) → length log < 18446744073709551616 → LawfulAfter (IsOurs fixed) [] log → LawfulAfter Fits [] log
      → IsTestedFrom (setup_of fixed) (plan_of (world_at fixed log).decided) first_tale log
  tested log small ours fits =
      let last = world_at fixed log in
      tested_follows (setup_of fixed) (shared fixed) log (first fixed) (plan_of last.decided) refl (agrees-itself last.decided last.tale.moment)
      (tested_later 0 [] log (omega arith) (first_reached fixed) ours fits)
