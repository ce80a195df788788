-- What a router's world keeps at each entry, its log keeps by the last terms.
use Rattle.std.specs.Prelude.{◌≡◌, length, take, [], ◌∷◌, ◌++◌}
use Rattle.std.proofs.Common.{refl, sym, ap, ◌∙◌, subst, append_assoc, arith}
use Rattle.std.proofs.lemmas.List.{take-append-le, take_all}
use Rattle.mx_wire.specs.Log.{Log}
use Rattle.mx_wire.specs.Moments.{AllLawful, AtEachMoment, LawfulAfter, lawful-last, lawful-more}
use Rattle.mx_wire.specs.Tells.{Fits}
use Rattle.mx_wire.specs.declared.entry.Entry.{Entry}
use Rattle.mx_wire.specs.declared.entry.Entry.TheVariants as entry
use Rattle.router_promises.specs.Now.{Now, now_at}
use Rattle.router_promises.specs.Terms.{Terms}
use Rattle.shared_router.specs.Fixed.{Fixed, IsNumbered}
use Rattle.shared_router.specs.Known.{known}
use Rattle.shared_router.specs.More.{now_of}
use Rattle.shared_router.specs.Ours.{IsOurLog, IsOurs, MayWait}
use Rattle.shared_router.specs.Shared.{final_terms, world_at}
use Rattle.shared_router.specs.Waited.{AsItWaits}
use Rattle.shared_router.proofs.Same.{now_is, now_same}
use Rattle.shared_router.proofs.Staying.{log_at}

-- an entry of the log, and what a wire can tell before it and from it on
pub record IsAt (log before : Log) (e : Entry) (later : Log) : Type 0 where
  pub is : before ++ e ∷ later ≡ log
  pub so_far : LawfulAfter Fits [] before
  pub fits : LawfulAfter Fits before (e ∷ later)

-- what holds at each moment holds of each beginning
pub moment_at : (P : Log → Type 0) (before later log : Log) → before ++ later ≡ log → AtEachMoment P log → P before
moment_at P before later log is each =
    subst P (ap (take (length before)) (sym is) ∙ take-append-le (length before) before later (omega arith) ∙ take_all (length before) before (omega arith)) (each (length before))

-- and of each entry of what comes first
pub lawful_first : (Rule : Log → Entry → Type 0) (before middle later : Log) → LawfulAfter Rule before (middle ++ later) → LawfulAfter Rule before middle
lawful_first Rule before [] later all = tt
lawful_first Rule before (e ∷ middle) later all = (all.0, lawful_first Rule (before ++ e ∷ []) middle later all.1)

-- and of one entry
pub lawful_there : (Rule : Log → Entry → Type 0) (before later log : Log) (e : Entry) → before ++ e ∷ later ≡ log → AllLawful Rule log → Rule before e
lawful_there Rule before later log e is all =
    (lawful-last Rule before e
    (lawful_first Rule [] (before ++ e ∷ []) later (subst (λ (l : Log). LawfulAfter Rule [] l) (sym (append_assoc before (e ∷ []) later ∙ is)) all))).1

module _ (fixed : Fixed) (log : Log) (Rule : Log → Entry → Type 0)
    (each : (before later : Log) (e : Entry) → IsAt log before e later → IsOurs fixed before e → Rule before e) where
  along_from : (before later : Log) → before ++ later ≡ log → LawfulAfter Fits [] before → LawfulAfter Fits before later
      → LawfulAfter (IsOurs fixed) before later → LawfulAfter Rule before later
  along_from before [] is so_far fits ours = tt
  along_from before (e ∷ later) is so_far fits ours = (
    each before later e (record { is = is; so_far = so_far; fits = fits }) ours.0,
    along_from (before ++ e ∷ []) later (append_assoc before (e ∷ []) later ∙ is) (lawful-more Fits before e so_far fits.0) fits.1 ours.1,
  )

  pub along : IsOurLog fixed log → AllLawful Rule log
  along our = along_from [] log refl tt our.fits our.ours

module _ (fixed : Fixed) (numbered : IsNumbered fixed) (log : Log) where
  -- what is known by the last terms is what the world knows
  pub now_there : (before later : Log) → before ++ later ≡ log → now_at (final_terms fixed log) before ≡ now_of fixed (world_at fixed before)
  now_there before later is =
      subst (λ l. now_at (final_terms fixed l) before ≡ now_of fixed (world_at fixed before)) is
      (now_is fixed (final_terms fixed (before ++ later)) before (now_same fixed numbered before later))

  module _ (Holds : Terms → Log → Now → Type 0)
      (each : (before later : Log) (e : Entry) → IsAt log before e later → MayWait (known fixed (world_at fixed before))
      → Holds (final_terms fixed log) (world_at fixed before).more.log (now_of fixed (world_at fixed before))) where
    holds_at : (before later : Log) (e : Entry) → IsAt log before e later → MayWait (known fixed (world_at fixed before))
        → Holds (final_terms fixed log) before (now_at (final_terms fixed log) before)
    holds_at before later e at may =
        subst (λ (n : Now). Holds (final_terms fixed log) before n) (sym (now_there before (e ∷ later) at.is))
        (subst (λ (l : Log). Holds (final_terms fixed log) l (now_of fixed (world_at fixed before))) (log_at fixed before) (each before later e at may))

    holds_by : (before later : Log) (e : Entry) → IsAt log before e later → IsOurs fixed before e → AsItWaits Holds (final_terms fixed log) before e
    holds_by before later (entry.Woke until_ms now_ms) at our = holds_at before later (entry.Woke until_ms now_ms) at our.0
    holds_by before later entry.WaitFailed at our = holds_at before later entry.WaitFailed at our
    holds_by before later entry.Over at our = holds_at before later entry.Over at our
    holds_by before later _ at our = tt

    -- where the loop waits
    pub as_it_waits : IsOurLog fixed log → AllLawful (AsItWaits Holds (final_terms fixed log)) log
    as_it_waits our = along fixed log (AsItWaits Holds (final_terms fixed log)) holds_by our
