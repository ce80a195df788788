-- Where the loop waits and a link of a key is idle, no more statements wait for that key than links are on their way to be lent: where each readied link is
-- asked for something.
use Rattle.std.specs.Prelude.{◌≡◌, ◌<◌, ◌≤◌, length, ◌∷◌, ◌++◌}
use Rattle.std.proofs.Common.{sym, ap, subst, arith}
use Rattle.mx_wire.specs.Log.{Log}
use Rattle.mx_wire.specs.Moments.{AllLawful, AtEachMoment}
use Rattle.mx_wire.specs.declared.entry.Entry.{Entry}
use Rattle.mx_wire.specs.declared.entry.Entry.TheVariants as entry
use Rattle.log_story.specs.Plan.{Plan}
use Rattle.log_story.specs.Tale.{Tale, first_tale}
use Rattle.tale_world.specs.Decided.{plan_of}
use Rattle.tale_world.specs.Deciding.{World}
use Rattle.router_promises.specs.Headline.{IsLawfulSo}
use Rattle.router_promises.specs.Keys.{LinkKey, how_many, is_idle, is_stepping, waiting}
use Rattle.router_promises.specs.Now.{Now, now_at}
use Rattle.router_promises.specs.Routed.{RoutesSo}
use Rattle.router_promises.specs.Terms.{Terms}
use Rattle.shared_router.specs.Fixed.{Fixed, IsNumbered, setup_of}
use Rattle.shared_router.specs.Judged.{EndsFor}
use Rattle.shared_router.specs.Known.{Known, known}
use Rattle.shared_router.specs.More.{More, now_of}
use Rattle.shared_router.specs.Ours.{IsOurLog, IsOurs}
use Rattle.shared_router.specs.Shared.{final_terms, world_at}
use Rattle.shared_router.specs.Waited.{AsItWaits, AsksForWhom, AsksSo, ServesAll, WorksOn, WorksSo}
use Rattle.shared_router.proofs.Along.{IsAt, along, lawful_there, now_there}
use Rattle.shared_router.proofs.Lapsing.{lone, tale_is}
use Rattle.shared_router.proofs.Lasting.{alike_at}
use Rattle.shared_router.proofs.Lastly.{AreLast, AreRising, first_last, log_last}
use Rattle.shared_router.proofs.Later.{AreAlike, idle_count, stepping_count, waiters_same}
use Rattle.shared_router.proofs.Serving.{serves_all}
use Rattle.shared_router.proofs.Staying.{log_at}

module _ (fixed : Fixed) (numbered : IsNumbered fixed) (log : Log) (our : IsOurLog fixed log) (lawful : AtEachMoment (IsLawfulSo (final_terms fixed log)) log)
    (ends : AllLawful (EndsFor (final_terms fixed log)) log) (routes : AllLawful (RoutesSo (final_terms fixed log)) log) where
  abbrev t : Terms
  t = final_terms fixed log

  abbrev plan : Plan
  plan = plan_of (world_at fixed log).decided

  -- each message became due once
  pub lasts_at : (before later : Log) → before ++ later ≡ log
      → AreLast (setup_of fixed) plan (lone fixed numbered log lawful ends routes) (world_at fixed before).tale.moment (world_at fixed before).tale.story (world_at fixed before).tale.clients
  lasts_at before later is =
      subst (λ (x : Tale). AreLast (setup_of fixed) plan (lone fixed numbered log lawful ends routes) x.moment x.story x.clients)
      (tale_is fixed numbered log lawful ends routes before later is)
      (log_last (setup_of fixed) plan (lone fixed numbered log lawful ends routes) before first_tale tt (first_last (setup_of fixed) plan (lone fixed numbered log lawful ends routes)))

  pub rising_at : (before later : Log) → before ++ later ≡ log → AreRising (world_at fixed before).tale.story
  rising_at before later is = (lasts_at before later is).all.rising

  module _ (before later : Log) (e : Entry) (at : IsAt log before e later) (works : WorksOn (known fixed (world_at fixed before)))
      (asks : AsksForWhom (known fixed (world_at fixed before))) where
    abbrev w : World More
    w = world_at fixed before

    abbrev k : Known
    k = known fixed w

    abbrev now : Now
    now = now_of fixed w

    pub alike : AreAlike fixed w.tale w (world_at fixed log)
    alike = subst (λ (l : Log). AreAlike fixed w.tale w (world_at fixed l)) at.is (alike_at fixed numbered before (e ∷ later) at.fits)

    serves_now : (key : LinkKey) → 0 < how_many is_idle t before now key → waiting t now key ≤ how_many is_stepping t before now key
    serves_now key some =
        let idle : how_many is_idle t before now key ≡ how_many is_idle k.terms before now key = idle_count fixed before now w (world_at fixed log) alike key in
        let steps : how_many is_stepping t before now key ≡ how_many is_stepping k.terms before now key = stepping_count fixed before now w (world_at fixed log) alike key in
        let waits : waiting t now key ≡ waiting k.terms now key = ap (λ ms. length ms) (waiters_same fixed before now w (world_at fixed log) alike key w.tale.story) in
        let first : 0 < how_many is_idle k.terms w.more.log now key =
        subst (λ (l : Log). 0 < how_many is_idle k.terms l now key) (sym (log_at fixed before)) (omega (arith, some, idle)) in
        let served : waiting k.terms now key ≤ how_many is_stepping k.terms before now key =
        subst (λ (l : Log). waiting k.terms now key ≤ how_many is_stepping k.terms l now key) (log_at fixed before)
        (serves_all k works asks key (rising_at before (e ∷ later) at.is) first) in
        omega (arith, steps, waits, served)

    serves_then : ServesAll t before (now_at t before)
    serves_then = subst (λ (n : Now). ServesAll t before n) (sym (now_there fixed numbered log before (e ∷ later) at.is)) serves_now

  module _ (works : AllLawful (WorksSo fixed) log) (asks : AllLawful (AsksSo fixed) log) where
    serves_by : (before later : Log) (e : Entry) → IsAt log before e later → IsOurs fixed before e → AsItWaits ServesAll t before e
    serves_by before later (entry.Woke until_ms now_ms) at ours =
        serves_then before later (entry.Woke until_ms now_ms) at (lawful_there (WorksSo fixed) before later log (entry.Woke until_ms now_ms) at.is works)
        (lawful_there (AsksSo fixed) before later log (entry.Woke until_ms now_ms) at.is asks)
    serves_by before later entry.WaitFailed at ours =
        serves_then before later entry.WaitFailed at (lawful_there (WorksSo fixed) before later log entry.WaitFailed at.is works)
        (lawful_there (AsksSo fixed) before later log entry.WaitFailed at.is asks)
    serves_by before later entry.Over at ours =
        serves_then before later entry.Over at (lawful_there (WorksSo fixed) before later log entry.Over at.is works)
        (lawful_there (AsksSo fixed) before later log entry.Over at.is asks)
    serves_by before later _ at ours = tt

    pub serves_along : AllLawful (AsItWaits ServesAll t) log
    serves_along = along fixed log (AsItWaits ServesAll t) serves_by our
