-- That an administrator came stays so, and rules that are loaded.
use Rattle.std.specs.Prelude.{◌≡◌, ◌||◌, ◌++◌, Bool, false, true, [], ◌∷◌, None, Option, Some}
use Rattle.std.specs.Option.{option_map_or}
use Rattle.std.proofs.Common.{ap, refl}
use Rattle.mx_wire.specs.Log.{Log}
use Rattle.query_rules.specs.Passing.{rules_of}
use Rattle.query_rules.specs.declared.rules.Rules.{Rules}
use Rattle.private_model.specs.Names.{ClientNo}
use Rattle.core_service.specs.Serves.{rules_in}
use Rattle.core_service.specs.declared.service.Service.{Service}
use Rattle.core_promises.specs.InForce.{has_administrator, is_administrators}
use Rattle.core_tables.specs.Tables.{Tabled}
use Rattle.core_texts.specs.declared.texts.Texts.{Texts}
use Rattle.core_promises.specs.Administers.{Administered}
use Rattle.router_laws.specs.decisions.Routers.{IsRouter}

-- an administrator that came stays so
pub came_stays : (log more : Log) → has_administrator log ≡ true → has_administrator (log ++ more) ≡ true
came_stays [] more is = absurd (let no : false ≡ true = is in cc)
came_stays (e ∷ log) more is = by (is_administrators e) is (came_stays log more) where
  by : (b : Bool) → (b || has_administrator log) ≡ true → (has_administrator log ≡ true → has_administrator (log ++ more) ≡ true)
      → (b || has_administrator (log ++ more)) ≡ true
  by true here later = refl
  by false here later = later here

-- where none were loaded, they are the configuration's
pub unloaded_rules : (service : Service) → service.loaded ≡ None → rules_in service ≡ rules_of service.configured
unloaded_rules service none = ap (λ (loaded : Option Rules). option_map_or rules_of loaded (rules_of service.configured)) none

-- A router's service is that with the rules that are loaded.
pub loads : (service : Service) (texts : Texts) (admin : Administered) (log : Log) (t : Tabled) (roomy : ClientNo → Bool) (loaded : Rules) → IsRouter service texts admin log t roomy
    → IsRouter (record service { loaded = Some loaded }) texts admin log t roomy
loads service texts admin log t roomy loaded router = record {
  core = router.core;
  counts = router.counts;
  recorded = router.recorded;
  counted = router.counted;
  known = router.known;
  lawful = router.lawful;
  open_just = router.open_just;
  rules = router.rules;
  first = router.first;
  began = router.began;
  administers = router.administers;
  spoken = router.spoken;
  waited = router.waited;
  judged = router.judged;
  held = router.held;
  noted = router.noted;
  caused = router.caused;
  ended = router.ended;
}
