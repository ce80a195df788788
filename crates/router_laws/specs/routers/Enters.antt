-- A router goes on with an entry by which nobody is called, ended or given up.
use Rattle.std.specs.Prelude.{Bool, List, Option, ℕ}
use Rattle.mx_wire.specs.Log.{Log}
use Rattle.mx_wire.specs.declared.entry.Entry.{Entry}
use Rattle.server_side.specs.Account.{Account as Login}
use Rattle.core_service.specs.declared.service.Service.{Service}
use Rattle.core_texts.specs.declared.texts.Texts.{Texts}
use Rattle.client_session.specs.Setups.{Setup as Serving}
use Rattle.private_model.specs.Names.{ClientNo}
use Rattle.private_model.specs.View.{Setup}
use Rattle.link_laws.specs.Stands.{Codes}
use Rattle.log_story.specs.Headline.{tale_of}
use Rattle.log_story.specs.Plan.{Plan, StepText}
use Rattle.tale_world.specs.Decided.{Decided}
use Rattle.core_tables.specs.Tables.{Tabled}
use Rattle.core_laws.specs.entry.Cores.{GoesOn}
use Rattle.core_laws.specs.entry.Tells.{ground}
use Rattle.router_laws.specs.clients.Plans.{FitsThen, IsDecided, nobody, over_by}
use Rattle.router_laws.specs.decisions.Counting.{BeginsSo}
use Rattle.router_laws.specs.decisions.Deeds.{Counts, Deeds, decided_with, no_deeds}
use Rattle.router_laws.specs.decisions.Plans.{PlansSo}
use Rattle.core_promises.specs.Administers.{Administered}
use Rattle.router_laws.specs.decisions.Routers.{IsBefore, IsRouter}

-- what is decided of a link alone
abbrev pub of_link : Option Login → Option (Option StepText) → Deeds
of_link login begun = record no_deeds { login = login; begun = begun }

-- By one setup and plan.
pub record Enters (service : Serving) (log : Log) (e : Entry) (d : Decided) (n : Counts) (deeds : Deeds) (t now : Tabled) (roomy room : ClientNo → Bool)
    (setup : Setup) (codes : Codes) (plan : Plan) : Type 0 where
  pub goes : GoesOn service setup codes plan log e d (decided_with deeds n log e d) t now roomy room
  pub begins : BeginsSo setup (tale_of setup plan log) e deeds

-- by each that has what is decided then, and fits
abbrev pub EntersBy : (service : Service) (texts : Texts) (admin : Administered) (log : Log) (e : Entry) (t now : Tabled) (roomy room : ClientNo → Bool)
    → IsRouter service texts admin log t roomy → Deeds → Type 0
EntersBy service texts admin log e t now roomy room router deeds =
    (setup : Setup) (codes : Codes) (plan : Plan) → IsBefore service texts admin log e t roomy router deeds setup codes plan
    → FitsThen (decided_with deeds router.counts log e router.core.decided).keys setup codes plan service.default_schema log e → PlansSo (ground setup codes plan router.core.decided log) log e deeds
    → IsDecided (ground setup codes plan router.core.decided log) nobody (over_by (decided_with deeds router.counts log e router.core.decided))
    → Enters service.setup log e router.core.decided router.counts deeds t now roomy room setup codes plan
