-- A router goes on with an entry by which nobody is called, given up or ended.
use Rattle.std.specs.Prelude.{◌≡◌, ◌+◌, ◌||◌, ℕ, suc, Bool, length, List}
use Rattle.std.proofs.Common.{sym, ap, ◌∙◌, subst, arith}
use Rattle.mx_wire.specs.Log.{Log}
use Rattle.mx_wire.specs.Tells.{MayFollow}
use Rattle.mx_wire.specs.declared.entry.Entry.{Entry}
use Rattle.core_service.specs.Serves.{rules_in}
use Rattle.core_service.specs.declared.service.Service.{Service}
use Rattle.core_texts.specs.declared.texts.Texts.{Texts}
use Rattle.private_model.specs.Names.{ClientNo}
use Rattle.private_model.specs.View.{Setup}
use Rattle.link_laws.specs.Stands.{Codes}
use Rattle.log_story.specs.Headline.{tale_of}
use Rattle.log_story.specs.Plan.{Plan, word_at}
use Rattle.log_story.specs.Tale.{Client}
use Rattle.log_story.specs.Telling.{tale_step}
use Rattle.step_laws.specs.Seats.{IsSeated}
use Rattle.tale_world.specs.Decided.{Decided}
use Rattle.core_tables.specs.Tables.{Tabled}
use Rattle.core_stands.specs.Grounds.{Ground}
use Rattle.core_laws.proofs.OfEntry.Lists.{seated_of}
use Rattle.core_laws.specs.entry.Cores.{GoesOn, with_entry}
use Rattle.core_laws.specs.entry.Kinds.{IsUneventful}
use Rattle.core_laws.specs.entry.Tells.{Fits, IsOf, ground}
use Rattle.router_laws.proofs.OfClients.Entering.{heard_always}
use Rattle.router_laws.specs.clients.Plans.{IsDecided, nobody, over_by}
use Rattle.router_laws.proofs.OfDecisions.Fates.{none_told, untaken_none, none_some}
use Rattle.router_laws.proofs.OfDecisions.Gathering.{over_then, silent_at, uneventful}
use Rattle.router_laws.proofs.OfDecisions.Keeping.{recorded_then}
use Rattle.router_laws.proofs.OfDecisions.Listing.{is_tale_of}
use Rattle.router_laws.proofs.OfDecisions.Recording.{one_more}
use Rattle.router_laws.proofs.OfDecisions.Judging.{judges_none}
use Rattle.router_laws.proofs.OfDecisions.Router.{router_goes_on, stood_before}
use Rattle.router_laws.proofs.OfDecisions.Tallying.{counts_then}
use Rattle.router_laws.proofs.OfDecisions.Working.{none_given}
use Rattle.query_rules.specs.declared.rule.Rule.{Rule}
use Rattle.router_laws.specs.decisions.Speaks.{AreOurs}
use Rattle.router_laws.specs.decisions.Counting.{BeginsSo}
use Rattle.router_laws.specs.decisions.Deeds.{AreAlone, Deeds, counts_with, decided_with, taken_by}
use Rattle.router_laws.specs.decisions.Plans.{EndsNone, PlansSo}
use Rattle.core_promises.specs.Administers.{Administered}
use Rattle.router_laws.specs.decisions.Routers.{AreOpenJust, GoesSo, IsBefore, IsRouter, WaitsThen}
use Rattle.router_laws.proofs.OfDecisions.Ending.{none_parts, none_quits}

-- nobody has anything to take up by these
pub record IsIdleBy (deeds : Deeds) : Type 0 where
  pub alone : AreAlone deeds
  pub ours : (rules : List Rule) (texts : Texts) → AreOurs rules texts deeds
  pub none : EndsNone deeds
  pub takes : (c : ClientNo) → taken_by (deeds.calls c) (deeds.halts c) ≡ 0

module _ {texts : Texts} {admin : Administered} (service : Service) (log : Log) (e : Entry) (deeds : Deeds) (t now : Tabled) (roomy room : ClientNo → Bool)
    (router : IsRouter service texts admin log t roomy) (may : MayFollow log e) (idle : IsIdleBy deeds)
    (waits : WaitsThen service log e router.core.decided) where
  abbrev d : Decided
  d = router.core.decided

  abbrev pub new : Decided
  new = decided_with deeds router.counts log e d

  -- what there is by one setup and plan
  pub record IsKnown (setup : Setup) (codes : Codes) (plan : Plan) : Type 0 where
    pub stood : IsBefore service texts admin log e t roomy router deeds setup codes plan
    pub so : PlansSo (ground setup codes plan d log) log e deeds
    pub decided : IsDecided (ground setup codes plan d log) nobody (over_by new)

  -- and what a kind of entry makes of it
  pub record GoesCalm (setup : Setup) (codes : Codes) (plan : Plan) : Type 0 where
    pub goes : GoesOn service.setup setup codes plan log e d new t now roomy room
    pub clients : (tale_step setup plan (tale_of setup plan log) e).clients ≡ (tale_of setup plan log).clients
    pub begins : BeginsSo setup (tale_of setup plan log) e deeds

  module _ (setup : Setup) (codes : Codes) (plan : Plan) (of : IsOf new (length (with_entry log e)) plan)
      (fits : Fits new.keys setup codes plan service.default_schema (tale_of setup plan (with_entry log e))) where
    abbrev g : Ground
    g = ground setup codes plan d log

    stood_so : IsBefore service texts admin log e t roomy router deeds setup codes plan
    stood_so = stood_before service log e t roomy deeds setup codes plan router may of fits (heard_always setup plan log e)

    plans : PlansSo g log e deeds
    plans = stood_so.so (none_told d.keys deeds (λ c. untaken_none (deeds.calls c) (deeds.halts c) (idle.takes c))) (none_given g deeds.given idle.none.given)

    calm : IsUneventful g
    calm = uneventful g log e deeds plans idle.none

    known : IsKnown setup codes plan
    known = record {
      stood = stood_so;
      so = plans;
      decided = record {
        still = calm.still;
        ends = calm.endless;
        overs = λ c. over_then d router.counts log e deeds setup codes plan router.recorded of c ∙ ap (λ (b : Bool). g.over c || b) (calm.endless c);
        wordless = λ c going.
            ap (λ (m : ℕ). word_at plan m c) (ap suc (is_tale_of setup plan log).moment ∙ sym (one_more log e))
            ∙ silent_at new (counts_with deeds router.counts log e) (with_entry log e) plan
            (recorded_then d router.counts log e deeds router.recorded idle.alone) of c going;
      };
    }

    module _ (made : GoesCalm setup codes plan) where
      takes_none : (client : Client) → IsSeated (tale_step setup plan g.tale e) client
          → client.taken ≡ router.counts.taken client.number + taken_by (deeds.calls client.number) (deeds.halts client.number)
      takes_none client seated =
          let there : IsSeated g.tale client = subst (λ (xs : List Client). IsSeated (record g.tale { clients = xs }) client) made.clients seated in
          let same : client.taken ≡ router.counts.taken client.number =
          seated_of (λ (x : Client). x.taken ≡ router.counts.taken x.number) g.tale client there stood_so.counts.taken in
          omega (arith, same, idle.takes client.number)

      goes_so : GoesSo service.setup setup codes plan log e d router.counts deeds t now roomy room
      goes_so = record {
        goes = made.goes;
        counts = counts_then setup plan d router.counts log e deeds router.recorded stood_so.counts may takes_none made.begins;
      }

  pub calm_router : ((setup : Setup) (codes : Codes) (plan : Plan) → IsKnown setup codes plan → GoesCalm setup codes plan) → AreOpenJust (with_entry log e) now
      → IsRouter service texts admin (with_entry log e) now room
  calm_router makes rows =
      router_goes_on service log e deeds t now roomy room router may (idle.ours (rules_in service) texts) waits
      (judges_none service log e d router.counts deeds admin idle.takes (λ c. none_quits (deeds.halts c) (deeds.ends c) (idle.none.ends c)) idle.none.given
      (λ setup codes plan of fits c end is. none_some (deeds.ends c) end (none_parts (deeds.halts c) (deeds.ends c) (idle.none.ends c)) is))
      (λ setup codes plan of fits. goes_so setup codes plan of fits (makes setup codes plan (known setup codes plan of fits))) rows
