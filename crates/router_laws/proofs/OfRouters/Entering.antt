-- A router goes on with an entry by which nobody is called, ended or given up.
use Rattle.std.specs.Prelude.{◌≡◌, ◌||◌, ℕ, suc, Bool, true, length, Option, None}
use Rattle.std.proofs.Common.{refl, sym, ap, ◌∙◌}
use Rattle.std.proofs.lemmas.List.Elements.{All-nil}
use Rattle.mx_wire.specs.Log.{Log}
use Rattle.mx_wire.specs.Tells.{MayFollow}
use Rattle.mx_wire.specs.declared.entry.Entry.{Entry}
use Rattle.server_side.specs.Account.{Account as Login}
use Rattle.core_service.specs.Serves.{rules_in}
use Rattle.core_service.specs.declared.service.Service.{Service}
use Rattle.core_texts.specs.declared.texts.Texts.{Texts}
use Rattle.private_model.specs.Names.{ClientNo}
use Rattle.private_model.specs.View.{Setup}
use Rattle.link_laws.specs.Stands.{Codes}
use Rattle.log_story.specs.Headline.{tale_of}
use Rattle.log_story.specs.Plan.{Plan, StepText, word_at}
use Rattle.tale_world.specs.Decided.{Decided}
use Rattle.core_tables.specs.Tables.{Tabled}
use Rattle.core_stands.specs.Grounds.{Ground}
use Rattle.core_laws.specs.entry.Cores.{with_entry}
use Rattle.core_laws.specs.entry.Kinds.{IsUneventful}
use Rattle.core_laws.specs.entry.Tells.{Fits, IsOf, ground}
use Rattle.router_laws.proofs.OfClients.Entering.{heard_always}
use Rattle.router_laws.specs.clients.Plans.{IsDecided, nobody, over_by}
use Rattle.router_laws.proofs.OfDecisions.Fates.{none_told, none_some}
use Rattle.router_laws.proofs.OfDecisions.Gathering.{over_then, silent_at, uneventful}
use Rattle.router_laws.proofs.OfDecisions.Keeping.{recorded_then}
use Rattle.router_laws.proofs.OfDecisions.Listing.{is_tale_of}
use Rattle.router_laws.proofs.OfDecisions.Recording.{one_more}
use Rattle.router_laws.proofs.OfDecisions.Judging.{judges_none}
use Rattle.router_laws.proofs.OfDecisions.Router.{router_goes_on, stood_before}
use Rattle.router_laws.proofs.OfDecisions.Staying.{counts_kept}
use Rattle.router_laws.proofs.OfDecisions.Working.{none_given}
use Rattle.router_laws.proofs.OfDecisions.Speaking.{ours_of_link}
use Rattle.router_laws.specs.decisions.Counting.{CallsNone, is_no_event}
use Rattle.router_laws.specs.decisions.Deeds.{AreAlone, Deeds, IsAlone, counts_with, decided_with}
use Rattle.router_laws.specs.decisions.Plans.{EndsNone, PlansSo}
use Rattle.core_promises.specs.Administers.{Administered}
use Rattle.router_laws.specs.decisions.Routers.{AreOpenJust, GoesSo, IsBefore, IsRouter, WaitsThen}
use Rattle.router_laws.specs.routers.Enters.{Enters, EntersBy, of_link}

module _ {texts : Texts} {admin : Administered} (service : Service) (log : Log) (e : Entry) (login : Option Login) (begun : Option (Option StepText)) (t now : Tabled)
    (roomy room : ClientNo → Bool) (router : IsRouter service texts admin log t roomy) (may : MayFollow log e) (quiet : is_no_event e ≡ true)
    (waits : WaitsThen service log e router.core.decided) (enters : EntersBy service texts admin log e t now roomy room router (of_link login begun)) where
  abbrev deeds : Deeds
  deeds = of_link login begun

  abbrev d : Decided
  d = router.core.decided

  abbrev new : Decided
  new = decided_with deeds router.counts log e d

  alone : AreAlone deeds
  alone c = All-nil IsAlone

  none_end : EndsNone deeds
  none_end = record { given = λ c. refl; ends = λ c. refl }

  none_called : CallsNone deeds
  none_called = record { given = λ c. refl; none_taken = λ c. refl }

  module _ (setup : Setup) (codes : Codes) (plan : Plan) (of : IsOf new (length (with_entry log e)) plan)
      (fits : Fits new.keys setup codes plan service.default_schema (tale_of setup plan (with_entry log e))) where
    abbrev g : Ground
    g = ground setup codes plan d log

    stood : IsBefore service texts admin log e t roomy router deeds setup codes plan
    stood = stood_before service log e t roomy deeds setup codes plan router may of fits (heard_always setup plan log e)

    so : PlansSo g log e deeds
    so = stood.so (none_told d.keys deeds (λ c. refl)) (none_given g (λ c. None) (λ c. refl))

    calm : IsUneventful g
    calm = uneventful g log e deeds so none_end

    decided : IsDecided g nobody (over_by new)
    decided = record {
      still = calm.still;
      ends = calm.endless;
      overs = λ c. over_then d router.counts log e deeds setup codes plan router.recorded of c ∙ ap (λ (b : Bool). g.over c || b) (calm.endless c);
      wordless = λ c going.
          ap (λ (m : ℕ). word_at plan m c) (ap suc (is_tale_of setup plan log).moment ∙ sym (one_more log e))
          ∙ silent_at new (counts_with deeds router.counts log e) (with_entry log e) plan
          (recorded_then d router.counts log e deeds router.recorded alone) of c going;
    }

    entered : Enters service.setup log e d router.counts deeds t now roomy room setup codes plan
    entered = enters setup codes plan stood fits so decided

    goes_so : GoesSo service.setup setup codes plan log e d router.counts deeds t now roomy room
    goes_so = record {
      goes = entered.goes;
      counts = counts_kept setup plan d router.counts log e deeds router.recorded may of stood.counts quiet none_called entered.begins;
    }

  pub router_enters : AreOpenJust (with_entry log e) now → IsRouter service texts admin (with_entry log e) now room
  router_enters = router_goes_on service log e deeds t now roomy room router may (ours_of_link (rules_in service) texts login begun) waits
      (judges_none service log e d router.counts deeds admin (λ c. refl) (λ c. refl) (λ c. refl)
      (λ setup codes plan of fits c end is. none_some None end refl is)) goes_so
