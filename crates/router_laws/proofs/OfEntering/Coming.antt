-- A client comes, and is served or turned away.
use Rattle.std.specs.Prelude.{◌≡◌, ◌≤◌, ◌+◌, ℕ, suc, Bool, true, false, is_some, length, nat_eq, if◌then◌else◌, List, [], ◌∷◌, Option, Some, None}
use Rattle.std.proofs.Common.{refl, ap, ◌∙◌, subst, arith, length-append, inl}
use Rattle.std.proofs.lemmas.List.Elements.{All-nil, filter_map-append}
use Rattle.mx_base.specs.declared.names.LinkId.{LinkId}
use Rattle.mx_base.specs.declared.names.Port.{Port}
use Rattle.mx_wire.specs.Log.{Log, accepted_link, accepted_links}
use Rattle.mx_wire.specs.Tells.{MayFollow}
use Rattle.mx_wire.specs.declared.entry.Entry.{Entry}
use Rattle.mx_wire.specs.declared.entry.Entry.TheVariants.{Accepted}
use Rattle.core_service.specs.Serves.{rules_in}
use Rattle.core_service.specs.declared.service.Service.{Service}
use Rattle.core_texts.specs.declared.texts.Texts.{Texts}
use Rattle.private_model.proofs.Maps.{same_number}
use Rattle.private_model.specs.Names.{ClientNo}
use Rattle.private_model.specs.View.{Setup}
use Rattle.link_laws.specs.Stands.{Codes}
use Rattle.log_story.specs.Plan.{Alone, Plan}
use Rattle.tale_world.specs.Decided.{Decided}
use Rattle.core_tables.specs.Tables.{Tabled}
use Rattle.core_stands.specs.Grounds.{Ground}
use Rattle.core_laws.specs.arrival.Comes.{away_payloads, away_word}
use Rattle.core_laws.specs.entry.Cores.{GoesOn, with_entry}
use Rattle.core_laws.specs.entry.Tells.{IsOf, ground}
use Rattle.core_laws.specs.clients.Turns.{Rests as Resting}
use Rattle.router_laws.specs.clients.Plans.{FitsThen, PlansAway, PlansComing, ends_of, nobody, over_by}
use Rattle.router_laws.proofs.OfDecisions.Judging.{judges_of_none}
use Rattle.router_laws.proofs.OfDecisions.Router.{router_goes_on}
use Rattle.router_laws.proofs.OfDecisions.Staying.{counts_kept}
use Rattle.own_words.specs.Own.{TurnedAway}
use Rattle.router_laws.specs.decisions.Speaks.{IsEndOurs, IsOurs}
use Rattle.router_laws.specs.decisions.Counting.{CallsNone}
use Rattle.router_laws.specs.decisions.Deeds as ds
use Rattle.router_laws.specs.decisions.Deeds.{Word, known_with, taken_by}
use Rattle.router_laws.specs.decisions.Plans.{HasNewcomer}
use Rattle.core_promises.specs.Administers.{Administered}
use Rattle.router_laws.specs.decisions.Routers.{AreOpenJust, GoesSo, IsBefore, IsRouter}
use Rattle.router_laws.proofs.OfEntering.Deciding as deciding
use Rattle.router_laws.proofs.OfDecisions.Ending.{one_ends}
use Rattle.router_laws.specs.decisions.Partings.{IsPartCause}

pub known_more : (log : Log) (port : Port) (link : LinkId) (salt : List ℕ) → known_with log (Accepted port link salt) ≡ length (accepted_links log) + 1
known_more log port link salt =
    ap (λ (xs : List LinkId). length xs) (filter_map-append accepted_link log (Accepted port link salt ∷ []))
    ∙ length-append (accepted_links log) (link ∷ [])

abbrev pub away : Option (Option Word)
away = Some (Some (record { place = Alone; payloads = away_payloads }))

pub away_ours : IsEndOurs away
away_ours = TurnedAway

module _ {texts : Texts} {admin : Administered} (service : Service) (log : Log) (t now : Tabled) (roomy : ClientNo → Bool) (port : Port) (link : LinkId) (salt : List ℕ)
    (c : ClientNo) (router : IsRouter service texts admin log t roomy) (may : MayFollow log (Accepted port link salt))
    (count : c.0 ≡ length (accepted_links log) + 1) (last : Option (Option Word)) (said_ours : IsEndOurs last) where
  abbrev e : Entry
  e = Accepted port link salt

  abbrev deeds : ds.Deeds
  deeds = deciding.deeds service log e t now roomy roomy router may c [] Resting last (All-nil (IsOurs (rules_in service) texts c)) said_ours

  abbrev pub new : Decided
  new = deciding.new service log e t now roomy roomy router may c [] Resting last (All-nil (IsOurs (rules_in service) texts c)) said_ours

  nothing : (q : Bool) → taken_by (if q then [] else []) (if q then Resting else Resting) ≡ 0
  nothing true = refl
  nothing false = refl

  none_called : CallsNone deeds
  none_called = record { given = λ x. refl; none_taken = λ x. nothing (nat_eq c.0 x.0) }

  module _ (setup : Setup) (codes : Codes) (plan : Plan) (of : IsOf new (length (with_entry log e)) plan) (fits : FitsThen new.keys setup codes plan service.default_schema log e) where
    abbrev pub g : Ground
    g = ground setup codes plan router.core.decided log

    came : c.0 ≤ known_with log e
    came = let more : known_with log e ≡ length (accepted_links log) + 1 = known_more log port link salt in omega (arith, more, count)

    newcomer : HasNewcomer g deeds c
    newcomer =
        (deciding.so service log e t now roomy roomy router may c [] Resting last (All-nil (IsOurs (rules_in service) texts c)) said_ours setup codes plan of fits).newcomer c
        (omega (arith, count)) came

    pub coming : PlansComing g c (ends_of c (is_some last)) (over_by new)
    coming = record {
      decided = deciding.decided service log e t now roomy roomy router may c [] Resting last (All-nil (IsOurs (rules_in service) texts c)) said_ours setup codes plan of fits came newcomer.going;
      unrouted = (deciding.so service log e t now roomy roomy router may c [] Resting last (All-nil (IsOurs (rules_in service) texts c)) said_ours setup codes plan of fits).nowhere c;
      kept = newcomer.keeps refl;
      going = newcomer.going;
    }

    pub coming_on : last ≡ None → PlansComing g c nobody (over_by new)
    coming_on none = record {
      decided = deciding.decided_none service log e t now roomy roomy router may c [] Resting last (All-nil (IsOurs (rules_in service) texts c)) said_ours setup codes plan of fits none refl;
      unrouted = coming.unrouted;
      kept = coming.kept;
      going = coming.going;
    }

    pub turned : last ≡ away → PlansAway g c (over_by new)
    turned same = record {
      coming = subst (λ (b : Bool). PlansComing g c (ends_of c b) (over_by new)) (ap is_some same) coming;
      word = newcomer.says (away_word (suc g.tale.moment)) worded;
    } where
      worded : ds.word_of deeds (suc g.tale.moment) c ≡ Some (away_word (suc g.tale.moment))
      worded =
          ap (λ (q : Bool). ds.said_at (suc g.tale.moment) (ds.ends_by (if q then Resting else Resting) (if q then last else None))) (same_number c.0)
          ∙ ap (ds.said_at (suc g.tale.moment)) same

  abbrev pub GoesBy : Type 0
  GoesBy =
      (setup : Setup) (codes : Codes) (plan : Plan) (of : IsOf new (length (with_entry log e)) plan) (fits : FitsThen new.keys setup codes plan service.default_schema log e)
      → GoesOn service.setup setup codes plan log e router.core.decided new t now roomy roomy

  pub comes_routed : GoesBy → AreOpenJust (with_entry log e) now → IsRouter service texts admin (with_entry log e) now roomy
  comes_routed goes =
      router_goes_on service log e deeds t now roomy roomy router may
      (deciding.ours service log e t now roomy roomy router may c [] Resting last (All-nil (IsOurs (rules_in service) texts c)) said_ours) (λ terms codes of fits. tt)
      (judges_of_none service log e router.core.decided router.counts c last admin
      (λ setup codes plan of fits. one_ends (IsPartCause service.buffer_budget setup plan log e) c last (λ end is. inl count))) goes_so where
        goes_so : (setup : Setup) (codes : Codes) (plan : Plan) → IsOf new (length (with_entry log e)) plan → FitsThen new.keys setup codes plan service.default_schema log e
            → GoesSo service.setup setup codes plan log e router.core.decided router.counts deeds t now roomy roomy
        goes_so setup codes plan of fits =
            let was : IsBefore service texts admin log e t roomy router deeds setup codes plan =
            deciding.before service log e t now roomy roomy router may c [] Resting last (All-nil (IsOurs (rules_in service) texts c)) said_ours setup codes plan of fits in
            record {
              goes = goes setup codes plan of fits;
              counts = counts_kept setup plan router.core.decided router.counts log e deeds router.recorded may of was.counts refl none_called tt;
            }
