-- A router is carried over an entry by which no client comes.
use Rattle.std.specs.Prelude.{◌≡◌, ◌+◌, ◌++◌, Bool, length, List, [], ◌∷◌}
use Rattle.core_tables.specs.Tables.{Tabled}
use Rattle.private_model.specs.Names.{ClientNo}
use Rattle.std.proofs.Common.{sym, ap, ◌∙◌, subst, append-nil}
use Rattle.std.proofs.lemmas.List.Elements.{filter_map-append}
use Rattle.mx_base.specs.declared.names.LinkId.{LinkId}
use Rattle.mx_wire.specs.Log.{Log, accepted_link, accepted_links}
use Rattle.mx_wire.specs.Tells.{MayFollow}
use Rattle.mx_wire.specs.declared.entry.Entry.{Entry}
use Rattle.core_service.specs.declared.service.Service.{Service}
use Rattle.router_laws.specs.decisions.Routers.{IsLearned, IsRouter}
use Rattle.core_laws.specs.entry.Cores.{with_entry}
use Rattle.router_laws.proofs.OfDecisions.Learning.{learned, learns}
use Rattle.core_texts.specs.declared.texts.Texts.{Texts}
use Rattle.core_texts.specs.Texts.{AreMore, HasBegun}
use Rattle.core_texts.proofs.Keeping.{itself_more}
use Rattle.shared_core.proofs.Coming.{BringsNone, come_as, come_on}
use Rattle.shared_core.specs.Stands.{Carries, Shown, StandsBy, StandsFor, Work, is_roomy, shown, tables, tables_in, work_of, worked}
use Rattle.shared_core.specs.declared.roomy.Roomy.{Roomy}
use Rattle.shared_core.specs.declared.router.Router.{Router}

pub none_come : (log : Log) (e : Entry) → accepted_links (e ∷ []) ≡ [] → length (accepted_links (with_entry log e)) ≡ length (accepted_links log)
none_come log e none =
    ap length (filter_map-append accepted_link log (e ∷ []) ∙ ap (λ (more : List LinkId). accepted_links log ++ more) none
    ∙ append-nil (accepted_links log))

pub texts_more : (old new : Texts) → new ≡ old → AreMore old new
texts_more old new same = subst (AreMore old) (sym same) (itself_more old)

-- where what administrators work on stays as it was
pub worked_same : (service : Service) (texts : Texts) (log : Log) (t : Tabled) (roomy : ClientNo → Bool) (old new : Router) → work_of new ≡ work_of old
    → IsRouter service texts (worked service (work_of old)) log t roomy → IsRouter service texts (worked service (work_of new)) log t roomy
worked_same service texts log t roomy old new work = subst (λ (w : Work). IsRouter service texts (worked service w) log t roomy) (sym work)

module _ (service : Service) (old new : Router) (roomy : new.roomy ≡ old.roomy) (came : new.came ≡ old.came)
    (more : AreMore old.texts new.texts) where
  pub carries_by : (e : Entry) → BringsNone (e ∷ [])
      → ((log : Log) → MayFollow log e → IsRouter service new.texts (worked service (work_of old)) log (tables old) (is_roomy old.roomy)
      → IsRouter service new.texts (worked service (work_of new)) (with_entry log e) (tables new) (is_roomy old.roomy))
      → Carries service e old new
  carries_by e none goes log may stands = record {
    router = subst (λ (r : Roomy). IsRouter service new.texts (worked service (work_of new)) (with_entry log e) (tables new) (is_roomy r)) (sym roomy)
        (goes log may (learns service old.texts new.texts (worked service (work_of old)) log (tables old) (is_roomy old.roomy) stands.router more));
    counted = come_as (with_entry log e) old.came new.came came (come_on log (e ∷ []) old.came none stands.counted);
  }

  -- and where it began with all texts that it had
  pub carries_since : HasBegun old.texts → (e : Entry) → BringsNone (e ∷ [])
      → ((log : Log) → MayFollow log e → IsLearned service new.texts (worked service (work_of old)) log (tables old) (is_roomy old.roomy)
      → IsRouter service new.texts (worked service (work_of new)) (with_entry log e) (tables new) (is_roomy old.roomy))
      → Carries service e old new
  carries_since begun e none goes log may stands = record {
    router = subst (λ (r : Roomy). IsRouter service new.texts (worked service (work_of new)) (with_entry log e) (tables new) (is_roomy r)) (sym roomy)
        (goes log may (learned service old.texts new.texts (worked service (work_of old)) log (tables old) (is_roomy old.roomy) stands.router begun more));
    counted = come_as (with_entry log e) old.came new.came came (come_on log (e ∷ []) old.came none stands.counted);
  }

  -- nothing is told
  pub stays_by : work_of new ≡ work_of old → (log : Log)
      → (IsRouter service new.texts (worked service (work_of old)) log (tables old) (is_roomy old.roomy)
      → IsRouter service new.texts (worked service (work_of old)) log (tables new) (is_roomy old.roomy)) → StandsFor service log old
      → StandsFor service log new
  stays_by work log goes stands = record {
    router = worked_same service new.texts log (tables new) (is_roomy new.roomy) old new work
        (subst (λ (r : Roomy). IsRouter service new.texts (worked service (work_of old)) log (tables new) (is_roomy r)) (sym roomy)
        (goes (learns service old.texts new.texts (worked service (work_of old)) log (tables old) (is_roomy old.roomy) stands.router more)));
    counted = come_as log old.came new.came came stands.counted;
  }

pub carries_along : (service : Service) (e : Entry) (old mid new : Router) → Carries service e old mid
    → ((log : Log) → StandsFor service log mid → StandsFor service log new) → Carries service e old new
carries_along service e old mid new first next log may stands = next (with_entry log e) (first log may stands)

-- it stands by what is shown alone
pub shown_stands : (service : Service) (log : Log) (a b : Router) → shown b ≡ shown a → StandsFor service log a → StandsFor service log b
shown_stands service log a b same stands = subst (λ (s : Shown). StandsBy service log (tables_in s) s) (sym same) stands
