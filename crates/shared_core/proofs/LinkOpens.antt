-- A link to a server is opened.
use Rattle.std.specs.Prelude.{◌≡◌, ℕ, Bool, List, Option, Some, Result, Ok, Err, OnOk}
use Rattle.std.proofs.Common.{refl, ap, ◌∙◌, subst}
use Rattle.std.proofs.lemmas.Option.{same_Some}
use Rattle.core_policy.specs.declared.asks.Asked.{Asked}
use Rattle.mx_base.specs.declared.names.Address.{Address}
use Rattle.mx_base.specs.declared.names.LinkId.{LinkId}
use Rattle.mx_base.specs.declared.names.ServerId.{ServerId}
use Rattle.mx_wire.specs.Log.{Log}
use Rattle.mx_wire.specs.Tells.{MayFollow}
use Rattle.mx_wire.specs.declared.entry.Entry.TheVariants as entry
use Rattle.private_model.specs.Names.{ClientNo}
use Rattle.server_side.specs.Account.{Account}
use Rattle.served_link.specs.declared.row.Opening.{Opening}
use Rattle.core_service.specs.declared.service.Service.{Service}
use Rattle.core_tables.specs.Tables.{IsSame, Tabled}
use Rattle.core_tables.specs.Writing.{opened}
use Rattle.router_laws.specs.decisions.Routers.{IsRouter}
use Rattle.core_laws.specs.entry.Cores.{with_entry}
use Rattle.router_laws.specs.links.Opens.{OpensSo}
use Rattle.core_texts.specs.declared.texts.Texts.{Texts}
use Rattle.core_texts.specs.Texts.{AreMore}
use Rattle.core_promises.specs.Administers.{Administered}
use Rattle.shared_core.proofs.Carrying.{carries_by, worked_same}
use Rattle.shared_core.specs.Links.{HasOpened}
use Rattle.shared_core.specs.Follows.{Keeps}
use Rattle.shared_core.specs.Stands.{Carries, Shown, shown, tables, tables_in, work_of, worked}
use Rattle.shared_core.specs.declared.router.Router.{Router}

pub has_opened : (l : LinkId) (server : ServerId) (slot : ℕ) (opening : Opening) (login : Account) (moment : ℕ) (old new : Tabled)
    → IsSame new (opened l slot opening login moment old) → opening.server ≡ server → HasOpened l server old new
has_opened l server slot opening login moment old new same to = record {
  login = login;
  so = record { slot = slot; opening = opening; moment = moment; to = to; same = same };
}

abbrev pub Opens : Type 0
Opens = (service : Service) (texts : Texts) (admin : Administered) (log : Log) (t now : Tabled) (roomy : ClientNo → Bool) (server : ServerId) (address : Address)
    (l : LinkId) (login : Account) → IsRouter service texts admin log t roomy → MayFollow log (entry.Opened server address l)
    → OpensSo l server login t now → IsRouter service texts admin (with_entry log (entry.Opened server address l)) now roomy

pub opened_carries : Opens → (service : Service) (server : ServerId) (address : Address) (l : LinkId) (old new : Router)
    → new.roomy ≡ old.roomy → new.came ≡ old.came → AreMore old.texts new.texts → work_of new ≡ work_of old → HasOpened l server (tables old) (tables new)
    → Carries service (entry.Opened server address l) old new
opened_carries law service server address l old new roomy came more work has =
    carries_by service old new roomy came more (entry.Opened server address l) (refl, λ moment. refl)
    (λ log may router. worked_same service new.texts (with_entry log (entry.Opened server address l)) (tables new) _ old new work
    (law service new.texts (worked service (work_of old)) log (tables old) (tables new) _ server address l has.login router may has.so))

ok_both : {T E : Type 0} (r : Result T E) {A B C : Type 0} → (A → B → C) → OnOk r A → OnOk r B → OnOk r C
ok_both (Ok x) f a b = f a b
ok_both (Err x) f a b = tt

some_asked : (was : Option Asked) (found asked : Asked) → Some found ≡ was → was ≡ Some asked → found ≡ asked
some_asked was found asked first next = same_Some found asked (first ∙ next)

pub opened_so : {T E : Type 0} → Opens → (service : Service) (l : LinkId) (was : Option Asked) (found : Asked) (old mid new : Router) (result : Result T E)
    → Some found ≡ was → shown mid ≡ shown old → OnOk result (HasOpened l found.server (tables mid) (tables new)) → OnOk result (Keeps mid new)
    → OnOk result ((asked : Asked) → was ≡ Some asked → Carries service (entry.Opened asked.server asked.address l) old new)
opened_so law service l was found old mid new result taken same has keeps =
    ok_both result
    (λ has keeps asked some.
    subst (λ (a : Asked). Carries service (entry.Opened a.server a.address l) old new) (some_asked was found asked taken some)
    (opened_carries law service found.server found.address l old new (keeps.roomy ∙ ap (λ (s : Shown). s.roomy) same)
    (keeps.came ∙ ap (λ (s : Shown). s.came) same) (subst (λ (k : Texts). AreMore k new.texts) (ap (λ (s : Shown). s.texts) same) keeps.texts)
    (keeps.work ∙ ap (λ (s : Shown). s.work) same)
    (subst (λ (s : Shown). HasOpened l found.server (tables_in s) (tables new)) same has))) has keeps
