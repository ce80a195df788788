-- What clients have in work is noted.
use Rattle.std.specs.Prelude.{◌≡◌, ℕ, Bool, IfSome, nat_eq, if◌then◌else◌, Option, Some, None}
use Rattle.std.specs.Option.{option_and_then}
use Rattle.std.proofs.Common.{refl, sym, ap, ◌∙◌, subst}
use Rattle.mx_wire.specs.Log.{Log, moment_of}
use Rattle.core_promises.specs.Administers.{Administered}
use Rattle.core_service.specs.declared.service.Service.{Service}
use Rattle.private_model.specs.Names.{ClientNo}
use Rattle.client_desk.specs.declared.work.Work.{Work}
use Rattle.core_tables.specs.Tables.{Tabled}
use Rattle.core_tables.specs.declared.client.Client.{Client}
use Rattle.core_texts.specs.Texts.{key_at, noted_at}
use Rattle.core_texts.specs.declared.noted.Noted.{Noted}
use Rattle.core_texts.specs.declared.texts.Texts.{Texts}
use Rattle.marked_tables.proofs.Going.{goes_along, still_goes}
use Rattle.marked_tables.specs.Goes.{GoesOn}
use Rattle.marked_tables.specs.declared.marked.MarkedTables.{MarkedTables}
use Rattle.router_laws.specs.decisions.Noted.{IsInWork, IsNotedOf, WasNoted}
use Rattle.router_laws.specs.decisions.Routers.{IsRouter}
use Rattle.shared_core.proofs.Carrying.{shown_stands}
use Rattle.shared_core.specs.Noted.{HasNoted, IsNotedBy}
use Rattle.shared_core.specs.Rows.{work_at}
use Rattle.shared_core.specs.Stands.{Shown, is_roomy, shown, tables, work_of, worked}
use Rattle.shared_core.specs.declared.router.Router.{Router}

pub in_work-so : (c : ClientNo) (t : Tabled) (work : Work) → Some work ≡ work_at c t → IsInWork c work.ordinal t
in_work-so c t work at = by (t.clients c) refl (sym at) where
  by : (found : Option Client) → t.clients c ≡ found → option_and_then (λ (row : Client). row.desk.work) found ≡ Some work → IsInWork c work.ordinal t
  by None there is = absurd (let e = is in cc)
  by (Some row) there is = record { row = row; there = there; work = work; in_work = is; its = refl }

noted-so : (texts : Texts) (t : Tabled) (c : ClientNo) (ordinal since : ℕ) (one : Noted) → IsInWork c ordinal t → Some one ≡ noted_at texts c
    → IsNotedBy one ordinal since → WasNoted (noted_at texts) t c since
noted-so texts t c ordinal since one works at by =
    record { one = one; noted = sym at; in_work = subst (λ (k : ℕ). IsInWork c k t) (sym by.place) works; its = by.moment }

pub noted-all : (texts : Texts) (t : Tabled) (c : ClientNo) (ordinal : ℕ) (one : Noted) → IsInWork c ordinal t → Some one ≡ noted_at texts c
    → (found : Option ℕ) → IfSome found (λ (since : ℕ). IsNotedBy one ordinal since) → IfSome found (λ (since : ℕ). WasNoted (noted_at texts) t c since)
noted-all texts t c ordinal one works at None by = tt
noted-all texts t c ordinal one works at (Some since) by = noted-so texts t c ordinal since one works at by

-- The router stands for what it stood for.

pub noted_none : (r : Router) → HasNoted r r
noted_none r = record { stands = λ service log was. was; moves = record { goes = still_goes r.marked; client = refl; link = refl } }

pub noted_along : (a b d : Router) → HasNoted a b → HasNoted b d → HasNoted a d
noted_along a b d first next = record {
  stands = λ service log was. next.stands service log (first.stands service log was);
  moves = record {
    goes = goes_along a.marked b.marked d.marked first.moves.goes next.moves.goes;
    client = next.moves.client ∙ first.moves.client;
    link = next.moves.link ∙ first.moves.link;
  };
}

-- by what is shown alone
pub noted_from : (a b d : Router) → shown b ≡ shown a → HasNoted b d → HasNoted a d
noted_from a b d same has = record {
  stands = λ service log was. has.stands service log (shown_stands service log a b same was);
  moves = record {
    goes = subst (λ (m : MarkedTables). GoesOn m d.marked) (ap (λ (s : Shown). s.marked) same) has.moves.goes;
    client = has.moves.client ∙ ap (λ (s : Shown). s.leaving) same;
    link = has.moves.link ∙ ap (λ (s : Shown). s.closing) same;
  };
}

abbrev pub NotesRouters : Type 0
NotesRouters = (service : Service) (old new : Texts) (admin : Administered) (log : Log) (t : Tabled) (roomy : ClientNo → Bool) (c : ClientNo) (one : Noted)
    → IsRouter service old admin log t roomy → IsNotedOf c one old new → IsInWork c one.ordinal t → one.by_ms ≡ moment_of log
    → IsRouter service new admin log t roomy

pub noted_now : NotesRouters → (r : Router) (texts : Texts) (c : ClientNo) (ordinal : ℕ) → IsInWork c ordinal (tables r) → texts.last ≡ r.texts.last
    → ((number : ℕ) → key_at texts number ≡ key_at r.texts number)
    → ((d : ClientNo) → noted_at texts d
    ≡ (if nat_eq c.0 d.0 then Some (record { ordinal = ordinal; by_ms = r.came.clock }) else noted_at r.texts d))
    → HasNoted r (record r { texts = texts })
noted_now law r texts c ordinal works last same noted = record {
  stands = λ service log was. record {
    router = law service r.texts texts (worked service (work_of r)) log (tables r) (is_roomy r.roomy) c (record { ordinal = ordinal; by_ms = r.came.clock })
        was.router
        (record { last = last; same = same; noted = noted }) works was.counted.clock;
    counted = was.counted;
  };
  moves = record { goes = still_goes r.marked; client = refl; link = refl };
}
