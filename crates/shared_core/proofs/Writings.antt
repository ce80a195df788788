use Rattle.shared_core.proofs.Carrying.{worked_same}
-- Bytes are written to a client.
use Rattle.std.specs.Prelude.{◌≡◌, ◌≤◌, ℕ, Bool, true, false, nat_lt, if◌then◌else◌, is_some, length, take, List, [], ◌∷◌, Option, Some, None}
use Rattle.std.specs.Option.{option_copied, option_map_or}
use Rattle.std.proofs.Common.{Bor, refl, sym, ap, ◌∙◌, subst, append-nil}
use Rattle.std.proofs.lemmas.Bool.{false≢true}
use Rattle.std.proofs.lemmas.List.Elements.{filter_map-append}
use Rattle.std.proofs.lemmas.Option.{none-some}
use Rattle.mx_base.specs.Sent.{MayTake, Sent}
use Rattle.mx_base.specs.declared.tag.Tag.{Tag}
use Rattle.mx_base.specs.declared.tag.Tag.TheVariants as tags
use Rattle.mx_wire.specs.Log.{Log, accepted_link, accepted_links}
use Rattle.mx_wire.specs.Tells.{MayFollow}
use Rattle.mx_wire.specs.declared.entry.Entry.TheVariants.{Wrote}
use Rattle.private_model.specs.Names.{ClientNo, LinkId}
use Rattle.core_service.specs.declared.service.Service.{Service}
use Rattle.core_says.specs.Says.{is_clients, sends_by, sends_in}
use Rattle.core_tables.specs.Arrivals.{due_in, written_to}
use Rattle.core_tables.specs.Passing as passing
use Rattle.core_tables.specs.Tables.{IsSame, Tabled, tables_of}
use Rattle.core_tables.specs.declared.client.Client.{Client}
use Rattle.core_tables.specs.declared.server.Server.{Server}
use Rattle.link_marks.specs.Marks.{is_known}
use Rattle.marked_tables.specs.Goes.{sends_on}
use Rattle.marked_tables.specs.declared.marked.MarkedTables.{MarkedTables}
use Rattle.core_laws.specs.entry.Cores.{with_entry}
use Rattle.router_laws.specs.clients.Writes.{WroteSo}
use Rattle.router_laws.specs.decisions.Routers.{IsRouter}
use Rattle.core_texts.specs.declared.texts.Texts.{Texts}
use Rattle.core_promises.specs.Administers.{Administered}
use Rattle.shared_core.proofs.Coming.{come_as, come_on}
use Rattle.shared_core.specs.Rooms.{IsRoomyAfter}
use Rattle.shared_core.specs.Stands.{Carries, is_roomy, tables, work_of, worked}
use Rattle.shared_core.specs.declared.router.Router.{Router}

some_if : {A : Type 0} (b : Bool) (x : Option A) (y : A) → (if b then x else None) ≡ Some y → x ≡ Some y
some_if true x y is = is
some_if false x y is = let both : None ≡ Some y = is in absurd (cc)

-- What is due to a client is sent on its link, where that is none to a server.

pub record IsSentTo (t : Tabled) (c : ClientNo) (sent : Sent) : Type 0 where
  pub row : Client
  pub there : t.clients c ≡ Some row
  pub bytes : sent.bytes ≡ row.desk.seat.outbox.due

module _ (m : MarkedTables) (link : LinkId) (c : ClientNo) (none : (tables_of m.tables).links link ≡ None)
    (numbered : (tables_of m.tables).numbers link ≡ Some c) where
  abbrev t : Tabled
  t = tables_of m.tables

  module _ (sent : Sent) (sends : sends_on m link ≡ Some sent) where
    lent : passing.sends link t ≡ Some sent
    lent =
        some_if (is_clients t link (t.numbers link)) (passing.sends link t) sent
        (sym (ap (λ (s : Option Server). sends_by s t link) none) ∙ some_if (is_known m.changed link) (sends_in t link) sent sends)

    due_sent : option_map_or (λ (client : Client). passing.as_reply client.desk.seat.outbox.due) (t.clients c) None ≡ Some sent
    due_sent =
        sym (ap (λ (s : Option Server). passing.sends_by s link t) none
        ∙ ap (λ (n : Option ClientNo). option_map_or
        (λ (k : ClientNo). option_map_or (λ (client : Client). passing.as_reply client.desk.seat.outbox.due) (t.clients k) None) n None) numbered)
        ∙ lent

    replied : (due : List ℕ) → passing.as_reply due ≡ Some sent → sent.bytes ≡ due
    replied due is = by (nat_lt 0 (length due)) is where
      by : (b : Bool) → (if b then Some (record { tag = tags.Reply; bytes = due }) else None) ≡ Some sent → sent.bytes ≡ due
      by true has = let same : record { tag = tags.Reply; bytes = due } ≡ sent = cc in sym (ap (λ (s : Sent). s.bytes) same)
      by false has = let both : None ≡ Some sent = has in absurd (cc)

    pub sent_to : IsSentTo t c sent
    sent_to = by (t.clients c) refl due_sent where
      by : (row : Option Client) → t.clients c ≡ row
          → option_map_or (λ (client : Client). passing.as_reply client.desk.seat.outbox.due) row None ≡ Some sent → IsSentTo t c sent
      by None there is = let both : None ≡ Some sent = is in absurd (cc)
      by (Some row) there is = record { row = row; there = there; bytes = replied row.desk.seat.outbox.due is }

  -- no more of it is written
  pub few_of : (n : ℕ) → MayTake (sends_on m link) n → n ≤ length (due_in (t.clients c))
  few_of n may = by (sends_on m link) refl may where
    by : (found : Option Sent) → sends_on m link ≡ found → MayTake found n → n ≤ length (due_in (t.clients c))
    by None is takes = absurd takes
    by (Some sent) is takes =
        let to : IsSentTo t c sent = sent_to sent is in
        subst (λ (row : Option Client). n ≤ length (due_in row)) (sym to.there) (subst (λ (bytes : List ℕ). n ≤ length bytes) to.bytes takes)

-- no link to a server is there
pub no_server : (found : Option (Bor Server)) (row : Option Server) → option_copied found ≡ row → false ≡ is_some found → row ≡ None
no_server None row is none = sym is
no_server (Some server) row is none = absurd (false≢true none)

-- On a link that is nobody's nothing is sent.
pub none_sent : (m : MarkedTables) (link : LinkId) → (tables_of m.tables).links link ≡ None → (tables_of m.tables).numbers link ≡ None
    → (sent : Sent) → sends_on m link ≡ Some sent → ⊥
none_sent m link none unnumbered sent sends =
    let t : Tabled = tables_of m.tables in
    none-some sent
    (sym (ap (λ (c : Option ClientNo). if is_clients t link c then passing.sends link t else None) unnumbered)
    ∙ (sym (ap (λ (s : Option Server). sends_by s t link) none) ∙ some_if (is_known m.changed link) (sends_in t link) sent sends))

-- What router_laws says of it.
abbrev pub ClientWrites : Type 0
ClientWrites =
    (service : Service) (texts : Texts) (admin : Administered) (log : Log) (t now : Tabled) (roomy room : ClientNo → Bool) (link : LinkId) (tag : Tag) (bytes : List ℕ)
    (count : ℕ) (c : ClientNo) → IsRouter service texts admin log t roomy → MayFollow log (Wrote link tag bytes)
    → WroteSo link bytes count c roomy room t now → IsRouter service texts admin (with_entry log (Wrote link tag bytes)) now room

pub client_carried : ClientWrites → (service : Service) (old new : Router) (link : LinkId) (c : ClientNo) (n : ℕ)
    → (tables old).links link ≡ None → (tables old).numbers link ≡ Some c → MayTake (sends_on old.marked link) n
    → IsSame (tables new) (written_to c n (tables old)) → IsRoomyAfter c n old new → new.came ≡ old.came → new.texts ≡ old.texts → work_of new ≡ work_of old
    → (sent : Sent) → sends_on old.marked link ≡ Some sent → Carries service (Wrote link sent.tag (take n sent.bytes)) old new
client_carried law service old new link c n none numbered may same room came texts work sent sends log follows stands =
    let to : IsSentTo (tables old) c sent = sent_to old.marked link c none numbered sent sends in
    let few : n ≤ length (due_in ((tables old).clients c)) = few_of old.marked link c none numbered n may in
    record {
      router = subst (λ (k : Texts). IsRouter service k (worked service (work_of new)) (with_entry log (Wrote link sent.tag (take n sent.bytes))) (tables new) (is_roomy new.roomy)) (sym texts)
          (worked_same service old.texts (with_entry log (Wrote link sent.tag (take n sent.bytes))) (tables new) (is_roomy new.roomy) old new work
          (law service old.texts (worked service (work_of old)) log (tables old) (tables new) (is_roomy old.roomy) (is_roomy new.roomy) link sent.tag
          (take n sent.bytes) n c stands.router follows
          (record {
            row = to.row;
            its = record { numbered = numbered; there = to.there };
            few = subst (λ (row : Option Client). n ≤ length (due_in row)) to.there few;
            front = ap (take n) to.bytes;
            roomy_then = room to.row to.there;
            same = same;
          })));
      counted = come_as (with_entry log (Wrote link sent.tag (take n sent.bytes))) old.came new.came came
          (come_on log (Wrote link sent.tag (take n sent.bytes) ∷ []) old.came (refl, λ moment. refl) stands.counted);
    }
