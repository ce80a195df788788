-- Bytes are written on a link to a server.
use Rattle.std.specs.Prelude.{◌≡◌, ◌<◌, ◌&&◌, not, ℕ, zero, suc, Bool, true, false, if◌then◌else◌, length, take, List, IsSome, Option, Some, None}
use Rattle.std.proofs.Common.{refl, sym, ap, ◌∙◌, subst, arith}
use Rattle.std.proofs.lemmas.Bool.{false≢true}
use Rattle.std.proofs.lemmas.Option.{none-some}
use Rattle.mx_base.specs.Sent.{MayTake, Sent}
use Rattle.mx_base.specs.declared.names.LinkId.{LinkId}
use Rattle.link_marks.specs.Marks.{is_known}
use Rattle.lent_link.specs.Links.{left_in}
use Rattle.mx_wire.specs.Log.{Log}
use Rattle.mx_wire.specs.Tells.{MayFollow}
use Rattle.mx_wire.specs.declared.entry.Entry.TheVariants as entry
use Rattle.private_model.specs.Names.{ClientNo}
use Rattle.core_service.specs.declared.service.Service.{Service}
use Rattle.router_laws.specs.decisions.Routers.{IsRouter}
use Rattle.core_laws.specs.entry.Cores.{with_entry}
use Rattle.router_laws.specs.links.Writes.{WritesSo}
use Rattle.router_laws.specs.wakes.Settling.{Settles}
use Rattle.core_texts.specs.declared.texts.Texts.{Texts}
use Rattle.core_promises.specs.Administers.{Administered}
use Rattle.shared_core.proofs.Carrying.{carries_by, stays_by, texts_more, worked_same}
use Rattle.shared_core.specs.Stands.{Carries, SettlesSo, StandsFor, is_roomy, tables, work_of, worked}
use Rattle.shared_core.specs.declared.router.Router.{Router}
use Rattle.core_says.specs.Says.{begins_for, is_named, is_sound, sends_in}
use Rattle.core_says.specs.Says as says
use Rattle.core_tables.specs.Passing.{sends}
use Rattle.core_tables.specs.Passing as passing
use Rattle.core_tables.specs.Tables.{IsSame, Tabled, tables_of}
use Rattle.core_tables.specs.Writing.{IsWritable, IsWritableOf, wrote_on}
use Rattle.core_tables.specs.declared.server.Server.{Server}
use Rattle.marked_tables.specs.Goes.{sends_on}
use Rattle.marked_tables.specs.declared.marked.MarkedTables.{MarkedTables}

if_some : {A : Type 0} (b : Bool) (value : Option A) (a : A) → (if b then value else None) ≡ Some a → (b ≡ true) × (value ≡ Some a)
if_some true value a is = (refl, is)
if_some false value a is = absurd (none-some a is)

both : (a b : Bool) → (a && b) ≡ true → (a ≡ true) × (b ≡ true)
both true b is = (refl, is)
both false b is = absurd (false≢true is)

not_of : (a : Bool) → not a ≡ true → a ≡ false
not_of false is = refl
not_of true is = absurd (false≢true is)

-- What is lent on a link to a server is lent by its row, which is sound.

pub record IsLent (marked : MarkedTables) (l : LinkId) (sent : Sent) : Type 0 where
  pub server : Server
  pub there : (tables_of marked.tables).links l ≡ Some server
  pub lent : sends l (tables_of marked.tables) ≡ Some sent
  pub well : server.row.link.spoilt ≡ false
  pub left : left_in server.row.link ≡ Some sent

module _ (marked : MarkedTables) (l : LinkId) (sent : Sent) (is : sends_on marked l ≡ Some sent) where
  abbrev t : Tabled
  t = tables_of marked.tables

  said : sends_in t l ≡ Some sent
  said = (if_some (is_known marked.changed l) (sends_in t l) sent is).1

  by_row : (server : Server) → t.links l ≡ Some server → IsLent marked l sent
  by_row server there =
      let by : says.sends_by (Some server) t l ≡ Some sent = ap (λ (found : Option Server). says.sends_by found t l) (sym there) ∙ said in
      let cleft = if_some (is_sound server.row && is_named t l (begins_for server.row.link.next)) (sends l t) sent by in
      let sound = both (is_sound server.row) (is_named t l (begins_for server.row.link.next)) cleft.0 in
      let parts = both (not server.row.lost) (not server.row.link.spoilt) sound.0 in
      record {
        server = server;
        there = there;
        lent = cleft.1;
        well = not_of server.row.link.spoilt parts.1;
        left = (if_some (passing.passes l t) (left_in server.row.link) sent
            (ap (λ (found : Option Server). passing.sends_by found l t) (sym there) ∙ cleft.1)).1;
      }

  by_found : (found : Option Server) → t.links l ≡ found → IsSome found → IsLent marked l sent
  by_found None at some = absurd (false≢true some)
  by_found (Some server) at some = by_row server at

  pub is_lent : IsSome (t.links l) → IsLent marked l sent
  is_lent some = by_found (t.links l) refl some

-- so many of it may be taken
writable_by : (marked : MarkedTables) (l : LinkId) (n : ℕ) → IsSome ((tables_of marked.tables).links l) → (found : Option Sent) → sends_on marked l ≡ found
    → MayTake found n → IsWritable l n (tables_of marked.tables)
writable_by marked l n some None at may = absurd may
writable_by marked l n some (Some sent) at may =
    let lent : IsLent marked l sent = is_lent marked l sent at some in
    subst (λ (found : Option Server). IsWritableOf found n) (sym lent.there) (subst (λ (left : Option Sent). MayTake left n) (sym lent.left) may)

pub is_writable : (marked : MarkedTables) (l : LinkId) (n : ℕ) → IsSome ((tables_of marked.tables).links l) → MayTake (sends_on marked l) n
    → IsWritable l n (tables_of marked.tables)
is_writable marked l n some may = writable_by marked l n some (sends_on marked l) refl may

-- The router goes on.

abbrev pub Writes : Type 0
Writes = (service : Service) (texts : Texts) (admin : Administered) (log : Log) (t now : Tabled) (roomy : ClientNo → Bool) (l : LinkId) (offer : Sent) (count : ℕ)
    → IsRouter service texts admin log t roomy → MayFollow log (entry.Wrote l offer.tag (take count offer.bytes)) → WritesSo l offer count t now
    → IsRouter service texts admin (with_entry log (entry.Wrote l offer.tag (take count offer.bytes))) now roomy

abbrev pub SettlesBy : Type 0
SettlesBy = (service : Service) (texts : Texts) (admin : Administered) (log : Log) (t now : Tabled) (roomy : ClientNo → Bool) → IsRouter service texts admin log t roomy
    → Settles texts t now → IsRouter service texts admin log now roomy

some_of : (n : ℕ) (xs : List ℕ) → 0 < length (take n xs) → 0 < n
some_of zero xs some = absurd (none_less some) where
  none_less : 0 < 0 → ⊥
  none_less is = omega (arith, is)
some_of (suc n) xs some = omega arith

module _ (law : Writes) (service : Service) (l : LinkId) (n : ℕ) (old new : Router) (roomy : new.roomy ≡ old.roomy) (came : new.came ≡ old.came)
    (texts : new.texts ≡ old.texts) (work : work_of new ≡ work_of old) (some : IsSome ((tables old).links l)) (may_take : MayTake (sends_on old.marked l) n) (moment : ℕ)
    (same : IsSame (tables new) (wrote_on l n moment (tables old))) where
  pub wrote_carries : (sent : Sent) → sends_on old.marked l ≡ Some sent → Carries service (entry.Wrote l sent.tag (take n sent.bytes)) old new
  wrote_carries sent is =
      let lent : IsLent old.marked l sent = is_lent old.marked l sent is some in
      carries_by service old new roomy came (texts_more old.texts new.texts texts) (entry.Wrote l sent.tag (take n sent.bytes)) (refl, λ moment. refl)
      (λ log may router. worked_same service new.texts (with_entry log (entry.Wrote l sent.tag (take n sent.bytes))) (tables new) _ old new work
      (law service new.texts (worked service (work_of old)) log (tables old) (tables new) _ l sent n router may (record {
        server = lent.server;
        there = lent.there;
        lent = lent.lent;
        well = λ out. lent.well;
        some = some_of n sent.bytes may.fits.some;
        most = subst (λ (found : Option Sent). MayTake found n) is may_take;
        moment = moment;
        same = same;
      })))

pub settles_stands : SettlesBy → (service : Service) (old new : Router) → SettlesSo old new → (log : Log) → StandsFor service log old → StandsFor service log new
settles_stands law service old new so log stands =
    stays_by service old new so.roomy so.came (texts_more old.texts new.texts so.texts) so.work log
    (λ router. law service new.texts (worked service (work_of old)) log (tables old) (tables new) (is_roomy old.roomy) router
    (subst (λ (k : Texts). Settles k (tables old) (tables new)) (sym so.texts) so.settles)) stands
