use Rattle.shared_core.proofs.Clients.{settled_rules}
-- Bytes come on a link to a server: what the router makes of that carries it over the entry.
use Rattle.std.specs.Prelude.{◌≡◌, ◌&&◌, ℕ, Bool, true, false, not, IfSome, IsSome, List, Option, Some, None}
use Rattle.std.specs.Option.{option_map}
use Rattle.std.proofs.Common.{refl, sym, ap, ◌∙◌, subst}
use Rattle.std.proofs.lemmas.Bool.{false≢true}
use Rattle.std.proofs.lemmas.Option.{none-some, same_Some}
use Rattle.mx_base.specs.Fields.{AreBytes}
use Rattle.mx_base.specs.declared.names.ClientNo.{ClientNo}
use Rattle.mx_base.specs.declared.names.LinkId.{LinkId}
use Rattle.mx_wire.specs.Log.{Log}
use Rattle.mx_wire.specs.Tells.{MayFollow}
use Rattle.mx_wire.specs.declared.entry.Entry.TheVariants as entry
use Rattle.client_session.specs.Setups.{Setup}
use Rattle.session_state.specs.declared.names.SessionName.{SessionName}
use Rattle.core_policy.specs.declared.verdict.GiveUp.{GiveUp}
use Rattle.core_says.specs.Says.{is_free, is_sound, reads_by}
use Rattle.core_service.specs.Serves.{rules_in}
use Rattle.core_service.specs.declared.service.Service.{Service}
use Rattle.core_tables.specs.Hearing.{IsHeard}
use Rattle.core_tables.specs.Parting.{freed_in, given_up_in, name_in}
use Rattle.core_tables.specs.Preparing.{IsKeptFor}
use Rattle.core_tables.specs.Tables.{IsSame, Tabled}
use Rattle.core_tables.specs.declared.said.Said.{Said}
use Rattle.core_tables.specs.declared.server.Server.{Server}
use Rattle.link_marks.specs.Marks.{is_known}
use Rattle.marked_tables.specs.Goes.{reads_on}
use Rattle.marked_tables.specs.Marking.{carried_at}
use Rattle.core_laws.specs.clients.Going.{GivenUp, GoesSo, Going, IsCalled, is_going, told_to}
use Rattle.router_laws.specs.decisions.Held.{AreHeldSince}
use Rattle.router_laws.specs.decisions.Routers.{IsRouter}
use Rattle.core_laws.specs.entry.Cores.{with_entry}
use Rattle.router_laws.specs.reading.Givings.{MayGiveUp}
use Rattle.router_laws.specs.reading.Givings.{MayBeGivenUp}
use Rattle.core_promises.specs.Ruled.{Ruling, ruling_of}
use Rattle.router_laws.specs.decisions.Rulings.{IsRuledOn}
use Rattle.router_laws.specs.decisions.Speaks.{AreGivenOurs, AreGoingOurs}
use Rattle.router_laws.specs.reading.Hears.{HearsRuled, HearsSo}
use Rattle.core_texts.specs.declared.texts.Texts.{Texts}
use Rattle.core_texts.specs.Texts.{HasBegun, key_at}
use Rattle.router_laws.specs.decisions.Causes.{IsHeardFor}
use Rattle.router_laws.specs.decisions.Partings.{IsGoingParted}
use Rattle.core_promises.specs.Administers.{Administered}
use Rattle.shared_core.proofs.Carrying.{carries_since}
use Rattle.shared_core.proofs.Causing.{heard_for}
use Rattle.shared_core.proofs.Partings.{parted-for}
use Rattle.shared_core.specs.Follows.{HasCalled, HasGiven, IsFor, Keeps, KeepsBut, MayBeGiven, made_by, ruling_in, told_client, up_client}
use Rattle.shared_core.specs.Hears.{HasHeard}
use Rattle.shared_core.specs.Stands.{Carries, IsSettled, is_roomy, tables, work_of, worked}
use Rattle.shared_core.specs.declared.router.Router.{Router}

-- The laws by which it goes.

abbrev pub Hears : Type 0
Hears =
    (ruling : Ruling) (service : Setup) (default : List ℕ) (l : LinkId) (bytes : List ℕ) (clock : ℕ) (given : Option GivenUp) (going : Option Going)
    (server : Server) (said : Said) (old read heard mid freed now : Tabled) → old.links l ≡ Some server → server.row.lost ≡ false
    → server.row.link.spoilt ≡ false → IsHeard l bytes clock said read old → IsKeptFor said l read heard
    → MayGiveUp l given heard
    → IsSame mid (given_up_in (told_to given) heard) → IsSame freed (freed_in l mid)
    → IsCalled (name_in server.row.link.state.carries) given freed (option_map (λ (g : Going). g.client) going)
    → (goes : GoesSo going service default freed now) → IsRuledOn ruling going service default freed now goes
    → HearsRuled ruling service default l bytes clock given going old now

abbrev pub StillGoes : Type 0
StillGoes =
    (l : LinkId) (given : Option GivenUp) (heard mid freed : Tabled) (c : ClientNo) → IsSame mid (given_up_in (told_to given) heard)
    → IsSame freed (freed_in l mid) → is_going (freed.clients c) ≡ is_going (heard.clients c)

abbrev pub Routes : Type 0
Routes =
    (service : Service) (texts : Texts) (admin is : Administered) (log : Log) (t now : Tabled) (roomy : ClientNo → Bool) (l : LinkId) (bytes : List ℕ) (clock : ℕ)
    (given : Option GivenUp) (going : Option Going) → (router : IsRouter service texts admin log t roomy) → MayFollow log (entry.Got l bytes)
    → AreBytes bytes → (so : HearsSo service.setup service.default_schema l bytes clock given going t now) → AreGivenOurs given
    → AreGoingOurs (rules_in service) texts going
    → IsRuledOn (ruling_of service texts.since (key_at texts) admin is) going service.setup service.default_schema so.freed now so.goes → IsHeardFor l t given
    → IsGoingParted service.buffer_budget l t going
    → AreHeldSince texts service.default_schema router.core.decided log
    → admin.rules ≡ rules_in service → IsRouter service texts is (with_entry log (entry.Got l bytes)) now roomy

-- What is given up may be, and who is called for that goes on still.

may_of : (link : LinkId) (name : Option SessionName) (heard : Tabled) (told : Option GivenUp) (given : Option GiveUp) → told_client told ≡ up_client given
    → IfSome given (λ up. MayBeGiven link name up heard) → MayGiveUp link told heard
may_of link name heard None given its may = tt
may_of link name heard (Some up) None its may = absurd (none-some up.client (sym its))
may_of link name heard (Some up) (Some give) its may =
    subst (λ (c : ClientNo). MayBeGivenUp link c heard) (sym (same_Some up.client give.client its)) may.may

pub its_then : (name : Option SessionName) (c : ClientNo) (heard freed : Tabled) → is_going (freed.clients c) ≡ is_going (heard.clients c)
    → IsFor name c heard → IsFor name c freed
its_then None c heard freed still is = still ∙ is
its_then (Some n) c heard freed still is = is

for_then : (link : LinkId) (name : Option SessionName) (heard freed : Tabled) (given : Option GiveUp)
    → ((c : ClientNo) → is_going (freed.clients c) ≡ is_going (heard.clients c)) → IfSome given (λ up. MayBeGiven link name up heard)
    → IfSome given (λ up. IsFor name up.client freed)
for_then link name heard freed None still may = tt
for_then link name heard freed (Some up) still may = its_then name up.client heard freed (still up.client) may.its

-- The link is neither lost nor spoilt, as it is read.

both : (a b : Bool) → (a && b) ≡ true → (a ≡ true) × (b ≡ true)
both true b is = (refl, is)
both false b is = absurd (false≢true is)

unlike : (b : Bool) → not b ≡ true → b ≡ false
unlike false is = refl
unlike true is = absurd (false≢true is)

server_of : (found : Option Server) → IsSome found → (server : Server) × (found ≡ Some server)
server_of None some = absurd (false≢true some)
server_of (Some server) some = (server, refl)

-- All of it.
pub heard_so : Hears → StillGoes → (service : Service) (link : LinkId) (bytes : List ℕ) (old new : Router) (name : Option SessionName) (said : Said)
    (given : Option GiveUp) (read heard mid freed : Tabled) → name ≡ carried_at ((tables old).links link)
    → IsHeard link bytes old.came.clock said read (tables old) → IsKeptFor said link read heard → IfSome given (λ up. MayBeGiven link name up heard) → HasGiven given heard mid
    → IsSame freed (freed_in link mid)
    → ((told : Option GivenUp) → told_client told ≡ up_client given → IfSome given (λ up. IsFor name up.client freed)
    → HasCalled service (made_by service old new) name told freed (tables new)) → IsSome ((tables old).links link) → reads_on old.marked link ≡ true
    → HasHeard service link bytes old new
heard_so hears still service link bytes old new name said given read_table heard mid freed carried is kept may gives frees calls there reads =
    let at : (server : Server) × ((tables old).links link ≡ Some server) = server_of ((tables old).links link) there in
    let read : reads_by (Some at.0) (tables old) link ≡ true =
    ap (λ (found : Option Server). reads_by found (tables old) link) (sym at.1) ∙ (both (is_known old.marked.changed link) _ reads).1 in
    let sound : is_sound at.0.row ≡ true = (both (is_sound at.0.row) (is_free (tables old) link (name_in at.0.row.link.state.carries)) read).0 in
    let two : (not at.0.row.lost ≡ true) × (not at.0.row.link.spoilt ≡ true) = both (not at.0.row.lost) (not at.0.row.link.spoilt) sound in
    let goes_on : HasCalled service (made_by service old new) name gives.told freed (tables new) =
    calls gives.told gives.its (for_then link name heard freed given (λ c. still link gives.told heard mid freed c gives.same frees) may) in
    let named : name ≡ name_in at.0.row.link.state.carries = carried ∙ ap carried_at at.1 in
    let all : HearsRuled (ruling_in service (made_by service old new)) service.setup service.default_schema link bytes old.came.clock gives.told goes_on.going (tables old)
    (tables new) =
    hears (ruling_in service (made_by service old new)) service.setup service.default_schema link bytes old.came.clock gives.told goes_on.going at.0 said (tables old) read_table heard mid
    freed (tables new) at.1 (unlike at.0.row.lost two.0) (unlike at.0.row.link.spoilt two.1) is kept (may_of link name heard gives.told given gives.its may)
    gives.same frees
    (subst (λ (n : Option SessionName). IsCalled n gives.told freed (option_map (λ (g : Going). g.client) goes_on.going)) named goes_on.called)
    goes_on.goes goes_on.ruled in
    record {
      given = gives.told;
      going = goes_on.going;
      given_ours = gives.ours;
      why = heard_for link name (tables old) heard gives.told given gives.is carried may;
      parted = parted-for service.buffer_budget link name gives.told (tables old) freed goes_on.going carried goes_on.called goes_on.why;
      ours = goes_on.ours;
      so = all.so;
      ruled = all.ruled;
    }

-- So the router stands for the log with it.
pub read_carries : Routes → (service : Service) (link : LinkId) (bytes : List ℕ) (old new : Router) → KeepsBut old new → HasBegun old.texts → AreBytes bytes
    → HasHeard service link bytes old new → IsSettled old → Carries service (entry.Got link bytes) old new
read_carries routes service link bytes old new keeps begun are heard loaded =
    carries_since service old new keeps.roomy keeps.came keeps.texts begun (entry.Got link bytes) (refl, λ moment. refl)
    (λ log may learnt.
    routes service new.texts (worked service (work_of old)) (worked service (work_of new)) log (tables old) (tables new) (is_roomy old.roomy) link bytes old.came.clock heard.given heard.going learnt.router may
    are heard.so heard.given_ours heard.ours heard.ruled heard.why heard.parted learnt.since (settled_rules service old loaded))
