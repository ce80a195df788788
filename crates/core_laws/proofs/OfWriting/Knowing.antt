-- What stands for a client, and for a link on which a question stands next.
use Rattle.std.specs.Prelude.{◌≡◌, Bool, true, false, not, ◌||◌, ◌&&◌, ℕ, zero, suc, is_some, All, List, [], ◌∷◌, Option, Some, None}
use Rattle.std.specs.Option.{option_map, option_map_or}
use Rattle.std.proofs.Common.{refl, sym, ap, ◌∙◌, subst}
use Rattle.std.proofs.lemmas.Bool.{and_parts, false≢true, true≢false, not-true}
use Rattle.std.proofs.lemmas.List.Elements.{All-filter, All-head}
use Rattle.std.proofs.lemmas.Option.{none-some, same_Some}
use Rattle.client_session.specs.Setups.{Setup as Service}
use Rattle.private_model.specs.Commands.{Reply}
use Rattle.private_model.specs.Names.{ClientNo, Hostgroup, LinkId, SessionName}
use Rattle.private_model.specs.Story.{is_client}
use Rattle.private_model.specs.View as view
use Rattle.private_model.specs.View.{Link, View}
use Rattle.log_story.specs.Clients.{is_answered}
use Rattle.log_story.specs.Owed.{name_of}
use Rattle.log_story.specs.Plan.{Plan, Route, own_at}
use Rattle.log_story.specs.Servers as servers
use Rattle.log_story.specs.Tale as tales
use Rattle.log_story.specs.Tale.{Tale, Wire, is_to_server, link_in}
use Rattle.client_seat.specs.Seats.{is_ended}
use Rattle.client_desk.specs.declared.work.Work.{Work}
use Rattle.link_state.specs.Dones.{is_quiet}
use Rattle.link_state.specs.declared.state.Stage.{Stage}
use Rattle.link_state.specs.declared.state.Stage.TheVariants.{Quiet, Asked, Answered}
use Rattle.link_laws.specs.Stands.{IsLink}
use Rattle.lent_link.specs.Rests.{is_resetting}
use Rattle.lent_link.specs.declared.link.Begins.{Begins}
use Rattle.served_link.specs.declared.row.Row.{Row}
use Rattle.row_laws.specs.Rows.{Enters, IsRow, IsRowBy, Serves}
use Rattle.row_laws.specs.Unread.{IsUnreadBy, kind_answered, kind_due}
use Rattle.lent_link.specs.declared.reading.Reading.{Reading}
use Rattle.lent_link.specs.declared.link.Step.{Step}
use Rattle.lent_link.specs.declared.link.Step.TheVariants.{Other, Closes, Resets}
use Rattle.reply_track.specs.declared.reply.ReplyKind.{ReplyKind}
use Rattle.link_laws.specs.Stands.{Codes}
use Rattle.server_rule.specs.Classes.{Reads}
use Rattle.server_side.specs.Account.{Account as Login}
use Rattle.private_model.specs.View.{present}
use Rattle.client_desk.specs.Desks.{session_of}
use Rattle.client_desk.specs.Desks as desks
use Rattle.client_desk.specs.declared.desk.Desk.{Desk}
use Rattle.desk_laws.specs.Stands.{IsDesk, IsSession, held_of}
use Rattle.row_laws.specs.Written.{IsOver, IsUnsent, IsWrittenBy}
use Rattle.row_laws.proofs.Seeing.{is_link, quiet_same}
use Rattle.core_tables.specs.Passing.{is_ready}
use Rattle.core_tables.specs.Tables.{Tabled}
use Rattle.core_tables.specs.declared.client.Client.{Client}
use Rattle.core_tables.specs.declared.server.Server.{Server}
use Rattle.core_stands.specs.Clients.{IsClient, IsClientOr, IsGoing, IsOver as IsOverClient, IsPhase, IsWorking, IsWorkingOr}
use Rattle.core_stands.specs.Grounds.{Ground, view_on}
use Rattle.core_stands.specs.Servers.{IsServer, IsServerBy}
use Rattle.core_stands.specs.Stands.{IsAt, IsKnown, Stands}
use Rattle.step_laws.specs.Seats.{IsSeated}

-- A client whose row is there.

pub at_client : (g : Ground) (t : Tabled) (client : tales.Client) → IsSeated g.tale client → All (IsAt g t) g.tale.clients → IsAt g t client
at_client g t client seated each =
    All-head (IsAt g t) client []
    (subst (λ (xs : List tales.Client). All (IsAt g t) xs) seated
    (All-filter (λ (other : tales.Client). is_client other.number client.number) (IsAt g t) g.tale.clients each))

pub record Knows (g : Ground) (c : ClientNo) (row : Client) : Type 0 where
  pub client : tales.Client
  pub known : IsKnown g c client
  pub is : IsClient g client row

pub knows : (service : Service) (g : Ground) (t : Tabled) (c : ClientNo) (row : Client) → Stands service g t → t.clients c ≡ Some row → Knows g c row
knows service g t c row stands there =
    let known = stands.clients.known c row there in
    let at = at_client g t known.0 known.1.seated stands.clients.each in
    record {
      client = known.0;
      known = known.1;
      is = subst (λ (x : Option Client). IsClientOr g known.0 x) (ap t.clients known.1.number ∙ there) at.row;
    }

-- It has a statement in work, so it goes on, and that is its last message, which isn't answered.

going_by : (ended : Bool) (g : Ground) (client : tales.Client) (row : Client) (work : Work) → row.desk.work ≡ Some work → IsPhase ended g client row
    → IsGoing g client row
going_by true g client row work in_work phase = absurd (none-some work (sym phase.idle ∙ in_work))
going_by false g client row work in_work phase = phase

pub going : (g : Ground) (client : tales.Client) (row : Client) (work : Work) → row.desk.work ≡ Some work → IsClient g client row → IsGoing g client row
going g client row work in_work is = going_by (is_ended row.desk.seat.phase) g client row work in_work is.phase

pub working : (g : Ground) (client : tales.Client) (row : Client) (work : Work) → row.desk.work ≡ Some work → IsGoing g client row → IsWorking g client row work
working g client row work in_work is = subst (λ (x : Option Work). IsWorkingOr g client row x) in_work is.working

unanswered_by : (plan : Plan) (tale : Tale) (seen : View) (client : tales.Client) (taken : ℕ) → is_answered plan tale seen client taken ≡ false
    → own_at plan tale.moment (name_of client taken) ≡ None
unanswered_by plan tale seen client zero none = absurd (true≢false none)
unanswered_by plan tale seen client (suc k) none = by (own_at plan tale.moment (name_of client (suc k))) none where
  by : (own : Option (List (List ℕ))) → (is_some own || is_some (seen.replies (name_of client (suc k)))) ≡ false → own ≡ None
  by None none = refl
  by (Some payloads) none = absurd (true≢false none)

pub own_none : (g : Ground) (client : tales.Client) (row : Client) (work : Work) → row.desk.work ≡ Some work → IsGoing g client row
    → own_at g.plan g.tale.moment (name_of client client.taken) ≡ None
own_none g client row work in_work is =
    unanswered_by g.plan g.tale (view_on g) client client.taken
    (sym is.answered ∙ not-true row.desk.seat.answered (sym is.busy ∙ ap is_some in_work))

-- where it goes
pub record IsRouted (plan : Plan) (client : tales.Client) (work : Work) : Type 0 where
  pub route : Route
  pub routed : plan.routes (name_of client client.taken) ≡ Some route
  pub hostgroup : route.hostgroup ≡ work.hostgroup

routed_by : (plan : Plan) (client : tales.Client) (work : Work) (found : Option Route) → plan.routes (name_of client client.taken) ≡ found
    → option_map (λ (route : Route). route.hostgroup) found ≡ Some work.hostgroup → IsRouted plan client work
routed_by plan client work None same went = absurd (none-some work.hostgroup went)
routed_by plan client work (Some route) same went =
    record { route = route; routed = same; hostgroup = same_Some route.hostgroup work.hostgroup went }

pub routed : (g : Ground) (client : tales.Client) (row : Client) (work : Work) → row.desk.work ≡ Some work → IsGoing g client row
    → IsRouted g.plan client work
routed g client row work in_work is =
    routed_by g.plan client work (g.plan.routes (name_of client client.taken)) refl
    (sym is.went ∙ (working g client row work in_work is).went)

-- The row of a link to a server.

server_by : (to_server : Bool) (g : Ground) (t : Tabled) (l : LinkId) (server : Server) → IsServerBy to_server g t l (Some server) → IsServer g t l server.row
server_by true g t l server is = is
server_by false g t l server is = absurd (none-some server (sym is))

pub server_at : (service : Service) (g : Ground) (t : Tabled) (l : LinkId) (server : Server) → Stands service g t → t.links l ≡ Some server
    → IsServer g t l server.row
server_at service g t l server stands there =
    server_by (is_to_server g.tale l) g t l server
    (subst (λ (x : Option Server). IsServerBy (is_to_server g.tale l) g t l x) there (stands.servers l))

pub to_server_by : (to_server : Bool) (g : Ground) (t : Tabled) (l : LinkId) (server : Server) → IsServerBy to_server g t l (Some server) → to_server ≡ true
to_server_by true g t l server is = refl
to_server_by false g t l server is = absurd (none-some server (sym is))

pub is_servers : (service : Service) (g : Ground) (t : Tabled) (l : LinkId) (server : Server) → Stands service g t → t.links l ≡ Some server
    → is_to_server g.tale l ≡ true
is_servers service g t l server stands there =
    to_server_by (is_to_server g.tale l) g t l server
    (subst (λ (x : Option Server). IsServerBy (is_to_server g.tale l) g t l x) there (stands.servers l))

-- its present sessions

pub present_name : (reads : Reads) (seen : View) (c : ClientNo) (desk : Desk) → IsDesk reads seen c desk → (h : Hostgroup) → present seen c h ≡ desks.name_of desk h
present_name reads seen c desk is h = λ i. record { client = sym is.number i; hostgroup = h; life = (is.sessions.each h).life i }

pub present_held : (reads : Reads) (seen : View) (c : ClientNo) (desk : Desk) → IsDesk reads seen c desk → (h : Hostgroup)
    → seen.held (present seen c h) ≡ held_of (session_of desk h)
present_held reads seen c desk is h =
    (λ i. seen.held (record { client = c; hostgroup = h; life = (is.sessions.each h).life i })) ∙ (is.sessions.each h).held

-- The two kinds of rows.

pub serves_in : (reads : Reads) (codes : Codes) (login : Login) (seen : View) (row : Row) (wire : Wire) (link : Link) → wire.entered ≡ true
    → IsRow reads codes login seen row wire link → Serves reads codes login seen row wire link
serves_in reads codes login seen row wire link inside is = subst (λ (there : Bool). IsRowBy there reads codes login seen row wire link) inside is.is

pub enters_in : (reads : Reads) (codes : Codes) (login : Login) (seen : View) (row : Row) (wire : Wire) (link : Link) → wire.entered ≡ false
    → IsRow reads codes login seen row wire link → Enters login row wire link
enters_in reads codes login seen row wire link outside is = subst (λ (there : Bool). IsRowBy there reads codes login seen row wire link) outside is.is

-- where no answer is read, nothing is unread

due_none : (step : Step) (stage : Stage) → is_resetting step ≡ false → kind_answered stage ≡ None → kind_due step stage ≡ None
due_none Other stage plain unanswered = unanswered
due_none (Closes number) stage plain unanswered = unanswered
due_none (Resets number) stage plain unanswered = absurd (true≢false plain)

pub dry_by : (reading : Option Reading) (step : Step) (stage : Stage) (id first number : ℕ) (unread : List ℕ) → is_resetting step ≡ false
    → kind_answered stage ≡ None → IsUnreadBy reading step stage id first number unread → unread ≡ []
dry_by None step stage id first number unread plain unanswered is = is.none
dry_by (Some r) step stage id first number unread plain unanswered is =
    absurd (none-some is.kind (sym (due_none step stage plain unanswered) ∙ is.is_due))

quiet_unanswered : (stage : Stage) → stage ≡ Quiet → kind_answered stage ≡ None
quiet_unanswered stage quiet = ap kind_answered quiet

pub code_quiet : (stage : Stage) → is_quiet stage ≡ true → stage ≡ Quiet
code_quiet Quiet quiet = refl
code_quiet (Asked asking) quiet = absurd (false≢true quiet)
code_quiet (Answered asking) quiet = absurd (false≢true quiet)

module _ (g : Ground) (t : Tabled) (l : LinkId) (row : Row) (is : IsServer g t l row) where
  abbrev pub wire : Wire
  wire = g.tale.wires l

  abbrev pub link : Link
  link = link_in g.setup g.tale l

  abbrev ServesAt : Type 0
  ServesAt = Serves g.setup.reads g.codes (g.plan.logins l) (view_on g) row wire link

  pub serves : wire.entered ≡ true → ServesAt
  serves entered = serves_in g.setup.reads g.codes (g.plan.logins l) (view_on g) row wire link entered is.row

  -- something stands next: so the router is logged in there, and nothing stands there
  module _ (next : Begins) (same_next : row.link.next ≡ Some next) where
    entered_by : (entered : Bool) → wire.entered ≡ entered → entered ≡ true
    entered_by true same = refl
    entered_by false same =
        absurd (none-some next
        (sym (enters_in g.setup.reads g.codes (g.plan.logins l) (view_on g) row wire link same is.row).next ∙ same_next))

    pub entered : wire.entered ≡ true
    entered = entered_by wire.entered refl

    pub serving : ServesAt
    serving = serves entered

    pub over : IsOver row.link.state.stage row.link.step row.link.quits wire.step wire.written
    over =
        (subst (λ (x : Option Begins). IsWrittenBy x row.link.writing row.link.state.stage row.link.step row.link.quits wire.step wire.written link)
        same_next serving.written).0

    pub unsent : IsUnsent row.link.writing
    unsent =
        (subst (λ (x : Option Begins). IsWrittenBy x row.link.writing row.link.state.stage row.link.step row.link.quits wire.step wire.written link)
        same_next serving.written).1

    pub quiet : row.link.state.stage ≡ Quiet
    quiet = code_quiet row.link.state.stage over.quiet

    pub same_link : IsLink g.setup.reads g.codes row.link.state link
    same_link = is_link g.setup.reads g.codes row.link.state link Quiet quiet refl serving.state

    pub law_quiet : servers.is_quiet link.stage ≡ true
    law_quiet = sym (quiet_same g.setup.reads g.codes row.link.state link serving.state) ∙ over.quiet

    pub unread : row.link.spoilt ≡ false → wire.unread ≡ []
    unread fine =
        dry_by row.link.reading row.link.step row.link.state.stage (servers.reply_id wire) row.link.first row.link.number wire.unread over.answered
        (quiet_unanswered row.link.state.stage quiet) (serving.unread fine)
