-- How the row of a client stands for it.
use Rattle.std.specs.Prelude.{◌≡◌, ◌<◌, ◌≤◌, ◌+◌, ◌-◌, ◌++◌, ℕ, suc, nat_eq, length, slice_get, slice_index_or, Bool, true, false, not, is_some, List, [], Option, Some, None}
use Rattle.std.specs.Option.{option_map}
use Rattle.mx_base.specs.declared.names.Hostgroup.{Hostgroup}
use Rattle.server_side.specs.Account.{Account as Login}
use Rattle.packet_frame.specs.Packets.{Framed, next_id}
use Rattle.private_model.specs.View.{present}
use Rattle.log_story.specs.Clients.{is_answered}
use Rattle.log_story.specs.Honest.{IsFront}
use Rattle.log_story.specs.Owed.{due_bytes, messages, name_of, number_of}
use Rattle.log_story.specs.Plan.{Route, com_prepare, word_at}
use Rattle.log_story.specs.Servers.{logged_in_as}
use Rattle.log_story.specs.Tale as tales
use Rattle.session_vars.specs.Settings.{collation_settings}
use Rattle.link_state.specs.declared.wish.Command.TheVariants.{Prepare}
use Rattle.client_seat.specs.Seats.{account_in, is_ended}
use Rattle.client_seat.specs.declared.seat.Seat.{Seat}
use Rattle.client_seat.specs.declared.phase.Phase.{Phase}
use Rattle.client_seat.specs.declared.phase.Phase.TheVariants as phase
use Rattle.client_seat.specs.Stands.{IsHeard, IsWho, IsWrittenOf, due_so_far}
use Rattle.client_desk.specs.Desks.{session_of}
use Rattle.client_desk.specs.declared.work.Work.{Work}
use Rattle.desk_laws.specs.Stands.{AreToCome, IsDesk}
use Rattle.core_tables.specs.declared.client.Client.{Client}
use Rattle.core_stands.specs.Grounds.{Ground, known_on, view_on}

-- What is prepared gets the client's next number.
abbrev pub IsNumberedNext : Ground → tales.Client → Client → Work → Type 0
IsNumberedNext g client row work =
    (number_of g.plan (name_of client work.ordinal) ≡ row.desk.seat.statements.last + 1) × (row.desk.seat.statements.last < 4294967295)

-- Its statement in work is its last message, which went to that hostgroup, and its reply goes on from that message's id. Before it is sent
-- nothing of a reply came, and behind that it is where its session is.
pub record IsWorking (g : Ground) (client : tales.Client) (row : Client) (work : Work) : Type 0 where
  pub last : work.ordinal ≡ client.taken
  pub went : row.went ≡ Some work.hostgroup
  pub number : work.command ≡ Prepare → IsNumberedNext g client row work
  pub only : 0 < number_of g.plan (name_of client work.ordinal) → work.command ≡ Prepare
  pub prepares : work.command ≡ Prepare → (message : Framed) → slice_get (messages g.plan client) (client.taken - 1) ≡ Some message
      → nat_eq (slice_index_or message.payload 0 0) com_prepare ≡ true
  pub keyed : work.command ≡ Prepare → (route : Route) → g.plan.routes (name_of client client.taken) ≡ Some route → route.key ≡ work.key
  pub first : (message : Framed) → slice_get (messages g.plan client) (client.taken - 1) ≡ Some message → row.desk.seat.first ≡ next_id message.last
  pub unsent : work.sent ≡ false → row.desk.seat.outbox.coming ≡ []
  pub there : work.sent ≡ true → (session_of row.desk work.hostgroup).home ≡ (view_on g).carriers (name_of client work.ordinal)

abbrev pub IsWorkingOr : Ground → tales.Client → Client → Option Work → Type 0
IsWorkingOr g client row None = row.desk.seat.outbox.coming ≡ []
IsWorkingOr g client row (Some work) = IsWorking g client row work

-- It goes on. All before its last message is answered; and before it is logged in it stands where it began.
pub record IsGoing (g : Ground) (client : tales.Client) (row : Client) : Type 0 where
  pub going : g.over client.number ≡ false
  pub earlier : (ordinal : ℕ) → ordinal < client.taken → is_answered g.plan g.tale (view_on g) client ordinal ≡ true
  pub answered : row.desk.seat.answered ≡ is_answered g.plan g.tale (view_on g) client client.taken
  pub went : row.went ≡ option_map (λ (route : Route). route.hostgroup) (g.plan.routes (name_of client client.taken))
  pub busy : is_some row.desk.work ≡ not row.desk.seat.answered
  pub working : IsWorkingOr g client row row.desk.work
  pub unmoved : row.desk.seat.phase ≡ phase.LoggingIn → (view_on g).places client.number ≡ g.setup.places client.number
  pub account : (login : Login) → account_in row.desk.seat.phase ≡ Some login → g.setup.accounts client.number ≡ logged_in_as login
  pub collation : (login : Login) → account_in row.desk.seat.phase ≡ Some login
      → (g.setup.places client.number).settings ≡ collation_settings row.desk.seat.collation

-- It ended; with a last word only where it waits for nothing.
pub record IsOver (g : Ground) (client : tales.Client) (row : Client) : Type 0 where
  pub over : g.over client.number ≡ true
  pub idle : row.desk.work ≡ None
  pub told : is_some (word_at g.plan g.tale.moment client.number) ≡ true
      → (ordinal : ℕ) → ordinal ≤ client.taken → is_answered g.plan g.tale (view_on g) client ordinal ≡ true
  pub homeless : (h : Hostgroup) → (session_of row.desk h).home ≡ None

abbrev pub IsPhase : (ended : Bool) → Ground → tales.Client → Client → Type 0
IsPhase true g client row = IsOver g client row
IsPhase false g client row = IsGoing g client row

-- What is due to it. Of bytes of a login that weren't looked at the answer isn't said yet. To one that ended a front of what it is due is written
-- or is to be written, since replies may come for which it didn't wait.

pub record IsFrontOf (client : tales.Client) (seat : Seat) (due : List ℕ) : Type 0 where
  pub written : List ℕ
  pub size : length written ≡ client.written
  pub front : IsFront (written ++ seat.outbox.due) due

abbrev pub IsOwing : Phase → (fresh : Bool) → Ground → tales.Client → Seat → Type 0
IsOwing phase.LoggingIn true g client seat = Unit {0}
IsOwing phase.LoggingIn false g client seat = IsWrittenOf client seat (due_so_far (known_on g) client)
IsOwing (phase.Serving login) fresh g client seat = IsWrittenOf client seat (due_so_far (known_on g) client)
IsOwing phase.Ended fresh g client seat = IsFrontOf client seat (due_bytes (view_on g).replies g.plan g.tale.moment client)

pub record IsClient (g : Ground) (client : tales.Client) (row : Client) : Type 0 where
  pub who : IsWho client row.desk.seat
  pub heard : IsHeard g.plan client row.desk.seat
  pub owed : IsOwing row.desk.seat.phase (g.fresh client.number) g client row.desk.seat
  pub desk : IsDesk g.setup.reads (view_on g) client.number row.desk
  pub coming : AreToCome (view_on g) client.number (suc client.taken)
  pub phase : IsPhase (is_ended row.desk.seat.phase) g client row

-- One whose row is gone ended, and no link carries a session of it that is present.
pub record IsForgotten (g : Ground) (client : tales.Client) : Type 0 where
  pub over : g.over client.number ≡ true
  pub homeless : (h : Hostgroup) → ((view_on g).held (present (view_on g) client.number h)).home ≡ None

abbrev pub IsClientOr : Ground → tales.Client → Option Client → Type 0
IsClientOr g client None = IsForgotten g client
IsClientOr g client (Some row) = IsClient g client row
