-- How the row of a link to a server stands for it, beside what row_laws says: what is to be written next, and the reply that its client gets.
use Rattle.std.specs.Prelude.{◌≡◌, ◌≤◌, ℕ, Bool, true, false, is_some, List, Option, Some, None}
use Rattle.reply_track.specs.Runs.{renumbered}
use Rattle.reply_track.specs.Tracking.{started}
use Rattle.mx_base.specs.declared.tag.Tag.{Tag}
use Rattle.mx_base.specs.declared.tag.Tag.TheVariants as tags
use Rattle.private_model.specs.Commands as commands
use Rattle.private_model.specs.Commands.{Command, Run}
use Rattle.private_model.specs.Names.{LinkId, SessionName}
use Rattle.private_model.specs.Story as story
use Rattle.private_model.specs.Story.{Due, message_of}
use Rattle.private_model.specs.View as view
use Rattle.private_model.specs.View.{Link, View}
use Rattle.tale_world.specs.Tests.{is_told_key}
use Rattle.log_story.specs.Owed.{number_of}
use Rattle.log_story.specs.Plan as plan
use Rattle.log_story.specs.Plan.{step_payload, text_payload}
use Rattle.log_story.specs.Servers.{reply_id}
use Rattle.log_story.specs.Tale as tales
use Rattle.log_story.specs.Tale.{is_to_server, link_in}
use Rattle.link_state.specs.Asks.{kind_of}
use Rattle.link_state.specs.Spells.{spelt}
use Rattle.link_state.specs.declared.asking.Asking.{Asking}
use Rattle.link_state.specs.declared.asking.Purpose.{Purpose}
use Rattle.link_state.specs.declared.asking.Purpose.TheVariants as purposes
use Rattle.link_state.specs.declared.state.Carried.{Carried}
use Rattle.link_state.specs.declared.state.Carried.TheVariants.{Lent}
use Rattle.link_state.specs.declared.state.Stage.{Stage}
use Rattle.link_state.specs.declared.state.Stage.TheVariants.{Quiet, Asked, Answered}
use Rattle.link_state.specs.declared.writing.Writing.{Writing}
use Rattle.lent_link.specs.declared.link.Begins.{Begins}
use Rattle.lent_link.specs.declared.link.Begins.TheVariants as begins
use Rattle.served_link.specs.declared.row.Row.{Row}
use Rattle.row_laws.specs.Begins.{IsNext, IsReadied}
use Rattle.row_laws.specs.Rows.{IsRowIn}
use Rattle.row_laws.specs.Unread.{sought}
use Rattle.row_laws.specs.Whose.{OfStatement}
use Rattle.client_desk.specs.declared.work.Work.{Work}
use Rattle.desk_laws.specs.Stands.{is_text, message_at}
use Rattle.step_laws.specs.Seats.{IsSeated}
use Rattle.core_tables.specs.Tables.{Tabled}
use Rattle.core_tables.specs.declared.client.Client.{Client}
use Rattle.core_tables.specs.declared.server.Server.{Server}
use Rattle.core_stands.specs.Grounds.{Ground, view_on}

-- What stands next on a link: a question in its one spelling, under its tag. It stays so until it begins. Of a statement it is what is due by that
-- ordinal; whether it may begin is tested at its first byte.

abbrev pub tag_for : Purpose → Tag
tag_for (purposes.Statement name ordinal key) = tags.For name.client ordinal
tag_for (purposes.Prep name ordinal key) = tags.Prep name.client ordinal
tag_for (purposes.Sync name) = tags.Sync name.client name.hostgroup
tag_for purposes.Own = tags.Own
tag_for (purposes.End name) = tags.End name.client name.hostgroup
tag_for (purposes.Capture name) = tags.End name.client name.hostgroup

abbrev pub IsTagged : Option Writing → Tag → Type 0
IsTagged None tag = ⊥
IsTagged (Some w) tag = w.tag ≡ tag

-- the reply goes on from the id of this client's message
abbrev pub IsFirst : Tabled → SessionName → (ordinal first : ℕ) → Type 0
IsFirst t n ordinal first = (row : Client) (work : Work) → t.clients n.client ≡ Some row → row.desk.work ≡ Some work → work.ordinal ≡ ordinal → row.desk.seat.first ≡ first

-- a message of this ordinal was taken up of the session's client
pub record IsTakenUp (g : Ground) (n : SessionName) (ordinal : ℕ) : Type 0 where
  pub client : tales.Client
  pub seated : IsSeated g.tale client
  pub number : client.number ≡ n.client
  pub by_now : ordinal ≤ client.taken

-- what a client asks for is a text, or the execute of one
abbrev pub IsAskedFor : Command → Type 0
IsAskedFor (Run text schema settings args) = Unit {0}
IsAskedFor command = is_text command ≡ true

-- the client's number of what its message prepares
abbrev pub own_number : Ground → SessionName → (ordinal : ℕ) → ℕ
own_number g n ordinal = number_of g.plan (message_at n.client ordinal)

pub record IsNextStatement (g : Ground) (t : Tabled) (row : Row) (link : Link) (asking : Asking) (n : SessionName) (ordinal : ℕ) : Type 0 where
  pub said : (due : Due) → (view_on g).dues n ≡ Some due → due.ordinal ≡ ordinal → IsReadied g.setup.reads g.codes row link asking (story.Statement n due)
  pub first : IsFirst t n ordinal row.link.first
  pub asked : (due : Due) → (view_on g).dues n ≡ Some due → due.ordinal ≡ ordinal → IsAskedFor due.command
  pub number : row.link.number ≡ own_number g n ordinal
  pub taken_up : IsTakenUp g n ordinal

-- The text of what is due is prepared first: the link was told its place, and stays so until that begins.

abbrev pub keyed_text : Ground → Due → List ℕ
keyed_text g due = (g.setup.keys due.key).text

pub record IsNextPrep (g : Ground) (row : Row) (link : Link) (asking : Asking) (n : SessionName) (ordinal : ℕ) : Type 0 where
  pub said : (due : Due) → (view_on g).dues n ≡ Some due → due.ordinal ≡ ordinal → IsReadied g.setup.reads g.codes row link asking (story.Prep n due.key (keyed_text g due))
  pub told : (due : Due) → (view_on g).dues n ≡ Some due → due.ordinal ≡ ordinal → is_told_key g.setup due.key (keyed_text g due) link.told ≡ true
  pub taken_up : IsTakenUp g n ordinal

pub record IsNextStep (g : Ground) (row : Row) (link : Link) (asking : Asking) (question : Command → story.Question) : Type 0 where
  pub command : Command
  pub said : IsReadied g.setup.reads g.codes row link asking (question command)

abbrev pub IsNextFor : Purpose → Ground → Tabled → Row → Link → Asking → Type 0
IsNextFor (purposes.Statement n ordinal key) g t row link asking = IsNextStatement g t row link asking n ordinal
IsNextFor (purposes.Prep n ordinal key) g t row link asking = IsNextPrep g row link asking n ordinal
IsNextFor (purposes.Sync n) g t row link asking = IsNextStep g row link asking (story.Sync n)
IsNextFor purposes.Own g t row link asking = IsNextStep g row link asking story.Own
IsNextFor (purposes.End n) g t row link asking = IsReadied g.setup.reads g.codes row link asking (story.End n)
IsNextFor (purposes.Capture n) g t row link asking = IsReadied g.setup.reads g.codes row link asking (story.Capture n)

abbrev pub IsNextOf : Option Begins → Ground → Tabled → Row → Link → Type 0
IsNextOf None g t row link = Unit {0}
IsNextOf (Some (begins.Asks asking)) g t row link = IsTagged row.link.writing (tag_for asking.purpose) × IsNextFor asking.purpose g t row link asking
IsNextOf (Some (begins.Closes number)) g t row link =
    IsTagged row.link.writing tags.Own × IsNext row.link.writing (spelt (step_payload (plan.Closes number)))
IsNextOf (Some (begins.Resets number)) g t row link =
    IsTagged row.link.writing tags.Own × IsNext row.link.writing (spelt (step_payload (plan.Resets number)))
IsNextOf (Some begins.Quits) g t row link = IsTagged row.link.writing tags.Own × IsNext row.link.writing (spelt (text_payload commands.Quit))

-- A statement that stands there is its client's work, where that didn't leave the session and the link is sound; and what came of the reply
-- are the bytes that were read of it, by the client's ids.
pub record IsReplying (g : Ground) (t : Tabled) (l : LinkId) (row : Row) (asking : Asking) (n : SessionName) (ordinal : ℕ) : Type 0 where
  pub client : Client
  pub work : Work
  pub there : t.clients n.client ≡ Some client
  pub in_work : client.desk.work ≡ Some work
  pub last : work.ordinal ≡ ordinal
  pub sent : work.sent ≡ true
  pub hostgroup : work.hostgroup ≡ n.hostgroup
  pub number : row.link.number ≡ own_number g n ordinal
  pub first : client.desk.seat.first ≡ row.link.first
  pub coming : client.desk.seat.outbox.coming
      ≡ renumbered (started (sought (kind_of asking.form) (reply_id (g.tale.wires l)) row.link.first row.link.number)) (g.tale.wires l).unread

abbrev pub IsReplyingFor : Purpose → Ground → Tabled → LinkId → Row → Asking → Type 0
IsReplyingFor (purposes.Statement n ordinal key) g t l row asking = IsReplying g t l row asking n ordinal
IsReplyingFor _ g t l row asking = Unit {0}

abbrev pub IsReplyingAt : Stage → Ground → Tabled → LinkId → Row → Type 0
IsReplyingAt Quiet g t l row = Unit {0}
IsReplyingAt (Asked asking) g t l row = IsReplyingFor asking.purpose g t l row asking
IsReplyingAt (Answered asking) g t l row = IsReplyingFor asking.purpose g t l row asking

-- One that stands there for a session that was left is of a client that ended.

abbrev pub IsPartedFor : Purpose → Ground → Type 0
IsPartedFor (purposes.Statement n ordinal key) g = (g.over n.client ≡ true) × IsTakenUp g n ordinal
IsPartedFor _ g = Unit {0}

abbrev pub IsPartedAt : Stage → Ground → Type 0
IsPartedAt Quiet g = Unit {0}
IsPartedAt (Asked asking) g = IsPartedFor asking.purpose g
IsPartedAt (Answered asking) g = IsPartedFor asking.purpose g

-- A link is lent until the statement runs that was sent there first. Before that is sent, and behind the preparation of its text, it is due.

abbrev pub OfLent : Carried → (SessionName → Type 0) → Type 0
OfLent (Lent n) P = P n
OfLent _ P = Unit {0}

abbrev pub IsAhead : View → SessionName → Type 0
IsAhead view n = is_some (view.dues n) ≡ true

abbrev pub is_statement : Purpose → Bool
is_statement (purposes.Statement n ordinal key) = true
is_statement _ = false

abbrev pub is_stating : Stage → Bool
is_stating (Asked asking) = is_statement asking.purpose
is_stating _ = false

-- A client's statement was sent on the link on which it stands, and isn't answered yet.

pub record IsStanding (g : Ground) (l : LinkId) (n : SessionName) (due : Due) : Type 0 where
  pub carrier : (view_on g).carriers (message_of n due) ≡ Some l
  pub unanswered : (view_on g).replies (message_of n due) ≡ None

abbrev pub IsStandingAt : view.Stage → Ground → LinkId → Type 0
IsStandingAt view.Quiet g l = Unit {0}
IsStandingAt (view.Asked question) g l = OfStatement question (IsStanding g l)
IsStandingAt (view.Answered question) g l = OfStatement question (IsStanding g l)

pub record IsServer (g : Ground) (t : Tabled) (l : LinkId) (server : Row) : Type 0 where
  pub row : IsRowIn g.setup g.codes g.plan g.tale l server
  pub user : server.identity.user ≡ (g.plan.logins l).user
  pub found_rows : server.identity.found_rows ≡ (g.plan.logins l).found_rows
  pub standing : IsStandingAt (link_in g.setup g.tale l).stage g l
  pub next : IsNextOf server.link.next g t server (link_in g.setup g.tale l)
  pub lent : server.lost ≡ false → server.left ≡ None → is_stating server.link.state.stage ≡ false → OfLent server.link.state.carries (IsAhead (view_on g))
  pub parted : server.link.spoilt ≡ false → server.lost ≡ false → is_some server.left ≡ true → IsPartedAt server.link.state.stage g
  pub replying : server.link.spoilt ≡ false → server.lost ≡ false → server.left ≡ None → IsReplyingAt server.link.state.stage g t l server

-- one whose row is gone was lost or closed, and carries no session that is present
abbrev pub IsServerBy : (to_server : Bool) → Ground → Tabled → LinkId → Option Server → Type 0
IsServerBy true g t l (Some server) = IsServer g t l server.row
IsServerBy true g t l None = (link_in g.setup g.tale l).usable ≡ false
IsServerBy false g t l row = row ≡ None

abbrev pub IsServerOr : Ground → Tabled → LinkId → Option Server → Type 0
IsServerOr g t l row = IsServerBy (is_to_server g.tale l) g t l row
