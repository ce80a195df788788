-- How a client's desk stands for what a story makes of its client.
use Rattle.std.specs.Prelude.{◌≡◌, ◌<◌, ℕ, suc, Bool, true, false, is_some, find, List, [], ◌∷◌, Option, Some, None}
use Rattle.mx_base.specs.declared.names.LinkId.{LinkId}
use Rattle.packet_frame.specs.Packets.{spelling}
use Rattle.session_state.specs.declared.place.Place.{Place}
use Rattle.server_rule.specs.Classes.{Reads}
use Rattle.private_model.specs.Commands as commands
use Rattle.private_model.specs.Commands.{Command, Reply, is_marked}
use Rattle.private_model.specs.Names.{ClientNo, Hostgroup, MessageName, SessionName}
use Rattle.private_model.specs.Story.{Due, Question, Statement, message_of}
use Rattle.private_model.specs.View.{Held, View, first_held, present}
use Rattle.log_story.specs.Plan.{text_payload}
use Rattle.link_state.specs.declared.asking.Form.{Form}
use Rattle.link_state.specs.declared.wish.Command as links
use Rattle.link_state.specs.declared.wish.Command.TheVariants as kinds
use Rattle.link_laws.specs.Stands.{IsForm}
use Rattle.client_seat.specs.declared.phase.Phase.{Phase}
use Rattle.client_seat.specs.declared.phase.Phase.TheVariants as phase
use Rattle.client_desk.specs.Sessions.{is_in, session_in}
use Rattle.client_desk.specs.declared.desk.Desk.{Desk}
use Rattle.client_desk.specs.declared.session.Parted.{Parted}
use Rattle.client_desk.specs.declared.session.Session.{Session}
use Rattle.client_desk.specs.declared.work.Body.{Body}
use Rattle.client_desk.specs.declared.work.Body.TheVariants.{Packets, Run, Away}
use Rattle.client_desk.specs.declared.work.Work.{Work}

-- Sessions.

abbrev pub name_at : ClientNo → Hostgroup → (life : ℕ) → SessionName
name_at c h life = record { client = c; hostgroup = h; life = life }

abbrev pub held_of : Session → Held
held_of s = record { pin = s.pin; id = s.id; home = s.home }

-- nothing happened in it
pub record IsUnborn (view : View) (n : SessionName) : Type 0 where
  pub held : view.held n ≡ first_held
  pub due : view.dues n ≡ None
  pub lasting : view.lasting n ≡ false

-- the present one of a client in a hostgroup, and in those that are to come nothing happened
pub record IsSession (view : View) (c : ClientNo) (h : Hostgroup) (s : Session) : Type 0 where
  pub life : view.lives c h ≡ s.life
  pub held : view.held (name_at c h s.life) ≡ held_of s
  pub lasting : view.lasting (name_at c h s.life) ≡ s.lasting
  pub unborn : (life : ℕ) → s.life < life → IsUnborn view (name_at c h life)

-- no hostgroup has two rows
abbrev pub AreDistinct : List Session → Type 0
AreDistinct [] = Unit {0}
AreDistinct (row ∷ rows) = (find (is_in row.hostgroup) rows ≡ None) × AreDistinct rows

pub record AreSessions (view : View) (c : ClientNo) (lefts : ℕ) (rows : List Session) : Type 0 where
  pub each : (h : Hostgroup) → IsSession view c h (session_in lefts rows h)
  pub distinct : AreDistinct rows

-- what was handed on of a session that was left: it was this life, and isn't present
pub record IsParted (view : View) (c : ClientNo) (p : Parted) : Type 0 where
  pub held : view.held (name_at c p.hostgroup p.life) ≡ record { pin = p.pin; id = p.id; home = Some p.link }
  pub lasting : view.lasting (name_at c p.hostgroup p.life) ≡ p.lasting
  pub left : p.life < view.lives c p.hostgroup

-- The statement in work.

abbrev pub kind_of : Command → links.Command
kind_of (commands.Prepare text) = kinds.Prepare
kind_of (commands.Run text schema settings args) = kinds.Execute
kind_of _ = kinds.Plain

-- a client's statement that is sent as a text
abbrev pub is_text : Command → Bool
is_text (commands.Query text) = true
is_text (commands.InitDb schema) = true
is_text (commands.FieldList rest) = true
is_text (commands.Prepare text) = true
is_text _ = false

abbrev pub IsFormOr : Reads → Option Form → Command → Type 0
IsFormOr reads None command = Unit {0}
IsFormOr reads (Some form) command = IsForm reads form command

-- what is to be written of it; what stands on a link is the link's to tell
abbrev pub IsBody : Body → Command → Type 0
IsBody (Packets bytes) command = (is_text command ≡ true) × (bytes ≡ spelling 0 (text_payload command))
IsBody (Run args) (commands.Run text schema settings given) = given ≡ args
IsBody (Run args) _ = ⊥
IsBody Away command = Unit {0}

-- a message asks for this
pub record IsRequest (reads : Reads) (ordinal key : ℕ) (command : Command) (multiplex : Option Bool) (work : Work) : Type 0 where
  pub ordinal_is : ordinal ≡ work.ordinal
  pub key_is : key ≡ work.key
  pub multiplex_is : multiplex ≡ work.multiplex
  pub kind : kind_of command ≡ work.command
  pub marks : is_marked reads command ≡ work.marks
  pub form : IsFormOr reads work.form command
  pub body : IsBody work.body command

-- and it is due so, of a client that stands there
pub record IsDue (reads : Reads) (place : Place) (work : Work) (due : Due) : Type 0 where
  pub request : IsRequest reads due.ordinal due.key due.command due.multiplex work
  pub place_is : due.place ≡ place
  pub anew_is : due.anew ≡ work.anew

abbrev pub message_at : ClientNo → (ordinal : ℕ) → MessageName
message_at c ordinal = record { client = c; ordinal = ordinal }

pub record IsUnsent (reads : Reads) (view : View) (c : ClientNo) (place : Place) (work : Work) : Type 0 where
  pub due : Due
  pub is_due : view.dues (present view c work.hostgroup) ≡ Some due
  pub as_due : IsDue reads place work due
  pub unsent : view.carriers (message_at c work.ordinal) ≡ None

pub record IsOut (view : View) (c : ClientNo) (work : Work) : Type 0 where
  pub link : LinkId
  pub carrier : view.carriers (message_at c work.ordinal) ≡ Some link

abbrev pub IsSentOrNot : (sent : Bool) → Reads → View → ClientNo → Place → Work → Type 0
IsSentOrNot true reads view c place work = IsOut view c work
IsSentOrNot false reads view c place work = IsUnsent reads view c place work

pub record IsWork (reads : Reads) (view : View) (c : ClientNo) (place : Place) (work : Work) : Type 0 where
  pub sent_or_not : IsSentOrNot work.sent reads view c place work
  pub unanswered : view.replies (message_at c work.ordinal) ≡ None

abbrev pub IsWorkOr : Reads → View → ClientNo → Place → Option Work → Type 0
IsWorkOr reads view c place None = Unit {0}
IsWorkOr reads view c place (Some work) = IsWork reads view c place work

-- the rule's word on sharing the link, of a statement
abbrev pub IsShared : Question → (multiplex : Option Bool) → Type 0
IsShared (Statement n due) multiplex = due.multiplex ≡ multiplex
IsShared _ multiplex = Unit {0}

-- there is a row for its hostgroup

abbrev pub HasRow : List Session → Hostgroup → Type 0
HasRow rows h = is_some (find (is_in h) rows) ≡ true

abbrev pub HasRowFor : List Session → Option Work → Type 0
HasRowFor rows None = Unit {0}
HasRowFor rows (Some work) = HasRow rows work.hostgroup

-- What is due in a session is an earlier message, which wasn't sent, and is due in no other.

pub record IsDueEarlier (dues : SessionName → Option Due) (carriers : MessageName → Option LinkId) (from : ℕ) (n : SessionName) (due : Due) : Type 0 where
  pub some : 0 < due.ordinal
  pub earlier : due.ordinal < from
  pub unsent : carriers (message_of n due) ≡ None
  pub alone : (other : SessionName) (also : Due) → other.client ≡ n.client → dues other ≡ Some also → also.ordinal ≡ due.ordinal → other ≡ n

abbrev pub AreDueEarlier : (SessionName → Option Due) → (MessageName → Option LinkId) → ClientNo → (from : ℕ) → Type 0
AreDueEarlier dues carriers c from = (n : SessionName) (due : Due) → n.client ≡ c → dues n ≡ Some due → IsDueEarlier dues carriers from n due

-- Messages from this one on are neither sent nor answered, nor due.
pub record AreToCome (view : View) (c : ClientNo) (from : ℕ) : Type 0 where
  pub unsent : (ordinal : ℕ) → from < suc ordinal → view.carriers (message_at c ordinal) ≡ None
  pub unanswered : (ordinal : ℕ) → from < suc ordinal → view.replies (message_at c ordinal) ≡ None
  pub due : AreDueEarlier view.dues view.carriers c from

-- All of a client: where it stands is known while it is served.

abbrev pub IsPlaced : Phase → View → ClientNo → Place → Type 0
IsPlaced (phase.Serving account) view c place = view.places c ≡ place
IsPlaced _ view c place = Unit {0}

pub record IsDesk (reads : Reads) (view : View) (c : ClientNo) (desk : Desk) : Type 0 where
  pub number : desk.seat.client.number ≡ c
  pub sessions : AreSessions view c desk.lefts desk.sessions
  pub place : IsPlaced desk.seat.phase view c desk.seat.place
  pub work : IsWorkOr reads view c desk.seat.place desk.work
  pub row : HasRowFor desk.sessions desk.work
