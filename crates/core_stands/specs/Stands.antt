-- How the core's tables stand for a tale.
use Rattle.std.specs.Prelude.{◌≡◌, ◌<◌, ◌≤◌, ◌-◌, ℕ, Bool, true, false, All, drop, is_some, take, List, Option, Some, None}
use Rattle.std.specs.List.{list_any}
use Rattle.packet_frame.specs.Packets.{Framed}
use Rattle.mx_base.specs.declared.names.Hostgroup.{Hostgroup}
use Rattle.client_session.specs.Setups.{Setup as Service}
use Rattle.private_model.specs.Commands.{Command, Prepare, Run}
use Rattle.private_model.specs.Lawful.{IsLawful}
use Rattle.private_model.specs.Names.{ClientNo, LinkId, SessionName}
use Rattle.private_model.specs.Story.{Due, Key, Story, is_link_id, message_of}
use Rattle.private_model.specs.View.{Setup, View}
use Rattle.server_rule.specs.Classes.{core}
use Rattle.session_vars.specs.declared.change.SlotValue.{SlotValue}
use Rattle.log_story.specs.Executes.{Prepared, prepared_by}
use Rattle.log_story.specs.Owed.{messages, name_of}
use Rattle.log_story.specs.Plan.{Plan, Route, own_at}
use Rattle.log_story.specs.Tale as tales
use Rattle.log_story.specs.Tale.{is_to_server}
use Rattle.row_laws.specs.Whose.{name_in}
use Rattle.run_laws.specs.Becoming.{AllBecame}
use Rattle.run_laws.specs.Reads.{HasArgs}
use Rattle.stmt_map.specs.declared.client.ClientStatements.{ClientStatements}
use Rattle.client_seat.specs.Numbers.{Numbered, drops, number_in}
use Rattle.client_seat.specs.Seats.{is_ended}
use Rattle.client_seat.specs.Stands.{IsNumbered}
use Rattle.client_desk.specs.Desks.{session_of}
use Rattle.client_desk.specs.declared.desk.Desk.{Desk}
use Rattle.step_laws.specs.Seats.{AreCounted, IsSeated, numbers}
use Rattle.step_laws.specs.Freed.{NoneDone}
use Rattle.step_laws.specs.Taken.{IsIdle}
use Rattle.core_tables.specs.Tables.{Tabled}
use Rattle.core_tables.specs.declared.client.Client.{Client}
use Rattle.core_tables.specs.declared.server.Server.{Server}
use Rattle.core_stands.specs.Clients.{IsClientOr}
use Rattle.core_stands.specs.Grounds.{AreOver, Ground, known_on, view_on}
use Rattle.core_stands.specs.Servers.{IsServerOr}

-- Clients, and their links, which are no links to servers and no two clients'.

pub record IsAt (g : Ground) (t : Tabled) (client : tales.Client) : Type 0 where
  pub row : IsClientOr g client (t.clients client.number)
  pub found : is_some (t.clients client.number) ≡ true → t.numbers client.link ≡ Some client.number
  pub aside : is_to_server g.tale client.link ≡ false
  pub alone : All (λ (other : tales.Client). is_link_id other.link client.link ≡ true → other.number ≡ client.number) g.tale.clients

-- one of the tale's
pub record IsKnown (g : Ground) (c : ClientNo) (client : tales.Client) : Type 0 where
  pub seated : IsSeated g.tale client
  pub number : client.number ≡ c

pub record AreClients (g : Ground) (t : Tabled) : Type 0 where
  pub counted : AreCounted 1 (numbers g.tale)
  pub each : All (IsAt g t) g.tale.clients
  pub known : (c : ClientNo) (row : Client) → t.clients c ≡ Some row → (client : tales.Client) × IsKnown g c client
  pub named : (l : LinkId) (c : ClientNo) → t.numbers l ≡ Some c → (client : tales.Client) × IsKnown g c client × (client.link ≡ l) × (is_some (t.clients c) ≡ true)

-- A present session has a link as its home where that link's row carries it, and no other.

pub record IsHome (t : Tabled) (l : LinkId) (n : SessionName) (server : Server) : Type 0 where
  pub there : t.links l ≡ Some server
  pub carries : name_in server.row.link.state.carries ≡ Some n
  pub present : server.row.left ≡ None
  pub whole : server.row.lost ≡ false

pub record AreHomes (g : Ground) (t : Tabled) : Type 0 where
  pub carried : (c : ClientNo) (row : Client) (h : Hostgroup) (l : LinkId) → t.clients c ≡ Some row → (session_of row.desk h).home ≡ Some l
      → (server : Server) × IsHome t l (record { client = c; hostgroup = h; life = (session_of row.desk h).life }) server
  pub home : (l : LinkId) (server : Server) (n : SessionName) → t.links l ≡ Some server → name_in server.row.link.state.carries ≡ Some n
      → server.row.left ≡ None → server.row.lost ≡ false
      → (row : Client) × (t.clients n.client ≡ Some row) × ((session_of row.desk n.hostgroup).home ≡ Some l)
      × ((session_of row.desk n.hostgroup).life ≡ n.life)

-- What the first of a client's messages prepared under a number stands there, unless a message that was taken up since dropped it.
abbrev pub KnowsFirst : View → Plan → tales.Client → ClientStatements → (n : ℕ) → Type 0
KnowsFirst view plan client statements n =
    (number : ℕ) (made : Prepared) → 0 < number → prepared_by view plan client number 1 (take n (messages plan client)) ≡ Some made
    → list_any (λ (sent : Framed). drops number sent.payload) (drop made.ordinal (take client.taken (messages plan client))) ≡ false
    → is_some (number_in statements number) ≡ true

-- What a client that goes on has prepared stands so by its numbers, it stands there for as long as the client knows it, and none was given that is
-- greater than the last: of its messages but for the last, and of that once it is answered. What the router answers itself no server answers.

pub record IsPrepared (g : Ground) (client : tales.Client) (row : Client) : Type 0 where
  pub each : (number : ℕ) (one : Numbered) → number_in row.desk.seat.statements number ≡ Some one
      → IsNumbered (known_on g) client (λ (key : ℕ). key) number one
  pub unused : (number : ℕ) → row.desk.seat.statements.last < number
      → prepared_by (view_on g) g.plan client number 1 (take (client.taken - 1) (messages g.plan client)) ≡ None
  pub kept : row.desk.seat.answered ≡ true → (number : ℕ) → row.desk.seat.statements.last < number
      → prepared_by (view_on g) g.plan client number 1 (take client.taken (messages g.plan client)) ≡ None
  pub known : KnowsFirst (view_on g) g.plan client row.desk.seat.statements (client.taken - 1)
  pub stands : row.desk.seat.answered ≡ true → KnowsFirst (view_on g) g.plan client row.desk.seat.statements client.taken
  pub unserved : (ordinal : ℕ) → 0 < ordinal → ordinal ≤ client.taken → is_some (own_at g.plan g.tale.moment (name_of client ordinal)) ≡ true
      → (view_on g).replies (name_of client ordinal) ≡ None

abbrev pub ArePrepared : Ground → Tabled → Type 0
ArePrepared g t =
    (client : tales.Client) → IsSeated g.tale client → (row : Client) → t.clients client.number ≡ Some row
    → is_ended row.desk.seat.phase ≡ false → IsPrepared g client row

-- What became due goes by the route of its message, in its hostgroup and with its word on sharing the link, and only what is prepared gets a number of its client's: a text, by the route's key and where
-- its client stands; or an execute of what is prepared by its key, with whole arguments.

abbrev pub IsTextAt : Key → (text schema : List ℕ) → (settings : List SlotValue) → Type 0
IsTextAt key text schema settings =
    (text ≡ key.text) × ((schema ≡ key.place.schema) × (core settings ≡ core key.place.settings))

abbrev pub IsKeyedFor : Setup → Route → Due → Command → Type 0
IsKeyedFor setup route due (Prepare text) =
    (route.key ≡ due.key) × ((setup.keys due.key ≡ record { text = text; place = due.place }) × (0 < route.number))
IsKeyedFor setup route due (Run text schema settings args) = (route.number ≡ 0) × IsTextAt (setup.keys due.key) text schema settings
IsKeyedFor setup route due _ = route.number ≡ 0

pub record IsDuly (setup : Setup) (plan : Plan) (n : SessionName) (due : Due) : Type 0 where
  pub route : Route
  pub routed : plan.routes (message_of n due) ≡ Some route
  pub hostgroup : route.hostgroup ≡ n.hostgroup
  pub multiplex : route.multiplex ≡ due.multiplex
  pub keyed : IsKeyedFor setup route due due.command
  pub whole : HasArgs due.command

-- each, as it became due
abbrev pub AreDuly : Setup → Plan → Story → Type 0
AreDuly setup plan story = AllBecame setup (IsDuly setup plan) story

-- By what the router serves: how clients log in, and how many bytes for a client wait while its messages do.
pub record Stands (service : Service) (g : Ground) (t : Tabled) : Type 0 where
  pub service_is : g.plan.service ≡ service
  pub room_is : g.plan.room ≡ 1048576
  pub clients : AreClients g t
  pub servers : (l : LinkId) → IsServerOr g t l (t.links l)
  pub homes : AreHomes g t
  pub lawful : IsLawful g.setup g.tale.story
  pub prepared : ArePrepared g t
  pub duly : AreDuly g.setup g.plan g.tale.story

-- Between two entries no link is to be given back, and of no client a message is up but of those who have room again.

abbrev pub IsCalm : Ground → (roomy : ClientNo → Bool) → tales.Client → Type 0
IsCalm g roomy client = g.over client.number ≡ false → roomy client.number ≡ false → IsIdle g.setup g.plan g.tale client

pub record Rests (service : Service) (g : Ground) (t : Tabled) (roomy : ClientNo → Bool) : Type 0 where
  pub stands : Stands service g t
  pub over : AreOver g
  pub looked : (c : ClientNo) → g.fresh c ≡ false
  pub rested : NoneDone g.setup g.plan g.tale
  pub calm : All (IsCalm g roomy) g.tale.clients
