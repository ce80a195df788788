-- What happens between the router and the servers.
use Rattle.std.specs.Prelude.{ℕ, Bool, ◌&&◌, nat_eq, if◌then◌else◌, List, Option}
use Rattle.private_model.specs.Names.{ClientNo, Hostgroup, LinkId, ServerId, MessageName, SessionName}
use Rattle.private_model.specs.Commands.{Account, Command, Prepare, ReadId, Reply, Reset}
use Rattle.session_state.specs.declared.place.Place.{Place}

abbrev pub is_link_id : LinkId → LinkId → Bool
is_link_id a b = nat_eq a.0 b.0

abbrev pub is_server : ServerId → ServerId → Bool
is_server a b = nat_eq a.0 b.0

abbrev pub is_client : ClientNo → ClientNo → Bool
is_client a b = nat_eq a.0 b.0

abbrev pub is_hostgroup : Hostgroup → Hostgroup → Bool
is_hostgroup a b = nat_eq a.0 b.0

abbrev pub is_name : SessionName → SessionName → Bool
is_name a b = is_client a.client b.client && (is_hostgroup a.hostgroup b.hostgroup && nat_eq a.life b.life)

abbrev pub is_message : MessageName → MessageName → Bool
is_message a b = is_client a.client b.client && nat_eq a.ordinal b.ordinal

-- a table with one entry put
abbrev pub put : {K A : Type 0} → (is : K → K → Bool) → (K → A) → K → A → K → A
put is f key value k = if is k key then value else f k

-- A text that is prepared, with the schema and settings of its preparation; autocommit among them doesn't count.
pub record Key : Type 0 where
  pub text : List ℕ
  pub place : Place

-- A statement as it became due: the schema and settings that its client wants then, and whether its session was unpinned.
pub record Due : Type 0 where
  pub ordinal : ℕ
  pub place : Place
  pub anew : Bool
  pub command : Command  -- a Run with the place of its key
  pub key : ℕ  -- of a preparation or a Run
  pub multiplex : Option Bool

-- What goes to a server: a client's statement, the preparation of its text, a step in its session, a step in nobody's, the end of a session, the question for its insert id.
pub data Question : Type 0 where
  Statement : SessionName → Due → Question
  Prep : SessionName → (key : ℕ) → (text : List ℕ) → Question
  Sync : SessionName → Command → Question
  Own : Command → Question
  End : SessionName → Question
  Capture : SessionName → Question

abbrev pub message_of : SessionName → Due → MessageName
message_of n due = record { client = n.client; ordinal = due.ordinal }

-- what a client's statement makes of something, which every other question leaves as it is
abbrev pub for_statement : {A : Type 0} → Question → (SessionName → Due → A) → A → A
for_statement (Statement n due) changed old = changed n due
for_statement _ changed old = old

abbrev pub command_of : Question → Command
command_of (Statement n due) = due.command
command_of (Prep n key text) = Prepare text
command_of (Sync n command) = command
command_of (Own command) = command
command_of (End n) = Reset
command_of (Capture n) = ReadId

pub data Happening : Type 0 where
  LoggedIn : (link : LinkId) (server : ServerId) (account : Account) → Happening
  BecameDue : (client : ClientNo) (hostgroup : Hostgroup) (ordinal key : ℕ) → Command → (multiplex : Option Bool) → Happening
  Sent : (link : LinkId) → Question → Happening
  Ran : (link : LinkId) → Happening
  Heard : (link : LinkId) → Reply → Happening
  Freed : (link : LinkId) → Happening
  Unprepared : (link : LinkId) (number : ℕ) → Happening
  Dropped : (link : LinkId) → Happening
  Gone : (link : LinkId) → Happening
  Left : (client : ClientNo) → Happening
  Broke : Happening  -- something is sent that may not be, or a message goes to a server that asks it for nothing
  Mirrored : (client job : ClientNo) → Happening  -- a copy of its statement is made: a client of its own, with this one's schema and settings

-- the last that happened stands first
abbrev pub Story : Type 0
Story = List Happening
