-- What leaves a client or the row of a link as it stands, and how links and homes agree.
use Rattle.std.specs.Prelude.{◌≡◌, ◌⊎◌, ℕ, Bool, true, false, nat_eq, List, Option, Some, None}
use Rattle.std.specs.Option.{option_map}
use Rattle.mx_base.specs.declared.names.Hostgroup.{Hostgroup}
use Rattle.private_model.specs.Names.{ClientNo, LinkId, SessionName}
use Rattle.private_model.specs.Story.{BecameDue, Happening, is_message}
use Rattle.private_model.specs.View as views
use Rattle.private_model.specs.View.{Held, Link, Stage, View, session_in}
use Rattle.link_state.specs.declared.asking.Purpose.{Purpose}
use Rattle.link_state.specs.declared.asking.Purpose.TheVariants as purposes
use Rattle.link_state.specs.declared.state.Stage as links
use Rattle.link_state.specs.declared.state.Stage.TheVariants.{Quiet, Asked, Answered}
use Rattle.lent_link.specs.declared.link.Begins.{Begins}
use Rattle.lent_link.specs.declared.link.Begins.TheVariants as begins
use Rattle.served_link.specs.declared.row.Row.{Row}
use Rattle.desk_laws.specs.Spares.{asked_for}
use Rattle.row_laws.specs.Apart.{IsSpared}
use Rattle.row_laws.specs.Whose.{name_in}
use Rattle.client_desk.specs.declared.work.Work.{Work}
use Rattle.core_tables.specs.Tables.{Tabled}
use Rattle.core_tables.specs.declared.client.Client.{Client}
use Rattle.core_tables.specs.declared.server.Server.{Server}

-- A happening spares the row of a link where it leaves the session that the link carries, and makes no message due that is on its way there: its
-- statement stands next, or the preparation of its text.

abbrev pub SparesDue : SessionName → (at : ℕ) → Happening → Type 0
SparesDue n at (BecameDue client hostgroup ordinal key command multiplex) =
    is_message (record { client = n.client; ordinal = at }) (record { client = client; ordinal = ordinal }) ≡ false
SparesDue n at e = Unit {0}

abbrev pub SparesNextFor : Purpose → Happening → Type 0
SparesNextFor (purposes.Statement n at code) e = SparesDue n at e
SparesNextFor (purposes.Prep n at code) e = SparesDue n at e
SparesNextFor purpose e = Unit {0}

abbrev pub SparesNext : Option Begins → Happening → Type 0
SparesNext (Some (begins.Asks asking)) e = SparesNextFor asking.purpose e
SparesNext next e = Unit {0}

pub record SparesRow (seen : View) (e : Happening) (row : Row) : Type 0 where
  pub session : row.lost ≡ false → (n : SessionName) → name_in row.link.state.carries ≡ Some n → IsSpared seen e n row.left
  pub next : SparesNext row.link.next e

abbrev pub SparesRowOr : View → Happening → Option Server → Type 0
SparesRowOr seen e None = Unit {0}
SparesRowOr seen e (Some server) = SparesRow seen e server.row

-- What the row of a link reads of a client: the id of a reply's first packet, what came of one, and which statement is in work, where.

pub record Stated : Type 0 where
  pub ordinal : ℕ
  pub hostgroup : Hostgroup
  pub sent : Bool

pub record Glance : Type 0 where
  pub first : ℕ
  pub coming : List ℕ
  pub work : Option Stated

abbrev pub stated : Work → Stated
stated work = record { ordinal = work.ordinal; hostgroup = work.hostgroup; sent = work.sent }

abbrev pub glance : Client → Glance
glance row = record { first = row.desk.seat.first; coming = row.desk.seat.outbox.coming; work = option_map stated row.desk.work }

abbrev pub IsGlanced : (t other : Tabled) → ClientNo → Type 0
IsGlanced t other c = option_map glance (other.clients c) ≡ option_map glance (t.clients c)

-- this message isn't in work
abbrev pub IsNotInWork : Tabled → ClientNo → (ordinal : ℕ) → Type 0
IsNotInWork t c ordinal = (row : Client) (work : Work) → t.clients c ≡ Some row → row.desk.work ≡ Some work → nat_eq work.ordinal ordinal ≡ false

-- Of the client whose statement stands next the row reads the same, or that statement isn't in work; and of the one whose statement stands there
-- the same, where the link is sound.

abbrev pub KeepsNextFor : (t other : Tabled) → Purpose → Type 0
KeepsNextFor t other (purposes.Statement n ordinal key) = IsGlanced t other n.client ⊎ IsNotInWork other n.client ordinal
KeepsNextFor t other purpose = Unit {0}

abbrev pub KeepsNext : (t other : Tabled) → Option Begins → Type 0
KeepsNext t other (Some (begins.Asks asking)) = KeepsNextFor t other asking.purpose
KeepsNext t other next = Unit {0}

abbrev pub client_in : Purpose → Option ClientNo
client_in (purposes.Statement n ordinal key) = Some n.client
client_in purpose = None

-- whose statement stands there
abbrev pub client_at : links.Stage → Option ClientNo
client_at Quiet = None
client_at (Asked asking) = client_in asking.purpose
client_at (Answered asking) = client_in asking.purpose

pub record Keeps (t other : Tabled) (row : Row) : Type 0 where
  pub next : KeepsNext t other row.link.next
  pub there : row.link.spoilt ≡ false → row.lost ≡ false → row.left ≡ None → (c : ClientNo) → client_at row.link.state.stage ≡ Some c → IsGlanced t other c

abbrev pub KeepsOr : (t other : Tabled) → Option Server → Type 0
KeepsOr t other None = Unit {0}
KeepsOr t other (Some server) = Keeps t other server.row

-- The statement in work of the client whose statement stands on a link.
pub record IsStated (t : Tabled) (c : ClientNo) (client : Client) (work : Work) : Type 0 where
  pub there : t.clients c ≡ Some client
  pub in_work : client.desk.work ≡ Some work
  pub sent : work.sent ≡ true

-- The session that a link carries has it as its home, and no other; and what stands on a link is of the session that it carries.

abbrev pub asker_at : Stage → Option SessionName
asker_at views.Quiet = None
asker_at (views.Asked question) = asked_for question
asker_at (views.Answered question) = asked_for question

pub record AreHomed (links : LinkId → Link) (held : SessionName → Held) : Type 0 where
  pub home : (l : LinkId) (n : SessionName) → session_in (links l).carries ≡ Some n → (held n).home ≡ Some l
  pub back : (n : SessionName) (l : LinkId) → (held n).home ≡ Some l → session_in (links l).carries ≡ Some n
  pub asked : (l : LinkId) (n : SessionName) → asker_at (links l).stage ≡ Some n → session_in (links l).carries ≡ Some n
