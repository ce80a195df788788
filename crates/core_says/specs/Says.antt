-- What is to be read and written, by the tables; and which links a change of one row concerns.
use Rattle.std.specs.Prelude.{◌≡◌, Bool, true, false, not, ◌&&◌, ◌||◌, nat_eq, if◌then◌else◌, IsSome, Option, Some, None}
use Rattle.std.specs.Option.{option_map_or}
use Rattle.mx_base.specs.{Sent.Sent, declared.names.ClientNo.ClientNo, declared.names.Hostgroup.Hostgroup, declared.names.LinkId.LinkId}
use Rattle.session_state.specs.declared.names.SessionName.{SessionName}
use Rattle.link_state.specs.declared.asking.Purpose.{Purpose}
use Rattle.link_state.specs.declared.asking.Purpose.TheVariants as purposes
use Rattle.lent_link.specs.declared.link.Begins.{Begins}
use Rattle.lent_link.specs.declared.link.Begins.TheVariants as begins
use Rattle.client_seat.specs.Seats.{has_room, wants_read}
use Rattle.client_desk.specs.Desks.{session_of}
use Rattle.served_link.specs.declared.row.Row.{Row}
use Rattle.core_tables.specs.Parting.{name_in}
use Rattle.core_tables.specs.Passing as passing
use Rattle.core_tables.specs.Tables.{Tabled}
use Rattle.core_tables.specs.declared.client.Client.{Client}
use Rattle.core_tables.specs.declared.server.Server.{Server}

abbrev pub is_at : LinkId → Option LinkId → Bool
is_at link at = option_map_or (λ (other : LinkId). nat_eq other.0 link.0) at false

abbrev pub is_home : LinkId → Hostgroup → Client → Bool
is_home link h row = is_at link (session_of row.desk h).home

-- A link to a server is read, and written to, where it is neither lost nor spoilt. It isn't read while the client whose present session it
-- carries has no room.

abbrev pub is_sound : Row → Bool
is_sound row = not row.lost && not row.link.spoilt

abbrev pub is_free_by : LinkId → SessionName → Client → Bool
is_free_by link n row = has_room row.desk.seat || not (is_home link n.hostgroup row)

abbrev pub is_free_for : LinkId → SessionName → Option Client → Bool
is_free_for link n row = option_map_or (is_free_by link n) row true

abbrev pub is_free : Tabled → LinkId → Option SessionName → Bool
is_free t link None = true
is_free t link (Some n) = is_free_for link n (t.clients n.client)

-- A client is read, and written to, on its own link.

abbrev pub is_own : LinkId → Client → Bool
is_own link row = nat_eq row.desk.seat.link.0 link.0

abbrev pub is_own_of : LinkId → Option Client → Bool
is_own_of link row = option_map_or (is_own link) row false

abbrev pub reads_row : LinkId → Client → Bool
reads_row link row = is_own link row && wants_read row.desk.seat

abbrev pub reads_client : Tabled → LinkId → Option ClientNo → Bool
reads_client t link None = false
reads_client t link (Some c) = option_map_or (reads_row link) (t.clients c) false

abbrev pub is_clients : Tabled → LinkId → Option ClientNo → Bool
is_clients t link None = false
is_clients t link (Some c) = is_own_of link (t.clients c)

abbrev pub reads_by : Option Server → Tabled → LinkId → Bool
reads_by None t link = reads_client t link (t.numbers link)
reads_by (Some server) t link = is_sound server.row && is_free t link (name_in server.row.link.state.carries)

abbrev pub reads_in : Tabled → LinkId → Bool
reads_in t link = reads_by (t.links link) t link

-- What begins by what is at a client's desk is written only where that client's row names the link: as readied for it, or as the one that
-- carries the session.

abbrev pub asks_for : Purpose → Option SessionName
asks_for (purposes.Statement n ordinal key) = Some n
asks_for (purposes.Prep n ordinal key) = Some n
asks_for (purposes.Sync n) = Some n
asks_for purposes.Own = None
asks_for (purposes.End n) = None
asks_for (purposes.Capture n) = Some n

abbrev pub begins_for : Option Begins → Option SessionName
begins_for (Some (begins.Asks asking)) = asks_for asking.purpose
begins_for _ = None

abbrev pub names : LinkId → Hostgroup → Client → Bool
names link h row = is_at link row.note.readied || is_home link h row

abbrev pub is_named_for : LinkId → SessionName → Option Client → Bool
is_named_for link n row = option_map_or (names link n.hostgroup) row false

abbrev pub is_named : Tabled → LinkId → Option SessionName → Bool
is_named t link None = true
is_named t link (Some n) = is_named_for link n (t.clients n.client)

abbrev pub sends_by : Option Server → Tabled → LinkId → Option Sent
sends_by None t link = if is_clients t link (t.numbers link) then passing.sends link t else None
sends_by (Some server) t link =
    if is_sound server.row && is_named t link (begins_for server.row.link.next) then passing.sends link t else None

abbrev pub sends_in : Tabled → LinkId → Option Sent
sends_in t link = sends_by (t.links link) t link

-- no more is read or written there than was
pub record IsQuieter (old new : Tabled) (link : LinkId) : Type 0 where
  pub read : reads_in new link ≡ true → reads_in old link ≡ true
  pub written : IsSome (sends_in new link) → IsSome (sends_in old link)

-- A client's row has nothing to do with a link: that isn't the client's own, and the row doesn't name it.
pub record IsNoneOf (link : LinkId) (row : Option Client) : Type 0 where
  pub own : is_own_of link row ≡ false
  pub unnamed : (h : Hostgroup) → option_map_or (names link h) row false ≡ false

-- neither before nor behind a change
pub record IsApart (t : Tabled) (c : ClientNo) (row : Option Client) (link : LinkId) : Type 0 where
  pub was : IsNoneOf link (t.clients c)
  pub becomes : IsNoneOf link row
