-- What tables become where statements are given up, clients leave, and links are given back, lost and forgotten.
use Rattle.std.specs.Prelude.{◌≡◌, ℕ, Bool, true, false, not, ◌&&◌, ◌||◌, nat_eq, if◌then◌else◌, is_some, List, [], ◌∷◌, Option, Some, None}
use Rattle.std.specs.Option.{option_and_then, option_map, option_map_or, option_or}
use Rattle.mx_base.specs.declared.names.ClientNo.{ClientNo}
use Rattle.mx_base.specs.declared.names.Hostgroup.{Hostgroup}
use Rattle.mx_base.specs.declared.names.LinkId.{LinkId}
use Rattle.session_state.specs.Pins.{no_pin}
use Rattle.session_state.specs.declared.names.SessionName.{SessionName}
use Rattle.client_seat.specs.declared.seat.Seat.{Seat}
use Rattle.private_model.specs.Story.{is_name}
use Rattle.client_desk.specs.Desks.{carried_of, freed, gave_up, gone, left, name_of}
use Rattle.client_desk.specs.declared.desk.Desk.{Desk}
use Rattle.client_desk.specs.declared.work.Work.{Work}
use Rattle.client_desk.specs.declared.session.Session.{Session}
use Rattle.link_state.specs.declared.state.Carried.{Carried}
use Rattle.link_state.specs.declared.state.Carried.TheVariants.{Nobody, Lent, Joined}
use Rattle.link_state.specs.declared.wish.Session as links
use Rattle.served_link.specs.Rests.{is_done}
use Rattle.served_link.specs.Rows as rows
use Rattle.served_link.specs.declared.row.LeftSession.{LeftSession}
use Rattle.core_tables.specs.Tables.{Tabled, client_changed, client_put, link_changed, link_put}
use Rattle.core_tables.specs.declared.client.Client.{Client}
use Rattle.core_tables.specs.declared.server.Server.{Server}

-- one row of a table changes, where it is there
abbrev pub IsRowChanged : {A : Type 0} → (key : ℕ) → (A → A) → (old new : ℕ → Option A) → Type 0
IsRowChanged key by old new = (k : ℕ) → new k ≡ (if nat_eq key k then option_map by (old key) else old k)

-- The router answers statements in work itself.

abbrev pub given_row : Option (List ℕ) → Client → Client
given_row None row = row
given_row (Some payload) row = record row { desk = gave_up payload row.desk }

-- of each client for whom there is a payload
abbrev pub given_up_in : (ClientNo → Option (List ℕ)) → Tabled → Tabled
given_up_in given t = record t { clients = λ c. option_map (given_row (given c)) (t.clients c) }

-- of one
abbrev pub given_up : ClientNo → (payload : List ℕ) → Tabled → Tabled
given_up c payload t = client_changed c (given_row (Some payload)) t

-- a payload for this client alone
abbrev pub given_to : ClientNo → (payload : List ℕ) → ClientNo → Option (List ℕ)
given_to c payload other = if nat_eq c.0 other.0 then Some payload else None

-- A client leaves its sessions: links that carry them keep what is known of them.

abbrev pub kept_of : Session → LeftSession
kept_of s = record { pin = s.pin; id = s.id; lasting = s.lasting }

abbrev pub parted_row : LeftSession → Server → Server
parted_row kept server = record server { row = rows.left_by kept server.row }

-- what a link keeps, if it is the home of one of these

abbrev pub kept_by : LinkId → (home : Option LinkId) → Session → Option LeftSession
kept_by at None s = None
kept_by at (Some l) s = if nat_eq l.0 at.0 then Some (kept_of s) else None

abbrev pub kept_at : LinkId → List Session → Option LeftSession
kept_at at [] = None
kept_at at (s ∷ sessions) = option_or (kept_at at sessions) (kept_by at s.home s)

abbrev pub with_kept : Option LeftSession → Server → Server
with_kept None server = server
with_kept (Some kept) server = parted_row kept server

abbrev pub parted_in : List Session → Tabled → Tabled
parted_in sessions t = record t { links = λ at. option_map (with_kept (kept_at at sessions)) (t.links at) }

abbrev pub left_row : (Seat → Seat) → Client → Client
left_row by row = record row { desk = record (left row.desk) { seat = by row.desk.seat } }

-- a client's seat becomes another
abbrev pub with_seat : (Seat → Seat) → Client → Client
with_seat by row = record row { desk = record row.desk { seat = by row.desk.seat } }

-- it leaves with another seat
abbrev pub left_in : ClientNo → (Seat → Seat) → Tabled → Tabled
left_in c by t = option_map_or (λ (row : Client). client_put c (Some (left_row by row)) (parted_in row.desk.sessions t)) (t.clients c) t

-- Whose session a link carries, if that is the client's present one.

abbrev pub name_in : Carried → Option SessionName
name_in Nobody = None
name_in (Lent n) = Some n
name_in (Joined n) = Some n

abbrev pub present_at : Server → Option SessionName
present_at server = if server.row.lost || is_some server.row.left then None else name_in server.row.link.state.carries

abbrev pub present_in : LinkId → Tabled → Option SessionName
present_in l t = option_and_then present_at (t.links l)

abbrev pub changed_for : (Hostgroup → Client → Client) → Option SessionName → ClientNo → Option Client → Option Client
changed_for by None c row = row
changed_for by (Some n) c row = if nat_eq n.client.0 c.0 then option_map (by n.hostgroup) row else row

-- the row of its client changes
abbrev pub changed_at : (Hostgroup → Client → Client) → Option SessionName → Tabled → Tabled
changed_at by n t = record t { clients = λ c. changed_for by n c (t.clients c) }

-- A link is lost: with it the present session that it carries.

abbrev pub lost_row : Server → Server
lost_row server = record server { row = rows.lost server.row }

abbrev pub gone_row : Hostgroup → Client → Client
gone_row h row = record row { desk = gone h row.desk }

abbrev pub lost_in : LinkId → Tabled → Tabled
lost_in l t = link_changed l lost_row (changed_at gone_row (present_in l t) t)

-- A link is given back.

abbrev pub freed_server : Server → Server
freed_server server = record server { row = rows.freed server.row }

abbrev pub freed_row : Hostgroup → Client → Client
freed_row h row = record row { desk = freed h row.desk }

abbrev pub freed_of : LinkId → Tabled → Tabled
freed_of l t = link_changed l freed_server (changed_at freed_row (present_in l t) t)

-- where it is done with the session that it carries, as that is at its client's desk

abbrev pub no_session : links.Session
no_session = record { present = true; pin = no_pin; id = Some 0; lasting = false }

abbrev pub at_desk : SessionName → Option Client → links.Session
at_desk n row = option_map_or (λ (client : Client). carried_of client.desk n.hostgroup) row no_session

-- the router answered itself what the link was lent for: its client has no such statement to send any more

abbrev pub waits_in : SessionName → Desk → Work → Bool
waits_in n desk work = not work.sent && is_name n (name_of desk work.hostgroup)

abbrev pub is_given_up : SessionName → Option Client → Bool
is_given_up n row = not (option_map_or (λ (client : Client). option_map_or (waits_in n client.desk) client.desk.work false) row false)

abbrev pub is_done_for : Tabled → Server → Option SessionName → Bool
is_done_for t server None = false
is_done_for t server (Some n) = is_done server.row (at_desk n (t.clients n.client)) (is_given_up n (t.clients n.client))

abbrev pub is_done_in : LinkId → Tabled → Bool
is_done_in l t = option_map_or (λ server. is_done_for t server (name_in server.row.link.state.carries)) (t.links l) false

abbrev pub freed_in : LinkId → Tabled → Tabled
freed_in l t = if is_done_in l t then freed_of l t else t

-- A link that was lost or closed is forgotten.
abbrev pub unlinked : LinkId → Tabled → Tabled
unlinked l t = link_put l None t
