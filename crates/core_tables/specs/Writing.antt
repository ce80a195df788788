-- Bytes are written on a link to a server: with the first of a question that begins.
use Rattle.std.specs.Prelude.{ℕ, Bool, false, Option, Some, None}
use Rattle.std.specs.Option.{option_map_or}
use Rattle.mx_base.specs.declared.names.Hostgroup.{Hostgroup}
use Rattle.mx_base.specs.declared.names.LinkId.{LinkId}
use Rattle.link_state.specs.declared.asking.Purpose.{Purpose}
use Rattle.link_state.specs.declared.asking.Purpose.TheVariants as purposes
use Rattle.mx_base.specs.Sent.{MayTake}
use Rattle.lent_link.specs.Links.{left_in}
use Rattle.lent_link.specs.declared.link.Begins.{Begins}
use Rattle.lent_link.specs.declared.link.Begins.TheVariants as begins
use Rattle.served_link.specs.Rows.{new_row}
use Rattle.served_link.specs.Writes.{began, next_kind, wrote}
use Rattle.served_link.specs.declared.row.Opening.{Opening}
use Rattle.served_link.specs.declared.row.Row.{Row}
use Rattle.server_side.specs.Account.{Account}
use Rattle.session_state.specs.declared.names.SessionName.{SessionName}
use Rattle.client_desk.specs.Desks.{lent, sent}
use Rattle.client_desk.specs.Works.{outlasts}
use Rattle.core_tables.specs.Tables.{Tabled, client_changed, link_changed, link_put}
use Rattle.core_tables.specs.declared.client.Client.{Client}
use Rattle.core_tables.specs.declared.server.Server.{Server}

-- a reset may not take back what begins there
abbrev pub lasts : Option Begins → Bool
lasts (Some (begins.Asks asking)) = outlasts asking.form
lasts _ = false

-- a statement went out: it is its client's work
abbrev pub client_sent : Hostgroup → LinkId → (lasting : Bool) → Client → Client
client_sent h l lasting client = record client { desk = sent h l lasting client.desk }

-- the preparation of its text went out: the link is lent to its session

abbrev pub client_lent : Hostgroup → LinkId → Client → Client
client_lent h l client = record client { desk = lent h l client.desk }

abbrev pub lent_to : LinkId → SessionName → Tabled → Tabled
lent_to l name t = client_changed name.client (client_lent name.hostgroup l) t

abbrev pub begun_for : Option Purpose → LinkId → (lasting : Bool) → Tabled → Tabled
begun_for (Some (purposes.Statement name ordinal key)) l lasting t = client_changed name.client (client_sent name.hostgroup l lasting) t
begun_for (Some (purposes.Prep name ordinal key)) l lasting t = lent_to l name t
begun_for _ l lasting t = t

abbrev pub purpose_next : Row → Option Purpose
purpose_next row = began (next_kind row.link)

abbrev pub server_wrote : (count now : ℕ) → Server → Server
server_wrote count now server = record server { row = wrote count now server.row }

abbrev pub wrote_by : Option Server → LinkId → (count now : ℕ) → Tabled → Tabled
wrote_by None l count now t = t
wrote_by (Some server) l count now t =
    begun_for (purpose_next server.row) l (lasts server.row.link.next) (link_changed l (server_wrote count now) t)

abbrev pub wrote_on : LinkId → (count now : ℕ) → Tabled → Tabled
wrote_on l count now t = wrote_by (t.links l) l count now t

-- what began, which the code hands on
abbrev pub began_on : LinkId → Tabled → Option Purpose
began_on l t = option_map_or (λ (server : Server). purpose_next server.row) (t.links l) None

-- A link to a server is opened.
abbrev pub opened : LinkId → (slot : ℕ) → Opening → Account → (now : ℕ) → Tabled → Tabled
opened l slot opening account now t = link_put l (Some (record { row = new_row opening account now; slot = slot; spot = None })) t

-- no more is written of a link than there is
abbrev pub IsWritableOf : Option Server → (count : ℕ) → Type 0
IsWritableOf None count = Unit {0}
IsWritableOf (Some server) count = MayTake (left_in server.row.link) count

abbrev pub IsWritable : LinkId → (count : ℕ) → Tabled → Type 0
IsWritable l count t = IsWritableOf (t.links l) count
