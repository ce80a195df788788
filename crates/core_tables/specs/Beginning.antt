-- What stands next on a link: its client's statement, a step, the question for an insert id, the end of a session, or the QUIT.
use Rattle.std.specs.Prelude.{ℕ, ◌+◌, nat_lt, Bool, not, ◌&&◌, if◌then◌else◌, List, Option, Some, None}
use Rattle.std.specs.Option.{option_map}
use Rattle.mx_base.specs.declared.names.LinkId.{LinkId}
use Rattle.session_state.specs.declared.names.SessionName.{SessionName}
use Rattle.link_state.specs.declared.asking.Asking.{Asking}
use Rattle.link_state.specs.declared.asking.Form.{Form}
use Rattle.link_state.specs.declared.asking.Purpose.{Purpose}
use Rattle.link_state.specs.declared.asking.Purpose.TheVariants as purposes
use Rattle.link_state.specs.declared.wish.Command as links
use Rattle.link_state.specs.declared.wish.Command.TheVariants.{Execute, Prepare}
use Rattle.link_state.specs.declared.wish.Wish.{Wish}
use Rattle.stmt_map.specs.declared.client.ClientStatements.{ClientStatements}
use Rattle.link_state.specs.declared.writing.Writing.{Writing}
use Rattle.lent_link.specs.declared.link.Begins.{Begins}
use Rattle.lent_link.specs.declared.link.Begins.TheVariants as begins
use Rattle.served_link.specs.Begins.{captures, ends, farewell, step_begins}
use Rattle.served_link.specs.Rows.{taken_back}
use Rattle.served_link.specs.States.{states}
use Rattle.served_link.specs.declared.row.Row.{Row}
use Rattle.served_link.specs.declared.stating.Stated.{Stated}
use Rattle.client_desk.specs.Works.{formless, given_back, packets_in, without_packets}
use Rattle.client_desk.specs.declared.desk.Desk.{Desk}
use Rattle.client_desk.specs.declared.work.Work.{Work}
use Rattle.core_tables.specs.Passing.{is_of}
use Rattle.core_tables.specs.Tables.{Tabled, client_changed, client_put, link_changed, link_put}
use Rattle.core_tables.specs.declared.client.Client.{Client}
use Rattle.core_tables.specs.declared.server.Server.{Server}

abbrev pub with_row : (Row → Row) → Server → Server
with_row by server = record server { row = by server.row }

abbrev pub with_work : Option Work → Client → Client
with_work work client = record client { desk = record client.desk { work = work } }

-- The client's work: its form and its packets go to the link.

-- the number by which its client will know what it prepares

abbrev pub first_number : links.Command → ClientStatements → ℕ
first_number Prepare statements = if nat_lt statements.last 4294967295 then statements.last + 1 else 0
first_number _ statements = 0

abbrev pub stated_of : Desk → SessionName → Work → Stated
stated_of desk name work =
    record { name = name; ordinal = work.ordinal; key = work.key; multiplex = work.multiplex; first = desk.seat.first; number = first_number work.command desk.seat.statements }

abbrev pub text_stands : Stated → Option Form → (packets : Option (List ℕ)) → Row → Row
text_stands s (Some form) (Some packets) row = states s form packets row
text_stands s _ _ row = row

abbrev pub text_by : LinkId → SessionName → Client → Option Work → Tabled → Tabled
text_by l name client None t = t
text_by l name client (Some work) t =
    link_changed l (with_row (text_stands (stated_of client.desk name work) work.form (packets_in work.body)))
    (client_put name.client (Some (with_work (Some (without_packets (formless work))) client)) t)

abbrev pub text_for : LinkId → SessionName → Option Server → Option Client → Tabled → Tabled
text_for l name (Some server) (Some client) t = text_by l name client client.desk.work t
text_for l name _ _ t = t

abbrev pub text_begun : LinkId → SessionName → Tabled → Tabled
text_begun l name t = text_for l name (t.links l) (t.clients name.client) t

-- The router's own.

abbrev pub step_begun : LinkId → Purpose → Wish → Tabled → Tabled
step_begun l purpose wish t = link_changed l (with_row (step_begins purpose wish)) t

abbrev pub capture_begun : LinkId → SessionName → Tabled → Tabled
capture_begun l name t = link_changed l (with_row (captures name)) t

abbrev pub end_begun : LinkId → SessionName → Tabled → Tabled
end_begun l name t = link_changed l (with_row (ends name)) t

abbrev pub quit_begun : LinkId → Tabled → Tabled
quit_begun l t = link_changed l (with_row farewell) t

-- What stands next is taken back: a statement to its desk, where it is that client's unsent work still.

-- the arguments of an execute stayed there
abbrev pub packets_back : links.Command → (packets : List ℕ) → Option (List ℕ)
packets_back Execute packets = None
packets_back _ packets = Some packets

abbrev pub given_to : SessionName → (ordinal : ℕ) → Form → (packets : List ℕ) → Desk → Work → Work
given_to name ordinal form packets desk work =
    if not work.sent && is_of name ordinal desk work then given_back form (packets_back work.command packets) work else work

abbrev pub client_given : SessionName → (ordinal : ℕ) → Form → (packets : List ℕ) → Client → Client
client_given name ordinal form packets client =
    with_work (option_map (given_to name ordinal form packets client.desk) client.desk.work) client

abbrev pub given_for : Purpose → Form → (packets : List ℕ) → Tabled → Tabled
given_for (purposes.Statement name ordinal key) form packets t = client_changed name.client (client_given name ordinal form packets) t
given_for _ form packets t = t

abbrev pub given : Option Begins → Option Writing → Tabled → Tabled
given (Some (begins.Asks asking)) (Some w) t = given_for asking.purpose asking.form w.bytes t
given _ _ t = t

abbrev pub back_by : LinkId → Option Server → Tabled → Tabled
back_by l None t = t
back_by l (Some server) t = link_changed l (with_row taken_back) (given server.row.link.next server.row.link.writing t)

abbrev pub next_back : LinkId → Tabled → Tabled
next_back l t = back_by l (t.links l) t
