-- What stands next on a link for what is prepared, and what a client has prepared.
use Rattle.std.specs.Prelude.{◌≡◌, ◌+◌, ℕ, nat_lt, Bool, true, false, is_some, if◌then◌else◌, List, [], ◌∷◌, Option, Some, None}
use Rattle.std.specs.Option.{option_and_then}
use Rattle.mx_base.specs.declared.names.ClientNo.{ClientNo}
use Rattle.mx_base.specs.declared.names.LinkId.{LinkId}
use Rattle.session_state.specs.declared.names.SessionName.{SessionName}
use Rattle.session_state.specs.Endings.{is_prepared}
use Rattle.session_state.specs.declared.reply_end.ReplyEnd.{ReplyEnd}
use Rattle.session_vars.specs.declared.long_part.LongPart.{LongPart}
use Rattle.stmt_map.specs.Client.{Changes, fresh}
use Rattle.stmt_map.specs.declared.client.ClientStatements.{ClientStatements}
use Rattle.stmt_map.specs.declared.statement.Prepared.{Prepared}
use Rattle.link_state.specs.Spells.{executes}
use Rattle.link_state.specs.Stood.{number_of}
use Rattle.link_state.specs.declared.asking.Form.{Form}
use Rattle.link_state.specs.declared.asking.Purpose.{Purpose}
use Rattle.link_state.specs.declared.asking.Purpose.TheVariants as purposes
use Rattle.served_link.specs.Begins.{prepares}
use Rattle.served_link.specs.States.{runs}
use Rattle.served_link.specs.declared.row.Row.{Row}
use Rattle.served_link.specs.declared.stating.Stated.{Stated}
use Rattle.client_desk.specs.Works.{formless}
use Rattle.client_desk.specs.declared.work.Body.{Body}
use Rattle.client_desk.specs.declared.work.Body.TheVariants.{Run}
use Rattle.client_desk.specs.declared.work.Work.{Work}
use Rattle.client_seat.specs.declared.seat.Seat.{Seat}
use Rattle.core_tables.specs.Arrivals.{seated}
use Rattle.core_tables.specs.Beginning.{stated_of, with_row, with_work}
use Rattle.core_tables.specs.Tables.{IsSame, Tabled, client_put, link_changed}
use Rattle.core_tables.specs.declared.client.Client.{Client}
use Rattle.core_tables.specs.declared.said.Said.{Said}
use Rattle.core_tables.specs.declared.said.Said.TheVariants as said
use Rattle.core_tables.specs.declared.server.Server.{Server}

-- The text of a client's execute is prepared on the way to it.

abbrev pub prep_by : LinkId → SessionName → (text : List ℕ) → Option Work → Tabled → Tabled
prep_by l name text None t = t
prep_by l name text (Some work) t = link_changed l (with_row (prepares name work.ordinal work.key text)) t

abbrev pub prep_for : LinkId → SessionName → (text : List ℕ) → Option Client → Tabled → Tabled
prep_for l name text None t = t
prep_for l name text (Some client) t = prep_by l name text client.desk.work t

abbrev pub prep_begun : LinkId → SessionName → (text : List ℕ) → Tabled → Tabled
prep_begun l name text t = prep_for l name text (t.clients name.client) t

-- The execute: its form goes to the link, where its text is prepared, and its arguments are spelt there; they stay at the desk too.

abbrev pub has_parts : List LongPart → Bool
has_parts [] = false
has_parts (part ∷ parts) = true

abbrev pub run_stands : Stated → (there : ℕ) → Option Form → Body → Row → Row
run_stands s there (Some form) (Run args) row =
    runs s form there (executes there args.nulls args.types args.values args.long) (has_parts args.long) row
run_stands s there _ _ row = row

abbrev pub run_at : LinkId → SessionName → Client → Work → (there : Option ℕ) → Tabled → Tabled
run_at l name client work None t = t
run_at l name client work (Some there) t =
    link_changed l (with_row (run_stands (stated_of client.desk name work) there work.form work.body))
    (client_put name.client (Some (with_work (Some (formless work)) client)) t)

abbrev pub run_by : LinkId → SessionName → Server → Client → Option Work → Tabled → Tabled
run_by l name server client None t = t
run_by l name server client (Some work) t = run_at l name client work (number_of server.row.link.state.live work.key) t

abbrev pub run_for : LinkId → SessionName → Option Server → Option Client → Tabled → Tabled
run_for l name (Some server) (Some client) t = run_by l name server client client.desk.work t
run_for l name _ _ t = t

abbrev pub run_begun : LinkId → SessionName → Tabled → Tabled
run_begun l name t = run_for l name (t.links l) (t.clients name.client) t

-- A client's text was prepared: it is kept under the number behind the last one, where there is such a number.

abbrev pub IsKeptBy : (is_next : Bool) → Prepared → (old new : ClientStatements) → Type 0
IsKeptBy true prepared old new = (new.last ≡ old.last + 1) × Changes old new (old.last + 1) (Some (fresh prepared))
IsKeptBy false prepared old new = new ≡ old

abbrev pub IsKeptIn : Prepared → (old new : ClientStatements) → Type 0
IsKeptIn prepared old new = IsKeptBy (nat_lt old.last 4294967295) prepared old new

abbrev pub with_statements : ClientStatements → Seat → Seat
with_statements statements seat = record seat { statements = statements }

pub record IsKeptAt (prepared : Prepared) (c : ClientNo) (row : Client) (old new : Tabled) : Type 0 where
  pub statements : ClientStatements
  pub kept : IsKeptIn prepared row.desk.seat.statements statements
  pub same : IsSame new (client_put c (Some (seated (with_statements statements) row)) old)

abbrev pub IsKeptOf : Prepared → ClientNo → Option Client → (old new : Tabled) → Type 0
IsKeptOf prepared c None old new = IsSame new old
IsKeptOf prepared c (Some row) old new = IsKeptAt prepared c row old new

abbrev pub IsKept : Prepared → ClientNo → (old new : Tabled) → Type 0
IsKept prepared c old new = IsKeptOf prepared c (old.clients c) old new

-- What an answer on a link prepared for a client, in a session that it didn't leave.

abbrev pub Made : Type 0
Made = ClientNo × Prepared

abbrev pub made_in : SessionName → (key : ℕ) → (multiplex : Option Bool) → ReplyEnd → Made
made_in name key multiplex end = (name.client, record { key = key; hostgroup = name.hostgroup; multiplex = multiplex; params = end.params })

abbrev pub made_by : Purpose → (multiplex : Option Bool) → ReplyEnd → Option Made
made_by (purposes.Statement name ordinal key) multiplex end = if is_prepared end then Some (made_in name key multiplex end) else None
made_by _ multiplex end = None

abbrev pub made_on : Said → Row → Option Made
made_on (said.Answered purpose end behind) row = if is_some row.left then None else made_by purpose row.multiplex end
made_on _ row = None

-- it is kept
abbrev pub IsKeptSo : Option Made → (old new : Tabled) → Type 0
IsKeptSo None old new = IsSame new old
IsKeptSo (Some made) old new = IsKept made.1 made.0 old new

abbrev pub IsKeptFor : Said → LinkId → (old new : Tabled) → Type 0
IsKeptFor result l old new = IsKeptSo (option_and_then (λ (server : Server). made_on result server.row) (old.links l)) old new
