-- Whether what stands next on a link may begin now: a test of the link's row and of the desk of its client.
use Rattle.std.specs.Prelude.{◌≡◌, ℕ, Bool, true, false, not, ◌&&◌, ◌||◌, is_some, length, nat_eq, nat_lt, bytes_eq, slice_index_or, if◌then◌else◌, List, [], ◌∷◌, Option, Some, None}
use Rattle.std.specs.Option.{option_map_or}
use Rattle.mx_base.specs.Sent.{Sent}
use Rattle.mx_base.specs.declared.names.LinkId.{LinkId}
use Rattle.mx_base.specs.declared.tag.Tag.TheVariants as tags
use Rattle.pin_classifier.specs.declared.class.Class.{Class}
use Rattle.session_vars.specs.Settings.{same_value}
use Rattle.session_vars.specs.declared.change.SlotValue.{SlotValue}
use Rattle.session_state.specs.Classes.{Effect, Neither, Tracked, Uses, effect_of, sets_autocommit, takes}
use Rattle.session_state.specs.Pins.{is_pinned, needs_reset, reads_own}
use Rattle.session_state.specs.declared.names.SessionName.{SessionName}
use Rattle.session_state.specs.declared.pin.Pin.{Pin}
use Rattle.session_state.specs.declared.place.Place.{Place}
use Rattle.session_state.specs.declared.place.Told.{Told}
use Rattle.private_model.specs.Story.{is_name}
use Rattle.server_side.specs.Account.{Account}
use Rattle.link_state.specs.Asks.{marks}
use Rattle.link_state.specs.Dones.{is_quiet}
use Rattle.link_state.specs.Places.{is_schema}
use Rattle.link_state.specs.Wants.{is_id}
use Rattle.link_state.specs.declared.asking.Form.{Form}
use Rattle.link_state.specs.declared.asking.Form.TheVariants as forms
use Rattle.link_state.specs.declared.asking.Purpose.{Purpose}
use Rattle.link_state.specs.declared.asking.Purpose.TheVariants as purposes
use Rattle.link_state.specs.declared.state.Carried.{Carried}
use Rattle.link_state.specs.declared.state.Carried.TheVariants.{Nobody, Lent, Joined}
use Rattle.link_state.specs.declared.writing.Writing.{Writing}
use Rattle.lent_link.specs.Links.{left_in}
use Rattle.lent_link.specs.declared.link.Begins.{Begins}
use Rattle.lent_link.specs.declared.link.Begins.TheVariants as begins
use Rattle.served_link.specs.declared.row.Identity.{Identity}
use Rattle.served_link.specs.declared.row.LeftSession.{LeftSession}
use Rattle.served_link.specs.declared.row.Row.{Row}
use Rattle.client_seat.specs.Seats.{account_in}
use Rattle.client_desk.specs.Desks.{name_of, session_of}
use Rattle.client_desk.specs.declared.desk.Desk.{Desk}
use Rattle.client_desk.specs.declared.session.Session.{Session}
use Rattle.client_desk.specs.declared.work.Work.{Work}
use Rattle.core_tables.specs.Tables.{Tabled}
use Rattle.core_tables.specs.declared.client.Client.{Client}
use Rattle.core_tables.specs.declared.server.Server.{Server}

-- Places and accounts.

abbrev pub are_settings : List SlotValue → List SlotValue → Bool
are_settings [] [] = true
are_settings (a ∷ xs) (b ∷ ys) = same_value a b && are_settings xs ys
are_settings _ _ = false

-- the link was told just this
abbrev pub is_placed : Told → Place → Bool
is_placed told place = is_schema told.schema place.schema && are_settings told.settings place.settings

abbrev pub is_flag : Bool → Bool → Bool
is_flag true b = b
is_flag false b = not b

-- the router is logged in there as this client is
abbrev pub is_account : Identity → Account → Bool
is_account identity account = bytes_eq identity.user account.user && is_flag identity.found_rows account.found_rows

-- Whom a link carries.

abbrev pub is_nobody : Carried → Bool
is_nobody Nobody = true
is_nobody _ = false

abbrev pub is_lent : Carried → Bool
is_lent (Lent n) = true
is_lent _ = false

abbrev pub is_lent_to : SessionName → Carried → Bool
is_lent_to name (Lent n) = is_name name n
is_lent_to name _ = false

abbrev pub is_joined : SessionName → Carried → Bool
is_joined name (Joined n) = is_name name n
is_joined name _ = false

-- A statement, by its form. Of any other form it isn't one.

abbrev pub is_blind : Form → Bool
is_blind (forms.Text class) = not class.reads_diag && not class.reads_found
is_blind forms.Fields = true
is_blind (forms.Prepare class) = true
is_blind _ = false

abbrev pub reads_its_own : Form → Pin → Bool
reads_its_own (forms.Text class) pin = reads_own class pin
reads_its_own forms.Fields pin = true
reads_its_own (forms.Prepare class) pin = true
reads_its_own _ pin = false

-- the session has no Pin, and the link carries nobody, or is lent to it
abbrev pub begins_there : Row → Form → SessionName → Desk → Work → Session → Bool
begins_there row form name desk work s =
    ((is_nobody row.link.state.carries && not (is_some s.home)) || is_lent_to name row.link.state.carries)
    && (not (is_pinned s.pin)
    && (work.anew
    && (is_placed row.link.state.told desk.seat.place
    && (option_map_or (is_account row.identity) (account_in desk.seat.phase) false
    && (is_blind form
    && (is_some s.id && (not (marks form) || is_id row.link.state.id s.id)))))))

-- it has one, and this is its own link
abbrev pub goes_on_there : Row → Form → SessionName → Desk → Work → Session → Bool
goes_on_there row form name desk work s =
    is_joined name row.link.state.carries
    && (is_pinned s.pin
    && (not work.anew && (is_placed row.link.state.told desk.seat.place
    && (reads_its_own form s.pin
    && (not (marks form) || (row.link.state.marked || is_id row.link.state.id s.id))))))

-- it is its client's work still, of a session that is present
abbrev pub is_of : SessionName → (ordinal : ℕ) → Desk → Work → Bool
is_of name ordinal desk work = nat_eq work.ordinal ordinal && is_name name (name_of desk work.hostgroup)

abbrev pub may_state : Row → Form → SessionName → (ordinal : ℕ) → Desk → Work → Bool
may_state row form name ordinal desk work =
    not work.sent
    && (is_of name ordinal desk work
    && (begins_there row form name desk work (session_of desk work.hostgroup)
    || goes_on_there row form name desk work (session_of desk work.hostgroup)))

-- The text of an execute is prepared on the way to it: for a session without a Pin, or on the own link of one that has one.

abbrev pub prepares_first : Row → SessionName → Session → Bool
prepares_first row name s =
    ((is_nobody row.link.state.carries && not (is_some s.home)) || is_lent_to name row.link.state.carries) && not (is_pinned s.pin)

abbrev pub prepares_there : Row → SessionName → Session → Bool
prepares_there row name s = is_joined name row.link.state.carries && is_pinned s.pin

abbrev pub may_prepare : Row → SessionName → (ordinal : ℕ) → Desk → Work → Bool
may_prepare row name ordinal desk work =
    not work.sent
    && (is_of name ordinal desk work
    && (prepares_first row name (session_of desk work.hostgroup) || prepares_there row name (session_of desk work.hostgroup)))

-- Steps, by their form and their first byte.

abbrev pub is_command : (code : ℕ) → Option Writing → Bool
is_command code writing = option_map_or (λ (w : Writing). nat_eq (slice_index_or w.bytes 4 0) code) writing false

-- a tracked SET and nothing else
abbrev pub is_set_by : Class → (tx : Bool) → Effect → Bool
is_set_by class tx (Tracked changes) =
    not class.marks_id
    && (not class.reads_diag
    && (not class.reads_found
    && (not class.deep
    && (not (takes class) && (not class.next_tx
    && (not class.savepoint
    && (not class.outlasts_reset && (not (sets_autocommit changes) || not tx))))))))
is_set_by class tx _ = false

abbrev pub names_schema : Effect → Bool
names_schema (Uses schema) = not (bytes_eq schema [])
names_schema _ = false

abbrev pub is_text_step : Class → Option Writing → (tx : Bool) → Bool
is_text_step class writing tx =
    (is_command 2 writing && names_schema (effect_of class)) || (is_command 3 writing && is_set_by class tx (effect_of class))

abbrev pub is_step_of : Form → Option Writing → Session → Bool
is_step_of (forms.Text class) writing s = is_text_step class writing s.pin.tx
is_step_of (forms.SetId id) writing s = is_id s.id (Some id)
is_step_of _ writing s = false

abbrev pub is_own_step : Form → Option Writing → Bool
is_own_step (forms.Text class) writing = is_text_step class writing false
is_own_step (forms.SetId id) writing = true
is_own_step _ writing = false

-- in a session, on its own link
abbrev pub may_sync : Row → Form → SessionName → Session → Bool
may_sync row form name s =
    is_joined name row.link.state.carries && (is_pinned s.pin && is_step_of form row.link.writing s)

abbrev pub may_capture : Row → SessionName → Session → Bool
may_capture row name s = is_joined name row.link.state.carries && (not (is_pinned s.pin) && not (is_some s.id))

abbrev pub may_end : Row → SessionName → LeftSession → Bool
may_end row name left = is_joined name row.link.state.carries && (needs_reset left.pin && not left.lasting)

abbrev pub may_own : Row → Form → Bool
may_own row form = (is_nobody row.link.state.carries || is_lent row.link.state.carries) && is_own_step form row.link.writing

-- Of all.

-- a test of the work of a session's client
abbrev pub with_work : SessionName → Tabled → (Desk → Work → Bool) → Bool
with_work name t test = option_map_or (λ (client : Client). option_map_or (test client.desk) client.desk.work false) (t.clients name.client) false

-- and of the session, where that is present
abbrev pub with_session : SessionName → Tabled → (Session → Bool) → Bool
with_session name t test =
    option_map_or (λ (client : Client). is_name name (name_of client.desk name.hostgroup) && test (session_of client.desk name.hostgroup))
    (t.clients name.client) false

-- a preparation for a client's statement, where the link was told its place
abbrev pub prep_passes : SessionName → (ordinal : ℕ) → Row → Tabled → Bool
prep_passes name ordinal row t = with_work name t (may_prepare row name ordinal)

abbrev pub passes_for : Purpose → Row → Form → Tabled → Bool
passes_for (purposes.Statement name ordinal key) row form t = with_work name t (may_state row form name ordinal)
passes_for (purposes.Prep name ordinal key) row form t = prep_passes name ordinal row t
passes_for (purposes.Sync name) row form t = with_session name t (may_sync row form name)
passes_for purposes.Own row form t = may_own row form
passes_for (purposes.End name) row form t = option_map_or (may_end row name) row.left false
passes_for (purposes.Capture name) row form t = with_session name t (may_capture row name)

-- the link can be used, and nothing stands there
abbrev pub is_ready : Row → Bool
is_ready row = not row.lost && (not row.link.spoilt && is_quiet row.link.state.stage)

-- what goes on needs no test, nor does a QUIT; a STMT_CLOSE and a STMT_RESET go where nothing stands
abbrev pub passes_next : Option Begins → Row → Tabled → Bool
passes_next None row t = true
passes_next (Some begins.Quits) row t = true
passes_next (Some (begins.Asks asking)) row t = is_ready row && passes_for asking.purpose row asking.form t
passes_next (Some (begins.Closes number)) row t = is_ready row
passes_next (Some (begins.Resets number)) row t = is_ready row

abbrev pub passes : LinkId → Tabled → Bool
passes l t = option_map_or (λ (server : Server). passes_next server.row.link.next server.row t) (t.links l) false

-- What is to be written on a link: a question begins only where it passes.

abbrev pub as_reply : List ℕ → Option Sent
as_reply bytes = if nat_lt 0 (length bytes) then Some (record { tag = tags.Reply; bytes = bytes }) else None

abbrev pub sends_client : LinkId → Tabled → Option Sent
sends_client l t =
    option_map_or (λ c. option_map_or (λ (client : Client). as_reply client.desk.seat.outbox.due) (t.clients c) None) (t.numbers l) None

abbrev pub sends_by : Option Server → LinkId → Tabled → Option Sent
sends_by None l t = sends_client l t
sends_by (Some server) l t = if passes l t then left_in server.row.link else None

abbrev pub sends : LinkId → Tabled → Option Sent
sends l t = sends_by (t.links l) l t
