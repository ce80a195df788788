-- What is prepared: links with which that has nothing to do.
use Rattle.std.specs.Prelude.{◌≡◌, ℕ, List, Option, Some, None, false}
use Rattle.std.proofs.Common.{refl, subst}
use Rattle.mx_base.specs.declared.names.ClientNo.{ClientNo}
use Rattle.mx_base.specs.declared.names.LinkId.{LinkId}
use Rattle.session_state.specs.declared.names.SessionName.{SessionName}
use Rattle.private_model.specs.Commands.{Args}
use Rattle.link_state.specs.Stood.{number_of}
use Rattle.stmt_map.specs.declared.statement.Prepared.{Prepared}
use Rattle.client_desk.specs.Works.{formless}
use Rattle.client_desk.specs.declared.work.Work.{Work}
use Rattle.core_tables.specs.Arrivals.{seated}
use Rattle.core_tables.specs.Beginning.{with_work}
use Rattle.core_tables.specs.Preparing.{IsKept, IsKeptOf, prep_begun, prep_by, prep_for, run_at, run_begun, run_by, run_for, with_statements}
use Rattle.core_tables.specs.Taking.{IsRunDue, goes}
use Rattle.core_tables.specs.Tables.{IsSame, Tabled, client_put, tables_of}
use Rattle.core_tables.specs.Writing.{lent_to}
use Rattle.core_tables.specs.declared.client.Client.{Client}
use Rattle.core_tables.specs.declared.server.Server.{Server}
use Rattle.core_tables.specs.declared.tables.Tables.{Tables}
use Rattle.core_says.specs.Marking.{IsClearOf}
use Rattle.core_says.specs.Says.{IsQuieter}
use Rattle.core_says.proofs.Concerning.{quieter_on}
use Rattle.link_marks.specs.Marks.{Marked}
use Rattle.marked_tables.specs.Goes.{GoesOn}
use Rattle.marked_tables.specs.Marking.{IsClearAt, IsOther, MarksBut}
use Rattle.marked_tables.specs.declared.marked.MarkedTables.{MarkedTables}
use Rattle.marked_tables.proofs.Calls.{taken_goes}
use Rattle.marked_tables.proofs.Clearing.{goes_spares, lent_spares, seated_spares, work_spares}
use Rattle.marked_tables.proofs.Going.{goes_by}
use Rattle.marked_tables.proofs.Quiet.{client_quiet, link_quiet, put_quiet, still_quiet}
use Rattle.marked_tables.proofs.Staying.{KeepsRows, client_rows, link_rows, rows_on, still_rows}

-- An execute is taken up.
pub run_goes : (old : MarkedTables) (t : Tables) (m : Marked) (c : ClientNo) (flag : ℕ) (work : Args → Work)
    → MarksBut (IsClearAt (tables_of old.tables) c) old.changed m → IsRunDue flag work c (tables_of old.tables) (tables_of t)
    → GoesOn old (record { tables = t; changed = m })
run_goes old t m c flag work marks due =
    let one : Work = work due.args in
    taken_goes false old t m c (goes flag one) marks (λ statements link. goes_spares flag one statements link) due.taken

-- A text is to be prepared.

prep_quiet_by : (t : Tabled) (l : LinkId) (name : SessionName) (text : List ℕ) (work : Option Work) (link : LinkId) → IsOther l link
    → IsQuieter t (prep_by l name text work t) link
prep_quiet_by t l name text None link other = still_quiet t link
prep_quiet_by t l name text (Some work) link other = link_quiet t l _ link other

prep_quiet_for : (t : Tabled) (l : LinkId) (name : SessionName) (text : List ℕ) (client : Option Client) (link : LinkId) → IsOther l link
    → IsQuieter t (prep_for l name text client t) link
prep_quiet_for t l name text None link other = still_quiet t link
prep_quiet_for t l name text (Some client) link other = prep_quiet_by t l name text client.desk.work link other

prep_rows_by : (t : Tabled) (l : LinkId) (name : SessionName) (text : List ℕ) (work : Option Work) → KeepsRows t (prep_by l name text work t)
prep_rows_by t l name text None = still_rows t
prep_rows_by t l name text (Some work) = link_rows t l _

prep_rows_for : (t : Tabled) (l : LinkId) (name : SessionName) (text : List ℕ) (client : Option Client) → KeepsRows t (prep_for l name text client t)
prep_rows_for t l name text None = still_rows t
prep_rows_for t l name text (Some client) = prep_rows_by t l name text client.desk.work

pub prep_goes : (old : MarkedTables) (t : Tables) (m : Marked) (l : LinkId) (name : SessionName) (text : List ℕ) → MarksBut (IsOther l) old.changed m
    → IsSame (tables_of t) (prep_begun l name text (tables_of old.tables)) → GoesOn old (record { tables = t; changed = m })
prep_goes old t m l name text marks same =
    let was : Tabled = tables_of old.tables in
    goes_by _ old t m (prep_begun l name text was) marks same (λ link other. prep_quiet_for was l name text (was.clients name.client) link other)
    (prep_rows_for was l name text (was.clients name.client))

-- An execute is to begin.

run_quiet_at : (t : Tabled) (l : LinkId) (name : SessionName) (client : Client) (work : Work) (there : Option ℕ) (link : LinkId) → IsOther l link
    → t.clients name.client ≡ Some client → IsClearAt t name.client link → IsQuieter t (run_at l name client work there t) link
run_quiet_at t l name client work None link other is clear = still_quiet t link
run_quiet_at t l name client work (Some there) link other is clear =
    let put : Tabled = client_put name.client (Some (with_work (Some (formless work)) client)) t in
    quieter_on t put _ link
    (put_quiet t name.client _ link clear (work_spares _ link client (subst (λ (r : Option Client). IsClearOf link r) is clear)))
    (link_quiet put l _ link other)

run_quiet_by : (t : Tabled) (l : LinkId) (name : SessionName) (server : Server) (client : Client) (work : Option Work) (link : LinkId) → IsOther l link
    → t.clients name.client ≡ Some client → IsClearAt t name.client link → IsQuieter t (run_by l name server client work t) link
run_quiet_by t l name server client None link other is clear = still_quiet t link
run_quiet_by t l name server client (Some work) link other is clear =
    run_quiet_at t l name client work (number_of server.row.link.state.live work.key) link other is clear

run_quiet_for : (t : Tabled) (l : LinkId) (name : SessionName) (server : Option Server) (client : Option Client) (link : LinkId) → IsOther l link
    → t.clients name.client ≡ client → IsClearAt t name.client link → IsQuieter t (run_for l name server client t) link
run_quiet_for t l name None None link other is clear = still_quiet t link
run_quiet_for t l name None (Some client) link other is clear = still_quiet t link
run_quiet_for t l name (Some server) None link other is clear = still_quiet t link
run_quiet_for t l name (Some server) (Some client) link other is clear = run_quiet_by t l name server client client.desk.work link other is clear

pub run_quiet : (t : Tabled) (l : LinkId) (name : SessionName) (link : LinkId) → IsOther l link → IsClearAt t name.client link
    → IsQuieter t (run_begun l name t) link
run_quiet t l name link other clear = run_quiet_for t l name (t.links l) (t.clients name.client) link other refl clear

run_rows_at : (t : Tabled) (l : LinkId) (name : SessionName) (client : Client) (work : Work) (there : Option ℕ) → KeepsRows t (run_at l name client work there t)
run_rows_at t l name client work None = still_rows t
run_rows_at t l name client work (Some there) =
    let put : Tabled = client_put name.client (Some (with_work (Some (formless work)) client)) t in
    rows_on t put _ (client_rows t name.client _) (link_rows put l _)

run_rows_by : (t : Tabled) (l : LinkId) (name : SessionName) (server : Server) (client : Client) (work : Option Work)
    → KeepsRows t (run_by l name server client work t)
run_rows_by t l name server client None = still_rows t
run_rows_by t l name server client (Some work) = run_rows_at t l name client work (number_of server.row.link.state.live work.key)

run_rows_for : (t : Tabled) (l : LinkId) (name : SessionName) (server : Option Server) (client : Option Client) → KeepsRows t (run_for l name server client t)
run_rows_for t l name None None = still_rows t
run_rows_for t l name None (Some client) = still_rows t
run_rows_for t l name (Some server) None = still_rows t
run_rows_for t l name (Some server) (Some client) = run_rows_by t l name server client client.desk.work

pub run_rows : (t : Tabled) (l : LinkId) (name : SessionName) → KeepsRows t (run_begun l name t)
run_rows t l name = run_rows_for t l name (t.links l) (t.clients name.client)

-- A link is lent, which is another than this.

pub lent_quiet : (t : Tabled) (l : LinkId) (name : SessionName) (link : LinkId) → IsOther l link → IsClearAt t name.client link
    → IsQuieter t (lent_to l name t) link
lent_quiet t l name link other clear = client_quiet t name.client _ link (lent_spares name.hostgroup l link other) clear

-- What a client has prepared is kept.

keeps_so : (old : MarkedTables) (t : Tables) (m : Marked) (c : ClientNo) (prepared : Prepared) (row : Option Client)
    → MarksBut (IsClearAt (tables_of old.tables) c) old.changed m → (tables_of old.tables).clients c ≡ row
    → IsKeptOf prepared c row (tables_of old.tables) (tables_of t) → GoesOn old (record { tables = t; changed = m })
keeps_so old t m c prepared None marks is kept =
    goes_by _ old t m (tables_of old.tables) marks kept (λ link clear. still_quiet (tables_of old.tables) link) (still_rows (tables_of old.tables))
keeps_so old t m c prepared (Some row) marks is kept =
    let was : Tabled = tables_of old.tables in
    let by = with_statements kept.statements in
    goes_by _ old t m (client_put c (Some (seated by row)) was) marks kept.same
    (λ link clear. put_quiet was c (Some (seated by row)) link clear
    (seated_spares by (λ seat. refl) link row (subst (λ (r : Option Client). IsClearOf link r) is clear)))
    (client_rows was c _)

pub keep_goes : (old : MarkedTables) (t : Tables) (m : Marked) (c : ClientNo) (prepared : Prepared)
    → MarksBut (IsClearAt (tables_of old.tables) c) old.changed m → IsKept prepared c (tables_of old.tables) (tables_of t)
    → GoesOn old (record { tables = t; changed = m })
keep_goes old t m c prepared marks kept = keeps_so old t m c prepared ((tables_of old.tables).clients c) marks refl kept
