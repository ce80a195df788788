-- Changes of the tables by which no row of a link comes, and none goes.
use Rattle.std.specs.Prelude.{◌≡◌, ◌||◌, ℕ, Bool, true, false, is_some, nat_eq, if◌then◌else◌, take, List, Option, Some, None}
use Rattle.std.specs.Option.{option_map, option_map_or}
use Rattle.std.proofs.Common.{◌∙◌, refl, ap, inl, inr}
use Rattle.std.proofs.lemmas.Bool.{cases_Bool}
use Rattle.mx_base.specs.declared.names.ClientNo.{ClientNo}
use Rattle.mx_base.specs.declared.names.LinkId.{LinkId}
use Rattle.private_model.proofs.Maps.{link_of}
use Rattle.session_state.specs.declared.names.SessionName.{SessionName}
use Rattle.link_state.specs.declared.asking.Form.{Form}
use Rattle.link_state.specs.declared.asking.Purpose.{Purpose}
use Rattle.link_state.specs.declared.asking.Purpose.TheVariants as purposes
use Rattle.link_state.specs.declared.writing.Writing.{Writing}
use Rattle.lent_link.specs.declared.link.Begins.{Begins}
use Rattle.lent_link.specs.declared.link.Begins.TheVariants as begins
use Rattle.served_link.specs.declared.news.News.{News}
use Rattle.served_link.specs.declared.news.News.TheVariants as news
use Rattle.client_seat.specs.declared.seat.Seat.{Seat}
use Rattle.client_desk.specs.Works.{formless, without_packets}
use Rattle.client_desk.specs.declared.session.Session.{Session}
use Rattle.client_desk.specs.declared.work.Work.{Work}
use Rattle.core_tables.specs.Arrivals.{forgotten, without}
use Rattle.core_tables.specs.Beginning.{back_by, given, given_for, next_back, text_begun, text_by, text_for, with_work}
use Rattle.core_tables.specs.Hearing.{Answer, IsHeard, IsHeardBy, answered_for, heard_on, told_by}
use Rattle.core_tables.specs.Hearing as hearings
use Rattle.core_tables.specs.Parting.{changed_at, freed_in, freed_of, freed_row, freed_server, gone_row, is_done_in, left_in, left_row, lost_in, lost_row, parted_in, present_in, unlinked}
use Rattle.core_tables.specs.Tables.{IsSame, Tabled, client_put, link_changed}
use Rattle.core_tables.specs.Writing.{begun_for, lasts, purpose_next, server_wrote, wrote_by, wrote_on}
use Rattle.core_tables.specs.declared.client.Client.{Client}
use Rattle.core_tables.specs.declared.said.Said.{Said}
use Rattle.core_tables.specs.declared.server.Server.{Server}
use Rattle.marked_tables.specs.Goes.{has_row}

pub record KeepsRows (old new : Tabled) : Type 0 where
  pub rows : (link : LinkId) → has_row new link ≡ has_row old link

map_some : {A B : Type 0} → (by : A → B) (x : Option A) → is_some (option_map by x) ≡ is_some x
map_some by None = refl
map_some by (Some x) = refl

pub still_rows : (t : Tabled) → KeepsRows t t
still_rows t = record { rows = λ link. refl }

pub rows_on : (a b c : Tabled) → KeepsRows a b → KeepsRows b c → KeepsRows a c
rows_on a b c first next = record { rows = λ link. next.rows link ∙ first.rows link }

pub same_rows : (a b : Tabled) → IsSame b a → KeepsRows a b
same_rows a b same = record { rows = λ link. rw (same.links link, same.numbers link) refl }

-- A row changes.

pub client_rows : (t : Tabled) (c : ClientNo) (row : Option Client) → KeepsRows t (client_put c row t)
client_rows t c row = record { rows = λ link. refl }

pub link_rows : (t : Tabled) (l : LinkId) (by : Server → Server) → KeepsRows t (link_changed l by t)
link_rows t l by = record {
  rows = λ link. elim (cases_Bool (nat_eq l.0 link.0)) [
    | inl on ↦
        let one : l ≡ link = link_of l link on in
        rw on (ap (λ (b : Bool). b || is_some (t.numbers link)) (map_some by (t.links l) ∙ ap (λ (at : LinkId). is_some (t.links at)) one))
    | inr off ↦ rw off refl
  ];
}

-- A client leaves its sessions.

parted_rows : (t : Tabled) (sessions : List Session) → KeepsRows t (parted_in sessions t)
parted_rows t sessions = record { rows = λ link. ap (λ (b : Bool). b || is_some (t.numbers link)) (map_some _ (t.links link)) }

left_by : (t : Tabled) (c : ClientNo) (by : Seat → Seat) (row : Option Client)
    → KeepsRows t (option_map_or (λ (client : Client). client_put c (Some (left_row by client)) (parted_in client.desk.sessions t)) row t)
left_by t c by None = still_rows t
left_by t c by (Some row) =
    let parted : Tabled = parted_in row.desk.sessions t in
    rows_on t parted (client_put c (Some (left_row by row)) parted) (parted_rows t row.desk.sessions) (client_rows parted c (Some (left_row by row)))

pub left_rows : (t : Tabled) (c : ClientNo) (by : Seat → Seat) → KeepsRows t (left_in c by t)
left_rows t c by = left_by t c by (t.clients c)

-- What stands next on a link begins, or is taken back.

work_rows : (t : Tabled) (l : LinkId) (name : SessionName) (client : Client) (work : Option Work) → KeepsRows t (text_by l name client work t)
work_rows t l name client None = still_rows t
work_rows t l name client (Some work) =
    let put : Tabled = client_put name.client (Some (with_work (Some (without_packets (formless work))) client)) t in
    rows_on t put _ (client_rows t name.client _) (link_rows put l _)

text_by_rows : (t : Tabled) (l : LinkId) (name : SessionName) (server : Option Server) (client : Option Client) → KeepsRows t (text_for l name server client t)
text_by_rows t l name None None = still_rows t
text_by_rows t l name None (Some client) = still_rows t
text_by_rows t l name (Some server) None = still_rows t
text_by_rows t l name (Some server) (Some client) = work_rows t l name client client.desk.work

pub text_rows : (t : Tabled) (l : LinkId) (name : SessionName) → KeepsRows t (text_begun l name t)
text_rows t l name = text_by_rows t l name (t.links l) (t.clients name.client)

for_rows : (t : Tabled) (p : Purpose) (form : Form) (packets : List ℕ) → KeepsRows t (given_for p form packets t)
for_rows t (purposes.Statement n ordinal key) form packets = client_rows t n.client _
for_rows t (purposes.Prep n ordinal key) form packets = still_rows t
for_rows t (purposes.Sync n) form packets = still_rows t
for_rows t purposes.Own form packets = still_rows t
for_rows t (purposes.End n) form packets = still_rows t
for_rows t (purposes.Capture n) form packets = still_rows t

given_rows : (t : Tabled) (next : Option Begins) (writing : Option Writing) → KeepsRows t (given next writing t)
given_rows t None writing = still_rows t
given_rows t (Some (begins.Asks asking)) None = still_rows t
given_rows t (Some (begins.Asks asking)) (Some w) = for_rows t asking.purpose asking.form w.bytes
given_rows t (Some begins.Quits) writing = still_rows t
given_rows t (Some (begins.Closes number)) writing = still_rows t
given_rows t (Some (begins.Resets number)) writing = still_rows t

back_by_rows : (t : Tabled) (l : LinkId) (server : Option Server) → KeepsRows t (back_by l server t)
back_by_rows t l None = still_rows t
back_by_rows t l (Some server) =
    let back : Tabled = given server.row.link.next server.row.link.writing t in
    rows_on t back _ (given_rows t server.row.link.next server.row.link.writing) (link_rows back l _)

pub back_rows : (t : Tabled) (l : LinkId) → KeepsRows t (next_back l t)
back_rows t l = back_by_rows t l (t.links l)

-- Bytes are written there.

begun_rows : (t : Tabled) (p : Option Purpose) (l : LinkId) (lasting : Bool) → KeepsRows t (begun_for p l lasting t)
begun_rows t None l lasting = still_rows t
begun_rows t (Some (purposes.Statement n ordinal key)) l lasting = client_rows t n.client _
begun_rows t (Some (purposes.Prep n ordinal key)) l lasting = client_rows t n.client _
begun_rows t (Some (purposes.Sync n)) l lasting = still_rows t
begun_rows t (Some purposes.Own) l lasting = still_rows t
begun_rows t (Some (purposes.End n)) l lasting = still_rows t
begun_rows t (Some (purposes.Capture n)) l lasting = still_rows t

wrote_by_rows : (t : Tabled) (l : LinkId) (count now : ℕ) (server : Option Server) → KeepsRows t (wrote_by server l count now t)
wrote_by_rows t l count now None = still_rows t
wrote_by_rows t l count now (Some server) =
    let wrote : Tabled = link_changed l (server_wrote count now) t in
    rows_on t wrote _ (link_rows t l _) (begun_rows wrote (purpose_next server.row) l (lasts server.row.link.next))

pub wrote_rows : (t : Tabled) (l : LinkId) (count now : ℕ) → KeepsRows t (wrote_on l count now t)
wrote_rows t l count now = wrote_by_rows t l count now (t.links l)

-- Bytes are read there.

answered_rows : (t : Tabled) (p : Purpose) (a : Answer) (made : List ℕ) → KeepsRows t (answered_for p a made t)
answered_rows t (purposes.Statement n ordinal key) a made = client_rows t n.client _
answered_rows t (purposes.Prep n ordinal key) a made = client_rows t n.client _
answered_rows t (purposes.Sync n) a made = client_rows t n.client _
answered_rows t purposes.Own a made = still_rows t
answered_rows t (purposes.End n) a made = client_rows t n.client _
answered_rows t (purposes.Capture n) a made = client_rows t n.client _

told_rows : (t : Tabled) (tells : News) (multiplex : Option Bool) (made : List ℕ) → KeepsRows t (told_by tells multiplex made t)
told_rows t news.Nothing multiplex made = still_rows t
told_rows t news.LoggedIn multiplex made = still_rows t
told_rows t (news.LoginFailed shuns) multiplex made = still_rows t
told_rows t (news.Part n) multiplex made = client_rows t n.client _
told_rows t (news.Whole asking end number used) multiplex made = answered_rows t asking.purpose _ (take used made)
told_rows t news.ResetDone multiplex made = still_rows t
told_rows t (news.Bad place) multiplex made = still_rows t

if_rows : (b : Bool) (t one other : Tabled) → KeepsRows t one → KeepsRows t other → KeepsRows t (if b then one else other)
if_rows true t one other first next = first
if_rows false t one other first next = next

heard_by_rows : (t : Tabled) (l : LinkId) (server : Option Server) (bytes : List ℕ) (now : ℕ) (result : Said) (new : Tabled)
    → IsHeardBy server l bytes now result new t → KeepsRows t new
heard_by_rows t l None bytes now result new heard = same_rows t new heard.0
heard_by_rows t l (Some server) bytes now result new heard =
    let reading = heard.reading in
    let read : Tabled = link_changed l (hearings.with_row reading.row) t in
    rows_on t (heard_on l reading t) new
    (rows_on t read (heard_on l reading t) (link_rows t l _)
    (if_rows (is_some reading.row.left) read read _ (still_rows read) (told_rows read reading.news reading.row.multiplex reading.made)))
    (same_rows (heard_on l reading t) new heard.tables)

pub heard_rows : (t : Tabled) (l : LinkId) (bytes : List ℕ) (now : ℕ) (result : Said) (new : Tabled) → IsHeard l bytes now result new t → KeepsRows t new
heard_rows t l bytes now result new heard = heard_by_rows t l (t.links l) bytes now result new heard

-- A link is lost, or given back.

pub lost_rows : (t : Tabled) (l : LinkId) → KeepsRows t (lost_in l t)
lost_rows t l =
    let gone : Tabled = changed_at gone_row (present_in l t) t in
    rows_on t gone _ (record { rows = λ link. refl }) (link_rows gone l lost_row)

freed_of_rows : (t : Tabled) (l : LinkId) → KeepsRows t (freed_of l t)
freed_of_rows t l =
    let freed : Tabled = changed_at freed_row (present_in l t) t in
    rows_on t freed _ (record { rows = λ link. refl }) (link_rows freed l freed_server)

pub freed_rows : (t : Tabled) (l : LinkId) → KeepsRows t (freed_in l t)
freed_rows t l = if_rows (is_done_in l t) t (freed_of l t) t (freed_of_rows t l) (still_rows t)

-- Rows go.

or_first : (a b : Bool) → (a || false) ≡ true → (a || b) ≡ true
or_first true b is = refl
or_first false b is = absurd (let e = is in cc)

or_second : (a b : Bool) → b ≡ true → (a || b) ≡ true
or_second true b is = refl
or_second false b is = is

pub unlinked_rows : (t : Tabled) (l link : LinkId) → has_row (unlinked l t) link ≡ true → has_row t link ≡ true
unlinked_rows t l link is = elim (cases_Bool (nat_eq l.0 link.0)) [
  | inl on ↦ or_second (is_some (t.links link)) _ (rw on at is)
  | inr off ↦ rw off at is
]

without_rows : (t : Tabled) (c : ClientNo) (row : Option Client) (link : LinkId) → has_row (without c row t) link ≡ true → has_row t link ≡ true
without_rows t c None link is = is
without_rows t c (Some row) link is = elim (cases_Bool (nat_eq row.desk.seat.link.0 link.0)) [
  | inl on ↦ or_first (is_some (t.links link)) _ (rw on at is)
  | inr off ↦ rw off at is
]

pub forgotten_rows : (t : Tabled) (c : ClientNo) (link : LinkId) → has_row (forgotten c t) link ≡ true → has_row t link ≡ true
forgotten_rows t c link is = without_rows t c (t.clients c) link is
