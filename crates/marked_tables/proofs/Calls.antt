-- What calls promise by relations, and by more than one change.
use Rattle.std.specs.Prelude.{◌≡◌, ℕ, Bool, true, false, ◌||◌, nat_eq, if◌then◌else◌, List, Result, Ok, Err, IfOk, OnOk, Option, Some, None}
use Rattle.std.specs.Option.{option_map, option_map_or}
use Rattle.std.proofs.Common.{◌∙◌, refl, sym, ap, subst, inl, inr}
use Rattle.std.proofs.lemmas.Bool.{cases_Bool, eq-eqb}
use Rattle.mx_base.specs.declared.names.ClientNo.{ClientNo}
use Rattle.mx_base.specs.declared.names.LinkId.{LinkId}
use Rattle.private_model.proofs.Maps.{client_of, link_of}
use Rattle.packet_frame.specs.Packets.{spelling}
use Rattle.log_story.specs.Plan.{text_payload}
use Rattle.client_seat.specs.Seats.{ended}
use Rattle.client_seat.specs.declared.seat.Seat.{Seat}
use Rattle.client_desk.specs.declared.work.Work.{Work}
use Rattle.stmt_map.specs.declared.client.ClientStatements.{ClientStatements}
use Rattle.core_tables.specs.Arrivals.{came, forgotten, seated}
use Rattle.core_tables.specs.Hearing.{IsHeard}
use Rattle.core_tables.specs.Leaving.{BeginsAnew, Quits}
use Rattle.core_tables.specs.Noting.{noted, with_note}
use Rattle.core_tables.specs.Parting.{left_in, left_row, parted_in, unlinked}
use Rattle.core_tables.specs.Taking.{IsDue, IsTaken, answers, goes, passes}
use Rattle.core_tables.specs.Tables.{IsSame, Tabled, client_changed, client_put, link_changed, link_put, tables_of}
use Rattle.core_tables.specs.Wording.{IsTold}
use Rattle.core_tables.specs.declared.client.Client.{Client}
use Rattle.core_tables.specs.declared.client.ClientNote.{ClientNote}
use Rattle.core_tables.specs.declared.said.Said.{Said}
use Rattle.core_tables.specs.declared.server.Server.{Server}
use Rattle.core_tables.specs.declared.tables.Tables.{Tables}
use Rattle.core_says.specs.Marking.{IsMarkedAt}
use Rattle.core_says.specs.Says.{IsQuieter}
use Rattle.core_says.proofs.Concerning.{quieter_on, server_quieter}
use Rattle.core_says.proofs.Links.{more_none}
use Rattle.link_marks.specs.Marks.{Marked, is_known, is_link, is_marked}
use Rattle.marked_tables.specs.Goes.{GoesOn, has_row}
use Rattle.marked_tables.specs.Marking.{IsClearAt, IsOther, IsUnasked, Leaves, MarksBut}
use Rattle.marked_tables.specs.Readying.{with_readied}
use Rattle.marked_tables.specs.declared.marked.MarkedTables.{MarkedTables}
use Rattle.marked_tables.proofs.Clearing.{Spares, answers_spares, goes_spares, note_spares, passes_spares, word_spares}
use Rattle.marked_tables.proofs.Going.{goes_by, spared_go}
use Rattle.marked_tables.proofs.Marking.{marks_at, marks_both}
use Rattle.marked_tables.proofs.Quiet.{came_quiet, client_quiet, forgotten_quiet, left_clear, left_quiet, link_quiet}
use Rattle.marked_tables.proofs.Questions.{heard_quiet}
use Rattle.marked_tables.proofs.Staying.{KeepsRows, client_rows, forgotten_rows, heard_rows, left_rows, link_rows, rows_on, same_rows, unlinked_rows}

pub if_ok_on : {T E : Type 0} (r : Result T E) (P : T → Type 0) (Q : Type 0) → IfOk r P → ((x : T) → P x → Q) → OnOk r Q
if_ok_on (Ok x) P Q is so = so x is
if_ok_on (Err e) P Q is so = tt

pub if_ok_so : {T E : Type 0} (r : Result T E) (P Q : T → Type 0) → IfOk r P → ((x : T) → P x → Q x) → IfOk r Q
if_ok_so (Ok x) P Q is so = so x is
if_ok_so (Err e) P Q is so = tt

same_itself : (t : Tabled) → IsSame t t
same_itself t = record { clients = λ c. refl; numbers = λ l. refl; links = λ l. refl }

same_back : {a b : Tabled} → IsSame a b → IsSame b a
same_back same = record { clients = λ c. sym (same.clients c); numbers = λ l. sym (same.numbers l); links = λ l. sym (same.links l) }

same_on : (a b c : Tabled) → IsSame a b → IsSame b c → IsSame a c
same_on a b c first next = record {
  clients = λ n. first.clients n ∙ next.clients n;
  numbers = λ l. first.numbers l ∙ next.numbers l;
  links = λ l. first.links l ∙ next.links l;
}

-- whatever the tables become
pub quiets_go : (Is : LinkId → Type 0) (old : MarkedTables) (t : Tables) (m : Marked) → MarksBut Is old.changed m
    → ((link : LinkId) → Is link → IsQuieter (tables_of old.tables) (tables_of t) link) → KeepsRows (tables_of old.tables) (tables_of t)
    → GoesOn old (record { tables = t; changed = m })
quiets_go Is old t m marks quiet keeps = goes_by Is old t m (tables_of t) marks (same_itself (tables_of t)) quiet keeps

pub heard_goes : (old : MarkedTables) (t : Tables) (m : Marked) (l : LinkId) (bytes : List ℕ) (now : ℕ) (result : Said)
    → MarksBut (IsUnasked (tables_of old.tables) l) old.changed m → IsHeard l bytes now result (tables_of t) (tables_of old.tables)
    → GoesOn old (record { tables = t; changed = m })
heard_goes old t m l bytes now result marks heard =
    quiets_go _ old t m marks (λ link un. heard_quiet (tables_of old.tables) l bytes now result (tables_of t) link heard un)
    (heard_rows (tables_of old.tables) l bytes now result (tables_of t) heard)

-- one row of a client changes
pub changed_goes : (old : MarkedTables) (t : Tables) (m : Marked) (c : ClientNo) (by : Client → Client)
    → MarksBut (IsClearAt (tables_of old.tables) c) old.changed m → ((link : LinkId) → Spares link by)
    → IsSame (tables_of t) (client_changed c by (tables_of old.tables)) → GoesOn old (record { tables = t; changed = m })
changed_goes old t m c by marks spares same =
    goes_by _ old t m (client_changed c by (tables_of old.tables)) marks same
    (λ link clear. client_quiet (tables_of old.tables) c by link (spares link) clear) (client_rows (tables_of old.tables) c _)

pub taken_goes : (refused : Bool) (old : MarkedTables) (t : Tables) (m : Marked) (c : ClientNo) (by : ClientStatements → Client → Client)
    → MarksBut (IsClearAt (tables_of old.tables) c) old.changed m
    → ((statements : ClientStatements) (link : LinkId) → Spares link (by statements))
    → IsTaken refused by c (tables_of old.tables) (tables_of t) → GoesOn old (record { tables = t; changed = m })
taken_goes refused old t m c by marks spares taken = changed_goes old t m c (by taken.statements) marks (spares taken.statements) taken.same

pub due_goes : (old : MarkedTables) (t : Tables) (m : Marked) (c : ClientNo) (flag : ℕ) (text : Option (List ℕ)) (work : (packets : List ℕ) → Work)
    → MarksBut (IsClearAt (tables_of old.tables) c) old.changed m → IsDue flag text work c (tables_of old.tables) (tables_of t)
    → GoesOn old (record { tables = t; changed = m })
due_goes old t m c flag text work marks due =
    let one : Work = work (spelling 0 (text_payload due.command)) in
    taken_goes false old t m c (goes flag one) marks (λ statements link. goes_spares flag one statements link) due.taken

pub told_goes : (old : MarkedTables) (t : Tables) (m : Marked) (c : ClientNo) (payload : List ℕ)
    → MarksBut (IsClearAt (tables_of old.tables) c) old.changed m → IsTold c payload (tables_of old.tables) (tables_of t)
    → GoesOn old (record { tables = t; changed = m })
told_goes old t m c payload marks told =
    changed_goes old t m c _ marks (λ link. word_spares payload told.client link) told.same

-- it leaves, and then its message is taken
left_taken_goes : (old : MarkedTables) (t : Tables) (m : Marked) (c : ClientNo) (seat : Seat → Seat) (by : ClientStatements → Client → Client)
    → MarksBut (IsClearAt (tables_of old.tables) c) old.changed m → ((s : Seat) → (seat s).link ≡ s.link)
    → ((statements : ClientStatements) (link : LinkId) → Spares link (by statements))
    → IsTaken true by c (left_in c seat (tables_of old.tables)) (tables_of t) → GoesOn old (record { tables = t; changed = m })
left_taken_goes old t m c seat by marks same spares taken =
    let left : Tabled = left_in c seat (tables_of old.tables) in
    goes_by _ old t m (client_changed c (by taken.statements) left) marks taken.same
    (λ link clear. quieter_on (tables_of old.tables) left _ link (left_quiet (tables_of old.tables) c seat link same clear)
    (client_quiet left c (by taken.statements) link (spares taken.statements link) (left_clear (tables_of old.tables) c seat link same clear)))
    (rows_on (tables_of old.tables) left _ (left_rows (tables_of old.tables) c seat) (client_rows left c _))

pub anew_goes : (old : MarkedTables) (t : Tables) (m : Marked) (c : ClientNo) (flag : ℕ) (packets : List ℕ)
    → MarksBut (IsClearAt (tables_of old.tables) c) old.changed m → BeginsAnew flag packets c (tables_of old.tables) (tables_of t)
    → GoesOn old (record { tables = t; changed = m })
anew_goes old t m c flag packets marks anew =
    left_taken_goes old t m c (λ (seat : Seat). seat) (answers flag packets) marks (λ s. refl)
    (λ statements link. answers_spares flag packets statements link) anew

pub quit_goes : (old : MarkedTables) (t : Tables) (m : Marked) (c : ClientNo) (flag : ℕ)
    → MarksBut (IsClearAt (tables_of old.tables) c) old.changed m → Quits flag c (tables_of old.tables) (tables_of t)
    → GoesOn old (record { tables = t; changed = m })
quit_goes old t m c flag marks quits =
    left_taken_goes old t m c ended (passes flag) marks (λ s. refl) (λ statements link. passes_spares flag statements link) quits

pub left_goes : (old : MarkedTables) (t : Tables) (m : Marked) (c : ClientNo) (seat : Seat → Seat)
    → MarksBut (IsClearAt (tables_of old.tables) c) old.changed m → ((s : Seat) → (seat s).link ≡ s.link)
    → IsSame (tables_of t) (left_in c seat (tables_of old.tables)) → GoesOn old (record { tables = t; changed = m })
left_goes old t m c seat marks same is =
    goes_by _ old t m (left_in c seat (tables_of old.tables)) marks is (λ link clear. left_quiet (tables_of old.tables) c seat link same clear)
    (left_rows (tables_of old.tables) c seat)

pub unnoted : (t : Tabled) (c : ClientNo) (by : Client → Client) → t.clients c ≡ None → IsSame t (client_changed c by t)
unnoted t c by none = record {
  clients = λ other. elim (cases_Bool (nat_eq c.0 other.0)) [
    | inl on ↦ let one : c ≡ other = client_of c other on in rw on (ap t.clients (sym one) ∙ none ∙ sym (ap (option_map by) none))
    | inr off ↦ rw off refl
  ];
  numbers = λ l. refl;
  links = λ l. refl;
}

pub changed_on_same : (new mid t : Tabled) (c : ClientNo) (by : Client → Client) → IsSame new (client_changed c by mid) → IsSame mid t
    → IsSame new (client_changed c by t)
changed_on_same new mid t c by next first = record {
  clients = λ other. next.clients other ∙ rw (first.clients c, first.clients other) refl;
  numbers = λ l. next.numbers l ∙ first.numbers l;
  links = λ l. next.links l ∙ first.links l;
}

-- it leaves, and then its seat changes
begun_by : (t : Tabled) (c : ClientNo) (seat : Seat → Seat) (row : Option Client) → t.clients c ≡ row
    → IsSame (client_changed c (seated seat)
    (option_map_or (λ (client : Client). client_put c (Some (left_row (λ (s : Seat). s) client)) (parted_in client.desk.sessions t)) row t))
    (option_map_or (λ (client : Client). client_put c (Some (left_row seat client)) (parted_in client.desk.sessions t)) row t)
begun_by t c seat None is = same_back (unnoted t c (seated seat) is)
begun_by t c seat (Some row) is = record {
  clients = λ other. elim (cases_Bool (nat_eq c.0 other.0)) [
    | inl on ↦ rw (on, eq-eqb c.0 c.0 refl) refl
    | inr off ↦ rw off refl
  ];
  numbers = λ l. refl;
  links = λ l. refl;
}

pub begun_again : (t mid new : Tabled) (c : ClientNo) (seat : Seat → Seat) → IsSame mid (left_in c (λ (s : Seat). s) t)
    → IsSame new (client_changed c (seated seat) mid) → IsSame new (left_in c seat t)
begun_again t mid new c seat left changed =
    let both : IsSame new (client_changed c (seated seat) (left_in c (λ (s : Seat). s) t)) =
    changed_on_same new mid (left_in c (λ (s : Seat). s) t) c (seated seat) changed left in
    same_on new (client_changed c (seated seat) (left_in c (λ (s : Seat). s) t)) (left_in c seat t) both (begun_by t c seat (t.clients c) refl)

-- the row of a link changes
pub link_goes : (old : MarkedTables) (t : Tables) (m : Marked) (l : LinkId) (by : Server → Server) → MarksBut (IsOther l) old.changed m
    → IsSame (tables_of t) (link_changed l by (tables_of old.tables)) → GoesOn old (record { tables = t; changed = m })
link_goes old t m l by marks same =
    goes_by _ old t m (link_changed l by (tables_of old.tables)) marks same (λ link other. link_quiet (tables_of old.tables) l by link other)
    (link_rows (tables_of old.tables) l by)

-- What is noted.

pub note_goes : (old : MarkedTables) (t : Tables) (mid m : Marked) (c : ClientNo) (note : ClientNote)
    → MarksBut (IsClearAt (tables_of old.tables) c) old.changed mid → IsMarkedAt note.readied mid m
    → IsSame (tables_of t) (noted c note (tables_of old.tables)) → GoesOn old (record { tables = t; changed = m })
note_goes old t mid m c note marks readied same =
    goes_by _ old t m (noted c note (tables_of old.tables)) (marks_both _ _ old.changed mid m marks (marks_at note.readied mid m readied)) same
    (λ link so. client_quiet (tables_of old.tables) c (with_note note) link (note_spares note link so.1) so.0)
    (client_rows (tables_of old.tables) c _)

pub noted_readied : (t new : Tabled) (c : ClientNo) (row : Client) (at : Option LinkId) → t.clients c ≡ Some row
    → IsSame new (noted c (record row.note { readied = at }) t) → IsSame new (client_changed c (with_readied at) t)
noted_readied t new c row at there same = record {
  clients = λ other. same.clients other ∙ ap (λ (r : Option Client). if nat_eq c.0 other.0 then r else t.clients other) (rw there refl);
  numbers = λ l. same.numbers l;
  links = λ l. same.links l;
}

-- Links come.

or_left : (a b : Bool) → (a || b) ≡ false → a ≡ false
or_left true b none = absurd (let e = none in cc)
or_left false b none = refl

or_right : (a b : Bool) → (a || b) ≡ false → b ≡ false
or_right true b none = absurd (let e = none in cc)
or_right false b none = none

or_other : (a b : Bool) → a ≡ false → (a || b) ≡ b
or_other true b off = absurd (let e = off in cc)
or_other false b off = refl

-- what is known behind that
comes_known : (old : Marked) (mid m : Marked) (l link : LinkId) → is_known m link ≡ (is_link l link || is_known mid link)
    → is_known mid link ≡ is_known old link → (IsOther l link → is_known old link ≡ true) → is_known m link ≡ true
comes_known old mid m l link known stays was = elim (cases_Bool (is_link l link)) [
  | inl on ↦ known ∙ ap (λ (b : Bool). b || is_known mid link) on
  | inr other ↦ known ∙ (or_other (is_link l link) (is_known mid link) other ∙ (stays ∙ was other))
]

comes_go : (Is : LinkId → Type 0) (old : MarkedTables) (t : Tables) (mid m : Marked) (l : LinkId) (after : Tabled) → MarksBut Is old.changed mid
    → ((other : LinkId) → is_known m other ≡ (is_link l other || is_known mid other))
    → ((other : LinkId) → is_marked m other ≡ (is_link l other || is_marked mid other)) → IsSame (tables_of t) after
    → ((link : LinkId) → IsOther l link → Is link → IsQuieter (tables_of old.tables) after link)
    → ((link : LinkId) → IsOther l link → has_row after link ≡ has_row (tables_of old.tables) link) → GoesOn old (record { tables = t; changed = m })
comes_go Is old t mid m l after marks known marked same quiet rows = spared_go old t m after same
    (λ link there off.
    let none : (is_link l link || is_marked mid link) ≡ false = sym (marked link) ∙ off in
    let other : IsOther l link = or_left (is_link l link) (is_marked mid link) none in
    let unmarked : is_marked mid link ≡ false = or_right (is_link l link) (is_marked mid link) none in
    let was : is_known old.changed link ≡ true =
    sym (marks.more.known link) ∙ (sym (or_other (is_link l link) (is_known mid link) other) ∙ (sym (known link) ∙ there)) in
    record { unmarked = marks.more.kept link unmarked; known = was; quieter = quiet link other (marks.others link was unmarked) })
    (λ are link is. comes_known old.changed mid m l link (known link) (marks.more.known link) (λ other. are link (sym (rows link other) ∙ is)))

pub come_goes : (old : MarkedTables) (t : Tables) (a b d m : Marked) (c : ClientNo) (l : LinkId) (seat : Seat) (note : ClientNote)
    → MarksBut (IsClearAt (tables_of old.tables) c) old.changed a → IsMarkedAt (Some seat.link) a b → IsMarkedAt note.readied b d
    → ((other : LinkId) → is_known m other ≡ (is_link l other || is_known d other))
    → ((other : LinkId) → is_marked m other ≡ (is_link l other || is_marked d other))
    → IsSame (tables_of t) (came c l seat note (tables_of old.tables)) → GoesOn old (record { tables = t; changed = m })
come_goes old t a b d m c l seat note marks own readied known marked same =
    comes_go _ old t d m l (came c l seat note (tables_of old.tables))
    (marks_both _ _ old.changed b d (marks_both _ _ old.changed a b marks (marks_at (Some seat.link) a b own)) (marks_at note.readied b d readied))
    known marked same
    (λ link other so. came_quiet (tables_of old.tables) c l seat note link other so.0.1 so.1 so.0.0) (λ link other. rw other refl)

pub open_goes : (old : MarkedTables) (t : Tables) (m : Marked) (l : LinkId) (row : Option Server)
    → ((other : LinkId) → is_known m other ≡ (is_link l other || is_known old.changed other))
    → ((other : LinkId) → is_marked m other ≡ (is_link l other || is_marked old.changed other))
    → IsSame (tables_of t) (link_put l row (tables_of old.tables)) → GoesOn old (record { tables = t; changed = m })
open_goes old t m l row known marked same =
    comes_go (λ link. Unit {0}) old t old.changed m l (link_put l row (tables_of old.tables))
    (record { more = more_none old.changed; others = λ link there off. tt }) known marked same
    (λ link other so. server_quieter (tables_of old.tables) l row link other) (λ link other. rw other refl)

-- Links leave.

gone_other : (t : Tabled) (l link : LinkId) (old m : Marked) → Leaves t l old m → is_known m link ≡ true → is_marked m link ≡ false → IsOther l link
gone_other t l link old m leaves there off = elim (cases_Bool (nat_eq l.0 link.0)) [
  | inl on ↦
      let one : l ≡ link = link_of l link on in
      let bad : true ≡ false = sym (leaves.gone (ap (is_known m) one ∙ there)) ∙ (ap (is_marked m) one ∙ off) in
      absurd cc
  | inr none ↦ none
]

-- what has a row is known as it was
leaves_known : (t : Tabled) (l link : LinkId) (old m : Marked) → Leaves t l old m → has_row t link ≡ true → is_known m link ≡ is_known old link
leaves_known t l link old m leaves row = elim (cases_Bool (nat_eq l.0 link.0)) [
  | inl on ↦
      let one : l ≡ link = link_of l link on in
      subst (λ (at : LinkId). is_known m at ≡ is_known old at) one (leaves.stays (ap (has_row t) one ∙ row))
  | inr other ↦ leaves.known link other
]

leaves_go : (Is : LinkId → Type 0) (old : MarkedTables) (t : Tables) (mid m : Marked) (l : LinkId) (after : Tabled) → MarksBut Is old.changed mid
    → Leaves (tables_of t) l mid m → IsSame (tables_of t) after
    → ((link : LinkId) → IsOther l link → Is link → IsQuieter (tables_of old.tables) after link)
    → ((link : LinkId) → has_row after link ≡ true → has_row (tables_of old.tables) link ≡ true) → GoesOn old (record { tables = t; changed = m })
leaves_go Is old t mid m l after marks leaves same quiet fewer = spared_go old t m after same
    (λ link there off.
    let other : IsOther l link = gone_other (tables_of t) l link mid m leaves there off in
    let unmarked : is_marked mid link ≡ false = sym (leaves.marked link other) ∙ off in
    let was : is_known old.changed link ≡ true = sym (marks.more.known link) ∙ (sym (leaves.known link other) ∙ there) in
    record { unmarked = marks.more.kept link unmarked; known = was; quieter = quiet link other (marks.others link was unmarked) })
    (λ are link is.
    leaves_known (tables_of t) l link mid m leaves ((same_rows after (tables_of t) same).rows link ∙ is)
    ∙ (marks.more.known link ∙ are link (fewer link is)))

pub unlinked_goes : (old : MarkedTables) (t : Tables) (m : Marked) (l : LinkId) → Leaves (tables_of t) l old.changed m
    → IsSame (tables_of t) (unlinked l (tables_of old.tables)) → GoesOn old (record { tables = t; changed = m })
unlinked_goes old t m l leaves same =
    leaves_go (λ link. Unit {0}) old t old.changed m l (unlinked l (tables_of old.tables))
    (record { more = more_none old.changed; others = λ link there off. tt }) leaves same
    (λ link other so. server_quieter (tables_of old.tables) l None link other) (unlinked_rows (tables_of old.tables) l)

pub forgotten_goes : (old : MarkedTables) (t : Tables) (mid m : Marked) (c : ClientNo) (l : LinkId)
    → MarksBut (IsClearAt (tables_of old.tables) c) old.changed mid → Leaves (tables_of t) l mid m
    → IsSame (tables_of t) (forgotten c (tables_of old.tables)) → GoesOn old (record { tables = t; changed = m })
forgotten_goes old t mid m c l marks leaves same =
    leaves_go _ old t mid m l (forgotten c (tables_of old.tables)) marks leaves same
    (λ link other clear. forgotten_quiet (tables_of old.tables) c link clear) (forgotten_rows (tables_of old.tables) c)
