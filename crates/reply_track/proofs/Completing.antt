-- From each state that is alive a reply can go on to its end.
use Rattle.std.proofs.Common.{◌≡◌, ◌≢◌, ◌≤◌, ◌<◌, ℕ, zero, suc, ◌+◌, ◌-◌, ◌*◌, Bool, true, false, cond, ◌||◌, nat_le, nat_eq, Some, length, refl, ◌∙◌, sym, ap, subst, arith, lit<}
use Rattle.std.proofs.lemmas.Bool.{le-leb, leb-true, leb-false, le-ltb}
use Rattle.std.proofs.lemmas.Bool.Decides.{nat_tests}
use Rattle.packet_frame.specs.Packets.{longest}
use Rattle.packet_frame.specs.PacketLaws.{nat_eq-true, nat_eq-false}
use Rattle.reply_track.specs.declared.due.Due.{Due}
use Rattle.reply_track.specs.declared.due.Due.TheVariants.{Result as ResultDue, Answer, Listing, Definition, End, Row, Field}
use Rattle.reply_track.specs.declared.due.Next.{Next}
use Rattle.reply_track.specs.declared.due.Next.TheVariants.{Goes, Ends}
use Rattle.reply_track.specs.declared.head.Cell.{Cell}
use Rattle.reply_track.specs.declared.head.Cell.TheVariants.{RowsFirst, InsertFirst, ErrMark, CountZero, Filler}
use Rattle.reply_track.specs.declared.head.Number.{Number}
use Rattle.reply_track.specs.declared.head.Number.TheVariants.{Rows as RowsNumber, Insert, Flags, Code, Eof as EofNumber, Count, Statement, Shape, Warnings}
use Rattle.reply_track.specs.declared.body.Body.{Body}
use Rattle.reply_track.specs.declared.body.Body.TheVariants.{Due as DueBody, Cell as CellBody, Number as NumberBody, Rest}
use Rattle.reply_track.specs.declared.place.Place.{Place}
use Rattle.reply_track.specs.declared.place.Place.TheVariants.{First, Second, Third, Id as IdPlace, Body as BodyPlace}
use Rattle.reply_track.specs.declared.place.State.{State}
use Rattle.reply_track.specs.declared.place.Outcome.{Outcome}
use Rattle.reply_track.specs.declared.place.Outcome.TheVariants.{On}
use Rattle.reply_track.specs.Payloads.{err_end}
use Rattle.reply_track.specs.declared.head.Eof.TheVariants.{Definitions as DefinitionsEof}
use Rattle.reply_track.specs.Steps.{next_id, step, taken, after_plain, rest_due, takes_low, takes_length, is_short, body_takes_length, empty_body, empty_by, payload_by, number_of, count_taken, number_read, shifted, two_bytes}
use Rattle.reply_track.proofs.Crossing.{mk, packet_at, packet-same}
use Rattle.reply_track.proofs.Classes.{is_not}
use Rattle.reply_track.proofs.Finishing.{Completes, CompletesAt, completes, due-completes, next-completes, long-completes}
use Rattle.reply_track.proofs.Living.{cell_needs, Fits, FitsDue, IsAtHeader, LowAt, LengthAt, IsAt, IsAlive, FitsAt}
use Rattle.reply_track.proofs.Alive.{fits_on, taken_fits}

-- a byte with which a payload goes on
record GoodByte (left : ℕ) (body : Body) : Type 0 where
  pub b : ℕ
  pub small : b < 256
  pub next : Body
  pub goes : taken body left b ≡ Some next

result_byte : (n : ℕ) (p q r s : Bool) → nat_eq n 1 ≡ p → nat_eq n 3 ≡ q → nat_eq n 4 ≡ r → nat_le 7 n ≡ s → (p || q || r || s) ≡ true → GoodByte n (DueBody ResultDue)
result_byte n true q r s one three four long may = subst (λ m. GoodByte m (DueBody ResultDue)) (sym (nat_eq-true n 1 one)) (record { b = 1; small = lit< tt; next = count_taken 1 0; goes = refl })
result_byte n false true r s one three four long may = subst (λ m. GoodByte m (DueBody ResultDue)) (sym (nat_eq-true n 3 three)) (record { b = 252; small = lit< tt; next = number_of (Count 0) 2; goes = refl })
result_byte n false false true s one three four long may = subst (λ m. GoodByte m (DueBody ResultDue)) (sym (nat_eq-true n 4 four)) (record { b = 253; small = lit< tt; next = number_of (Count 1) 2; goes = refl })
result_byte n false false false true one three four long may = record { b = 0; small = lit< tt; next = CellBody RowsFirst; goes = rw long refl }
result_byte n false false false false one three four long may = absurd (cc)

due_byte : (due : Due) (n : ℕ) → takes_length due n ≡ true → GoodByte n (DueBody due)
due_byte ResultDue n may = result_byte n (nat_eq n 1) (nat_eq n 3) (nat_eq n 4) (nat_le 7 n) refl refl refl refl may
due_byte Answer n may = record { b = 255; small = lit< tt; next = number_of Code 2; goes = rw may refl }
due_byte Listing n may = record { b = 0; small = lit< tt; next = Rest (Goes Field); goes = refl }
due_byte (Definition left behind) n may = record { b = 0; small = lit< tt; next = Rest (Goes (cond (nat_le left 1) (End behind) (Definition (left - 1) behind))); goes = refl }
due_byte (End behind) n may = record { b = 254; small = lit< tt; next = number_of (EofNumber (DefinitionsEof behind)) 4; goes = rw may refl }
due_byte Row n may = record { b = 0; small = lit< tt; next = Rest (Goes Row); goes = refl }
due_byte Field n may = record { b = 0; small = lit< tt; next = Rest (Goes Field); goes = refl }

cell_byte : (cell : Cell) (left : ℕ) → cell_needs cell ≤ left → GoodByte left (CellBody cell)
cell_byte RowsFirst left room = record { b = 0; small = lit< tt; next = CellBody InsertFirst; goes = rw (le-ltb left 6 room) refl }
cell_byte InsertFirst left room = record { b = 0; small = lit< tt; next = number_of (Flags 0) 4; goes = rw (le-ltb left 5 room) refl }
cell_byte (ErrMark code) left room = record { b = 35; small = lit< tt; next = Rest (Ends (err_end code)); goes = refl }
cell_byte (CountZero count more) left room = record { b = 0; small = lit< tt; next = count_taken count more; goes = refl }
cell_byte (Filler number columns params) left room = record { b = 0; small = lit< tt; next = number_of (Warnings number columns params) 2; goes = refl }

record ReadTo (field : Number) (value : ℕ) : Type 0 where
  pub next : Body
  pub is : number_read field value ≡ Some next

number_to : (field : Number) (value : ℕ) → two_bytes value ≢ 0 → ReadTo field value
number_to RowsNumber value some = record { next = _; is = refl }
number_to (Insert size) value some = record { next = _; is = refl }
number_to (Flags insert_id) value some = record { next = _; is = refl }
number_to Code value some = record { next = _; is = refl }
number_to (EofNumber eof) value some = record { next = _; is = refl }
number_to (Count more) value some = record { next = count_taken (two_bytes value) more; is = rw (is_not (two_bytes value) 0 some) refl }
number_to Statement value some = record { next = _; is = refl }
number_to (Shape number) value some = record { next = _; is = refl }
number_to (Warnings number columns params) value some = record { next = _; is = refl }

number_byte_of : (field : Number) (size value left : ℕ) → GoodByte left (NumberBody field size value)
number_byte_of field size value left = of (nat_le size 1) refl (number_to field (shifted value 1) (λ none. omega arith)) where
  of : (one : Bool) → nat_le size 1 ≡ one → ReadTo field (shifted value 1) → GoodByte left (NumberBody field size value)
  of true one to = record { b = 1; small = lit< tt; next = to.next; goes = rw one to.is }
  of false one to = record { b = 1; small = lit< tt; next = NumberBody field (size - 1) (shifted value 1); goes = rw one refl }

good_byte : (body : Body) (left : ℕ) → FitsDue left body → GoodByte left body
good_byte (DueBody due) left fits = due_byte due left fits
good_byte (CellBody cell) left fits = cell_byte cell left fits
good_byte (NumberBody field size value) left fits = number_byte_of field size value left
good_byte (Rest next) left fits = record { b = 0; small = lit< tt; next = Rest next; goes = refl }

-- the end of a packet
last_completes : (server client number : ℕ) (long : Bool) (body : Body) → server < 256 → Fits 0 body → CompletesAt (packet_at server client number long body)
last_completes server client number true (Rest next) small fits = long-completes server client number next small
last_completes server client number false (Rest next) small fits = next-completes server client number next small
last_completes server client number long (DueBody due) small fits = absurd fits
last_completes server client number long (CellBody cell) small fits = absurd (no_cell cell fits) where
  no_cell : (cell : Cell) → cell_needs cell ≤ 0 → ⊥
  no_cell RowsFirst room = omega arith
  no_cell InsertFirst room = omega arith
  no_cell (ErrMark code) room = omega arith
  no_cell (CountZero count more) room = omega arith
  no_cell (Filler number columns params) room = omega arith
last_completes server client number long (NumberBody field size value) small fits = absurd (omega (arith, fits.some, fits.room))

body_completes : (fuel left : ℕ) (server client number : ℕ) (long : Bool) (body : Body) → left < fuel → 0 < left → server < 256 → FitsDue left body → Completes (mk server client number (BodyPlace left long) body)
body_completes zero left server client number long body enough some small fits = absurd (omega arith)
body_completes (suc fuel) left server client number long body enough some small fits =
    let at = good_byte body left fits in
    let fits_behind : Fits (left - 1) at.next = subst (FitsAt (left - 1)) at.goes (taken_fits body left at.b fits) in
    let state : State = mk server client number (BodyPlace left long) body in
    let goes : step state at.b ≡ payload_by state left long (Some at.next) = ap (payload_by state left long) at.goes in
    of at.b at.next (nat_le left 1) at.small refl goes fits_behind (λ next fits more. body_completes fuel (left - 1) server client number long next (omega arith) more small fits) where
      of : (b : ℕ) (next : Body) (last : Bool) → b < 256 → nat_le left 1 ≡ last → step (mk server client number (BodyPlace left long) body) b ≡ payload_by (mk server client number (BodyPlace left long) body) left long (Some next) → Fits (left - 1) next
          → ((next : Body) → FitsDue (left - 1) next → 0 < left - 1 → Completes (mk server client number (BodyPlace (left - 1) long) next)) → Completes (mk server client number (BodyPlace left long) body)
      of b next true is_small last goes fits_next others =
          let state : State = mk server client number (BodyPlace left long) body in
          let none : left - 1 ≡ 0 = omega (arith, leb-true left 1 last) in
          let ends : step state b ≡ packet_at server client number long next = goes ∙ rw last (packet-same server client number (BodyPlace left long) body long next) in
          completes state b (packet_at server client number long next) is_small ends (last_completes server client number long next small (subst (λ n. Fits n next) none fits_next))
      of b next false is_small last goes fits_next others =
          let state : State = mk server client number (BodyPlace left long) body in
          let more : 1 < left = leb-false left 1 last in
          let ends : step state b ≡ On (mk server client number (BodyPlace (left - 1) long) next) = goes ∙ rw last refl in
          completes state b (On (mk server client number (BodyPlace (left - 1) long) next)) is_small ends (others next (fits_on (left - 1) next fits_next) (omega arith))

-- headers
empty_due : (due : Due) → takes_length due 0 ≡ true → (next : Due) × (after_plain due ≡ Some next)
empty_due ResultDue may = absurd (cc)
empty_due Answer may = absurd (cc)
empty_due Listing may = (Field, refl)
empty_due (Definition left behind) may = (_, refl)
empty_due (End behind) may = absurd (cc)
empty_due Row may = (Row, refl)
empty_due Field may = (Field, refl)

empty_next : (body : Body) → LengthAt body 0 → (next : Next) × (empty_body body ≡ Some (Rest next))
empty_next (DueBody due) at = let found = empty_due due at.takes in (Goes found.0, ap rest_due found.1)
empty_next (Rest next) at = (next, refl)
empty_next (CellBody cell) at = absurd at.header
empty_next (NumberBody field size value) at = absurd at.header

opened_at : (length : ℕ) (body : Body) → LengthAt body length → FitsDue length body
opened_at length (DueBody due) at = at.takes
opened_at length (Rest next) at = tt
opened_at length (CellBody cell) at = absurd at.header
opened_at length (NumberBody field size value) at = absurd at.header

same_byte : (id : ℕ) → nat_eq id id ≡ true
same_byte id = grind (arith, nat_tests)

id_completes : (server client number length : ℕ) (body : Body) → server < 256 → LengthAt body length → Completes (mk server client number (IdPlace length) body)
id_completes server client number length body small at = of (nat_eq length 0) refl where
  of : (none : Bool) → nat_eq length 0 ≡ none → Completes (mk server client number (IdPlace length) body)
  of true none =
      let is : length ≡ 0 = nat_eq-true length 0 none in
      let found = empty_next body (subst (LengthAt body) is at) in
      let to : Outcome = packet_at (next_id server) (next_id client) number false (Rest found.0) in
      let goes : step (mk server client number (IdPlace length) body) server ≡ to = rw (same_byte server, none) (ap (empty_by (mk (next_id server) (next_id client) number (IdPlace length) body)) found.1 ∙ packet-same (next_id server) (next_id client) number (IdPlace length) body false (Rest found.0)) in
      completes (mk server client number (IdPlace length) body) server to small goes (last_completes (next_id server) (next_id client) number false (Rest found.0) (omega arith) tt)
  of false none =
      let to : State = mk (next_id server) (next_id client) number (BodyPlace length (nat_eq length longest)) body in
      let goes : step (mk server client number (IdPlace length) body) server ≡ On to = rw (same_byte server, none) refl in
      completes (mk server client number (IdPlace length) body) server (On to) small goes (body_completes (suc length) length (next_id server) (next_id client) number (nat_eq length longest) body (omega arith) (omega (arith, nat_eq-false length 0 none)) (omega arith) (opened_at length body at))

-- the last byte of a length
record LastLow (body : Body) (low : ℕ) : Type 0 where
  pub b : ℕ
  pub small : b < 256
  pub takes : body_takes_length body (low + 65536 * b) ≡ true

due_last : (due : Due) (low : ℕ) → takes_low due low ≡ true → LastLow (DueBody due) low
due_last ResultDue low may = record { b = 1; small = lit< tt; takes = grind (arith, nat_tests) }
due_last Answer low may = record { b = 1; small = lit< tt; takes = le-leb 9 (low + 65536 * 1) (omega arith) }
due_last Listing low may = record { b = 1; small = lit< tt; takes = refl }
due_last (Definition left behind) low may = record { b = 1; small = lit< tt; takes = refl }
due_last (End behind) low may = let same : low + 65536 * 0 ≡ low = omega arith in record { b = 0; small = lit< tt; takes = ap is_short same ∙ may }
due_last Row low may = record { b = 1; small = lit< tt; takes = refl }
due_last Field low may = record { b = 1; small = lit< tt; takes = refl }

last_low : (body : Body) (low : ℕ) → LowAt body low → LastLow body low
last_low (DueBody due) low at = due_last due low at.takes
last_low (Rest next) low at = record { b = 1; small = lit< tt; takes = refl }
last_low (CellBody cell) low at = absurd at.header
last_low (NumberBody field size value) low at = absurd at.header

third_completes : (server client number low : ℕ) (body : Body) → server < 256 → LowAt body low → Completes (mk server client number (Third low) body)
third_completes server client number low body small at =
    let last = last_low body low at in
    let to : State = mk server client number (IdPlace (low + 65536 * last.b)) body in
    completes (mk server client number (Third low) body) last.b (On to) last.small (rw last.takes refl) (id_completes server client number (low + 65536 * last.b) body small (record { header = at.header; takes = last.takes }))

second_completes : (server client number low : ℕ) (body : Body) → server < 256 → LowAt body low → Completes (mk server client number (Second low) body)
second_completes server client number low body small at =
    let same : low + 256 * 0 ≡ low = omega arith in
    let goes : step (mk server client number (Second low) body) 0 ≡ On (mk server client number (Third low) body) = rw same (rw at.takes refl) in
    completes (mk server client number (Second low) body) 0 (On (mk server client number (Third low) body)) (lit< tt) goes (third_completes server client number low body small at)

first_completes : (server client number : ℕ) (body : Body) → server < 256 → IsAtHeader body → Completes (mk server client number First body)
first_completes server client number (DueBody due) small at = due-completes server client number due small
first_completes server client number (Rest next) small at = long-completes server client number next small
first_completes server client number (CellBody cell) small at = absurd at
first_completes server client number (NumberBody field size value) small at = absurd at

at_place : (server client number : ℕ) (place : Place) (body : Body) → server < 256 → IsAt place body → Completes (mk server client number place body)
at_place server client number First body small at = first_completes server client number body small at
at_place server client number (Second low) body small at = second_completes server client number low body small at
at_place server client number (Third low) body small at = third_completes server client number low body small at
at_place server client number (IdPlace length) body small at = id_completes server client number length body small at
at_place server client number (BodyPlace left long) body small at = body_completes (suc left) left server client number long body (omega arith) at.some small at.fits

pub alive-completes : (state : State) → IsAlive state → Completes state
alive-completes state alive = at_place state.server state.client state.number state.place state.body alive.small alive.at
