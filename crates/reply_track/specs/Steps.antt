-- What a tracker does at each byte of a reply.
use Rattle.std.specs.Prelude.{ℕ, ◌+◌, ◌-◌, ◌*◌, ◌/◌, ◌%◌, Bool, true, false, ◌&&◌, ◌||◌, not, nat_lt, nat_le, nat_eq, bit_and, Option, Some, None, if◌then◌else◌}
use Rattle.packet_frame.specs.Packets.{longest}
use Rattle.reply_track.specs.declared.reply.ReplyKind.{ReplyKind}
use Rattle.reply_track.specs.declared.reply.ReplyKind.TheVariants.{Command, Prepare, Fields}
use Rattle.reply_track.specs.declared.reply.ReplyEnd.{ReplyEnd}
use Rattle.reply_track.specs.declared.due.Prepared.{Prepared}
use Rattle.reply_track.specs.declared.due.Behind.{Behind}
use Rattle.reply_track.specs.declared.due.Behind.TheVariants.{Rows as RowsBehind, Columns as ColumnsBehind}
use Rattle.reply_track.specs.declared.due.Due.{Due}
use Rattle.reply_track.specs.declared.due.Due.TheVariants.{Result as ResultDue, Answer, Listing, Definition, End, Row, Field}
use Rattle.reply_track.specs.declared.due.Next.{Next}
use Rattle.reply_track.specs.declared.due.Next.TheVariants.{Goes, Ends}
use Rattle.reply_track.specs.declared.head.Eof.{Eof}
use Rattle.reply_track.specs.declared.head.Eof.TheVariants.{Definitions as DefinitionsEof, Rows as RowsEof, Fields as FieldsEof}
use Rattle.reply_track.specs.declared.head.Cell.{Cell}
use Rattle.reply_track.specs.declared.head.Cell.TheVariants.{RowsFirst, InsertFirst, ErrMark, CountZero, Filler}
use Rattle.reply_track.specs.declared.head.Number.{Number}
use Rattle.reply_track.specs.declared.head.Number.TheVariants.{Rows as RowsNumber, Insert, Flags, Code, Eof as EofNumber, Count, Statement, Shape, Warnings}
use Rattle.reply_track.specs.declared.body.Body.{Body}
use Rattle.reply_track.specs.declared.body.Body.TheVariants.{Due as DueBody, Cell as CellBody, Number as NumberBody, Rest}
use Rattle.reply_track.specs.declared.place.Place.{Place}
use Rattle.reply_track.specs.declared.place.Place.TheVariants.{First, Second, Third, Id as IdPlace, Body as BodyPlace}
use Rattle.reply_track.specs.declared.place.State.{State}
use Rattle.reply_track.specs.declared.place.Outcome.{Outcome}
use Rattle.reply_track.specs.declared.place.Outcome.TheVariants.{On, Over, Wrong}
use Rattle.reply_track.specs.Payloads.{size_behind, ok_end, err_end, rows_end, prepared_end_of}

abbrev pub next_id : ℕ → ℕ
next_id id = (id + 1) % 256

-- what is due first, and behind a payload
abbrev pub first_due : ReplyKind → Due
first_due Command = ResultDue
first_due Prepare = Answer
first_due Fields = Listing

abbrev pub after_plain : Due → Option Due
after_plain ResultDue = None
after_plain Answer = None
after_plain Listing = Some Field
after_plain (Definition left behind) = Some (if nat_le left 1 then End behind else Definition (left - 1) behind)
after_plain (End behind) = None
after_plain Row = Some Row
after_plain Field = Some Field

abbrev pub prepared_end : Prepared → ReplyEnd
prepared_end prepared = prepared_end_of prepared.number prepared.params prepared.warnings

abbrev pub behind_end : Behind → Next
behind_end RowsBehind = Goes Row
behind_end (ColumnsBehind columns prepared) = if nat_eq columns 0 then Ends (prepared_end prepared) else Goes (Definition columns (ColumnsBehind 0 prepared))

abbrev pub after_prepared : (columns : ℕ) → Prepared → Next
after_prepared columns prepared = if nat_eq prepared.params 0 then behind_end (ColumnsBehind columns prepared) else Goes (Definition prepared.params (ColumnsBehind columns prepared))

-- MORE_RESULTS_EXISTS: another result follows
abbrev pub after_result : (flags : ℕ) → ReplyEnd → Next
after_result flags end = if nat_eq (bit_and flags 8) 0 then Ends end else Goes ResultDue

abbrev pub after_eof : Eof → (flags warnings : ℕ) → Next
after_eof (DefinitionsEof behind) flags warnings = behind_end behind
after_eof RowsEof flags warnings = after_result flags (rows_end flags warnings)
after_eof FieldsEof flags warnings = Ends (rows_end flags warnings)

-- which lengths, and which low bytes of them, a payload may have
abbrev pub is_short : ℕ → Bool
is_short length = nat_le 5 length && nat_le length 8

abbrev pub takes_low : Due → ℕ → Bool
takes_low ResultDue low = true
takes_low Answer low = true
takes_low Listing low = true
takes_low (Definition left behind) low = true
takes_low (End behind) low = is_short low
takes_low Row low = true
takes_low Field low = true

abbrev pub takes_length : Due → ℕ → Bool
takes_length ResultDue length = nat_eq length 1 || nat_eq length 3 || nat_eq length 4 || nat_le 7 length
takes_length Answer length = nat_le 9 length
takes_length Listing length = true
takes_length (Definition left behind) length = true
takes_length (End behind) length = is_short length
takes_length Row length = true
takes_length Field length = true

-- bodies
abbrev pub number_of : Number → (size : ℕ) → Body
number_of number size = NumberBody number size 0

abbrev pub rest_due : Option Due → Option Body
rest_due None = None
rest_due (Some due) = Some (Rest (Goes due))

abbrev pub takes_err : Due → Bool
takes_err ResultDue = true
takes_err Answer = true
takes_err Listing = true
takes_err (Definition left behind) = false
takes_err (End behind) = false
takes_err Row = true
takes_err Field = false

abbrev pub eof_of : Due → Option Eof
eof_of ResultDue = None
eof_of Answer = None
eof_of Listing = Some FieldsEof
eof_of (Definition left behind) = None
eof_of (End behind) = Some (DefinitionsEof behind)
eof_of Row = Some RowsEof
eof_of Field = Some FieldsEof

abbrev pub eof_body : Option Eof → Option Body
eof_body None = None
eof_body (Some eof) = Some (number_of (EofNumber eof) 4)

abbrev pub count_taken : (count zeros : ℕ) → Body
count_taken count zeros = if nat_eq zeros 0 then Rest (Goes (Definition count RowsBehind)) else CellBody (CountZero count (zeros - 1))

abbrev pub result_opened : (length byte : ℕ) → Option Body
result_opened length byte =
    if nat_eq byte 0 then (if nat_le 7 length then Some (CellBody RowsFirst) else None)
    else if nat_le byte 250 then (if nat_eq length 1 then Some (count_taken byte 0) else None)
    else if nat_eq byte 252 then (if nat_eq length 3 then Some (number_of (Count 0) 2) else None)
    else if nat_eq byte 253 then (if nat_eq length 4 then Some (number_of (Count 1) 2) else None)
    else if nat_eq byte 254 then (if nat_eq length 9 then Some (number_of (Count 6) 2) else None)
    else None

abbrev pub answer_opened : (length byte : ℕ) → Option Body
answer_opened length byte = if nat_eq byte 0 && nat_eq length 12 then Some (number_of Statement 4) else None

abbrev pub opened_by : Due → (length byte : ℕ) → Option Body
opened_by ResultDue length byte = result_opened length byte
opened_by Answer length byte = answer_opened length byte
opened_by Listing length byte = rest_due (after_plain Listing)
opened_by (Definition left behind) length byte = rest_due (after_plain (Definition left behind))
opened_by (End behind) length byte = None
opened_by Row length byte = rest_due (after_plain Row)
opened_by Field length byte = rest_due (after_plain Field)

abbrev pub opened : Due → (length byte : ℕ) → Option Body
opened due length byte =
    if nat_eq byte 255 then (if takes_err due && nat_le 9 length then Some (number_of Code 2) else None)
    else if nat_eq byte 254 && is_short length then eof_body (eof_of due)
    else opened_by due length byte

-- fields of one byte, where so many bytes of the packet are left with it
abbrev pub rows_by : Option ℕ → (left : ℕ) → Option Body
rows_by None left = None
rows_by (Some size) left =
    if nat_lt left (size + 6) then None
    else if nat_eq size 0 then Some (CellBody InsertFirst)
    else Some (number_of RowsNumber size)

abbrev pub rows_taken : (left byte : ℕ) → Option Body
rows_taken left byte = rows_by (size_behind byte) left

abbrev pub insert_by : Option ℕ → (left byte : ℕ) → Option Body
insert_by None left byte = None
insert_by (Some size) left byte =
    if nat_lt left (size + 5) then None
    else if nat_eq size 0 then Some (number_of (Flags byte) 4)
    else Some (number_of (Insert size) size)

abbrev pub insert_taken : (left byte : ℕ) → Option Body
insert_taken left byte = insert_by (size_behind byte) left byte

abbrev pub cell_taken : Cell → (left byte : ℕ) → Option Body
cell_taken RowsFirst left byte = rows_taken left byte
cell_taken InsertFirst left byte = insert_taken left byte
cell_taken (ErrMark code) left byte = if nat_eq byte 35 then Some (Rest (Ends (err_end code))) else None
cell_taken (CountZero count zeros) left byte = if nat_eq byte 0 then Some (count_taken count zeros) else None
cell_taken (Filler number columns params) left byte = if nat_eq byte 0 then Some (number_of (Warnings number columns params) 2) else None

-- numbers, whose bytes stand at the top of a number of 8 bytes
abbrev pub two_bytes : ℕ → ℕ
two_bytes value = value / 0x1_0000_0000_0000

abbrev pub four_bytes : ℕ → ℕ
four_bytes value = value / 0x1_0000_0000

abbrev pub insert_scaled : (size value : ℕ) → ℕ
insert_scaled size value =
    if nat_eq size 2 then two_bytes value
    else if nat_eq size 3 then value / 0x100_0000_0000
    else value

abbrev pub number_read : Number → (value : ℕ) → Option Body
number_read RowsNumber value = Some (CellBody InsertFirst)
number_read (Insert size) value = Some (number_of (Flags (insert_scaled size value)) 4)
number_read (Flags insert_id) value = Some (Rest (after_result (four_bytes value % 65536) (ok_end (four_bytes value % 65536) (four_bytes value / 65536) insert_id)))
number_read Code value = Some (CellBody (ErrMark (two_bytes value)))
number_read (EofNumber eof) value = Some (Rest (after_eof eof (four_bytes value / 65536) (four_bytes value % 65536)))
number_read (Count zeros) value = if nat_eq (two_bytes value) 0 then None else Some (count_taken (two_bytes value) zeros)
number_read Statement value = Some (number_of (Shape (four_bytes value)) 4)
number_read (Shape number) value = Some (CellBody (Filler number (four_bytes value % 65536) (four_bytes value / 65536)))
number_read (Warnings number columns params) value = Some (Rest (after_prepared columns (record { number = number; params = params; warnings = two_bytes value })))

abbrev pub number_taken : Number → (left value : ℕ) → Option Body
number_taken number left value = if nat_le left 1 then number_read number value else Some (NumberBody number (left - 1) value)

-- the byte that comes enters at the top
abbrev pub shifted : (value byte : ℕ) → ℕ
shifted value byte = value / 256 + byte * 0x100_0000_0000_0000

abbrev pub taken : Body → (left byte : ℕ) → Option Body
taken (DueBody due) left byte = opened due left byte
taken (CellBody cell) left byte = cell_taken cell left byte
taken (NumberBody number size value) left byte = number_taken number size (shifted value byte)
taken (Rest next) left byte = Some (Rest next)

abbrev pub empty_body : Body → Option Body
empty_body (DueBody due) = rest_due (after_plain due)
empty_body (CellBody cell) = Some (CellBody cell)
empty_body (NumberBody number size value) = Some (NumberBody number size value)
empty_body (Rest next) = Some (Rest next)

-- packets
abbrev pub at_due : State → Due → State
at_due state due = record state { place = First; body = DueBody due }

abbrev pub followed : State → Next → Outcome
followed state (Goes due) = On (at_due state due)
followed state (Ends end) = Over end

abbrev pub packet_ended : State → (long : Bool) → Body → Outcome
packet_ended state long (Rest next) = if long then On (record state { place = First; body = Rest next }) else followed state next
packet_ended state long (DueBody due) = Wrong
packet_ended state long (CellBody cell) = Wrong
packet_ended state long (NumberBody number size value) = Wrong

abbrev pub payload_by : State → (left : ℕ) (long : Bool) → Option Body → Outcome
payload_by state left long None = Wrong
payload_by state left long (Some body) = if nat_le left 1 then packet_ended state long body else On (record state { place = BodyPlace (left - 1) long; body = body })

abbrev pub payload_taken : State → (left : ℕ) (long : Bool) (byte : ℕ) → Outcome
payload_taken state left long byte = payload_by state left long (taken state.body left byte)

abbrev pub body_takes_low : Body → ℕ → Bool
body_takes_low (DueBody due) low = takes_low due low
body_takes_low (CellBody cell) low = true
body_takes_low (NumberBody number size value) low = true
body_takes_low (Rest next) low = true

abbrev pub body_takes_length : Body → ℕ → Bool
body_takes_length (DueBody due) length = takes_length due length
body_takes_length (CellBody cell) length = true
body_takes_length (NumberBody number size value) length = true
body_takes_length (Rest next) length = true

abbrev pub low_taken : State → Place → (low : ℕ) → Outcome
low_taken state place low = if body_takes_low state.body low then On (record state { place = place }) else Wrong

abbrev pub length_taken : State → (length : ℕ) → Outcome
length_taken state length = if body_takes_length state.body length then On (record state { place = IdPlace length }) else Wrong

abbrev pub numbered : State → State
numbered state = record state { server = next_id state.server; client = next_id state.client }

abbrev pub empty_by : State → Option Body → Outcome
empty_by state None = Wrong
empty_by state (Some body) = packet_ended state false body

abbrev pub id_taken : State → (length byte : ℕ) → Outcome
id_taken state length byte =
    if not (nat_eq byte state.server) then Wrong
    else if nat_eq length 0 then empty_by (numbered state) (empty_body state.body)
    else On (record (numbered state) { place = BodyPlace length (nat_eq length longest) })

abbrev pub step_at : State → Place → (byte : ℕ) → Outcome
step_at state First byte = low_taken state (Second byte) byte
step_at state (Second low) byte = low_taken state (Third (low + 256 * byte)) (low + 256 * byte)
step_at state (Third low) byte = length_taken state (low + 65536 * byte)
step_at state (IdPlace length) byte = id_taken state length byte
step_at state (BodyPlace left long) byte = payload_taken state left long byte

abbrev pub step : State → (byte : ℕ) → Outcome
step state byte = step_at state state.place byte

-- the byte that the client gets
abbrev pub number_byte : (number left : ℕ) → ℕ
number_byte number left =
    if nat_eq left 4 then number % 256
    else if nat_eq left 3 then number / 256 % 256
    else if nat_eq left 2 then number / 65536 % 256
    else number / 16777216 % 256

abbrev pub number_written : Number → (number left byte : ℕ) → ℕ
number_written RowsNumber number left byte = byte
number_written (Insert size) number left byte = byte
number_written (Flags insert_id) number left byte = byte
number_written Code number left byte = byte
number_written (EofNumber eof) number left byte = byte
number_written (Count zeros) number left byte = byte
number_written Statement number left byte = number_byte number left
number_written (Shape n) number left byte = byte
number_written (Warnings n columns params) number left byte = byte

abbrev pub body_written : Body → (number byte : ℕ) → ℕ
body_written (DueBody due) number byte = byte
body_written (CellBody cell) number byte = byte
body_written (NumberBody field size value) number byte = number_written field number size byte
body_written (Rest next) number byte = byte

abbrev pub written_at : State → Place → (byte : ℕ) → ℕ
written_at state First byte = byte
written_at state (Second low) byte = byte
written_at state (Third low) byte = byte
written_at state (IdPlace length) byte = state.client
written_at state (BodyPlace left long) byte = body_written state.body state.number byte

abbrev pub written : State → (byte : ℕ) → ℕ
written state byte = written_at state state.place byte
