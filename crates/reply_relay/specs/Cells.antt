-- The one cell of an answer of one row: its packets are gone over byte by byte, and the first bytes of its fourth message are kept.
use Rattle.std.specs.Prelude.{ℕ, ◌+◌, ◌-◌, ◌*◌, nat_eq, nat_lt, nat_le, Bool, true, false, ◌&&◌, List, [], ◌∷◌, ◌++◌, length, take, drop, Option, None, if◌then◌else◌}
use Rattle.mx_base.specs.Decimal.{number}
use Rattle.mx_base.specs.Fields.{lenenc_at}
use Rattle.mx_base.specs.declared.fields.Field.{Field}
use Rattle.mx_base.specs.declared.fields.Field.TheVariants.{Value}
use Rattle.packet_frame.specs.Packets.{longest}
use Rattle.reply_relay.specs.declared.cell.Spot.{Spot}
use Rattle.reply_relay.specs.declared.cell.Spot.TheVariants.{First, Second, Third, Id, Body}

-- where the next byte stands, how many messages are whole, and what is kept of the fourth
pub record CellRead : Type 0 where
  pub spot : Spot
  pub messages : ℕ
  pub text : List ℕ

abbrev pub new_cell : CellRead
new_cell = record { spot = First; messages = 0; text = [] }

-- no more are counted than tell that there are too many
abbrev pub one_more : ℕ → ℕ
one_more messages = if nat_lt messages 6 then messages + 1 else messages

abbrev pub ended : (long : Bool) → CellRead → CellRead
ended true cell = record cell { spot = First }
ended false cell = record cell { spot = First; messages = one_more cell.messages }

abbrev pub kept : (byte : ℕ) → CellRead → CellRead
kept byte cell = if nat_eq cell.messages 3 && nat_lt (length cell.text) 30 then record cell { text = cell.text ++ byte ∷ [] } else cell

abbrev pub begun : (length : ℕ) → CellRead → CellRead
begun length cell = if nat_eq length 0 then ended false cell else record cell { spot = Body length (nat_eq length longest) }

abbrev pub went : (left : ℕ) (long : Bool) → CellRead → CellRead
went left long cell = if nat_le left 1 then ended long cell else record cell { spot = Body (left - 1) long }

abbrev pub taken_at : Spot → (byte : ℕ) → CellRead → CellRead
taken_at First byte cell = record cell { spot = Second byte }
taken_at (Second low) byte cell = record cell { spot = Third (low + 256 * byte) }
taken_at (Third low) byte cell = record cell { spot = Id (low + 65536 * byte) }
taken_at (Id length) byte cell = begun length cell
taken_at (Body left long) byte cell = went left long (kept byte cell)

abbrev pub byte_taken : CellRead → (byte : ℕ) → CellRead
byte_taken cell byte = taken_at cell.spot byte cell

-- the decimal number in the row's first cell, where a u64 holds it
abbrev pub number_behind : Field → (row : List ℕ) → Option ℕ
number_behind (Value size next) row = number (take size (drop next row))
number_behind _ row = None

abbrev pub number_in : (row : List ℕ) → Option ℕ
number_in row = number_behind (lenenc_at 0 row) row

-- a column count, a column, an EOF, a row, an EOF
abbrev pub cell_number : CellRead → Option ℕ
cell_number cell = if nat_eq cell.messages 5 then number_in cell.text else None

-- the fourth of the payloads of an answer
abbrev pub fourth : List (List ℕ) → List ℕ
fourth (count ∷ column ∷ eof ∷ row ∷ others) = row
fourth _ = []
