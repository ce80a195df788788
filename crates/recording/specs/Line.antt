-- What a line of a recording says.
use Rattle.std.specs.Prelude.{ℕ, if◌then◌else◌, List, [], ◌∷◌, codes, Option, Some, None, Result, Ok, Err}
use Rattle.std.specs.Str.{bytes_eq}
use Rattle.std.specs.Option.{option_map}
use Rattle.mx_base.specs.Decimal.{number}
use Rattle.mx_base.specs.Pieces.{one, two, three}
use Rattle.mx_base.specs.Steps.{◌>>=◌}
use Rattle.recording.specs.Fields.{ordinal, client, server, link, port, salt, some_bytes}
use Rattle.recording.specs.declared.entry.RecordEntry.{RecordEntry}
use Rattle.recording.specs.declared.entry.RecordEntry.TheVariants as entry
use Rattle.recording.specs.declared.fault.Kind.{Kind}
use Rattle.recording.specs.declared.fault.Kind.TheVariants.{UnknownWord, BadFields}
use Rattle.recording.specs.declared.word.Word.{Word}
use Rattle.recording.specs.declared.word.Word.TheVariants.{At, Accept, Bytes, End, Fail, Take, Refuse, Exec, Drop}

abbrev pub word : List ℕ → Option Word
word text =
    if bytes_eq text (codes "at") then Some At
    else if bytes_eq text (codes "accept") then Some Accept
    else if bytes_eq text (codes "bytes") then Some Bytes
    else if bytes_eq text (codes "end") then Some End
    else if bytes_eq text (codes "fail") then Some Fail
    else if bytes_eq text (codes "take") then Some Take
    else if bytes_eq text (codes "refuse") then Some Refuse
    else if bytes_eq text (codes "exec") then Some Exec
    else if bytes_eq text (codes "drop") then Some Drop
    else None

-- accept c<n> <port> <salt>
unfoldable pub accept : List (List ℕ) → Option RecordEntry
accept rest = do
  field ← three rest
  n ← client field.0
  at ← port field.1
  bytes ← salt field.2
  Some (entry.Accept n at bytes)

-- bytes <link> <hex>
unfoldable pub arrive : List (List ℕ) → Option RecordEntry
arrive rest = do
  field ← two rest
  on ← link field.0
  bytes ← some_bytes field.1
  Some (entry.Bytes on bytes)

-- take <link> <n>
unfoldable pub room : List (List ℕ) → Option RecordEntry
room rest = do
  field ← two rest
  on ← link field.0
  n ← number field.1
  Some (entry.Take on n)

-- the entry of a word and the fields behind it, where these are right
unfoldable pub meaning : Word → List (List ℕ) → Option RecordEntry
meaning At rest = option_map entry.At (one rest >>= number)
meaning Accept rest = accept rest
meaning Bytes rest = arrive rest
meaning End rest = option_map entry.End (one rest >>= link)
meaning Fail rest = option_map entry.Fail (one rest >>= link)
meaning Take rest = room rest
meaning Refuse rest = option_map entry.Refuse (one rest >>= ordinal)
meaning Exec rest = option_map entry.Exec (one rest >>= server)
meaning Drop rest = option_map entry.Drop (one rest >>= server)

abbrev pub or_kind : Option RecordEntry → Kind → Result RecordEntry Kind
or_kind (Some said) kind = Ok said
or_kind None kind = Err kind

abbrev pub said_by : Option Word → List (List ℕ) → Result RecordEntry Kind
said_by None rest = Err UnknownWord
said_by (Some w) rest = or_kind (meaning w rest) BadFields

-- what a line says by itself
unfoldable pub said : List (List ℕ) → Result RecordEntry Kind
said [] = Err UnknownWord
said (first ∷ rest) = said_by (word first) rest
