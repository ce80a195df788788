-- The spelling of an entry as a line, and that a line with the spelling says the entry.
use Rattle.std.specs.Prelude.{◌≡◌, ℕ, ◌≤◌, ◌<◌, ◌^◌, true, List, [], ◌∷◌, ◌++◌, length, codes, Ok}
use Rattle.std.specs.Fmt.{decimal}
use Rattle.std.specs.List.{join_with_byte, list_all}
use Rattle.hex.specs.Hex.{encode_lower, IsBytes}
use Rattle.mx_base.specs.declared.names.Port.{Port}
use Rattle.mx_base.specs.declared.names.Port.TheVariants.{Traffic, Admin}
use Rattle.recording.specs.Fields.{fields, is_salt_byte}
use Rattle.recording.specs.Line.{said}
use Rattle.recording.specs.declared.entry.RecordEntry.{RecordEntry}
use Rattle.recording.specs.declared.entry.RecordEntry.TheVariants.{At, Accept, Bytes, End, Fail, Take, Refuse, Exec, Drop}
use Rattle.recording.specs.declared.entry.RecordLink.{RecordLink}
use Rattle.recording.specs.declared.entry.RecordLink.TheVariants.{Client, Server}

abbrev pub link_text : RecordLink → List ℕ
link_text (Client n) = codes "c" ++ decimal n
link_text (Server k) = codes "s" ++ decimal k

abbrev pub port_text : Port → List ℕ
port_text Traffic = codes "traffic"
port_text Admin = codes "admin"

abbrev pub field_texts : RecordEntry → List (List ℕ)
field_texts (At ms) = codes "at" ∷ decimal ms ∷ []
field_texts (Accept n port salt) = codes "accept" ∷ link_text (Client n) ∷ port_text port ∷ encode_lower salt ∷ []
field_texts (Bytes link bytes) = codes "bytes" ∷ link_text link ∷ encode_lower bytes ∷ []
field_texts (End link) = codes "end" ∷ link_text link ∷ []
field_texts (Fail link) = codes "fail" ∷ link_text link ∷ []
field_texts (Take link n) = codes "take" ∷ link_text link ∷ decimal n ∷ []
field_texts (Refuse k) = codes "refuse" ∷ decimal k ∷ []
field_texts (Exec k) = codes "exec" ∷ link_text (Server k) ∷ []
field_texts (Drop k) = codes "drop" ∷ link_text (Server k) ∷ []

-- the fields, with a space between each two
abbrev pub spelling : RecordEntry → List ℕ
spelling entry = join_with_byte 32 (field_texts entry)

abbrev pub IsOrdinal : ℕ → Type 0
IsOrdinal n = (1 ≤ n) × (n ≤ 65535)

abbrev pub HasOrdinal : RecordLink → Type 0
HasOrdinal (Client n) = IsOrdinal n
HasOrdinal (Server k) = IsOrdinal k

-- an entry that a line can spell
abbrev pub HasSpelling : RecordEntry → Type 0
HasSpelling (At ms) = ms < 2 ^ 64
HasSpelling (Accept n port salt) = IsOrdinal n × (length salt ≡ 20) × (list_all is_salt_byte salt ≡ true)
HasSpelling (Bytes link bytes) = HasOrdinal link × (0 < length bytes) × IsBytes bytes
HasSpelling (End link) = HasOrdinal link
HasSpelling (Fail link) = HasOrdinal link
HasSpelling (Take link n) = HasOrdinal link × (n < 2 ^ 64)
HasSpelling (Refuse k) = IsOrdinal k
HasSpelling (Exec k) = IsOrdinal k
HasSpelling (Drop k) = IsOrdinal k

abbrev pub SaysItself : RecordEntry → Type 0
SaysItself entry = HasSpelling entry → said (fields (spelling entry)) ≡ Ok entry
