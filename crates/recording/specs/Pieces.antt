-- What one more piece that was written adds to the lines of its link.
use Rattle.std.specs.Prelude.{ℕ, if◌then◌else◌, List, [], ◌++◌, codes, Option, Some, None}
use Rattle.hex.specs.Hex.{encode_lower}
use Rattle.mx_base.specs.declared.tag.Tag.{Tag}
use Rattle.recording.specs.Transcript.{name, tag_text, same_tag}
use Rattle.recording.specs.declared.peer.Peer.{Peer}

-- how the line of a run begins
abbrev pub run_start : Peer → Tag → List ℕ
run_start peer tag = name peer ++ codes " " ++ tag_text tag ++ codes " "

-- Behind pieces of which the last has this tag, if there is one, the piece goes on with their line or begins
-- its own.
abbrev pub piece : Peer → Option Tag → Tag → List ℕ → List ℕ
piece peer None tag bytes = run_start peer tag ++ encode_lower bytes
piece peer (Some last) tag bytes = if same_tag last tag then encode_lower bytes else codes "\n" ++ run_start peer tag ++ encode_lower bytes

-- what ends the last line
abbrev pub line_end : Option Tag → List ℕ
line_end None = []
line_end (Some last) = codes "\n"
