-- A recording, one line further.
use Rattle.std.proofs.Common.{◌≡◌, ℕ, ◌+◌, ◌-◌, ◌<◌, ◌≤◌, List, [], ◌∷◌, length, take, drop, Some, None, Ok, Err, refl, sym, ap, ◌∙◌, arith, length-drop}
use Rattle.std.specs.Prelude.{position}
use Rattle.std.specs.List.{slice_split}
use Rattle.std.proofs.lemmas.List.{take_rest, length-take-le}
use Rattle.recording.specs.Recording.{Standing, Reading, Said, nothing_yet, line_of, taken, with_line, line_read, lines_read, fault_at, is_line_feed, recording_of}
use Rattle.recording.specs.declared.entry.RecordEntry.{RecordEntry}
use Rattle.recording.specs.declared.fault.Kind.TheVariants.{NoLineFeed}
use Rattle.recording.specs.declared.fault.RecordFault.{RecordFault}
use Rattle.mx_base.specs.PieceLaws.{cut, uncut, some_piece, found_inside}
use Rattle.recording.specs.Refusal.{Refuses, Faults, refused_at}
use Rattle.recording.specs.declared.fault.LineRefusal.{LineRefusal}
use Rattle.recording.specs.declared.fault.LineRefusal.TheVariants as refusal

-- what was read of so many bytes before the rest
abbrev pub reading : ℕ → ℕ → Standing → List RecordEntry → List ℕ → Reading
reading lines size before entries rest = record { lines = lines; bytes = size - length rest; standing = before; entries = entries }

-- what the rest leads to
abbrev pub leads : Reading → List ℕ → Said
leads read rest = lines_read (Ok read) (slice_split is_line_feed rest)

-- what stands behind the line feed at this place
abbrev pub behind : ℕ → List ℕ → List ℕ
behind at rest = take (length rest - (at + 1)) (drop (at + 1) rest)

pub begins : (bytes : List ℕ) → leads (reading 0 (length bytes) nothing_yet [] bytes) bytes ≡ recording_of bytes
unfolding recording_of
begins bytes = ap (λ n. leads (record { lines = 0; bytes = n; standing = nothing_yet; entries = [] }) bytes) (let none : length bytes - length bytes ≡ 0 = omega arith in none)

pub ends : (read : Reading) (rest : List ℕ) → length rest ≡ 0 → leads read rest ≡ Ok read.entries
ends read [] none = refl
ends read (b ∷ rest) none = absurd (omega arith)

more_lines : (read : Reading) (line next : List ℕ) (lines : List (List ℕ)) → lines_read (Ok read) (line ∷ next ∷ lines) ≡ lines_read (line_read read line) (next ∷ lines)
more_lines read [] next lines = refl
more_lines read (b ∷ line) next lines = refl

unended : (read : Reading) (rest : List ℕ) → 0 < length rest → lines_read (Ok read) (rest ∷ []) ≡ Err (fault_at (read.lines + 1) NoLineFeed)
unended read [] some = absurd (omega arith)
unended read (b ∷ rest) some = refl

no_line_feed : (read : Reading) (rest : List ℕ) → 0 < length rest → None ≡ position is_line_feed rest → leads read rest ≡ Err (fault_at (read.lines + 1) NoLineFeed)
no_line_feed read rest some none = ap (lines_read (Ok read)) (uncut is_line_feed rest none) ∙ unended read rest some

turn : (read : Reading) (rest : List ℕ) (at : ℕ) → Some at ≡ position is_line_feed rest → leads read rest ≡ lines_read (line_read read (take at rest)) (slice_split is_line_feed (behind at rest))
turn read rest at found =
    let later = some_piece is_line_feed (behind at rest) in
    ap (lines_read (Ok read)) (cut is_line_feed rest at found ∙ ap (λ xs. take at rest ∷ xs) later.2)
    ∙ more_lines read (take at rest) later.0 later.1
    ∙ ap (lines_read (line_read read (take at rest))) (sym later.2)

-- where the line ends, counted from the front and from the back
line_end : (size : ℕ) (rest : List ℕ) (at : ℕ) → at < length rest → length rest ≤ size → size - length rest + length (take at rest) + 1 ≡ size - length (behind at rest)
line_end size rest at inside whole =
    let line : length (take at rest) ≡ at = length-take-le at rest (omega arith) in
    let left : length (behind at rest) ≡ length rest - (at + 1) = ap length (take_rest rest (at + 1)) ∙ length-drop (at + 1) rest in
    rw (line, left) (omega arith)

line_now : (lines size : ℕ) (before : Standing) (entries : List RecordEntry) (rest : List ℕ) (at : ℕ) → at < length rest → length rest ≤ size
    → line_read (reading lines size before entries rest) (take at rest)
    ≡ with_line (reading lines size before entries rest) (size - length (behind at rest)) (taken before entries (line_of before (lines + 1) (size - length (behind at rest)) (take at rest)))
unfolding line_read
line_now lines size before entries rest at inside whole =
    ap (λ end. with_line (reading lines size before entries rest) end (taken before entries (line_of before (lines + 1) end (take at rest)))) (line_end size rest at inside whole)

-- a line that was taken
pub taken_line : (lines size : ℕ) (before now : Standing) (entries more : List RecordEntry) (rest : List ℕ) (at : ℕ) (total : Said) → Some at ≡ position is_line_feed rest → length rest ≤ size
    → taken before entries (line_of before (lines + 1) (size - length (behind at rest)) (take at rest)) ≡ Ok (now, more)
    → leads (reading lines size before entries rest) rest ≡ total
    → leads (reading (lines + 1) size now more (behind at rest)) (behind at rest) ≡ total
taken_line lines size before now entries more rest at total found whole is so_far =
    let inside = found_inside is_line_feed rest at found in
    let read : Reading = reading lines size before entries rest in
    let line : line_read read (take at rest) ≡ Ok (reading (lines + 1) size now more (behind at rest)) =
    line_now lines size before entries rest at inside whole ∙ ap (with_line read (size - length (behind at rest))) is in
    ap (λ r. lines_read r (slice_split is_line_feed (behind at rest))) (sym line) ∙ sym (turn read rest at found) ∙ so_far

stops : (fault : RecordFault) (lines : List (List ℕ)) → lines_read (Err fault) lines ≡ Err fault
stops fault [] = refl
stops fault (line ∷ lines) = refl

-- a line that was refused
pub refused_line : (lines size : ℕ) (before : Standing) (entries : List RecordEntry) (rest : List ℕ) (at : ℕ) (total : Said) (why : LineRefusal) → Some at ≡ position is_line_feed rest → length rest ≤ size
    → Refuses why (line_of before (lines + 1) (size - length (behind at rest)) (take at rest))
    → leads (reading lines size before entries rest) rest ≡ total
    → Faults (refused_at (lines + 1) why) total
refused_line lines size before entries rest at total (refusal.Kind kind) found whole is so_far =
    let inside = found_inside is_line_feed rest at found in
    let read : Reading = reading lines size before entries rest in
    let line : line_read read (take at rest) ≡ Err (fault_at (lines + 1) kind) =
    line_now lines size before entries rest at inside whole ∙ ap (λ r. with_line read (size - length (behind at rest)) (taken before entries r)) is in
    sym so_far ∙ turn read rest at found ∙ ap (λ r. lines_read r (slice_split is_line_feed (behind at rest))) line ∙ stops (fault_at (lines + 1) kind) (slice_split is_line_feed (behind at rest))
refused_line lines size before entries rest at total refusal.OutOfMemory found whole is so_far = tt

pub unended_line : (read : Reading) (rest : List ℕ) (total : Said) → 0 < length rest → None ≡ position is_line_feed rest → leads read rest ≡ total → Faults (refused_at (read.lines + 1) (refusal.Kind NoLineFeed)) total
unended_line read rest total some none so_far = sym so_far ∙ no_line_feed read rest some none

pub behind_size : (size at : ℕ) (rest : List ℕ) → length rest ≤ size → length (behind at rest) ≤ size
behind_size size at rest whole =
    let left : length (behind at rest) ≡ length rest - (at + 1) = ap length (take_rest rest (at + 1)) ∙ length-drop (at + 1) rest in
    omega arith
