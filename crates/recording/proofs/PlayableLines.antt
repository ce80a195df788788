-- What a recording says can be played.
use Rattle.std.proofs.Common.{◌≡◌, ℕ, ◌+◌, Bool, true, false, not, ◌||◌, ◌==◌, nat_le, List, [], ◌∷◌, ◌++◌, length, Option, Some, None, Result, Ok, Err, unwrap_or, refl, sym, subst, append_assoc, append-nil, arith}
use Rattle.std.specs.Prelude.{IfSome, IfOk, All}
use Rattle.std.specs.List.{slice_split, list_all}
use Rattle.std.proofs.lemmas.Bool.{cond_both, and_parts, or_parts, ltb-false, leb-true, eqb-true, not-false}
use Rattle.std.proofs.lemmas.List.Elements.{All-nil, All-cons}
use Rattle.mx_wire.specs.Tells.{IsSaltByte}
use Rattle.recording.specs.Fields.{fields, is_salt_byte}
use Rattle.recording.specs.Line.{said}
use Rattle.recording.specs.Playable.{IsNumbered, PlayableAfter, BeginsAtMoment, IsPlayable}
use Rattle.recording.specs.Recording.{Standing, Reading, Said, at_start, is_known, falls, kind_if, misplaced, passes_bounds, first_of, fault_of, after, is_skipped, unless_fault, checked, line_of, taken, with_line, line_read, lines_read, is_line_feed, recording_of}
use Rattle.recording.specs.Spelling.{HasOrdinal, HasSpelling}
use Rattle.recording.specs.declared.entry.RecordEntry.{RecordEntry}
use Rattle.recording.specs.declared.entry.RecordEntry.TheVariants.{At, Accept, Bytes, End, Fail, Take, Refuse, Exec, Drop}
use Rattle.recording.specs.declared.entry.RecordLink.{RecordLink}
use Rattle.recording.specs.declared.entry.RecordLink.TheVariants.{Client, Server}
use Rattle.recording.specs.declared.fault.Kind.{Kind}
use Rattle.recording.specs.declared.fault.Kind.TheVariants.{TooLong, MomentFell, WrongLink}
use Rattle.recording.specs.declared.fault.RecordFault.{RecordFault}
use Rattle.recording.proofs.SaidEntries.{has_spelling}

-- the lines begin at a moment, unless there was one
abbrev BeginsAfter : Option ℕ → List RecordEntry → Type 0
BeginsAfter None later = BeginsAtMoment later
BeginsAfter (Some last) later = Unit {0}

-- the lines can be played where things stand so
record Continues (before : Standing) (later : List RecordEntry) : Type 0 where
  begins : BeginsAfter before.moment later
  lines : PlayableAfter (unwrap_or before.moment 0) before.clients later

-- the line can stand before any lines that can be played behind it
abbrev Leads : Standing → RecordEntry → Type 0
Leads before entry = (later : List RecordEntry) → Continues (after before entry) later → Continues before (entry ∷ later)

-- any lines that can be played where the read ones leave off make a recording with these
abbrev IsPlayed : Reading → Type 0
IsPlayed read = (later : List RecordEntry) → Continues read.standing later → IsPlayable (read.entries ++ later)

first_none : (kind later : Option Kind) → first_of kind later ≡ None → (kind ≡ None) × (later ≡ None)
first_none None later none = (refl, none)
first_none (Some kind) later none = cc

kind_none : (b : Bool) (kind : Kind) → kind_if b kind ≡ None → b ≡ false
kind_none true kind none = cc
kind_none false kind none = refl

salt_byte : (b : ℕ) → is_salt_byte b ≡ true → IsSaltByte b
salt_byte b is =
    let parts = and_parts (nat_le 1 b) (nat_le b 127) is in
    record { from = leb-true 1 b parts.0; to = leb-true b 127 parts.1 }

salt_bytes : (bytes : List ℕ) → list_all is_salt_byte bytes ≡ true → All IsSaltByte bytes
salt_bytes [] all = All-nil IsSaltByte
salt_bytes (b ∷ bytes) all =
    let parts = and_parts (is_salt_byte b) (list_all is_salt_byte bytes) all in
    All-cons IsSaltByte b bytes (salt_byte b parts.0) (salt_bytes bytes parts.1)

known_numbered : (before : Standing) (on : RecordLink) → HasOrdinal on → is_known before on ≡ true → IsNumbered before.clients on
known_numbered before (Client n) is known = (is.0, leb-true n before.clients known)
known_numbered before (Server k) is known = is.0

-- a moment that doesn't fall
at_lines : (moment : Option ℕ) (clients ms : ℕ) (later : List RecordEntry) → falls moment ms ≡ false → PlayableAfter ms clients later → PlayableAfter (unwrap_or moment 0) clients (At ms ∷ later)
at_lines None clients ms later rises lines = (omega arith, lines)
at_lines (Some last) clients ms later rises lines = (ltb-false ms last rises, lines)

at_begins : (moment : Option ℕ) (ms : ℕ) (later : List RecordEntry) → BeginsAfter moment (At ms ∷ later)
at_begins None ms later = tt
at_begins (Some last) ms later = tt

at_leads : (before : Standing) (ms : ℕ) → falls before.moment ms ≡ false → Leads before (At ms)
unfolding after
at_leads before ms rises later continues = record {
  begins = at_begins before.moment ms later;
  lines = at_lines before.moment before.clients ms later rises continues.lines;
}

abbrev standing : Option ℕ → ℕ → (RecordLink → Bool) → Standing
standing moment clients ended = record { moment = moment; clients = clients; ended = ended }

-- a link that hasn't ended
ended_numbered : (last clients : ℕ) (ended : RecordLink → Bool) (on : RecordLink) → HasOrdinal on → kind_if (not (is_known (standing (Some last) clients ended) on) || ended on) WrongLink ≡ None → IsNumbered clients on
ended_numbered last clients ended on is placed =
    let before : Standing = standing (Some last) clients ended in
    let right = or_parts (not (is_known before on)) (ended on) (kind_none (not (is_known before on) || ended on) WrongLink placed) in
    known_numbered before on is (not-false (is_known before on) right.0)

-- a line that isn't misplaced
placed_leads : (moment : Option ℕ) (clients : ℕ) (ended : RecordLink → Bool) (entry : RecordEntry) → HasSpelling entry → misplaced (standing moment clients ended) entry ≡ None → Leads (standing moment clients ended) entry
unfolding after misplaced
placed_leads moment clients ended (At ms) is placed later continues = at_leads (standing moment clients ended) ms (kind_none (falls moment ms) MomentFell placed) later continues
placed_leads (Some last) clients ended (Accept n port salt) is placed later continues =
    let next : n ≡ clients + 1 = eqb-true n (clients + 1) (not-false (n == clients + 1) (kind_none (not (n == clients + 1)) WrongLink placed)) in
    record { begins = tt; lines = (next, record { size = is.1; bytes = salt_bytes salt is.2 }, subst (λ (m : ℕ). PlayableAfter last m later) next continues.lines) }
placed_leads (Some last) clients ended (Bytes on bytes) is placed later continues =
    let before : Standing = standing (Some last) clients ended in
    let right = or_parts (not (is_known before on)) (ended on) (kind_none (not (is_known before on) || ended on) WrongLink placed) in
    record { begins = tt; lines = (known_numbered before on is.0 (not-false (is_known before on) right.0), is.1, continues.lines) }
placed_leads (Some last) clients ended (Exec k) is placed later continues = record { begins = tt; lines = (is.0, continues.lines) }
placed_leads (Some last) clients ended (Drop k) is placed later continues = record { begins = tt; lines = (is.0, continues.lines) }
placed_leads (Some last) clients ended (Refuse k) is placed later continues = record { begins = tt; lines = continues.lines }
placed_leads (Some last) clients ended (End on) is placed later continues = record { begins = tt; lines = (ended_numbered last clients ended on is placed, continues.lines) }
placed_leads (Some last) clients ended (Fail on) is placed later continues = record { begins = tt; lines = (ended_numbered last clients ended on is placed, continues.lines) }
placed_leads (Some last) clients ended (Take on n) is placed later continues =
    let before : Standing = standing (Some last) clients ended in
    record { begins = tt; lines = (known_numbered before on is.0 (not-false (is_known before on) (kind_none (not (is_known before on)) WrongLink placed)), continues.lines) }
placed_leads None clients ended _ is placed later continues = cc

-- a line without a fault
faultless_leads : (before : Standing) (number end : ℕ) (entry : RecordEntry) → HasSpelling entry → fault_of before number end entry ≡ None → Leads before entry
faultless_leads before number end entry is none =
    let place = first_none (misplaced before entry) _ none in
    placed_leads before.moment before.clients before.ended entry is place.0

abbrev LeadsIfAny : Standing → Option RecordEntry → Type 0
LeadsIfAny before entry = IfSome entry (Leads before)

unless_leads : (before : Standing) (fault : Option Kind) (entry : RecordEntry) → (fault ≡ None → Leads before entry) → IfOk (unless_fault fault (Some entry)) (LeadsIfAny before)
unless_leads before None entry leads = leads refl
unless_leads before (Some kind) entry leads = tt

checked_leads : (before : Standing) (number end : ℕ) (r : Result RecordEntry Kind) → IfOk r HasSpelling → IfOk (checked before number end r) (LeadsIfAny before)
checked_leads before number end (Err kind) is = tt
checked_leads before number end (Ok entry) is = unless_leads before (fault_of before number end entry) entry (faultless_leads before number end entry is)

skipped_leads : (before : Standing) (fault : Option Kind) → IfOk (unless_fault fault None) (LeadsIfAny before)
skipped_leads before None = tt
skipped_leads before (Some kind) = tt

line_leads : (before : Standing) (number end : ℕ) (line : List ℕ) → IfOk (line_of before number end line) (LeadsIfAny before)
unfolding line_of
line_leads before number end line =
    let bounds : Option Kind = kind_if (passes_bounds number end) TooLong in
    cond_both (is_skipped line) (unless_fault bounds None) (checked before number end (said (fields line))) (λ r. IfOk r (LeadsIfAny before))
    (λ _. skipped_leads before bounds)
    (λ _. checked_leads before number end (said (fields line)) (has_spelling (fields line)))

taken_played : (read : Reading) (end : ℕ) (r : Result (Option RecordEntry) Kind) → IfOk r (LeadsIfAny read.standing) → IsPlayed read → IfOk (with_line read end (taken read.standing read.entries r)) IsPlayed
taken_played read end (Err kind) leads played = tt
taken_played read end (Ok None) leads played = played
taken_played read end (Ok (Some entry)) leads played = λ later continues.
    subst IsPlayable (sym (append_assoc read.entries (entry ∷ []) later)) (played (entry ∷ later) (leads later continues))

line_played : (read : Reading) (line : List ℕ) → IsPlayed read → IfOk (line_read read line) IsPlayed
unfolding line_read
line_played read line played =
    let end : ℕ = read.bytes + length line + 1 in
    taken_played read end (line_of read.standing (read.lines + 1) end line) (line_leads read.standing (read.lines + 1) end line) played

whole_played : (read : Reading) → IsPlayed read → IsPlayable read.entries
whole_played read played = subst IsPlayable (append-nil read.entries) (played [] (record { begins = nothing_begins read.standing.moment; lines = tt }))
  where
    nothing_begins : (moment : Option ℕ) → BeginsAfter moment []
    nothing_begins None = tt
    nothing_begins (Some last) = tt

lines_played : (so_far : Result Reading RecordFault) (lines : List (List ℕ)) → IfOk so_far IsPlayed → IfOk (lines_read so_far lines) IsPlayable
lines_played (Err fault) [] played = tt
lines_played (Err fault) (line ∷ lines) played = tt
lines_played (Ok read) [] played = whole_played read played
lines_played (Ok read) ([] ∷ []) played = whole_played read played
lines_played (Ok read) ((b ∷ line) ∷ []) played = tt
lines_played (Ok read) ([] ∷ next ∷ lines) played = lines_played (line_read read []) (next ∷ lines) (line_played read [] played)
lines_played (Ok read) ((b ∷ line) ∷ next ∷ lines) played = lines_played (line_read read (b ∷ line)) (next ∷ lines) (line_played read (b ∷ line) played)

start_played : IsPlayed at_start
start_played later continues = record { begins = continues.begins; lines = continues.lines }

-- what a recording says can be played
pub playable : (bytes : List ℕ) (entries : List RecordEntry) → recording_of bytes ≡ Ok entries → IsPlayable entries
unfolding recording_of
playable bytes entries said_so = subst (λ (r : Said). IfOk r IsPlayable) said_so (lines_played (Ok at_start) (slice_split is_line_feed bytes) start_played)
