-- The lines of a link's runs, piece by piece.
use Rattle.std.proofs.Common.{◌≡◌, ℕ, ◌+◌, Bool, true, false, if◌then◌else◌, List, [], ◌∷◌, ◌++◌, Option, Some, None, refl, sym, ap, ◌∙◌, ◌<◌, length, drop, get_or, append_assoc, append-nil, inl, inr}
use Rattle.std.specs.Prelude.{codes, ◌||◌, slice_index, ◌/◌, ◌%◌}
use Rattle.std.specs.List.{flat_map, list_any, slice_get, cons_option}
use Rattle.std.specs.Option.{option_and_then, option_map_or}
use Rattle.std.proofs.lemmas.Bool.{cases_Bool}
use Rattle.std.proofs.lemmas.List.{at_drop_more}
use Rattle.hex.specs.Hex.{encode_lower, encode_with}
use Rattle.mx_base.specs.declared.names.LinkId.{LinkId}
use Rattle.mx_base.specs.declared.tag.Tag.{Tag}
use Rattle.mx_wire.specs.Log.{Log}
use Rattle.mx_wire.specs.declared.entry.Entry.{Entry}
use Rattle.mx_wire.specs.declared.entry.Entry.TheVariants.{Wrote}
use Rattle.recording.specs.Transcript.{same_tag, Run, joined, runs, run_line, is_closing, title, standing, link_lines}
use Rattle.recording.specs.Arrivals.{wrote, wrote_at, closes_at}
use Rattle.recording.specs.Places.{entries_at}
use Rattle.recording.specs.Pieces.{run_start, piece}
use Rattle.recording.specs.declared.peer.Peer.{Peer}

closed_first : (o : Option Entry) (later : Log) → list_any is_closing (cons_option o later) ≡ (option_map_or is_closing o false || list_any is_closing later)
closed_first None later = refl
closed_first (Some e) later = refl

-- what stands behind a piece with this tag, and behind no piece or a last one
abbrev pub open_lines : Peer → Tag → Log → List ℕ
open_lines peer last [] = codes "\n"
open_lines peer last (Wrote link tag bytes ∷ log) = piece peer (Some last) tag bytes ++ open_lines peer tag log
open_lines peer last (_ ∷ log) = open_lines peer last log

abbrev pub rest_lines : Peer → Option Tag → Log → List ℕ
rest_lines peer None log = flat_map (run_line peer) (runs log)
rest_lines peer (Some last) log = open_lines peer last log

pub encode_with-append : (digits xs ys : List ℕ) → encode_with digits (xs ++ ys) ≡ encode_with digits xs ++ encode_with digits ys
unfolding encode_with
encode_with-append digits [] ys = refl
encode_with-append digits (x ∷ xs) ys = ap (λ rest. slice_index digits (x / 16) ∷ slice_index digits (x % 16) ∷ rest) (encode_with-append digits xs ys)

encode_with-nil : (digits : List ℕ) → encode_with digits [] ≡ []
unfolding encode_with
encode_with-nil digits = refl

regroup : (a b c d : List ℕ) → codes "\n" ++ (a ++ (b ++ c) ++ codes "\n" ++ d) ≡ (codes "\n" ++ a ++ b) ++ (c ++ codes "\n" ++ d)
regroup a b c d =
    let inner : a ++ (b ++ c) ++ codes "\n" ++ d ≡ (a ++ b) ++ (c ++ codes "\n" ++ d) = simp append_assoc in
    ap (λ xs. 10 ∷ xs) inner

-- the run of a piece with what follows it in the log: its further bytes, and the runs behind it
record Goes (peer : Peer) (tag : Tag) (log : Log) : Type 0 where
  more : List ℕ
  later : List Run
  whole : (bytes : List ℕ) → joined (record { tag = tag; bytes = bytes }) (runs log) ≡ record { tag = tag; bytes = bytes ++ more } ∷ later
  text : encode_lower more ++ codes "\n" ++ flat_map (run_line peer) later ≡ open_lines peer tag log

-- a run that the next piece joins
goes_on : (peer : Peer) (tag next : Tag) (link : LinkId) (bytes : List ℕ) (log : Log) → same_tag tag next ≡ true → Goes peer next log → Goes peer tag (Wrote link next bytes ∷ log)
goes_on peer tag next link bytes log same after = record {
  more = bytes ++ after.more;
  later = after.later;
  whole = λ front. rw (after.whole bytes, same) refl;
  text = rw (same, ← after.text, encode_with-append) (simp append_assoc);
}

-- the line that ends, and the next one
ends_text : (peer : Peer) (next : Tag) (bytes more later : List ℕ) (same : Bool) (open_after : List ℕ) → same ≡ false → encode_lower more ++ codes "\n" ++ later ≡ open_after
    → encode_lower [] ++ codes "\n" ++ (run_start peer next ++ encode_lower (bytes ++ more) ++ codes "\n" ++ later) ≡ (if same then encode_lower bytes else codes "\n" ++ run_start peer next ++ encode_lower bytes) ++ open_after
ends_text peer next bytes more later same open_after other text = rw (other, ← text, encode_with-nil, encode_with-append) (regroup (run_start peer next) (encode_lower bytes) (encode_lower more) later)

-- a run that the next piece ends
ends : (peer : Peer) (tag next : Tag) (link : LinkId) (bytes : List ℕ) (log : Log) → same_tag tag next ≡ false → Goes peer next log → Goes peer tag (Wrote link next bytes ∷ log)
ends peer tag next link bytes log other after = record {
  more = [];
  later = record { tag = next; bytes = bytes ++ after.more } ∷ after.later;
  whole = λ front. rw (after.whole bytes, other, append-nil) refl;
  text = ends_text peer next bytes after.more (flat_map (run_line peer) after.later) (same_tag tag next) _ other after.text;
}

goes : (peer : Peer) (tag : Tag) (log : Log) → Goes peer tag log
goes peer tag [] = record { more = []; later = []; whole = λ bytes. rw append-nil refl; text = rw encode_with-nil refl }
goes peer tag (Wrote link next bytes ∷ log) = elim (cases_Bool (same_tag tag next)) [
  | inl same ↦ goes_on peer tag next link bytes log same (goes peer next log)
  | inr other ↦ ends peer tag next link bytes log other (goes peer next log)
]
goes peer tag (_ ∷ log) = let on = goes peer tag log in record { more = on.more; later = on.later; whole = on.whole; text = on.text }

-- the first piece begins a line
pub first_piece : (peer : Peer) (link : LinkId) (tag : Tag) (bytes : List ℕ) (log : Log) → rest_lines peer None (Wrote link tag bytes ∷ log) ≡ piece peer None tag bytes ++ rest_lines peer (Some tag) log
first_piece peer link tag bytes log = let on = goes peer tag log in rw (on.whole bytes, ← on.text, encode_with-append) (simp append_assoc)

-- the next place of a link's entries, at which something was written or not
abbrev pub lines_behind : Peer → Option Tag → Option (Tag × List ℕ) → Log → List ℕ
lines_behind peer last None later = rest_lines peer last later
lines_behind peer last (Some found) later = piece peer last found.0 found.1 ++ rest_lines peer (Some found.0) later

pub next_entry : (peer : Peer) (last : Option Tag) (e : Entry) (later : Log) → rest_lines peer last (e ∷ later) ≡ lines_behind peer last (wrote e) later
next_entry peer None (Wrote link tag bytes) later = first_piece peer link tag bytes later
next_entry peer (Some last) (Wrote link tag bytes) later = refl
next_entry peer None _ later = refl
next_entry peer (Some last) _ later = refl

pub next_place : (peer : Peer) (last : Option Tag) (o : Option Entry) (later : Log) → rest_lines peer last (cons_option o later) ≡ lines_behind peer last (option_and_then wrote o) later
next_place peer last None later = refl
next_place peer last (Some e) later = next_entry peer last e later

-- whether a link was closed at one of the places
closing : (log : Log) (places : List ℕ) → list_any is_closing (entries_at log places) ≡ list_any (closes_at log) places
closing log [] = refl
closing log (place ∷ places) = closed_first (slice_get log place) (entries_at log places) ∙ ap (λ b. closes_at log place || b) (closing log places)

-- one turn of the loop over the places
turn : (peer : Peer) (last : Option Tag) (log : Log) (places : List ℕ) (i : ℕ) (out whole : List ℕ) → i < length places → out ++ rest_lines peer last (entries_at log (drop i places)) ≡ whole
    → out ++ lines_behind peer last (wrote_at log (get_or places i 0)) (entries_at log (drop (i + 1) places)) ≡ whole
turn peer last log places i out whole inside before =
    let further = at_drop_more (λ xs. rest_lines peer last (entries_at log xs)) places i 0 inside in
    let split = next_place peer last (slice_get log (get_or places i 0)) (entries_at log (drop (i + 1) places)) in
    ap (λ xs. out ++ xs) (sym (further ∙ split)) ∙ before

-- the turn at which something was written, and the others
pub turn_wrote : (peer : Peer) (last : Option Tag) (log : Log) (places : List ℕ) (i : ℕ) (out whole : List ℕ) (tag : Tag) (bytes : List ℕ) (out' : List ℕ) (last' : Option Tag) → i < length places → Some (tag, bytes) ≡ wrote_at log (get_or places i 0)
    → out' ≡ out ++ piece peer last tag bytes → last' ≡ Some tag → out ++ rest_lines peer last (entries_at log (drop i places)) ≡ whole
    → out' ++ rest_lines peer last' (entries_at log (drop (i + 1) places)) ≡ whole
turn_wrote peer last log places i out whole tag bytes out' last' inside found out-is last-is before =
    let further = turn peer last log places i out whole inside before in
    let now : out ++ (piece peer last tag bytes ++ rest_lines peer (Some tag) (entries_at log (drop (i + 1) places))) ≡ whole = ap (λ o. out ++ lines_behind peer last o (entries_at log (drop (i + 1) places))) found ∙ further in
    rw (out-is, last-is) (append_assoc out (piece peer last tag bytes) (rest_lines peer (Some tag) (entries_at log (drop (i + 1) places))) ∙ now)

pub turn_idle : (peer : Peer) (last : Option Tag) (log : Log) (places : List ℕ) (i : ℕ) (out whole : List ℕ) (out' : List ℕ) (last' : Option Tag) → i < length places → None ≡ wrote_at log (get_or places i 0)
    → out' ≡ out → last' ≡ last → out ++ rest_lines peer last (entries_at log (drop i places)) ≡ whole
    → out' ++ rest_lines peer last' (entries_at log (drop (i + 1) places)) ≡ whole
turn_idle peer last log places i out whole out' last' inside found out-is last-is before =
    rw (out-is, last-is) (ap (λ o. out ++ lines_behind peer last o (entries_at log (drop (i + 1) places))) found ∙ turn peer last log places i out whole inside before)

grouped : (out a b c d : List ℕ) → out ++ a ++ b ++ c ++ d ≡ out ++ (a ++ b ++ c ++ d)
grouped out a b c d = simp append_assoc

-- the lines of a link, part by part
pub link_parts : (peer : Peer) (log : Log) (places : List ℕ) (out named titled stood : List ℕ) (closed : Bool) → named ≡ out ++ codes "link " → titled ≡ named ++ title peer → closed ≡ list_any (closes_at log) places
    → stood ≡ titled ++ standing closed → stood ++ flat_map (run_line peer) (runs (entries_at log places)) ≡ out ++ link_lines peer (entries_at log places)
unfolding link_lines
link_parts peer log places out named titled stood closed named-is titled-is closed-is stood-is =
    let lines : List ℕ = flat_map (run_line peer) (runs (entries_at log places)) in
    let before : stood ≡ out ++ codes "link " ++ title peer ++ standing (list_any is_closing (entries_at log places)) =
    stood-is ∙ ap (λ b. titled ++ standing b) (closed-is ∙ sym (closing log places)) ∙ ap (λ xs. xs ++ standing (list_any is_closing (entries_at log places))) (titled-is ∙ ap (λ xs. xs ++ title peer) named-is) in
    ap (λ xs. xs ++ lines) before ∙ grouped out (codes "link ") (title peer) (standing (list_any is_closing (entries_at log places))) lines
