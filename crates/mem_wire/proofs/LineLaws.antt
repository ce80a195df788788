-- What lines release, a line at a time.
use Rattle.std.proofs.Common.{◌≡◌, ℕ, ◌+◌, ◌*◌, ◌<◌, ◌==◌, if◌then◌else◌, List, [], ◌++◌, sym, ◌∙◌, ap, arith, append-nil, append_assoc, subst, zero, suc, ◌%◌, ◌/◌}
use Rattle.std.proofs.lemmas.List.Elements.{filter_map-append}
use Rattle.std.proofs.lemmas.Grind.{flat_map-append}
use Rattle.recording.specs.declared.entry.RecordLink.{RecordLink}
use Rattle.recording.specs.declared.entry.RecordLink.TheVariants.{Client, Server}
use Rattle.recording.specs.declared.entry.RecordEntry.{RecordEntry}
use Rattle.std.proofs.lemmas.List.Sums.{fold-append}
use Rattle.std.specs.Prelude.{fold}
use Rattle.mem_wire.specs.declared.track.Track.{Track}
use Rattle.mem_wire.specs.Lines.{same_name, bytes_at, bytes_for, ending_step, mark_for, marks_for}
use Rattle.mem_wire.specs.Tracks.{track_at, place, room_given, given, Released}

pub bytes_for-append : (name : RecordLink) (a b : List RecordEntry) → bytes_for name (a ++ b) ≡ bytes_for name a ++ bytes_for name b
bytes_for-append name a b = flat_map-append (bytes_at name) a b

pub marks_for-append : (name : RecordLink) (a b : List RecordEntry) → marks_for name (a ++ b) ≡ marks_for name a ++ marks_for name b
marks_for-append name a b = filter_map-append (mark_for name) a b

pub same_place : (a b : RecordLink) → (place a == place b) ≡ same_name a b
same_place (Client n) (Client m) = grind arith
same_place (Client n) (Server m) = grind arith
same_place (Server n) (Client m) = grind arith
same_place (Server n) (Server m) = grind arith

-- what no line has
pub idle-parts : (t : Track) → record t { unread = t.unread ++ []; marks = t.marks ++ [] } ≡ t
idle-parts t = ap (λ bytes. record t { unread = bytes; marks = t.marks ++ [] }) (append-nil t.unread) ∙ ap (λ marks. record t { marks = marks }) (append-nil t.marks)

pub given-more : (wake : ℕ) (name : RecordLink) (a b : List RecordEntry) (t : Track) → given wake name b (given wake name a t) ≡ given wake name (a ++ b) t
given-more wake name a b t =
    ap (λ bytes. record t { unread = bytes; ending = fold (ending_step name) (fold (ending_step name) t.ending a) b; room = fold (room_given wake name) (fold (room_given wake name) t.room a) b; marks = (t.marks ++ marks_for name a) ++ marks_for name b }) (append_assoc t.unread (bytes_for name a) (bytes_for name b) ∙ ap (λ bytes. t.unread ++ bytes) (sym (bytes_for-append name a b)))
    ∙ ap (λ ends. record t { unread = t.unread ++ bytes_for name (a ++ b); ending = ends; room = fold (room_given wake name) (fold (room_given wake name) t.room a) b; marks = (t.marks ++ marks_for name a) ++ marks_for name b }) (sym (fold-append (ending_step name) t.ending a b))
    ∙ ap (λ room. record t { unread = t.unread ++ bytes_for name (a ++ b); ending = fold (ending_step name) t.ending (a ++ b); room = room; marks = (t.marks ++ marks_for name a) ++ marks_for name b }) (sym (fold-append (room_given wake name) t.room a b))
    ∙ ap (λ marks. record t { unread = t.unread ++ bytes_for name (a ++ b); ending = fold (ending_step name) t.ending (a ++ b); room = fold (room_given wake name) t.room (a ++ b); marks = marks }) (append_assoc t.marks (marks_for name a) (marks_for name b) ∙ ap (λ marks. t.marks ++ marks) (sym (marks_for-append name a b)))

pub released-none : (wake : ℕ) (tracks : List Track) → Released wake [] tracks tracks
released-none wake tracks name = sym (idle-parts (track_at tracks (place name)))

pub released-append : (wake : ℕ) (a b : List RecordEntry) (old mid new : List Track) → Released wake a old mid → Released wake b mid new → Released wake (a ++ b) old new
released-append wake a b old mid new first next name = next name ∙ ap (given wake name b) (first name) ∙ given-more wake name a b (track_at old (place name))

-- each number is the place of a name
pub name_of : ℕ → RecordLink
name_of at = if at % 2 == 0 then Client (at / 2) else Server (at / 2)

name_of-cases : (at half rest : ℕ) → 2 * half + rest ≡ at → rest < 2 → place (if rest == 0 then Client half else Server half) ≡ at
name_of-cases at half zero is small = omega (arith, is)
name_of-cases at half (suc zero) is small = omega (arith, is)
name_of-cases at half (suc (suc r)) is small = absurd (omega arith)

pub place-name_of : (at : ℕ) → place (name_of at) ≡ at
unfolding name_of
place-name_of at = name_of-cases at (at / 2) (at % 2) (omega arith) (omega arith)

pub released-links : (wake : ℕ) (lines : List RecordEntry) (old new : List Track) → Released wake lines old new → (at : ℕ) → (track_at new at).link ≡ (track_at old at).link
released-links wake lines old new released at = subst (λ (k : ℕ). (track_at new k).link ≡ (track_at old k).link) (place-name_of at) (ap (λ t. t.link) (released (name_of at)))
