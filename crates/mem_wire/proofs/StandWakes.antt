-- The stage goes on standing at a wake.
use Rattle.std.proofs.Common.{◌≡◌, ℕ, ◌<◌, ◌≤◌, ◌+◌, ◌-◌, ◌==◌, false, List, [], ◌∷◌, ◌++◌, length, take, drop, Option, Some, None, refl, sym, ◌∙◌, ap, subst, arith, append-nil, append_assoc, add-zero}
use Rattle.std.specs.Prelude.{IfSome, IfNone, slice_get, not, fold, if◌then◌else◌, Bool, true}
use Rattle.std.proofs.lemmas.List.{length-take-le, drop-drop}
use Rattle.std.proofs.lemmas.List.Elements.{filter_map-append}
use Rattle.std.proofs.Math.Seq.{take-add}
use Rattle.mx_base.specs.declared.names.LinkId.{LinkId}
use Rattle.mx_base.specs.declared.names.Port.{Port}
use Rattle.mx_base.specs.declared.names.Port.TheVariants.{Traffic, Admin}
use Rattle.mx_wire.specs.Log.{Log, opened_links, got_bytes, written_of, is_open}
use Rattle.mx_wire.specs.Growth.{bytes-idle, same_number}
use Rattle.std.proofs.lemmas.List.Sums.{fold-append}
use Rattle.mem_wire.specs.declared.room.Room.{Room}
use Rattle.recording.specs.declared.entry.RecordEntry.TheVariants as line
use Rattle.mx_wire.specs.declared.entry.Entry.TheVariants as entry
use Rattle.recording.specs.declared.entry.RecordLink.{RecordLink}
use Rattle.recording.specs.declared.entry.RecordEntry.{RecordEntry}
use Rattle.mem_wire.specs.declared.track.Track.{Track}
use Rattle.mem_wire.specs.declared.stage.Stage.{Stage}
use Rattle.mem_wire.specs.Lines.{same_name, waiting_at, clients_at, bytes_for, ending_step, ending_for, room_step, room_for, marks_for}
use Rattle.mem_wire.specs.Cuts.{NoMoment, EndsAtMoment, first_moment}
use Rattle.mem_wire.specs.Came.{wakes, accepted_at, opens, told_step, is_told, blocked_step, is_blocked, room_left, known, Known}
use Rattle.mem_wire.specs.Play.{named_since}
use Rattle.mem_wire.specs.Tracks.{track_at, place, room_given, given, room_in}
use Rattle.mem_wire.specs.Steps.{clients_of, accepted_of, Wakes}
use Rattle.mem_wire.specs.Naming.{is_named}
use Rattle.mem_wire.specs.Stands.{CutsAt, Numbered, read_by, written_by, IsFresh, is_in, Fits, Stands, Entered, client, server}
use Rattle.mem_wire.proofs.Scenes.{opened-more}
use Rattle.mem_wire.specs.CameLaws.{wakes-more, accepted-more, opens-more, known-more, named-more, since-more}
use Rattle.mem_wire.proofs.StandMoves.{left-whole}
use Rattle.mem_wire.proofs.Quiet.{is_open-idle, step-idle}
use Rattle.mem_wire.proofs.LineLaws.{bytes_for-append, marks_for-append, released-links}
use Rattle.mem_wire.proofs.CutLaws.{cut-next}
use Rattle.mem_wire.proofs.Sound.{get-front}

read-woke : (o : Option LinkId) (log : Log) (until_ms ms : ℕ) → read_by o (log ++ entry.Woke until_ms ms ∷ []) ≡ read_by o log
read-woke None log until_ms ms = refl
read-woke (Some link) log until_ms ms = bytes-idle got_bytes link log (entry.Woke until_ms ms) refl

if-same : {A : Type 0} (o : Option A) (P Q : A → Type 0) → ((x : A) → P x → Q x) → IfSome o P → IfSome o Q
if-same None P Q f h = h
if-same (Some x) P Q f h = f x h

if-absent : {A : Type 0} (o : Option A) (P Q : Type 0) → (P → Q) → IfNone o P → IfNone o Q
if-absent None P Q f h = f h
if-absent (Some x) P Q f h = h

apart-below : (a n : ℕ) → a < n → (a == n) ≡ false
apart-below a n low = grind arith

not-named : (o : Option ℕ) (cut : ℕ) → IfSome o (λ wake. wake < cut) → is_named o cut ≡ false
not-named None cut low = refl
not-named (Some wake) cut low = let below : wake < cut = low in apart-below wake cut below

always : {A : Type 0} (o : Option A) (P : A → Type 0) → ((x : A) → P x) → IfSome o P
always None P f = tt
always (Some x) P f = f x

-- the room that the lines of a wake give
wake-room : (wake : ℕ) (name : RecordLink) (room : Option Room) (o : Option ℕ) (lines : List RecordEntry) → room_in wake room ≡ o → room_in wake (fold (room_given wake name) room lines) ≡ fold (room_step name) o lines
wake-room wake name room o [] same = same
wake-room wake name room o (line.Take link n ∷ lines) same = wake-room wake name (if same_name name link then Some (record { wake = wake; left = n }) else room) (if same_name name link then Some n else o) lines (one (same_name name link)) where
  one : (here : Bool) → room_in wake (if here then Some (record { wake = wake; left = n }) else room) ≡ (if here then Some n else o)
  one true = ap (λ b. if b then Some n else None) (same_number wake)
  one false = same
wake-room wake name room o (_ ∷ lines) same = wake-room wake name room o lines same

pub old-room : (room : Option Room) (cut : ℕ) → IfSome room (λ r. r.wake < cut) → room_in cut room ≡ None
old-room None cut low = refl
old-room (Some room) cut low = let below : room.wake < cut = low in ap (λ b. if b then Some room.left else None) (apart-below room.wake cut below)

wake-dated : (wake next : ℕ) (name : RecordLink) (room : Option Room) (lines : List RecordEntry) → wake < next → IfSome room (λ r. r.wake < next) → IfSome (fold (room_given wake name) room lines) (λ r. r.wake < next)
wake-dated wake next name room [] later dated = dated
wake-dated wake next name room (line.Take link n ∷ lines) later dated = wake-dated wake next name (if same_name name link then Some (record { wake = wake; left = n }) else room) lines later (one (same_name name link)) where
  one : (here : Bool) → IfSome (if here then Some (record { wake = wake; left = n }) else room) (λ r. r.wake < next)
  one true = later
  one false = dated
wake-dated wake next name room (_ ∷ lines) later dated = wake-dated wake next name room lines later dated

written-woke : (o : Option LinkId) (log : Log) (until_ms ms : ℕ) → written_by o (log ++ entry.Woke until_ms ms ∷ []) ≡ 0
written-woke None log until_ms ms = refl
written-woke (Some link) log until_ms ms = ap (λ (since : Log). length (written_of link since)) (since-more log (entry.Woke until_ms ms))

drop-front : (front lines : List RecordEntry) → drop (length front) (front ++ lines) ≡ lines
drop-front [] lines = refl
drop-front (l ∷ front) lines = drop-front front lines

-- the lines up to the cut, and those of the wake
fits-woke : (front lines all : List RecordEntry) (last cut next : ℕ) (log : Log) (until_ms ms : ℕ) (name : RecordLink) (t : Track) → all ≡ front ++ lines → length front ≡ cut → cut < next → Fits front last cut log name t → Fits all cut next (log ++ entry.Woke until_ms ms ∷ []) name (given cut name lines t)
fits-woke front lines all last cut next log until_ms ms name t parts size later fits =
    let e = entry.Woke until_ms ms in
    record {
      marks = ap (λ m. m ++ marks_for name lines) fits.marks ∙ sym (ap (marks_for name) parts ∙ marks_for-append name front lines);
      bytes = ap (λ bs. bs ++ (t.unread ++ bytes_for name lines)) (read-woke t.link log until_ms ms)
          ∙ sym (append_assoc (read_by t.link log) t.unread (bytes_for name lines)) ∙ ap (λ bs. bs ++ bytes_for name lines) fits.bytes
          ∙ sym (ap (bytes_for name) parts ∙ bytes_for-append name front lines);
      ending = ap (λ o. fold (ending_step name) o lines) fits.ending ∙ sym (ap (ending_for name) parts ∙ fold-append (ending_step name) None front lines);
      room = wake-room cut name t.room None lines (old-room t.room cut fits.dated)
          ∙ ap (room_for name) (sym (ap (λ (ls : List RecordEntry). drop cut ls) parts ∙ ap (λ (k : ℕ). drop k (front ++ lines)) (sym size) ∙ drop-front front lines))
          ∙ sym (left-whole (room_for name (drop cut all))) ∙ ap (room_left (room_for name (drop cut all))) (sym (written-woke t.link log until_ms ms));
      opened = if-same t.link (λ l. is_open l log ≡ not t.closed) (λ l. is_open l (log ++ e ∷ []) ≡ not t.closed) (λ l h. is_open-idle l log e (λ was. refl) ∙ h) fits.opened;
      told = if-same t.link (λ l. is_told l log ≡ t.told) (λ l. is_told l (log ++ e ∷ []) ≡ t.told) (λ l h. step-idle told_step false l log e (λ was. refl) ∙ h) fits.told;
      blocked = if-same t.link (λ l. is_blocked l log ≡ t.blocked) (λ l. is_blocked l (log ++ e ∷ []) ≡ t.blocked) (λ l h. step-idle blocked_step false l log e (λ was. refl) ∙ h) fits.blocked;
      named = always t.link (λ l. is_in l (named_since (log ++ e ∷ [])) ≡ is_named t.named cut) (λ l. ap (is_in l) (named-more log e) ∙ sym (not-named t.named cut fits.stamp));
      fresh = if-absent t.link (IsFresh t) (IsFresh (given cut name lines t)) (λ f. record { closed = f.closed; named = f.named; told = f.told; blocked = f.blocked }) fits.fresh;
      stamp = if-same t.named (λ w. w < cut) (λ w. w < next) (λ w (low : w < cut). omega arith) fits.stamp;
      dated = wake-dated cut next name t.room lines later (if-same t.room (λ r. r.wake < cut) (λ r. r.wake < next) (λ r (low : r.wake < cut). omega arith) fits.dated);
      woken = λ so. let low : 0 < cut = fits.woken so in omega arith;
    }

clients-woke : (recording lines : List RecordEntry) (next : ℕ) (old new : Stage) (port : Port) → Wakes lines next old new → clients_of port new ≡ clients_of port old ++ clients_at port lines
clients-woke recording lines next old new Traffic wakes = wakes.traffic
clients-woke recording lines next old new Admin wakes = wakes.admin

accepted-woke : (lines : List RecordEntry) (next : ℕ) (old new : Stage) (port : Port) → Wakes lines next old new → accepted_of port new ≡ accepted_of port old
accepted-woke lines next old new Traffic wakes = ap (λ s. s.traffic_accepted) wakes.frame
accepted-woke lines next old new Admin wakes = ap (λ s. s.admin_accepted) wakes.frame

entered-woke : (recording lines : List RecordEntry) (next : ℕ) (old new : Stage) (at : ℕ) → Wakes lines next old new → Entered old at → Entered new at
entered-woke recording lines next old new at wakes (client port i waiting low is spot) =
    client port i waiting (subst (λ (n : ℕ). i < n) (sym (accepted-woke lines next old new port wakes)) low)
    (ap (λ cs. slice_get cs i) (clients-woke recording lines next old new port wakes) ∙ get-front (clients_of port old) (clients_at port lines) i waiting is) spot
entered-woke recording lines next old new at wakes (server k low spot) = server k (subst (λ links. k ≤ length links) (sym (ap (λ s. s.opened.items) wakes.frame)) low) spot

pub stands-wakes : (recording : List RecordEntry) (old new : Stage) (log : Log) (ms count until_ms : ℕ) (rest : List RecordEntry) → old.cut ≤ length recording → Stands recording old log → rest ≡ drop old.cut recording → first_moment rest ≡ Some ms → 0 < count → count ≤ length rest → NoMoment (drop 1 (take count rest)) → EndsAtMoment (drop count rest) → Wakes (take count rest) (old.cut + length (take count rest)) old new → Stands recording new (log ++ entry.Woke until_ms ms ∷ [])
stands-wakes recording old new log ms count until_ms rest within st is first some most none ends step =
    let e = entry.Woke until_ms ms in
    let lines = take count rest in
    let size : length lines ≡ count = length-take-le count rest most in
    let cut : new.cut ≡ old.cut + count = ap (λ s. s.cut) step.frame ∙ ap (λ (k : ℕ). old.cut + k) size in
    let last : new.last ≡ old.cut = ap (λ s. s.last) step.frame in
    let woke : wakes (log ++ e ∷ []) ≡ wakes log + 1 = wakes-more log e in
    let parts : take new.cut recording ≡ take old.cut recording ++ lines = ap (λ (c : ℕ). take c recording) cut ∙ take-add old.cut count recording ∙ ap (λ (ls : List RecordEntry). take old.cut recording ++ take count ls) (sym is) in
    let left : drop count rest ≡ drop (old.cut + count) recording = ap (drop count) is ∙ drop-drop count old.cut recording in
    let known_is : known recording (log ++ e ∷ []) ≡ known recording log = known-more recording log e ∙ append-nil (known recording log) in
    let opened_is : opened_links (log ++ e ∷ []) ≡ opened_links log = opened-more log e ∙ append-nil (opened_links log) in
    record {
      cut = subst (λ (c : ℕ). CutsAt recording c (wakes (log ++ e ∷ []))) (sym cut) (subst (CutsAt recording (old.cut + count)) (sym woke) (cut-next recording rest old.cut (wakes log) ms count st.cut is first some none (subst EndsAtMoment left ends)));
      last = subst (λ (c : ℕ). CutsAt recording c (wakes (log ++ e ∷ []) - 1)) (sym last) (subst (CutsAt recording old.cut) (let same : wakes log ≡ wakes (log ++ e ∷ []) - 1 = omega arith in same) st.cut);
      wake = λ positive. omega arith;
      clients = λ port. clients-woke recording lines (old.cut + length lines) old new port step ∙ ap (λ cs. cs ++ clients_at port lines) (st.clients port) ∙ sym (ap (clients_at port) parts ∙ filter_map-append (waiting_at port) (take old.cut recording) lines);
      accepted = λ port. accepted-woke lines (old.cut + length lines) old new port step ∙ st.accepted port ∙ sym (accepted-more port log e ∙ add-zero (accepted_at port log));
      opened = opened_is ∙ st.opened ∙ sym (ap (λ s. s.opened.items) step.frame);
      opens = ap (λ s. s.opens) step.frame ∙ st.opens ∙ sym (opens-more log e ∙ add-zero (opens log));
      links = subst (λ (ps : List ℕ). Numbered 0 (known recording (log ++ e ∷ [])) ps) (sym (ap (λ s. s.places.items) step.frame)) (subst (λ (ks : List Known). Numbered 0 ks old.places.items) (sym known_is) st.links);
      placed = λ number spot here. released-links old.cut lines old.tracks.items new.tracks.items step.tracks spot ∙ st.placed number spot (ap (λ (ps : List ℕ). slice_get ps number) (sym (ap (λ s. s.places.items) step.frame)) ∙ here);
      entered = λ spot link owner. entered-woke recording lines (old.cut + length lines) old new spot step (st.entered spot link (sym (released-links old.cut lines old.tracks.items new.tracks.items step.tracks spot) ∙ owner));
      tracks = λ name. subst (λ (l : ℕ). Fits (take new.cut recording) l new.cut (log ++ e ∷ []) name (track_at new.tracks.items (place name))) (sym last)
          (subst (λ t. Fits (take new.cut recording) old.cut new.cut (log ++ e ∷ []) name t) (sym (step.tracks name))
          (fits-woke (take old.cut recording) lines (take new.cut recording) old.last old.cut new.cut log until_ms ms name (track_at old.tracks.items (place name)) parts (length-take-le old.cut recording within) (omega arith) (st.tracks name)));
    }
