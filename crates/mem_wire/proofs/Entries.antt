-- The stage follows the log, entry by entry.
use Rattle.std.proofs.Common.{◌≡◌, ◌⊎◌, ℕ, zero, suc, ◌<◌, ◌≤◌, ◌+◌, ◌-◌, ◌==◌, Bool, true, false, nat_lt, List, [], ◌∷◌, ◌++◌, length, take, drop, if◌then◌else◌, Option, Some, None, refl, sym, ◌∙◌, ap, subst, arith, inl, inr, get_or}
use Rattle.std.specs.Prelude.{IfSome, min, slice_get, is_some, not, ◌&&◌, ◌||◌}
use Rattle.std.proofs.lemmas.Option.{slice_get-get_or, slice_get_within}
use Rattle.std.proofs.lemmas.List.{take_min, take-append-drop, length-take-le}
use Rattle.mx_base.specs.declared.names.LinkId.{LinkId}
use Rattle.mx_base.specs.declared.names.ServerId.{ServerId}
use Rattle.mx_base.specs.declared.names.Address.{Address}
use Rattle.mx_wire.specs.Log.{Log, link_of, moment_step}
use Rattle.mx_base.specs.declared.tag.Tag.{Tag}
use Rattle.mx_wire.specs.Answers.{got_entry, took_entry, ReadsAtMost, TakesAtMost}
use Rattle.mx_wire.specs.declared.wire.Got.{Got}
use Rattle.mx_wire.specs.declared.wire.Got.TheVariants as got
use Rattle.mx_wire.specs.declared.wire.Took.{Took}
use Rattle.mx_wire.specs.declared.wire.Took.TheVariants as took
use Rattle.mem_wire.specs.declared.ending.Ending.{Ending}
use Rattle.mem_wire.specs.declared.ending.Ending.TheVariants as ending
use Rattle.mem_wire.specs.declared.room.Room.{Room}
use Rattle.mx_wire.specs.Tells.{IsOpen, OpenFor}
use Rattle.mx_wire.specs.Tells.{Fits as FitsLog}
use Rattle.mx_wire.specs.Growth.{same_number}
use Rattle.mx_wire.specs.declared.entry.Entry.{Entry}
use Rattle.mx_wire.specs.declared.entry.Entry.TheVariants as entry
use Rattle.recording.specs.declared.entry.RecordLink.{RecordLink}
use Rattle.recording.specs.declared.entry.RecordEntry.{RecordEntry}
use Rattle.mem_wire.specs.declared.naming.ToName.{ToName}
use Rattle.mem_wire.specs.declared.track.Track.{Track}
use Rattle.mem_wire.specs.declared.stage.Stage.{Stage}
use Rattle.mem_wire.specs.Adds.{late_entries, Calls}
use Rattle.mem_wire.specs.Lines.{bytes_for, ending_for, is_refused}
use Rattle.mem_wire.specs.Came.{is_open_call, room_left, known, with_link, known_ending, known_room}
use Rattle.mem_wire.specs.CameLaws.{opens-more}
use Rattle.mem_wire.specs.Play.{is_ready, has_room, has_failed, FitsRoom, IsBehind, MayWrite, named_step, Answers}
use Rattle.mem_wire.specs.Fitting.{fitting, takes}
use Rattle.mx_wire.specs.Tells.{link_below}
use Rattle.mem_wire.specs.Tracks.{track_at, room_in, read_change, spent, write_change, ChangesTrack}
use Rattle.mem_wire.specs.Steps.{place_in, EndsBy, ReadsTrack, WritesTrack, Moves, MovesAt, IsWithin}
use Rattle.mem_wire.specs.Naming.{is_named, named_at, may_turn_ready}
use Rattle.mem_wire.specs.Turns.{Searches, AllInTurn}
use Rattle.mem_wire.specs.Stands.{read_by, Fits, Stands}
use Rattle.mem_wire.specs.Follows.{Follows, IsTape}
use Rattle.mem_wire.proofs.Fitting.{fit-most, fit-room, fit-take, wrote-bytes}
use Rattle.mem_wire.proofs.Links.{is_below, open-below}
use Rattle.mem_wire.proofs.Scenes.{IsIdle, alike-idle, opens-same}
use Rattle.mem_wire.proofs.Sound.{KeepsCourse, sound-call, sound-late}
use Rattle.mem_wire.proofs.Courses.{Moved, moved-moves}
use Rattle.mem_wire.proofs.LineLaws.{name_of, place-name_of}
use Rattle.mem_wire.proofs.Standing.{stands-alike, Has, has-is}
use Rattle.mem_wire.proofs.StandSteps.{but-entry, stands-stay}
use Rattle.mem_wire.proofs.StandMoves.{Brings_nothing, present, stands-moves, left-whole, Leaves, mine-changes, mine-closed, mine-named}
use Rattle.mem_wire.proofs.Nameable.{named-link, names-at, names-some}
use Rattle.mem_wire.proofs.InTurn.{or-true, Calms, calms-same, in-search, in-change}
use Rattle.mem_wire.proofs.Playing.{IsPlain, stands-marked, follows-plain, none-late}
use Rattle.mem_wire.proofs.Telling.{goes_on}
use Rattle.mem_wire.proofs.Following.{sound-moved}

-- Entries that a play doesn't look at.

pub record Stays (old new : Stage) : Type 0 where
  pub frame : new ≡ record old { late = new.late; turns = new.turns }
  pub late : new.late.marks ≡ []

stays-moved : (old new : Stage) → Stays old new → Moved old new
stays-moved old new stays = record {
  frame = stays.frame ∙ ap (λ tracks. record old { tracks = tracks; late = new.late; turns = new.turns }) (sym (ap (λ s. s.tracks) stays.frame));
  late = stays.late;
  links = λ at. ap (λ s. (track_at s.tracks.items at).link) stays.frame;
}

stands-idle : (recording : List RecordEntry) (s : Stage) (log : Log) (e : Entry) → IsIdle e → is_open_call e ≡ false → Stands recording s log → Stands recording s (log ++ e ∷ [])
stands-idle recording s log e idle unopened st = stands-alike recording s s.opens s.refusals s.late log (log ++ e ∷ []) (alike-idle recording log e idle) (st.opens ∙ sym (opens-same log e unopened)) st

pub follows-stays : (recording : List RecordEntry) (old new : Stage) (log : Log) (e : Entry) → Follows recording old log → Stays old new → link_below (length old.places.items) (link_of e) ≡ true → ((m : ℕ) → moment_step m e ≡ m) → IsIdle e → IsPlain recording e → is_open_call e ≡ false → Answers recording (log ++ late_entries old.late) e → AllInTurn recording new → Follows recording new ((log ++ late_entries old.late) ++ e ∷ [])
follows-stays recording old new log e follows stays low idle_moment idle plain unopened answer turns =
    let log1 = log ++ late_entries old.late in
    follows-plain recording old new log e follows plain answer
    (sound-moved recording old new log e follows (stays-moved old new stays) low idle_moment)
    (subst (λ (s : Stage). Stands recording s (log1 ++ e ∷ [])) (sym stays.frame)
    (stands-stay recording old (log1 ++ e ∷ []) new.late new.turns (stands-idle recording old log1 e idle unopened (stands-marked recording old log follows))))
    turns (none-late recording log1 e new.late plain.call.unmarked idle.opened stays.late)

-- Where an entry changes the track of its link.

-- Where a track isn't to be named, no call makes it so within a wake.

less-named : (closed ready later named : Bool) (o : Option LinkId) → (ready ≡ false → later ≡ false) → (if not closed && (ready && not named) then o else None) ≡ None → (if not closed && (later && not named) then o else None) ≡ None
less-named true ready later named o less none = refl
less-named false ready false named o less none = refl
less-named false true true named o less none = none
less-named false false true named o less none = absurd (let e : true ≡ false = less refl in cc)

less-read : (n : ℕ) (unread : List ℕ) (ends : Option Ending) (told blocked : Bool) (room : Option ℕ) → is_ready unread ends told blocked room ≡ false → is_ready (drop n unread) ends told blocked room ≡ false
less-read zero unread ends told blocked room none = none
less-read (suc n) [] ends told blocked room none = none
less-read (suc n) (b ∷ unread) ends told blocked room none = cc

less-told : (unread : List ℕ) (ends : Option Ending) (told blocked : Bool) (room : Option ℕ) → is_ready unread ends told blocked room ≡ false → is_ready unread ends true blocked room ≡ false
less-told (b ∷ unread) ends told blocked room none = cc
less-told [] None told blocked room none = none
less-told [] (Some how) true blocked room none = none
less-told [] (Some how) false blocked room none = cc

less-wrote : (unread : List ℕ) (ends : Option Ending) (told blocked : Bool) (room left : Option ℕ) → is_ready unread ends told blocked room ≡ false → is_ready unread ends told false left ≡ false
less-wrote (b ∷ unread) ends told blocked room left none = cc
less-wrote [] None told blocked room left none = refl
less-wrote [] (Some how) true blocked room left none = refl
less-wrote [] (Some how) false blocked room left none = cc

less-full : (unread : List ℕ) (ends : Option Ending) (told blocked : Bool) (room : Option ℕ) → room ≡ Some 0 → is_ready unread ends told blocked room ≡ false → is_ready unread ends told true room ≡ false
less-full (b ∷ unread) ends told blocked room full none = cc
less-full [] None told blocked room full none = ap has_room full
less-full [] (Some how) true blocked room full none = ap has_room full
less-full [] (Some how) false blocked room full none = cc

-- Where a track's link can't be ready, no call makes it so within a wake.

still-read : (n : ℕ) (unread : List ℕ) (ends : Option Ending) (told blocked : Bool) (room : Option ℕ) → may_turn_ready (drop n unread) ends told blocked room ≡ true → may_turn_ready unread ends told blocked room ≡ true
still-read zero unread ends told blocked room may = may
still-read (suc n) [] ends told blocked room may = may
still-read (suc n) (b ∷ unread) ends told blocked room may = refl

still-told : (unread : List ℕ) (ends : Option Ending) (told blocked : Bool) (room : Option ℕ) → may_turn_ready unread ends true blocked room ≡ true → may_turn_ready unread ends told blocked room ≡ true
still-told (b ∷ unread) ends told blocked room may = refl
still-told [] None told blocked room may = may
still-told [] (Some how) true blocked room may = may
still-told [] (Some how) false blocked room may = refl

still-wrote : (unread : List ℕ) (ends : Option Ending) (told blocked : Bool) (room left : Option ℕ) → is_some left ≡ is_some room → may_turn_ready unread ends told false left ≡ true → may_turn_ready unread ends told blocked room ≡ true
still-wrote (b ∷ unread) ends told blocked room left same may = refl
still-wrote [] ends told blocked room left same may = of (is_some ends && not told) (blocked && has_room room) (is_some room) (ap (λ b. ((is_some ends && not told) || false) || b) (sym same) ∙ may) where
  of : (untold now limited : Bool) → ((untold || false) || limited) ≡ true → ((untold || now) || limited) ≡ true
  of true now limited is = refl
  of false now true is = or-true now
  of false now false is = cc

still-full : (unread : List ℕ) (ends : Option Ending) (told blocked : Bool) (room : Option ℕ) → room ≡ Some 0 → may_turn_ready unread ends told blocked room ≡ true
still-full unread ends told blocked room full = ap (may_turn_ready unread ends told blocked) full ∙ or-true (is_ready unread ends told blocked (Some 0))

still-may : (closed now was : Bool) → (now ≡ true → was ≡ true) → (not closed && now) ≡ true → (not closed && was) ≡ true
still-may true now was still may = cc
still-may false now was still may = still may

left-some : (last n : ℕ) (room : Option Room) → is_some (room_in last (spent n room)) ≡ is_some (room_in last room)
left-some last n None = refl
left-some last n (Some room) = of (room.wake == last) where
  of : (here : Bool) → is_some (if here then Some (room.left - n) else None) ≡ is_some (if here then Some room.left else None)
  of true = refl
  of false = refl

told-calms : (last : ℕ) (t : Track) → Calms last t (record t { told = true })
told-calms last t = record {
  named = less-named t.closed (is_ready t.unread t.ending t.told t.blocked (room_in last t.room)) (is_ready t.unread t.ending true t.blocked (room_in last t.room)) (is_named t.named last) t.link (less-told t.unread t.ending t.told t.blocked (room_in last t.room));
  may = still-may t.closed (may_turn_ready t.unread t.ending true t.blocked (room_in last t.room)) (may_turn_ready t.unread t.ending t.told t.blocked (room_in last t.room)) (still-told t.unread t.ending t.told t.blocked (room_in last t.room));
}

read-calms : (last : ℕ) (g : Got) (t : Track) → Calms last t (read_change g t)
read-calms last (got.Got n) t = record {
  named = less-named t.closed (is_ready t.unread t.ending t.told t.blocked (room_in last t.room)) (is_ready (drop n t.unread) t.ending t.told t.blocked (room_in last t.room)) (is_named t.named last) t.link (less-read n t.unread t.ending t.told t.blocked (room_in last t.room));
  may = still-may t.closed (may_turn_ready (drop n t.unread) t.ending t.told t.blocked (room_in last t.room)) (may_turn_ready t.unread t.ending t.told t.blocked (room_in last t.room)) (still-read n t.unread t.ending t.told t.blocked (room_in last t.room));
}
read-calms last got.NotReady t = calms-same last t
read-calms last got.End t = told-calms last t
read-calms last got.Failed t = told-calms last t

write-calms : (last size : ℕ) (k : Took) (t : Track) → WritesTrack last t size k → Calms last t (write_change k t)
write-calms last size (took.Took n) t writes = record {
  named = less-named t.closed (is_ready t.unread t.ending t.told t.blocked (room_in last t.room)) (is_ready t.unread t.ending t.told false (room_in last (spent n t.room))) (is_named t.named last) t.link (less-wrote t.unread t.ending t.told t.blocked (room_in last t.room) (room_in last (spent n t.room)));
  may = still-may t.closed (may_turn_ready t.unread t.ending t.told false (room_in last (spent n t.room))) (may_turn_ready t.unread t.ending t.told t.blocked (room_in last t.room)) (still-wrote t.unread t.ending t.told t.blocked (room_in last t.room) (room_in last (spent n t.room)) (left-some last n t.room));
}
write-calms last size took.NotReady t writes = record {
  named = less-named t.closed (is_ready t.unread t.ending t.told t.blocked (room_in last t.room)) (is_ready t.unread t.ending t.told true (room_in last t.room)) (is_named t.named last) t.link (less-full t.unread t.ending t.told t.blocked (room_in last t.room) writes.full);
  may = still-may t.closed (may_turn_ready t.unread t.ending t.told true (room_in last t.room)) (may_turn_ready t.unread t.ending t.told t.blocked (room_in last t.room)) (λ may. still-full t.unread t.ending t.told t.blocked (room_in last t.room) writes.full);
}
write-calms last size took.Failed t writes = told-calms last t

closed-calms : (last : ℕ) (t : Track) → Calms last t (record t { closed = true })
closed-calms last t = record { named = λ none. refl; may = λ may. cc }

now-named : (closed ready : Bool) (o : Option LinkId) → (if not closed && (ready && false) then o else None) ≡ None
now-named true ready o = refl
now-named false true o = refl
now-named false false o = refl

named-calms : (last : ℕ) (t : Track) → Calms last t (record t { named = Some last })
named-calms last t = record {
  named = λ none.
      ap (λ b. if not t.closed && (is_ready t.unread t.ending t.told t.blocked (room_in last t.room) && not b) then t.link else None) (same_number last)
      ∙ now-named t.closed (is_ready t.unread t.ending t.told t.blocked (room_in last t.room)) t.link;
  may = λ may. may;
}

pub follows-moves : (recording : List RecordEntry) (old new : Stage) (log : Log) (e : Entry) (but : LinkId) (at : ℕ) (change : Track → Track) → Follows recording old log → Moved old new → ChangesTrack at change old.tracks.items new.tracks.items → slice_get old.places.items but.0 ≡ Some at → link_of e ≡ Some but → nat_lt but.0 (length old.places.items) ≡ true → ((m : ℕ) → moment_step m e ≡ m) → Brings_nothing e → ((links : List LinkId) → (named_step links e ≡ links) ⊎ (named_step links e ≡ links ++ but ∷ [])) → IsPlain recording e → is_open_call e ≡ false → Answers recording (log ++ late_entries old.late) e → ((name : RecordLink) → Fits (take old.cut recording) old.last old.cut (log ++ late_entries old.late) name (track_at old.tracks.items at) → Fits (take old.cut recording) old.last old.cut ((log ++ late_entries old.late) ++ e ∷ []) name (change (track_at old.tracks.items at))) → AllInTurn recording new → Follows recording new ((log ++ late_entries old.late) ++ e ∷ [])
follows-moves recording old new log e but at change follows moved changes here of low idle_moment brings names plain unopened answer mine turns =
    let log1 = log ++ late_entries old.late in
    follows-plain recording old new log e follows plain answer
    (sound-moved recording old new log e follows moved (ap (link_below (length old.places.items)) of ∙ low) idle_moment)
    (stands-moves recording old new log1 e but at change (stands-marked recording old log follows) follows.sound.linked moved.frame changes moved.links here brings unopened (but-entry but log1 e of brings.woke names)
    (λ name spot. subst (λ (p : ℕ). Fits (take old.cut recording) old.last old.cut log1 name (track_at old.tracks.items p) → Fits (take old.cut recording) old.last old.cut (log1 ++ e ∷ []) name (change (track_at old.tracks.items p))) (sym spot) (mine name)))
    turns (none-late recording log1 e new.late plain.call.unmarked brings.opened moved.late)

-- where an open link's track is
pub record IsAt (s : Stage) (link : LinkId) : Type 0 where
  pub at : ℕ
  pub here : slice_get s.places.items link.0 ≡ Some at
  pub owner : (track_at s.tracks.items at).link ≡ Some link
  pub within : at < length s.tracks.items
  pub low : nat_lt link.0 (length s.places.items) ≡ true

pub is-at : (recording : List RecordEntry) (s : Stage) (log : Log) (link : LinkId) → Follows recording s log → IsOpen link log → IsAt s link
is-at recording s log link follows opened =
    let low : link.0 < length s.places.items = open-below link log (length s.places.items) follows.sound.below opened in
    let at = get_or s.places.items link.0 0 in
    let here : slice_get s.places.items link.0 ≡ Some at = slice_get-get_or s.places.items link.0 0 low in
    let owner : (track_at s.tracks.items at).link ≡ Some link = follows.stands.placed link.0 at here in
    record { at = at; here = here; owner = owner; within = present s.tracks.items at link owner; low = grind arith }

moved-of : (link : LinkId) (change : Track → Track) (old new : Stage) → Moves link change old new → Moved old new
moved-of link change old new moves = moved-moves old new moves.frame moves.late moves.links

-- what a read or a write leaves
leaves-read : (link : LinkId) (into : List ℕ) (g : Got) → Leaves link (got_entry link into g)
leaves-read link into (got.Got n) = record { of = refl; woke = refl; opened = λ was. refl; named = λ links. refl }
leaves-read link into got.NotReady = record { of = refl; woke = refl; opened = λ was. refl; named = λ links. refl }
leaves-read link into got.End = record { of = refl; woke = refl; opened = λ was. refl; named = λ links. refl }
leaves-read link into got.Failed = record { of = refl; woke = refl; opened = λ was. refl; named = λ links. refl }

leaves-wrote : (link : LinkId) (tag : Tag) (piece : List ℕ) (k : Took) → Leaves link (took_entry link tag piece k)
leaves-wrote link tag piece (took.Took n) = record { of = refl; woke = refl; opened = λ was. refl; named = λ links. refl }
leaves-wrote link tag piece took.NotReady = record { of = refl; woke = refl; opened = λ was. refl; named = λ links. refl }
leaves-wrote link tag piece took.Failed = record { of = refl; woke = refl; opened = λ was. refl; named = λ links. refl }

-- a call that is no wake, brings nothing and changes the track of its link
pub record IsCalm (recording : List RecordEntry) (link : LinkId) (e : Entry) : Type 0 where
  pub leaves : Leaves link e
  pub brings : Brings_nothing e
  pub moment : (m : ℕ) → moment_step m e ≡ m
  pub plain : IsPlain recording e
  pub unopened : is_open_call e ≡ false

calm-read : (recording : List RecordEntry) (link : LinkId) (into : List ℕ) (g : Got) → IsCalm recording link (got_entry link into g)
calm-read recording link into (got.Got n) = record { leaves = leaves-read link into (got.Got n); brings = record { woke = refl; accepted = λ port. refl; opened = refl; known = λ r l. refl }; moment = λ m. refl; plain = record { call = record { unmarked = refl; judge = λ l c. c }; due = λ l. refl }; unopened = refl }
calm-read recording link into got.NotReady = record { leaves = leaves-read link into got.NotReady; brings = record { woke = refl; accepted = λ port. refl; opened = refl; known = λ r l. refl }; moment = λ m. refl; plain = record { call = record { unmarked = refl; judge = λ l c. c }; due = λ l. refl }; unopened = refl }
calm-read recording link into got.End = record { leaves = leaves-read link into got.End; brings = record { woke = refl; accepted = λ port. refl; opened = refl; known = λ r l. refl }; moment = λ m. refl; plain = record { call = record { unmarked = refl; judge = λ l c. c }; due = λ l. refl }; unopened = refl }
calm-read recording link into got.Failed = record { leaves = leaves-read link into got.Failed; brings = record { woke = refl; accepted = λ port. refl; opened = refl; known = λ r l. refl }; moment = λ m. refl; plain = record { call = record { unmarked = refl; judge = λ l c. c }; due = λ l. refl }; unopened = refl }

calm-wrote : (recording : List RecordEntry) (link : LinkId) (tag : Tag) (piece : List ℕ) (k : Took) → IsCalm recording link (took_entry link tag piece k)
calm-wrote recording link tag piece (took.Took n) = record { leaves = leaves-wrote link tag piece (took.Took n); brings = record { woke = refl; accepted = λ port. refl; opened = refl; known = λ r l. refl }; moment = λ m. refl; plain = record { call = record { unmarked = refl; judge = λ l c. c }; due = λ l. refl }; unopened = refl }
calm-wrote recording link tag piece took.NotReady = record { leaves = leaves-wrote link tag piece took.NotReady; brings = record { woke = refl; accepted = λ port. refl; opened = refl; known = λ r l. refl }; moment = λ m. refl; plain = record { call = record { unmarked = refl; judge = λ l c. c }; due = λ l. refl }; unopened = refl }
calm-wrote recording link tag piece took.Failed = record { leaves = leaves-wrote link tag piece took.Failed; brings = record { woke = refl; accepted = λ port. refl; opened = refl; known = λ r l. refl }; moment = λ m. refl; plain = record { call = record { unmarked = refl; judge = λ l c. c }; due = λ l. refl }; unopened = refl }

-- what a read changes of its link's track
mine-read : (lines : List RecordEntry) (last cut : ℕ) (log : Log) (link : LinkId) (before into : List ℕ) (g : Got) (name : RecordLink) (t : Track) → t.link ≡ Some link → ReadsTrack t before into g → Fits lines last cut log name t → Fits lines last cut (log ++ got_entry link into g ∷ []) name (read_change g t)
mine-read lines last cut log link before into (got.Got n) name t owner reads fits =
    mine-changes lines last cut log link (entry.Got link (take n into)) name t (drop n t.unread) t.told t.blocked t.room owner (leaves-read link into (got.Got n))
    (ap (λ bs. bs ++ drop n t.unread) reads.bytes ∙ take-append-drop n t.unread) refl refl (sym (left-whole (room_in last t.room))) fits.dated fits.woken fits
mine-read lines last cut log link before into got.NotReady name t owner reads fits =
    mine-changes lines last cut log link (entry.ReadNothing link) name t t.unread t.told t.blocked t.room owner (leaves-read link into got.NotReady) refl refl refl (sym (left-whole (room_in last t.room))) fits.dated fits.woken fits
mine-read lines last cut log link before into got.End name t owner reads fits =
    mine-changes lines last cut log link (entry.Ended link) name t t.unread true t.blocked t.room owner (leaves-read link into got.End) refl refl refl (sym (left-whole (room_in last t.room))) fits.dated fits.woken fits
mine-read lines last cut log link before into got.Failed name t owner reads fits =
    mine-changes lines last cut log link (entry.ReadFailed link) name t t.unread true t.blocked t.room owner (leaves-read link into got.Failed) refl refl refl (sym (left-whole (room_in last t.room))) fits.dated fits.woken fits

spent-left : (last n : ℕ) (room : Option Room) → room_in last (spent n room) ≡ room_left (room_in last room) n
spent-left last n None = refl
spent-left last n (Some room) = of (room.wake == last) where
  of : (here : Bool) → (if here then Some (room.left - n) else None) ≡ room_left (if here then Some room.left else None) n
  of true = refl
  of false = refl

spent-dated : (n cut : ℕ) (room : Option Room) → IfSome room (λ r. r.wake < cut) → IfSome (spent n room) (λ r. r.wake < cut)
spent-dated n cut None low = tt
spent-dated n cut (Some room) low = low

full-woken : (last cut : ℕ) (room : Option Room) → room_in last room ≡ Some 0 → IfSome room (λ r. r.wake < cut) → 0 < cut
full-woken last cut None full low = cc
full-woken last cut (Some room) full low = let below : room.wake < cut = low in omega arith

not_true : false ≡ true → ⊥
not_true so = cc

mine-wrote : (lines : List RecordEntry) (last cut : ℕ) (log : Log) (link : LinkId) (tag : Tag) (piece : List ℕ) (k : Took) (name : RecordLink) (t : Track) → t.link ≡ Some link → WritesTrack last t (length piece) k → Fits lines last cut log name t → Fits lines last cut (log ++ took_entry link tag piece k ∷ []) name (write_change k t)
mine-wrote lines last cut log link tag piece (took.Took n) name t owner writes fits =
    mine-changes lines last cut log link (entry.Wrote link tag (take n piece)) name t t.unread t.told false (spent n t.room) owner (leaves-wrote link tag piece (took.Took n)) refl refl refl
    (spent-left last n t.room ∙ ap (room_left (room_in last t.room)) (sym (length-take-le n piece (fit-most (room_in last t.room) (length piece) n writes.fits)))) (spent-dated n cut t.room fits.dated) (λ so. absurd (not_true so)) fits
mine-wrote lines last cut log link tag piece took.NotReady name t owner writes fits =
    mine-changes lines last cut log link (entry.WriteNothing link) name t t.unread t.told true t.room owner (leaves-wrote link tag piece took.NotReady) refl refl refl (sym (left-whole (room_in last t.room))) fits.dated (λ so. full-woken last cut t.room writes.full fits.dated) fits
mine-wrote lines last cut log link tag piece took.Failed name t owner writes fits =
    mine-changes lines last cut log link (entry.WriteFailed link) name t t.unread true t.blocked t.room owner (leaves-wrote link tag piece took.Failed) refl refl refl (sym (left-whole (room_in last t.room))) fits.dated fits.woken fits

-- what a track answers is what the recording says
behind : (recording : List RecordEntry) (last : ℕ) (log : Log) (link : LinkId) (t : Track) (how : Option Ending) → Has recording last log link t → EndsBy how t → IsBehind recording log link how
behind recording last log link t how has ends = record { read = has.unread ∙ ends.read; ends = has.ending ∙ ends.ends }

read-answers : (recording : List RecordEntry) (last : ℕ) (log : Log) (link : LinkId) (before into : List ℕ) (g : Got) (t : Track) → Has recording last log link t → length before ≡ 65536 → ReadsAtMost (length into) g → ReadsTrack t before into g → Answers recording log (got_entry link into g)
read-answers recording last log link before into (got.Got n) t has room most reads =
    let size : length (take n into) ≡ n = length-take-le n into most.fits in
    let some : 0 < n = reads.some in
    record { some = omega arith; is = reads.bytes ∙ ap (λ (k : ℕ). take k t.unread) (reads.size_is ∙ ap (λ (room : ℕ). min room (length t.unread)) room) ∙ take_min 65536 t.unread ∙ ap (take 65536) (sym has.unread) }
read-answers recording last log link before into got.NotReady t has room most reads = behind recording last log link t None has reads
read-answers recording last log link before into got.End t has room most reads = behind recording last log link t (Some ending.End) has reads
read-answers recording last log link before into got.Failed t has room most reads = behind recording last log link t (Some ending.Fail) has reads

unfailed : (recording : List RecordEntry) (last : ℕ) (log : Log) (link : LinkId) (t : Track) → Has recording last log link t → has_failed t.unread t.ending ≡ false → MayWrite recording log link
unfailed recording last log link t has may = record {
  unfailed = ap (λ bs. has_failed bs (known_ending recording log (with_link link (known recording log)))) has.unread ∙ ap (has_failed t.unread) has.ending ∙ may;
}

write-answers : (recording : List RecordEntry) (last : ℕ) (log : Log) (link : LinkId) (tag : Tag) (piece : List ℕ) (k : Took) (t : Track) → Has recording last log link t → WritesTrack last t (length piece) k → Answers recording log (took_entry link tag piece k)
write-answers recording last log link tag piece (took.Took n) t has writes =
    let size : length (take n piece) ≡ n = length-take-le n piece (fit-most (room_in last t.room) (length piece) n writes.fits) in
    let some : 0 < n = writes.some in
    record {
      may = unfailed recording last log link t has writes.may;
      some = omega arith;
      fits = subst (FitsRoom (known_room recording log (with_link link (known recording log)))) (sym size) (subst (λ o. FitsRoom o n) (sym has.room) (fit-room (room_in last t.room) (length piece) n writes.fits));
    }
write-answers recording last log link tag piece took.NotReady t has writes = record { may = unfailed recording last log link t has writes.may; full = has.room ∙ writes.full }
write-answers recording last log link tag piece took.Failed t has writes = behind recording last log link t (Some ending.Fail) has writes

pub follows-read : (recording : List RecordEntry) (old new : Stage) (log : Log) (link : LinkId) (before into : List ℕ) (g : Got) → IsWithin recording old → Follows recording old log → IsOpen link log → Moves link (read_change g) old new → length before ≡ 65536 → ReadsAtMost (length into) g → ((at : ℕ) → place_in old link ≡ Some at → at < length old.tracks.items → ReadsTrack (track_at old.tracks.items at) before into g) → Follows recording new ((log ++ late_entries old.late) ++ got_entry link into g ∷ [])
follows-read recording old new log link before into g within follows opened moves room most reads =
    let it = is-at recording old log link follows opened in
    let log1 = log ++ late_entries old.late in
    let t = track_at old.tracks.items it.at in
    let read = reads it.at it.here it.within in
    let calm = calm-read recording link into g in
    follows-moves recording old new log (got_entry link into g) link it.at (read_change g) follows (moved-of link (read_change g) old new moves) (moves.track it.at it.here it.within) it.here calm.leaves.of it.low calm.moment
    calm.brings (λ links. inl (calm.leaves.named links)) calm.plain calm.unopened
    (read-answers recording old.last log1 link before into g t (has-is recording old log1 link it.at within (stands-marked recording old log follows) it.here) room most read)
    (λ name. mine-read (take old.cut recording) old.last old.cut log1 link before into g name t it.owner read)
    (in-change recording old new it.at (read_change g) follows.turns moves.frame (moves.track it.at it.here it.within) (read-calms old.last g t))

pub follows-wrote : (recording : List RecordEntry) (old new : Stage) (log : Log) (link : LinkId) (tag : Tag) (piece : List ℕ) (k : Took) → IsWithin recording old → Follows recording old log → IsOpen link log → Moves link (write_change k) old new → ((at : ℕ) → place_in old link ≡ Some at → at < length old.tracks.items → WritesTrack old.last (track_at old.tracks.items at) (length piece) k) → Follows recording new ((log ++ late_entries old.late) ++ took_entry link tag piece k ∷ [])
follows-wrote recording old new log link tag piece k within follows opened moves writes =
    let it = is-at recording old log link follows opened in
    let log1 = log ++ late_entries old.late in
    let t = track_at old.tracks.items it.at in
    let wrote = writes it.at it.here it.within in
    let calm = calm-wrote recording link tag piece k in
    follows-moves recording old new log (took_entry link tag piece k) link it.at (write_change k) follows (moved-of link (write_change k) old new moves) (moves.track it.at it.here it.within) it.here calm.leaves.of it.low calm.moment
    calm.brings (λ links. inl (calm.leaves.named links)) calm.plain calm.unopened
    (write-answers recording old.last log1 link tag piece k t (has-is recording old log1 link it.at within (stands-marked recording old log follows) it.here) wrote)
    (λ name. mine-wrote (take old.cut recording) old.last old.cut log1 link tag piece k name t it.owner wrote)
    (in-change recording old new it.at (write_change k) follows.turns moves.frame (moves.track it.at it.here it.within) (write-calms old.last (length piece) k t wrote))

-- and it takes what there is room for
pub wrote-fitting : (recording : List RecordEntry) (old : Stage) (log : Log) (link : LinkId) (tag other : Tag) (piece : List ℕ) (k : Took) (bytes : List ℕ) → IsWithin recording old → Follows recording old log → IsOpen link log
    → ((at : ℕ) → place_in old link ≡ Some at → at < length old.tracks.items → WritesTrack old.last (track_at old.tracks.items at) (length piece) k) → took_entry link tag piece k ≡ entry.Wrote link other bytes → takes recording (log ++ late_entries old.late) link piece bytes
wrote-fitting recording old log link tag other piece k bytes within follows opened writes is = by k (writes it.at it.here it.within) is where
  it : IsAt old link
  it = is-at recording old log link follows opened

  has : Has recording old.last (log ++ late_entries old.late) link (track_at old.tracks.items it.at)
  has = has-is recording old (log ++ late_entries old.late) link it.at within (stands-marked recording old log follows) it.here

  by : (k : Took) → WritesTrack old.last (track_at old.tracks.items it.at) (length piece) k → took_entry link tag piece k ≡ entry.Wrote link other bytes → takes recording (log ++ late_entries old.late) link piece bytes
  by (took.Took n) wrote is = sym (wrote-bytes link tag other (take n piece) bytes is) ∙ fit-take (room_in old.last (track_at old.tracks.items it.at).room) piece n wrote.fits ∙ ap (λ o. fitting o piece) (sym has.room)
  by took.NotReady wrote is = cc
  by took.Failed wrote is = cc

pub follows-closed : (recording : List RecordEntry) (old new : Stage) (log : Log) (link : LinkId) → Follows recording old log → IsOpen link log → Moves link (λ t. record t { closed = true }) old new → Follows recording new ((log ++ late_entries old.late) ++ entry.Closed link ∷ [])
follows-closed recording old new log link follows opened moves =
    let it = is-at recording old log link follows opened in
    follows-moves recording old new log (entry.Closed link) link it.at (λ t. record t { closed = true }) follows (moved-of link (λ t. record t { closed = true }) old new moves) (moves.track it.at it.here it.within) it.here refl it.low (λ m. refl)
    (record { woke = refl; accepted = λ port. refl; opened = refl; known = λ r l. refl }) (λ links. inl refl) (record { call = record { unmarked = refl; judge = λ l c. c }; due = λ l. refl }) refl tt
    (λ name. mine-closed (take old.cut recording) old.last old.cut (log ++ late_entries old.late) link name (track_at old.tracks.items it.at) it.owner)
    (in-change recording old new it.at (λ t. record t { closed = true }) follows.turns moves.frame (moves.track it.at it.here it.within) (closed-calms old.last (track_at old.tracks.items it.at)))

positive-or : (n : ℕ) → (n ≡ 0 → ⊥) → 0 < n
positive-or zero not = absurd (not refl)
positive-or (suc n) not = omega arith

ready-if : (closed ready named : Bool) (o : Option LinkId) (link : LinkId) → (if not closed && (ready && not named) then o else None) ≡ Some link → ready ≡ true
ready-if true ready named o link is = cc
ready-if false true named o link is = refl
ready-if false false named o link is = cc

no-front : (a b : List ℕ) → a ++ b ≡ [] → b ≡ []
no-front [] b is = is
no-front (x ∷ a) b is = cc

ready-blocked : (told blocked : Bool) (room : Option ℕ) → is_ready [] None told blocked room ≡ true → blocked ≡ true
ready-blocked told true room is = refl
ready-blocked told false room is = cc

-- a link that is to be named has something that some wake has released
some-cut : (recording : List RecordEntry) (s : Stage) (log : Log) (t : ToName) → Stands recording s log → named_at s.last s.tracks.items t.at ≡ Some t.link → 0 < s.cut
some-cut recording s log t st named =
    let x = track_at s.tracks.items t.at in
    let name = name_of t.at in
    let fits = subst (λ (p : ℕ). Fits (take s.cut recording) s.last s.cut log name (track_at s.tracks.items p)) (place-name_of t.at) (st.tracks name) in
    let ready : is_ready x.unread x.ending x.told x.blocked (room_in s.last x.room) ≡ true = ready-if x.closed (is_ready x.unread x.ending x.told x.blocked (room_in s.last x.room)) (is_named x.named s.last) x.link t.link named in
    positive-or s.cut (λ none.
    let unread : x.unread ≡ [] = no-front (read_by x.link log) x.unread (fits.bytes ∙ ap (λ (c : ℕ). bytes_for name (take c recording)) none) in
    let ends : x.ending ≡ None = fits.ending ∙ ap (λ (c : ℕ). ending_for name (take c recording)) none in
    let low : 0 < s.cut = fits.woken (ready-blocked x.told x.blocked (room_in s.last x.room) (ap (λ o. is_ready [] o x.told x.blocked (room_in s.last x.room)) (sym ends) ∙ ap (λ bs. is_ready bs x.ending x.told x.blocked (room_in s.last x.room)) (sym unread) ∙ ready)) in
    omega arith)

-- The link that a search has found.

pub follows-named : (recording : List RecordEntry) (old mid new : Stage) (log : Log) (t : ToName) → IsWithin recording old → Follows recording old log → Searches (Some t) old mid → MovesAt t.at (λ x. record x { named = Some mid.last }) mid new → Moved old new → Follows recording new ((log ++ late_entries old.late) ++ entry.Named t.link ∷ [])
follows-named recording old mid new log t within follows looks moves moved =
    let log1 = log ++ late_entries old.late in
    let last_is : mid.last ≡ old.last = ap (λ s. s.last) looks.frame in
    let tracks_are : mid.tracks ≡ old.tracks = ap (λ s. s.tracks) looks.frame in
    let x = track_at old.tracks.items t.at in
    let named = names-at old mid t looks in
    let owner : x.link ≡ Some t.link = named-link old.last x t.link named in
    let here : slice_get old.places.items t.link.0 ≡ Some t.at = follows.sound.linked t.at t.link owner in
    let inside : t.at < length mid.tracks.items = subst (λ ts. t.at < length ts.items) (sym tracks_are) (present old.tracks.items t.at t.link owner) in
    let changes : ChangesTrack t.at (λ y. record y { named = Some mid.last }) mid.tracks.items new.tracks.items = moves.track inside in
    let changes_old : ChangesTrack t.at (λ y. record y { named = Some old.last }) old.tracks.items new.tracks.items =
    subst (λ (l : ℕ). ChangesTrack t.at (λ y. record y { named = Some l }) old.tracks.items new.tracks.items) last_is
    (subst (λ ts. ChangesTrack t.at (λ y. record y { named = Some mid.last }) ts.items new.tracks.items) tracks_are changes) in
    let positive : 0 < old.cut = some-cut recording old log1 t (stands-marked recording old log follows) named in
    follows-moves recording old new log (entry.Named t.link) t.link t.at (λ y. record y { named = Some old.last }) follows moved changes_old here refl (is_below t.link.0 (length old.places.items) (slice_get_within old.places.items t.link.0 t.at here)) (λ m. refl)
    (record { woke = refl; accepted = λ port. refl; opened = refl; known = λ r l. refl }) (λ links. inr refl) (record { call = record { unmarked = refl; judge = λ l c. c }; due = λ l. refl }) refl
    (names-some recording old mid log1 t (stands-marked recording old log follows) within follows.sound.linked follows.turns looks)
    (λ name. mine-named (take old.cut recording) old.last old.cut log1 t.link name x (follows.stands.wake positive) owner)
    (in-change recording mid new t.at (λ y. record y { named = Some mid.last }) (in-search recording (Some t) old mid follows.turns looks) moves.frame changes (named-calms mid.last (track_at mid.tracks.items t.at)))

-- An open that is refused.

pub follows-refused : (recording : List RecordEntry) (old new : Stage) (log : Log) (at_server : ServerId) (address : Address) → Follows recording old log → new ≡ record old { opens = old.opens + 1; refusals = new.refusals; late = new.late } → new.late.marks ≡ [] → is_refused (old.opens + 1) recording ≡ true → Follows recording new ((log ++ late_entries old.late) ++ entry.OpenFailed at_server address ∷ [])
follows-refused recording old new log at_server address follows frame late refused =
    let e = entry.OpenFailed at_server address in
    let log1 = log ++ late_entries old.late in
    let st = stands-marked recording old log follows in
    let keeps : KeepsCourse old new = record {
      cut = ap (λ s. s.cut) frame;
      places = ap (λ s. s.places) frame;
      opened = ap (λ s. s.opened) frame;
      traffic = ap (λ s. s.traffic) frame;
      admin = ap (λ s. s.admin) frame;
      late = late;
      links = λ at. ap (λ s. (track_at s.tracks.items at).link) frame;
    } in
    follows-plain recording old new log e follows (record { call = record { unmarked = refl; judge = λ l c. c }; due = λ l. refl })
    (ap (λ (n : ℕ). is_refused (n + 1) recording) (sym st.opens) ∙ refused)
    (sound-call recording old new log (late_entries old.late) e follows.sound keeps (sound-late recording old log follows.sound) refl (λ m. refl))
    (subst (λ (s : Stage). Stands recording s (log1 ++ e ∷ [])) (sym frame)
    (stands-alike recording old (old.opens + 1) new.refusals new.late log1 (log1 ++ e ∷ [])
    (alike-idle recording log1 e (record { woke = refl; accepted = λ port. refl; opened = refl; known = λ r l. refl; named = λ links. refl; got = refl; open_is = λ was. refl; told = λ was. refl; blocked = λ was. refl; wrote = refl }))
    (ap (λ (n : ℕ). n + 1) st.opens ∙ sym (opens-more log1 e)) st))
    (subst (AllInTurn recording) (sym frame) follows.turns)
    (none-late recording log1 e new.late refl refl late)

-- The same of a tape.

pub tape-stays : (recording : List RecordEntry) (old new : Stage) (before after : Option Log) (e : Entry) → IsTape recording old before → IsWithin recording new → Stays old new → Calls before (late_entries old.late) e after → ((log : Log) → before ≡ Some log → Follows recording old log → link_below (length old.places.items) (link_of e) ≡ true) → ((m : ℕ) → moment_step m e ≡ m) → IsIdle e → IsPlain recording e → is_open_call e ≡ false → ((log : Log) → Follows recording old log → Stands recording old (log ++ late_entries old.late) → Answers recording (log ++ late_entries old.late) e) → ((log : Log) → Follows recording old log → AllInTurn recording new) → IsTape recording new after
tape-stays recording old new before after e tape within stays call low moment idle plain unopened answer turns =
    goes_on recording old new before after (late_entries old.late) e tape within call (λ log is follows.
    follows-stays recording old new log e follows stays (low log is follows) moment idle plain unopened (answer log follows (stands-marked recording old log follows)) (turns log follows))

pub open-in : (told shown : Option Log) (link : LinkId) (log : Log) → told ≡ shown → OpenFor shown link → told ≡ Some log → IsOpen link log
open-in told shown link log same opened is = opened.holds log (sym same ∙ is)

-- a search, and then the late marks are told
pub stays-search : (found : Option ToName) (old mid new : Stage) → Searches found old mid → new ≡ record mid { late = new.late } → new.late.marks ≡ [] → Stays old new
stays-search found old mid new looks frame late = record {
  frame = frame ∙ ap {A = Stage} (λ s. record s { late = new.late }) looks.frame
      ∙ ap (λ turns. record old { late = new.late; turns = turns }) (sym (ap (λ s. s.turns) frame));
  late = late;
}

-- what a read or a write answered may follow a log on which its link is open
pub read-fits : (log : Log) (link : LinkId) (into : List ℕ) (g : Got) → ReadsAtMost (length into) g → length into ≤ 65536 → IsOpen link log → FitsLog log (got_entry link into g)
read-fits log link into (got.Got n) piece most opened =
    let size : length (take n into) ≡ n = length-take-le n into piece.fits in
    record { opened = opened; some = omega (arith, piece.some); most = omega (arith, piece.fits) }
read-fits log link into got.NotReady piece most opened = opened
read-fits log link into got.End piece most opened = opened
read-fits log link into got.Failed piece most opened = opened

pub write-fits : (log : Log) (link : LinkId) (tag : Tag) (piece : List ℕ) (k : Took) → TakesAtMost (length piece) k → IsOpen link log → FitsLog log (took_entry link tag piece k)
write-fits log link tag piece (took.Took n) part opened =
    let size : length (take n piece) ≡ n = length-take-le n piece part.fits in
    record { opened = opened; some = omega (arith, part.some) }
write-fits log link tag piece took.NotReady part opened = opened
write-fits log link tag piece took.Failed part opened = opened
