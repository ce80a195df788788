-- The stage follows the log where links come and where it wakes.
use Rattle.std.proofs.Common.{◌≡◌, ℕ, zero, suc, ◌<◌, ◌≤◌, ◌+◌, ◌-◌, ◌*◌, ◌==◌, Bool, true, false, List, [], ◌∷◌, ◌++◌, length, take, drop, if◌then◌else◌, Option, Some, None, refl, sym, ◌∙◌, ap, subst, arith, append-nil, length-append, add-zero}
use Rattle.std.specs.Prelude.{slice_get, IfSome, nat_eq}
use Rattle.std.specs.HashSet.{contains}
use Rattle.std.specs.List.{filter_map}
use Rattle.std.proofs.lemmas.List.{length-take-le, drop-drop}
use Rattle.mx_base.specs.declared.names.LinkId.{LinkId}
use Rattle.mx_base.specs.declared.names.ServerId.{ServerId}
use Rattle.mx_base.specs.declared.names.Address.{Address}
use Rattle.mx_base.specs.declared.names.Port.{Port}
use Rattle.mx_base.specs.declared.names.Port.TheVariants.{Traffic, Admin}
use Rattle.mx_wire.specs.Log.{Log, opened_links}
use Rattle.mx_wire.specs.declared.entry.Entry.{Entry}
use Rattle.mx_wire.specs.declared.entry.Entry.TheVariants as entry
use Rattle.recording.specs.declared.entry.RecordLink.TheVariants.{Client, Server}
use Rattle.recording.specs.declared.entry.RecordEntry.{RecordEntry}
use Rattle.recording.specs.declared.entry.RecordEntry.TheVariants as line
use Rattle.recording.specs.Playable.{IsPlayable, BeginsAtMoment}
use Rattle.mem_wire.specs.declared.waiting.Waiting.{Waiting}
use Rattle.mem_wire.specs.declared.track.Track.{Track}
use Rattle.mem_wire.specs.declared.stage.Stage.{Stage}
use Rattle.mem_wire.specs.Marks.{entries_of}
use Rattle.mem_wire.specs.Adds.{late_entries}
use Rattle.mem_wire.specs.Lines.{bytes_for, ending_for, room_for, is_port, moments, marks_for, is_refused, released, released_last, clients_at}
use Rattle.mem_wire.specs.Cuts.{NoMoment, EndsAtMoment, first_moment}
use Rattle.mem_wire.specs.Came.{wakes, room_left, accepted_at, next_client, as_client}
use Rattle.mem_wire.specs.Play.{mark_at, late_marks, due_marks}
use Rattle.mem_wire.specs.Below.{links_below}
use Rattle.mem_wire.specs.Tracks.{blank, track_at, place, given}
use Rattle.mem_wire.specs.Steps.{next_link, clients_of, accepted_of, Accepts, Opens, Wakes, IsFirst, IsWithin}
use Rattle.mem_wire.specs.Naming.{lines_between}
use Rattle.mem_wire.specs.Turns.{Joins, InTurn, AllInTurn}
use Rattle.mem_wire.specs.Stands.{Numbered, CutsAt, Fits, Stands, Entered, client, server}
use Rattle.mem_wire.specs.Follows.{Follows, IsTape, Continues, HaveSalts}
use Rattle.mem_wire.proofs.Links.{all_below-append}
use Rattle.mem_wire.proofs.LineLaws.{name_of, place-name_of}
use Rattle.mem_wire.proofs.InTurn.{in-enters, in-wake}
use Rattle.mem_wire.proofs.Scenes.{opened-more, opens-same, just-more}
use Rattle.mem_wire.specs.CameLaws.{accepted-more, opens-more}
use Rattle.mem_wire.proofs.Sound.{sound-late, no-late}
use Rattle.mem_wire.proofs.CutLaws.{moment-is, cut-next, last-lines, cut-released}
use Rattle.mem_wire.proofs.Standing.{client-is}
use Rattle.mem_wire.proofs.StandEnters.{none_some, stands-enters}
use Rattle.mem_wire.proofs.StandWakes.{stands-wakes}
use Rattle.mem_wire.proofs.Distinct.{client-fresh, server-fresh}
use Rattle.mem_wire.proofs.Playing.{stands-after, stands-marked, follows-plain, follows-entry, none-late, late-after}
use Rattle.mem_wire.proofs.Following.{sound-accepts, sound-opens, sound-wakes, wake-marks, marks_are}

clients-same : (old new : Stage) (port : Port) → new.traffic ≡ old.traffic → new.admin ≡ old.admin → clients_of port new ≡ clients_of port old
clients-same old new Traffic traffic admin = ap (λ v. v.items) traffic
clients-same old new Admin traffic admin = ap (λ v. v.items) admin

one-more : (b : Bool) (e : Entry) → (if b then 1 else 0) ≡ length (if b then e ∷ [] else [])
one-more true e = refl
one-more false e = refl

port-flip : (a b : Port) → is_port a b ≡ is_port b a
port-flip Traffic Traffic = refl
port-flip Traffic Admin = refl
port-flip Admin Traffic = refl
port-flip Admin Admin = refl

port-self : (a : Port) → is_port a a ≡ true
port-self Traffic = refl
port-self Admin = refl

entered-more : (old new : Stage) (at : ℕ) → ((port : Port) → clients_of port new ≡ clients_of port old) → ((port : Port) → accepted_of port old ≤ accepted_of port new) → length old.opened.items ≤ length new.opened.items → Entered old at → Entered new at
entered-more old new at clients accepted opened (client port i waiting low is spot) =
    client port i waiting (let more : accepted_of port old ≤ accepted_of port new = accepted port in omega arith) (ap (λ cs. slice_get cs i) (clients port) ∙ is) spot
entered-more old new at clients accepted opened (server k low spot) = server k (omega arith) spot

pub follows-accepted : (recording : List RecordEntry) (old new : Stage) (log : Log) (port : Port) (c : Waiting) → IsWithin recording old → Follows recording old log → slice_get (clients_of port old) (accepted_of port old) ≡ Some c → Accepts port c.number old new → Follows recording new ((log ++ late_entries old.late) ++ entry.Accepted port (next_link old) c.salt ∷ [])
follows-accepted recording old new log port c within follows next accepts =
    let log1 = log ++ late_entries old.late in
    let e = entry.Accepted port (next_link old) c.salt in
    let st = stands-marked recording old log follows in
    let waits : next_client recording log1 port ≡ Some c = client-is recording old log1 port st ∙ next in
    let fresh : (track_at old.tracks.items (2 * c.number)).link ≡ None = client-fresh recording old log1 port c follows.playable st next in
    let clients : (p : Port) → clients_of p new ≡ clients_of p old = λ p. clients-same old new p (ap (λ s. s.traffic) accepts.frame) (ap (λ s. s.admin) accepts.frame) in
    follows-plain recording old new log e follows (record { call = record { unmarked = refl; judge = λ l x. x }; due = λ l. refl })
    (record { number = c.number; is = waits })
    (sound-accepts recording old new port c.number c.salt log follows accepts)
    (stands-enters recording old new log1 e (2 * c.number) (Client c.number) st follows.sound.linked
    (all_below-append log (late_entries old.late) (length old.places.items) follows.sound.below (sound-late recording old log follows.sound).below)
    accepts.enters (ap (λ s. s.cut) accepts.frame) (ap (λ s. s.last) accepts.frame) clients
    (λ p. accepts.accepted p ∙ ap (λ (n : ℕ). n + (if is_port port p then 1 else 0)) (st.accepted p) ∙ ap (λ b. accepted_at p log1 + (if b then 1 else 0)) (port-flip port p) ∙ ap (λ (n : ℕ). accepted_at p log1 + n) (one-more (is_port p port) e) ∙ sym (accepted-more p log1 e))
    (opened-more log1 e ∙ append-nil (opened_links log1) ∙ st.opened ∙ sym (ap (λ s. s.opened.items) accepts.frame))
    (ap (λ s. s.opens) accepts.frame ∙ st.opens ∙ sym (opens-same log1 e refl)) refl fresh (ap (as_client (next_link old)) waits)
    (λ spot was. entered-more old new spot clients (λ p. let more : accepted_of p new ≡ accepted_of p old + (if is_port port p then 1 else 0) = accepts.accepted p in omega arith) (let same : length new.opened.items ≡ length old.opened.items = ap (λ s. length s.opened.items) accepts.frame in omega arith) was)
    (client port (accepted_of port old) c (let more : accepted_of port new ≡ accepted_of port old + 1 = accepts.accepted port ∙ ap (λ b. accepted_of port old + (if b then 1 else 0)) (port-self port) in omega arith) (ap (λ cs. slice_get cs (accepted_of port old)) (clients port) ∙ next) refl)
    (record { woke = refl; of = refl; got = refl; opens = λ was. refl; names = λ links. refl; told = λ was. refl; blocked = λ was. refl; wrote = refl }))
    (in-enters recording old new (2 * c.number) st.placed follows.turns accepts.enters (ap (λ s. s.last) accepts.frame) (ap (λ s. s.cut) accepts.frame) fresh)
    (none-late recording log1 e new.late refl refl accepts.late)

accepted-frame : (old new : Stage) (port : Port) → new.traffic_accepted ≡ old.traffic_accepted → new.admin_accepted ≡ old.admin_accepted → accepted_of port new ≡ accepted_of port old
accepted-frame old new Traffic traffic admin = traffic
accepted-frame old new Admin traffic admin = admin

marks-same : (b : Bool) (t : Track) (link : Option LinkId) → (if b then record t { link = link } else t).marks ≡ t.marks
marks-same true t link = refl
marks-same false t link = refl

late-opened : (recording : List RecordEntry) (old new : Stage) (log1 : Log) (at_server : ServerId) (address : Address) → Opens old new → Stands recording new (log1 ++ entry.Opened at_server address (next_link old) ∷ []) → opened_links (log1 ++ entry.Opened at_server address (next_link old) ∷ []) ≡ new.opened.items → late_marks recording (log1 ++ entry.Opened at_server address (next_link old) ∷ []) ≡ late_entries new.late
late-opened recording old new log1 at_server address opens st opened_is =
    let e = entry.Opened at_server address (next_link old) in
    let log2 = log1 ++ e ∷ [] in
    let k = length new.opened.items in
    let at = 2 * k + 1 in
    let same : (track_at new.tracks.items at).marks ≡ (track_at old.tracks.items at).marks = ap (λ t. t.marks) (opens.enters.tracks at) ∙ marks-same (at == at) (track_at old.tracks.items at) (Some (next_link old)) in
    ap (λ o. elim o [ Some link ↦ entries_of link (marks_for (Server (length (opened_links log2))) (released (wakes log2) recording)) | None ↦ [] ]) (just-more log1 e)
    ∙ ap (λ (links : List LinkId). entries_of (next_link old) (marks_for (Server (length links)) (released (wakes log2) recording))) opened_is
    ∙ ap (λ (lines : List RecordEntry). entries_of (next_link old) (marks_for (Server k) lines)) (cut-released recording new.cut (wakes log2) st.cut)
    ∙ ap (entries_of (next_link old)) (sym (st.tracks (Server k)).marks ∙ same)
    ∙ sym (ap late_entries opens.late)

-- an open that was asked for, and then comes
pub opens-asked : (old mid new : Stage) → mid ≡ record old { opens = mid.opens; refusals = mid.refusals } → Opens mid new → Opens old new
opens-asked old mid new asked opens =
    let at = 2 * length new.opened.items + 1 in
    record {
      frame = opens.frame ∙ ap {A = Stage} (λ s. record s { tracks = new.tracks; places = new.places; opened = new.opened; opens = new.opens; refusals = new.refusals; turns = new.turns; late = new.late }) asked;
      opened = opens.opened ∙ ap {A = Stage} (λ s. s.opened.items ++ next_link s ∷ []) asked;
      late = opens.late ∙ ap {A = Stage} (λ s. record { link = next_link s; marks = (track_at s.tracks.items at).marks }) asked;
      enters = record {
        places = opens.enters.places ∙ ap {A = Stage} (λ s. s.places.items ++ at ∷ []) asked;
        tracks = λ spot. opens.enters.tracks spot ∙ ap {A = Stage} (λ s. if spot == at then record (track_at s.tracks.items spot) { link = Some (next_link s) } else track_at s.tracks.items spot) asked;
        turns = subst (λ (s : Stage). Joins (length s.places.items) at s.turns new.turns) asked opens.enters.turns;
      };
    }

pub follows-opened : (recording : List RecordEntry) (old new : Stage) (log : Log) (at_server : ServerId) (address : Address) → IsWithin recording old → Follows recording old log → Opens old new → new.opens ≡ old.opens + 1 → is_refused (old.opens + 1) recording ≡ false → Follows recording new ((log ++ late_entries old.late) ++ entry.Opened at_server address (next_link old) ∷ [])
follows-opened recording old new log at_server address within follows opens_now counted wanted =
    let log1 = log ++ late_entries old.late in
    let e = entry.Opened at_server address (next_link old) in
    let log2 = log1 ++ e ∷ [] in
    let st = stands-marked recording old log follows in
    let count : length new.opened.items ≡ length old.opened.items + 1 = ap length opens_now.opened ∙ length-append old.opened.items (next_link old ∷ []) in
    let fresh : (track_at old.tracks.items (2 * length new.opened.items + 1)).link ≡ None = ap (λ (n : ℕ). (track_at old.tracks.items (2 * n + 1)).link) count ∙ server-fresh recording old log1 st in
    let clients : (p : Port) → clients_of p new ≡ clients_of p old = λ p. clients-same old new p (ap (λ s. s.traffic) opens_now.frame) (ap (λ s. s.admin) opens_now.frame) in
    let accepted : (p : Port) → accepted_of p new ≡ accepted_of p old = λ p. accepted-frame old new p (ap (λ s. s.traffic_accepted) opens_now.frame) (ap (λ s. s.admin_accepted) opens_now.frame) in
    let opened_is : opened_links log2 ≡ new.opened.items = opened-more log1 e ∙ ap (λ ls. ls ++ next_link old ∷ []) st.opened ∙ sym opens_now.opened in
    let named : length (opened_links log1) + 1 ≡ length new.opened.items = ap (λ ls. length ls + 1) st.opened ∙ sym count in
    let stands = stands-enters recording old new log1 e (2 * length new.opened.items + 1) (Server (length new.opened.items)) st follows.sound.linked
    (all_below-append log (late_entries old.late) (length old.places.items) follows.sound.below (sound-late recording old log follows.sound).below)
    opens_now.enters (ap (λ s. s.cut) opens_now.frame) (ap (λ s. s.last) opens_now.frame) clients
    (λ p. accepted p ∙ st.accepted p ∙ sym (accepted-more p log1 e ∙ add-zero (accepted_at p log1)))
    opened_is (counted ∙ ap (λ (n : ℕ). n + 1) st.opens ∙ sym (opens-more log1 e)) refl fresh (ap (λ (n : ℕ). record { link = next_link old; name = Server n } ∷ []) named)
    (λ spot was. entered-more old new spot clients (λ p. let same : accepted_of p new ≡ accepted_of p old = accepted p in omega arith) (omega arith) was)
    (server (length new.opened.items) (omega arith) refl)
    (record { woke = refl; of = refl; got = refl; opens = λ was. refl; names = λ links. refl; told = λ was. refl; blocked = λ was. refl; wrote = refl }) in
    follows-plain recording old new log e follows (record { call = record { unmarked = refl; judge = λ l x. x }; due = λ l. refl })
    (ap (λ (n : ℕ). is_refused (n + 1) recording) (sym st.opens) ∙ wanted) (sound-opens recording old new at_server address log follows opens_now) stands
    (in-enters recording old new (2 * length new.opened.items + 1) st.placed follows.turns opens_now.enters (ap (λ s. s.last) opens_now.frame) (ap (λ s. s.cut) opens_now.frame) fresh)
    (late-opened recording old new log1 at_server address opens_now stands opened_is)

dated-at : (recording : List RecordEntry) (s : Stage) (log : Log) → Stands recording s log → (at : ℕ) → IfSome (track_at s.tracks.items at).room (λ r. r.wake < s.cut)
dated-at recording s log st at = subst (λ (p : ℕ). IfSome (track_at s.tracks.items p).room (λ r. r.wake < s.cut)) (place-name_of at) (st.tracks (name_of at)).dated

turns-woken : (recording : List RecordEntry) (old new : Stage) (log : Log) (lines : List RecordEntry) (count : ℕ) → Stands recording old log → AllInTurn recording old → new.last ≡ old.cut → new.cut ≡ old.cut + count → lines_between old.cut (old.cut + count) recording ≡ lines → Wakes lines (old.cut + length lines) old new → AllInTurn recording new
turns-woken recording old new log lines count st turns last cut is step =
    let places : new.places.items ≡ old.places.items = ap (λ s. s.places.items) step.frame in
    let released : (at : ℕ) → track_at new.tracks.items at ≡ given old.cut (name_of at) lines (track_at old.tracks.items at) = λ at.
    subst (λ (p : ℕ). track_at new.tracks.items p ≡ given old.cut (name_of at) lines (track_at old.tracks.items p)) (place-name_of at) (step.tracks (name_of at)) in
    subst (λ (c : ℕ). InTurn (lines_between new.last c recording) new.last new.tracks.items new.places.items new.turns) (sym cut)
    (subst (λ (l : ℕ). InTurn (lines_between l (old.cut + count) recording) l new.tracks.items new.places.items new.turns) (sym last)
    (subst (λ (ps : List ℕ). InTurn (lines_between old.cut (old.cut + count) recording) old.cut new.tracks.items ps new.turns) (sym places)
    (in-wake lines old.last old.cut (lines_between old.last old.cut recording) (lines_between old.cut (old.cut + count) recording) old.tracks.items new.tracks.items old.places.items old.turns new.turns turns is
    (λ number spot here. ap (λ t. t.link) (released spot) ∙ st.placed number spot here) released (dated-at recording old log st) step.turns)))

pub follows-woken : (recording : List RecordEntry) (old new : Stage) (ms count until_ms : ℕ) (rest : List RecordEntry) (log : Log) → IsWithin recording old → Follows recording old log → rest ≡ drop old.cut recording → first_moment rest ≡ Some ms → 0 < count → count ≤ length rest → old.cut + length (take count rest) ≤ length recording → NoMoment (drop 1 (take count rest)) → EndsAtMoment (drop count rest) → Wakes (take count rest) (old.cut + length (take count rest)) old new → Follows recording new ((log ++ wake-marks old (take count rest)) ++ entry.Woke until_ms ms ∷ [])
follows-woken recording old new ms count until_ms rest log within follows is first some most end none ends step =
    let lines = take count rest in
    let e = entry.Woke until_ms ms in
    let marks = late_entries old.late ++ filter_map (mark_at old.opened.items) lines in
    let are = marks_are old lines in
    let log1 = log ++ marks in
    let st = stands-after recording old log marks are follows.stands in
    let size : length lines ≡ count = length-take-le count rest most in
    let last : new.last ≡ old.cut = ap (λ s. s.last) step.frame in
    let left : drop count rest ≡ drop (old.cut + count) recording = ap (drop count) is ∙ drop-drop count old.cut recording in
    let cut_now : CutsAt recording old.cut ((wakes log1 + 1) - 1) = subst (CutsAt recording old.cut) (let same : wakes log1 ≡ (wakes log1 + 1) - 1 = omega arith in same) st.cut in
    let cut_then = cut-next recording rest old.cut (wakes log1) ms count st.cut is first some none (subst EndsAtMoment left ends) in
    let rest_is : lines_between old.cut (old.cut + count) recording ≡ lines =
    ap (λ (n : ℕ). take n (drop old.cut recording)) (let n : (old.cut + count) - old.cut ≡ count = omega arith in n) ∙ ap (take count) (sym is) in
    let lines_are : released_last (wakes log1 + 1) recording ≡ lines =
    last-lines recording old.cut (old.cut + count) (wakes log1 + 1) cut_now cut_then (omega arith) (omega arith)
    ∙ rest_is in
    let cut_is : new.cut ≡ old.cut + count = ap (λ s. s.cut) step.frame ∙ ap (λ (n : ℕ). old.cut + n) size in
    let due : due_marks recording log1 e ≡ marks =
    ap (λ (l : Log). l ++ filter_map (mark_at (opened_links log1)) (released_last (wakes log1 + 1) recording)) (late-after recording log marks are ∙ follows.late)
    ∙ ap (λ (links : List LinkId). late_entries old.late ++ filter_map (mark_at links) (released_last (wakes log1 + 1) recording)) st.opened
    ∙ ap (λ (ls : List RecordEntry). late_entries old.late ++ filter_map (mark_at old.opened.items) ls) lines_are in
    follows-entry recording old new log marks e follows are (record { unmarked = refl; judge = λ l x. x }) due
    (moment-is recording rest old.cut (wakes log1) ms st.cut is first)
    (sound-wakes recording old new ms count until_ms rest log follows is first some most none ends step)
    (stands-wakes recording old new log1 ms count until_ms rest within.cut st is first some most none ends step)
    (turns-woken recording old new log1 lines count st follows.turns last cut_is rest_is step)
    (none-late recording log1 e new.late refl refl step.late)

-- The first stage follows the empty log.

blank-at : (s : Stage) (at : ℕ) → IsFirst s → track_at s.tracks.items at ≡ blank
blank-at s at first = ap (λ (ts : List Track). track_at ts at) first.tracks

begins-at : (recording : List RecordEntry) → BeginsAtMoment recording → EndsAtMoment recording
begins-at [] begins = tt
begins-at (line.At ms ∷ later) begins = refl
begins-at (_ ∷ later) begins = absurd begins

first-cut : (recording : List RecordEntry) (at n : ℕ) → at ≡ 0 → n ≡ 0 → BeginsAtMoment recording → CutsAt recording at n
first-cut recording at n none start begins = record {
  count_is = ap (λ (k : ℕ). length (moments (take k recording))) none ∙ sym start;
  ends = subst (λ (k : ℕ). EndsAtMoment (drop k recording)) (sym none) (begins-at recording begins);
}

first-clients : (s : Stage) (port : Port) → IsFirst s → clients_of port s ≡ []
first-clients s Traffic first = first.traffic
first-clients s Admin first = first.admin

first-accepted : (s : Stage) (port : Port) → IsFirst s → accepted_of port s ≡ 0
first-accepted s Traffic first = first.traffic_accepted
first-accepted s Admin first = first.admin_accepted

no-owner : (s : Stage) (at : ℕ) (link : LinkId) → IsFirst s → (track_at s.tracks.items at).link ≡ Some link → ⊥
no-owner s at link first is = none_some link (sym (ap (λ t. t.link) (blank-at s at first)) ∙ is)

none_at : (at : ℕ) → None ≡ Some at → ⊥
none_at at is = cc

drop-nil : (k : ℕ) → drop k (let none : List RecordEntry = [] in none) ≡ []
drop-nil zero = refl
drop-nil (suc k) = refl

no-block : false ≡ true → ⊥
no-block so = cc

first-stands : (recording : List RecordEntry) (s : Stage) → IsPlayable recording → IsFirst s → Stands recording s []
first-stands recording s playable first =
    let none : take s.cut recording ≡ [] = ap (λ (k : ℕ). take k recording) first.cut in
    record {
      cut = first-cut recording s.cut 0 first.cut refl playable.begins;
      last = first-cut recording s.last (0 - 1) first.last (omega arith) playable.begins;
      wake = λ some. absurd (let zero : s.cut ≡ 0 = first.cut in omega arith);
      clients = λ port. first-clients s port first ∙ ap (clients_at port) (sym none);
      accepted = λ port. first-accepted s port first;
      opened = sym first.opened;
      opens = first.opens;
      links = subst (λ (ps : List ℕ). Numbered 0 [] ps) (sym first.places) tt;
      placed = λ number at is. absurd (none_at at (ap (λ (ps : List ℕ). slice_get ps number) (sym first.places) ∙ is));
      entered = λ at link is. absurd (no-owner s at link first is);
      tracks = λ name. subst (λ t. Fits (take s.cut recording) s.last s.cut [] name t) (sym (blank-at s (place name) first)) (record {
        marks = ap (marks_for name) (sym none);
        bytes = ap (bytes_for name) (sym none);
        ending = ap (ending_for name) (sym none);
        room = ap (λ (ls : List RecordEntry). room_left (room_for name ls) 0) (sym (ap (drop s.last) none ∙ drop-nil s.last));
        opened = tt;
        told = tt;
        blocked = tt;
        named = tt;
        fresh = record { closed = refl; named = refl; told = refl; blocked = refl };
        stamp = tt;
        dated = tt;
        woken = λ so. absurd (no-block so);
      });
    }

first-turns : (recording : List RecordEntry) (s : Stage) → IsFirst s → AllInTurn recording s
first-turns recording s first =
    let no_place : (number at : ℕ) → slice_get s.places.items number ≡ Some at → ⊥ = λ number at is. none_at at (ap (λ (ps : List ℕ). slice_get ps number) (sym first.places) ∙ is) in
    subst (λ (c : ℕ). InTurn (lines_between s.last c recording) s.last s.tracks.items s.places.items s.turns) (sym first.cut)
    (subst (λ (n : ℕ). InTurn (take n (drop s.last recording)) s.last s.tracks.items s.places.items s.turns) (let e : 0 ≡ 0 - s.last = omega arith in e) (record {
      firsts = first.turns.firsts;
      lines = λ at i link named is. cc;
      queued = λ i at is. absurd (none_at at (sym (first.turns.lines i) ∙ is));
      within = let start : s.turns.link ≡ 0 = first.turns.link in omega arith;
      passed = λ number at before here. absurd (no_place number at here);
      pending = λ number at here may. absurd (no_place number at here);
    }))

-- the first stage follows the empty log
pub follows-first : (recording : List RecordEntry) (s : Stage) → IsPlayable recording → IsFirst s → Follows recording s []
follows-first recording s playable first = record {
  playable = playable;
  sound = record {
    below = refl;
    late = no-late (length s.places.items) s.late.marks s.late.link first.late;
    opened = ap (links_below (length s.places.items)) first.opened;
    linked = λ at link is. absurd (no-owner s at link first is);
    rest = subst (λ (k : ℕ). Continues 0 (drop k recording)) (sym first.cut) (record { clients = 0; playable = playable.lines });
    traffic = subst HaveSalts (sym first.traffic) tt;
    admin = subst HaveSalts (sym first.admin) tt;
  };
  stands = first-stands recording s playable first;
  turns = first-turns recording s first;
  late = sym (ap (entries_of s.late.link) first.late);
  unmarked = refl;
  played = tt;
}

pub tape-first : (recording : List RecordEntry) (s : Stage) (told : Option Log) → IsPlayable recording → IsFirst s → told ≡ Some [] → IsTape recording s told
tape-first recording s told playable first is = record {
  within = record {
    cut = let e : s.cut ≡ 0 = first.cut in omega arith;
    last = let e : s.last ≡ 0 = first.last in omega arith;
    refusals = subst (λ (o : Option _). IfSome o (λ found. (k : ℕ) → contains nat_eq found k ≡ is_refused k recording)) (sym first.refusals) tt;
  };
  follows = λ log told_is. let same : [] ≡ log = cc in subst (Follows recording s) same (follows-first recording s playable first);
}
