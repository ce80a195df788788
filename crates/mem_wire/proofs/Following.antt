-- The stage follows the log, call by call.
use Rattle.std.proofs.Common.{◌≡◌, ℕ, ◌<◌, ◌≤◌, ◌+◌, ◌*◌, true, List, [], ◌∷◌, ◌++◌, length, drop, take, Option, Some, None, refl, sym, ◌∙◌, ap, subst, arith}
use Rattle.mx_base.specs.declared.names.LinkId.{LinkId}
use Rattle.std.specs.Prelude.{slice_get}
use Rattle.std.specs.List.{filter_map}
use Rattle.std.proofs.lemmas.List.{drop-drop, length-take-le}
use Rattle.mx_base.specs.declared.names.ServerId.{ServerId}
use Rattle.mx_base.specs.declared.names.Address.{Address}
use Rattle.mx_base.specs.declared.names.Port.{Port}
use Rattle.mx_base.specs.declared.names.Port.TheVariants.{Traffic, Admin}
use Rattle.mx_wire.specs.Log.{Log, AreMarks, link_of, moment_of, moment_step}
use Rattle.mx_wire.specs.Tells.{OpenFor, IsOpen, IsNew, IsSalt, Fits, MayOpen}
use Rattle.mx_wire.specs.Growth.{moment_of-more}
use Rattle.mx_wire.specs.declared.entry.Entry.{Entry}
use Rattle.mx_wire.specs.declared.entry.Entry.TheVariants as entry
use Rattle.recording.specs.declared.entry.RecordEntry.{RecordEntry}
use Rattle.mem_wire.specs.declared.stage.Stage.{Stage}
use Rattle.mx_wire.specs.Adds.{Adds, IsBounded}
use Rattle.mem_wire.specs.Adds.{late_entries, Calls}
use Rattle.mx_wire.specs.Tells.{link_below, all_below}
use Rattle.mem_wire.specs.Below.{links_below}
use Rattle.mem_wire.specs.Lines.{clients_at}
use Rattle.mem_wire.specs.Play.{mark_at}
use Rattle.mem_wire.specs.Cuts.{NoMoment, EndsAtMoment, first_moment}
use Rattle.mem_wire.specs.Tracks.{track_at}
use Rattle.mem_wire.specs.declared.waiting.Waiting.{Waiting}
use Rattle.recording.specs.Playable.{PlayableAfter}
use Rattle.mem_wire.specs.Follows.{IsSound, Follows, Continues, HaveSalts}
use Rattle.mem_wire.specs.Steps.{Enters, Accepts, Opens, Wakes, numbered, next_link, clients_of, accepted_of}
use Rattle.mem_wire.specs.declared.late.Late.{Late}
use Rattle.mem_wire.proofs.Links.{late_are, late-below, is_below, links_below-append, links_below-more, all_below-append, AreGood, good-append, marks-good, marks-append, marks-of}
use Rattle.mem_wire.proofs.Quiet.{moment-marks}
use Rattle.mem_wire.proofs.LineLaws.{released-links}
use Rattle.mem_wire.proofs.Playable.{salts-append, salts-of, salt-at, begins}
use Rattle.mem_wire.proofs.Telling.{calls_in_parts}
use Rattle.mem_wire.proofs.Sound.{sound-call, sound-late, sound-new, sound-enter, no-late, open-still}
use Rattle.mem_wire.proofs.Courses.{Moved, keeps-moved}

-- an entry that brings no link and no moment
pub sound-moved : (recording : List RecordEntry) (old new : Stage) (log : Log) (e : Entry) → Follows recording old log → Moved old new → link_below (length old.places.items) (link_of e) ≡ true → ((m : ℕ) → moment_step m e ≡ m) → IsSound recording new ((log ++ late_entries old.late) ++ e ∷ [])
sound-moved recording old new log e follows moved low idle =
    sound-call recording old new log (late_entries old.late) e follows.sound (keeps-moved old new moved) (sound-late recording old log follows.sound) low idle

-- The same of a tape.

pub open-if-open : (told shown : Option Log) (link : LinkId) (late : Late) → told ≡ shown → OpenFor shown link → (log : Log) → told ≡ Some log → IsOpen link (log ++ late_entries late)
open-if-open told shown link late same opened log is = open-still link log (late_entries late) (late_are late) (opened.holds log (sym same ∙ is))

-- an entry that brings a link
pub sound-enters : (recording : List RecordEntry) (old new : Stage) (at : ℕ) (log : Log) (e : Entry) → Follows recording old log → Enters at old new → new.cut ≡ old.cut → new.traffic ≡ old.traffic → new.admin ≡ old.admin → links_below (length old.places.items + 1) new.opened.items ≡ true → all_below (length old.places.items + 1) (late_entries new.late) ≡ true → link_of e ≡ Some (next_link old) → ((m : ℕ) → moment_step m e ≡ m) → IsSound recording new ((log ++ late_entries old.late) ++ e ∷ [])
sound-enters recording old new at log e follows enters cut traffic admin opened late names idle =
    sound-enter recording old new at log (late_entries old.late) e follows.sound cut traffic admin enters.places enters.tracks opened late (sound-late recording old log follows.sound) names idle

pub opened-more : (n : ℕ) (links : List LinkId) → links_below n links ≡ true → links_below (n + 1) (links ++ numbered n ∷ []) ≡ true
opened-more n links all = links_below-append links (numbered n ∷ []) (n + 1) (links_below-more links n (n + 1) (omega arith) all) (rw (is_below n (n + 1) (omega arith)) refl)

pub sound-accepts : (recording : List RecordEntry) (old new : Stage) (port : Port) (number : ℕ) (salt : List ℕ) (log : Log) → Follows recording old log → Accepts port number old new → IsSound recording new ((log ++ late_entries old.late) ++ entry.Accepted port (next_link old) salt ∷ [])
sound-accepts recording old new port number salt log follows accepts =
    let n = length old.places.items in
    sound-enters recording old new (2 * number) log (entry.Accepted port (next_link old) salt) follows accepts.enters
    (ap (λ s. s.cut) accepts.frame) (ap (λ s. s.traffic) accepts.frame) (ap (λ s. s.admin) accepts.frame)
    (ap (λ s. links_below (n + 1) s.opened.items) accepts.frame ∙ links_below-more old.opened.items n (n + 1) (omega arith) follows.sound.opened)
    (no-late (n + 1) new.late.marks new.late.link accepts.late) refl (λ m. refl)

pub sound-opens : (recording : List RecordEntry) (old new : Stage) (server : ServerId) (address : Address) (log : Log) → Follows recording old log → Opens old new → IsSound recording new ((log ++ late_entries old.late) ++ entry.Opened server address (next_link old) ∷ [])
sound-opens recording old new server address log follows opens =
    let n = length old.places.items in
    sound-enters recording old new (2 * length new.opened.items + 1) log (entry.Opened server address (next_link old)) follows opens.enters
    (ap (λ s. s.cut) opens.frame) (ap (λ s. s.traffic) opens.frame) (ap (λ s. s.admin) opens.frame)
    (ap (links_below (n + 1)) opens.opened ∙ opened-more n old.opened.items follows.sound.opened)
    (ap (λ late. all_below (n + 1) (late_entries late)) opens.late ∙ late-below (track_at old.tracks.items (2 * length new.opened.items + 1)).marks (n + 1) (next_link old) (omega arith))
    refl (λ m. refl)

pub new-link : (recording : List RecordEntry) (s : Stage) (log : Log) → Follows recording s log → IsNew (next_link s) (log ++ late_entries s.late)
new-link recording s log follows = sound-new recording s log (late_entries s.late) follows.sound (sound-late recording s log follows.sound)

pub may-open : (recording : List RecordEntry) (s : Stage) (log : Log) → Follows recording s log → MayOpen (log ++ late_entries s.late) (next_link s)
may-open recording s log follows = record {
  fresh = new-link recording s log follows;
  above = all_below-append log (late_entries s.late) (length s.places.items) follows.sound.below (sound-late recording s log follows.sound).below;
}

pub salt-next : (recording : List RecordEntry) (s : Stage) (log : Log) (port : Port) (client : Waiting) → Follows recording s log → slice_get (clients_of port s) (accepted_of port s) ≡ Some client → IsSalt client.salt
salt-next recording s log Traffic client follows is = salt-at s.traffic.items s.traffic_accepted client follows.sound.traffic is
salt-next recording s log Admin client follows is = salt-at s.admin.items s.admin_accepted client follows.sound.admin is

-- the lines of the next moment are released
abbrev pub wake-marks : Stage → List RecordEntry → Log
wake-marks s lines = late_entries s.late ++ filter_map (mark_at s.opened.items) lines

pub wake-good : (recording : List RecordEntry) (s : Stage) (lines : List RecordEntry) (log : Log) → Follows recording s log → AreGood (length s.places.items) (wake-marks s lines)
wake-good recording s lines log follows = good-append (length s.places.items) (late_entries s.late) (filter_map (mark_at s.opened.items) lines) (sound-late recording s log follows.sound) (marks-good (length s.places.items) s.opened.items lines follows.sound.opened)

pub wake-later : (recording : List RecordEntry) (s : Stage) (lines : List RecordEntry) (ms count until_ms : ℕ) (rest : List RecordEntry) (log : Log) → Follows recording s log → rest ≡ drop s.cut recording → first_moment rest ≡ Some ms → 0 < count → NoMoment (drop 1 (take count rest)) → Fits (log ++ wake-marks s lines) (entry.Woke until_ms ms)
wake-later recording s lines ms count until_ms rest log follows is first some none =
    let good = wake-good recording s lines log follows in
    let same : moment_of (log ++ wake-marks s lines) ≡ moment_of log = moment-marks log (wake-marks s lines) good.are in
    let can = begins (moment_of log) follows.sound.rest.clients ms count rest (subst (PlayableAfter (moment_of log) follows.sound.rest.clients) (sym is) follows.sound.rest.playable) first some none in
    subst (λ (m : ℕ). m ≤ ms) (sym same) can.later

pub sound-wakes : (recording : List RecordEntry) (old new : Stage) (ms count until_ms : ℕ) (rest : List RecordEntry) (log : Log) → Follows recording old log → rest ≡ drop old.cut recording → first_moment rest ≡ Some ms → 0 < count → count ≤ length rest → NoMoment (drop 1 (take count rest)) → EndsAtMoment (drop count rest) → Wakes (take count rest) (old.cut + length (take count rest)) old new → IsSound recording new ((log ++ wake-marks old (take count rest)) ++ entry.Woke until_ms ms ∷ [])
sound-wakes recording old new ms count until_ms rest log follows is first some most none ends wakes =
    let lines = take count rest in
    let n = length old.places.items in
    let good = wake-good recording old lines log follows in
    let clients = follows.sound.rest.clients in
    let playable : PlayableAfter (moment_of log) clients rest = subst (PlayableAfter (moment_of log) clients) (sym is) follows.sound.rest.playable in
    let can = begins (moment_of log) clients ms count rest playable first some none in
    let size : length lines ≡ count = length-take-le count rest most in
    let cut : new.cut ≡ old.cut + count = ap (λ s. s.cut) wakes.frame ∙ ap (λ (k : ℕ). old.cut + k) size in
    let left : drop count rest ≡ drop new.cut recording = ap (drop count) is ∙ drop-drop count old.cut recording ∙ ap (λ (k : ℕ). drop k recording) (sym cut) in
    let same : length new.places.items ≡ n = ap (λ s. length s.places.items) wakes.frame in
    let all : all_below n ((log ++ wake-marks old lines) ++ entry.Woke until_ms ms ∷ []) ≡ true = all_below-append (log ++ wake-marks old lines) (entry.Woke until_ms ms ∷ []) n (all_below-append log (wake-marks old lines) n follows.sound.below good.below) refl in
    record {
      below = subst (λ (k : ℕ). all_below k ((log ++ wake-marks old lines) ++ entry.Woke until_ms ms ∷ []) ≡ true) (sym same) all;
      late = no-late (length new.places.items) new.late.marks new.late.link wakes.late;
      opened = subst (λ (k : ℕ). links_below k new.opened.items ≡ true) (sym same) (ap (λ s. links_below n s.opened.items) wakes.frame ∙ follows.sound.opened);
      linked = λ at link is. ap (λ s. slice_get s.places.items link.0) wakes.frame ∙ follows.sound.linked at link (sym (released-links old.cut lines old.tracks.items new.tracks.items wakes.tracks at) ∙ is);
      rest = subst (λ (m : ℕ). Continues m (drop new.cut recording)) (sym (moment_of-more (log ++ wake-marks old lines) (entry.Woke until_ms ms))) (subst (Continues ms) left can.after);
      traffic = subst HaveSalts (sym wakes.traffic) (salts-append old.traffic.items (clients_at Traffic lines) follows.sound.traffic (salts-of Traffic (moment_of log) clients count rest playable));
      admin = subst HaveSalts (sym wakes.admin) (salts-append old.admin.items (clients_at Admin lines) follows.sound.admin (salts-of Admin (moment_of log) clients count rest playable));
    }

pub wake-calls : (told one two new : Option Log) (s : Stage) (lines : List RecordEntry) (opened : List LinkId) (e : Entry) → opened ≡ s.opened.items → Adds told (late_entries s.late) one → Adds one (filter_map (mark_at opened) lines) two → Adds two (e ∷ []) new → IsBounded new → Calls told (wake-marks s lines) e new
wake-calls told one two new s lines opened e same first next last bounded = calls_in_parts told one two new (late_entries s.late) (filter_map (mark_at s.opened.items) lines) e first (subst (λ (links : List LinkId). Adds one (filter_map (mark_at links) lines) two) same next) last bounded

pub marks_are : (s : Stage) (lines : List RecordEntry) → AreMarks (wake-marks s lines)
marks_are s lines = marks-append (late_entries s.late) (filter_map (mark_at s.opened.items) lines) (late_are s.late) (marks-of s.opened.items lines)

none_some : (link : LinkId) → None ≡ Some link → ⊥
none_some link is = cc
