-- What keeps the log of a tape sound.
use Rattle.std.proofs.Common.{◌≡◌, ℕ, ◌+◌, true, nat_lt, List, [], ◌∷◌, ◌++◌, length, drop, Some, suc, refl, sym, ◌∙◌, ap, subst, arith, length-append, zero, inl, inr, ◌==◌, if◌then◌else◌}
use Rattle.std.specs.Prelude.{slice_get}
use Rattle.std.proofs.lemmas.Bool.{eqb-true}
use Rattle.mx_base.specs.declared.names.LinkId.{LinkId}
use Rattle.mx_wire.specs.Log.{Log, AreMarks, link_of, moment_of, moment_step}
use Rattle.mx_wire.specs.Growth.{moment_of-more, bool_cases}
use Rattle.mx_wire.specs.Tells.{IsNew, IsOpen}
use Rattle.mx_wire.specs.declared.entry.Entry.{Entry}
use Rattle.recording.specs.declared.entry.RecordEntry.{RecordEntry}
use Rattle.mem_wire.specs.declared.stage.Stage.{Stage}
use Rattle.mem_wire.specs.declared.marks.Mark.{Mark}
use Rattle.mem_wire.specs.Marks.{entries_of}
use Rattle.mem_wire.specs.Adds.{late_entries}
use Rattle.mx_wire.specs.Tells.{link_below, all_below}
use Rattle.mem_wire.specs.Below.{links_below}
use Rattle.mem_wire.specs.Tracks.{track_at, SameLinks, ChangesTrack}
use Rattle.mem_wire.specs.Steps.{numbered, next_link}
use Rattle.mem_wire.specs.Follows.{Continues, HaveSalts, IsSound}
use Rattle.mem_wire.proofs.Links.{AreGood, all_below-append, all_below-more, below-fresh, open-below, is_below, late-good}
use Rattle.mem_wire.proofs.Quiet.{moment-marks, is_open-marks}

-- what a call that brings no link and no moment leaves of a stage
pub record KeepsCourse (old new : Stage) : Type 0 where
  pub cut : new.cut ≡ old.cut
  pub places : new.places ≡ old.places
  pub opened : new.opened ≡ old.opened
  pub traffic : new.traffic ≡ old.traffic
  pub admin : new.admin ≡ old.admin
  pub late : new.late.marks ≡ []
  pub links : SameLinks old.tracks.items new.tracks.items

pub no-late : (n : ℕ) (marks : List Mark) (link : LinkId) → marks ≡ [] → all_below n (entries_of link marks) ≡ true
no-late n marks link none = rw none refl

pub sound-call : (recording : List RecordEntry) (old new : Stage) (log marks : Log) (e : Entry) → IsSound recording old log → KeepsCourse old new → AreGood (length old.places.items) marks → link_below (length old.places.items) (link_of e) ≡ true → ((m : ℕ) → moment_step m e ≡ m) → IsSound recording new ((log ++ marks) ++ e ∷ [])
sound-call recording old new log marks e sound keeps good low idle =
    let n = length old.places.items in
    let same : length new.places.items ≡ n = ap (λ v. length v.items) keeps.places in
    let front : all_below n (log ++ marks) ≡ true = all_below-append log marks n sound.below good.below in
    let all : all_below n ((log ++ marks) ++ e ∷ []) ≡ true = all_below-append (log ++ marks) (e ∷ []) n front (rw low refl) in
    let moment : moment_of log ≡ moment_of ((log ++ marks) ++ e ∷ []) = sym (moment_of-more (log ++ marks) e ∙ idle (moment_of (log ++ marks)) ∙ moment-marks log marks good.are) in
    record {
      below = subst (λ (k : ℕ). all_below k ((log ++ marks) ++ e ∷ []) ≡ true) (sym same) all;
      late = no-late (length new.places.items) new.late.marks new.late.link keeps.late;
      opened = subst (λ (k : ℕ). links_below k new.opened.items ≡ true) (sym same) (ap (λ v. links_below n v.items) keeps.opened ∙ sound.opened);
      linked = λ at link is. ap (λ v. slice_get v.items link.0) keeps.places ∙ sound.linked at link (sym (keeps.links at) ∙ is);
      rest = subst (λ (k : ℕ). Continues (moment_of ((log ++ marks) ++ e ∷ [])) (drop k recording)) (sym keeps.cut) (subst (λ (m : ℕ). Continues m (drop old.cut recording)) moment sound.rest);
      traffic = subst (λ v. HaveSalts v.items) (sym keeps.traffic) sound.traffic;
      admin = subst (λ v. HaveSalts v.items) (sym keeps.admin) sound.admin;
    }

pub sound-new : (recording : List RecordEntry) (s : Stage) (log marks : Log) → IsSound recording s log → AreGood (length s.places.items) marks → IsNew (numbered (length s.places.items)) (log ++ marks)
sound-new recording s log marks sound good = below-fresh (numbered (length s.places.items)) (log ++ marks) (all_below-append log marks (length s.places.items) sound.below good.below)

pub sound-late : (recording : List RecordEntry) (s : Stage) (log : Log) → IsSound recording s log → AreGood (length s.places.items) (late_entries s.late)
sound-late recording s log sound = late-good (length s.places.items) s.late.marks s.late.link sound.late

pub open-still : (link : LinkId) (log marks : Log) → AreMarks marks → IsOpen link log → IsOpen link (log ++ marks)
open-still link log marks are opened = is_open-marks link log marks are ∙ opened

pub open-low : (recording : List RecordEntry) (s : Stage) (log : Log) (link : LinkId) → IsSound recording s log → IsOpen link log → nat_lt link.0 (length s.places.items) ≡ true
open-low recording s log link sound opened = is_below link.0 (length s.places.items) (open-below link log (length s.places.items) sound.below opened)

pub get-last : {X : Type 0} (xs : List X) (x : X) → slice_get (xs ++ x ∷ []) (length xs) ≡ Some x
get-last [] x = refl
get-last (y ∷ xs) x = get-last xs x

pub get-front : {X : Type 0} (xs ys : List X) (i : ℕ) (x : X) → slice_get xs i ≡ Some x → slice_get (xs ++ ys) i ≡ Some x
get-front [] ys i x is = cc
get-front (y ∷ xs) ys zero x is = is
get-front (y ∷ xs) ys (suc i) x is = get-front xs ys i x is

enter-linked : (old new : Stage) (at : ℕ) → ((place : ℕ) (link : LinkId) → (track_at old.tracks.items place).link ≡ Some link → slice_get old.places.items link.0 ≡ Some place) → ChangesTrack at (λ t. record t { link = Some (next_link old) }) old.tracks.items new.tracks.items → (place : ℕ) (link : LinkId) → (track_at new.tracks.items place).link ≡ Some link → slice_get (old.places.items ++ at ∷ []) link.0 ≡ Some place
enter-linked old new at linked changes place link is = elim (bool_cases (place == at)) [
  | inl here ↦
      let made : (track_at new.tracks.items place).link ≡ Some (next_link old) = ap (λ t. t.link) (changes place ∙ ap (λ b. if b then record (track_at old.tracks.items place) { link = Some (next_link old) } else track_at old.tracks.items place) here) in
      let same : next_link old ≡ link = cc in
      let spot : place ≡ at = eqb-true place at here in
      subst (λ (l : LinkId). slice_get (old.places.items ++ at ∷ []) l.0 ≡ Some place) same (subst (λ (p : ℕ). slice_get (old.places.items ++ at ∷ []) (length old.places.items) ≡ Some p) (sym spot) (get-last old.places.items at))
  | inr other ↦
      let kept : (track_at new.tracks.items place).link ≡ (track_at old.tracks.items place).link = ap (λ t. t.link) (changes place ∙ ap (λ b. if b then record (track_at old.tracks.items place) { link = Some (next_link old) } else track_at old.tracks.items place) other) in
      get-front old.places.items (at ∷ []) link.0 place (linked place link (sym kept ∙ is))
]

-- one more link, which the entry names
pub sound-enter : (recording : List RecordEntry) (old new : Stage) (at : ℕ) (log marks : Log) (e : Entry) → IsSound recording old log → new.cut ≡ old.cut → new.traffic ≡ old.traffic → new.admin ≡ old.admin → new.places.items ≡ old.places.items ++ at ∷ [] → ChangesTrack at (λ t. record t { link = Some (next_link old) }) old.tracks.items new.tracks.items → links_below (length old.places.items + 1) new.opened.items ≡ true → all_below (length old.places.items + 1) (late_entries new.late) ≡ true → AreGood (length old.places.items) marks → link_of e ≡ Some (numbered (length old.places.items)) → ((m : ℕ) → moment_step m e ≡ m) → IsSound recording new ((log ++ marks) ++ e ∷ [])
sound-enter recording old new at log marks e sound cut traffic admin places tracks opened late good names idle =
    let n = length old.places.items in
    let size : length new.places.items ≡ n + 1 = ap length places ∙ length-append old.places.items (at ∷ []) in
    let front : all_below (n + 1) (log ++ marks) ≡ true = all_below-more (log ++ marks) n (n + 1) (omega arith) (all_below-append log marks n sound.below good.below) in
    let low : link_below (n + 1) (link_of e) ≡ true = rw names (is_below n (n + 1) (omega arith)) in
    let all : all_below (n + 1) ((log ++ marks) ++ e ∷ []) ≡ true = all_below-append (log ++ marks) (e ∷ []) (n + 1) front (rw low refl) in
    let moment : moment_of log ≡ moment_of ((log ++ marks) ++ e ∷ []) = sym (moment_of-more (log ++ marks) e ∙ idle (moment_of (log ++ marks)) ∙ moment-marks log marks good.are) in
    record {
      below = subst (λ (k : ℕ). all_below k ((log ++ marks) ++ e ∷ []) ≡ true) (sym size) all;
      late = subst (λ (k : ℕ). all_below k (late_entries new.late) ≡ true) (sym size) late;
      opened = subst (λ (k : ℕ). links_below k new.opened.items ≡ true) (sym size) opened;
      linked = λ other link is. ap (λ (ps : List ℕ). slice_get ps link.0) places ∙ enter-linked old new at sound.linked tracks other link is;
      rest = subst (λ (k : ℕ). Continues (moment_of ((log ++ marks) ++ e ∷ [])) (drop k recording)) (sym cut) (subst (λ (m : ℕ). Continues m (drop old.cut recording)) moment sound.rest);
      traffic = subst (λ v. HaveSalts v.items) (sym traffic) sound.traffic;
      admin = subst (λ v. HaveSalts v.items) (sym admin) sound.admin;
    }
