-- The log stays sound, and what a call adds to it.
use Rattle.std.proofs.Common.{◌≡◌, ◌⊎◌, ℕ, ◌<◌, ◌≤◌, ◌+◌, Bool, true, false, nat_lt, [], ◌∷◌, ◌++◌, length, Option, Some, None, refl, sym, ◌∙◌, ap, subst, append_assoc, append-nil, arith, inl, inr, length-append}
use Rattle.std.specs.Prelude.{◌&&◌, IfSome}
use Rattle.std.proofs.lemmas.List.Folds.{list_all-append}
use Rattle.mx_base.specs.declared.names.LinkId.{LinkId}
use Rattle.mx_wire.specs.Growth.{moment_of-more}
use Rattle.mx_wire.specs.Log.{Log, AreMarks, IsMark, is_link, is_open, link_of, moment_of, moment_step, of_link}
use Rattle.mx_wire.specs.Tells.{Fits, IsOpen, MayOpen, OpenFor, Tells, all_below, link_below}
use Rattle.mx_wire.specs.declared.entry.Entry.{Entry}
use Rattle.mx_wire.specs.declared.entry.Entry.TheVariants as entry
use Rattle.mx_wire.specs.Adds.{Adds, AddsIf, AddsOne, adds-append}
use Rattle.scripted_wire.specs.Marks.{mark_of, option_log}
use Rattle.scripted_wire.specs.Sound.{AddsMarks, IsFollowed, IsSound}
use Rattle.scripted_wire.specs.declared.did.Did.{Did}
use Rattle.scripted_wire.specs.declared.did.Did.TheVariants as did

-- Links below a number.

and-left : (a b : Bool) → (a && b) ≡ true → a ≡ true
and-left true b h = refl
and-left false b h = h

and-right : (a b : Bool) → (a && b) ≡ true → b ≡ true
and-right true b h = h
and-right false b h = cc

and-both : (a b : Bool) → a ≡ true → b ≡ true → (a && b) ≡ true
and-both a b p q = rw (p, q) refl

not_below : (o : Option LinkId) (link : LinkId) → link_below link.0 o ≡ true → is_link link o ≡ false
not_below None link h = refl
not_below (Some other) link h = grind arith

below-fresh : (link : LinkId) (log : Log) → all_below link.0 log ≡ true → of_link link log ≡ []
below-fresh link [] all = refl
below-fresh link (e ∷ log) all =
    let other : is_link link (link_of e) ≡ false = not_below (link_of e) link (and-left (link_below link.0 (link_of e)) (all_below link.0 log) all) in
    rw other (below-fresh link log (and-right (link_below link.0 (link_of e)) (all_below link.0 log) all))

link_below-more : (o : Option LinkId) (n m : ℕ) → n ≤ m → link_below n o ≡ true → link_below m o ≡ true
link_below-more None n m le h = refl
link_below-more (Some link) n m le h = grind arith

all_below-more : (log : Log) (n m : ℕ) → n ≤ m → all_below n log ≡ true → all_below m log ≡ true
all_below-more [] n m le all = refl
all_below-more (e ∷ log) n m le all = and-both (link_below m (link_of e)) (all_below m log)
    (link_below-more (link_of e) n m le (and-left (link_below n (link_of e)) (all_below n log) all))
    (all_below-more log n m le (and-right (link_below n (link_of e)) (all_below n log) all))

all_below-append : (a b : Log) (n : ℕ) → all_below n a ≡ true → all_below n b ≡ true → all_below n (a ++ b) ≡ true
all_below-append a b n p q = list_all-append (λ x. link_below n (link_of x)) a b ∙ and-both (all_below n a) (all_below n b) p q

pub is_below : (a n : ℕ) → a < n → nat_lt a n ≡ true
is_below a n h = grind arith

low_or_high : (a n : ℕ) → (a < n) ⊎ (n ≤ a)
low_or_high a n = search arith

true_false : true ≡ false → ⊥
true_false h = cc

-- an open link is below
open-below : (link : LinkId) (log : Log) (n : ℕ) → all_below n log ≡ true → IsOpen link log → link.0 < n
open-below link log n all opened = elim (low_or_high link.0 n) [
  | inl low ↦ low
  | inr high ↦
      let none : of_link link log ≡ [] = below-fresh link log (all_below-more log n link.0 high all) in
      let shut : is_open link log ≡ false = rw none refl in
      absurd (true_false (sym opened ∙ shut))
]

-- Marks.

mark_is : (link : LinkId) (what : Did) → AreMarks (option_log (mark_of link what))
mark_is link did.Nothing = tt
mark_is link did.Answered = tt
mark_is link did.Ran = (tt, tt)
mark_is link did.Dropped = (tt, tt)

mark_below : (n : ℕ) (link : LinkId) (what : Did) → nat_lt link.0 n ≡ true → all_below n (option_log (mark_of link what)) ≡ true
mark_below n link did.Nothing low = refl
mark_below n link did.Answered low = refl
mark_below n link did.Ran low = and-both (nat_lt link.0 n) true low refl
mark_below n link did.Dropped low = and-both (nat_lt link.0 n) true low refl

marks-append : (a b : Log) → AreMarks a → AreMarks b → AreMarks (a ++ b)
marks-append [] b p q = q
marks-append (e ∷ a) b p q = (p.0, marks-append a b p.1 q)

abbrev pub no_marks : (links : ℕ) (told : Option Log) → AddsMarks links told told
no_marks links told = record { marks = []; are = tt; below = refl; adds = record { told = λ log is. (log, is, sym (append-nil log)) } }

pub one_mark : (links : ℕ) (old mid new : Option Log) (link : LinkId) (what : Did) (mark : Option Entry) → AddsMarks links old mid → mark ≡ mark_of link what → link.0 < links → Adds mid (option_log mark) new → AddsMarks links old new
one_mark links old mid new link what mark before is low adds = record {
  marks = before.marks ++ option_log (mark_of link what);
  are = marks-append before.marks (option_log (mark_of link what)) before.are (mark_is link what);
  below = all_below-append before.marks (option_log (mark_of link what)) links before.below (mark_below links link what (is_below link.0 links low));
  adds = adds-append old mid new before.marks (option_log (mark_of link what)) before.adds (subst (λ (m : Option Entry). Adds mid (option_log m) new) is adds);
}

moment-mark : (m : ℕ) (e : Entry) → IsMark e → moment_step m e ≡ m
moment-mark m (entry.Exec link) is = refl
moment-mark m (entry.Drop link) is = refl
moment-mark m _ is = absurd is

moment-marks : (log marks : Log) → AreMarks marks → moment_of (log ++ marks) ≡ moment_of log
moment-marks log [] are = ap moment_of (append-nil log)
moment-marks log (e ∷ marks) are =
    let front : (log ++ e ∷ []) ++ marks ≡ log ++ e ∷ marks = append_assoc log (e ∷ []) marks in
    ap moment_of (sym front) ∙ moment-marks (log ++ e ∷ []) marks are.1 ∙ moment_of-more log e ∙ moment-mark (moment_of log) e are.0

-- What a call leaves.

-- marks, and the call's entry behind them
pub record Calls (links : ℕ) (old : Option Log) (e : Entry) (new : Option Log) : Type 0 where
  pub mid : Option Log
  pub marks : AddsMarks links old mid
  pub one : AddsOne mid e new

abbrev pub calls : (links : ℕ) (old : Option Log) (e : Entry) (new : Option Log) → AddsOne old e new → Calls links old e new
calls links old e new one = record { mid = old; marks = no_marks links old; one = one }

pub tells : (links : ℕ) (old : Option Log) (e : Entry) (new : Option Log) (call : Calls links old e new) → ((log : Log) → old ≡ Some log → Fits (log ++ call.marks.marks) e) → Tells old e new
tells links old e new call fits = record {
  appended = λ log is.
      let last = call.one.adds.told log is in
      let first = call.marks.adds.told last.0 last.1 in
      let marks = call.marks.marks in
      let size : length (last.0 ++ e ∷ []) ≡ length log = ap length (sym last.2) in
      let parts : length (last.0 ++ e ∷ []) ≡ length last.0 + 1 = length-append last.0 (e ∷ []) in
      let most : length log < 281474976710656 = call.one.bounded.below log is in
      let front : length last.0 ≡ length (first.0 ++ marks) = ap length first.2 in (
        first.0,
        first.1,
        record {
          marks = marks;
          only_marks = call.marks.are;
          lawful = record { bounded = omega arith; fits = fits first.0 first.1 };
          is = last.2 ∙ ap (λ (l : Log). l ++ e ∷ []) first.2;
        },
      );
}

pub tells_one : (old : Option Log) (e : Entry) (new : Option Log) → AddsOne old e new → ((log : Log) → old ≡ Some log → Fits log e) → Tells old e new
tells_one old e new one fits = tells 0 old e new (calls 0 old e new one) (λ log is. subst (λ (l : Log). Fits l e) (sym (append-nil log)) (fits log is))

pub stopped_tells : (old : Option Log) (e : Entry) (new : Option Log) → new ≡ None → Tells old e new
stopped_tells old e new none = record { appended = λ log is. absurd (let h : None ≡ Some log = sym none ∙ is in cc) }

pub stopped_sound : (links moment : ℕ) (new : Option Log) → new ≡ None → IsSound links moment new
stopped_sound links moment new none = record { follows = λ log is. absurd (let h : None ≡ Some log = sym none ∙ is in cc) }

-- the log stays sound where links and the moment only grow
pub stays_sound : (links moment more later : ℕ) (old : Option Log) (e : Entry) (new : Option Log) → IsSound links moment old → Calls links old e new → links ≤ more → moment ≤ later
    → ((log : Log) → old ≡ Some log → link_below more (link_of e) ≡ true) → ((m : ℕ) → m ≤ moment → moment_step m e ≤ later) → IsSound more later new
stays_sound links moment more later old e new sound call up on below step = record {
  follows = λ log is.
      let last = call.one.adds.told log is in
      let first = call.marks.adds.told last.0 last.1 in
      let marks = call.marks.marks in
      let before = sound.follows first.0 first.1 in
      let whole : log ≡ (first.0 ++ marks) ++ e ∷ [] = last.2 ∙ ap (λ (l : Log). l ++ e ∷ []) first.2 in
      let front : all_below more (first.0 ++ marks) ≡ true = all_below-append first.0 marks more (all_below-more first.0 links more up before.below) (all_below-more marks links more up call.marks.below) in
      let here : link_below more (link_of e) ≡ true = below first.0 first.1 in
      subst (IsFollowed more later) (sym whole) (record {
        below = all_below-append (first.0 ++ marks) (e ∷ []) more front (and-both (link_below more (link_of e)) true here refl);
        moments =
            let stays : moment_of (first.0 ++ marks) ≤ moment = subst (λ (m : ℕ). m ≤ moment) (sym (moment-marks first.0 marks call.marks.are)) before.moments in
            subst (λ (m : ℕ). m ≤ later) (sym (moment_of-more (first.0 ++ marks) e)) (step (moment_of (first.0 ++ marks)) stays);
      });
}

-- Calls without marks.

pub sound_one : (links moment more later : ℕ) (old : Option Log) (e : Entry) (new : Option Log) → IsSound links moment old → AddsOne old e new → links ≤ more → later ≡ moment
    → ((log : Log) → old ≡ Some log → link_below more (link_of e) ≡ true) → ((m : ℕ) → moment_step m e ≡ m) → IsSound more later new
sound_one links moment more later old e new sound one up same below idle =
    stays_sound links moment more later old e new sound (calls links old e new one) up (omega arith) below (λ m le. let still : moment_step m e ≡ m = idle m in omega arith)

-- the entry that is told, where there was memory for it

pub tells_if : (old : Option Log) (told : Option Entry) (e : Entry) (new : Option Log) → AddsIf old told new → IfSome told (λ x. x ≡ e) → ((log : Log) → old ≡ Some log → Fits log e) → Tells old e new
tells_if old (Some x) e new adds is fits = tells_one old e new (subst (λ (y : Entry). AddsOne old y new) is adds) fits
tells_if old None e new adds is fits = stopped_tells old e new adds

pub sound_if : (links moment more later : ℕ) (old : Option Log) (told : Option Entry) (e : Entry) (new : Option Log) → IsSound links moment old → AddsIf old told new → IfSome told (λ x. x ≡ e) → links ≤ more → later ≡ moment
    → ((log : Log) → old ≡ Some log → link_below more (link_of e) ≡ true) → ((m : ℕ) → moment_step m e ≡ m) → IsSound more later new
sound_if links moment more later old (Some x) e new sound adds is up same below idle = sound_one links moment more later old e new sound (subst (λ (y : Entry). AddsOne old y new) is adds) up same below idle
sound_if links moment more later old None e new sound adds is up same below idle = stopped_sound more later new adds

-- Links that are open, and one that comes.

pub open_low : (links moment : ℕ) (told shown : Option Log) (link : LinkId) → told ≡ shown → OpenFor shown link → IsSound links moment told → (log : Log) → told ≡ Some log → nat_lt link.0 links ≡ true
open_low links moment told shown link same opened sound log is = is_below link.0 links (open-below link log links (sound.follows log is).below (opened.holds log (sym same ∙ is)))

pub is_new : (links moment : ℕ) (told : Option Log) (link : LinkId) → link.0 ≡ links → IsSound links moment told → (log : Log) → told ≡ Some log → of_link link log ≡ []
is_new links moment told link is sound log told_is = below-fresh link log (subst (λ (n : ℕ). all_below n log ≡ true) (sym is) (sound.follows log told_is).below)

pub may_open : (links moment : ℕ) (told : Option Log) (link : LinkId) → link.0 ≡ links → IsSound links moment told → (log : Log) → told ≡ Some log → MayOpen log link
may_open links moment told link is sound log told_is = record {
  fresh = is_new links moment told link is sound log told_is;
  above = subst (λ (n : ℕ). all_below n log ≡ true) (sym is) (sound.follows log told_is).below;
}

-- Waits.

pub later_than : (links moment : ℕ) (told : Option Log) (marks log : Log) → AreMarks marks → IsSound links moment told → told ≡ Some log → (now_ms : ℕ) → moment ≤ now_ms → moment_of (log ++ marks) ≤ now_ms
later_than links moment told marks log are sound is now_ms on =
    let before : moment_of log ≤ moment = (sound.follows log is).moments in
    let same : moment_of (log ++ marks) ≡ moment_of log = moment-marks log marks are in
    omega arith
