-- A number above all links of a log.
use Rattle.std.proofs.Common.{◌≡◌, ◌⊎◌, ℕ, zero, ◌≤◌, ◌<◌, ◌-◌, Bool, true, false, nat_lt, List, [], ◌∷◌, ◌++◌, Option, Some, None, suc, refl, sym, ◌∙◌, inl, inr, arith}
use Rattle.std.specs.Prelude.{◌&&◌, slice_get}
use Rattle.std.specs.List.{filter_map, cons_option}
use Rattle.std.proofs.lemmas.List.Folds.{list_all-append}
use Rattle.mx_base.specs.declared.names.LinkId.{LinkId}
use Rattle.mx_wire.specs.Log.{Log, link_of, is_link, of_link, is_open, IsMark, AreMarks}
use Rattle.mx_wire.specs.Tells.{IsOpen}
use Rattle.recording.specs.declared.entry.RecordEntry.{RecordEntry}
use Rattle.recording.specs.declared.entry.RecordEntry.TheVariants as line
use Rattle.mem_wire.specs.declared.marks.Mark.{Mark}
use Rattle.mem_wire.specs.declared.marks.Mark.TheVariants as mark
use Rattle.mem_wire.specs.Marks.{mark_entry, entries_of}
use Rattle.mem_wire.specs.Play.{mark_on, mark_at}
use Rattle.mem_wire.specs.declared.late.Late.{Late}
use Rattle.mem_wire.specs.Adds.{late_entries}
use Rattle.mx_wire.specs.Tells.{link_below, all_below}
use Rattle.mem_wire.specs.Below.{links_below}

pub and-left : (a b : Bool) → (a && b) ≡ true → a ≡ true
and-left true b h = refl
and-left false b h = h

pub and-right : (a b : Bool) → (a && b) ≡ true → b ≡ true
and-right true b h = h
and-right false b h = cc

and-both : (a b : Bool) → a ≡ true → b ≡ true → (a && b) ≡ true
and-both a b p q = rw (p, q) refl

not_below : (o : Option LinkId) (link : LinkId) → link_below link.0 o ≡ true → is_link link o ≡ false
not_below None link h = refl
not_below (Some other) link h = grind arith

pub below-fresh : (link : LinkId) (log : Log) → all_below link.0 log ≡ true → of_link link log ≡ []
below-fresh link [] all = refl
below-fresh link (e ∷ log) all =
    let other : is_link link (link_of e) ≡ false = not_below (link_of e) link (and-left (link_below link.0 (link_of e)) (all_below link.0 log) all) in
    rw other (below-fresh link log (and-right (link_below link.0 (link_of e)) (all_below link.0 log) all))

link_below-more : (o : Option LinkId) (n m : ℕ) → n ≤ m → link_below n o ≡ true → link_below m o ≡ true
link_below-more None n m le h = refl
link_below-more (Some link) n m le h = grind arith

pub all_below-more : (log : Log) (n m : ℕ) → n ≤ m → all_below n log ≡ true → all_below m log ≡ true
all_below-more [] n m le all = refl
all_below-more (e ∷ log) n m le all = and-both (link_below m (link_of e)) (all_below m log)
    (link_below-more (link_of e) n m le (and-left (link_below n (link_of e)) (all_below n log) all))
    (all_below-more log n m le (and-right (link_below n (link_of e)) (all_below n log) all))

pub all_below-append : (a b : Log) (n : ℕ) → all_below n a ≡ true → all_below n b ≡ true → all_below n (a ++ b) ≡ true
all_below-append a b n p q = list_all-append (λ x. link_below n (link_of x)) a b ∙ and-both (all_below n a) (all_below n b) p q

pub links_below-more : (links : List LinkId) (n m : ℕ) → n ≤ m → links_below n links ≡ true → links_below m links ≡ true
links_below-more [] n m le all = refl
links_below-more (l ∷ links) n m le all = and-both (nat_lt l.0 m) (links_below m links)
    (link_below-more (Some l) n m le (and-left (nat_lt l.0 n) (links_below n links) all))
    (links_below-more links n m le (and-right (nat_lt l.0 n) (links_below n links) all))

pub links_below-append : (a b : List LinkId) (n : ℕ) → links_below n a ≡ true → links_below n b ≡ true → links_below n (a ++ b) ≡ true
links_below-append a b n p q = list_all-append (λ x. nat_lt x.0 n) a b ∙ and-both (links_below n a) (links_below n b) p q

pub is_below : (a n : ℕ) → a < n → nat_lt a n ≡ true
is_below a n h = grind arith

-- an open link is below
pub low_or_high : (a n : ℕ) → (a < n) ⊎ (n ≤ a)
low_or_high a n = search arith

true_false : true ≡ false → ⊥
true_false h = cc

pub open-below : (link : LinkId) (log : Log) (n : ℕ) → all_below n log ≡ true → IsOpen link log → link.0 < n
open-below link log n all opened = elim (low_or_high link.0 n) [
  | inl low ↦ low
  | inr high ↦
      let none : of_link link log ≡ [] = below-fresh link log (all_below-more log n link.0 high all) in
      let shut : is_open link log ≡ false = rw none refl in
      absurd (true_false (sym opened ∙ shut))
]

-- marks name links that were opened

mark-below : (n : ℕ) (link : LinkId) (m : Mark) → link_below n (link_of (mark_entry link m)) ≡ nat_lt link.0 n
mark-below n link mark.Exec = refl
mark-below n link mark.Drop = refl

pub mark-is : (link : LinkId) (m : Mark) → IsMark (mark_entry link m)
mark-is link mark.Exec = tt
mark-is link mark.Drop = tt

pub late-below : (marks : List Mark) (n : ℕ) (link : LinkId) → link.0 < n → all_below n (entries_of link marks) ≡ true
late-below [] n link low = refl
late-below (m ∷ marks) n link low = and-both (link_below n (link_of (mark_entry link m))) (all_below n (entries_of link marks)) (mark-below n link m ∙ is_below link.0 n low) (late-below marks n link low)

late-marks : (marks : List Mark) (link : LinkId) → AreMarks (entries_of link marks)
late-marks [] link = tt
late-marks (m ∷ marks) link = (mark-is link m, late-marks marks link)

pub late_are : (late : Late) → AreMarks (late_entries late)
late_are late = late-marks late.marks late.link

get-below : (links : List LinkId) (i n : ℕ) → links_below n links ≡ true → (link : LinkId) → slice_get links i ≡ Some link → nat_lt link.0 n ≡ true
get-below [] i n all link is = cc
get-below (l ∷ links) zero n all link is = let same : l ≡ link = cc in rw (← same) (and-left (nat_lt l.0 n) (links_below n links) all)
get-below (l ∷ links) (suc i) n all link is = get-below links i n (and-right (nat_lt l.0 n) (links_below n links) all) link is

pub record AreGood (n : ℕ) (marks : Log) : Type 0 where
  pub below : all_below n marks ≡ true
  pub are : AreMarks marks

pub marks-append : (a b : Log) → AreMarks a → AreMarks b → AreMarks (a ++ b)
marks-append [] b p q = q
marks-append (e ∷ a) b p q = (p.0, marks-append a b p.1 q)

pub good-append : (n : ℕ) (a b : Log) → AreGood n a → AreGood n b → AreGood n (a ++ b)
good-append n a b p q = record { below = all_below-append a b n p.below q.below; are = marks-append a b p.are q.are }

one-good : (n : ℕ) (links : List LinkId) (k : ℕ) (m : Mark) (found : Option LinkId) (later : Log) → slice_get links (k - 1) ≡ found → links_below n links ≡ true → AreGood n later → AreGood n (cons_option (mark_on found m) later)
one-good n links k m None later is all good = good
one-good n links k m (Some link) later is all good = record {
  below = and-both (link_below n (link_of (mark_entry link m))) (all_below n later) (mark-below n link m ∙ get-below links (k - 1) n all link is) good.below;
  are = (mark-is link m, good.are);
}

pub marks-good : (n : ℕ) (links : List LinkId) (lines : List RecordEntry) → links_below n links ≡ true → AreGood n (filter_map (mark_at links) lines)
marks-good n links [] all = record { below = refl; are = tt }
marks-good n links (line.Exec k ∷ lines) all = one-good n links k mark.Exec (slice_get links (k - 1)) (filter_map (mark_at links) lines) refl all (marks-good n links lines all)
marks-good n links (line.Drop k ∷ lines) all = one-good n links k mark.Drop (slice_get links (k - 1)) (filter_map (mark_at links) lines) refl all (marks-good n links lines all)
marks-good n links (_ ∷ lines) all = marks-good n links lines all

pub late-good : (n : ℕ) (marks : List Mark) (link : LinkId) → all_below n (entries_of link marks) ≡ true → AreGood n (entries_of link marks)
late-good n marks link below = record { below = below; are = late-marks marks link }

one-mark : (found : Option LinkId) (m : Mark) (later : Log) → AreMarks later → AreMarks (cons_option (mark_on found m) later)
one-mark None m later are = are
one-mark (Some link) m later are = (mark-is link m, are)

pub marks-of : (links : List LinkId) (lines : List RecordEntry) → AreMarks (filter_map (mark_at links) lines)
marks-of links [] = tt
marks-of links (line.Exec k ∷ lines) = one-mark (slice_get links (k - 1)) mark.Exec (filter_map (mark_at links) lines) (marks-of links lines)
marks-of links (line.Drop k ∷ lines) = one-mark (slice_get links (k - 1)) mark.Drop (filter_map (mark_at links) lines) (marks-of links lines)
marks-of links (_ ∷ lines) = marks-of links lines
