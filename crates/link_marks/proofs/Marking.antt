-- Marks at the numbers of links.
use Rattle.std.proofs.Common.{◌≡◌, ◌<◌, ◌≤◌, ◌⊎◌, ℕ, suc, Bool, true, false, List, [], ◌∷◌, length, refl, sym, ap, ◌∙◌, inl, inr, arith}
use Rattle.std.specs.Prelude.{◌&&◌, ◌||◌, is_some, nat_eq, not, slice_set, Option, Some, None}
use Rattle.std.specs.Option.{option_map, option_map_or}
use Rattle.std.proofs.lemmas.Bool.{cases_Bool, eqb-true, eq-eqb}
use Rattle.mx_base.specs.declared.names.LinkId.{LinkId}
use Rattle.link_marks.specs.Marks as marks
use Rattle.link_marks.specs.Marks.{Marked, is_known, is_link, is_marked}
use Rattle.number_table.specs.Numbers.{AreNumbered, Changes, Numbered, number_at, number_of}
use Rattle.number_table.specs.declared.held.Held.{Held}
use Rattle.slot_lists.specs.Orders.{has, last, placed, without}
use Rattle.slot_lists.proofs.Each.{length-filter}
use Rattle.slots_by_age.specs.Aged.{Aged, put, taken}
use Rattle.slots_by_age.proofs.Has.{has-placed_other, has-placed_same, has-without_other}

pub has_put : (moments : List ℕ) (slot : ℕ) (order : List ℕ) (n : ℕ) → has n (placed moments slot (without slot order)) ≡ (nat_eq slot n || has n order)
has_put moments slot order n = elim (cases_Bool (nat_eq slot n)) [
  | inl hit ↦ let one : slot ≡ n = eqb-true slot n hit in rw (hit, sym one) (has-placed_same moments slot (without slot order))
  | inr miss ↦ rw miss (has-placed_other moments slot n (without slot order) miss ∙ has-without_other slot n order miss)
]

pub last_none : (xs : List ℕ) → last xs ≡ None → xs ≡ []
last_none [] none = refl
last_none (x ∷ []) none = cc
last_none (x ∷ y ∷ xs) none = let rest : y ∷ xs ≡ [] = last_none (y ∷ xs) none in cc

pub last_has : (slot : ℕ) (xs : List ℕ) → last xs ≡ Some slot → has slot xs ≡ true
last_has slot [] is = cc
last_has slot (x ∷ []) is = let one : x ≡ slot = cc in rw (eq-eqb x slot one) refl
last_has slot (x ∷ y ∷ xs) is = elim (cases_Bool (nat_eq x slot)) [
  | inl hit ↦ rw hit refl
  | inr miss ↦ rw miss (last_has slot (y ∷ xs) is)
]

pub fewer_without : (slot : ℕ) (xs : List ℕ) → has slot xs ≡ true → length (without slot xs) < length xs
fewer_without slot [] here = cc
fewer_without slot (x ∷ xs) here = elim (cases_Bool (nat_eq x slot)) [
  | inl hit ↦ rw hit (let fewer : length (without slot xs) ≤ length xs = length-filter (λ (other : ℕ). not (nat_eq other slot)) xs in omega (arith, fewer))
  | inr miss ↦ rw miss (omega (arith, fewer_without slot xs (rw miss at here)))
]

module _ (names : Numbered ℕ) (laws : AreNumbered nat_eq names) where
  pub same_number : (a b : ℕ) → nat_eq a b ≡ true → number_at nat_eq names a ≡ number_at nat_eq names b
  same_number a b same = ap (option_map number_of) (laws.equal a b same)

  pub numbers_apart : (a b slot n : ℕ) → number_at nat_eq names a ≡ Some slot → number_at nat_eq names b ≡ Some n → nat_eq slot n ≡ nat_eq a b
  numbers_apart a b slot n at there = elim (cases_Bool (nat_eq a b)) [
    | inl same ↦ let one : Some slot ≡ Some n = sym at ∙ same_number a b same ∙ there in let is : slot ≡ n = cc in rw same (eq-eqb slot n is)
    | inr off ↦ elim (cases_Bool (nat_eq slot n)) [
      | inl hit ↦
          let is : slot ≡ n = eqb-true slot n hit in
          let bad : nat_eq a b ≡ true = laws.apart a b n (at ∙ ap Some is) there in
          cc
      | inr miss ↦ rw off miss
    ]
  ]

  -- a mark more
  marks_by : (a slot : ℕ) → number_at nat_eq names a ≡ Some slot → (order after : List ℕ)
      → ((n : ℕ) → has n after ≡ (nat_eq slot n || has n order)) → (b : ℕ) (number : Option ℕ) → number_at nat_eq names b ≡ number
      → option_map_or (λ n. has n after) number false ≡ (nat_eq a b || option_map_or (λ n. has n order) number false)
  marks_by a slot at order after more b None is = elim (cases_Bool (nat_eq a b)) [
    | inl same ↦ let bad : Some slot ≡ None = sym at ∙ same_number a b same ∙ is in cc
    | inr off ↦ rw off refl
  ]
  marks_by a slot at order after more b (Some n) is = more n ∙ ap (λ (x : Bool). x || has n order) (numbers_apart a b slot n at is)

  pub marks_one : (a slot : ℕ) → number_at nat_eq names a ≡ Some slot → (order after : List ℕ)
      → ((n : ℕ) → has n after ≡ (nat_eq slot n || has n order)) → (b : ℕ)
      → option_map_or (λ n. has n after) (number_at nat_eq names b) false ≡ (nat_eq a b || option_map_or (λ n. has n order) (number_at nat_eq names b) false)
  marks_one a slot at order after more b = marks_by a slot at order after more b (number_at nat_eq names b) refl

  -- a mark less
  spares_by : (a slot : ℕ) → number_at nat_eq names a ≡ Some slot → (order : List ℕ) (b : ℕ) → nat_eq a b ≡ false → (number : Option ℕ)
      → number_at nat_eq names b ≡ number
      → option_map_or (λ n. has n (without slot order)) number false ≡ option_map_or (λ n. has n order) number false
  spares_by a slot at order b off None is = refl
  spares_by a slot at order b off (Some n) is = has-without_other slot n order (numbers_apart a b slot n at is ∙ off)

  pub spares_others : (a slot : ℕ) → number_at nat_eq names a ≡ Some slot → (order : List ℕ) (b : ℕ) → nat_eq a b ≡ false
      → option_map_or (λ n. has n (without slot order)) (number_at nat_eq names b) false
      ≡ option_map_or (λ n. has n order) (number_at nat_eq names b) false
  spares_others a slot at order b off = spares_by a slot at order b off (number_at nat_eq names b) refl

-- what has a number keeps it where another key changes
pub number_stays : (old new : Numbered ℕ) (a b : ℕ) (held : Option Held) → Changes nat_eq old new a held → nat_eq a b ≡ false
    → number_at nat_eq new b ≡ number_at nat_eq old b
number_stays old new a b held changes off = ap (option_map number_of) (changes.others b off)

-- One link is named, whose number this is.

names_by : (named : LinkId) (slot : ℕ) (order : List ℕ) (link : LinkId) (number : Option ℕ) → (number ≡ Some slot → named ≡ link)
    → option_map_or (λ n. has n (without slot order)) number false ≡ false
    → (option_map_or (λ n. has n order) number false ≡ false) ⊎ (link ≡ named)
names_by named slot order link None only none = inl refl
names_by named slot order link (Some n) only none = elim (cases_Bool (nat_eq slot n)) [
  | inl hit ↦ let one : slot ≡ n = eqb-true slot n hit in inr (sym (only (ap Some (sym one))))
  | inr miss ↦ inl (sym (has-without_other slot n order miss) ∙ none)
]

pub names_one : (names : Numbered ℕ) (named : LinkId) (slot : ℕ) (order : List ℕ) (link : LinkId)
    → (number_at nat_eq names link.0 ≡ Some slot → named ≡ link)
    → option_map_or (λ n. has n (without slot order)) (number_at nat_eq names link.0) false ≡ false
    → (option_map_or (λ n. has n order) (number_at nat_eq names link.0) false ≡ false) ⊎ (link ≡ named)
names_one names named slot order link only none = names_by named slot order link (number_at nat_eq names link.0) only none

marks_none : (order : List ℕ) → order ≡ [] → (number : Option ℕ) → option_map_or (λ n. has n order) number false ≡ false
marks_none order none None = refl
marks_none order none (Some n) = ap (has n) none

pub none_marked : (names : Numbered ℕ) (order : List ℕ) → last order ≡ None → (b : ℕ)
    → option_map_or (λ n. has n order) (number_at nat_eq names b) false ≡ false
none_marked names order none b = marks_none order (last_none order none) (number_at nat_eq names b)

-- What each change makes of the marks.

and_true : (b : Bool) → (b && true) ≡ b
and_true true = refl
and_true false = refl

or_same : (a b c : Bool) → (a ≡ false → b ≡ c) → (a || b) ≡ (a || c)
or_same true b c same = refl
or_same false b c same = same refl

put_order : (old : Aged) (slot : ℕ) (after : Aged) → after ≡ put old slot 0 0 → (n : ℕ) → has n after.order ≡ (nat_eq slot n || has n old.order)
put_order old slot after is n = ap (λ (a : Aged). has n a.order) is ∙ has_put (slice_set old.since slot 0) slot old.order n

-- a slot that is kept stays
pub has_again : (slot other : ℕ) (order : List ℕ) → has slot order ≡ true → has other order ≡ (nat_eq slot other || has other order)
has_again slot other order here = elim (cases_Bool (nat_eq slot other)) [
  | inl hit ↦ let one : slot ≡ other = eqb-true slot other hit in rw (hit, sym one) here
  | inr miss ↦ rw miss refl
]

-- and one that wasn't is
pub has_first : (old : Aged) (slot other : ℕ) → has other (put old slot 0 0).order ≡ (nat_eq slot other || has other old.order)
has_first old slot other = has_put (slice_set old.since slot 0) slot old.order other

pub mark_is : (old : Marked) → AreNumbered nat_eq old.names → (link other : LinkId) (slot : ℕ) (after : Aged) → number_at nat_eq old.names link.0 ≡ Some slot
    → ((n : ℕ) → has n after.order ≡ (nat_eq slot n || has n old.marked.order))
    → is_marked (record { names = old.names; marked = after }) other ≡ ((is_link link other && is_known old link) || is_marked old other)
mark_is old laws link other slot after at is =
    let known : is_known old link ≡ true = ap is_some at in
    let both : (is_link link other && is_known old link) ≡ is_link link other = ap (λ (k : Bool). is_link link other && k) known ∙ and_true (is_link link other) in
    marks_one old.names laws link.0 slot at old.marked.order after.order is other.0
    ∙ ap (λ (b : Bool). b || is_marked old other) (sym both)

pub come_is : (old : Marked) (new : Numbered ℕ) → AreNumbered nat_eq new → (link other : LinkId) (slot : ℕ) (held : Option Held) (after : Aged)
    → Changes nat_eq old.names new link.0 held → number_at nat_eq new link.0 ≡ Some slot → after ≡ put old.marked slot 0 0
    → is_marked (record { names = new; marked = after }) other ≡ (is_link link other || is_marked old other)
come_is old new laws link other slot held after changes at is =
    marks_one new laws link.0 slot at old.marked.order after.order (put_order old.marked slot after is) other.0
    ∙ or_same (is_link link other) _ _ (λ off. ap (λ (o : Option ℕ). option_map_or (λ n. has n old.marked.order) o false) (number_stays old.names new link.0 other.0 held changes off))

pub leave_is : (old : Marked) (new : Numbered ℕ) → AreNumbered nat_eq old.names → (link other : LinkId) (slot : ℕ) (held : Option Held) (after : Aged)
    → Changes nat_eq old.names new link.0 held → number_at nat_eq old.names link.0 ≡ Some slot → after ≡ taken old.marked slot → is_link link other ≡ false
    → is_marked (record { names = new; marked = after }) other ≡ is_marked old other
leave_is old new laws link other slot held after changes at is off =
    ap (λ (o : Option ℕ). option_map_or (λ n. has n after.order) o false) (number_stays old.names new link.0 other.0 held changes off)
    ∙ ap (λ (a : Aged). option_map_or (λ n. has n a.order) (number_at nat_eq old.names other.0) false) is
    ∙ spares_others old.names laws link.0 slot at old.marked.order other.0 off

pub named_is : (old : Marked) (named link : LinkId) (slot : ℕ) (after : Aged) → after ≡ taken old.marked slot → (marks.number_of old link ≡ Some slot → named ≡ link)
    → is_marked (record { names = old.names; marked = after }) link ≡ false → (is_marked old link ≡ false) ⊎ (link ≡ named)
named_is old named link slot after is only none =
    names_one old.names named slot old.marked.order link only
    (sym (ap (λ (a : Aged). option_map_or (λ n. has n a.order) (number_at nat_eq old.names link.0) false) is) ∙ none)

pub fewer_is : (old : Aged) (slot : ℕ) (after : Aged) → after ≡ taken old slot → last old.order ≡ Some slot → length after.order < length old.order
fewer_is old slot after is at = rw is (fewer_without slot old.order (last_has slot old.order at))
