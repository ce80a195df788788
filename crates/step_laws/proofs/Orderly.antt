-- Links that are named in the order of their places are those that pass a test among all.
use Rattle.std.specs.Prelude.{◌≡◌, ◌<◌, ℕ, Bool, true, false, ◌&&◌, ◌||◌, All, cond, filter, List, [], ◌∷◌}
use Rattle.std.proofs.Common.{refl, sym, ap, ◌∙◌, subst, inl, inr, arith}
use Rattle.std.proofs.lemmas.Bool.{and_from, cases_Bool, false_from_ne_true, or_cases, or_left}
use Rattle.std.proofs.lemmas.List.Elements.{All-filter, All-head, All-tail}
use Rattle.private_model.proofs.Maps.{link_of, same_link}
use Rattle.private_model.specs.Names.{LinkId}
use Rattle.private_model.specs.Story.{is_link_id}
use Rattle.private_model.specs.View.{Setup}
use Rattle.log_story.specs.Plan.{Plan}
use Rattle.log_story.specs.Servers.{links_are_freed}
use Rattle.log_story.specs.Tale.{Tale}
use Rattle.step_laws.specs.Freed.{AreAll, Ascend, freed_in, is_among}
use Rattle.step_laws.proofs.Giving.{among, isnt}

module _ (place : LinkId → ℕ) where
  abbrev Above : LinkId → List LinkId → Type 0
  Above x xs = All (λ (y : LinkId). place x < place y) xs

  above_by : (x l y : LinkId) (ys : List LinkId) → Above x (y ∷ ys) → (is_link_id l y ≡ true → place x < place l)
      → (is_among ys l ≡ true → place x < place l) → is_among (y ∷ ys) l ≡ true → place x < place l
  above_by x l y ys above here later there = elim (or_cases (is_link_id l y) (is_among ys l) there) [ inl is ↦ here is | inr is ↦ later is ]

  above_among : (x l : LinkId) (ys : List LinkId) → Above x ys → is_among ys l ≡ true → place x < place l
  above_among x l [] above there = isnt there
  above_among x l (y ∷ ys) above there =
      above_by x l y ys above
      (λ is. subst (λ (k : LinkId). place x < place k) (sym (link_of l y is)) (All-head (λ (k : LinkId). place x < place k) y ys above))
      (above_among x l ys (All-tail (λ (k : LinkId). place x < place k) y ys above)) there

  -- it isn't among those above it
  not_above : (x : LinkId) (xs : List LinkId) → Above x xs → is_among xs x ≡ false
  not_above x xs above = false_from_ne_true (is_among xs x) (λ there. let less : place x < place x = above_among x x xs above there in omega (arith, less))

  abbrev Same : List LinkId → List LinkId → Type 0
  Same xs ys = (l : LinkId) → is_among xs l ≡ is_among ys l

  first_among : (x : LinkId) (xs : List LinkId) → is_among (x ∷ xs) x ≡ true
  first_among x xs = or_left (is_link_id x x) (is_among xs x) (same_link x)

  same_first : (x y : LinkId) (xs ys : List LinkId) → Above x xs → Above y ys → Same (x ∷ xs) (y ∷ ys) → x ≡ y
  same_first x y xs ys one other same =
      elim (or_cases (is_link_id x y) (is_among ys x) (sym (same x) ∙ first_among x xs)) [
        | inl is ↦ link_of x y is
        | inr there ↦ elim (or_cases (is_link_id y x) (is_among xs y) (same y ∙ first_among y ys)) [
          | inl is ↦ sym (link_of y x is)
          | inr back ↦ absurd (let less : place y < place x = above_among y x ys other there in
              let more : place x < place y = above_among x y xs one back in omega (arith, less, more))
        ]
      ]

  same_rest : (x : LinkId) (xs ys : List LinkId) → Above x xs → Above x ys → Same (x ∷ xs) (x ∷ ys) → Same xs ys
  same_rest x xs ys one other same l = elim (cases_Bool (is_link_id l x)) [
    | inl is ↦ ap (is_among xs) (link_of l x is) ∙ not_above x xs one ∙ sym (ap (is_among ys) (link_of l x is) ∙ not_above x ys other)
    | inr isnot ↦ sym (ap (λ b. b || is_among xs l) isnot) ∙ same l ∙ ap (λ b. b || is_among ys l) isnot
  ]

  same_lists : (xs ys : List LinkId) → Ascend place xs → Ascend place ys → Same xs ys → xs ≡ ys
  same_lists [] [] one other same = refl
  same_lists [] (y ∷ ys) one other same = isnt (same y ∙ first_among y ys)
  same_lists (x ∷ xs) [] one other same = isnt (sym (same x) ∙ first_among x xs)
  same_lists (x ∷ xs) (y ∷ ys) one other same =
      let first : x ≡ y = same_first x y xs ys one.0 other.0 same in
      let back : Above x ys = subst (λ (k : LinkId). Above k ys) (sym first) other.0 in
      let alike : Same (x ∷ xs) (x ∷ ys) = subst (λ (k : LinkId). Same (x ∷ xs) (k ∷ ys)) (sym first) same in
      let rest : xs ≡ ys = same_lists xs ys one.1 other.1 (same_rest x xs ys one.0 back alike) in
      λ i. first i ∷ rest i

  -- those that pass a test

  filter_by : (test : LinkId → Bool) (x : LinkId) (xs : List LinkId) (b : Bool) → Above x (filter test xs) → Ascend place (filter test xs)
      → Ascend place (cond b (x ∷ filter test xs) (filter test xs))
  filter_by test x xs true above are = (above, are)
  filter_by test x xs false above are = are

  filter_ascends : (test : LinkId → Bool) (xs : List LinkId) → Ascend place xs → Ascend place (filter test xs)
  filter_ascends test [] are = tt
  filter_ascends test (x ∷ xs) are =
      filter_by test x xs (test x) (All-filter test (λ (y : LinkId). place x < place y) xs are.0) (filter_ascends test xs are.1)

among_by : (test : LinkId → Bool) (x l : LinkId) (xs : List LinkId) (b c : Bool) → test x ≡ b → is_link_id l x ≡ c
    → is_among (filter test xs) l ≡ (is_among xs l && test l)
    → is_among (cond b (x ∷ filter test xs) (filter test xs)) l ≡ ((c || is_among xs l) && test l)
among_by test x l xs true true is here rest =
    ap (λ b. b || is_among (filter test xs) l) here ∙ sym (ap test (link_of l x here) ∙ is)
among_by test x l xs true false is other rest = ap (λ b. b || is_among (filter test xs) l) other ∙ rest
among_by test x l xs false true is here rest =
    let none : test l ≡ false = ap test (link_of l x here) ∙ is in
    rest ∙ ap (λ b. is_among xs l && b) none ∙ false_and (is_among xs l) ∙ sym none
  where
    false_and : (a : Bool) → (a && false) ≡ false
    false_and true = refl
    false_and false = refl
among_by test x l xs false false is other rest = rest

filter_among : (test : LinkId → Bool) (xs : List LinkId) (l : LinkId) → is_among (filter test xs) l ≡ (is_among xs l && test l)
filter_among test [] l = refl
filter_among test (x ∷ xs) l = among_by test x l xs (test x) (is_link_id l x) refl refl (filter_among test xs l)

named_among : (named xs : List LinkId) → ((l : LinkId) → is_among named l ≡ true → is_among xs l ≡ true) → (l : LinkId)
    → (is_among xs l && is_among named l) ≡ is_among named l
named_among named xs theirs l = elim (cases_Bool (is_among named l)) [
  | inl is ↦ and_from (is_among xs l) (is_among named l) (theirs l is) is ∙ sym is
  | inr none ↦ ap (λ b. is_among xs l && b) none ∙ false_and (is_among xs l) ∙ sym none
]
  where
    false_and : (a : Bool) → (a && false) ≡ false
    false_and true = refl
    false_and false = refl

pub freed_in_order : (setup : Setup) (plan : Plan) (place : LinkId → ℕ) (named : List LinkId) (tale : Tale) → AreAll setup plan named tale
    → Ascend place tale.links → Ascend place named → links_are_freed setup plan tale ≡ freed_in setup plan named tale
freed_in_order setup plan place named tale are all some =
    let test : LinkId → Bool = is_among named in
    let same : filter test tale.links ≡ named =
    same_lists place (filter test tale.links) named (filter_ascends place test tale.links all) some
    (λ l. filter_among test tale.links l ∙ named_among named tale.links are.theirs l) in
    among setup plan test tale.links tale are.all ∙ ap (λ xs. freed_in setup plan xs tale) same
