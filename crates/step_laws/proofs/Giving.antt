-- Links are given back one by one: each as if it were alone.
use Rattle.std.specs.Prelude.{◌≡◌, Bool, true, false, ◌&&◌, ◌||◌, cond, filter, not, if◌then◌else◌, List, [], ◌∷◌}
use Rattle.std.proofs.Common.{refl, sym, ap, ◌∙◌, inl, inr}
use Rattle.std.proofs.lemmas.Bool.{cases_Bool, or_left, or_right}
use Rattle.private_model.proofs.Maps.{link_of, same_link}
use Rattle.private_model.specs.Names.{LinkId}
use Rattle.private_model.specs.Story.{Freed, Story, is_link_id}
use Rattle.private_model.specs.View.{Carried, Joined, Lent, Nobody, Setup, freed}
use Rattle.log_story.proofs.Frames.{is_of, nobody, only_link}
use Rattle.log_story.proofs.Moving.{freed-moved}
use Rattle.log_story.proofs.Resting.{done-moved}
use Rattle.log_story.specs.Plan.{Plan}
use Rattle.log_story.specs.Servers.{freed_if_done, is_done, is_quiet, links_are_freed}
use Rattle.log_story.specs.Tale.{Tale, is_reset_step, link_in, tell, view_of}
use Rattle.step_laws.specs.Freed.{NoneDone, freed_in, is_among, is_done_at}

pub isnt : {A : Type 0} → false ≡ true → A
isnt is = absurd (cc)

of_nobody : (carried : Carried) → is_of nobody carried ≡ false
of_nobody Nobody = refl
of_nobody (Lent n) = refl
of_nobody (Joined n) = refl

none_done : (a b c : Bool) → (a && (b && (c && false))) ≡ false
none_done true true true = refl
none_done true true false = refl
none_done true false c = refl
none_done false b c = refl

-- one passes a test that another doesn't
pub apart_by : (test : LinkId → Bool) (l x : LinkId) → test x ≡ true → test l ≡ false → is_link_id l x ≡ false
apart_by test l x here none = elim (cases_Bool (is_link_id l x)) [
  | inl same ↦ isnt (sym none ∙ ap test (link_of l x same) ∙ here)
  | inr other ↦ other
]

module _ (setup : Setup) (plan : Plan) where
  abbrev Done : Tale → LinkId → Bool
  Done tale l = is_done_at setup plan tale l

  pub stays_undone : (tale : Tale) (x : LinkId) → Done tale x ≡ false → freed_if_done setup plan tale x ≡ tale
  stays_undone tale x none = ap (λ b. if b then tell (Freed x) tale else tale) none

  pub other_done : (tale : Tale) (x l : LinkId) → is_link_id l x ≡ false → Done (freed_if_done setup plan tale x) l ≡ Done tale l
  other_done tale x l other =
      done-moved setup plan (only_link x) nobody tale (freed_if_done setup plan tale x) (freed-moved setup plan tale x) l other
      (of_nobody (link_in setup tale l).carries)

  pub once_done : (tale : Tale) (x : LinkId) → Done (freed_if_done setup plan tale x) x ≡ false
  once_done tale x = by_test (Done tale x) refl where
    by_test : (b : Bool) → Done tale x ≡ b → Done (if b then tell (Freed x) tale else tale) x ≡ false
    by_test true is =
        ap (λ b. is_done plan tale.moment (view_of setup (tell (Freed x) tale)) (tale.wires x)
        (if b then freed (link_in setup tale x) else link_in setup tale x)) (same_link x)
        ∙ none_done (link_in setup tale x).usable (is_quiet (link_in setup tale x).stage) (not (is_reset_step (tale.wires x).step))
    by_test false is = is

  pub same_done : (tale : Tale) (x l : LinkId) → is_link_id l x ≡ true → Done (freed_if_done setup plan tale x) l ≡ false
  same_done tale x l here = ap (λ k. Done (freed_if_done setup plan tale x) k) (link_of l x here) ∙ once_done tale x

  -- which isn't done goes on so
  pub undone_on : (tale : Tale) (x l : LinkId) → Done tale l ≡ false → Done (freed_if_done setup plan tale x) l ≡ false
  undone_on tale x l none = elim (cases_Bool (is_link_id l x)) [
    | inl here ↦ same_done tale x l here
    | inr other ↦ other_done tale x l other ∙ none
  ]

  -- Those that aren't done may be passed over.

  abbrev UndoneIn : (touched : LinkId → Bool) → List LinkId → Tale → Type 0
  UndoneIn touched xs tale = (l : LinkId) → is_among xs l ≡ true → touched l ≡ false → Done tale l ≡ false

  among_test : (touched : LinkId → Bool) (x : LinkId) (xs : List LinkId) (tale : Tale) (b : Bool) → touched x ≡ b → UndoneIn touched (x ∷ xs) tale
      → ((t : Tale) → UndoneIn touched xs t → freed_in setup plan xs t ≡ freed_in setup plan (filter touched xs) t)
      → freed_in setup plan xs (freed_if_done setup plan tale x)
      ≡ freed_in setup plan (cond b (x ∷ filter touched xs) (filter touched xs)) tale
  among_test touched x xs tale true is none each =
      each (freed_if_done setup plan tale x)
      (λ l there un. undone_on tale x l (none l (or_right (is_link_id l x) (is_among xs l) there) un))
  among_test touched x xs tale false is none each =
      ap (freed_in setup plan xs) (stays_undone tale x (none x (or_left (is_link_id x x) (is_among xs x) (same_link x)) is))
      ∙ each tale (λ l there un. none l (or_right (is_link_id l x) (is_among xs l) there) un)

  pub among : (touched : LinkId → Bool) (xs : List LinkId) (tale : Tale) → UndoneIn touched xs tale
      → freed_in setup plan xs tale ≡ freed_in setup plan (filter touched xs) tale
  among touched [] tale none = refl
  among touched (x ∷ xs) tale none = among_test touched x xs tale (touched x) refl none (among touched xs)

  pub none_in : (xs : List LinkId) (tale : Tale) → ((l : LinkId) → is_among xs l ≡ true → Done tale l ≡ false) → freed_in setup plan xs tale ≡ tale
  none_in [] tale none = refl
  none_in (x ∷ xs) tale none =
      ap (freed_in setup plan xs) (stays_undone tale x (none x (or_left (is_link_id x x) (is_among xs x) (same_link x))))
      ∙ none_in xs tale (λ l there. none l (or_right (is_link_id l x) (is_among xs l) there))

  -- one alone, however often it stands there

  abbrev UndoneBut : LinkId → List LinkId → Tale → Type 0
  UndoneBut link xs tale = (l : LinkId) → is_among xs l ≡ true → is_link_id l link ≡ false → Done tale l ≡ false

  rest_undone : (link : LinkId) (xs : List LinkId) (tale : Tale) → UndoneBut link xs tale
      → (l : LinkId) → is_among xs l ≡ true → Done (freed_if_done setup plan tale link) l ≡ false
  rest_undone link xs tale none l there = elim (cases_Bool (is_link_id l link)) [
    | inl here ↦ same_done tale link l here
    | inr other ↦ other_done tale link l other ∙ none l there other
  ]

  one_test : (link x : LinkId) (xs : List LinkId) (tale : Tale) (b : Bool) → is_link_id link x ≡ b → (b || is_among xs link) ≡ true
      → UndoneBut link (x ∷ xs) tale
      → ((t : Tale) → is_among xs link ≡ true → UndoneBut link xs t → freed_in setup plan xs t ≡ freed_if_done setup plan t link)
      → freed_in setup plan xs (freed_if_done setup plan tale x) ≡ freed_if_done setup plan tale link
  one_test link x xs tale true is there none each =
      ap (λ k. freed_in setup plan xs (freed_if_done setup plan tale k)) (sym (link_of link x is))
      ∙ none_in xs (freed_if_done setup plan tale link)
      (rest_undone link xs tale (λ l among other. none l (or_right (is_link_id l x) (is_among xs l) among) other))
  one_test link x xs tale false is there none each =
      ap (freed_in setup plan xs) (stays_undone tale x
      (none x (or_left (is_link_id x x) (is_among xs x) (same_link x)) (apart_by (λ k. is_link_id link k) x link (same_link link) is)))
      ∙ each tale there (λ l among other. none l (or_right (is_link_id l x) (is_among xs l) among) other)

  pub one_in : (link : LinkId) (xs : List LinkId) (tale : Tale) → is_among xs link ≡ true → UndoneBut link xs tale
      → freed_in setup plan xs tale ≡ freed_if_done setup plan tale link
  one_in link [] tale there none = isnt there
  one_in link (x ∷ xs) tale there none = one_test link x xs tale (is_link_id link x) refl there none (one_in link xs)

  -- Once they were given back, none of them is done.

  pub undone_in : (xs : List LinkId) (tale : Tale) (l : LinkId) → Done tale l ≡ false → Done (freed_in setup plan xs tale) l ≡ false
  undone_in [] tale l none = none
  undone_in (x ∷ xs) tale l none = undone_in xs (freed_if_done setup plan tale x) l (undone_on tale x l none)

  pub all_done : (xs : List LinkId) (tale : Tale) (l : LinkId) → is_among xs l ≡ true → Done (freed_in setup plan xs tale) l ≡ false
  all_done [] tale l there = isnt there
  all_done (x ∷ xs) tale l there = by_test (is_link_id l x) refl there (all_done xs (freed_if_done setup plan tale x) l) where
    by_test : (b : Bool) → is_link_id l x ≡ b → (b || is_among xs l) ≡ true
        → (is_among xs l ≡ true → Done (freed_in setup plan xs (freed_if_done setup plan tale x)) l ≡ false)
        → Done (freed_in setup plan xs (freed_if_done setup plan tale x)) l ≡ false
    by_test true here among later = undone_in xs (freed_if_done setup plan tale x) l (same_done tale x l here)
    by_test false other among later = later among

  -- What giving back leaves of a tale: what doesn't look at its story.

  module _ {A : Type 0} (of : Tale → A) (tells : (story : Story) (t : Tale) → of (record t { story = story }) ≡ of t) where
    kept_by : (b : Bool) (x : LinkId) (tale : Tale) → of (if b then tell (Freed x) tale else tale) ≡ of tale
    kept_by true x tale = tells (Freed x ∷ tale.story) tale
    kept_by false x tale = refl

    pub kept_in : (xs : List LinkId) (tale : Tale) → of (freed_in setup plan xs tale) ≡ of tale
    kept_in [] tale = refl
    kept_in (x ∷ xs) tale = kept_in xs (freed_if_done setup plan tale x) ∙ kept_by (Done tale x) x tale

  pub none_left : (tale : Tale) → NoneDone setup plan (links_are_freed setup plan tale)
  none_left tale link there =
      all_done tale.links tale link
      (ap (λ xs. is_among xs link) (sym (kept_in (λ (t : Tale). t.links) (λ story t. refl) tale.links tale)) ∙ there)
