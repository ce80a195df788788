-- In whatever order links are given back, the same is known then.
use Rattle.std.specs.Prelude.{◌≡◌, Bool, true, false, ◌&&◌, ◌||◌, if◌then◌else◌, List, [], ◌∷◌, None}
use Rattle.std.specs.List.{list_any}
use Rattle.std.proofs.Common.{refl, sym, ap, ◌∙◌, inl, inr}
use Rattle.std.proofs.lemmas.Bool.{and_from, and_parts, cases_Bool, or_left, or_right}
use Rattle.private_model.proofs.Maps.{link_of, name_of, same_link}
use Rattle.private_model.specs.Names.{LinkId, SessionName}
use Rattle.private_model.specs.Story.{Freed, Story, is_link_id, is_name, put}
use Rattle.private_model.specs.View.{Carried, Held, Joined, Lent, Link, Nobody, Setup, View, freed, held_freed, view_step}
use Rattle.log_story.specs.Plan.{Plan}
use Rattle.log_story.specs.Servers.{freed_if_done, links_are_freed}
use Rattle.log_story.specs.Tale.{Tale, link_in, tell, view_of}
use Rattle.step_laws.specs.Freed.{AreAll, freed_in, is_among, is_done_at}
use Rattle.step_laws.specs.Like.{IsLike}
use Rattle.step_laws.specs.Spared.{carries_of}
use Rattle.step_laws.proofs.Giving.{isnt, kept_in, other_done, same_done}

-- Tests.

and_true : (a : Bool) → (a && true) ≡ a
and_true true = refl
and_true false = refl

and_false : (a : Bool) → (a && false) ≡ false
and_false true = refl
and_false false = refl

both_ways : (a b : Bool) → (a ≡ true → b ≡ true) → (b ≡ true → a ≡ true) → a ≡ b
both_ways true b there back = sym (there refl)
both_ways false true there back = back refl
both_ways false false there back = refl

any_same : (p q : LinkId → Bool) → ((l : LinkId) → p l ≡ q l) → (xs : List LinkId) → list_any p xs ≡ list_any q xs
any_same p q same [] = refl
any_same p q same (x ∷ xs) = λ i. same x i || any_same p q same xs i

abbrev Holds : (LinkId → Bool) → List LinkId → Type 0
Holds p xs = (l : LinkId) × (is_among xs l ≡ true) × (p l ≡ true)

holder_by : (p : LinkId → Bool) (x : LinkId) (xs : List LinkId) (b : Bool) → p x ≡ b → (b || list_any p xs) ≡ true
    → (list_any p xs ≡ true → Holds p xs) → Holds p (x ∷ xs)
holder_by p x xs true is found later = (x, or_left (is_link_id x x) (is_among xs x) (same_link x), is)
holder_by p x xs false is found later =
    let rest : Holds p xs = later found in
    (rest.0, or_right (is_link_id rest.0 x) (is_among xs rest.0) rest.1, rest.2)

holder : (p : LinkId → Bool) (xs : List LinkId) → list_any p xs ≡ true → Holds p xs
holder p [] found = isnt found
holder p (x ∷ xs) found = holder_by p x xs (p x) refl found (holder p xs)

found_by : (p : LinkId → Bool) (l y : LinkId) (ys : List LinkId) (b : Bool) → is_link_id l y ≡ b → (b || is_among ys l) ≡ true → p l ≡ true
    → (is_among ys l ≡ true → list_any p ys ≡ true) → (p y || list_any p ys) ≡ true
found_by p l y ys true here there is later = or_left (p y) (list_any p ys) (ap p (sym (link_of l y here)) ∙ is)
found_by p l y ys false other there is later = or_right (p y) (list_any p ys) (later there)

found_in : (p : LinkId → Bool) (l : LinkId) (ys : List LinkId) → is_among ys l ≡ true → p l ≡ true → list_any p ys ≡ true
found_in p l [] there is = isnt there
found_in p l (y ∷ ys) there is = found_by p l y ys (is_link_id l y) refl there is (λ later. found_in p l ys later is)

-- who passes a test stands in another list too
any_there : (p : LinkId → Bool) (xs ys : List LinkId) → ((l : LinkId) → p l ≡ true → is_among xs l ≡ true → is_among ys l ≡ true)
    → list_any p xs ≡ true → list_any p ys ≡ true
any_there p xs ys goes found =
    let one : Holds p xs = holder p xs found in
    found_in p one.0 ys (goes one.0 one.2 one.1) one.2

-- What one makes of links and of what is held of sessions.

abbrev homeless : Held → Held
homeless h = record h { home = None }

abbrev given_link : Bool → Link → Link
given_link b link = if b then freed link else link

abbrev given_held : Bool → Held → Held
given_held b h = if b then homeless h else h

given_again : (b : Bool) (h : Held) → given_held b (homeless h) ≡ homeless h
given_again true h = refl
given_again false h = refl

lost_home : (held : SessionName → Held) (m n : SessionName) → put is_name held m (homeless (held m)) n ≡ given_held (is_name n m) (held n)
lost_home held m n = elim (cases_Bool (is_name n m)) [
  | inl here ↦ ap (λ b. if b then homeless (held m) else held n) here ∙ ap (λ k. homeless (held k)) (sym (name_of n m here))
      ∙ ap (λ b. given_held b (held n)) (sym here)
  | inr other ↦ ap (λ b. if b then homeless (held m) else held n) other ∙ ap (λ b. given_held b (held n)) (sym other)
]

carried_home : (carried : Carried) (held : SessionName → Held) (n : SessionName)
    → held_freed carried held n ≡ given_held (carries_of (λ m. is_name n m) carried) (held n)
carried_home Nobody held n = refl
carried_home (Lent m) held n = lost_home held m n
carried_home (Joined m) held n = lost_home held m n

put_freed : (links : LinkId → Link) (x l : LinkId) → put is_link_id links x (freed (links x)) l ≡ given_link (is_link_id l x) (links l)
put_freed links x l = elim (cases_Bool (is_link_id l x)) [
  | inl here ↦ ap (λ b. if b then freed (links x) else links l) here ∙ ap (λ k. freed (links k)) (sym (link_of l x here))
      ∙ ap (λ b. given_link b (links l)) (sym here)
  | inr other ↦ ap (λ b. if b then freed (links x) else links l) other ∙ ap (λ b. given_link b (links l)) (sym other)
]

module _ (setup : Setup) (plan : Plan) where
  abbrev Done : Tale → LinkId → Bool
  Done tale l = is_done_at setup plan tale l

  abbrev after : Tale → LinkId → Tale
  after tale x = freed_if_done setup plan tale x

  -- it is given back, and carries this session
  abbrev gives : Tale → SessionName → LinkId → Bool
  gives tale n l = Done tale l && carries_of (λ m. is_name n m) (link_in setup tale l).carries

  links_once : (tale : Tale) (x l : LinkId) → link_in setup (after tale x) l ≡ given_link (is_link_id l x && Done tale x) (link_in setup tale l)
  links_once tale x l = by_test (Done tale x) where
    by_test : (b : Bool) → link_in setup (if b then tell (Freed x) tale else tale) l ≡ given_link (is_link_id l x && b) (link_in setup tale l)
    by_test true =
        put_freed (view_of setup tale).links x l ∙ ap (λ b. given_link b (link_in setup tale l)) (sym (and_true (is_link_id l x)))
    by_test false = ap (λ b. given_link b (link_in setup tale l)) (sym (and_false (is_link_id l x)))

  held_once : (tale : Tale) (x : LinkId) (n : SessionName)
      → (view_of setup (after tale x)).held n ≡ given_held (gives tale n x) ((view_of setup tale).held n)
  held_once tale x n = by_test (Done tale x) where
    by_test : (b : Bool) → (view_of setup (if b then tell (Freed x) tale else tale)).held n
        ≡ given_held (b && carries_of (λ m. is_name n m) (link_in setup tale x).carries) ((view_of setup tale).held n)
    by_test true = carried_home (link_in setup tale x).carries (view_of setup tale).held n
    by_test false = refl

  other_link : (tale : Tale) (x l : LinkId) → is_link_id l x ≡ false → link_in setup (after tale x) l ≡ link_in setup tale l
  other_link tale x l other = links_once tale x l ∙ ap (λ b. given_link (b && Done tale x) (link_in setup tale l)) other

  -- What all of them make of it.

  links_here : (x : LinkId) (xs : List LinkId) (tale : Tale) (l : LinkId) → is_link_id l x ≡ true
      → given_link (is_among xs l && Done (after tale x) l) (link_in setup (after tale x) l)
      ≡ given_link ((is_link_id l x || is_among xs l) && Done tale l) (link_in setup tale l)
  links_here x xs tale l here =
      ap (λ b. given_link b (link_in setup (after tale x) l))
      (ap (λ b. is_among xs l && b) (same_done setup plan tale x l here) ∙ and_false (is_among xs l))
      ∙ links_once tale x l
      ∙ ap (λ k. given_link (is_link_id l x && Done tale k) (link_in setup tale l)) (sym (link_of l x here))
      ∙ ap (λ b. given_link (b && Done tale l) (link_in setup tale l)) here
      ∙ ap (λ b. given_link ((b || is_among xs l) && Done tale l) (link_in setup tale l)) (sym here)

  links_there : (x : LinkId) (xs : List LinkId) (tale : Tale) (l : LinkId) → is_link_id l x ≡ false
      → given_link (is_among xs l && Done (after tale x) l) (link_in setup (after tale x) l)
      ≡ given_link ((is_link_id l x || is_among xs l) && Done tale l) (link_in setup tale l)
  links_there x xs tale l other =
      (λ i. given_link (is_among xs l && other_done setup plan tale x l other i) (other_link tale x l other i))
      ∙ ap (λ b. given_link ((b || is_among xs l) && Done tale l) (link_in setup tale l)) (sym other)

  links_given : (xs : List LinkId) (tale : Tale) (l : LinkId)
      → link_in setup (freed_in setup plan xs tale) l ≡ given_link (is_among xs l && Done tale l) (link_in setup tale l)
  links_given [] tale l = refl
  links_given (x ∷ xs) tale l =
      links_given xs (after tale x) l ∙ elim (cases_Bool (is_link_id l x)) as (λ t. given_link (is_among xs l && Done (after tale x) l) (link_in setup (after tale x) l)
      ≡ given_link ((is_link_id l x || is_among xs l) && Done tale l) (link_in setup tale l)) [
        | inl here ↦ links_here x xs tale l here
        | inr other ↦ links_there x xs tale l other
      ]

  -- who didn't give up this session doesn't matter
  gives_later : (tale : Tale) (x : LinkId) (n : SessionName) → gives tale n x ≡ false → (l : LinkId) → gives (after tale x) n l ≡ gives tale n l
  gives_later tale x n none l = elim (cases_Bool (is_link_id l x)) [
    | inl here ↦ ap (λ b. b && carries_of (λ m. is_name n m) (link_in setup (after tale x) l).carries) (same_done setup plan tale x l here)
        ∙ sym none ∙ ap (gives tale n) (sym (link_of l x here))
    | inr other ↦ λ i. other_done setup plan tale x l other i && carries_of (λ m. is_name n m) (other_link tale x l other i).carries
  ]

  held_by : (x : LinkId) (xs : List LinkId) (tale : Tale) (n : SessionName) (b : Bool) → gives tale n x ≡ b
      → given_held (list_any (gives (after tale x) n) xs) (given_held b ((view_of setup tale).held n))
      ≡ given_held (b || list_any (gives tale n) xs) ((view_of setup tale).held n)
  held_by x xs tale n true is = given_again (list_any (gives (after tale x) n) xs) ((view_of setup tale).held n)
  held_by x xs tale n false is =
      ap (λ b. given_held b ((view_of setup tale).held n))
      (any_same (gives (after tale x) n) (gives tale n) (gives_later tale x n is) xs)

  held_given : (xs : List LinkId) (tale : Tale) (n : SessionName)
      → (view_of setup (freed_in setup plan xs tale)).held n ≡ given_held (list_any (gives tale n) xs) ((view_of setup tale).held n)
  held_given [] tale n = refl
  held_given (x ∷ xs) tale n =
      held_given xs (after tale x) n
      ∙ ap (given_held (list_any (gives (after tale x) n) xs)) (held_once tale x n)
      ∙ held_by x xs tale n (gives tale n x) refl

  -- what giving back leaves of a view
  module _ {A : Type 0} (of : View → A) (leaves : (view : View) (x : LinkId) → of (view_step setup view (Freed x)) ≡ of view) where
    leaves_once : (tale : Tale) (x : LinkId) → of (view_of setup (after tale x)) ≡ of (view_of setup tale)
    leaves_once tale x = by_test (Done tale x) where
      by_test : (b : Bool) → of (view_of setup (if b then tell (Freed x) tale else tale)) ≡ of (view_of setup tale)
      by_test true = leaves (view_of setup tale) x
      by_test false = refl

    leaves_all : (xs : List LinkId) (tale : Tale) → of (view_of setup (freed_in setup plan xs tale)) ≡ of (view_of setup tale)
    leaves_all [] tale = refl
    leaves_all (x ∷ xs) tale = leaves_all xs (after tale x) ∙ leaves_once tale x

    pub leaves_same : (xs ys : List LinkId) (tale : Tale) → of (view_of setup (freed_in setup plan ys tale)) ≡ of (view_of setup (freed_in setup plan xs tale))
    leaves_same xs ys tale = leaves_all ys tale ∙ sym (leaves_all xs tale)

  module _ (xs ys : List LinkId) (tale : Tale) (goes : (l : LinkId) → Done tale l ≡ true → is_among xs l ≡ true → is_among ys l ≡ true)
      (comes : (l : LinkId) → Done tale l ≡ true → is_among ys l ≡ true → is_among xs l ≡ true) where
    abbrev one : Tale
    one = freed_in setup plan xs tale

    abbrev other : Tale
    other = freed_in setup plan ys tale

    done_there : (l : LinkId) → (is_among ys l && Done tale l) ≡ (is_among xs l && Done tale l)
    done_there l = both_ways (is_among ys l && Done tale l) (is_among xs l && Done tale l)
        (λ is. let parts = and_parts (is_among ys l) (Done tale l) is in and_from (is_among xs l) (Done tale l) (comes l parts.1 parts.0) parts.1)
        (λ is. let parts = and_parts (is_among xs l) (Done tale l) is in and_from (is_among ys l) (Done tale l) (goes l parts.1 parts.0) parts.1)

    same_links : (l : LinkId) → link_in setup other l ≡ link_in setup one l
    same_links l = links_given ys tale l ∙ ap (λ b. given_link b (link_in setup tale l)) (done_there l) ∙ sym (links_given xs tale l)

    is_given : (n : SessionName) (l : LinkId) → gives tale n l ≡ true → Done tale l ≡ true
    is_given n l is = (and_parts (Done tale l) (carries_of (λ m. is_name n m) (link_in setup tale l).carries) is).0

    given_there : (n : SessionName) → list_any (gives tale n) ys ≡ list_any (gives tale n) xs
    given_there n = both_ways (list_any (gives tale n) ys) (list_any (gives tale n) xs)
        (any_there (gives tale n) ys xs (λ l is there. comes l (is_given n l is) there))
        (any_there (gives tale n) xs ys (λ l is there. goes l (is_given n l is) there))

    same_held : (n : SessionName) → (view_of setup other).held n ≡ (view_of setup one).held n
    same_held n = held_given ys tale n ∙ ap (λ b. given_held b ((view_of setup tale).held n)) (given_there n) ∙ sym (held_given xs tale n)

    same_view : view_of setup other ≡ view_of setup one
    same_view = λ i. record {
      lives = leaves_same (λ (v : View). v.lives) (λ v x. refl) xs ys tale i;
      places = leaves_same (λ (v : View). v.places) (λ v x. refl) xs ys tale i;
      dues = leaves_same (λ (v : View). v.dues) (λ v x. refl) xs ys tale i;
      links = λ l. same_links l i;
      held = λ n. same_held n i;
      carriers = leaves_same (λ (v : View). v.carriers) (λ v x. refl) xs ys tale i;
      lasting = leaves_same (λ (v : View). v.lasting) (λ v x. refl) xs ys tale i;
      replies = leaves_same (λ (v : View). v.replies) (λ v x. refl) xs ys tale i;
    }

    kept_same : {A : Type 0} (of : Tale → A) → ((story : Story) (t : Tale) → of (record t { story = story }) ≡ of t) → of other ≡ of one
    kept_same of tells = kept_in setup plan of tells ys tale ∙ sym (kept_in setup plan of tells xs tale)

    pub order_like : IsLike setup one other
    order_like = record {
      moment = kept_same (λ (t : Tale). t.moment) (λ story t. refl);
      view = same_view;
      clients = kept_same (λ (t : Tale). t.clients) (λ story t. refl);
      links = kept_same (λ (t : Tale). t.links) (λ story t. refl);
      wires = kept_same (λ (t : Tale). t.wires) (λ story t. refl);
    }

  -- All that are to be given back are named.
  pub named_like : (named : List LinkId) (tale : Tale) → AreAll setup plan named tale
      → IsLike setup (links_are_freed setup plan tale) (freed_in setup plan named tale)
  named_like named tale all =
      order_like tale.links named tale
      (λ l done there. elim (cases_Bool (is_among named l)) [
        | inl is ↦ is
        | inr isnot ↦ isnt (sym (all.all l there isnot) ∙ done)
      ])
      (λ l done there. all.theirs l there)
