-- One client among those of a tale.
use Rattle.std.specs.Prelude.{◌≡◌, ℕ, Bool, true, false, All, cond, filter, map, is_some, List, [], ◌∷◌, Option, Some, None}
use Rattle.std.proofs.Common.{◌∙◌, refl, sym, ap, subst}
use Rattle.std.proofs.lemmas.Bool.{eqb-true}
use Rattle.std.proofs.lemmas.List.Elements.{All-cons, All-filter, All-head, All-nil}
use Rattle.private_model.proofs.Maps.{same_number}
use Rattle.private_model.specs.Names.{ClientNo, LinkId}
use Rattle.private_model.specs.Story.{is_client, is_link_id}
use Rattle.log_story.specs.Tale.{Client}
use Rattle.step_laws.specs.Seats.{seats}
use Rattle.core_tables.specs.Tables.{Tabled}
use Rattle.core_stands.specs.Grounds.{Ground}
use Rattle.core_stands.specs.Stands.{AreClients, IsAt, IsKnown}

pub picked : {X : Type 0} (p : X → Bool) (P : X → Type 0) (xs ys : List X) (x : X) → filter p xs ≡ x ∷ ys → All P xs → P x
picked p P xs ys x is all = All-head P x ys (subst (λ (zs : List _). All P zs) is (All-filter p P xs all))

-- what holds of all clients of a tale holds of one
pub of-known : (P : Client → Type 0) (g : Ground) (c : ClientNo) (client : Client) → IsKnown g c client → All P g.tale.clients → P client
of-known P g c client known all = picked (λ (x : Client). is_client x.number client.number) P g.tale.clients [] client known.seated all

pub at-known : (g : Ground) (t : Tabled) (c : ClientNo) (client : Client) → AreClients g t → IsKnown g c client → IsAt g t client
at-known g t c client are known = of-known (IsAt g t) g c client known are.each

pub one-known : (g : Ground) (c : ClientNo) (x y : Client) → IsKnown g c x → IsKnown g c y → x ≡ y
one-known g c x y one other =
    let both : x ∷ [] ≡ y ∷ [] = sym one.seated ∙ ap (seats g.tale) (one.number ∙ sym other.number) ∙ other.seated in
    cc

-- Numbers.

pub client-true : (a b : ClientNo) → is_client a b ≡ true → a ≡ b
client-true a b is = ap (λ (n : ℕ). record { 0 = n }) (eqb-true a.0 b.0 is)

pub client-same : (a b : ClientNo) → a ≡ b → is_client a b ≡ true
client-same a b is = ap (λ (n : ClientNo). is_client a n) (sym is) ∙ same_number a.0

pub false-true : {A : Type 0} (b : Bool) → b ≡ false → b ≡ true → A
false-true b isnt is = (let both : false ≡ true = sym isnt ∙ is in cc)

pub none-some : {A B : Type 0} (x : Option A) (y : A) → x ≡ None → x ≡ Some y → B
none-some x y isnt is = (let both : None ≡ Some y = sym isnt ∙ is in cc)

-- a change of each leaves one alone under its number

filter-map : {X Y : Type 0} (p : Y → Bool) (f : X → Y) (xs : List X) → filter p (map f xs) ≡ map f (filter (λ x. p (f x)) xs)
filter-map p f [] = refl
filter-map p f (x ∷ xs) = by (p (f x)) (filter-map p f xs) where
  by : (b : Bool) → filter p (map f xs) ≡ map f (filter (λ x. p (f x)) xs)
      → cond b (f x ∷ filter p (map f xs)) (filter p (map f xs)) ≡ map f (cond b (x ∷ filter (λ x. p (f x)) xs) (filter (λ x. p (f x)) xs))
  by true is = ap (λ rest. f x ∷ rest) is
  by false is = is

filter-like : {X : Type 0} (p q : X → Bool) → ((x : X) → p x ≡ q x) → (xs : List X) → filter p xs ≡ filter q xs
filter-like p q same [] = refl
filter-like p q same (x ∷ xs) = λ i. cond (same x i) (x ∷ filter-like p q same xs i) (filter-like p q same xs i)

pub seated-by : (f : Client → Client) → ((x : Client) → (f x).number ≡ x.number) → (xs : List Client) (client : Client)
    → filter (λ (x : Client). is_client x.number client.number) xs ≡ client ∷ []
    → filter (λ (x : Client). is_client x.number (f client).number) (map f xs) ≡ f client ∷ []
seated-by f same xs client is =
    filter-map (λ (x : Client). is_client x.number (f client).number) f xs
    ∙ ap (map f) (filter-like (λ (x : Client). is_client (f x).number (f client).number) (λ (x : Client). is_client x.number client.number)
    (λ x i. is_client (same x i) (same client i)) xs ∙ is)

pub numbers-by : (f : Client → Client) → ((x : Client) → (f x).number ≡ x.number) → (xs : List Client)
    → map (λ (x : Client). x.number) (map f xs) ≡ map (λ (x : Client). x.number) xs
numbers-by f same [] = refl
numbers-by f same (x ∷ xs) = λ i. same x i ∷ numbers-by f same xs i

pub map-itself : {X : Type 0} (xs : List X) → map (λ (x : X). x) xs ≡ xs
map-itself [] = refl
map-itself (x ∷ xs) = ap (λ rest. x ∷ rest) (map-itself xs)

-- those that pass where one does

none-passes : {X : Type 0} (P : X → Type 0) (p : X → Bool) (xs : List X) → filter p xs ≡ [] → All (λ (x : X). p x ≡ true → P x) xs
none-passes {X = X} P p [] is = All-nil (λ (x : X). p x ≡ true → P x)
none-passes {X = X} P p (x ∷ xs) is = by (p x) refl is (none-passes P p xs) where
  by : (b : Bool) → p x ≡ b → cond b (x ∷ filter p xs) (filter p xs) ≡ [] → (filter p xs ≡ [] → All (λ (y : X). p y ≡ true → P y) xs)
      → All (λ (y : X). p y ≡ true → P y) (x ∷ xs)
  by true here none later = (let both : x ∷ filter p xs ≡ [] = none in cc)
  by false here none later = All-cons (λ (y : X). p y ≡ true → P y) x xs (λ does. false-true (p x) here does) (later none)

pub only-passes : {X : Type 0} (p : X → Bool) (xs : List X) (one : X) → filter p xs ≡ one ∷ [] → All (λ (x : X). p x ≡ true → x ≡ one) xs
only-passes {X = X} p [] one is = (let both : [] ≡ one ∷ [] = is in cc)
only-passes {X = X} p (x ∷ xs) one is = by (p x) refl is (only-passes p xs one) (none-passes (λ (y : X). y ≡ one) p xs) where
  by : (b : Bool) → p x ≡ b → cond b (x ∷ filter p xs) (filter p xs) ≡ one ∷ [] → (filter p xs ≡ one ∷ [] → All (λ (y : X). p y ≡ true → y ≡ one) xs)
      → (filter p xs ≡ [] → All (λ (y : X). p y ≡ true → y ≡ one) xs) → All (λ (y : X). p y ≡ true → y ≡ one) (x ∷ xs)
  by true here only later none =
      let first : x ∷ filter p xs ≡ one ∷ [] = only in
      let same : x ≡ one = (cc) in
      let rest : filter p xs ≡ [] = (cc) in
      All-cons (λ (y : X). p y ≡ true → y ≡ one) x xs (λ does. same) (none rest)
  by false here only later none = All-cons (λ (y : X). p y ≡ true → y ≡ one) x xs (λ does. false-true (p x) here does) (later only)

-- Options.

pub of-some : {A : Type 0} (x : Option A) → is_some x ≡ true → (y : A) × (x ≡ Some y)
of-some None is = (let both : false ≡ true = is in cc)
of-some (Some y) is = (y, refl)

pub same-some : {A : Type 0} (x : Option A) (y z : A) → x ≡ Some y → x ≡ Some z → y ≡ z
same-some x y z one other = (let both : Some y ≡ Some z = sym one ∙ other in cc)

pub link-true : (a b : LinkId) → is_link_id a b ≡ true → a ≡ b
link-true a b is = ap (λ (n : ℕ). record { 0 = n }) (eqb-true a.0 b.0 is)

pub link-same : (a b : LinkId) → a ≡ b → is_link_id a b ≡ true
link-same a b is = ap (λ (l : LinkId). is_link_id a l) (sym is) ∙ same_number a.0

-- no two clients of a tale have one link
pub one-link : (g : Ground) (t : Tabled) (c : ClientNo) (client x : Client) (link : LinkId) → IsKnown g c client → client.link ≡ link → IsAt g t x
    → is_link_id x.link link ≡ true → is_client c x.number ≡ true
one-link g t c client x link known has at is =
    let same : client.number ≡ x.number =
    of-known (λ (other : Client). is_link_id other.link x.link ≡ true → other.number ≡ x.number) g c client known at.alone
    (link-same client.link x.link (has ∙ sym (link-true x.link link is))) in
    client-same c x.number (sym known.number ∙ same)

pub isnt-true : (b : Bool) → (b ≡ true → false ≡ true) → b ≡ false
isnt-true true isnt = sym (isnt refl)
isnt-true false isnt = refl
