-- What the tests of equality show.
use Rattle.std.specs.Prelude.{◌≡◌, ℕ, zero, suc, ◌<◌, Bool, true, false, not, ◌&&◌, ◌||◌, bytes_eq, nat_eq, if◌then◌else◌, List, [], ◌∷◌, ◌++◌, All, drop, length, take, Option, Some, None, refl}
use Rattle.std.specs.List.{list_all, list_any}
use Rattle.std.proofs.Common.{subst, sym, ap, ◌∙◌, arith}
use Rattle.std.proofs.lemmas.Bool.{and_parts, not-true}
use Rattle.std.proofs.lemmas.List.{take-append-drop}
use Rattle.std.proofs.lemmas.Slice.Eq.{bytes_eq-Decides}
use Rattle.mx_base.specs.declared.names.Address.{Address}
use Rattle.mx_base.specs.declared.names.LinkId.{LinkId}
use Rattle.mx_base.specs.declared.tag.Tag.{Tag}
use Rattle.mx_base.specs.declared.tag.Tag.TheVariants as tags
use Rattle.session_state.specs.declared.place.Place.{Place}
use Rattle.session_vars.specs.declared.long_part.LongPart.{LongPart}
use Rattle.private_model.proofs.Maps.{hostgroup_of, link_of, number_of}
use Rattle.private_model.specs.Commands.{Args}
use Rattle.private_model.specs.Names.{Hostgroup}
use Rattle.private_model.specs.Story.{Key, is_link_id}
use Rattle.log_story.specs.Honest.{IsFront}
use Rattle.log_story.specs.Plan.{Route}
use Rattle.tale_world.specs.Tests.{are_settings, is_flag}
use Rattle.tale_world.proofs.Testing.{same_settings}
use Rattle.promise_tests.specs.Same.{are_args, are_each, is_address, is_key, is_nothing, is_option, is_part, is_place, is_route, is_tag, tag_code}

pub isnt : {A : Type 0} → false ≡ true → A
isnt is = absurd (cc)

pub same-bytes : (a b : List ℕ) → bytes_eq a b ≡ true → a ≡ b
same-bytes a b is = (bytes_eq-Decides a b).0 is

pub same-flag : (a b : Bool) → is_flag a b ≡ true → a ≡ b
same-flag true b is = sym is
same-flag false b is = sym (not-true b is)

pub same-option : {A : Type 0} (same : A → A → Bool) → ((a b : A) → same a b ≡ true → a ≡ b) → (x y : Option A) → is_option same x y ≡ true → x ≡ y
same-option same sound None None is = refl
same-option same sound (Some a) (Some b) is = ap (λ x. Some x) (sound a b is)
same-option same sound None (Some b) is = isnt is
same-option same sound (Some a) None is = isnt is

pub same-each : {A : Type 0} (same : A → A → Bool) → ((a b : A) → same a b ≡ true → a ≡ b) → (xs ys : List A) → are_each same xs ys ≡ true → xs ≡ ys
same-each same sound [] [] is = refl
same-each same sound (a ∷ xs) (b ∷ ys) is =
    let parts = and_parts (same a b) (are_each same xs ys) is in
    ap (λ x. x ∷ xs) (sound a b parts.0) ∙ ap (λ zs. b ∷ zs) (same-each same sound xs ys parts.1)
same-each same sound [] (b ∷ ys) is = isnt is
same-each same sound (a ∷ xs) [] is = isnt is

pub none-so : {A : Type 0} (o : Option A) → is_nothing o ≡ true → o ≡ None
none-so None is = refl
none-so (Some a) is = isnt is

place-by : (a b : Place) → a.schema ≡ b.schema → a.settings ≡ b.settings → a ≡ b
place-by a b x y = λ i. record { schema = x i; settings = y i }

pub same-place : (a b : Place) → is_place a b ≡ true → a ≡ b
same-place a b is = (let parts = and_parts (bytes_eq a.schema b.schema) _ is in place-by a b (same-bytes a.schema b.schema parts.0) (same_settings a.settings b.settings parts.1))

key-by : (a b : Key) → a.text ≡ b.text → a.place ≡ b.place → a ≡ b
key-by a b x y = λ i. record { text = x i; place = y i }

pub same-key : (a b : Key) → is_key a b ≡ true → a ≡ b
same-key a b is = (let parts = and_parts (bytes_eq a.text b.text) _ is in key-by a b (same-bytes a.text b.text parts.0) (same-place a.place b.place parts.1))

route-by : (a b : Route) → a.hostgroup ≡ b.hostgroup → a.text ≡ b.text → a.number ≡ b.number → a.multiplex ≡ b.multiplex → a.mirror ≡ b.mirror → a ≡ record b { key = a.key }
route-by a b h t n m c = λ i. record { hostgroup = h i; text = t i; key = a.key; number = n i; multiplex = m i; mirror = c i }

pub same-route : (a b : Route) → is_route a b ≡ true → a ≡ record b { key = a.key }
same-route a b is =
    let both = and_parts _ _ is in
    let first = and_parts _ _ both.0 in
    let second = and_parts _ _ both.1 in
    let third = and_parts _ _ second.1 in
    route-by a b (hostgroup_of a.hostgroup b.hostgroup first.0) (same-option bytes_eq same-bytes a.text b.text first.1) (number_of a.number b.number second.0)
    (same-option is_flag same-flag a.multiplex b.multiplex third.0) (same-option _ hostgroup_of a.mirror b.mirror third.1)

address-by : (a b : Address) → a.ip ≡ b.ip → a.port ≡ b.port → a ≡ b
address-by a b x y = λ i. record { ip = x i; port = y i }

pub same-address : (a b : Address) → is_address a b ≡ true → a ≡ b
same-address a b is = (let parts = and_parts (bytes_eq a.ip b.ip) _ is in address-by a b (same-bytes a.ip b.ip parts.0) (number_of a.port b.port parts.1))

part-by : (a b : LongPart) → a.parameter ≡ b.parameter → a.bytes ≡ b.bytes → a ≡ b
part-by a b x y = λ i. record { parameter = x i; bytes = y i }

same-part : (a b : LongPart) → is_part a b ≡ true → a ≡ b
same-part a b is = (let parts = and_parts (nat_eq a.parameter b.parameter) _ is in part-by a b (number_of a.parameter b.parameter parts.0) (same-bytes a.bytes b.bytes parts.1))

args-by : (a b : Args) → a.types ≡ b.types → a.nulls ≡ b.nulls → a.values ≡ b.values → a.long ≡ b.long → a ≡ b
args-by a b t n v l = λ i. record { types = t i; nulls = n i; values = v i; long = l i }

pub same-args : (a b : Args) → are_args a b ≡ true → a ≡ b
same-args a b is =
    let both = and_parts _ _ is in
    let first = and_parts _ _ both.0 in
    let second = and_parts _ _ both.1 in
    args-by a b (same-option bytes_eq same-bytes a.types b.types first.0) (same-bytes a.nulls b.nulls first.1) (same-bytes a.values b.values second.0)
    (same-each is_part same-part a.long b.long second.1)

abbrev tag_at : (kind a b : ℕ) → Tag
tag_at kind a b =
    if nat_eq kind 0 then tags.For (record { 0 = a }) b
    else if nat_eq kind 1 then tags.Sync (record { 0 = a }) (record { 0 = b })
    else if nat_eq kind 2 then tags.Prep (record { 0 = a }) b
    else if nat_eq kind 3 then tags.Mirror (record { 0 = a }) b
    else if nat_eq kind 4 then tags.End (record { 0 = a }) (record { 0 = b })
    else if nat_eq kind 5 then tags.Own
    else tags.Reply

abbrev tag_of : List ℕ → Tag
tag_of [] = tags.Own
tag_of (kind ∷ []) = tag_at kind 0 0
tag_of (kind ∷ a ∷ []) = tag_at kind a 0
tag_of (kind ∷ a ∷ b ∷ more) = tag_at kind a b

coded : (t : Tag) → tag_of (tag_code t) ≡ t
coded (tags.For client ordinal) = refl
coded (tags.Sync client hostgroup) = refl
coded (tags.Prep client ordinal) = refl
coded (tags.Mirror client ordinal) = refl
coded (tags.End client hostgroup) = refl
coded tags.Own = refl
coded tags.Reply = refl

pub same-tag : (a b : Tag) → is_tag a b ≡ true → a ≡ b
same-tag a b is = sym (coded a) ∙ ap tag_of (same-bytes (tag_code a) (tag_code b) is) ∙ coded b

-- Lists.

pub all-so : {A : Type 0} (P : A → Type 0) (test : A → Bool) (xs : List A) → ((x : A) → test x ≡ true → P x) → list_all test xs ≡ true → All P xs
all-so P test [] sound so k d within = absurd (omega (arith, within))
all-so P test (x ∷ xs) sound so zero d within = sound x (and_parts _ _ so).0
all-so P test (x ∷ xs) sound so (suc k) d within = all-so P test xs sound (and_parts _ _ so).1 k d (omega (arith, within))

pub any-so : {A : Type 0} (f : A → Bool) (xs : List A) → list_any f xs ≡ true → (x : A) × (f x ≡ true)
any-so f [] is = isnt is
any-so {A} f (x ∷ xs) is = by (f x) refl (any-so f xs) is where
  by : (b : Bool) → f x ≡ b → (list_any f xs ≡ true → (y : A) × (f y ≡ true)) → (b || list_any f xs) ≡ true → (y : A) × (f y ≡ true)
  by true here rest is = (x, here)
  by false other rest is = rest is

pub found : (P : LinkId → Type 0) (test : LinkId → Bool) (link : LinkId) (links : List LinkId) → ((l : LinkId) → test l ≡ true → P l) → list_all test links ≡ true → list_any (is_link_id link) links ≡ true → P link
found P test link [] sound all any = isnt any
found P test link (l ∷ links) sound all any = by (is_link_id link l) refl (found P test link links sound (and_parts _ _ all).1) any where
  by : (b : Bool) → is_link_id link l ≡ b → (list_any (is_link_id link) links ≡ true → P link) → (b || list_any (is_link_id link) links) ≡ true → P link
  by true is rest any = subst P (sym (link_of link l is)) (sound l (and_parts _ _ all).0)
  by false is rest any = rest any

-- Tests.

pub implied : (a b : Bool) → (not a || b) ≡ true → a ≡ true → b ≡ true
implied true b so is = so
implied false b so is = isnt is

pub exempt : (a b : Bool) → (a || b) ≡ true → a ≡ false → b ≡ true
exempt true b so is = isnt (sym is)
exempt false b so is = so

pub not-so : (b : Bool) → not b ≡ true → b ≡ false
not-so true is = isnt is
not-so false is = refl

pub never-so : (b : Bool) {A : Type 0} → not b ≡ true → b ≡ true → A
never-so true calm is = isnt calm
never-so false calm is = isnt is

-- Fronts.

abbrev pub is_front : (front whole : List ℕ) → Bool
is_front front whole = bytes_eq (take (length front) whole) front

pub front-so : (front whole : List ℕ) → is_front front whole ≡ true → IsFront front whole
front-so front whole so = record {
  rest = drop (length front) whole;
  is = ap (λ (xs : List ℕ). xs ++ drop (length front) whole) (sym (same-bytes _ _ so)) ∙ take-append-drop (length front) whole;
}
