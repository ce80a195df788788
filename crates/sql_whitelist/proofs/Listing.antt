-- Maps by the bytes of their keys, once a value is taken out and put back.
use Rattle.std.proofs.Common.{◌≡◌, ℕ, Bool, true, false, cond, ◌&&◌, ◌||◌, nat_eq, bytes_eq, List, Option, Some, None, Vec, sym, refl, ap, ◌∙◌, subst, inl, inr}
use Rattle.std.specs.Cmp.Lexicographic.{pointwise}
use Rattle.std.specs.HashMap.{HashMap, Updates, UpdatesBy, get_by}
use Rattle.std.specs.HashSet.{HashSet, contains}
use Rattle.std.specs.Map.{IsKeyTest, KeepsOthers, lookup}
use Rattle.std.specs.Option.{unwrap_or}
use Rattle.std.proofs.lemmas.Bool.{cases_Bool}
use Rattle.std.proofs.lemmas.Slice.Eq.{bytes_eq-Decides}
use Rattle.sql_whitelist.specs.Held.{in_hashes, in_schemas, in_user, in_users, is_bytes}

cond-yes : {A : Type 0} (b : Bool) (x y : A) → b ≡ true → cond b x y ≡ x
cond-yes b x y is = rw is refl

cond-no : {A : Type 0} (b : Bool) (x y : A) → b ≡ false → cond b x y ≡ y
cond-no b x y is = rw is refl

or-none : (b : Bool) → b ≡ (b || false)
or-none true = refl
or-none false = refl

-- byte lists that are equal
pub same-bytes : (a b : List ℕ) → bytes_eq a b ≡ true → a ≡ b
same-bytes a b is = (bytes_eq-Decides a b).0 is

pub own-bytes : (a b : List ℕ) → a ≡ b → bytes_eq a b ≡ true
own-bytes a b is = (bytes_eq-Decides a b).1 is

apart-bytes : (a b c : List ℕ) → bytes_eq a b ≡ false → bytes_eq a c ≡ true → bytes_eq b c ≡ false
apart-bytes a b c apart same = elim (cases_Bool (bytes_eq b c)) [
  | inl is ↦ (let no : true ≡ false = sym (own-bytes a b (same-bytes a c same ∙ sym (same-bytes b c is))) ∙ apart in absurd (cc))
  | inr other ↦ other
]

abbrev eq : {Z : Type 0} → Vec ℕ Z → Vec ℕ Z → Bool
eq a b = pointwise nat_eq a.items b.items

bytes-test : {Z : Type 0} (q : List ℕ) → IsKeyTest (eq {Z = Z}) (is_bytes {Z = Z} q)
bytes-test q x y is = ap (λ (bs : List ℕ). pointwise nat_eq bs y.items) (same-bytes q x.items is)

module _ {Z X T : Type 0} where
  -- a value under a key is taken out, and one is put back
  pub put-back : (m n p : HashMap (Vec ℕ Z) X T) (key q : List ℕ) (vec : Vec ℕ Z) (v : X) → UpdatesBy eq (is_bytes key) m n None → Updates eq n p vec (Some v) → vec.items ≡ key
      → get_by (is_bytes q) p ≡ (cond (bytes_eq key q) (Some v) (get_by (is_bytes q) m))
  unfolding KeepsOthers
  put-back m n p key q vec v out back is = elim (cases_Bool (bytes_eq key q)) [
    | inl same ↦
        let bytes : vec.items ≡ q = is ∙ same-bytes key q same in
        rw same (ap (λ (bs : List ℕ). lookup (λ (k : Vec ℕ Z). pointwise nat_eq bs k.items) p.entries) (sym bytes) ∙ back.1)
    | inr other ↦
        let first : get_by (is_bytes q) p ≡ get_by (is_bytes q) n = back.3 (is_bytes q) (bytes-test q) (λ k at. apart-bytes key q k.items other (subst (λ (bs : List ℕ). pointwise nat_eq bs k.items ≡ true) is at)) in
        let second : get_by (is_bytes q) n ≡ get_by (is_bytes q) m = out.3 (is_bytes q) (bytes-test q) (λ k at. apart-bytes key q k.items other at) in
        rw other (first ∙ second)
  ]

-- what is in a set, if there is one
in-set : {S : Type 0} (set : Option (HashSet ℕ S)) (fresh : HashSet ℕ S) (hash : ℕ) → contains nat_eq fresh hash ≡ false → contains nat_eq (unwrap_or set fresh) hash ≡ in_hashes set hash
in-set None fresh hash none = none
in-set (Some set) fresh hash none = refl

module _ {Z S T : Type 0} where
  in-map : (schemas : Option (HashMap (Vec ℕ Z) (HashSet ℕ S) T)) (fresh : HashMap (Vec ℕ Z) (HashSet ℕ S) T) (schema : List ℕ) (hash : ℕ) → in_schemas fresh schema hash ≡ false → in_schemas (unwrap_or schemas fresh) schema hash ≡ in_user schemas schema hash
  in-map None fresh schema hash none = none
  in-map (Some schemas) fresh schema hash none = refl

  -- hashes added to those of a schema
  pub schema-added : (m p : HashMap (Vec ℕ Z) (HashSet ℕ S) T) (key q : List ℕ) (hash : ℕ) (fresh after : HashSet ℕ S) (more : Bool)
      → get_by (is_bytes q) p ≡ cond (bytes_eq key q) (Some after) (get_by (is_bytes q) m)
      → contains nat_eq fresh hash ≡ false
      → contains nat_eq after hash ≡ (contains nat_eq (unwrap_or (get_by (is_bytes key) m) fresh) hash || more)
      → in_schemas p q hash ≡ (in_schemas m q hash || (bytes_eq key q && more))
  schema-added m p key q hash fresh after more found none added = elim (cases_Bool (bytes_eq key q)) [
    | inl same ↦
        let before : in_hashes (get_by (is_bytes key) m) hash ≡ in_schemas m q hash = ap (λ (bs : List ℕ). in_schemas m bs hash) (same-bytes key q same) in
        let there : contains nat_eq after hash ≡ (in_schemas m q hash || more) = added ∙ ap (λ b. b || more) (in-set (get_by (is_bytes key) m) fresh hash none ∙ before) in
        ap (λ found. in_hashes found hash) (found ∙ cond-yes _ _ _ same) ∙ there ∙ ap (λ b. in_schemas m q hash || (b && more)) (sym same)
    | inr other ↦ ap (λ found. in_hashes found hash) (found ∙ cond-no _ _ _ other) ∙ or-none _ ∙ ap (λ b. in_schemas m q hash || (b && more)) (sym other)
  ]

  -- a row added to those of a user
  pub user-added : {U : Type 0} (m p : HashMap (Vec ℕ Z) (HashMap (Vec ℕ Z) (HashSet ℕ S) T) U) (key q schema : List ℕ) (hash : ℕ) (fresh after : HashMap (Vec ℕ Z) (HashSet ℕ S) T) (more : Bool)
      → get_by (is_bytes q) p ≡ cond (bytes_eq key q) (Some after) (get_by (is_bytes q) m)
      → in_schemas fresh schema hash ≡ false
      → in_schemas after schema hash ≡ (in_schemas (unwrap_or (get_by (is_bytes key) m) fresh) schema hash || more)
      → in_users p q schema hash ≡ (in_users m q schema hash || (bytes_eq key q && more))
  user-added m p key q schema hash fresh after more found none added = elim (cases_Bool (bytes_eq key q)) [
    | inl same ↦
        let before : in_user (get_by (is_bytes key) m) schema hash ≡ in_users m q schema hash = ap (λ (bs : List ℕ). in_users m bs schema hash) (same-bytes key q same) in
        let there : in_schemas after schema hash ≡ (in_users m q schema hash || more) = added ∙ ap (λ b. b || more) (in-map (get_by (is_bytes key) m) fresh schema hash none ∙ before) in
        ap (λ found. in_user found schema hash) (found ∙ cond-yes _ _ _ same) ∙ there ∙ ap (λ b. in_users m q schema hash || (b && more)) (sym same)
    | inr other ↦ ap (λ found. in_user found schema hash) (found ∙ cond-no _ _ _ other) ∙ or-none _ ∙ ap (λ b. in_users m q schema hash || (b && more)) (sym other)
  ]
