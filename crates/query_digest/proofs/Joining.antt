-- A part before others: when it stays, and when it makes a list with them.
use Rattle.std.proofs.Common.{◌≡◌, true, false, ◌&&◌, List, [], ◌∷◌, refl, sym, ◌∙◌, ap, inl, inr}
use Rattle.std.proofs.lemmas.Bool.{cond-true, cond-false, cases_Bool, and_parts, and_from, and_left, and_right}
use Rattle.query_digest.specs.Parts.{Part, Spaced, is_values, is_comma, joined}
use Rattle.query_digest.specs.Parts.Part.{Value, Values, Comma, Bytes}
use Rattle.query_digest.specs.Runs.{list_for}

-- values are no comma, and a comma is no value
pub no_comma : (part : Part) → is_values part ≡ true → is_comma part ≡ false
no_comma Value h = refl
no_comma Values h = refl
no_comma Comma h = absurd (cc)
no_comma (Bytes bytes) h = refl

pub no_values : (part : Part) → is_comma part ≡ true → is_values part ≡ false
no_values Value h = sym h
no_values Values h = sym h
no_values Comma h = refl
no_values (Bytes bytes) h = refl

-- what a part and those behind it begin with
pub record Front (part : Spaced) (rest : List Spaced) : Type 0 where
  pub first : Spaced
  pub others : List Spaced
  pub is : joined part rest ≡ first ∷ others
  pub comma : is_comma first.part ≡ is_comma part.part
  pub values : is_values first.part ≡ is_values part.part
  pub list : is_values part.part ≡ true → (other : Spaced) → joined (list_for other) rest ≡ list_for other ∷ others

pub front : (part : Spaced) (rest : List Spaced) → Front part rest
front part [] = record { first = part; others = []; is = refl; comma = refl; values = refl; list = λ _ other. refl }
front part (second ∷ []) = record { first = part; others = second ∷ []; is = refl; comma = refl; values = refl; list = λ _ other. refl }
front part (second ∷ third ∷ rest) =
    let test = is_values part.part && is_comma second.part && is_values third.part in
    let apart = part ∷ second ∷ third ∷ rest in
    elim (cases_Bool test) [
      | inl e ↦
          let parts = and_parts (is_values part.part && is_comma second.part) (is_values third.part) e in
          let both = and_parts (is_values part.part) (is_comma second.part) parts.0 in
          record { first = list_for part; others = rest; is = cond-true test (list_for part ∷ rest) apart e; comma = sym (no_comma part.part both.0); values = sym both.0; list = λ _ other. cond-true (is_comma second.part && is_values third.part) (list_for other ∷ rest) (list_for other ∷ second ∷ third ∷ rest) (and_from (is_comma second.part) (is_values third.part) both.1 parts.1) }
      | inr e ↦
          record { first = part; others = second ∷ third ∷ rest; is = cond-false test (list_for part ∷ rest) apart e; comma = refl; values = refl; list = λ value other. cond-false (is_comma second.part && is_values third.part) (list_for other ∷ rest) (list_for other ∷ second ∷ third ∷ rest) (sym (ap (λ b. b && is_comma second.part && is_values third.part) value) ∙ e) }
    ]

-- before what is no comma, and before a comma and what is no value, a part stays alone
pub before_no_comma : (part first : Spaced) (rest : List Spaced) → is_comma first.part ≡ false → joined part (first ∷ rest) ≡ part ∷ first ∷ rest
before_no_comma part first [] h = refl
before_no_comma part first (second ∷ rest) h = cond-false _ _ _ (and_left (is_values part.part && is_comma first.part) (is_values second.part) (and_right (is_values part.part) (is_comma first.part) h))

before_no_values : (part comma first : Spaced) (rest : List Spaced) → is_values first.part ≡ false → joined part (comma ∷ first ∷ rest) ≡ part ∷ comma ∷ first ∷ rest
before_no_values part comma first rest h = cond-false _ _ _ (and_right (is_values part.part && is_comma comma.part) (is_values first.part) h)

pub no_values_alone : (part : Spaced) (rest : List Spaced) → is_values part.part ≡ false → joined part rest ≡ part ∷ rest
no_values_alone part [] h = refl
no_values_alone part (first ∷ []) h = refl
no_values_alone part (first ∷ second ∷ rest) h = cond-false _ _ _ (and_left (is_values part.part && is_comma first.part) (is_values second.part) (and_left (is_values part.part) (is_comma first.part) h))

-- values, a comma and values are one list
pub one_list : (part comma other : Spaced) (rest : List Spaced) → is_values part.part ≡ true → is_comma comma.part ≡ true → is_values other.part ≡ true → joined (list_for part) rest ≡ joined part (joined comma (joined other rest))
one_list part comma other rest part_is comma_is other_is =
    let f = front other rest in
    let all : is_values part.part && is_comma comma.part && is_values f.first.part ≡ true = and_from (is_values part.part && is_comma comma.part) (is_values f.first.part) (and_from (is_values part.part) (is_comma comma.part) part_is comma_is) (f.values ∙ other_is) in
    f.list other_is part
    ∙ sym (ap (joined part) (no_values_alone comma (joined other rest) (no_values comma.part comma_is) ∙ ap (λ (xs : List Spaced). comma ∷ xs) f.is) ∙ cond-true _ _ _ all)

-- a part before what begins with no comma, and before a comma that no value follows
pub alone : (part other : Spaced) (rest : List Spaced) → is_comma other.part ≡ false → joined part (joined other rest) ≡ part ∷ joined other rest
alone part other rest h =
    let f = front other rest in
    ap (joined part) f.is ∙ before_no_comma part f.first f.others (f.comma ∙ h) ∙ ap (λ (xs : List Spaced). part ∷ xs) (sym f.is)

pub alone_with_comma : (part comma other : Spaced) (rest : List Spaced) → is_values comma.part ≡ false → is_values other.part ≡ false → joined part (joined comma (joined other rest)) ≡ part ∷ comma ∷ joined other rest
alone_with_comma part comma other rest no_list h =
    let f = front other rest in
    ap (joined part) (no_values_alone comma (joined other rest) no_list ∙ ap (λ (xs : List Spaced). comma ∷ xs) f.is)
    ∙ before_no_values part comma f.first f.others (f.values ∙ h)
    ∙ ap (λ (xs : List Spaced). part ∷ comma ∷ xs) (sym f.is)
