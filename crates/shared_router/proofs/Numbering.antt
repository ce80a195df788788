-- Each text and place has a number of its own.
use Rattle.std.specs.Prelude.{◌≡◌, ℕ, zero, suc, List, [], ◌∷◌}
use Rattle.std.proofs.Common.{refl, ap, ◌∙◌}
use Rattle.session_vars.specs.declared.change.SlotValue.{SlotValue}
use Rattle.session_vars.specs.declared.change.SlotValue.TheVariants.{Default, Text}
use Rattle.private_model.specs.Story.{Key}
use Rattle.shared_router.proofs.Pairing.{apart, apart_so, paired}

-- lists of what has numbers

module _ {A : Type 0} (code : A → ℕ) (back : ℕ → A) where
  abbrev size : List A → ℕ
  size [] = 0
  size (x ∷ xs) = suc (size xs)

  abbrev row : List A → ℕ
  row [] = 0
  row (x ∷ xs) = paired (code x) (row xs)

  abbrev unrow : (size : ℕ) → ℕ → List A
  unrow zero n = []
  unrow (suc size) n = back (apart n).0 ∷ unrow size (apart n).1

  abbrev pub list_code : List A → ℕ
  list_code xs = paired (size xs) (row xs)

  abbrev pub list_back : ℕ → List A
  list_back n = unrow (apart n).0 (apart n).1

  module _ (same : (a : A) → back (code a) ≡ a) where
    row_same : (xs : List A) → unrow (size xs) (row xs) ≡ xs
    row_same [] = refl
    row_same (x ∷ xs) =
        ap (λ (p : ℕ × ℕ). back p.0 ∷ unrow (size xs) p.1) (apart_so (code x) (row xs))
        ∙ (ap (λ y. y ∷ unrow (size xs) (row xs)) (same x) ∙ ap (λ ys. x ∷ ys) (row_same xs))

    pub list_same : (xs : List A) → list_back (list_code xs) ≡ xs
    list_same xs = ap (λ (p : ℕ × ℕ). unrow p.0 p.1) (apart_so (size xs) (row xs)) ∙ row_same xs

-- texts

abbrev pub text_code : List ℕ → ℕ
text_code bytes = list_code (λ (x : ℕ). x) (λ x. x) bytes

abbrev pub text_back : ℕ → List ℕ
text_back n = list_back (λ (x : ℕ). x) (λ x. x) n

text_same : (bytes : List ℕ) → text_back (text_code bytes) ≡ bytes
text_same bytes = list_same (λ (x : ℕ). x) (λ x. x) (λ x. refl) bytes

-- the values of settings

abbrev pub value_code : SlotValue → ℕ
value_code Default = 0
value_code (Text bytes) = suc (text_code bytes)

abbrev pub value_back : ℕ → SlotValue
value_back zero = Default
value_back (suc n) = Text (text_back n)

value_same : (value : SlotValue) → value_back (value_code value) ≡ value
value_same Default = refl
value_same (Text bytes) = ap (λ (b : List ℕ). Text b) (text_same bytes)

-- a text and a place

abbrev pub key_code : Key → ℕ
key_code key = paired (text_code key.text) (paired (text_code key.place.schema) (list_code value_code value_back key.place.settings))

abbrev pub key_of_three : (text schema settings : ℕ) → Key
key_of_three text schema settings =
    record { text = text_back text; place = record { schema = text_back schema; settings = list_back value_code value_back settings } }

abbrev pub key_back : ℕ → Key
key_back n = key_of_three (apart n).0 (apart (apart n).1).0 (apart (apart n).1).1

pub key_same : (key : Key) → key_back (key_code key) ≡ key
key_same key =
    let text : ℕ = text_code key.text in
    let schema : ℕ = text_code key.place.schema in
    let settings : ℕ = list_code value_code value_back key.place.settings in
    ap (λ (p : ℕ × ℕ). key_of_three p.0 (apart p.1).0 (apart p.1).1) (apart_so text (paired schema settings))
    ∙ (ap (λ (p : ℕ × ℕ). key_of_three text p.0 p.1) (apart_so schema settings)
    ∙ (ap (λ (b : List ℕ). record { text = b; place = record { schema = text_back schema; settings = list_back value_code value_back settings } }) (text_same key.text)
    ∙ (ap (λ (b : List ℕ). record { text = key.text; place = record { schema = b; settings = list_back value_code value_back settings } }) (text_same key.place.schema)
    ∙ ap (λ (vs : List SlotValue). record { text = key.text; place = record { schema = key.place.schema; settings = vs } })
    (list_same value_code value_back value_same key.place.settings))))
