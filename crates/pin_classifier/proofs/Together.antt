-- Tokens side by side.
use Rattle.std.proofs.Common.{◌≡◌, Bool, true, List, [], ◌∷◌, ◌++◌, refl, ◌∙◌, ap, inl, inr}
use Rattle.std.specs.List.{list_any}
use Rattle.std.proofs.lemmas.Bool.{or_cases, or_left, or_right}
use Rattle.sql_tokens.specs.declared.token.Token.{Token}
use Rattle.pin_classifier.specs.Sides.{StandTogether}
use Rattle.pin_classifier.specs.Statement.{neighbours}

pub stand_together : (test : Token × Token → Bool) (tokens : List Token) → list_any test (neighbours tokens) ≡ true → StandTogether test tokens
stand_together test [] h = absurd (cc)
stand_together test (a ∷ []) h = absurd (cc)
stand_together test (a ∷ b ∷ tokens) h =
    elim (or_cases (test (a, b)) (list_any test (neighbours (b ∷ tokens))) h) [
      | inl e ↦ record { before = []; first = a; second = b; behind = tokens; parts = refl; passes = e }
      | inr e ↦
          let more = stand_together test (b ∷ tokens) e in
          record { before = a ∷ more.before; first = more.first; second = more.second; behind = more.behind; parts = ap (λ (rest : List Token). a ∷ rest) more.parts; passes = more.passes }
    ]

found_together : (test : Token × Token → Bool) (before : List Token) (a b : Token) (behind : List Token) → test (a, b) ≡ true → list_any test (neighbours (before ++ a ∷ b ∷ behind)) ≡ true
found_together test [] a b behind passes = or_left (test (a, b)) _ passes
found_together test (x ∷ []) a b behind passes = or_right (test (x, a)) _ (or_left (test (a, b)) _ passes)
found_together test (x ∷ y ∷ before) a b behind passes = or_right (test (x, y)) _ (found_together test (y ∷ before) a b behind passes)

pub together_found : (test : Token × Token → Bool) (tokens : List Token) → StandTogether test tokens → list_any test (neighbours tokens) ≡ true
together_found test tokens stand = ap (λ (all : List Token). list_any test (neighbours all)) stand.parts ∙ found_together test stand.before stand.first stand.second stand.behind stand.passes
