-- The first six tokens of a statement, taken one after the other.
use Rattle.std.proofs.Common.{◌≡◌, ℕ, List, [], ◌∷◌, Option, Some, refl, ◌∙◌, ap}
use Rattle.sql_tokens.specs.declared.token.Token.{Token}
use Rattle.pin_classifier.specs.Passing.{opening_of, with_token, with_next, seen_behind}
use Rattle.pin_classifier.specs.declared.opening.Opening.{Opening}
use Rattle.pin_classifier.specs.declared.seen.Seen.{Seen}

abbrev taken : Opening → List Token → Opening
taken opening [] = opening
taken opening (token ∷ tokens) = taken (with_token opening token) tokens

-- six are kept
six_stay : (a b c d e f : Token) (tokens : List Token) → let six : Opening = record { first = Some a; second = Some b; third = Some c; fourth = Some d; fifth = Some e; sixth = Some f } in taken six tokens ≡ six
six_stay a b c d e f [] = refl
six_stay a b c d e f (token ∷ tokens) = six_stay a b c d e f tokens

taken_is : (tokens : List Token) → taken (opening_of []) tokens ≡ opening_of tokens
taken_is [] = refl
taken_is (a ∷ []) = refl
taken_is (a ∷ b ∷ []) = refl
taken_is (a ∷ b ∷ c ∷ []) = refl
taken_is (a ∷ b ∷ c ∷ d ∷ []) = refl
taken_is (a ∷ b ∷ c ∷ d ∷ e ∷ []) = refl
taken_is (a ∷ b ∷ c ∷ d ∷ e ∷ f ∷ tokens) = six_stay a b c d e f tokens

seen_takes : (text : List ℕ) (seen : Seen) (before : Option Token) (tokens : List Token) → (seen_behind text seen before tokens).opening ≡ taken seen.opening tokens
seen_takes text seen before [] = refl
seen_takes text seen before (token ∷ tokens) = seen_takes text (with_next text seen before token) (Some token) tokens

-- what is seen of a statement begins with its first six tokens
pub opening_seen : (text : List ℕ) (seen : Seen) (before : Option Token) (tokens : List Token) → seen.opening ≡ opening_of [] → (seen_behind text seen before tokens).opening ≡ opening_of tokens
opening_seen text seen before tokens none = seen_takes text seen before tokens ∙ ap (λ (opening : Opening). taken opening tokens) none ∙ taken_is tokens
