-- What stands anywhere in a statement, looked for at each token with the one before it.
use Rattle.std.proofs.Common.{◌≡◌, ℕ, Bool, true, false, cond, ◌||◌, ◌&&◌, List, [], ◌∷◌, Option, Some, None, refl, sym, ◌∙◌, ap}
use Rattle.std.specs.List.{list_any}
use Rattle.std.proofs.Math.Bool.{or_assoc, or-false, and-true}
use Rattle.std.proofs.lemmas.Bool.{and_right}
use Rattle.sql_tokens.specs.Words.{word_of, is_word, is_symbol}
use Rattle.sql_tokens.specs.declared.token.Token.{Token}
use Rattle.pin_classifier.specs.Functions.{calls_any}
use Rattle.pin_classifier.specs.Passing.{callee, with_next, seen_behind}
use Rattle.pin_classifier.specs.Statement.{calls, neighbours}
use Rattle.pin_classifier.specs.declared.seen.Seen.{Seen}

abbrev pub any_behind : (Option Token → Token → Bool) → (before : Option Token) → List Token → Bool
any_behind test before [] = false
any_behind test before (token ∷ tokens) = test before token || any_behind test (Some token) tokens

-- what was seen before, or is seen at a token
passes : (text : List ℕ) (field : Seen → Bool) (test : Option Token → Token → Bool) → ((seen : Seen) (before : Option Token) (token : Token) → field (with_next text seen before token) ≡ (field seen || test before token)) → (seen : Seen) (before : Option Token) (tokens : List Token) → field (seen_behind text seen before tokens) ≡ (field seen || any_behind test before tokens)
passes text field test step seen before [] = sym (or-false (field seen))
passes text field test step seen before (token ∷ tokens) =
    passes text field test step (with_next text seen before token) (Some token) tokens
    ∙ ap (λ b. b || any_behind test (Some token) tokens) (step seen before token)
    ∙ or_assoc (field seen) (test before token) (any_behind test (Some token) tokens)

any_token : (test : Token → Bool) (before : Option Token) (tokens : List Token) → any_behind (λ _ token. test token) before tokens ≡ list_any test tokens
any_token test before [] = refl
any_token test before (token ∷ tokens) = ap (λ b. test token || b) (any_token test (Some token) tokens)

any_pair : (test : Option Token → Token → Bool) (pair_test : Token × Token → Bool) → ((before token : Token) → test (Some before) token ≡ pair_test (before, token)) → (before : Token) (tokens : List Token) → any_behind test (Some before) tokens ≡ list_any pair_test (neighbours (before ∷ tokens))
any_pair test pair_test same before [] = refl
any_pair test pair_test same before (token ∷ tokens) =
    ap (λ b. b || any_behind test (Some token) tokens) (same before token)
    ∙ ap (λ b. pair_test (before, token) || b) (any_pair test pair_test same token tokens)

any_first_pair : (test : Option Token → Token → Bool) (pair_test : Token × Token → Bool) → ((token : Token) → test None token ≡ false) → ((before token : Token) → test (Some before) token ≡ pair_test (before, token)) → (tokens : List Token) → any_behind test None tokens ≡ list_any pair_test (neighbours tokens)
any_first_pair test pair_test none same [] = refl
any_first_pair test pair_test none same (token ∷ tokens) =
    ap (λ b. b || any_behind test (Some token) tokens) (none token)
    ∙ any_pair test pair_test same token tokens

-- a field that starts false and is raised by single tokens
pub seen_token : (text : List ℕ) (field : Seen → Bool) (test : Token → Bool) (start : Seen) → ((seen : Seen) (before : Option Token) (token : Token) → field (with_next text seen before token) ≡ (field seen || test token)) → field start ≡ false → (tokens : List Token) → field (seen_behind text start None tokens) ≡ list_any test tokens
seen_token text field test start step none tokens =
    passes text field (λ _ token. test token) step start None tokens
    ∙ ap (λ b. b || any_behind (λ _ token. test token) None tokens) none
    ∙ any_token test None tokens

-- and one that is raised by neighbours
pub seen_pair : (text : List ℕ) (field : Seen → Bool) (test : Option Token → Token → Bool) (pair_test : Token × Token → Bool) (start : Seen) → ((seen : Seen) (before : Option Token) (token : Token) → field (with_next text seen before token) ≡ (field seen || test before token)) → field start ≡ false → ((token : Token) → test None token ≡ false) → ((before token : Token) → test (Some before) token ≡ pair_test (before, token)) → (tokens : List Token) → field (seen_behind text start None tokens) ≡ list_any pair_test (neighbours tokens)
seen_pair text field test pair_test start step none first same tokens =
    passes text field test step start None tokens
    ∙ ap (λ b. b || any_behind test None tokens) none
    ∙ any_first_pair test pair_test first same tokens

-- a `(` behind a word is a call of it
call_is : (named : Option (List ℕ)) (name : List ℕ) (opens : Bool) → is_word (cond opens named None) name ≡ (is_word named name && opens)
call_is named name true = sym (and-true (is_word named name))
call_is named name false = sym (and_right (is_word named name) false refl)

passes_if : (test : Option (List ℕ) → Bool) (named : Option (List ℕ)) (opens : Bool) → test None ≡ false → test (cond opens named None) ≡ (test named && opens)
passes_if test named true absent = sym (and-true (test named))
passes_if test named false absent = absent ∙ sym (and_right (test named) false refl)

pub callee_passes : (text : List ℕ) (test : Option (List ℕ) → Bool) → test None ≡ false → (before token : Token) → test (callee text (Some before) token) ≡ calls_any text test (before, token)
callee_passes text test absent before token = passes_if test (word_of text before) (is_symbol text token 40) absent

pub callee_is : (text name : List ℕ) (before token : Token) → is_word (callee text (Some before) token) name ≡ calls text name (before, token)
callee_is text name before token = call_is (word_of text before) name (is_symbol text token 40)
