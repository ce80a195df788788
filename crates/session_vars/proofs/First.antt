-- The first word decides whether a statement is a SET statement.
use Rattle.std.proofs.Common.{◌≡◌, ◌≢◌, ℕ, Bool, true, false, List, [], ◌∷◌, Option, Some, None, codes, refl, sym, ◌∙◌, ap, inl, inr}
use Rattle.std.proofs.lemmas.Bool.{cond-true, cond-false, cond_both, cases_Bool, and_left, false≢true}
use Rattle.sql_tokens.specs.Tokens.{tokens_of}
use Rattle.sql_tokens.specs.Words.{bytes_of, word_by, is_symbol_kind, is_symbol, is_word, says}
use Rattle.sql_tokens.specs.declared.token.Token.{Token}
use Rattle.sql_tokens.specs.declared.token.TokenKind.{TokenKind}
use Rattle.sql_tokens.specs.declared.token.TokenKind.TheVariants.{Symbol}
use Rattle.session_vars.specs.Shapes.{own_changes, own_shape, sets_mode_once, tracked_or_other, shape_behind, shape_by, set_shape}
use Rattle.session_vars.specs.Statement.{says_first, without_comments, without_end}
use Rattle.session_vars.specs.Scopes.{sets_server}
use Rattle.session_vars.specs.declared.change.Change.{Change}
use Rattle.session_vars.specs.declared.shape.SetShape.{SetShape}
use Rattle.session_vars.specs.declared.shape.SetShape.TheVariants.{Global, NextTransaction, NotSet}

other_first : (text : List ℕ) (tokens : List Token) → says_first text tokens (codes "SET") ≡ false → shape_by text (without_end text tokens) ≡ NotSet
other_first text [] other = refl
other_first text (token ∷ []) other =
    elim (cases_Bool (is_symbol text token 59)) [
      | inl e ↦ ap (shape_by text) (cond-true (is_symbol text token 59) _ _ e)
      | inr e ↦ ap (shape_by text) (cond-false (is_symbol text token 59) _ _ e) ∙ cond-false (says text token (codes "SET")) _ _ other
    ]
other_first text (token ∷ next ∷ tokens) other = cond-false (says text token (codes "SET")) _ _ other

pub other_statement : (text : List ℕ) → says_first text (without_comments (tokens_of text)) (codes "SET") ≡ false → set_shape text ≡ NotSet
other_statement text other = other_first text (without_comments (tokens_of text)) other

-- a shape of SET statements
abbrev is_set_shape : SetShape → Bool
is_set_shape NotSet = false
is_set_shape _ = true

tracked_is_set : (changes : Option (List Change)) → is_set_shape (tracked_or_other changes) ≡ true
tracked_is_set (Some changes) = cond_both (sets_mode_once changes) _ _ (λ (shape : SetShape). is_set_shape shape ≡ true) (λ _. refl) (λ _. refl)
tracked_is_set None = refl

behind_is_set : (text : List ℕ) (tokens : List Token) → is_set_shape (shape_behind text tokens) ≡ true
unfolding shape_behind
behind_is_set text tokens =
    let IsSet : SetShape → Type 0 = λ shape. is_set_shape shape ≡ true in
    let changes = own_changes text tokens in
    cond_both (sets_server text 0 true tokens) Global (own_shape text tokens) IsSet (λ _. refl)
    (λ _. cond_both (says_first text tokens (codes "TRANSACTION")) NextTransaction (tracked_or_other changes) IsSet (λ _. refl) (λ _. tracked_is_set changes))

-- a word is no symbol
pub no_symbol : (kind : TokenKind) (bytes word : List ℕ) → is_word (word_by kind bytes) word ≡ true → is_symbol_kind kind ≡ false
no_symbol Symbol bytes word says = absurd (cc)
no_symbol _ bytes word says = refl

set_first : (text : List ℕ) (tokens : List Token) → says_first text tokens (codes "SET") ≡ true → is_set_shape (shape_by text (without_end text tokens)) ≡ true
set_first text [] is = absurd (cc)
set_first text (token ∷ []) is =
    let no_end : is_symbol text token 59 ≡ false = and_left _ _ (no_symbol token.kind (bytes_of text token) (codes "SET") is) in
    ap (λ (tokens : List Token). is_set_shape (shape_by text tokens)) (cond-false (is_symbol text token 59) _ _ no_end)
    ∙ ap is_set_shape (cond-true (says text token (codes "SET")) _ _ is)
    ∙ behind_is_set text []
set_first text (token ∷ next ∷ tokens) is = ap is_set_shape (cond-true (says text token (codes "SET")) _ _ is) ∙ behind_is_set text (without_end text (next ∷ tokens))

pub set_statement : (text : List ℕ) → says_first text (without_comments (tokens_of text)) (codes "SET") ≡ true → set_shape text ≢ NotSet
set_statement text is other = false≢true (sym (ap is_set_shape other) ∙ set_first text (without_comments (tokens_of text)) is)
