-- A statement has no more tokens than bytes.
use Rattle.std.proofs.Common.{◌≡◌, ◌≤◌, ℕ, zero, suc, ◌+◌, ◌-◌, not, List, [], ◌∷◌, length, ap, inl, inr, arith}
use Rattle.std.proofs.lemmas.Bool.{cond-true, cond-false, cases_Bool}
use Rattle.sql_tokens.specs.Bytes.{is_white}
use Rattle.sql_tokens.specs.Tokens.{tokens_from, tokens_of, token_at}
use Rattle.sql_tokens.specs.declared.token.Token.{Token}
use Rattle.session_vars.specs.Statement.{is_comment, without_comments, without_end, statement_of}
use Rattle.sql_tokens.specs.Words.{is_symbol}

tokens_size : (place left : ℕ) (bytes : List ℕ) → length (tokens_from place left bytes) ≤ length bytes
unfolding tokens_from
tokens_size place left [] = omega arith
tokens_size place (suc left) (b ∷ bytes) = omega (arith, tokens_size (place + 1) left bytes)
tokens_size place zero (b ∷ bytes) =
    let token = token_at (b ∷ bytes) in
    elim (cases_Bool (is_white b)) [
      | inl e ↦ omega (arith, tokens_size (place + 1) 0 bytes, ap length (cond-true (is_white b) (tokens_from (place + 1) 0 bytes) (record { kind = token.0; start = place; end = place + token.1 } ∷ tokens_from (place + 1) (token.1 - 1) bytes) e))
      | inr e ↦ omega (arith, tokens_size (place + 1) (token.1 - 1) bytes, ap length (cond-false (is_white b) (tokens_from (place + 1) 0 bytes) (record { kind = token.0; start = place; end = place + token.1 } ∷ tokens_from (place + 1) (token.1 - 1) bytes) e))
    ]

counting_size : (tokens : List Token) → length (without_comments tokens) ≤ length tokens
counting_size [] = omega arith
counting_size (token ∷ tokens) =
    elim (cases_Bool (not (is_comment token.kind))) [
      | inl e ↦ omega (arith, counting_size tokens, ap length (cond-true (not (is_comment token.kind)) (token ∷ without_comments tokens) (without_comments tokens) e))
      | inr e ↦ omega (arith, counting_size tokens, ap length (cond-false (not (is_comment token.kind)) (token ∷ without_comments tokens) (without_comments tokens) e))
    ]

end_size : (text : List ℕ) (tokens : List Token) → length (without_end text tokens) ≤ length tokens
end_size text [] = omega arith
end_size text (token ∷ []) =
    elim (cases_Bool (is_symbol text token 59)) [
      | inl e ↦ let none : without_end text (token ∷ []) ≡ [] = cond-true (is_symbol text token 59) _ _ e in omega (arith, ap length none)
      | inr e ↦ let one : without_end text (token ∷ []) ≡ token ∷ [] = cond-false (is_symbol text token 59) _ _ e in omega (arith, ap length one)
    ]
end_size text (token ∷ next ∷ tokens) = omega (arith, end_size text (next ∷ tokens))

pub statement_size : (text : List ℕ) → length (statement_of text) ≤ length text
statement_size text = omega (arith, end_size text (without_comments (tokens_of text)), counting_size (tokens_of text), tokens_size 0 0 text)
