-- One `;` at the end of a statement.
use Rattle.std.proofs.Common.{◌≡◌, ℕ, true, false, nat_eq, List, [], ◌∷◌, Option, length, slice_get, refl, ap, eqb-true, arith}
use Rattle.std.proofs.lemmas.Bool.{cond-true, cond-false}
use Rattle.sql_tokens.specs.Words.{is_symbol}
use Rattle.sql_tokens.specs.declared.token.Token.{Token}
use Rattle.session_vars.specs.Statement.{says_first, says_there, without_end}

pub end_alone : (text : List ℕ) (token : Token) (rest : List Token) → is_symbol text token 59 ≡ true → nat_eq (length rest) 0 ≡ true → without_end text (token ∷ rest) ≡ []
end_alone text token [] ends none = cond-true (is_symbol text token 59) _ _ ends
end_alone text token (next ∷ rest) ends none = let zero : length (next ∷ rest) ≡ 0 = eqb-true (length (next ∷ rest)) 0 none in absurd (omega arith)

pub no_end : (text : List ℕ) (token : Token) (rest : List Token) → is_symbol text token 59 ≡ false → without_end text (token ∷ rest) ≡ token ∷ without_end text rest
no_end text token [] other = cond-false (is_symbol text token 59) _ _ other
no_end text token (next ∷ rest) other = refl

pub more_behind : (text : List ℕ) (token : Token) (rest : List Token) → nat_eq (length rest) 0 ≡ false → without_end text (token ∷ rest) ≡ token ∷ without_end text rest
more_behind text token [] some = absurd (cc)
more_behind text token (next ∷ rest) some = refl

-- the first of some tokens
pub first_says : (text : List ℕ) (tokens : List Token) (first : Option Token) (word : List ℕ) → first ≡ slice_get tokens 0 → says_there text first word ≡ says_first text tokens word
first_says text [] first word is = ap (λ token. says_there text token word) is
first_says text (token ∷ tokens) first word is = ap (λ token. says_there text token word) is
