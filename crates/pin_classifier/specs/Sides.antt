-- Two tokens side by side, said by what stands before and behind them.
use Rattle.std.specs.Prelude.{◌≡◌, Bool, true, List, ◌∷◌, ◌++◌}
use Rattle.sql_tokens.specs.declared.token.Token.{Token}

-- somewhere two tokens that pass stand side by side
pub record StandTogether (test : Token × Token → Bool) (tokens : List Token) : Type 0 where
  pub before : List Token
  pub first : Token
  pub second : Token
  pub behind : List Token
  pub parts : tokens ≡ before ++ first ∷ second ∷ behind
  pub passes : test (first, second) ≡ true
