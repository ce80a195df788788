-- The first token and those behind it.
use Rattle.std.proofs.Common.{◌≡◌, ◌≤◌, ◌-◌, ℕ, List, ◌∷◌, length, get_or, take, drop}
use Rattle.std.proofs.Math.Seq.{drop-cons}
use Rattle.std.proofs.lemmas.List.{take_rest}
use Rattle.sql_tokens.specs.declared.token.Token.{Token}

pub split_first : (tokens : List Token) (d : Token) → 1 ≤ length tokens → tokens ≡ get_or tokens 0 d ∷ take (length tokens - 1) (drop 1 tokens)
split_first tokens d some = rw (take_rest tokens 1) (drop-cons tokens 0 d some)
