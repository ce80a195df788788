-- Tokens of given texts.
use Rattle.std.proofs.Common.{◌≡◌, [], ◌∷◌, refl}
use Rattle.sql_tokens.specs.Comments.{begins_line_comment, begins_block, block_length}
use Rattle.sql_tokens.specs.Quotes.{begins_quoted, begins_name, quoted_length}
use Rattle.sql_tokens.specs.Numbers.{hexadecimal_length, fraction_length, sign_length, exponent_length, decimal_length, number_length}
use Rattle.sql_tokens.specs.Variables.{system_variable_length, variable_name_length}
use Rattle.sql_tokens.specs.Tokens.{plain_token_at, token_at, tokens_from, tokens_of}
use Rattle.sql_tokens.specs.declared.token.TokenKind.TheVariants.{Word, Quoted, Number, UserVar, SysVar, Symbol, Comment, Executed, Unclosed}

-- DO 1.5e3 -- x
comment_last : tokens_of (68 ∷ 79 ∷ 32 ∷ 49 ∷ 46 ∷ 53 ∷ 101 ∷ 51 ∷ 32 ∷ 45 ∷ 45 ∷ 32 ∷ 120 ∷ []) ≡ record { kind = Word; start = 0; end = 2 } ∷ record { kind = Number; start = 3; end = 8 } ∷ record { kind = Comment; start = 9; end = 13 } ∷ []
unfolding begins_line_comment begins_block block_length begins_quoted begins_name quoted_length hexadecimal_length fraction_length sign_length exponent_length decimal_length number_length system_variable_length variable_name_length plain_token_at token_at tokens_from
comment_last = refl

-- n='O''B'/*!*/'
quote_open : tokens_of (110 ∷ 61 ∷ 39 ∷ 79 ∷ 39 ∷ 39 ∷ 66 ∷ 39 ∷ 47 ∷ 42 ∷ 33 ∷ 42 ∷ 47 ∷ 39 ∷ []) ≡ record { kind = Word; start = 0; end = 1 } ∷ record { kind = Symbol; start = 1; end = 2 } ∷ record { kind = Quoted; start = 2; end = 8 } ∷ record { kind = Executed; start = 8; end = 13 } ∷ record { kind = Unclosed; start = 13; end = 14 } ∷ []
unfolding begins_line_comment begins_block block_length begins_quoted begins_name quoted_length hexadecimal_length fraction_length sign_length exponent_length decimal_length number_length system_variable_length variable_name_length plain_token_at token_at tokens_from
quote_open = refl

-- @@a.b@ 0X
variables : tokens_of (64 ∷ 64 ∷ 97 ∷ 46 ∷ 98 ∷ 64 ∷ 32 ∷ 48 ∷ 88 ∷ []) ≡ record { kind = SysVar; start = 0; end = 5 } ∷ record { kind = UserVar; start = 5; end = 6 } ∷ record { kind = Number; start = 7; end = 8 } ∷ record { kind = Word; start = 8; end = 9 } ∷ []
unfolding begins_line_comment begins_block block_length begins_quoted begins_name quoted_length hexadecimal_length fraction_length sign_length exponent_length decimal_length number_length system_variable_length variable_name_length plain_token_at token_at tokens_from
variables = refl
