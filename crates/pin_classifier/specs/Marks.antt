-- What is looked for in statements that may have it: a token that matters by itself, or by the two right before it.
use Rattle.std.specs.Prelude.{ℕ, Bool, false, not, ◌||◌, ◌&&◌, nat_eq, List, [], ◌∷◌, codes, Some, None}
use Rattle.std.specs.List.{list_any}
use Rattle.sql_tokens.specs.Words.{bytes_of, says, is_symbol, word_of}
use Rattle.sql_tokens.specs.declared.token.Token.{Token}
use Rattle.sql_tokens.specs.declared.token.TokenKind.{TokenKind}
use Rattle.sql_tokens.specs.declared.token.TokenKind.TheVariants.{Word, UserVar, SysVar}
use Rattle.pin_classifier.specs.Diagnostics.{names_any}
use Rattle.pin_classifier.specs.Shapes.{is_there, is_byte}
use Rattle.pin_classifier.specs.Starts.{shows_diagnostics}
use Rattle.pin_classifier.specs.Statement.{is_wide_name, next_word, statement, variable_of}
use Rattle.pin_classifier.specs.WordLists.{is_any}
use Rattle.pin_classifier.specs.declared.word_list.WordList.TheVariants as lists
use Rattle.pin_classifier.specs.declared.recent.Recent.{Recent}
use Rattle.pin_classifier.specs.declared.marks.Mark.{Mark}
use Rattle.pin_classifier.specs.declared.marks.Mark.TheVariants.{GivenId, PreviousValue, ForConnection, BlankInWord, Diagnostic, Lasting, Event}

abbrev pub nothing : Recent
nothing = record { last = None; earlier = None }

abbrev pub followed_by : Recent → Token → Recent
followed_by recent token = record { last = Some token; earlier = recent.last }

-- a word or a variable's name with a byte that is a blank in some character set, as servers may read it
abbrev pub is_other_blank : ℕ → Bool
is_other_blank b = nat_eq b 160 || nat_eq b 255

abbrev pub has_blank : TokenKind → List ℕ → Bool
has_blank Word bytes = list_any is_other_blank bytes
has_blank UserVar bytes = list_any is_other_blank bytes
has_blank SysVar bytes = list_any is_other_blank bytes
has_blank _ bytes = false

-- a word of what lasts, or a name that may be read as one
abbrev pub lasts : (text : List ℕ) → Token → Bool
lasts text token = is_any lists.Lasting (word_of text token) || is_wide_name (word_of text token) || names_any lists.Lasting (variable_of text token) || is_wide_name (variable_of text token)

-- a call of LAST_INSERT_ID with an argument, PREVIOUS VALUE FOR a sequence, FOR CONNECTION, a byte A0 or FF in a word or a variable, SHOW WARNINGS
-- and its like, what lasts, or EVENT
abbrev pub passes : (text : List ℕ) → Mark → Recent → Token → Bool
passes text GivenId recent token = is_byte text recent.last 40 && is_there text recent.earlier (codes "LAST_INSERT_ID") && not (is_symbol text token 41)
passes text PreviousValue recent token = says text token (codes "FOR") && is_there text recent.last (codes "VALUE") && is_there text recent.earlier (codes "PREVIOUS")
passes text ForConnection recent token = says text token (codes "CONNECTION") && is_there text recent.last (codes "FOR")
passes text BlankInWord recent token = has_blank token.kind (bytes_of text token)
passes text Diagnostic recent token = shows_diagnostics (next_word text recent.last) (word_of text token)
passes text Lasting recent token = lasts text token
passes text Event recent token = says text token (codes "EVENT")

-- a token passes, behind those before it
abbrev pub any_with : (test : Recent → Token → Bool) → Recent → List Token → Bool
any_with test recent [] = false
any_with test recent (token ∷ tokens) = test recent token || any_with test (followed_by recent token) tokens

abbrev pub stands : (text : List ℕ) → Mark → Bool
stands text mark = any_with (passes text mark) nothing (statement text)
