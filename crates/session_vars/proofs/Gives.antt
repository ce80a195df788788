-- What SET statements give are tracked values.
use Rattle.std.proofs.Common.{◌≡◌, ℕ, ◌-◌, Bool, true, false, not, ◌&&◌, cond, List, [], ◌∷◌, ◌++◌, Option, Some, None, take, drop, codes, refl, sym, subst, ◌∙◌, ap, inl, inr}
use Rattle.std.specs.List.{list_all}
use Rattle.std.proofs.lemmas.Bool.{cond-true, cond-false, cases_Bool, and_parts}
use Rattle.std.proofs.lemmas.List.{append-nil}
use Rattle.sql_tokens.specs.Spans.{AreTokens}
use Rattle.sql_tokens.specs.Tokens.{token_at, tokens_of}
use Rattle.sql_tokens.specs.Words.{bytes_of, inside, is_symbol}
use Rattle.sql_tokens.specs.declared.token.Token.{Token}
use Rattle.sql_tokens.specs.declared.token.TokenKind.{TokenKind}
use Rattle.sql_tokens.specs.declared.token.TokenKind.TheVariants.{Word, Quoted, Number}
use Rattle.sql_tokens.proofs.OneList.{are_tokens}
use Rattle.session_vars.specs.Statement.{is_comment, without_comments, without_end, statement_of}
use Rattle.session_vars.specs.Texts.{is_names, value_text}
use Rattle.session_vars.specs.Tracked.{IsOneToken, IsAssignable, IsTrackedValue}
use Rattle.session_vars.specs.Values.{kept, is_plain_byte, is_default, plain_value, is_character_set, names_collation, has_reading_mode, may_be, value_of, takes_numbers, negative_value}
use Rattle.session_vars.specs.declared.change.SlotValue.{SlotValue}
use Rattle.session_vars.specs.declared.change.SlotValue.TheVariants.{Default, Text}
use Rattle.session_vars.specs.declared.slot.Slot.{Slot}
use Rattle.session_vars.specs.declared.slot.Slot.TheVariants.{Names, CharacterSetResults, CollationConnection, SqlMode, SqlAutoIsNull}
use Rattle.session_vars.proofs.OneToken.{word_front, number_front, alone, some_if, kept_is, quoted_value}
use Rattle.session_vars.proofs.Rules.{IsWordText, IsNumberText, in_quotes, inside_quotes, word_piece, number_piece, quoted_piece}

-- what is known of the bytes of a token of this kind
abbrev pub IsTokenText : TokenKind → List ℕ → Type 0
IsTokenText Word bytes = IsWordText bytes
IsTokenText Number bytes = IsNumberText bytes
IsTokenText _ bytes = Unit {0}

abbrev found : TokenKind → ℕ → TokenKind × ℕ
found kind n = (kind, n)

front_text : (kind : TokenKind) (bytes : List ℕ) (n : ℕ) → token_at bytes ≡ found kind n → IsTokenText kind (take n bytes)
front_text Word bytes n is = word_front bytes n is
front_text Number bytes n is = number_front bytes n is
front_text _ bytes n is = tt

-- so each token of a text is such
abbrev pub AreFound : (text : List ℕ) → List Token → Type 0
AreFound text [] = Unit {0}
AreFound text (token ∷ tokens) = IsTokenText token.kind (bytes_of text token) × AreFound text tokens

tokens_found : (text : List ℕ) (place : ℕ) (tokens : List Token) → AreTokens text place tokens → AreFound text tokens
tokens_found text place [] are = tt
tokens_found text place (token ∷ tokens) are = (front_text token.kind (drop token.start text) (token.end - token.start) are.0.rule, tokens_found text token.end tokens are.1)

counting_found : (text : List ℕ) (tokens : List Token) → AreFound text tokens → AreFound text (without_comments tokens)
counting_found text [] are = tt
counting_found text (token ∷ tokens) are =
    let rest = counting_found text tokens are.1 in
    elim (cases_Bool (not (is_comment token.kind))) [
      | inl e ↦ subst (AreFound text) (sym (cond-true (not (is_comment token.kind)) (token ∷ without_comments tokens) _ e)) (are.0, rest)
      | inr e ↦ subst (AreFound text) (sym (cond-false (not (is_comment token.kind)) (token ∷ without_comments tokens) _ e)) rest
    ]

ended_found : (text : List ℕ) (tokens : List Token) → AreFound text tokens → AreFound text (without_end text tokens)
ended_found text [] are = tt
ended_found text (token ∷ []) are =
    elim (cases_Bool (is_symbol text token 59)) [
      | inl e ↦ subst (AreFound text) (sym (cond-true (is_symbol text token 59) [] (token ∷ []) e)) tt
      | inr e ↦ subst (AreFound text) (sym (cond-false (is_symbol text token 59) [] (token ∷ []) e)) are
    ]
ended_found text (token ∷ next ∷ tokens) are = (are.0, ended_found text (next ∷ tokens) are.1)

pub statement_found : (text : List ℕ) → AreFound text (statement_of text)
statement_found text = ended_found text (without_comments (tokens_of text)) (counting_found text (tokens_of text) (tokens_found text 0 (tokens_of text) (are_tokens text 0)))

-- assignable values are tracked
pub assignable_tracked : (slot : Slot) (value : SlotValue) → is_names slot ≡ false → IsAssignable slot value → IsTrackedValue slot value
assignable_tracked Names value other assignable = absurd (cc)
assignable_tracked CharacterSetResults Default other assignable = tt
assignable_tracked CharacterSetResults (Text bytes) other assignable = assignable
assignable_tracked CollationConnection Default other assignable = tt
assignable_tracked CollationConnection (Text bytes) other assignable = assignable
assignable_tracked _ value other assignable = assignable

default_word : IsOneToken Word (codes "DEFAULT")
default_word = alone Word (codes "DEFAULT") (word_piece (codes "DEFAULT") [] (refl, refl) tt)

pub default_tracked : (slot : Slot) → is_names slot ≡ false → IsTrackedValue slot Default
unfolding value_of plain_value
default_tracked Names other = absurd (cc)
default_tracked CharacterSetResults other = tt
default_tracked CollationConnection other = tt
default_tracked _ other = inl (record { kind = Word; token = default_word; gives = refl })

abbrev may_be_inside : Slot → List ℕ → Bool
may_be_inside CharacterSetResults text = is_character_set text
may_be_inside CollationConnection text = names_collation text
may_be_inside SqlMode text = not (has_reading_mode text)
may_be_inside SqlAutoIsNull text = false
may_be_inside _ text = true

abbrev quoted_by : Slot → List ℕ → Option SlotValue
quoted_by slot text = cond (may_be_inside slot text) (cond (list_all is_plain_byte text) (kept (in_quotes text)) None) None

quoted_is : (slot : Slot) (bytes : List ℕ) → value_of slot Quoted bytes ≡ quoted_by slot (inside bytes)
unfolding value_of plain_value
quoted_is CharacterSetResults bytes = refl
quoted_is CollationConnection bytes = refl
quoted_is SqlMode bytes = refl
quoted_is SqlAutoIsNull bytes = refl
quoted_is _ bytes = refl

quoted_assignable : (slot : Slot) (bytes : List ℕ) (value : SlotValue) → value_of slot Quoted bytes ≡ Some value → IsAssignable slot value
quoted_assignable slot bytes value gives =
    let text = inside bytes in
    let quoted = quoted_value slot bytes value gives in
    let again : value_of slot Quoted (in_quotes text) ≡ Some value = quoted_is slot (in_quotes text) ∙ ap (quoted_by slot) (inside_quotes text) ∙ sym (quoted_is slot bytes) ∙ gives in
    let said : value_text value ≡ in_quotes text = ap value_text quoted.0 in
    inl (record { kind = Quoted; token = subst (IsOneToken Quoted) (sym said) (alone Quoted (in_quotes text) (quoted_piece text [] quoted.1 tt)); gives = ap (value_of slot Quoted) said ∙ again })

-- a number or a word that isn't DEFAULT is its own text
plain_assignable : (slot : Slot) (kind : TokenKind) (bytes : List ℕ) (value : SlotValue) → IsOneToken kind bytes → value ≡ Text bytes → value_of slot kind bytes ≡ Some value → IsAssignable slot value
plain_assignable slot kind bytes value one is gives =
    let said : value_text value ≡ bytes = ap value_text is in
    inl (record { kind = kind; token = subst (IsOneToken kind) (sym said) one; gives = ap (value_of slot kind) said ∙ gives })

word_tracked : (slot : Slot) (bytes : List ℕ) (value : SlotValue) → is_names slot ≡ false → IsWordText bytes → value_of slot Word bytes ≡ Some value → IsTrackedValue slot value
unfolding value_of plain_value
word_tracked slot bytes value other word gives =
    let plain = (some_if (may_be slot Word bytes) (plain_value Word bytes) value gives).1 in
    elim (cases_Bool (is_default bytes)) [
      | inl e ↦ let default : Some Default ≡ Some value = sym (cond-true (is_default bytes) _ _ e) ∙ plain in subst (IsTrackedValue slot) (cc) (default_tracked slot other)
      | inr e ↦
          let is : value ≡ Text bytes = kept_is bytes value (sym (cond-false (is_default bytes) _ _ e) ∙ plain) in
          assignable_tracked slot value other (plain_assignable slot Word bytes value (alone Word bytes (word_piece bytes [] word tt)) is gives)
    ]

number_tracked : (slot : Slot) (bytes : List ℕ) (value : SlotValue) → is_names slot ≡ false → IsNumberText bytes → value_of slot Number bytes ≡ Some value → IsTrackedValue slot value
unfolding value_of plain_value
number_tracked slot bytes value other number gives =
    let is : value ≡ Text bytes = kept_is bytes value (some_if (may_be slot Number bytes) (plain_value Number bytes) value gives).1 in
    assignable_tracked slot value other (plain_assignable slot Number bytes value (alone Number bytes (number_piece bytes [] number tt)) is gives)

pub value_tracked : (slot : Slot) (kind : TokenKind) (bytes : List ℕ) (value : SlotValue) → is_names slot ≡ false → IsTokenText kind bytes → value_of slot kind bytes ≡ Some value → IsTrackedValue slot value
unfolding value_of plain_value
value_tracked slot Word bytes value other text gives = word_tracked slot bytes value other text gives
value_tracked slot Number bytes value other text gives = number_tracked slot bytes value other text gives
value_tracked slot Quoted bytes value other text gives = assignable_tracked slot value other (quoted_assignable slot bytes value gives)
value_tracked slot kind bytes value other text gives = let none : None ≡ Some value = (some_if (may_be slot kind bytes) None value gives).1 in absurd (cc)

pub negative_tracked : (slot : Slot) (kind : TokenKind) (bytes : List ℕ) (value : SlotValue) → is_names slot ≡ false → IsTokenText kind bytes → negative_value slot kind bytes ≡ Some value → IsTrackedValue slot value
unfolding negative_value
negative_tracked slot Number bytes value other text gives =
    let is : value ≡ Text (45 ∷ (bytes ++ [])) = kept_is (45 ∷ (bytes ++ [])) value (some_if (takes_numbers slot && true) (kept (45 ∷ (bytes ++ []))) value gives).1 in
    assignable_tracked slot value other (inr (inl (record { number = bytes; parts = ap value_text is ∙ ap (λ (rest : List ℕ). 45 ∷ rest) (append-nil bytes); token = alone Number bytes (number_piece bytes [] text tt); gives = gives })))
negative_tracked slot kind bytes value other text gives = let none = (and_parts (takes_numbers slot) false (some_if (takes_numbers slot && false) (kept (45 ∷ (bytes ++ []))) value gives).0).1 in absurd (cc)
