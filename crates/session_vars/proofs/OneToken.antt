-- Values of one token.
use Rattle.std.proofs.Common.{◌≡◌, ◌≤◌, ◌<◌, ℕ, zero, suc, Bool, true, false, not, cond, nat_eq, nat_le, List, [], ◌∷◌, Option, Some, None, length, take, refl, sym, subst, ◌∙◌, ap, inl, inr, arith}
use Rattle.std.specs.Char.{is_ascii_digit}
use Rattle.std.specs.List.{prefix_len, list_all}
use Rattle.std.proofs.lemmas.Bool.{cond-true, cond-false, cases_Bool, both_ways, and_from, eqb-true, eqb-false, not-true, not-false}
use Rattle.std.proofs.lemmas.List.{append-nil, length-take-le}
use Rattle.std.proofs.Math.Seq.{take-length}
use Rattle.sql_tokens.specs.Bytes.{has_byte, is_word_byte}
use Rattle.sql_tokens.specs.Comments.{begins_line_comment, line_length, begins_block, block_length, executes}
use Rattle.sql_tokens.specs.Numbers.{number_length}
use Rattle.sql_tokens.specs.Numerals.{IsNumeral}
use Rattle.sql_tokens.specs.Quotes.{begins_quoted, begins_name, quoted_length}
use Rattle.sql_tokens.specs.Tokens.{closed, plain_token_at, token_at}
use Rattle.sql_tokens.specs.Variables.{system_variable_length}
use Rattle.sql_tokens.specs.Words.{inside}
use Rattle.sql_tokens.specs.declared.token.TokenKind.{TokenKind}
use Rattle.sql_tokens.specs.declared.token.TokenKind.TheVariants.{Word, Quoted, Name, Number, SysVar, Symbol, Comment, Executed}
use Rattle.sql_tokens.proofs.LongestNumbers.{number_found, longest_number}
use Rattle.sql_tokens.proofs.Lengths.{number_length-le}
use Rattle.sql_tokens.proofs.Runs.{all_in_run}
use Rattle.session_vars.specs.Texts.{value_text}
use Rattle.session_vars.specs.Tracked.{IsOneToken}
use Rattle.session_vars.specs.Values.{kept, is_plain_byte, plain_value, value_of, may_be}
use Rattle.session_vars.specs.declared.change.SlotValue.{SlotValue}
use Rattle.session_vars.specs.declared.change.SlotValue.TheVariants.{Text}
use Rattle.session_vars.specs.declared.slot.Slot.{Slot}
use Rattle.session_vars.proofs.Pieces.{Stops, IsPiece}
use Rattle.session_vars.proofs.Rules.{IsWordText, IsNumberText, in_quotes, word_piece, number_piece, quoted_piece}

-- a kind that needs no end
abbrev is_word_or_number : TokenKind → Bool
is_word_or_number Word = true
is_word_or_number Number = true
is_word_or_number _ = false

abbrev is_word_kind : TokenKind → Bool
is_word_kind Word = true
is_word_kind _ = false

abbrev is_number_kind : TokenKind → Bool
is_number_kind Number = true
is_number_kind _ = false

-- a token is of no kind that a test refuses
no_kind : (test : TokenKind → Bool) (a b : TokenKind × ℕ) → a ≡ b → test a.0 ≡ false → test b.0 ≡ true → ⊥
no_kind test a b same refused passed = both_ways (test a.0) refused (ap (λ (t : TokenKind × ℕ). test t.0) same ∙ passed)

closed_refused : (kind : TokenKind) (end : Option ℕ) (bytes : List ℕ) → is_word_or_number kind ≡ false → is_word_or_number (closed kind end bytes).0 ≡ false
closed_refused kind None bytes refused = refl
closed_refused kind (Some n) bytes refused = refused

block_refused : (executed : Bool) → is_word_or_number (cond executed Executed Comment) ≡ false
block_refused true = refl
block_refused false = refl

-- a word or a number comes of the rules that need no end
plain_rule : (bytes : List ℕ) (found : TokenKind × ℕ) → is_word_or_number found.0 ≡ true → token_at bytes ≡ found → plain_token_at bytes ≡ found
unfolding token_at
plain_rule bytes found kind is =
    let block = closed (cond (executes bytes) Executed Comment) (block_length bytes) bytes in
    let quoted = closed Quoted (quoted_length bytes) bytes in
    let name = closed Name (quoted_length bytes) bytes in
    elim (cases_Bool (begins_line_comment bytes)) [
      | inl e ↦ absurd (no_kind is_word_or_number (Comment, line_length bytes) found (sym (cond-true (begins_line_comment bytes) _ _ e) ∙ is) refl kind)
      | inr no_comment ↦
          let after_comment = sym (cond-false (begins_line_comment bytes) _ _ no_comment) ∙ is in
          elim (cases_Bool (begins_block bytes)) [
            | inl e ↦ absurd (no_kind is_word_or_number block found (sym (cond-true (begins_block bytes) _ _ e) ∙ after_comment) (closed_refused _ (block_length bytes) bytes (block_refused (executes bytes))) kind)
            | inr no_block ↦
                let after_block = sym (cond-false (begins_block bytes) _ _ no_block) ∙ after_comment in
                elim (cases_Bool (begins_quoted bytes)) [
                  | inl e ↦ absurd (no_kind is_word_or_number quoted found (sym (cond-true (begins_quoted bytes) _ _ e) ∙ after_block) (closed_refused Quoted (quoted_length bytes) bytes refl) kind)
                  | inr no_quoted ↦
                      let after_quoted = sym (cond-false (begins_quoted bytes) _ _ no_quoted) ∙ after_block in
                      elim (cases_Bool (begins_name bytes)) [
                        | inl e ↦ absurd (no_kind is_word_or_number name found (sym (cond-true (begins_name bytes) _ _ e) ∙ after_quoted) (closed_refused Name (quoted_length bytes) bytes refl) kind)
                        | inr no_name ↦ sym (cond-false (begins_name bytes) _ _ no_name) ∙ after_quoted
                      ]
                ]
          ]
    ]

-- and of those behind variables
abbrev word_or_symbol : List ℕ → TokenKind × ℕ
word_or_symbol bytes = cond (not (nat_eq (prefix_len is_word_byte bytes) 0)) (Word, prefix_len is_word_byte bytes) (Symbol, 1)

abbrev number_or_word : List ℕ → TokenKind × ℕ
number_or_word bytes = cond (not (nat_eq (number_length bytes) 0)) (Number, number_length bytes) (word_or_symbol bytes)

no_variable_rule : (bytes : List ℕ) (found : TokenKind × ℕ) → is_word_or_number found.0 ≡ true → plain_token_at bytes ≡ found → number_or_word bytes ≡ found
unfolding plain_token_at
no_variable_rule bytes found kind is =
    elim (cases_Bool (not (nat_eq (system_variable_length bytes) 0))) [
      | inl e ↦ absurd (no_kind is_word_or_number (SysVar, system_variable_length bytes) found (sym (cond-true (not (nat_eq (system_variable_length bytes) 0)) _ _ e) ∙ is) refl kind)
      | inr no_system ↦
          let after_system = sym (cond-false (not (nat_eq (system_variable_length bytes) 0)) _ _ no_system) ∙ is in
          elim (cases_Bool (has_byte bytes 0 64)) [
            | inl e ↦ absurd (no_kind is_word_or_number _ found (sym (cond-true (has_byte bytes 0 64) _ _ e) ∙ after_system) refl kind)
            | inr no_user ↦ sym (cond-false (has_byte bytes 0 64) _ _ no_user) ∙ after_system
          ]
    ]

abbrev found : TokenKind → ℕ → TokenKind × ℕ
found kind n = (kind, n)

abbrev rule_gives : List ℕ → TokenKind → ℕ → Type 0
rule_gives bytes kind n = number_or_word bytes ≡ found kind n

rule_of : (bytes : List ℕ) (found : TokenKind × ℕ) → is_word_or_number found.0 ≡ true → token_at bytes ≡ found → number_or_word bytes ≡ found
rule_of bytes found kind is = no_variable_rule bytes found kind (plain_rule bytes found kind is)

-- a number that was found, alone
number_size : (bytes : List ℕ) (n : ℕ) → rule_gives bytes Number n → (0 < n) × (number_length bytes ≡ n)
number_size bytes n is =
    let number = not (nat_eq (number_length bytes) 0) in
    let word = not (nat_eq (prefix_len is_word_byte bytes) 0) in
    elim (cases_Bool number) [
      | inl e ↦
          let size : number_length bytes ≡ n = ap (λ (t : TokenKind × ℕ). t.1) (sym (cond-true number _ _ e) ∙ is) in
          let some : number_length bytes ≡ 0 → ⊥ = eqb-false _ 0 (not-true _ e) in
          (omega arith, size)
      | inr no_number ↦
          let left : word_or_symbol bytes ≡ found Number n = sym (cond-false number _ _ no_number) ∙ is in
          elim (cases_Bool word) [
            | inl e ↦ absurd (no_kind is_number_kind (Word, prefix_len is_word_byte bytes) (found Number n) (sym (cond-true word _ _ e) ∙ left) refl refl)
            | inr e ↦ absurd (no_kind is_number_kind (Symbol, 1) (found Number n) (sym (cond-false word _ _ e) ∙ left) refl refl)
          ]
    ]

pub number_front : (bytes : List ℕ) (n : ℕ) → token_at bytes ≡ found Number n → IsNumberText (take n bytes)
number_front bytes n is =
    let size = number_size bytes n (rule_of bytes (found Number n) refl is) in
    let front = take n bytes in
    let long : length front ≡ n = length-take-le n bytes (omega (arith, number_length-le bytes)) in
    let numeral : IsNumeral front = subst (λ (k : ℕ). IsNumeral (take k bytes)) size.1 (number_found bytes (omega arith)) in
    let least : length front ≤ number_length front = longest_number front front [] (sym (append-nil front)) numeral in
    (omega arith, omega (arith, number_length-le front))

pub number_text : (bytes : List ℕ) → IsOneToken Number bytes → IsNumberText bytes
number_text bytes one = subst IsNumberText (take-length bytes) (number_front bytes (length bytes) one.1)

-- and a word
begins_no_number : (b : ℕ) (bytes : List ℕ) → number_length (b ∷ bytes) ≡ 0 → is_ascii_digit b ≡ false
begins_no_number b bytes none =
    elim (cases_Bool (is_ascii_digit b)) [
      | inl digit ↦
          let is : IsNumeral (b ∷ []) = inr (record { integer = b ∷ []; fraction = []; exponent = []; parts = refl; is_integer = and_from (is_ascii_digit b) true digit refl; is_fraction = tt; is_exponent = tt; some = omega arith }) in
          let long : 1 ≤ number_length (b ∷ bytes) = longest_number (b ∷ bytes) (b ∷ []) bytes refl is in
          absurd (omega arith)
      | inr no_digit ↦ no_digit
    ]

word_bytes : (bytes : List ℕ) (n : ℕ) → 0 < n → n ≤ prefix_len is_word_byte bytes → number_length bytes ≡ 0 → IsWordText (take n bytes)
word_bytes bytes zero some run none = absurd (omega arith)
word_bytes [] (suc n) some run none = absurd (omega arith)
word_bytes (b ∷ bytes) (suc n) some run none = (begins_no_number b bytes none, all_in_run is_word_byte (b ∷ bytes) (suc n) run)

pub word_front : (bytes : List ℕ) (n : ℕ) → token_at bytes ≡ found Word n → IsWordText (take n bytes)
word_front bytes n is =
    let rule = rule_of bytes (found Word n) refl is in
    let number = not (nat_eq (number_length bytes) 0) in
    let word = not (nat_eq (prefix_len is_word_byte bytes) 0) in
    elim (cases_Bool number) [
      | inl e ↦ absurd (no_kind is_word_kind (Number, number_length bytes) (found Word n) (sym (cond-true number _ _ e) ∙ rule) refl refl)
      | inr no_number ↦
          let left : word_or_symbol bytes ≡ found Word n = sym (cond-false number _ _ no_number) ∙ rule in
          elim (cases_Bool word) [
            | inl e ↦
                let size : prefix_len is_word_byte bytes ≡ n = ap (λ (t : TokenKind × ℕ). t.1) (sym (cond-true word _ _ e) ∙ left) in
                let some : prefix_len is_word_byte bytes ≡ 0 → ⊥ = eqb-false _ 0 (not-true _ e) in
                word_bytes bytes n (omega arith) (omega arith) (eqb-true _ 0 (not-false _ no_number))
            | inr e ↦ absurd (no_kind is_word_kind (Symbol, 1) (found Word n) (sym (cond-false word _ _ e) ∙ left) refl refl)
          ]
    ]

pub word_text : (bytes : List ℕ) → IsOneToken Word bytes → IsWordText bytes
word_text bytes one = subst IsWordText (take-length bytes) (word_front bytes (length bytes) one.1)

-- a piece at the end of a text is one token
pub alone : (kind : TokenKind) (part : List ℕ) → IsPiece kind part [] → IsOneToken kind part
alone kind part piece = (piece.some, ap token_at (sym (append-nil part)) ∙ piece.rule)

-- what is there under a condition
pub some_if : {A : Type 0} (b : Bool) (found : Option A) (value : A) → cond b found None ≡ Some value → (b ≡ true) × (found ≡ Some value)
some_if b found value is =
    elim (cases_Bool b) [
      | inl e ↦ (e, sym (cond-true b found None e) ∙ is)
      | inr e ↦ let none : None ≡ Some value = sym (cond-false b found None e) ∙ is in absurd (cc)
    ]

-- what is kept of a value is the value's text
pub kept_is : (bytes : List ℕ) (value : SlotValue) → kept bytes ≡ Some value → value ≡ Text bytes
kept_is bytes value is = let same = (some_if (nat_le (length bytes) 1024) (Some (Text bytes)) value is).1 in cc

-- a quoted text that is a value is kept in `'`, and has no quote and no backslash
pub quoted_value : (slot : Slot) (bytes : List ℕ) (value : SlotValue) → value_of slot Quoted bytes ≡ Some value → (value ≡ Text (in_quotes (inside bytes))) × (list_all is_plain_byte (inside bytes) ≡ true)
unfolding value_of plain_value
quoted_value slot bytes value is =
    let plain = some_if (list_all is_plain_byte (inside bytes)) (kept (in_quotes (inside bytes))) value (some_if (may_be slot Quoted bytes) _ value is).1 in
    (kept_is (in_quotes (inside bytes)) value plain.1, plain.0)

-- the kinds of values
abbrev pub IsValueKind : TokenKind → Type 0
IsValueKind Word = Unit {0}
IsValueKind Number = Unit {0}
IsValueKind Quoted = Unit {0}
IsValueKind _ = ⊥

no_value : (slot : Slot) (kind : TokenKind) (bytes : List ℕ) (value : SlotValue) → plain_value kind bytes ≡ None → value_of slot kind bytes ≡ Some value → ⊥
unfolding value_of
no_value slot kind bytes value none is = let apart : None ≡ Some value = sym none ∙ (some_if (may_be slot kind bytes) (plain_value kind bytes) value is).1 in cc

-- one token that gives a value is a piece
pub value_piece : (slot : Slot) (value : SlotValue) (kind : TokenKind) (rest : List ℕ) → IsOneToken kind (value_text value) → value_of slot kind (value_text value) ≡ Some value → Stops rest → IsPiece kind (value_text value) rest
unfolding plain_value
value_piece slot value Word rest one gives stops = word_piece (value_text value) rest (word_text (value_text value) one) stops
value_piece slot value Number rest one gives stops = number_piece (value_text value) rest (number_text (value_text value) one) stops
value_piece slot value Quoted rest one gives stops =
    let quoted = quoted_value slot (value_text value) value gives in
    subst (λ (bytes : List ℕ). IsPiece Quoted bytes rest) (sym (ap value_text quoted.0)) (quoted_piece (inside (value_text value)) rest quoted.1 stops)
value_piece slot value kind rest one gives stops = absurd (no_value slot kind (value_text value) value refl gives)

pub value_kind : (slot : Slot) (kind : TokenKind) (bytes : List ℕ) (value : SlotValue) → value_of slot kind bytes ≡ Some value → IsValueKind kind
unfolding plain_value
value_kind slot Word bytes value gives = tt
value_kind slot Number bytes value gives = tt
value_kind slot Quoted bytes value gives = tt
value_kind slot kind bytes value gives = no_value slot kind bytes value refl gives
