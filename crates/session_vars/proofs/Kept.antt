-- Settings that SET statements change stay tracked.
use Rattle.std.proofs.Common.{◌≡◌, ◌⊎◌, ◌≤◌, ◌<◌, ℕ, ◌+◌, Bool, true, false, not, ◌&&◌, cond, nat_eq, nat_lt, bytes_eq, List, [], ◌∷◌, ◌++◌, Option, Some, None, length, set, take, drop, codes, find, option_map, option_and_then, slice_set, map, refl, sym, subst, ◌∙◌, ap, inl, inr, arith}
use Rattle.std.specs.Char.{to_ascii_lowercase, is_ascii_digit}
use Rattle.std.specs.Option.{option_or}
use Rattle.std.specs.List.{list_all, list_any, onto_first, slice_get}
use Rattle.std.proofs.lemmas.Bool.{cond-true, cond-false, cond_both, cases_Bool, cases_eq, cases_lt, and_parts, and_from, eq-eqb, lt-ltb, le-ltb, agree_below_at}
use Rattle.std.proofs.lemmas.Grind.{get_or-set_at}
use Rattle.std.proofs.lemmas.List.{append-nil, length-set, get_or-set_other}
use Rattle.sql_tokens.specs.Bytes.{is_word_byte}
use Rattle.sql_tokens.specs.Numbers.{hexadecimal_length, fraction_length, sign_length, exponent_length, decimal_length, number_length}
use Rattle.sql_tokens.specs.Words.{bytes_of, inside, word_of, is_symbol, same_text, says}
use Rattle.sql_tokens.specs.declared.token.Token.{Token}
use Rattle.sql_tokens.specs.declared.token.TokenKind.{TokenKind}
use Rattle.sql_tokens.specs.declared.token.TokenKind.TheVariants.{Word, Quoted, Name, Number, SysVar}
use Rattle.session_vars.specs.Assignments.{slot_of_variable, slot_of_name, slot_by, change_to, written, behind_colon, assigned, is_executed, named_change, assignment, all_assigned, assignments, part_changes, with_changes}
use Rattle.session_vars.specs.Modes.{added_to, takes_modes}
use Rattle.session_vars.specs.Names.{is_one_word_by, is_one_word, character_set, collation, lower_case, collated, names_value, names_changes}
use Rattle.session_vars.specs.Scopes.{deeper, divides, parts_of, sets_server}
use Rattle.session_vars.specs.Settings.{value_at, value_after, changed, applied}
use Rattle.session_vars.specs.Shapes.{own_changes, own_shape, sets_mode_once, with_last_mode, tracked_or_other, shape_behind, shape_by, set_shape}
use Rattle.session_vars.specs.Slots.{all_slots, assigned_slots, is_named, mariadb_isolation, mariadb_read_only, mysql_isolation, mysql_read_only, place_of, slot_named, slot_of_comments, unless_transaction}
use Rattle.session_vars.specs.Statement.{says_first, is_session_word, spoken_by, statement_of}
use Rattle.session_vars.specs.Texts.{is_names}
use Rattle.session_vars.specs.Tracked.{IsAssignable, IsCharacterSet, IsTrackedValue, AreTracked}
use Rattle.session_vars.specs.Transactions.{slot_of, value_of as mode_value, transaction_mode, mode_changes}
use Rattle.session_vars.specs.Values.{character_sets, is_character_set, value_of, negative_value, plain_value}
use Rattle.session_vars.specs.declared.change.Change.{Change}
use Rattle.session_vars.specs.declared.change.SlotValue.{SlotValue}
use Rattle.session_vars.specs.declared.change.SlotValue.TheVariants.{Default, Text}
use Rattle.session_vars.specs.declared.shape.SetShape.{SetShape}
use Rattle.session_vars.specs.declared.shape.SetShape.TheVariants.{Tracked, Global, NextTransaction, NotSet}
use Rattle.session_vars.specs.declared.slot.Slot.{Slot}
use Rattle.session_vars.specs.declared.slot.Slot.TheVariants.{Names, CharacterSetResults, CollationConnection, SqlMode, TransactionIsolation, TransactionReadOnly}
use Rattle.session_vars.specs.declared.transaction.Mode.{Mode}
use Rattle.session_vars.specs.declared.transaction.Mode.TheVariants.{ReadUncommitted, ReadCommitted, RepeatableRead, Serializable, ReadOnly, ReadWrite}
use Rattle.session_vars.proofs.Added.{AddsModes, IsReadChange, added_tracked, joined_tracked}
use Rattle.session_vars.proofs.Assigned.{mode_slot}
use Rattle.session_vars.proofs.Gives.{AreFound, statement_found, value_tracked, negative_tracked, default_tracked}
use Rattle.session_vars.proofs.NamesAgain.{one_word}
use Rattle.session_vars.proofs.OneToken.{alone, some_if, word_text}
use Rattle.session_vars.proofs.Pieces.{At, scanned}
use Rattle.session_vars.proofs.Rules.{IsWordText, IsNumberText, word_piece, number_piece, quoted_piece}

-- a change to a tracked value, or of the mode by an expression over the one before it
abbrev pub IsTrackedChange : Change → Type 0
IsTrackedChange change = ((change.adds ≡ false) × IsTrackedValue change.slot change.value) ⊎ AddsModes change

abbrev pub AreTrackedChanges : List Change → Type 0
AreTrackedChanges [] = Unit {0}
AreTrackedChanges (change ∷ changes) = IsTrackedChange change × AreTrackedChanges changes

-- no name is that of `names`
find_passes : (p q : Slot → Bool) (slots : List Slot) (slot : Slot) → list_all q slots ≡ true → find p slots ≡ Some slot → q slot ≡ true
find_passes p q [] slot all is = absurd (cc)
find_passes p q (first ∷ slots) slot all is =
    let both = and_parts (q first) (list_all q slots) all in
    elim (cases_Bool (p first)) [
      | inl e ↦ let same : Some first ≡ Some slot = sym (cond-true (p first) _ _ e) ∙ is in subst (λ (s : Slot). q s ≡ true) (cc) both.0
      | inr e ↦ find_passes p q slots slot both.1 (sym (cond-false (p first) _ _ e) ∙ is)
    ]

abbrev is_other : Slot → Bool
is_other slot = not (is_names slot)

other_of : (slot : Slot) → is_other slot ≡ true → is_names slot ≡ false
other_of Names other = absurd (cc)
other_of _ other = refl

named_other : (name : List ℕ) (slot : Slot) → slot_named name ≡ Some slot → is_names slot ≡ false
named_other name slot is = other_of slot (find_passes (is_named (map to_ascii_lowercase name)) is_other assigned_slots slot refl is)

some_unless : (found : Option Slot) (slot : Slot) → option_and_then unless_transaction found ≡ Some slot → found ≡ Some slot
some_unless None slot is = absurd (cc)
some_unless (Some TransactionIsolation) slot is = absurd (cc)
some_unless (Some TransactionReadOnly) slot is = absurd (cc)
some_unless (Some _) slot is = is

variable_other : (variable : List ℕ) (slot : Slot) → slot_of_variable variable ≡ Some slot → is_names slot ≡ false
unfolding slot_of_variable
variable_other variable slot is =
    let IsOther : Option Slot → Type 0 = λ found. found ≡ Some slot → is_names slot ≡ false in
    let bare = option_and_then unless_transaction (slot_named (drop 2 variable)) in
    let local = same_text (take 8 variable) (codes "@@local.") in
    cond_both (same_text (take 10 variable) (codes "@@session.")) (slot_named (drop 10 variable)) (cond local (slot_named (drop 8 variable)) bare) IsOther
    (λ _ here. named_other (drop 10 variable) slot here)
    (λ _. cond_both local (slot_named (drop 8 variable)) bare IsOther
    (λ _ here. named_other (drop 8 variable) slot here)
    (λ _ bare_is. named_other (drop 2 variable) slot (some_unless (slot_named (drop 2 variable)) slot bare_is))) is

slot_other : (kind : TokenKind) (bytes : List ℕ) (slot : Slot) → slot_by kind bytes ≡ Some slot → is_names slot ≡ false
slot_other SysVar bytes slot is = variable_other bytes slot is
slot_other Word bytes slot is = named_other bytes slot is
slot_other Name bytes slot is = named_other (inside bytes) slot is
slot_other _ bytes slot is = absurd (cc)

some_named : (name : Option (List ℕ)) (slot : Slot) → option_and_then slot_named name ≡ Some slot → is_names slot ≡ false
some_named None slot is = absurd (cc)
some_named (Some name) slot is = named_other name slot is

-- an assignment gives a tracked value
changed_to : (slot : Slot) (found : Option SlotValue) (change : Change) → ((value : SlotValue) → found ≡ Some value → IsTrackedValue slot value) → change_to slot found ≡ Some change → IsTrackedChange change
changed_to slot None change tracked is = absurd (cc)
changed_to slot (Some value) change tracked is = let same : record { slot = slot; value = value; adds = false } ≡ change = cc in subst IsTrackedChange same (inl (refl, tracked value refl))

expression_tracked : (change : Change) → IsReadChange change → IsTrackedChange change
expression_tracked change (inl new) = inl (new.0, subst (λ (s : Slot). IsTrackedValue s change.value) (sym (mode_slot change.slot new.1.0)) (subst (λ (s : Slot). IsAssignable s change.value) (mode_slot change.slot new.1.0) new.1.1))
expression_tracked change (inr adds) = inr adds

written_tracked : (text : List ℕ) (slot : Slot) (tokens : List Token) (change : Change) → is_names slot ≡ false → AreFound text tokens → written text slot tokens ≡ Some change → IsTrackedChange change
unfolding written
written_tracked text slot [] change other are is = absurd (cc)
written_tracked text slot (token ∷ []) change other are is =
    changed_to slot (value_of slot token.kind (bytes_of text token)) change (λ value gives. value_tracked slot token.kind (bytes_of text token) value other are.0 gives) is
written_tracked text slot (minus ∷ token ∷ []) change other are is =
    changed_to slot (negative_value slot token.kind (bytes_of text token)) change (λ value gives. negative_tracked slot token.kind (bytes_of text token) value other are.1.0 gives) (some_if (is_symbol text minus 45) _ change is).1
written_tracked text slot (minus ∷ token ∷ more ∷ tokens) change other are is = expression_tracked change (joined_tracked text slot (minus ∷ token ∷ more ∷ tokens) change is)

colon_tracked : (text : List ℕ) (slot : Slot) (colon : Token) (tokens : List Token) (change : Change) → is_names slot ≡ false → AreFound text tokens → behind_colon text slot colon tokens ≡ Some change → IsTrackedChange change
unfolding behind_colon
colon_tracked text slot colon [] change other are is = absurd (cc)
colon_tracked text slot colon (equals ∷ tokens) change other are is = written_tracked text slot tokens change other are.1 (some_if (is_symbol text equals 61 && nat_eq colon.end equals.start) _ change is).1

assigned_tracked : (text : List ℕ) (found : Option Slot) (tokens : List Token) (change : Change) → ((slot : Slot) → found ≡ Some slot → is_names slot ≡ false) → AreFound text tokens → assigned text found tokens ≡ Some change → IsTrackedChange change
unfolding assigned
assigned_tracked text None tokens change other are is = absurd (cc)
assigned_tracked text (Some slot) [] change other are is = absurd (cc)
assigned_tracked text (Some slot) (equals ∷ tokens) change other are is =
    elim (cases_Bool (is_symbol text equals 61)) [
      | inl e ↦ written_tracked text slot tokens change (other slot refl) are.1 (sym (cond-true (is_symbol text equals 61) _ _ e) ∙ is)
      | inr e ↦ colon_tracked text slot equals tokens change (other slot refl) are.1 (some_if (is_symbol text equals 58) _ change (sym (cond-false (is_symbol text equals 61) _ _ e) ∙ is)).1
    ]

other_some : (known slot : Slot) → is_names known ≡ false → Some known ≡ Some slot → is_names slot ≡ false
other_some known slot other is = let same : known ≡ slot = cc in subst (λ (s : Slot). is_names s ≡ false) same other

comments_other : (first second : List ℕ) (slot : Slot) → slot_of_comments first second ≡ Some slot → is_names slot ≡ false
unfolding slot_of_comments
comments_other first second slot is =
    let IsOther : Option Slot → Type 0 = λ found. found ≡ Some slot → is_names slot ≡ false in
    let read_only = bytes_eq first mariadb_read_only && bytes_eq second mysql_read_only in
    cond_both (bytes_eq first mariadb_isolation && bytes_eq second mysql_isolation) (Some TransactionIsolation) (cond read_only (Some TransactionReadOnly) None) IsOther
    (λ _ here. other_some TransactionIsolation slot refl here)
    (λ _. cond_both read_only (Some TransactionReadOnly) None IsOther (λ _ here. other_some TransactionReadOnly slot refl here) (λ _ here. absurd (cc))) is

named_tracked : (text : List ℕ) (found : Option Slot) (name : Token) (tokens : List Token) (change : Change) → ((slot : Slot) → found ≡ Some slot → is_names slot ≡ false) → AreFound text tokens → named_change text found name tokens ≡ Some change → IsTrackedChange change
unfolding named_change
named_tracked text found name [] change other are is = absurd (cc)
named_tracked text found name (next ∷ tokens) change other are is =
    elim (cases_Bool (is_executed name.kind)) [
      | inl e ↦
          let slot = slot_of_comments (bytes_of text name) (bytes_of text next) in
          assigned_tracked text slot tokens change (comments_other (bytes_of text name) (bytes_of text next)) are.1 (sym (cond-true (is_executed name.kind) _ _ e) ∙ is)
      | inr e ↦ assigned_tracked text found (next ∷ tokens) change other are (sym (cond-false (is_executed name.kind) _ _ e) ∙ is)
    ]

assignment_tracked : (text : List ℕ) (tokens : List Token) (change : Change) → AreFound text tokens → assignment text tokens ≡ Some change → IsTrackedChange change
unfolding assignment
assignment_tracked text [] change are is = absurd (cc)
assignment_tracked text (scope ∷ []) change are is = absurd (cc)
assignment_tracked text (scope ∷ name ∷ tokens) change are is =
    elim (cases_Bool (is_session_word text scope)) [
      | inl e ↦ named_tracked text (slot_of_name text name) name tokens change (some_named (word_of text name)) are.1.1 (sym (cond-true (is_session_word text scope) _ _ e) ∙ is)
      | inr e ↦ named_tracked text (slot_by scope.kind (bytes_of text scope)) scope (name ∷ tokens) change (slot_other scope.kind (bytes_of text scope)) are.1 (sym (cond-false (is_session_word text scope) _ _ e) ∙ is)
    ]

-- and so do assignments with commas between them
abbrev AllFound : (text : List ℕ) → List (List Token) → Type 0
AllFound text [] = Unit {0}
AllFound text (part ∷ parts) = AreFound text part × AllFound text parts

onto_found : (text : List ℕ) (token : Token) (parts : List (List Token)) → AreFound text (token ∷ []) → AllFound text parts → AllFound text (onto_first token parts)
onto_found text token [] is are = (is, tt)
onto_found text token (part ∷ parts) is are = ((is.0, are.0), are.1)

split_found : (text : List ℕ) (depth : ℕ) (tokens : List Token) → AreFound text tokens → AllFound text (parts_of text depth tokens)
split_found text depth [] are = (tt, tt)
split_found text depth (token ∷ tokens) are =
    elim (cases_Bool (divides text depth token)) [
      | inl e ↦ subst (AllFound text) (sym (cond-true (divides text depth token) _ _ e)) (tt, split_found text 0 tokens are.1)
      | inr e ↦ subst (AllFound text) (sym (cond-false (divides text depth token) _ _ e)) (onto_found text token (parts_of text (deeper text token depth) tokens) (are.0, tt) (split_found text (deeper text token depth) tokens are.1))
    ]

-- a mode gives a tracked value
one_digit : IsNumberText (codes "1")
unfolding number_length hexadecimal_length decimal_length fraction_length exponent_length sign_length
one_digit = (omega arith, refl)

zero_digit : IsNumberText (codes "0")
unfolding number_length hexadecimal_length decimal_length fraction_length exponent_length sign_length
zero_digit = (omega arith, refl)

mode_assignable : (mode : Mode) → IsTrackedValue (slot_of mode) (Text (mode_value mode))
unfolding value_of plain_value
mode_assignable ReadUncommitted = inl (record { kind = Quoted; token = alone Quoted (codes "'READ-UNCOMMITTED'") (quoted_piece (codes "READ-UNCOMMITTED") [] refl tt); gives = refl })
mode_assignable ReadCommitted = inl (record { kind = Quoted; token = alone Quoted (codes "'READ-COMMITTED'") (quoted_piece (codes "READ-COMMITTED") [] refl tt); gives = refl })
mode_assignable RepeatableRead = inl (record { kind = Quoted; token = alone Quoted (codes "'REPEATABLE-READ'") (quoted_piece (codes "REPEATABLE-READ") [] refl tt); gives = refl })
mode_assignable Serializable = inl (record { kind = Quoted; token = alone Quoted (codes "'SERIALIZABLE'") (quoted_piece (codes "SERIALIZABLE") [] refl tt); gives = refl })
mode_assignable ReadOnly = inl (record { kind = Number; token = alone Number (codes "1") (number_piece (codes "1") [] one_digit tt); gives = refl })
mode_assignable ReadWrite = inl (record { kind = Number; token = alone Number (codes "0") (number_piece (codes "0") [] zero_digit tt); gives = refl })

mode_tracked : (mode : Option Mode) (changes : List Change) → mode_changes mode ≡ Some changes → AreTrackedChanges changes
mode_tracked None changes is = absurd (cc)
mode_tracked (Some mode) changes is = let same : record { slot = slot_of mode; value = Text (mode_value mode); adds = false } ∷ [] ≡ changes = cc in subst AreTrackedChanges same (inl (refl, mode_assignable mode), tt)

-- letters of either case are as good
lower_past : (b : ℕ) → 91 ≤ b → to_ascii_lowercase b ≡ b
lower_past b large = cond-false (nat_lt b 65) b _ (le-ltb b 65 (omega arith)) ∙ cond-false (nat_lt b 91) (b + 32) b (le-ltb b 91 large)

lower_agrees : (p : ℕ → Bool) (b : ℕ) → ((n : ℕ) → n < 91 → p (to_ascii_lowercase n) ≡ p n) → p (to_ascii_lowercase b) ≡ p b
lower_agrees p b below =
    elim (cases_lt b 91) [
      | inl small ↦ below b small
      | inr large ↦ ap p (lower_past b large)
    ]

word_lower : (b : ℕ) → is_word_byte (to_ascii_lowercase b) ≡ is_word_byte b
word_lower b = lower_agrees is_word_byte b (λ n small. agree_below_at (λ k. is_word_byte (to_ascii_lowercase k)) is_word_byte 91 n refl small)

digit_lower : (b : ℕ) → is_ascii_digit (to_ascii_lowercase b) ≡ is_ascii_digit b
digit_lower b = lower_agrees is_ascii_digit b (λ n small. agree_below_at (λ k. is_ascii_digit (to_ascii_lowercase k)) is_ascii_digit 91 n refl small)

lower_lower : (bytes : List ℕ) → lower_case (lower_case bytes) ≡ lower_case bytes
lower_lower [] = refl
lower_lower (b ∷ bytes) = ap (λ c. c ∷ lower_case (lower_case bytes)) (lower_twice b) ∙ ap (λ (rest : List ℕ). to_ascii_lowercase b ∷ rest) (lower_lower bytes)
  where
    lower_twice : (b : ℕ) → to_ascii_lowercase (to_ascii_lowercase b) ≡ to_ascii_lowercase b
    lower_twice b =
        elim (cases_lt b 65) [
          | inl small ↦ ap to_ascii_lowercase (cond-true (nat_lt b 65) b _ (lt-ltb b 65 small))
          | inr above ↦
              elim (cases_lt b 91) [
                | inl capital ↦
                    let lower : to_ascii_lowercase b ≡ b + 32 = cond-false (nat_lt b 65) b _ (le-ltb b 65 above) ∙ cond-true (nat_lt b 91) (b + 32) b (lt-ltb b 91 capital) in
                    ap to_ascii_lowercase lower ∙ lower_past (b + 32) (omega arith) ∙ sym lower
                | inr large ↦ ap to_ascii_lowercase (lower_past b large)
              ]
        ]

all_lower : (p : ℕ → Bool) (bytes : List ℕ) → ((b : ℕ) → p (to_ascii_lowercase b) ≡ p b) → list_all p (lower_case bytes) ≡ list_all p bytes
all_lower p [] agrees = refl
all_lower p (b ∷ bytes) agrees = ap (λ first. first && list_all p (lower_case bytes)) (agrees b) ∙ ap (λ rest. p b && rest) (all_lower p bytes agrees)

word_text_lower : (name : List ℕ) → IsWordText name → IsWordText (lower_case name)
word_text_lower [] is = absurd is
word_text_lower (b ∷ name) is = (digit_lower b ∙ is.0, all_lower is_word_byte (b ∷ name) word_lower ∙ is.1)

-- a word is one word
pub word_is_one : (name : List ℕ) → IsWordText name → is_one_word name ≡ true
word_is_one name is =
    let at : At name 0 (name ++ []) = sym (append-nil name) in
    ap (is_one_word_by (length name)) (scanned name 0 Word name [] at (word_piece name [] is tt))
    ∙ and_from (true && nat_eq 0 0) (nat_eq (0 + length name) (length name)) refl (eq-eqb _ _ (omega arith))

-- SET NAMES gives a tracked value
set_lower : (name : List ℕ) → is_character_set name ≡ true → IsCharacterSet (lower_case name)
set_lower name is =
    let known : List ℕ → Bool = λ lower. list_any (λ set. bytes_eq lower (lower_case set)) character_sets in
    (ap known (lower_lower name) ∙ is, lower_lower name)

set_found : (text : List ℕ) (token : Token) (name : List ℕ) → character_set text token ≡ Some name → is_character_set name ≡ true
set_found text token name is = known_of (spoken_by token.kind (bytes_of text token)) name is
  where
    known_of : (spoken : Option (List ℕ)) (name : List ℕ) → option_and_then (λ word. cond (is_character_set word) (Some word) None) spoken ≡ Some name → is_character_set name ≡ true
    known_of None name is = absurd (cc)
    known_of (Some word) name is = let both = some_if (is_character_set word) (Some word) name is in let same : word ≡ name = cc in subst (λ (set : List ℕ). is_character_set set ≡ true) same both.0

name_found : (text : List ℕ) (token : Token) (name : List ℕ) → collation text token ≡ Some name → is_one_word name ≡ true
name_found text token name is = word_of_it (spoken_by token.kind (bytes_of text token)) name is
  where
    word_of_it : (spoken : Option (List ℕ)) (name : List ℕ) → option_and_then (λ word. cond (is_one_word word) (Some word) None) spoken ≡ Some name → is_one_word name ≡ true
    word_of_it None name is = absurd (cc)
    word_of_it (Some word) name is = let both = some_if (is_one_word word) (Some word) name is in let same : word ≡ name = cc in subst (λ (one : List ℕ). is_one_word one ≡ true) same both.0

plain_names : (set : Option (List ℕ)) (value : List ℕ) → ((name : List ℕ) → set ≡ Some name → is_character_set name ≡ true) → option_map lower_case set ≡ Some value → IsTrackedValue Names (Text value)
plain_names None value known is = absurd (cc)
plain_names (Some name) value known is = let same : lower_case name ≡ value = cc in inl (subst IsCharacterSet same (set_lower name (known name refl)))

collated_names : (set name : Option (List ℕ)) (value : List ℕ) → ((word : List ℕ) → set ≡ Some word → is_character_set word ≡ true) → ((word : List ℕ) → name ≡ Some word → is_one_word word ≡ true) → collated set name ≡ Some value → IsTrackedValue Names (Text value)
collated_names None name value known one is = absurd (cc)
collated_names (Some set) None value known one is = absurd (cc)
collated_names (Some set) (Some name) value known one is =
    let parts : lower_case set ++ codes " COLLATE " ++ lower_case name ≡ value = cc in
    inr (record {
      set = lower_case set;
      name = lower_case name;
      parts = sym parts;
      is_set = set_lower set (known set refl);
      is_word = word_is_one (lower_case name) (word_text_lower name (word_text name (one_word name (one name refl))));
      is_lower = lower_lower name;
    })

names_tracked : (text : List ℕ) (tokens : List Token) (value : List ℕ) → names_value text tokens ≡ Some value → IsTrackedValue Names (Text value)
unfolding names_value
names_tracked text [] value is = absurd (cc)
names_tracked text (names ∷ []) value is = absurd (cc)
names_tracked text (names ∷ set ∷ []) value is = plain_names (character_set text set) value (set_found text set) (some_if (says text names (codes "NAMES")) _ value is).1
names_tracked text (names ∷ set ∷ collate ∷ []) value is = absurd (cc)
names_tracked text (names ∷ set ∷ collate ∷ name ∷ []) value is = collated_names (character_set text set) (collation text name) value (set_found text set) (name_found text name) (some_if (says text names (codes "NAMES") && says text collate (codes "COLLATE")) _ value is).1
names_tracked text (names ∷ set ∷ collate ∷ name ∷ more ∷ tokens) value is = absurd (cc)

names_changes_tracked : (value : Option (List ℕ)) (changes : List Change) → ((name : List ℕ) → value ≡ Some name → IsTrackedValue Names (Text name)) → names_changes value ≡ Some changes → AreTrackedChanges changes
names_changes_tracked None changes tracked is = absurd (cc)
names_changes_tracked (Some value) changes tracked is =
    let same : record { slot = Names; value = Text value; adds = false } ∷ record { slot = CharacterSetResults; value = Default; adds = false } ∷ record { slot = CollationConnection; value = Default; adds = false } ∷ [] ≡ changes = cc in
    subst AreTrackedChanges same (inl (refl, tracked value refl), (inl (refl, tt), (inl (refl, tt), tt)))

-- where there are changes, all are
abbrev AllTracked : Option (List Change) → Type 0
AllTracked found = (changes : List Change) → found ≡ Some changes → AreTrackedChanges changes

or_tracked : (first second : Option (List Change)) → AllTracked first → AllTracked second → AllTracked (option_or first second)
or_tracked (Some found) second one other changes is = one changes is
or_tracked None second one other changes is = other changes is

-- one part, and all of them
both_tracked : (changes more : List Change) → AreTrackedChanges changes → AreTrackedChanges more → AreTrackedChanges (changes ++ more)
both_tracked [] more one others = others
both_tracked (change ∷ changes) more one others = (one.0, both_tracked changes more one.1 others)

alone_tracked : (found : Option Change) (changes : List Change) → ((change : Change) → found ≡ Some change → IsTrackedChange change) → option_map (λ change. change ∷ []) found ≡ Some changes → AreTrackedChanges changes
alone_tracked None changes tracked is = absurd (cc)
alone_tracked (Some change) changes tracked is = let same : change ∷ [] ≡ changes = cc in subst AreTrackedChanges same (tracked change refl, tt)

part_tracked : (text : List ℕ) (tokens : List Token) (changes : List Change) → AreFound text tokens → part_changes text tokens ≡ Some changes → AreTrackedChanges changes
part_tracked text tokens changes are is =
    or_tracked (names_changes (names_value text tokens)) (option_map (λ change. change ∷ []) (assignment text tokens))
    (λ found. names_changes_tracked (names_value text tokens) found (names_tracked text tokens))
    (λ found. alone_tracked (assignment text tokens) found (λ change. assignment_tracked text tokens change are)) changes is

with_tracked : (first rest : Option (List Change)) (changes : List Change) → AllTracked first → AllTracked rest → with_changes first rest ≡ Some changes → AreTrackedChanges changes
with_tracked None rest changes one others is = absurd (cc)
with_tracked (Some some) None changes one others is = absurd (cc)
with_tracked (Some some) (Some more) changes one others is = let same : some ++ more ≡ changes = cc in subst AreTrackedChanges same (both_tracked some more (one some refl) (others more refl))

all_tracked : (text : List ℕ) (parts : List (List Token)) (changes : List Change) → AllFound text parts → all_assigned text parts ≡ Some changes → AreTrackedChanges changes
all_tracked text [] changes are is = let same : [] ≡ changes = cc in subst AreTrackedChanges same tt
all_tracked text (part ∷ parts) changes are is = with_tracked (part_changes text part) (all_assigned text parts) changes (λ some. part_tracked text part some are.0) (λ more. all_tracked text parts more are.1) is

assignments_tracked : (text : List ℕ) (tokens : List Token) (changes : List Change) → AreFound text tokens → assignments text tokens ≡ Some changes → AreTrackedChanges changes
unfolding assignments
assignments_tracked text tokens changes are is = all_tracked text (parts_of text 0 tokens) changes (split_found text 0 tokens are) is

-- and so are those that are left without the earlier changes of the mode
last_tracked : (changes : List Change) → AreTrackedChanges changes → AreTrackedChanges (with_last_mode changes)
last_tracked [] all = tt
last_tracked (change ∷ changes) all =
    cond_both (takes_modes change.slot && list_any (λ later. takes_modes later.slot) changes) (with_last_mode changes) (change ∷ with_last_mode changes) AreTrackedChanges
    (λ _. last_tracked changes all.1) (λ _. (all.0, last_tracked changes all.1))

-- so all that a SET statement gives is tracked
given_tracked : (found : Option (List Change)) (changes : List Change) → AllTracked found → tracked_or_other found ≡ Tracked changes → AreTrackedChanges changes
given_tracked None changes all is = absurd (cc)
given_tracked (Some found) changes all is =
    cond_both (sets_mode_once found) (Tracked found) (Tracked (with_last_mode found)) (λ (shape : SetShape). shape ≡ Tracked changes → AreTrackedChanges changes)
    (λ _ here. let same : found ≡ changes = cc in subst AreTrackedChanges same (all found refl))
    (λ _ here. let same : with_last_mode found ≡ changes = cc in subst AreTrackedChanges same (last_tracked found (all found refl))) is

behind_tracked : (text : List ℕ) (tokens : List Token) (changes : List Change) → AreFound text tokens → shape_behind text tokens ≡ Tracked changes → AreTrackedChanges changes
unfolding shape_behind
behind_tracked text tokens changes are is =
    let Gives : SetShape → Type 0 = λ shape. shape ≡ Tracked changes → AreTrackedChanges changes in
    let mode = mode_changes (transaction_mode text tokens) in
    let all = or_tracked mode (assignments text tokens) (mode_tracked (transaction_mode text tokens)) (λ found. assignments_tracked text tokens found are) in
    cond_both (sets_server text 0 true tokens) Global (own_shape text tokens) Gives (λ _ apart. absurd (cc))
    (λ _. cond_both (says_first text tokens (codes "TRANSACTION")) NextTransaction (tracked_or_other (own_changes text tokens)) Gives (λ _ apart. absurd (cc))
    (λ _. given_tracked (own_changes text tokens) changes all)) is

shape_tracked : (text : List ℕ) (tokens : List Token) (changes : List Change) → AreFound text tokens → shape_by text tokens ≡ Tracked changes → AreTrackedChanges changes
shape_tracked text [] changes are is = absurd (cc)
shape_tracked text (token ∷ tokens) changes are is =
    cond_both (says text token (codes "SET")) _ NotSet (λ (shape : SetShape). shape ≡ Tracked changes → AreTrackedChanges changes) (λ _. behind_tracked text tokens changes are.1) (λ _ apart. absurd (cc)) is

-- two settings at one place are one
at_place : (slot : Slot) → slice_get all_slots (place_of slot) ≡ Some slot
at_place Names = refl
at_place _ = refl

one_slot : (a b : Slot) → place_of a ≡ place_of b → a ≡ b
one_slot a b same = let both : Some a ≡ Some b = sym (at_place a) ∙ ap (slice_get all_slots) same ∙ at_place b in cc

within : (slot : Slot) → place_of slot < 67
within Names = omega arith
within _ = omega arith

set_tracked : (values : List SlotValue) (slot : Slot) (value : SlotValue) → AreTracked values → IsTrackedValue slot value → AreTracked (slice_set values (place_of slot) value)
set_tracked values slot value are is = (
  length-set values (place_of slot) value ∙ are.0,
  λ other.
      elim (cases_eq (place_of slot) (place_of other)) [
        | inl same ↦ subst (IsTrackedValue other) (sym (get_or-set_at values (place_of slot) (place_of other) value Default (sym same) (omega (arith, within slot, are.0)))) (subst (λ (s : Slot). IsTrackedValue s value) (one_slot slot other same) is)
        | inr apart ↦ subst (IsTrackedValue other) (sym (get_or-set_other values (place_of slot) (place_of other) value Default (λ same. apart (sym same)))) (are.1 other)
      ],
)

after_tracked : (old : SlotValue) (change : Change) → IsTrackedValue change.slot old → IsTrackedChange change → IsTrackedValue change.slot (value_after old change)
after_tracked old change tracked (inl new) = subst (IsTrackedValue change.slot) (sym (cond-false change.adds _ _ new.0)) new.1
after_tracked old change tracked (inr adds) =
    let slot : change.slot ≡ SqlMode = mode_slot change.slot adds.takes in
    let before : IsAssignable SqlMode old = subst (λ (s : Slot). IsTrackedValue s old) slot tracked in
    subst (IsTrackedValue change.slot) (sym (cond-true change.adds _ _ adds.adds)) (subst (λ (s : Slot). IsTrackedValue s (added_to old change.value)) (sym slot) (added_tracked old change before adds))

changed_tracked : (values : List SlotValue) (change : Change) → AreTracked values → IsTrackedChange change → AreTracked (changed values change)
changed_tracked values change are is = set_tracked values change.slot (value_after (value_at values change.slot) change) are (after_tracked (value_at values change.slot) change (are.1 change.slot) is)

applied_tracked : (values : List SlotValue) (changes : List Change) → AreTracked values → AreTrackedChanges changes → AreTracked (applied values changes)
applied_tracked values [] are all = are
applied_tracked values (change ∷ changes) are all = applied_tracked (changed values change) changes (changed_tracked values change are all.0) all.1

pub stay_tracked : (text : List ℕ) (changes : List Change) (values : List SlotValue) → set_shape text ≡ Tracked changes → AreTracked values → AreTracked (applied values changes)
stay_tracked text changes values is are = applied_tracked values changes are (shape_tracked text (statement_of text) changes (statement_found text) is)
