-- NAMES, TRANSACTION and the like name no setting.
use Rattle.std.proofs.Common.{◌≡◌, ℕ, true, false, ◌&&◌, bytes_eq, List, [], ◌∷◌, Option, Some, None, map, find, codes, option_map, option_and_then, refl, sym, ◌∙◌, ap, inl, inr}
use Rattle.std.specs.Char.{to_ascii_lowercase}
use Rattle.std.specs.Cmp.Lexicographic.{bytes_decides}
use Rattle.std.specs.Option.{option_or}
use Rattle.std.proofs.lemmas.Bool.{cond-false, cases_Bool, and_left, or_cases, or_from}
use Rattle.sql_tokens.specs.Words.{bytes_of, inside, word_by, word_of, is_word, says, same_text}
use Rattle.sql_tokens.specs.declared.token.Token.{Token}
use Rattle.sql_tokens.specs.declared.token.TokenKind.{TokenKind}
use Rattle.sql_tokens.specs.declared.token.TokenKind.TheVariants.{Word, Name, Executed}
use Rattle.session_vars.specs.Assignments.{slot_by, assigned, is_executed, named_change, assignment, part_changes}
use Rattle.session_vars.specs.Names.{names_value, names_changes}
use Rattle.session_vars.specs.Slots.{assigned_slots, is_named, slot_named}
use Rattle.session_vars.specs.Statement.{says_first, is_session_word, begins_with_session}
use Rattle.session_vars.specs.declared.change.Change.{Change}
use Rattle.session_vars.specs.declared.slot.Slot.{Slot}

-- what doesn't begin with NAMES is no SET NAMES
no_names : (text : List ℕ) (token : Token) (tokens : List Token) → says text token (codes "NAMES") ≡ false → names_value text (token ∷ tokens) ≡ None
unfolding names_value
no_names text token [] other = refl
no_names text token (a ∷ []) other = cond-false (says text token (codes "NAMES")) _ _ other
no_names text token (a ∷ b ∷ []) other = refl
no_names text token (a ∷ b ∷ c ∷ []) other = cond-false (says text token (codes "NAMES") && says text b (codes "COLLATE")) _ _ (and_left _ _ other)
no_names text token (a ∷ b ∷ c ∷ d ∷ tokens) other = refl

-- not behind NAMES
pub not_names : (text : List ℕ) (tokens : List Token) → says_first text tokens (codes "NAMES") ≡ false → names_value text tokens ≡ None
unfolding names_value
not_names text [] other = refl
not_names text (token ∷ tokens) other = no_names text token tokens other

-- a word that is one isn't another
apart : (named : Option (List ℕ)) (word other : List ℕ) → bytes_eq (map to_ascii_lowercase word) (map to_ascii_lowercase other) ≡ false → is_word named word ≡ true → is_word named other ≡ false
apart None word other differ is = refl
apart (Some name) word other differ is = ap (λ lower. bytes_eq lower (map to_ascii_lowercase other)) ((bytes_decides (map to_ascii_lowercase name) (map to_ascii_lowercase word)).0 is) ∙ differ

-- and such a word names no setting
slot_in : List ℕ → Option Slot
slot_in lower = find (is_named lower) assigned_slots

unnamed : (name word : List ℕ) → slot_in (map to_ascii_lowercase word) ≡ None → same_text name word ≡ true → slot_named name ≡ None
unfolding slot_in
unnamed name word none is = ap slot_in ((bytes_decides (map to_ascii_lowercase name) (map to_ascii_lowercase word)).0 is) ∙ none

unnamed_token : (kind : TokenKind) (bytes word : List ℕ) → slot_in (map to_ascii_lowercase word) ≡ None → is_word (word_by kind bytes) word ≡ true → slot_by kind bytes ≡ None
unnamed_token Word bytes word none is = unnamed bytes word none is
unnamed_token Name bytes word none is = unnamed (inside bytes) word none is
unnamed_token _ bytes word none is = absurd (cc)

unnamed_word : (named : Option (List ℕ)) (word : List ℕ) → slot_in (map to_ascii_lowercase word) ≡ None → is_word named word ≡ true → option_and_then slot_named named ≡ None
unnamed_word None word none is = refl
unnamed_word (Some name) word none is = unnamed name word none is

pub session_no_names : (text : List ℕ) (tokens : List Token) → begins_with_session text tokens ≡ true → says_first text tokens (codes "NAMES") ≡ false
session_no_names text [] is = refl
session_no_names text (token ∷ tokens) is =
    elim (or_cases (says text token (codes "SESSION")) (says text token (codes "LOCAL")) is) [
      | inl e ↦ apart (word_of text token) (codes "SESSION") (codes "NAMES") refl e
      | inr e ↦ apart (word_of text token) (codes "LOCAL") (codes "NAMES") refl e
    ]

-- behind NAMES
names_no_session : (text : List ℕ) (token : Token) → says text token (codes "NAMES") ≡ true → is_session_word text token ≡ false
names_no_session text token is = or_from _ _ (apart (word_of text token) (codes "NAMES") (codes "SESSION") refl is) (apart (word_of text token) (codes "NAMES") (codes "LOCAL") refl is)

-- a word is no comment
pub word_plain : (kind : TokenKind) (bytes word : List ℕ) → is_word (word_by kind bytes) word ≡ true → is_executed kind ≡ false
word_plain Executed bytes word is = absurd (cc)
word_plain _ bytes word is = refl

-- where no setting is named nothing changes
pub unnamed_change : (text : List ℕ) (slot : Option Slot) (token : Token) (tokens : List Token) → is_executed token.kind ≡ false → slot ≡ None → named_change text slot token tokens ≡ None
unfolding named_change assigned
unnamed_change text slot token [] plain none = refl
unnamed_change text slot token (next ∷ tokens) plain none = cond-false (is_executed token.kind) _ _ plain ∙ ap (λ named. assigned text named (next ∷ tokens)) none

unassigned : (text : List ℕ) (token : Token) (tokens : List Token) → is_session_word text token ≡ false → is_executed token.kind ≡ false → slot_by token.kind (bytes_of text token) ≡ None → assignment text (token ∷ tokens) ≡ None
unfolding assignment
unassigned text token [] other plain none = refl
unassigned text token (next ∷ tokens) other plain none = cond-false (is_session_word text token) _ _ other ∙ unnamed_change text _ token (next ∷ tokens) plain none

names_unassigned : (text : List ℕ) (tokens : List Token) → says_first text tokens (codes "NAMES") ≡ true → assignment text tokens ≡ None
unfolding slot_in
names_unassigned text [] is = absurd (cc)
names_unassigned text (token ∷ tokens) is = unassigned text token tokens (names_no_session text token is) (word_plain token.kind (bytes_of text token) (codes "NAMES") is) (unnamed_token token.kind (bytes_of text token) (codes "NAMES") refl is)

pub transaction_unnamed : (named : Option (List ℕ)) → is_word named (codes "TRANSACTION") ≡ true → option_and_then slot_named named ≡ None
unfolding slot_in
transaction_unnamed named is = unnamed_word named (codes "TRANSACTION") refl is

-- a part that is an assignment
pub one_part : (text : List ℕ) (tokens : List Token) → says_first text tokens (codes "NAMES") ≡ false → part_changes text tokens ≡ option_map (λ change. change ∷ []) (assignment text tokens)
one_part text tokens other = ap (λ value. option_or (names_changes value) (option_map (λ change. change ∷ []) (assignment text tokens))) (not_names text tokens other)

pub assigned_part : (text : List ℕ) (tokens : List Token) (change : Change) → assignment text tokens ≡ Some change → part_changes text tokens ≡ Some (change ∷ [])
assigned_part text tokens change gives =
    elim (cases_Bool (says_first text tokens (codes "NAMES"))) [
      | inl e ↦ let apart : None ≡ Some change = sym (names_unassigned text tokens e) ∙ gives in absurd (cc)
      | inr e ↦ one_part text tokens e ∙ ap (option_map (λ change. change ∷ [])) gives
    ]
