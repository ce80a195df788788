-- SET NAMES that is written for a value, read again.
use Rattle.std.proofs.Common.{◌≡◌, ◌⊎◌, ℕ, ◌+◌, ◌-◌, Bool, true, false, not, ◌&&◌, ◌||◌, cond, nat_eq, List, [], ◌∷◌, ◌++◌, Some, None, length, drop, codes, option_map, refl, sym, subst, ◌∙◌, ap, inl, inr, arith, append_assoc}
use Rattle.std.specs.Char.{is_ascii_digit}
use Rattle.std.specs.Cmp.Lexicographic.{bytes_decides}
use Rattle.std.specs.Option.{option_or}
use Rattle.std.proofs.lemmas.Bool.{cond-true, cond-false, and_parts, and_from, not-true, or_cases, eqb-true}
use Rattle.std.proofs.lemmas.List.{append-nil}
use Rattle.std.specs.List.{list_all, list_any}
use Rattle.sql_tokens.specs.Bytes.{is_word_byte}
use Rattle.sql_tokens.specs.Spans.{AreTokens}
use Rattle.sql_tokens.specs.Tokens.{token_at, tokens_of, tokens_behind}
use Rattle.sql_tokens.specs.Words.{bytes_of, same_text, says}
use Rattle.sql_tokens.specs.declared.token.Token.{Token}
use Rattle.sql_tokens.specs.declared.token.TokenKind.{TokenKind}
use Rattle.sql_tokens.specs.declared.token.TokenKind.TheVariants.{Word}
use Rattle.sql_tokens.proofs.OneList.{are_tokens}
use Rattle.session_vars.specs.Names.{is_word_kind, is_one_word_by, is_one_word, character_set, collation, lower_case, collated, names_value, names_changes}
use Rattle.session_vars.specs.Scopes.{is_server_scope, parts_of, sets_server}
use Rattle.session_vars.specs.Shapes.{sets_mode_once, tracked_or_other, shape_behind, shape_by, set_shape}
use Rattle.session_vars.specs.Statement.{statement_of, without_comments, without_end}
use Rattle.session_vars.specs.Tracked.{IsCharacterSet, IsCollated, IsOneToken}
use Rattle.session_vars.specs.Transactions.{mode_changes}
use Rattle.session_vars.specs.Assignments.{all_assigned, assignment, assignments, with_changes}
use Rattle.session_vars.specs.Values.{character_sets, is_character_set}
use Rattle.session_vars.specs.declared.change.Change.{Change}
use Rattle.session_vars.specs.declared.change.SlotValue.TheVariants.{Default, Text}
use Rattle.session_vars.specs.declared.slot.Slot.TheVariants.{Names, CharacterSetResults, CollationConnection}
use Rattle.session_vars.specs.declared.shape.SetShape.TheVariants.{Tracked}
use Rattle.session_vars.proofs.Dispatch.{other_mode}
use Rattle.session_vars.proofs.OneToken.{word_text}
use Rattle.session_vars.proofs.Pieces.{At, token_of, behind, scanned, said, behind_blank, past_blank, at_end}
use Rattle.session_vars.proofs.Rules.{IsWordText, word_piece}

-- a character set's name is a word
named_set : (name known : List ℕ) → lower_case name ≡ name → same_text name known ≡ true → IsWordText (lower_case known) → IsWordText name
named_set name known lower same word = subst IsWordText (sym (sym lower ∙ (bytes_decides (lower_case name) (lower_case known)).0 same)) word

-- a word, as a test that computes
unfoldable pub is_word_text : List ℕ → Bool
is_word_text [] = false
is_word_text (b ∷ bytes) = not (is_ascii_digit b) && list_all is_word_byte (b ∷ bytes)

pub a_word : (bytes : List ℕ) → is_word_text bytes ≡ true → IsWordText bytes
unfolding is_word_text
a_word [] is = absurd (cc)
a_word (b ∷ bytes) is = let both = and_parts (not (is_ascii_digit b)) (list_all is_word_byte (b ∷ bytes)) is in (not-true (is_ascii_digit b) both.0, both.1)

-- and so is any of a list of words
named_any : (name : List ℕ) (words : List (List ℕ)) → lower_case name ≡ name → list_all (λ word. is_word_text (lower_case word)) words ≡ true → list_any (same_text name) words ≡ true → IsWordText name
named_any name [] lower are is = absurd (cc)
named_any name (known ∷ others) lower are is =
    let both = and_parts (is_word_text (lower_case known)) (list_all (λ word. is_word_text (lower_case word)) others) are in
    elim (or_cases (same_text name known) (list_any (same_text name) others) is) [
      | inl e ↦ named_set name known lower e (a_word (lower_case known) both.0)
      | inr e ↦ named_any name others lower both.1 e
    ]

set_word : (name : List ℕ) → IsCharacterSet name → IsWordText name
unfolding is_word_text
set_word name is = named_any name character_sets is.1 refl is.0

-- one word is one token
one_word_by : (name : List ℕ) (tokens : List Token) → AreTokens name 0 tokens → is_one_word_by (length name) tokens ≡ true → IsOneToken Word name
one_word_by name [] are is = absurd (cc)
one_word_by name (token ∷ tokens) are is =
    let both = and_parts (is_word_kind token.kind && nat_eq token.start 0) (nat_eq token.end (length name)) is in
    let front = and_parts (is_word_kind token.kind) (nat_eq token.start 0) both.0 in
    let start : token.start ≡ 0 = eqb-true _ _ front.1 in
    let end : token.end ≡ length name = eqb-true _ _ both.1 in
    let kind : token.kind ≡ Word = word_kind token.kind front.0 in
    let rule = are.0.rule in
    (omega (arith, are.0.some), ap (λ n. token_at (drop n name)) (sym start) ∙ rule ∙ ap (λ (k : TokenKind). (k, token.end - token.start)) kind ∙ ap (λ (n : ℕ). (Word, n)) (omega arith))
  where
    word_kind : (kind : TokenKind) → is_word_kind kind ≡ true → kind ≡ Word
    word_kind Word is = refl
    word_kind _ is = absurd (cc)

pub one_word : (name : List ℕ) → is_one_word name ≡ true → IsOneToken Word name
one_word name is = one_word_by name (tokens_of name) (are_tokens name 0) is

-- the tokens of `SET NAMES ` and what follows
record IsNamesRead (text rest : List ℕ) : Type 0 where
  scan : tokens_of text ≡ token_of Word 0 (codes "SET") ∷ token_of Word 4 (codes "NAMES") ∷ tokens_behind text 10
  set : bytes_of text (token_of Word 0 (codes "SET")) ≡ codes "SET"
  names : bytes_of text (token_of Word 4 (codes "NAMES")) ≡ codes "NAMES"
  at : At text 10 rest

names_read : (text rest : List ℕ) → text ≡ codes "SET NAMES " ++ rest → IsNamesRead text rest
names_read text rest is =
    let at_set : At text 0 (codes "SET" ++ 32 ∷ (codes "NAMES " ++ rest)) = is in
    let at_blank : At text 3 (32 ∷ (codes "NAMES " ++ rest)) = behind text 0 (codes "SET") (32 ∷ (codes "NAMES " ++ rest)) at_set in
    let at_names : At text 4 (codes "NAMES" ++ 32 ∷ rest) = behind_blank text 3 (codes "NAMES " ++ rest) at_blank in
    let at_gap : At text 9 (32 ∷ rest) = behind text 4 (codes "NAMES") (32 ∷ rest) at_names in
    let set = token_of Word 0 (codes "SET") in
    let names = token_of Word 4 (codes "NAMES") in
    record {
      scan =
          scanned text 0 Word (codes "SET") (32 ∷ (codes "NAMES " ++ rest)) at_set (word_piece (codes "SET") (32 ∷ (codes "NAMES " ++ rest)) (refl, refl) (inl refl))
          ∙ ap (λ (tokens : List Token). set ∷ tokens) (past_blank text 3 (codes "NAMES " ++ rest) at_blank
          ∙ scanned text 4 Word (codes "NAMES") (32 ∷ rest) at_names (word_piece (codes "NAMES") (32 ∷ rest) (refl, refl) (inl refl))
          ∙ ap (λ (tokens : List Token). names ∷ tokens) (past_blank text 9 rest at_gap));
      set = said text 0 Word (codes "SET") (32 ∷ (codes "NAMES " ++ rest)) at_set;
      names = said text 4 Word (codes "NAMES") (32 ∷ rest) at_names;
      at = behind_blank text 9 rest at_gap;
    }

-- the changes that SET NAMES makes
abbrev pub changes_to : List ℕ → List Change
changes_to value = record { slot = Names; value = Text value; adds = false } ∷ record { slot = CharacterSetResults; value = Default; adds = false } ∷ record { slot = CollationConnection; value = Default; adds = false } ∷ []

-- a statement of which SET NAMES reads a value
names_shape : (text rest value : List ℕ) (tokens : List Token) → IsNamesRead text rest → statement_of text ≡ token_of Word 0 (codes "SET") ∷ token_of Word 4 (codes "NAMES") ∷ tokens → sets_server text 0 false tokens ≡ false → parts_of text 0 (token_of Word 4 (codes "NAMES") ∷ tokens) ≡ (token_of Word 4 (codes "NAMES") ∷ tokens) ∷ [] → names_value text (token_of Word 4 (codes "NAMES") ∷ tokens) ≡ Some value → set_shape text ≡ Tracked (changes_to value)
unfolding shape_behind assignments sets_mode_once
names_shape text rest value tokens read statement unscoped whole gives =
    let names = token_of Word 4 (codes "NAMES") in
    let behind = names ∷ tokens in
    let no_scope : sets_server text 0 true behind ≡ false = ap (λ word. (true && is_server_scope word) || sets_server text 0 false tokens) read.names ∙ unscoped in
    ap (shape_by text) statement
    ∙ cond-true (says text (token_of Word 0 (codes "SET")) (codes "SET")) _ _ (ap (λ word. same_text word (codes "SET")) read.set)
    ∙ cond-false (sets_server text 0 true behind) _ _ no_scope
    ∙ cond-false (says text names (codes "TRANSACTION")) _ _ (ap (λ word. same_text word (codes "TRANSACTION")) read.names)
    ∙ ap (λ mode. tracked_or_other (option_or (mode_changes mode) (assignments text behind))) (other_mode text names tokens (ap (λ word. same_text word (codes "SESSION") || same_text word (codes "LOCAL")) read.names))
    ∙ ap (λ (parts : List (List Token)). tracked_or_other (all_assigned text parts)) whole
    ∙ ap (λ value. tracked_or_other (with_changes (option_or (names_changes value) (option_map (λ change. change ∷ []) (assignment text behind))) (Some []))) gives

-- what a word says of the character set and the collation
set_said : (text set : List ℕ) (place : ℕ) → bytes_of text (token_of Word place set) ≡ set → is_character_set set ≡ true → character_set text (token_of Word place set) ≡ Some set
set_said text set place said is = ap (λ name. cond (is_character_set name) (Some name) None) said ∙ cond-true (is_character_set set) (Some set) None is

name_said : (text name : List ℕ) (place : ℕ) → bytes_of text (token_of Word place name) ≡ name → is_one_word name ≡ true → collation text (token_of Word place name) ≡ Some name
name_said text name place said is = ap (λ word. cond (is_one_word word) (Some word) None) said ∙ cond-true (is_one_word name) (Some name) None is

-- `SET NAMES c`
plain_again : (text set : List ℕ) → text ≡ codes "SET NAMES " ++ set → IsCharacterSet set → set_shape text ≡ Tracked (changes_to set)
unfolding names_value
plain_again text set is known =
    let read = names_read text set is in
    let at : At text 10 (set ++ []) = read.at ∙ sym (append-nil set) in
    let token = token_of Word 10 set in
    let names = token_of Word 4 (codes "NAMES") in
    let front : List Token → List Token = λ tokens. token_of Word 0 (codes "SET") ∷ names ∷ tokens in
    let scan : tokens_of text ≡ front (token ∷ []) = read.scan ∙ ap front (scanned text 10 Word set [] at (word_piece set [] (set_word set known) tt) ∙ ap (λ (tokens : List Token). token ∷ tokens) (at_end text (10 + length set) (behind text 10 set [] at))) in
    let gives : names_value text (names ∷ token ∷ []) ≡ Some set =
    cond-true (says text names (codes "NAMES")) _ _ (ap (λ word. same_text word (codes "NAMES")) read.names)
    ∙ ap (option_map lower_case) (set_said text set 10 (said text 10 Word set [] at) known.0)
    ∙ ap (λ (name : List ℕ). Some name) known.1 in
    names_shape text set set (token ∷ []) read (ap (λ (all : List Token). without_end text (without_comments all)) scan) refl refl gives

-- `SET NAMES c COLLATE k`
collated_again : (text value : List ℕ) → text ≡ codes "SET NAMES " ++ value → IsCollated value → set_shape text ≡ Tracked (changes_to value)
unfolding names_value
collated_again text value is collated_value =
    let set = collated_value.set in
    let name = collated_value.name in
    let read = names_read text value is in
    let tail = 32 ∷ (name ++ []) in
    let at_set : At text 10 (set ++ 32 ∷ (codes "COLLATE" ++ tail)) = read.at ∙ collated_value.parts ∙ append_assoc set (codes " COLLATE ") name ∙ ap (λ (word : List ℕ). set ++ (codes " COLLATE " ++ word)) (sym (append-nil name)) in
    let behind_set = 10 + length set in
    let at_blank : At text behind_set (32 ∷ (codes "COLLATE" ++ tail)) = behind text 10 set (32 ∷ (codes "COLLATE" ++ tail)) at_set in
    let at_collate : At text (behind_set + 1) (codes "COLLATE" ++ tail) = behind_blank text behind_set (codes "COLLATE" ++ tail) at_blank in
    let behind_collate = behind_set + 1 + 7 in
    let at_gap : At text behind_collate tail = behind text (behind_set + 1) (codes "COLLATE") tail at_collate in
    let start = behind_collate + 1 in
    let at_name : At text start (name ++ []) = behind_blank text behind_collate (name ++ []) at_gap in
    let names = token_of Word 4 (codes "NAMES") in
    let set_token = token_of Word 10 set in
    let collate = token_of Word (behind_set + 1) (codes "COLLATE") in
    let token = token_of Word start name in
    let front : List Token → List Token = λ tokens. token_of Word 0 (codes "SET") ∷ names ∷ tokens in
    let scan : tokens_of text ≡ front (set_token ∷ collate ∷ token ∷ []) =
    read.scan ∙ ap front
    (scanned text 10 Word set (32 ∷ (codes "COLLATE" ++ tail)) at_set (word_piece set (32 ∷ (codes "COLLATE" ++ tail)) (set_word set collated_value.is_set) (inl refl))
    ∙ ap (λ (tokens : List Token). set_token ∷ tokens)
    (past_blank text behind_set (codes "COLLATE" ++ tail) at_blank
    ∙ scanned text (behind_set + 1) Word (codes "COLLATE") tail at_collate (word_piece (codes "COLLATE") tail (refl, refl) (inl refl))
    ∙ ap (λ (tokens : List Token). collate ∷ tokens)
    (past_blank text behind_collate (name ++ []) at_gap
    ∙ scanned text start Word name [] at_name (word_piece name [] (word_text name (one_word name collated_value.is_word)) tt)
    ∙ ap (λ (tokens : List Token). token ∷ tokens) (at_end text (start + length name) (behind text start name [] at_name))))) in
    let is_names : says text names (codes "NAMES") ≡ true = ap (λ word. same_text word (codes "NAMES")) read.names in
    let is_collate : says text collate (codes "COLLATE") ≡ true = ap (λ word. same_text word (codes "COLLATE")) (said text (behind_set + 1) Word (codes "COLLATE") tail at_collate) in
    let gives : names_value text (names ∷ set_token ∷ collate ∷ token ∷ []) ≡ Some value =
    cond-true (says text names (codes "NAMES") && says text collate (codes "COLLATE")) _ _ (and_from _ _ is_names is_collate)
    ∙ ap (λ known. collated known (collation text token)) (set_said text set 10 (said text 10 Word set (32 ∷ (codes "COLLATE" ++ tail)) at_set) collated_value.is_set.0)
    ∙ ap (collated (Some set)) (name_said text name start (said text start Word name [] at_name) collated_value.is_word)
    ∙ ap (λ (lower : List ℕ). Some (lower ++ codes " COLLATE " ++ lower_case name)) collated_value.is_set.1
    ∙ ap (λ (lower : List ℕ). Some (set ++ codes " COLLATE " ++ lower)) collated_value.is_lower
    ∙ ap (λ (bytes : List ℕ). Some bytes) (sym collated_value.parts) in
    names_shape text value value (set_token ∷ collate ∷ token ∷ []) read (ap (λ (all : List Token). without_end text (without_comments all)) scan) refl refl gives

pub names_again : (text value : List ℕ) → text ≡ codes "SET NAMES " ++ value → IsCharacterSet value ⊎ IsCollated value → set_shape text ≡ Tracked (changes_to value)
names_again text value is (inl set) = plain_again text value is set
names_again text value is (inr known) = collated_again text value is known
