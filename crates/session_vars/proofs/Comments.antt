-- Executed comments are one token, and two of them name a setting.
use Rattle.std.proofs.Common.{◌≡◌, ◌⊎◌, ℕ, ◌+◌, Bool, true, false, not, ◌||◌, nat_eq, nat_lt, cond, List, [], ◌∷◌, ◌++◌, Option, Some, length, codes, refl, ◌∙◌, ap, inl, inr, arith, append_assoc, length-append}
use Rattle.std.specs.List.{list_all, list_any}
use Rattle.std.proofs.lemmas.Bool.{cond-true, cond-false, cases_Bool, and_from, and_left, and_parts, lt-ltb, not-true, or_from, or_left, or_right}
use Rattle.sql_tokens.specs.Bytes.{has_byte, later}
use Rattle.sql_tokens.specs.Comments.{begins_block, begins_line_comment, block_length, closes_block, executes, to_block_end}
use Rattle.sql_tokens.specs.Tokens.{closed, token_at}
use Rattle.sql_tokens.specs.Words.{same_text}
use Rattle.sql_tokens.specs.declared.token.TokenKind.{TokenKind}
use Rattle.sql_tokens.specs.declared.token.TokenKind.TheVariants.{Comment, Executed}
use Rattle.sql_tokens.proofs.WordStarts.{not_first}
use Rattle.session_vars.specs.Scopes.{is_server_scope}
use Rattle.session_vars.specs.Slots.{mariadb_isolation, mariadb_read_only, mysql_isolation, mysql_read_only, name_of, slot_named, slot_of_comments}
use Rattle.session_vars.specs.Texts.{is_names, written_name}
use Rattle.session_vars.specs.declared.change.SlotValue.{SlotValue}
use Rattle.session_vars.specs.declared.change.SlotValue.TheVariants.{Default, Text}
use Rattle.session_vars.specs.declared.slot.Slot.{Slot}
use Rattle.session_vars.specs.declared.slot.Slot.TheVariants.{Names, CharacterSetServer, TransactionIsolation, TransactionReadOnly}
use Rattle.session_vars.proofs.Pieces.{IsPiece}
use Rattle.session_vars.proofs.Rules.{IsWordText, is_first}

abbrev no_star : ℕ → Bool
no_star b = not (nat_eq b 42)

block_ends : (inner rest : List ℕ) → list_all no_star inner ≡ true → to_block_end (inner ++ 42 ∷ 47 ∷ rest) ≡ Some (length inner + 2)
block_ends [] rest none =
    let whole = 42 ∷ 47 ∷ rest in
    cond-true (closes_block whole) (Some 2) _
    (and_from (has_byte whole 0 42) (has_byte whole 1 47) (is_first 42 (47 ∷ rest)) (and_from (nat_lt 1 (length whole)) true (lt-ltb 1 (length whole) (omega arith)) refl))
block_ends (b ∷ inner) rest none =
    let both = and_parts (no_star b) (list_all no_star inner) none in
    let more = inner ++ 42 ∷ 47 ∷ rest in
    let size : 1 + (length inner + 2) ≡ length (b ∷ inner) + 2 = omega arith in
    cond-false (closes_block (b ∷ more)) (Some 2) _ (and_left (has_byte (b ∷ more) 0 42) (has_byte (b ∷ more) 1 47) (not_first b 42 more (not-true _ both.0)))
    ∙ ap (later 1) (block_ends inner rest both.1)
    ∙ ap (λ (n : ℕ). Some n) size

executed_piece : (inner rest : List ℕ) → list_all no_star inner ≡ true → executes (47 ∷ 42 ∷ (inner ++ 42 ∷ 47 ∷ rest)) ≡ true → IsPiece Executed (47 ∷ 42 ∷ (inner ++ 42 ∷ 47 ∷ [])) rest
unfolding token_at begins_line_comment begins_block block_length
executed_piece inner rest none runs =
    let part = 47 ∷ 42 ∷ (inner ++ 42 ∷ 47 ∷ []) in
    let behind = 42 ∷ (inner ++ 42 ∷ 47 ∷ rest) in
    let whole = 47 ∷ behind in
    let same : part ++ rest ≡ whole = ap (λ (tail : List ℕ). 47 ∷ 42 ∷ tail) (append_assoc inner (42 ∷ 47 ∷ []) rest) in
    let begins = and_from (has_byte whole 0 47) (has_byte whole 1 42) (is_first 47 behind) (and_from (nat_lt 1 (length whole)) true (lt-ltb 1 (length whole) (omega arith)) refl) in
    let size : 2 + (length inner + 2) ≡ length part = omega (arith, length-append inner (42 ∷ 47 ∷ [])) in
    record {
      some = omega arith;
      dark = refl;
      rule =
          ap token_at same
          ∙ cond-false (begins_line_comment whole) _ _ (or_from _ _ (not_first 47 35 behind refl) (and_left _ _ (and_left _ _ (not_first 47 45 behind refl))))
          ∙ cond-true (begins_block whole) _ _ begins
          ∙ ap (λ end. closed (cond (executes whole) Executed Comment) end whole) (ap (later 2) (block_ends inner rest none))
          ∙ ap (λ (kind : TokenKind). (kind, 2 + (length inner + 2))) (cond-true (executes whole) Executed Comment runs)
          ∙ ap (λ (n : ℕ). (Executed, n)) size;
    }

-- `/*M!` and `/*!`
mariadb_piece : (inner rest : List ℕ) → list_all no_star (77 ∷ 33 ∷ inner) ≡ true → IsPiece Executed (47 ∷ 42 ∷ 77 ∷ 33 ∷ (inner ++ 42 ∷ 47 ∷ [])) rest
mariadb_piece inner rest none =
    let whole = 47 ∷ 42 ∷ 77 ∷ 33 ∷ (inner ++ 42 ∷ 47 ∷ rest) in
    executed_piece (77 ∷ 33 ∷ inner) rest none
    (or_right (has_byte whole 2 33) _
    (and_from (has_byte whole 2 77) (has_byte whole 3 33)
    (and_from (nat_lt 2 (length whole)) true (lt-ltb 2 (length whole) (omega arith)) refl)
    (and_from (nat_lt 3 (length whole)) true (lt-ltb 3 (length whole) (omega arith)) refl)))

mysql_piece : (inner rest : List ℕ) → list_all no_star (33 ∷ inner) ≡ true → IsPiece Executed (47 ∷ 42 ∷ 33 ∷ (inner ++ 42 ∷ 47 ∷ [])) rest
mysql_piece inner rest none =
    let whole = 47 ∷ 42 ∷ 33 ∷ (inner ++ 42 ∷ 47 ∷ rest) in
    executed_piece (33 ∷ inner) rest none
    (or_left (has_byte whole 2 33) _ (and_from (nat_lt 2 (length whole)) true (lt-ltb 2 (length whole) (omega arith)) refl))

-- such a comment, whatever stands behind it
abbrev pub IsComment : List ℕ → Type 0
IsComment bytes = (rest : List ℕ) → IsPiece Executed bytes rest

-- a word that names a setting, and nothing else that a SET may begin with
pub record IsWordName (slot : Slot) (name : List ℕ) : Type 0 where
  pub word : IsWordText name
  pub no_session : same_text name (codes "SESSION") || same_text name (codes "LOCAL") ≡ false
  pub no_server : is_server_scope name ≡ false
  pub no_transaction : same_text name (codes "TRANSACTION") ≡ false
  pub names : slot_named name ≡ Some slot

own_name : (slot : Slot) → is_names slot ≡ false → IsWordName slot (name_of slot)
own_name Names other = absurd (cc)
own_name _ other = record { word = (refl, refl); no_session = refl; no_server = refl; no_transaction = refl; names = refl }

-- a change is written by such a word, or by two comments that name its setting
pub record IsSpelt (slot : Slot) (value : SlotValue) : Type 0 where
  pub name : List ℕ
  pub is : written_name slot value ≡ name
  pub word : IsWordName slot name

pub record AreComments (slot : Slot) (value : SlotValue) : Type 0 where
  pub first : List ℕ
  pub second : List ℕ
  pub spelt : written_name slot value ≡ first ++ 32 ∷ second
  pub names : slot_of_comments first second ≡ Some slot
  pub is_first : IsComment first
  pub is_second : IsComment second

server_spelt : (value : SlotValue) → IsSpelt CharacterSetServer value
server_spelt Default = record { name = name_of CharacterSetServer; is = refl; word = own_name CharacterSetServer refl }
server_spelt (Text bytes) =
    let collates = list_any (nat_eq 95) bytes in
    elim (cases_Bool collates) [
      | inl e ↦ record {
        name = codes "collation_server";
        is = cond-true collates _ _ e;
        word = record { word = (refl, refl); no_session = refl; no_server = refl; no_transaction = refl; names = refl };
      }
      | inr e ↦ record { name = name_of CharacterSetServer; is = cond-false collates _ _ e; word = own_name CharacterSetServer refl }
    ]

pub spelling : (slot : Slot) (value : SlotValue) → is_names slot ≡ false → IsSpelt slot value ⊎ AreComments slot value
unfolding slot_of_comments
spelling TransactionIsolation value other = inr (record {
  first = mariadb_isolation;
  second = mysql_isolation;
  spelt = refl;
  names = refl;
  is_first = λ rest. mariadb_piece (codes "tx_isolation") rest refl;
  is_second = λ rest. mysql_piece (codes "50720 transaction_isolation") rest refl;
})
spelling TransactionReadOnly value other = inr (record {
  first = mariadb_read_only;
  second = mysql_read_only;
  spelt = refl;
  names = refl;
  is_first = λ rest. mariadb_piece (codes "tx_read_only") rest refl;
  is_second = λ rest. mysql_piece (codes "50720 transaction_read_only") rest refl;
})
spelling CharacterSetServer value other = inl (server_spelt value)
spelling slot value other = inl (record { name = name_of slot; is = refl; word = own_name slot other })
