-- SET SESSION last_insert_id is no SET of tracked settings.
use Rattle.std.specs.Prelude.{◌≡◌, ℕ, Bool, true, false, ◌&&◌, bytes_eq, find, List, [], ◌∷◌, codes, map, Option, None, Some, option_and_then, option_map, if◌then◌else◌}
use Rattle.std.proofs.Common.{refl, ap, ◌∙◌}
use Rattle.std.proofs.lemmas.Bool.{cond-true, cond-false, and_left, or_from, or_left, or_right}
use Rattle.std.specs.Char.{to_ascii_lowercase}
use Rattle.std.specs.Cmp.Lexicographic.{bytes_decides}
use Rattle.std.specs.List.{list_any}
use Rattle.std.specs.Option.{option_or}
use Rattle.sql_tokens.specs.Words.{bytes_of, inside, is_symbol, is_symbol_kind, is_word, same_text, says, word_by, word_of}
use Rattle.sql_tokens.specs.declared.token.Token.{Token}
use Rattle.sql_tokens.specs.declared.token.TokenKind.{TokenKind}
use Rattle.sql_tokens.specs.declared.token.TokenKind.TheVariants as kinds
use Rattle.session_vars.proofs.Dispatch.{no_mode}
use Rattle.session_vars.proofs.First.{no_symbol}
use Rattle.session_vars.proofs.Parts.{none_assigned}
use Rattle.session_vars.proofs.Unnamed.{one_part as assigned_part, unnamed_change, word_plain}
use Rattle.session_vars.specs.Assignments.{assignment, part_changes, assignments, slot_of_name}
use Rattle.session_vars.specs.Scopes.{before_comma, deeper, divides, names_server, server_scopes, sets_server}
use Rattle.session_vars.specs.Shapes.{set_shape, shape_behind, shape_by, tracked_or_other}
use Rattle.session_vars.specs.Slots.{assigned_slots, is_named, slot_named}
use Rattle.session_vars.specs.Statement.{is_session_word, without_end}
use Rattle.session_vars.specs.Transactions.{mode_changes}
use Rattle.session_vars.specs.declared.change.Change.{Change}
use Rattle.session_vars.specs.declared.shape.SetShape.TheVariants.{Other}
use Rattle.pin_classifier.specs.Classes.{is_deep, is_other}
use Rattle.pin_classifier.specs.Statement.{statement}
use Rattle.mem_rule.specs.Forms.{captured_by, fixed_if}
use Rattle.mem_rule.specs.declared.form.Captured.TheVariants.{Value}
use Rattle.mem_rule.specs.declared.form.Form.TheVariants as forms
use Rattle.mem_rule.proofs.Taking.{HasForm, Takes, is_taken, stated}
use Rattle.mem_rule.proofs.Telling.{said_as, says_piece, when_fixed}

-- None of its tokens behind SET is a comma, and the last one isn't a semicolon.

abbrev is_byte_by : TokenKind → List ℕ → (byte : ℕ) → Bool
is_byte_by kind bytes byte = is_symbol_kind kind && bytes_eq bytes (byte ∷ [])

when_same : (bytes piece : List ℕ) (byte : ℕ) → bytes_eq bytes piece ≡ true → bytes_eq piece (byte ∷ []) ≡ false → bytes_eq bytes (byte ∷ []) ≡ false
when_same bytes piece byte is other = ap (λ these. bytes_eq these (byte ∷ [])) ((bytes_decides bytes piece).0 is) ∙ other

equals_by : (kind : TokenKind) (text : List ℕ) (token : Token) → is_taken (captured_by kind text (codes "=") token) ≡ true → is_byte_by kind (bytes_of text token) 44 ≡ false
equals_by kinds.Symbol text token is = when_same (bytes_of text token) (codes "=") 44 (one (bytes_eq (bytes_of text token) (codes "?")) (bytes_eq (bytes_of text token) (codes "=")) is) refl
  where
    one : (asks same : Bool) → is_taken (if asks && false then Value None else fixed_if (true && same)) ≡ true → same ≡ true
    one true same is = when_fixed same is
    one false same is = when_fixed same is
equals_by _ text token is = refl

value_by : (kind : TokenKind) (text : List ℕ) (token : Token) (byte : ℕ) → bytes_eq (codes "?") (byte ∷ []) ≡ false → is_taken (captured_by kind text (codes "<n>") token) ≡ true → is_byte_by kind (bytes_of text token) byte ≡ false
value_by kinds.Symbol text token byte other is = when_same (bytes_of text token) (codes "?") byte (asks (bytes_eq (bytes_of text token) (codes "?")) is) other
  where
    asks : (asks : Bool) → is_taken (if asks && true then Value None else fixed_if false) ≡ true → asks ≡ true
    asks true is = refl
    asks false is = is
value_by _ text token byte other is = refl

no_byte : (text : List ℕ) (token : Token) (piece : List ℕ) (byte : ℕ) → says text token piece ≡ true → is_symbol text token byte ≡ false
no_byte text token piece byte is = and_left _ _ (no_symbol token.kind (bytes_of text token) piece is)

abbrev AreWhole : (text : List ℕ) → List Token → Type 0
AreWhole text [] = Unit {0}
AreWhole text (token ∷ tokens) = (is_symbol text token 44 ≡ false) × AreWhole text tokens

undivided : (text : List ℕ) (depth : ℕ) (token : Token) → is_symbol text token 44 ≡ false → divides text depth token ≡ false
undivided text depth token none = and_left _ _ none

unscoped : (text : List ℕ) (depth : ℕ) (tokens : List Token) → AreWhole text tokens → sets_server text depth false tokens ≡ false
unscoped text depth [] whole = refl
unscoped text depth (token ∷ tokens) whole = ap (λ due. sets_server text (deeper text token depth) due tokens) (undivided text depth token whole.0) ∙ unscoped text (deeper text token depth) tokens whole.1

one_part : (text : List ℕ) (depth : ℕ) (tokens : List Token) → AreWhole text tokens → before_comma text depth tokens ≡ tokens
one_part text depth [] whole = refl
one_part text depth (token ∷ tokens) whole = cond-false (divides text depth token) _ _ (undivided text depth token whole.0) ∙ ap (λ (rest : List Token). token ∷ rest) (one_part text (deeper text token depth) tokens whole.1)

-- Its words.

no_server : (kind : TokenKind) (bytes piece : List ℕ) → list_any (same_text piece) server_scopes ≡ false → is_word (word_by kind bytes) piece ≡ true → names_server kind bytes ≡ false
no_server kinds.Word bytes piece none is = ap (λ lower. list_any (λ word. bytes_eq lower (map to_ascii_lowercase word)) server_scopes) ((bytes_decides (map to_ascii_lowercase bytes) (map to_ascii_lowercase piece)).0 is) ∙ none
no_server kinds.Name bytes piece none is = ap (λ lower. list_any (λ word. bytes_eq lower (map to_ascii_lowercase word)) server_scopes) ((bytes_decides (map to_ascii_lowercase (inside bytes)) (map to_ascii_lowercase piece)).0 is) ∙ none
no_server _ bytes piece none is = absurd (cc)

unnamed : (named : Option (List ℕ)) → is_word named (codes "last_insert_id") ≡ true → option_and_then slot_named named ≡ None
unnamed None is = refl
unnamed (Some name) is = ap (λ lower. find (is_named lower) assigned_slots) ((bytes_decides (map to_ascii_lowercase name) (map to_ascii_lowercase (codes "last_insert_id"))).0 is)

-- what stands behind SET
behind_set : (text : List ℕ) (scope name equals value : Token) → says text scope (codes "SESSION") ≡ true → says text name (codes "last_insert_id") ≡ true → AreWhole text (scope ∷ name ∷ equals ∷ value ∷ []) → shape_behind text (scope ∷ name ∷ equals ∷ value ∷ []) ≡ Other
unfolding shape_behind assignment
behind_set text scope name equals value is_scope is_name whole =
    let tokens = scope ∷ name ∷ equals ∷ value ∷ [] in
    let session : is_session_word text scope ≡ true = or_left _ _ is_scope in
    let rest : sets_server text (deeper text scope 0) (divides text 0 scope) (name ∷ equals ∷ value ∷ []) ≡ false = ap (λ due. sets_server text (deeper text scope 0) due (name ∷ equals ∷ value ∷ [])) (undivided text 0 scope whole.0) ∙ unscoped text (deeper text scope 0) (name ∷ equals ∷ value ∷ []) whole.1 in
    let none : assignments text tokens ≡ None =
    none_assigned text tokens
    (ap (part_changes text) (one_part text 0 tokens whole)
    ∙ assigned_part text tokens (said_as (word_of text scope) (codes "SESSION") is_scope (codes "NAMES"))
    ∙ ap (option_map (λ (change : Change). change ∷ [])) (cond-true (is_session_word text scope) _ _ session
    ∙ unnamed_change text (slot_of_name text name) name (equals ∷ value ∷ []) (word_plain name.kind (bytes_of text name) (codes "last_insert_id") is_name) (unnamed (word_of text name) is_name))) in
    cond-false (sets_server text 0 true tokens) _ _ (or_from _ _ (no_server scope.kind (bytes_of text scope) (codes "SESSION") refl is_scope) rest)
    ∙ cond-false (says text scope (codes "TRANSACTION")) _ _ (said_as (word_of text scope) (codes "SESSION") is_scope (codes "TRANSACTION"))
    ∙ ap tracked_or_other
    (ap (λ mode. option_or (mode_changes mode) (assignments text tokens)) (no_mode text scope name (equals ∷ value ∷ []) (said_as (word_of text name) (codes "last_insert_id") is_name (codes "TRANSACTION")))
    ∙ none)

abbrev its_pieces : List (List ℕ)
its_pieces = codes "SET" ∷ codes "SESSION" ∷ codes "last_insert_id" ∷ codes "=" ∷ codes "<n>" ∷ []

other_by : (text : List ℕ) (tokens : List Token) → Takes text tokens its_pieces → shape_by text (without_end text tokens) ≡ Other
other_by text [] takes = absurd takes
other_by text (a ∷ []) takes = absurd takes.1
other_by text (a ∷ b ∷ []) takes = absurd takes.1.1
other_by text (a ∷ b ∷ c ∷ []) takes = absurd takes.1.1.1
other_by text (a ∷ b ∷ c ∷ d ∷ []) takes = absurd takes.1.1.1.1
other_by text (a ∷ b ∷ c ∷ d ∷ e ∷ f ∷ tokens) takes = absurd takes.1.1.1.1.1
other_by text (a ∷ b ∷ c ∷ d ∷ e ∷ []) takes =
    let scope = says_piece text (codes "SESSION") b refl takes.1.0 in
    let name = says_piece text (codes "last_insert_id") c refl takes.1.1.0 in
    let equals = equals_by d.kind text d takes.1.1.1.0 in
    let value = value_by e.kind text e 44 refl takes.1.1.1.1.0 in
    let end : is_symbol text e 59 ≡ false = value_by e.kind text e 59 refl takes.1.1.1.1.0 in
    ap (λ (last : List Token). shape_by text (a ∷ b ∷ c ∷ d ∷ last)) (cond-false (is_symbol text e 59) _ _ end)
    ∙ cond-true (says text a (codes "SET")) _ _ (says_piece text (codes "SET") a refl takes.0)
    ∙ behind_set text b c d e scope name (no_byte text b (codes "SESSION") 44 scope, (no_byte text c (codes "last_insert_id") 44 name, (equals, (value, tt))))

pub other_shape : (text : List ℕ) → HasForm text forms.SetId → set_shape text ≡ Other
other_shape text has = other_by text (statement text) (stated text forms.SetId has)

pub sets_id : (text : List ℕ) → HasForm text forms.SetId → is_deep text ≡ true
unfolding is_deep
sets_id text has = or_left _ _ (or_right _ _ (ap is_other (other_shape text has)))
