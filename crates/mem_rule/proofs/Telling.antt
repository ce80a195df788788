-- What the form of a text tells of its class.
use Rattle.std.specs.Prelude.{◌≡◌, ℕ, Bool, true, false, not, ◌&&◌, ◌||◌, nat_eq, bytes_eq, List, [], ◌∷◌, codes, length, map, slice_get, Option, None, Some, if◌then◌else◌}
use Rattle.std.proofs.Common.{refl, sym, ap, ◌∙◌}
use Rattle.std.proofs.lemmas.Bool.{cond-true, cond-false, and_from, and_left, or_from, or_left, or_right}
use Rattle.std.specs.Char.{to_ascii_lowercase}
use Rattle.std.specs.Cmp.Lexicographic.{bytes_decides}
use Rattle.std.specs.List.{list_any}
use Rattle.sql_tokens.specs.Words.{bytes_of, is_symbol, is_symbol_kind, is_word, same_text, says, word_by, word_of}
use Rattle.sql_tokens.specs.declared.token.Token.{Token}
use Rattle.sql_tokens.specs.declared.token.TokenKind.{TokenKind}
use Rattle.sql_tokens.specs.declared.token.TokenKind.TheVariants as kinds
use Rattle.session_state.specs.Classes.{Neither, effect_in, effect_of}
use Rattle.session_vars.proofs.First.{no_symbol}
use Rattle.session_vars.specs.Statement.{says_first}
use Rattle.pin_classifier.specs.Classes.{class_of, first, is_deep, is_deep_inside, is_deep_start, locking_of, makes_temporary, marks_id, reads_diagnostics, reads_id, second, spares_variables}
use Rattle.pin_classifier.specs.Functions.{calls_any, names_session_function}
use Rattle.pin_classifier.specs.Judged.{judged}
use Rattle.pin_classifier.specs.Shapes.{asks_connection_id, is_end, is_there, shape_of, use_or_other, used_schema}
use Rattle.pin_classifier.specs.Starts.{defines, locks_tables, makes_id, names_accounts, names_tables, shows_diagnostics, stores}
use Rattle.pin_classifier.specs.Statement.{first_word, has_user_variable, has_word, is_quoted, is_user_variable, neighbours, next_word, statement}
use Rattle.pin_classifier.specs.declared.class.Locking.TheVariants.{Takes as Locks}
use Rattle.pin_classifier.specs.declared.class.Shape.TheVariants.{ConnectionId}
use Rattle.mem_rule.specs.Forms.{captured_by, fixed_if, is_word_piece, taken_as}
use Rattle.mem_rule.specs.declared.form.Captured.TheVariants.{Value}
use Rattle.mem_rule.specs.declared.form.Form.{Form}
use Rattle.mem_rule.specs.declared.form.Form.TheVariants as forms
use Rattle.mem_rule.proofs.Taking.{HasForm, Takes, is_taken, pieces_of, stated}

abbrev pub head_of : List (List ℕ) → List ℕ
head_of [] = []
head_of (piece ∷ pieces) = piece

-- a word that is this one is each other one as far as this one is
pub said_as : (named : Option (List ℕ)) (piece : List ℕ) → is_word named piece ≡ true → (word : List ℕ) → is_word named word ≡ same_text piece word
said_as None piece is word = absurd (cc)
said_as (Some name) piece is word = ap (λ lower. bytes_eq lower (map to_ascii_lowercase word)) ((bytes_decides (map to_ascii_lowercase name) (map to_ascii_lowercase piece)).0 is)

pub when_fixed : (b : Bool) → is_taken (fixed_if b) ≡ true → b ≡ true
when_fixed true is = refl
when_fixed false is = absurd (cc)

pub says_piece : (text piece : List ℕ) (token : Token) → is_word_piece piece ≡ true → is_taken (taken_as text piece token) ≡ true → says text token piece ≡ true
says_piece text piece token word taken = when_fixed (says text token piece) (ap is_taken (sym (cond-true (is_word_piece piece) _ _ word)) ∙ taken)

-- The first word.

begins : (text : List ℕ) (tokens : List Token) (pieces : List (List ℕ)) → is_word_piece (head_of pieces) ≡ true → Takes text tokens pieces → (word : List ℕ) → says_first text tokens word ≡ same_text (head_of pieces) word
begins text [] [] is takes word = absurd (cc)
begins text [] (piece ∷ pieces) is takes word = absurd takes
begins text (token ∷ tokens) [] is takes word = absurd takes
begins text (token ∷ tokens) (piece ∷ pieces) is takes word = said_as (word_of text token) piece (says_piece text piece token is takes.0) word

by_first : (text : List ℕ) (tokens : List Token) (piece : List ℕ) → says_first text tokens piece ≡ true → (word : List ℕ) → is_word (first_word text (slice_get tokens 0)) word ≡ same_text piece word
by_first text [] piece is word = absurd (cc)
by_first text (token ∷ tokens) piece is word =
    let none : is_symbol text token 40 ≡ false = and_left _ _ (no_symbol token.kind (bytes_of text token) piece is) in
    ap (λ named. is_word named word) (cond-false (is_symbol text token 40) (Some (codes "SELECT")) (word_of text token) none) ∙ said_as (word_of text token) piece is word

word_first : (form : Form) → is_word_piece (head_of (pieces_of form)) ≡ true
word_first forms.CreateTable = refl
word_first _ = refl

same_first : (form : Form) → same_text (head_of (pieces_of form)) (head_of (pieces_of form)) ≡ true
same_first forms.CreateTable = refl
same_first _ = refl

pub starts : (text : List ℕ) (form : Form) → HasForm text form → (word : List ℕ) → says_first text (statement text) word ≡ same_text (head_of (pieces_of form)) word
starts text form has word = begins text (statement text) (pieces_of form) (word_first form) (stated text form has) word

pub first_is : (text : List ℕ) (form : Form) → HasForm text form → (word : List ℕ) → is_word (first text) word ≡ same_text (head_of (pieces_of form)) word
first_is text form has word = by_first text (statement text) (head_of (pieces_of form)) (starts text form has (head_of (pieces_of form)) ∙ same_first form) word

-- Where it is neither SET nor USE, schema and settings stay.

pub there_first : (text : List ℕ) (tokens : List Token) (word : List ℕ) → is_there text (slice_get tokens 0) word ≡ says_first text tokens word
there_first text [] word = refl
there_first text (token ∷ tokens) word = refl

neither : (asks : Bool) (schema : Option (List ℕ)) → schema ≡ None → effect_in (if asks then ConnectionId else use_or_other schema) ≡ Neither
neither true schema none = refl
neither false schema none = ap (λ used. effect_in (use_or_other used)) none

pub no_effect : (text : List ℕ) → is_there (judged text) (slice_get (statement (judged text)) 0) (codes "SET") ≡ false → is_there (judged text) (slice_get (statement (judged text)) 0) (codes "USE") ≡ false → effect_of (class_of text) ≡ Neither
unfolding class_of shape_of used_schema
no_effect text no_set no_use =
    let inner = judged text in
    let tokens = statement inner in
    let uses = is_there inner (slice_get tokens 0) (codes "USE") && is_end inner (slice_get tokens 2) (slice_get tokens 3) in
    ap effect_in (cond-false (is_there inner (slice_get tokens 0) (codes "SET")) _ _ no_set) ∙ neither (asks_connection_id inner tokens) (used_schema inner tokens) (cond-false uses _ _ (and_left _ _ no_use))

-- The second one.

pub by_second : (text : List ℕ) (tokens : List Token) (a b : List ℕ) (pieces : List (List ℕ)) → is_word_piece b ≡ true → Takes text tokens (a ∷ b ∷ pieces) → (word : List ℕ) → is_word (next_word text (slice_get tokens 1)) word ≡ same_text b word
by_second text [] a b pieces is takes word = absurd takes
by_second text (one ∷ []) a b pieces is takes word = absurd takes.1
by_second text (one ∷ two ∷ tokens) a b pieces is takes word = said_as (word_of text two) b (says_piece text b two is takes.1.0) word

pub locks : (text : List ℕ) → HasForm text forms.LockTables → locking_of (first text) (second text) ≡ Locks
unfolding locking_of locks_tables names_tables
locks text has =
    cond-true (is_word (first text) (codes "LOCK") && (is_word (second text) (codes "TABLE") || is_word (second text) (codes "TABLES"))) _ _
    (and_from _ _ (first_is text forms.LockTables has (codes "LOCK")) (or_right _ _ (by_second text (statement text) (codes "LOCK") (codes "TABLES") (codes "t" ∷ codes "WRITE" ∷ []) refl (stated text forms.LockTables has) (codes "TABLES"))))

pub warns : (text : List ℕ) → HasForm text forms.Warnings → reads_diagnostics text ≡ true
unfolding reads_diagnostics shows_diagnostics
warns text has =
    let word = by_second text (statement text) (codes "SHOW") (codes "WARNINGS") [] refl (stated text forms.Warnings has) (codes "WARNINGS") in
    or_left _ _ (or_left _ _ (or_left _ _ (or_left _ _ (or_right _ _ (or_left _ _ (and_from _ _ (first_is text forms.Warnings has (codes "SHOW")) (or_left _ _ (or_left _ _ word))))))))

pub inserts : (text : List ℕ) → HasForm text forms.Insert → marks_id text ≡ true
unfolding marks_id makes_id
inserts text has = or_right _ _ (or_left _ _ (or_left _ _ (first_is text forms.Insert has (codes "INSERT"))))

-- Calls.

opens_by : (kind : TokenKind) (text : List ℕ) (token : Token) → is_taken (captured_by kind text (codes "(") token) ≡ true → (is_symbol_kind kind && bytes_eq (bytes_of text token) (codes "(")) ≡ true
opens_by kinds.Symbol text token is = opens (bytes_eq (bytes_of text token) (codes "?")) (bytes_eq (bytes_of text token) (codes "(")) is
  where
    opens : (asks same : Bool) → is_taken (if asks && (bytes_eq (codes "(") (codes "<n>") || bytes_eq (codes "(") (codes "<x>")) then Value None else fixed_if (nat_eq (length (codes "(")) 1 && same)) ≡ true → same ≡ true
    opens true same is = when_fixed same is
    opens false same is = when_fixed same is
opens_by kinds.Quoted text token is = absurd (cc)
opens_by _ text token is = absurd (cc)

calls_second : (text : List ℕ) (tokens : List Token) (a name : List ℕ) (pieces : List (List ℕ)) → is_word_piece name ≡ true → Takes text tokens (a ∷ name ∷ codes "(" ∷ pieces)
    → (test : Option (List ℕ) → Bool) → ((named : Option (List ℕ)) → is_word named name ≡ true → test named ≡ true) → list_any (calls_any text test) (neighbours tokens) ≡ true
calls_second text [] a name pieces is takes test passes = absurd takes
calls_second text (one ∷ []) a name pieces is takes test passes = absurd takes.1
calls_second text (one ∷ two ∷ []) a name pieces is takes test passes = absurd takes.1.1
calls_second text (one ∷ two ∷ three ∷ tokens) a name pieces is takes test passes =
    or_right _ _ (or_left _ _ (and_from _ _ (passes (word_of text two) (says_piece text name two is takes.1.0)) (opens_by three.kind text three takes.1.1.0)))

pub reads_it : (text : List ℕ) → HasForm text forms.Id → marks_id text ≡ true
unfolding marks_id reads_id
reads_it text has =
    let name = codes "LAST_INSERT_ID" in
    or_left _ _ (or_left _ _ (or_left _ _ (or_left _ _ (calls_second text (statement text) (codes "SELECT") name (codes ")" ∷ []) refl (stated text forms.Id has) (λ named. is_word named name) (λ named is. is)))))

is_function : (named : Option (List ℕ)) → is_word named (codes "GET_LOCK") ≡ true → names_session_function named ≡ true
is_function None is = absurd (cc)
is_function (Some name) is = or_left _ _ (or_left _ _ is)

-- Deep ones.

deep_inside : (text : List ℕ) → is_deep_inside text ≡ true → is_deep text ≡ true
unfolding is_deep
deep_inside text is = or_left _ _ (or_left _ _ (or_left _ _ is))

pub locks_by_name : (text : List ℕ) → HasForm text forms.Lock → is_deep text ≡ true
unfolding is_deep_inside
locks_by_name text has =
    let call = calls_second text (statement text) (codes "SELECT") (codes "GET_LOCK") (codes "<x>" ∷ codes "," ∷ codes "0" ∷ codes ")" ∷ []) refl (stated text forms.Lock has) names_session_function is_function in
    deep_inside text (or_left _ _ (or_left _ _ (or_left _ _ (or_right _ _ call))))

pub names_by : (kind : TokenKind) (text : List ℕ) (token : Token) → is_taken (captured_by kind text (codes "<a>") token) ≡ true → is_user_variable kind ≡ true
names_by kinds.UserVar text token is = refl
names_by kinds.Symbol text token is = asks (bytes_eq (bytes_of text token) (codes "?")) is
  where
    asks : (asks : Bool) → is_taken (if asks && false then Value None else fixed_if false) ≡ true → false ≡ true
    asks true is = is
    asks false is = is
names_by _ text token is = is

no_account : (kind : TokenKind) (bytes piece : List ℕ) → is_word (word_by kind bytes) piece ≡ true → not (is_quoted kind) ≡ true
no_account kinds.Quoted bytes piece is = absurd (cc)
no_account _ bytes piece is = refl

hides_second : (text : List ℕ) (tokens : List Token) (a : List ℕ) (pieces : List (List ℕ)) → is_word_piece a ≡ true → Takes text tokens (a ∷ codes "<a>" ∷ pieces) → has_user_variable text tokens ≡ true
hides_second text [] a pieces is takes = absurd takes
hides_second text (one ∷ []) a pieces is takes = absurd takes.1
hides_second text (one ∷ two ∷ tokens) a pieces is takes =
    or_left _ _ (and_from _ _ (names_by two.kind text two takes.1.0) (no_account one.kind (bytes_of text one) a (says_piece text a one is takes.0)))

-- a SET names no accounts and stores nothing
unspared : (text : List ℕ) → HasForm text forms.SetVariable → not (spares_variables text) ≡ true
unfolding spares_variables names_accounts stores defines
unspared text has =
    let isnt = first_is text forms.SetVariable has in
    let defines_none = or_from _ _ (or_from _ _ (or_from _ _ (isnt (codes "CREATE")) (isnt (codes "ALTER"))) (isnt (codes "DROP"))) (isnt (codes "RENAME")) in
    let no_account = or_from _ _ (or_from _ _ (or_from _ _ (isnt (codes "GRANT")) (isnt (codes "REVOKE"))) (and_left _ _ defines_none)) (and_left _ _ (isnt (codes "SHOW"))) in
    ap not (or_from _ _ no_account (and_left _ _ (and_left _ _ defines_none)))

pub sets_variable : (text : List ℕ) → HasForm text forms.SetVariable → is_deep text ≡ true
unfolding is_deep_inside
sets_variable text has =
    let hides = hides_second text (statement text) (codes "SET") (codes "=" ∷ codes "<n>" ∷ []) refl (stated text forms.SetVariable has) in
    deep_inside text (or_left _ _ (or_left _ _ (or_left _ _ (or_left _ _ (or_right _ _ (and_from _ _ hides (unspared text has)))))))

has_second : (text : List ℕ) (tokens : List Token) (a b : List ℕ) (pieces : List (List ℕ)) → is_word_piece b ≡ true → Takes text tokens (a ∷ b ∷ pieces) → has_word text tokens b ≡ true
has_second text [] a b pieces is takes = absurd takes
has_second text (one ∷ []) a b pieces is takes = absurd takes.1
has_second text (one ∷ two ∷ tokens) a b pieces is takes = or_right _ _ (or_left _ _ (says_piece text b two is takes.1.0))

pub creates_temporary : (text : List ℕ) → HasForm text forms.CreateTemporary → is_deep text ≡ true
unfolding is_deep is_deep_start makes_temporary
creates_temporary text has =
    let temporary = and_from _ _ (first_is text forms.CreateTemporary has (codes "CREATE")) (has_second text (statement text) (codes "CREATE") (codes "TEMPORARY") (codes "TABLE" ∷ codes "t" ∷ []) refl (stated text forms.CreateTemporary has)) in
    or_left _ _ (or_left _ _ (or_right _ _ (or_left _ _ (or_left _ _ (or_left _ _ (or_left _ _ (or_left _ _ (or_left _ _ (or_left _ _ (or_left _ _ temporary))))))))))
