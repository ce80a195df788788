-- The first words behind SET tell what a statement can be.
use Rattle.std.proofs.Common.{◌≡◌, ℕ, true, false, ◌&&◌, List, [], ◌∷◌, ◌++◌, Option, Some, None, Result, IfOk, codes, option_map, MatchOption, refl, sym, subst, ◌∙◌, ap, inl, inr}
use Rattle.std.specs.Option.{ForSome, option_or, option_to_list}
use Rattle.std.proofs.lemmas.Bool.{cond-true, cond-false, and_from, and_left, and_right, or_cases}
use Rattle.std.proofs.lemmas.Result.{IfOk-weaker}
use Rattle.sql_tokens.specs.Words.{bytes_of, is_symbol, is_symbol_kind, word_of, says}
use Rattle.sql_tokens.specs.declared.token.Token.{Token}
use Rattle.session_vars.specs.Assignments.{assignment, part_changes, assignments, slot_of_name}
use Rattle.session_vars.specs.Scopes.{before_comma, deeper, divides}
use Rattle.session_vars.specs.Shapes.{own_changes}
use Rattle.session_vars.specs.Statement.{says_first, is_session_word, begins_with_session}
use Rattle.session_vars.specs.Transactions.{mode_of, transaction_mode, mode_changes}
use Rattle.session_vars.specs.declared.change.Change.{Change}
use Rattle.session_vars.proofs.First.{no_symbol}
use Rattle.session_vars.proofs.Parts.{none_assigned}
use Rattle.session_vars.proofs.Unnamed.{one_part, session_no_names, transaction_unnamed, unnamed_change, word_plain}

pub no_mode : (text : List ℕ) (scope token : Token) (tokens : List Token) → says text token (codes "TRANSACTION") ≡ false → transaction_mode text (scope ∷ token ∷ tokens) ≡ None
unfolding transaction_mode
no_mode text scope token tokens other = cond-false _ _ _ (and_right _ (says text token (codes "TRANSACTION")) other)

-- a value that is read, by another name
pub ok_is : {T E : Type 0} (read : Result T E) (x y : T) → x ≡ y → IfOk read (λ value. value ≡ x) → IfOk read (λ value. value ≡ y)
ok_is read x y same is = IfOk-weaker read (λ value. value ≡ x) (λ value. value ≡ y) (λ value e. e ∙ same) is

-- a word divides nothing
no_comma : (text : List ℕ) (depth : ℕ) (token : Token) → is_symbol_kind token.kind ≡ false → divides text depth token ≡ false
no_comma text depth token is = and_left _ _ (and_left _ _ is)

or_none : {A : Type 0} (found : Option A) → option_or found None ≡ found
or_none None = refl
or_none (Some value) = refl

-- not behind SESSION or LOCAL
pub other_mode : (text : List ℕ) (token : Token) (tokens : List Token) → is_session_word text token ≡ false → transaction_mode text (token ∷ tokens) ≡ None
unfolding transaction_mode
other_mode text token [] other = refl
other_mode text token (next ∷ tokens) other = cond-false (is_session_word text token && says text next (codes "TRANSACTION")) _ _ (and_left _ _ other)

no_scope : (text : List ℕ) (tokens : List Token) → begins_with_session text tokens ≡ false → transaction_mode text tokens ≡ None
unfolding transaction_mode
no_scope text [] other = refl
no_scope text (token ∷ tokens) other = other_mode text token tokens other

pub assigned_alone : (text : List ℕ) (tokens : List Token) → begins_with_session text tokens ≡ false → own_changes text tokens ≡ assignments text tokens
assigned_alone text tokens unscoped = ap (λ mode. option_or (mode_changes mode) (assignments text tokens)) (no_scope text tokens unscoped)

-- behind SESSION or LOCAL
session_no_symbol : (text : List ℕ) (token : Token) → is_session_word text token ≡ true → is_symbol_kind token.kind ≡ false
session_no_symbol text token is =
    elim (or_cases (says text token (codes "SESSION")) (says text token (codes "LOCAL")) is) [
      | inl e ↦ no_symbol token.kind (bytes_of text token) (codes "SESSION") e
      | inr e ↦ no_symbol token.kind (bytes_of text token) (codes "LOCAL") e
    ]

transaction_unassigned : (text : List ℕ) (scope token : Token) (tokens : List Token) → is_session_word text scope ≡ true → says text token (codes "TRANSACTION") ≡ true → assignments text (scope ∷ token ∷ tokens) ≡ None
unfolding assignment
transaction_unassigned text scope token tokens is transaction =
    let inner = deeper text scope 0 in
    let rest = before_comma text (deeper text token inner) tokens in
    let front : before_comma text 0 (scope ∷ token ∷ tokens) ≡ scope ∷ token ∷ rest =
    cond-false (divides text 0 scope) _ _ (no_comma text 0 scope (session_no_symbol text scope is))
    ∙ ap (λ (behind : List Token). scope ∷ behind) (cond-false (divides text inner token) _ _ (no_comma text inner token (no_symbol token.kind (bytes_of text token) (codes "TRANSACTION") transaction))) in
    none_assigned text (scope ∷ token ∷ tokens)
    (ap (part_changes text) front
    ∙ one_part text (scope ∷ token ∷ rest) (session_no_names text (scope ∷ token ∷ rest) is)
    ∙ ap (option_map (λ change. change ∷ []))
    (cond-true (is_session_word text scope) _ _ is
    ∙ unnamed_change text (slot_of_name text token) token rest (word_plain token.kind (bytes_of text token) (codes "TRANSACTION") transaction) (transaction_unnamed (word_of text token) transaction)))

mode_alone_by : (text : List ℕ) (scope token : Token) (tokens : List Token) → is_session_word text scope ≡ true → says text token (codes "TRANSACTION") ≡ true → own_changes text (scope ∷ token ∷ tokens) ≡ mode_changes (mode_of text tokens)
unfolding transaction_mode
mode_alone_by text scope token tokens is transaction =
    let whole = scope ∷ token ∷ tokens in
    ap (λ mode. option_or (mode_changes mode) (assignments text whole)) (cond-true (is_session_word text scope && says text token (codes "TRANSACTION")) _ _ (and_from _ _ is transaction))
    ∙ ap (option_or (mode_changes (mode_of text tokens))) (transaction_unassigned text scope token tokens is transaction)
    ∙ or_none (mode_changes (mode_of text tokens))

-- the next of these tokens, and those behind it
abbrev pub IsNext : (tokens : List Token) → Option Token → (left : List Token) → Type 0
IsNext tokens found left = MatchOption found ((tokens ≡ []) × (left ≡ [])) (λ token. tokens ≡ token ∷ left)

pub mode_alone : (text : List ℕ) (tokens left rest : List Token) (scope transaction : Option Token) → begins_with_session text tokens ≡ true → IsNext tokens scope left → says_first text left (codes "TRANSACTION") ≡ true → IsNext left transaction rest → own_changes text tokens ≡ mode_changes (mode_of text rest)
mode_alone text tokens left rest None transaction is first says second = let none : false ≡ true = sym (ap (begins_with_session text) first.0) ∙ is in absurd (cc)
mode_alone text tokens left rest (Some scope) None is first says second = let none : false ≡ true = sym (ap (λ (ts : List Token). says_first text ts (codes "TRANSACTION")) second.0) ∙ says in absurd (cc)
mode_alone text tokens left rest (Some scope) (Some transaction) is first says second =
    let whole : tokens ≡ scope ∷ transaction ∷ rest = first ∙ ap (λ (ts : List Token). scope ∷ ts) second in
    ap (own_changes text) whole
    ∙ mode_alone_by text scope transaction rest (sym (ap (begins_with_session text) first) ∙ is) (sym (ap (λ (ts : List Token). says_first text ts (codes "TRANSACTION")) second) ∙ says)

not_mode : (text : List ℕ) (scope : Token) (left : List Token) → says_first text left (codes "TRANSACTION") ≡ false → transaction_mode text (scope ∷ left) ≡ None
unfolding transaction_mode
not_mode text scope [] other = refl
not_mode text scope (token ∷ tokens) other = no_mode text scope token tokens other

pub scoped_alone : {E : Type 0} (text : List ℕ) (tokens left : List Token) (scope : Option Token) (read : Result (Option (List Change)) E) → begins_with_session text tokens ≡ true → IsNext tokens scope left → says_first text left (codes "TRANSACTION") ≡ false → IfOk read (λ changes. changes ≡ assignments text (option_to_list scope ++ left)) → IfOk read (λ changes. changes ≡ own_changes text tokens)
scoped_alone text tokens left None read is first other gives = let none : false ≡ true = sym (ap (begins_with_session text) first.0) ∙ is in absurd (cc)
scoped_alone text tokens left (Some scope) read is first other gives =
    let session : is_session_word text scope ≡ true = sym (ap (begins_with_session text) first) ∙ is in
    let same : own_changes text tokens ≡ assignments text (scope ∷ left) =
    ap (own_changes text) first
    ∙ ap (λ mode. option_or (mode_changes mode) (assignments text (scope ∷ left))) (not_mode text scope left other) in
    ok_is read (assignments text (scope ∷ left)) (own_changes text tokens) (sym same) gives

-- SESSION or LOCAL is no symbol
pub scope_no_symbol : (text : List ℕ) (tokens left : List Token) (scope : Option Token) → begins_with_session text tokens ≡ true → IsNext tokens scope left → ForSome scope (λ token. is_symbol_kind token.kind ≡ false)
scope_no_symbol text tokens left None is first = λ token found. absurd (cc)
scope_no_symbol text tokens left (Some scope) is first = λ token found.
    let same : scope ≡ token = cc in
    subst (λ one. is_symbol_kind one.kind ≡ false) same (session_no_symbol text scope (sym (ap (begins_with_session text) first) ∙ is))

-- and opens and closes no bracket
no_deeper : (text : List ℕ) (token : Token) → is_symbol_kind token.kind ≡ false → deeper text token 0 ≡ 0
no_deeper text token is = cond-false (is_symbol text token 40) _ _ (and_left _ _ is) ∙ cond-false (is_symbol text token 41) _ _ (and_left _ _ is)

pub scope_outside : (text : List ℕ) (tokens left : List Token) (scope : Option Token) (old new : ℕ) → begins_with_session text tokens ≡ true → IsNext tokens scope left → old ≡ 0 → MatchOption scope (new ≡ old) (λ token. new ≡ deeper text token old) → new ≡ 0
scope_outside text tokens left None old new is first outside depth = depth ∙ outside
scope_outside text tokens left (Some scope) old new is first outside depth =
    depth ∙ ap (deeper text scope) outside ∙ no_deeper text scope (session_no_symbol text scope (sym (ap (begins_with_session text) first) ∙ is))
