-- The statements that make a difference, read again.
use Rattle.std.proofs.Common.{◌≡◌, ℕ, ◌+◌, true, false, not, List, [], ◌∷◌, ◌++◌, Some, length, codes, drop, refl, ◌∙◌, ap, inl, arith}
use Rattle.std.specs.List.{list_all, list_any, flat_map}
use Rattle.std.specs.Option.{option_or}
use Rattle.std.proofs.lemmas.Bool.{cond-true, cond-false, and_parts, not-true, not_from_false, or_from, or_right}
use Rattle.sql_tokens.specs.Tokens.{tokens_of}
use Rattle.sql_tokens.specs.Words.{bytes_of, is_symbol, same_text, says}
use Rattle.sql_tokens.specs.declared.token.Token.{Token}
use Rattle.sql_tokens.specs.declared.token.TokenKind.TheVariants.{Word}
use Rattle.session_vars.specs.Assignments.{assignments}
use Rattle.session_vars.specs.Scopes.{sets_server}
use Rattle.session_vars.specs.Shapes.{sets_mode_once, tracked_or_other, shape_behind, shape_by, set_shape}
use Rattle.session_vars.specs.Statement.{is_comment, without_comments, without_end, statement_of}
use Rattle.session_vars.specs.Transactions.{mode_changes}
use Rattle.session_vars.specs.declared.change.Change.{Change}
use Rattle.session_vars.specs.declared.shape.SetShape.TheVariants.{Tracked}
use Rattle.session_vars.specs.Texts.{assignment_text}
use Rattle.session_vars.specs.declared.slot.Slot.{Slot}
use Rattle.session_vars.specs.declared.slot.Slot.TheVariants.{Names}
use Rattle.session_vars.proofs.Assigned.{IsNamed, AreAssignable, counts, named, scoped, list_read, stops_before}
use Rattle.session_vars.proofs.Dispatch.{no_mode}
use Rattle.session_vars.proofs.Joining.{with_comma}
use Rattle.session_vars.proofs.Pieces.{At, token_of, behind, scanned, said, behind_blank, past_blank}
use Rattle.session_vars.proofs.Rules.{word_piece}

-- tokens that count stay
all_count : (text : List ℕ) (tokens : List Token) → list_all (counts text) tokens ≡ true → without_comments tokens ≡ tokens
all_count text [] counting = refl
all_count text (token ∷ tokens) counting =
    let both = and_parts (counts text token) (list_all (counts text) tokens) counting in
    let no_comment = (and_parts (not (is_comment token.kind)) (not (is_symbol text token 59)) both.0).0 in
    cond-true (not (is_comment token.kind)) _ _ no_comment ∙ ap (λ (rest : List Token). token ∷ rest) (all_count text tokens both.1)

none_ends : (text : List ℕ) (tokens : List Token) → list_all (counts text) tokens ≡ true → without_end text tokens ≡ tokens
none_ends text [] counting = refl
none_ends text (token ∷ []) counting =
    let no_end = (and_parts (not (is_comment token.kind)) (not (is_symbol text token 59)) (and_parts (counts text token) true counting).0).1 in
    cond-false (is_symbol text token 59) _ _ (not-true _ no_end)
none_ends text (token ∷ next ∷ tokens) counting = ap (λ (rest : List Token). token ∷ rest) (none_ends text (next ∷ tokens) (and_parts (counts text token) (list_all (counts text) (next ∷ tokens)) counting).1)

statement_is : (text : List ℕ) (tokens : List Token) → tokens_of text ≡ tokens → list_all (counts text) tokens ≡ true → statement_of text ≡ tokens
statement_is text tokens scan counting = ap (λ (all : List Token). without_end text (without_comments all)) scan ∙ ap (without_end text) (all_count text tokens counting) ∙ none_ends text tokens counting

-- a statement of assignments
assignments_shape : (text : List ℕ) (set scope token : Token) (tokens : List Token) (changes : List Change) → statement_of text ≡ set ∷ scope ∷ token ∷ tokens → says text set (codes "SET") ≡ true → says text scope (codes "TRANSACTION") ≡ false → says text token (codes "TRANSACTION") ≡ false → sets_server text 0 true (scope ∷ token ∷ tokens) ≡ false → assignments text (scope ∷ token ∷ tokens) ≡ Some changes → sets_mode_once changes ≡ true → set_shape text ≡ Tracked changes
unfolding shape_behind
assignments_shape text set scope token tokens changes statement is_set no_transaction no_mode_word unscoped gives once =
    let behind = scope ∷ token ∷ tokens in
    ap (shape_by text) statement
    ∙ cond-true (says text set (codes "SET")) _ _ is_set
    ∙ cond-false (sets_server text 0 true behind) _ _ unscoped
    ∙ cond-false (says text scope (codes "TRANSACTION")) _ _ no_transaction
    ∙ ap tracked_or_other
    (ap (λ mode. option_or (mode_changes mode) (assignments text behind)) (no_mode text scope token tokens no_mode_word) ∙ gives)
    ∙ cond-true (sets_mode_once changes) _ _ once

-- none of these adds to the mode before it
none_adds : (changes : List Change) → AreAssignable changes → list_any (λ change. change.adds) changes ≡ false
none_adds [] assignable = refl
none_adds (change ∷ changes) assignable = or_from _ _ assignable.0.1.1 (none_adds changes assignable.1)

assignable_once : (changes : List Change) → AreAssignable changes → sets_mode_once changes ≡ true
unfolding sets_mode_once
assignable_once changes assignable = or_right _ _ (not_from_false _ (none_adds changes assignable))

-- SET SESSION and assignments
pub session_again : (text : List ℕ) (change : Change) (changes : List Change) → text ≡ codes "SET SESSION " ++ (assignment_text change ++ flat_map with_comma changes) → AreAssignable (change ∷ changes) → set_shape text ≡ Tracked (change ∷ changes)
session_again text change changes is assignable =
    let rest = flat_map with_comma changes in
    let there = assignment_text change ++ rest in
    let at_set : At text 0 (codes "SET" ++ 32 ∷ (codes "SESSION " ++ there)) = is in
    let at_blank : At text 3 (32 ∷ (codes "SESSION " ++ there)) = behind text 0 (codes "SET") (32 ∷ (codes "SESSION " ++ there)) at_set in
    let at_session : At text 4 (codes "SESSION " ++ there) = behind_blank text 3 (codes "SESSION " ++ there) at_blank in
    let at_gap : At text 11 (32 ∷ there) = behind text 4 (codes "SESSION") (32 ∷ there) at_session in
    let at_name : At text 12 there = behind_blank text 11 there at_gap in
    let n : IsNamed text 12 change = named text 12 change rest assignable.0.0 assignable.0.1 at_name (stops_before changes) in
    let first = scoped text 4 change rest at_session n in
    let session = token_of Word 4 (codes "SESSION") in
    let read = list_read text 4 (8 + length (assignment_text change)) change (session ∷ n.first ∷ n.next ∷ n.others) changes first assignable.1 (ap (λ n. drop n text) (omega arith) ∙ behind text 12 (assignment_text change) rest at_name) in
    let set = token_of Word 0 (codes "SET") in
    let set_is : bytes_of text set ≡ codes "SET" = said text 0 Word (codes "SET") (32 ∷ (codes "SESSION " ++ there)) at_set in
    let session_is : bytes_of text session ≡ codes "SESSION" = said text 4 Word (codes "SESSION") (32 ∷ there) at_session in
    let scan : tokens_of text ≡ set ∷ session ∷ n.first ∷ n.next ∷ n.others ++ read.0 =
    scanned text 0 Word (codes "SET") (32 ∷ (codes "SESSION " ++ there)) at_set (word_piece (codes "SET") (32 ∷ (codes "SESSION " ++ there)) (refl, refl) (inl refl))
    ∙ ap (λ (tokens : List Token). set ∷ tokens) (past_blank text 3 (codes "SESSION " ++ there) at_blank ∙ read.1.scan) in
    assignments_shape text set session n.first (n.next ∷ n.others ++ read.0) (change ∷ changes)
    (statement_is text (set ∷ session ∷ n.first ∷ n.next ∷ n.others ++ read.0) scan read.1.counting)
    (ap (λ word. same_text word (codes "SET")) set_is)
    (ap (λ word. same_text word (codes "TRANSACTION")) session_is)
    n.no_transaction
    read.1.unscoped
    read.1.gives
    (assignable_once (change ∷ changes) assignable)
