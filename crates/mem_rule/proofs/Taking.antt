-- A text that has a form has the tokens of the form, one by one.
use Rattle.std.specs.Prelude.{◌≡◌, ℕ, Bool, true, false, not, List, [], ◌∷◌, ◌++◌, Option, None, Some, if◌then◌else◌}
use Rattle.std.proofs.Common.{refl, sym, ap, ◌∙◌, subst}
use Rattle.std.proofs.lemmas.Bool.{cond-true}
use Rattle.std.specs.Option.{option_map}
use Rattle.mx_base.specs.Pieces.{pieces}
use Rattle.mx_base.specs.Steps.{◌>>=◌}
use Rattle.sql_tokens.specs.Tokens.{tokens_of}
use Rattle.sql_tokens.specs.Words.{bytes_of, is_word, word_by}
use Rattle.sql_tokens.specs.declared.token.Token.{Token}
use Rattle.sql_tokens.specs.declared.token.TokenKind.{TokenKind}
use Rattle.sql_tokens.specs.declared.token.TokenKind.TheVariants as kinds
use Rattle.session_vars.specs.Statement.{is_comment, without_comments}
use Rattle.pin_classifier.specs.Statement.{statement}
use Rattle.mem_rule.specs.Forms.{all_forms, captured_by, first_fit, fit_or, fits, fits_from, fixed_if, form_of, is_word_piece, pattern_of, taken_as, with_captured}
use Rattle.mem_rule.specs.Statements.{Binding, asked, bound, filled_from, id_at, id_place, said_by, said_in, said_with}
use Rattle.mem_rule.specs.declared.did.Said.{Said}
use Rattle.mem_rule.specs.declared.form.Captured.{Captured}
use Rattle.mem_rule.specs.declared.form.Captured.TheVariants.{Differs, Fixed, Value}
use Rattle.mem_rule.specs.declared.form.Form.{Form}

abbrev pub is_taken : Captured → Bool
is_taken Differs = false
is_taken _ = true

-- each token is what its piece of the form says
abbrev pub Takes : (text : List ℕ) → List Token → (pieces : List (List ℕ)) → Type 0
Takes text [] [] = Unit {0}
Takes text [] (piece ∷ pieces) = ⊥
Takes text (token ∷ tokens) [] = ⊥
Takes text (token ∷ tokens) (piece ∷ pieces) = (is_taken (taken_as text piece token) ≡ true) × Takes text tokens pieces

abbrev pub pieces_of : Form → List (List ℕ)
pieces_of form = pieces (32 ∷ []) (pattern_of form)

abbrev pub HasForm : (text : List ℕ) → Form → Type 0
HasForm text form = Takes text (tokens_of text) (pieces_of form)

abbrev Values : Type 0
Values = List (Option (List ℕ))

goes_on : (got : Captured) (values all : Values) (onward : Values → Option Values) → with_captured got values onward ≡ Some all → (is_taken got ≡ true) × ((more : Values) × (onward more ≡ Some all))
goes_on Differs values all onward is = absurd (cc)
goes_on Fixed values all onward is = (refl, (values, is))
goes_on (Value value) values all onward is = (refl, (values ++ value ∷ [], is))

takes : (text : List ℕ) (tokens : List Token) (pieces : List (List ℕ)) (values all : Values) → fits_from text tokens pieces values ≡ Some all → Takes text tokens pieces
takes text [] [] values all is = tt
takes text [] (piece ∷ pieces) values all is = absurd (cc)
takes text (token ∷ tokens) [] values all is = absurd (cc)
takes text (token ∷ tokens) (piece ∷ pieces) values all is =
    let on = goes_on (taken_as text piece token) values all (λ more. fits_from text tokens pieces more) is in (on.0, takes text tokens pieces on.1.0 all on.1.1)

abbrev pub Found : (text : List ℕ) → Option (Form × Values) → Type 0
Found text None = Unit {0}
Found text (Some found) = HasForm text found.0

by_fit : (text : List ℕ) (form : Form) (got : Option Values) (others : Option (Form × Values)) → fits text (pattern_of form) ≡ got → Found text others → Found text (fit_or form got others)
by_fit text form None others is found = found
by_fit text form (Some values) others is found = takes text (tokens_of text) (pieces_of form) [] values is

pub all_found : (text : List ℕ) (forms : List Form) → Found text (first_fit text forms)
all_found text [] = tt
all_found text (form ∷ forms) = by_fit text form (fits text (pattern_of form)) (first_fit text forms) refl (all_found text forms)

-- a statement is of a form that its text has
abbrev pub Fitted : (text : List ℕ) → Option Said → Type 0
Fitted text None = Unit {0}
Fitted text (Some said) = HasForm text said.form

by_id : (text : List ℕ) (form : Form) (id : Option ℕ) (f : ℕ → Said) → ((n : ℕ) → (f n).form ≡ form) → HasForm text form → Fitted text (option_map f id)
by_id text form None f same has = tt
by_id text form (Some id) f same has = subst (HasForm text) (sym (same id)) has

by_values : (text : List ℕ) (form : Form) (all : Option (List (List ℕ))) → HasForm text form → Fitted text (all >>= (λ values. said_by form values))
by_values text form None has = tt
by_values text form (Some values) has = by_id text form (id_at values (id_place form)) _ (λ n. refl) has

by_bound : (text : List ℕ) (form : Form) (values : Values) (given : Option (List (List ℕ))) → HasForm text form → Fitted text (given >>= (λ these. filled_from values these [] >>= (λ all. said_by form all)))
by_bound text form values None has = tt
by_bound text form values (Some these) has = by_values text form (filled_from values these []) has

by_form : (text : List ℕ) (binding : Option Binding) (found : Option (Form × Values)) → Found text found → Fitted text (found >>= said_with binding)
by_form text binding None has = tt
by_form text binding (Some (form, values)) has = by_bound text form values (bound binding (asked values)) has

pub fitted : (text : List ℕ) (binding : Option Binding) → Fitted text (said_in text binding)
fitted text binding = by_form text binding (form_of text) (all_found text all_forms)

-- None of its tokens is a comment.

kind_counts : (kind : TokenKind) (is_piece : Bool) (text piece : List ℕ) (token : Token) → is_taken (if is_piece then fixed_if (is_word (word_by kind (bytes_of text token)) piece) else captured_by kind text piece token) ≡ true → is_comment kind ≡ false
kind_counts kinds.Comment true text piece token is = absurd (cc)
kind_counts kinds.Comment false text piece token is = absurd (cc)
kind_counts _ is_piece text piece token is = refl

counts : (text piece : List ℕ) (token : Token) → is_taken (taken_as text piece token) ≡ true → is_comment token.kind ≡ false
counts text piece token is = kind_counts token.kind (is_word_piece piece) text piece token is

uncommented : (text : List ℕ) (tokens : List Token) (pieces : List (List ℕ)) → Takes text tokens pieces → without_comments tokens ≡ tokens
uncommented text [] pieces takes = refl
uncommented text (token ∷ tokens) [] takes = absurd takes
uncommented text (token ∷ tokens) (piece ∷ pieces) takes =
    cond-true (not (is_comment token.kind)) _ _ (ap not (counts text piece token takes.0)) ∙ ap (λ (rest : List Token). token ∷ rest) (uncommented text tokens pieces takes.1)

pub stated : (text : List ℕ) (form : Form) → HasForm text form → Takes text (statement text) (pieces_of form)
stated text form has = subst (λ (tokens : List Token). Takes text tokens (pieces_of form)) (sym (uncommented text (tokens_of text) (pieces_of form) has)) has
