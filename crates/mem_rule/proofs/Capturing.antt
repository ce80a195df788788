-- The two texts by which the insert id is set and read.
use Rattle.std.specs.Prelude.{◌≡◌, ℕ, ◌+◌, ◌^◌, ◌<◌, false, List, [], ◌∷◌, ◌++◌, codes, decimal, length, slice_get, Option, None, Some}
use Rattle.std.proofs.Common.{refl, sym, ap, ◌∙◌, subst, inl, append-nil}
use Rattle.std.specs.Option.{option_map}
use Rattle.mx_base.specs.Pieces.{pieces}
use Rattle.mx_base.specs.Steps.{◌>>=◌}
use Rattle.sql_tokens.specs.Comments.{begins_block, begins_line_comment, block_length}
use Rattle.sql_tokens.specs.Numbers.{decimal_length, exponent_length, fraction_length, hexadecimal_length, number_length, sign_length}
use Rattle.sql_tokens.specs.Quotes.{begins_name, begins_quoted, quoted_length}
use Rattle.sql_tokens.specs.Tokens.{plain_token_at, token_at, tokens_behind, tokens_from, tokens_of}
use Rattle.sql_tokens.specs.Variables.{system_variable_length, variable_name_length}
use Rattle.sql_tokens.specs.Words.{bytes_of, same_text}
use Rattle.sql_tokens.specs.declared.token.Token.{Token}
use Rattle.sql_tokens.specs.declared.token.TokenKind.TheVariants.{Number, Symbol, Word}
use Rattle.session_state.specs.Classes.{Effect, Neither, effect_in, effect_of, set_effect}
use Rattle.session_vars.proofs.Pieces.{At, at_end, behind, past_blank, said, scanned, token_of}
use Rattle.session_vars.proofs.Rules.{IsOrdinary, number_piece, symbol_piece, word_piece}
use Rattle.session_vars.specs.Shapes.{set_shape}
use Rattle.session_vars.specs.declared.shape.SetShape.TheVariants.{Other}
use Rattle.pin_classifier.proofs.Sets.{shape_of_set}
use Rattle.pin_classifier.specs.Classes.{class_of}
use Rattle.pin_classifier.specs.Judged.{judged}
use Rattle.pin_classifier.specs.Shapes.{is_there, set_in, shape_of}
use Rattle.pin_classifier.specs.Statement.{statement}
use Rattle.pin_classifier.specs.declared.class.Shape.{Shape}
use Rattle.pin_classifier.specs.declared.class.Shape.TheVariants as shapes
use Rattle.server_rule.specs.Texts.{read_id_text, set_id_text}
use Rattle.server_rule.specs.declared.command.Cmd.TheVariants.{Query}
use Rattle.server_rule.specs.declared.session.Session.{Session}
use Rattle.mem_rule.specs.Answers.{ok_payload}
use Rattle.mem_rule.specs.Commands.{Ran, by_effect, ran, ran_by, says, scene, status_of}
use Rattle.mem_rule.specs.Forms.{all_forms, first_fit, fit_or, fits, fits_from, form_of, pattern_of}
use Rattle.mem_rule.specs.Statements.{said_with}
use Rattle.mem_rule.specs.Steps.{show_id}
use Rattle.mem_rule.specs.Tables.{Tables}
use Rattle.mem_rule.specs.declared.did.Said.{Said}
use Rattle.mem_rule.specs.declared.form.Form.{Form}
use Rattle.mem_rule.specs.declared.form.Form.TheVariants as forms
use Rattle.mem_rule.proofs.Spelling.{number_again, number_text}
use Rattle.mem_rule.proofs.Taking.{Found, HasForm, all_found, pieces_of}
use Rattle.mem_rule.proofs.Telling.{head_of, no_effect, starts, there_first}
use Rattle.mem_rule.proofs.Unscoped.{other_shape}
use Rattle.mem_rule.proofs.Whole.{whole}

-- The tokens of the first.

equals_ordinary : IsOrdinary 61
equals_ordinary = record { no_hash = refl; no_dash = refl; no_slash = refl; no_single = refl; no_double = refl; no_backtick = refl; no_at = refl }

abbrev behind_set : ℕ → List ℕ
behind_set n = 32 ∷ (codes "SESSION last_insert_id = " ++ decimal n)

abbrev its_tokens : ℕ → List Token
its_tokens n = token_of Word 0 (codes "SET") ∷ token_of Word 4 (codes "SESSION") ∷ token_of Word 12 (codes "last_insert_id") ∷ token_of Symbol 27 (codes "=") ∷ token_of Number 29 (decimal n) ∷ []

scan : (n : ℕ) → n < 2 ^ 64 → tokens_of (set_id_text n) ≡ its_tokens n
scan n small =
    let text = set_id_text n in
    let at : At text 29 (decimal n ++ []) = sym (append-nil (decimal n)) in
    let value : tokens_behind text 29 ≡ token_of Number 29 (decimal n) ∷ [] =
    scanned text 29 Number (decimal n) [] at (number_piece (decimal n) [] (number_text n small) tt)
    ∙ ap (λ (rest : List Token). token_of Number 29 (decimal n) ∷ rest) (at_end text (29 + length (decimal n)) (behind text 29 (decimal n) [] at)) in
    let equals : tokens_behind text 27 ≡ token_of Symbol 27 (codes "=") ∷ token_of Number 29 (decimal n) ∷ [] =
    scanned text 27 Symbol (codes "=") (32 ∷ decimal n) refl (symbol_piece 61 (32 ∷ decimal n) equals_ordinary refl refl refl refl)
    ∙ ap (λ (rest : List Token). token_of Symbol 27 (codes "=") ∷ rest) (past_blank text 28 (decimal n) refl ∙ value) in
    let name : tokens_behind text 12 ≡ token_of Word 12 (codes "last_insert_id") ∷ token_of Symbol 27 (codes "=") ∷ token_of Number 29 (decimal n) ∷ [] =
    scanned text 12 Word (codes "last_insert_id") (32 ∷ 61 ∷ 32 ∷ decimal n) refl (word_piece (codes "last_insert_id") (32 ∷ 61 ∷ 32 ∷ decimal n) (refl, refl) (inl refl))
    ∙ ap (λ (rest : List Token). token_of Word 12 (codes "last_insert_id") ∷ rest) (past_blank text 26 (61 ∷ 32 ∷ decimal n) refl ∙ equals) in
    let behind_session = 32 ∷ (codes "last_insert_id = " ++ decimal n) in
    let session : tokens_behind text 4 ≡ token_of Word 4 (codes "SESSION") ∷ token_of Word 12 (codes "last_insert_id") ∷ token_of Symbol 27 (codes "=") ∷ token_of Number 29 (decimal n) ∷ [] =
    scanned text 4 Word (codes "SESSION") behind_session refl (word_piece (codes "SESSION") behind_session (refl, refl) (inl refl))
    ∙ ap (λ (rest : List Token). token_of Word 4 (codes "SESSION") ∷ rest) (past_blank text 11 (codes "last_insert_id = " ++ decimal n) refl ∙ name) in
    scanned text 0 Word (codes "SET") (behind_set n) refl (word_piece (codes "SET") (behind_set n) (refl, refl) (inl refl))
    ∙ ap (λ (rest : List Token). token_of Word 0 (codes "SET") ∷ rest) (past_blank text 3 (codes "SESSION last_insert_id = " ++ decimal n) refl ∙ session)

abbrev fit_on : (text : List ℕ) → List Token → List Form → Option (Form × List (Option (List ℕ)))
fit_on text tokens [] = None
fit_on text tokens (form ∷ forms) = fit_or form (fits_from text tokens (pieces (32 ∷ []) (pattern_of form)) []) (fit_on text tokens forms)

fits_on : (text : List ℕ) (forms : List Form) → first_fit text forms ≡ fit_on text (tokens_of text) forms
fits_on text [] = refl
fits_on text (form ∷ forms) = ap (fit_or form (fits text (pattern_of form))) (fits_on text forms)

its_form : (n : ℕ) → n < 2 ^ 64 → form_of (set_id_text n) ≡ Some (forms.SetId, Some (decimal n) ∷ [])
its_form n small =
    let text = set_id_text n in
    let value : bytes_of text (token_of Number 29 (decimal n)) ≡ decimal n = said text 29 Number (decimal n) [] (sym (append-nil (decimal n))) in
    fits_on text all_forms
    ∙ ap (λ (tokens : List Token). fit_on text tokens all_forms) (scan n small)
    ∙ ap (λ (bytes : List ℕ). Some (forms.SetId, Some bytes ∷ [])) value

-- What it does.

by_shape : (shape : Shape) → set_in shape ≡ Other → effect_in shape ≡ Neither
by_shape (shapes.Set shape) is = ap set_effect is
by_shape (shapes.Use schema) is = absurd (cc)
by_shape shapes.ConnectionId is = refl
by_shape shapes.Other is = refl

its_effect : (text : List ℕ) → HasForm text forms.SetId → effect_of (class_of text) ≡ Neither
unfolding class_of
its_effect text has = by_shape (shape_of (judged text)) (shape_of_set (judged text) ∙ ap set_shape (whole text forms.SetId has) ∙ other_shape text has)

it_says : (id : ℕ) → Said
it_says id = record { form = forms.SetId; id = id; name = []; text = [] }

abbrev pub sets : ℕ → Session → Ran
sets n s = record { writes = []; session = record s { last_id = n; diag = [] }; reply = ok_payload (status_of s) 0 0 ∷ [] }

pub setting : (t : Tables) (s : Session) (n : ℕ) → n < 2 ^ 64 → ran t s (Query (set_id_text n)) ≡ sets n s
unfolding ran it_says
setting t s n small =
    let text = set_id_text n in
    let form = its_form n small in
    let has : HasForm text forms.SetId = subst (Found text) form (all_found text all_forms) in
    ap (λ (e : Effect). by_effect e text None false s.schema t s) (its_effect text has)
    ∙ ap (λ found. says (found >>= said_with None) false s.schema t s) form
    ∙ ap (λ id. says (option_map it_says id) false s.schema t s) (number_again n small)

-- The other text.

read_form : form_of read_id_text ≡ Some (forms.Id, [])
unfolding begins_line_comment begins_block block_length begins_quoted begins_name quoted_length hexadecimal_length fraction_length sign_length exponent_length decimal_length number_length system_variable_length variable_name_length plain_token_at token_at tokens_from
read_form = refl

it_reads : Said
it_reads = record { form = forms.Id; id = 0; name = []; text = [] }

pub reading : (t : Tables) (s : Session) → ran t s (Query read_id_text) ≡ ran_by false forms.Id s (show_id (scene t s s.schema))
unfolding ran
reading t s =
    let text = read_id_text in
    let has : HasForm text forms.Id = subst (Found text) read_form (all_found text all_forms) in
    let first = λ (word : List ℕ). subst (λ one. is_there one (slice_get (statement one) 0) word ≡ same_text (head_of (pieces_of forms.Id)) word) (sym (whole text forms.Id has)) (there_first text (statement text) word ∙ starts text forms.Id has word) in
    ap (λ (e : Effect). by_effect e text None false s.schema t s) (no_effect text (first (codes "SET")) (first (codes "USE")))
    ∙ ap (λ found. says (found >>= said_with None) false s.schema t s) read_form
