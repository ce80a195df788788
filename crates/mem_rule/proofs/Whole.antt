-- A text that has a form has no front and no executed comments, so that it is judged as it stands.
use Rattle.std.specs.Prelude.{◌≡◌, ℕ, Bool, true, false, ◌&&◌, List, [], ◌∷◌, codes, slice_get, Option, None, Some, if◌then◌else◌}
use Rattle.std.proofs.Common.{refl, ap, ◌∙◌}
use Rattle.std.proofs.lemmas.Bool.{cond-false, and_left, and_right, or_from}
use Rattle.sql_tokens.specs.Words.{bytes_of, is_word, same_text, word_by}
use Rattle.sql_tokens.specs.declared.token.Token.{Token}
use Rattle.sql_tokens.specs.declared.token.TokenKind.{TokenKind}
use Rattle.sql_tokens.specs.declared.token.TokenKind.TheVariants as kinds
use Rattle.pin_classifier.specs.Judged.{judged, limited, limited_or, sets_limit}
use Rattle.pin_classifier.specs.Opened.{has_executed, is_executed, opened_text, opens}
use Rattle.pin_classifier.specs.Shapes.{is_there}
use Rattle.pin_classifier.specs.Statement.{is_user_variable, next_word, statement}
use Rattle.mem_rule.specs.Forms.{captured_by, fixed_if, is_word_piece}
use Rattle.mem_rule.specs.declared.form.Form.{Form}
use Rattle.mem_rule.specs.declared.form.Form.TheVariants as forms
use Rattle.mem_rule.proofs.Taking.{HasForm, Takes, is_taken, pieces_of, stated}
use Rattle.mem_rule.proofs.Telling.{by_second, names_by, starts, there_first}

there_word : (text : List ℕ) (token : Option Token) (word : List ℕ) → is_there text token word ≡ is_word (next_word text token) word
there_word text None word = refl
there_word text (Some token) word = refl

unsaid : (kind : TokenKind) (bytes word : List ℕ) → is_user_variable kind ≡ true → is_word (word_by kind bytes) word ≡ false
unsaid kinds.UserVar bytes word is = refl
unsaid _ bytes word is = absurd (cc)

variable_second : (text : List ℕ) (tokens : List Token) (a : List ℕ) (pieces : List (List ℕ)) → Takes text tokens (a ∷ codes "<a>" ∷ pieces) → (word : List ℕ) → is_there text (slice_get tokens 1) word ≡ false
variable_second text [] a pieces takes word = absurd takes
variable_second text (one ∷ []) a pieces takes word = absurd takes.1
variable_second text (one ∷ two ∷ tokens) a pieces takes word = unsaid two.kind (bytes_of text two) word (names_by two.kind text two takes.1.0)

id_second : (text : List ℕ) → HasForm text forms.SetId → (word : List ℕ) → is_there text (slice_get (statement text) 1) word ≡ same_text (codes "SESSION") word
id_second text has word =
    there_word text (slice_get (statement text) 1) word
    ∙ by_second text (statement text) (codes "SET") (codes "SESSION") (codes "last_insert_id" ∷ codes "=" ∷ codes "<n>" ∷ []) refl (stated text forms.SetId has) word

begins_other : (form : Form) (text : List ℕ) → HasForm text form → is_there text (slice_get (statement text) 0) (codes "SET") && is_there text (slice_get (statement text) 1) (codes "STATEMENT") ≡ false
begins_other forms.SetVariable text has = and_right _ _ (variable_second text (statement text) (codes "SET") (codes "=" ∷ codes "<n>" ∷ []) (stated text forms.SetVariable has) (codes "STATEMENT"))
begins_other forms.SetId text has = and_right _ _ (id_second text has (codes "STATEMENT"))
begins_other form text has = and_left _ _ (there_first text (statement text) (codes "SET") ∙ starts text form has (codes "SET"))

-- None of its tokens is an executed comment.

kind_stays : (kind : TokenKind) (is_piece : Bool) (text piece : List ℕ) (token : Token) → is_taken (if is_piece then fixed_if (is_word (word_by kind (bytes_of text token)) piece) else captured_by kind text piece token) ≡ true → is_executed kind ≡ false
kind_stays kinds.Executed true text piece token is = absurd (cc)
kind_stays kinds.Executed false text piece token is = absurd (cc)
kind_stays _ is_piece text piece token is = refl

none_executed : (text : List ℕ) (tokens : List Token) (pieces : List (List ℕ)) → Takes text tokens pieces → has_executed tokens ≡ false
none_executed text [] pieces takes = refl
none_executed text (token ∷ tokens) [] takes = absurd takes
none_executed text (token ∷ tokens) (piece ∷ pieces) takes =
    or_from _ _ (kind_stays token.kind (is_word_piece piece) text piece token takes.0) (none_executed text tokens pieces takes.1)

unopened : (text : List ℕ) (form : Form) → HasForm text form → opened_text text ≡ text
unfolding opens opened_text
unopened text form has = cond-false (opens text) _ _ (and_left _ _ (and_right _ _ (none_executed text (statement text) (pieces_of form) (stated text form has))))

pub whole : (text : List ℕ) (form : Form) → HasForm text form → judged text ≡ text
unfolding limited sets_limit
whole text form has = ap (limited_or (opened_text text)) (cond-false (sets_limit text (statement text)) _ _ (and_left _ _ (begins_other form text has))) ∙ unopened text form has
