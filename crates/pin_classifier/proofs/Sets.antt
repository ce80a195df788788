-- Which statements have the shape of a SET statement.
use Rattle.std.proofs.Common.{◌≡◌, ℕ, Bool, true, false, cond, nat_lt, List, [], ◌∷◌, slice_get, Option, Some, None, codes, refl, sym, ◌∙◌, ap, inl, inr}
use Rattle.std.specs.List.{list_all}
use Rattle.std.proofs.lemmas.Bool.{cond-true, cond-false, cases_Bool}
use Rattle.sql_tokens.specs.declared.token.Token.{Token}
use Rattle.session_vars.proofs.First.{other_statement}
use Rattle.session_vars.specs.Shapes.{set_shape}
use Rattle.session_vars.specs.Statement.{says_first}
use Rattle.session_vars.specs.declared.shape.SetShape.TheVariants.{NotSet}
use Rattle.pin_classifier.specs.Shapes.{asks_connection_id, is_there, set_in, shape_of, use_or_other, used_schema}
use Rattle.pin_classifier.specs.Statement.{statement}
use Rattle.pin_classifier.specs.declared.class.Shape.TheVariants.{ConnectionId, Use, Other}

first_there : (text : List ℕ) (tokens : List Token) (word : List ℕ) → says_first text tokens word ≡ is_there text (slice_get tokens 0) word
first_there text [] word = refl
first_there text (token ∷ tokens) word = refl

used_no_set : (ascii : Bool) (schema : List ℕ) → set_in (cond ascii (Use schema) Other) ≡ NotSet
used_no_set true schema = refl
used_no_set false schema = refl

no_set : (asks : Bool) (schema : Option (List ℕ)) → set_in (cond asks ConnectionId (use_or_other schema)) ≡ NotSet
no_set true schema = refl
no_set false None = refl
no_set false (Some schema) = used_no_set (list_all (λ b. nat_lt b 128) schema) schema

-- the shape of a statement, as a SET statement
pub shape_of_set : (text : List ℕ) → set_in (shape_of text) ≡ set_shape text
unfolding shape_of
shape_of_set text =
    let sets = is_there text (slice_get (statement text) 0) (codes "SET") in
    elim (cases_Bool sets) [
      | inl e ↦ ap set_in (cond-true sets _ _ e)
      | inr e ↦
          ap set_in (cond-false sets _ _ e)
          ∙ no_set (asks_connection_id text (statement text)) (used_schema text (statement text))
          ∙ sym (other_statement text (first_there text (statement text) (codes "SET") ∙ e))
    ]
