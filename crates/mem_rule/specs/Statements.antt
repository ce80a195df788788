-- Statements: the form of a text with its values in place, those of a `?` as they are bound.
use Rattle.std.specs.Prelude.{ℕ, zero, suc, ◌+◌, ◌*◌, ◌/◌, ◌%◌, ◌||◌, Bool, nat_eq, decimal, List, [], ◌∷◌, ◌++◌, filter, find, is_none, length, slice_index_or, Option, Some, None, if◌then◌else◌}
use Rattle.std.specs.Option.{option_map}
use Rattle.mx_base.specs.Decimal.{number}
use Rattle.mx_base.specs.Fields.{number_at}
use Rattle.mx_base.specs.Steps.{◌>>=◌}
use Rattle.session_vars.specs.declared.long_part.LongPart.{LongPart}
use Rattle.mem_rule.specs.Forms.{form_of}
use Rattle.mem_rule.specs.Notes.{text_at}
use Rattle.mem_rule.specs.declared.did.Said.{Said}
use Rattle.mem_rule.specs.declared.form.Form.{Form}
use Rattle.mem_rule.specs.declared.form.Form.TheVariants.{InsertAt, Insert, Select, Update, Delete, Setting, SetVariable, Variable, SetId, Lock}

-- the values of a text, with what is bound in the place of each `?`
abbrev pub filled_from : List (Option (List ℕ)) → (bound : List (List ℕ)) → (values : List (List ℕ)) → Option (List (List ℕ))
filled_from [] bound values = Some values
filled_from (Some value ∷ more) bound values = filled_from more bound (values ++ value ∷ [])
filled_from (None ∷ more) [] values = None
filled_from (None ∷ more) (value ∷ bound) values = filled_from more bound (values ++ value ∷ [])

-- where the values of a form stand: a number, a name, a text
abbrev pub id_place : Form → Option ℕ
id_place InsertAt = Some 0
id_place Select = Some 0
id_place Update = Some 1
id_place Delete = Some 0
id_place SetId = Some 0
id_place _ = None

abbrev pub name_place : Form → Option ℕ
name_place Setting = Some 0
name_place SetVariable = Some 0
name_place Variable = Some 0
name_place Lock = Some 0
name_place _ = None

abbrev pub text_place : Form → Option ℕ
text_place InsertAt = Some 1
text_place Insert = Some 0
text_place Update = Some 0
text_place SetVariable = Some 1
text_place _ = None

abbrev pub value_at : List (List ℕ) → Option ℕ → List ℕ
value_at values None = []
value_at values (Some at) = slice_index_or values at []

-- a number is in decimal digits and fits 64 bits
abbrev pub id_at : List (List ℕ) → Option ℕ → Option ℕ
id_at values None = Some 0
id_at values (Some at) = number (slice_index_or values at [])

abbrev pub said_by : Form → List (List ℕ) → Option Said
said_by form values =
    option_map (λ id. record { form = form; id = id; name = value_at values (name_place form); text = value_at values (text_place form) }) (id_at values (id_place form))

-- What a STMT_EXECUTE binds (client/server protocol, "COM_STMT_EXECUTE"): by the types TINY, SHORT, LONG, INT24 and
-- LONGLONG a number without a sign, by all others a length-encoded text. No statement has more than two.

abbrev pub is_null : (nulls : List ℕ) → (at : ℕ) → Bool
is_null nulls at = if nat_eq at 0 then nat_eq (slice_index_or nulls 0 0 % 2) 1 else nat_eq (slice_index_or nulls 0 0 / 2 % 2) 1

abbrev pub numeral : (size : ℕ) → Option ℕ → (at : ℕ) → Option (List ℕ × ℕ)
numeral size None at = None
numeral size (Some n) at = Some (decimal n, at + size)

abbrev pub bound_by_type : (type : ℕ) → (at : ℕ) → List ℕ → Option (List ℕ × ℕ)
bound_by_type type at values =
    if nat_eq type 1 then numeral 1 (number_at 1 at values) at
    else if nat_eq type 2 then numeral 2 (number_at 2 at values) at
    else if nat_eq type 3 || nat_eq type 9 then numeral 4 (number_at 4 at values) at
    else if nat_eq type 8 then numeral 8 (number_at 8 at values) at
    else text_at at values

abbrev pub bound_by : Option LongPart → (is_null : Bool) → (type : ℕ) → (at : ℕ) → List ℕ → Option (List ℕ × ℕ)
bound_by (Some part) is_null type at values = Some (part.bytes, at)
bound_by None is_null type at values = if is_null then None else bound_by_type type at values

pub record Binding : Type 0 where
  pub types : List ℕ
  pub nulls : List ℕ
  pub values : List ℕ
  pub long : List LongPart

-- the value of a parameter whose bytes stand at a place, and the place behind them
abbrev pub bound_at : Binding → (parameter at : ℕ) → Option (List ℕ × ℕ)
bound_at b parameter at = bound_by (find (λ part. nat_eq part.parameter parameter) b.long) (is_null b.nulls parameter) (slice_index_or b.types (2 * parameter) 0) at b.values

abbrev pub bound_with : Option (List ℕ × ℕ) → (onward : List ℕ → ℕ → Option (List (List ℕ))) → Option (List (List ℕ))
bound_with None onward = None
bound_with (Some (value, next)) onward = onward value next

abbrev pub bound_from : (left parameter at : ℕ) → Binding → List (List ℕ) → Option (List (List ℕ))
bound_from zero parameter at b done = Some done
bound_from (suc left) parameter at b done = bound_with (bound_at b parameter at) (λ value next. bound_from left (parameter + 1) next b (done ++ value ∷ []))

-- how many values are asked for
abbrev pub asked : List (Option (List ℕ)) → ℕ
asked values = length (filter is_none values)

abbrev pub bound : Option Binding → (count : ℕ) → Option (List (List ℕ))
bound None count = Some []
bound (Some b) count = bound_from count 0 0 b []

-- that of a form with these values, and with what is bound
abbrev pub said_of : Form → List (Option (List ℕ)) → (bound : List (List ℕ)) → Option Said
said_of form values bound = filled_from values bound [] >>= (λ all. said_by form all)

abbrev pub said_with : Option Binding → Form × List (Option (List ℕ)) → Option Said
said_with binding form = bound binding (asked form.1) >>= (λ bound. said_of form.0 form.1 bound)

-- the statement of a text
abbrev pub said_in : (text : List ℕ) → Option Binding → Option Said
said_in text binding = form_of text >>= said_with binding
