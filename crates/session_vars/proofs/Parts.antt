-- The parts of a SET statement, one after the other.
use Rattle.std.proofs.Common.{◌≡◌, ◌≤◌, ℕ, Bool, true, false, ◌&&◌, bytes_eq, nat_eq, nat_le, length, arith, List, [], ◌∷◌, ◌++◌, take, cond, Option, Some, None, option_map, refl, sym, ◌∙◌, ap, inl, inr, append_assoc}
use Rattle.std.specs.List.{onto_first}
use Rattle.std.specs.Option.{option_or}
use Rattle.std.proofs.lemmas.Bool.{cond-true, cond-false, cond_both, cases_Bool, cases_lt, and_left, and_right, lt-leb}
use Rattle.std.proofs.lemmas.List.{append-nil, take_all, length-take-le}
use Rattle.sql_tokens.specs.declared.token.Token.{Token}
use Rattle.sql_tokens.specs.Words.{bytes_of, is_symbol}
use Rattle.session_vars.specs.Assignments.{assigned, assignment, assignments, all_assigned, assigned_behind, behind_colon, is_executed, named_change, part_changes, slot_by, slot_of_name, with_changes, written}
use Rattle.session_vars.specs.Modes.{joined, takes_modes}
use Rattle.session_vars.specs.Names.{names_value, names_changes}
use Rattle.session_vars.specs.Scopes.{before_comma, behind_comma, deeper, divides, parts_of}
use Rattle.session_vars.specs.Slots.{mariadb_isolation, mariadb_read_only, mysql_isolation, mysql_read_only, slot_of_comments}
use Rattle.session_vars.specs.Statement.{is_session_word}
use Rattle.session_vars.specs.declared.change.Change.{Change}
use Rattle.session_vars.specs.declared.slot.Slot.{Slot}
use Rattle.session_vars.specs.declared.slot.Slot.TheVariants.{TransactionIsolation, TransactionReadOnly}

-- the parts behind a comma
abbrev pub parts_behind : (text : List ℕ) → Option (List Token) → List (List Token)
parts_behind text None = []
parts_behind text (Some tokens) = parts_of text 0 tokens

-- the first part ends at the first comma outside brackets
parts_from : (text : List ℕ) (depth : ℕ) (tokens : List Token) → parts_of text depth tokens ≡ before_comma text depth tokens ∷ parts_behind text (behind_comma text depth tokens)
parts_from text depth [] = refl
parts_from text depth (token ∷ tokens) =
    let here = divides text depth token in
    let inner = deeper text token depth in
    let parts : List Token → Option (List Token) → List (List Token) = λ part rest. part ∷ parts_behind text rest in
    elim (cases_Bool here) [
      | inl e ↦
          cond-true here _ _ e
          ∙ sym (ap (λ (part : List Token). parts part (behind_comma text depth (token ∷ tokens))) (cond-true here _ _ e) ∙ ap (λ (rest : Option (List Token)). parts [] rest) (cond-true here _ _ e))
      | inr e ↦
          cond-false here _ _ e
          ∙ ap (onto_first token) (parts_from text inner tokens)
          ∙ sym (ap (λ (part : List Token). parts part (behind_comma text depth (token ∷ tokens))) (cond-false here _ _ e) ∙ ap (λ (rest : Option (List Token)). parts (token ∷ before_comma text inner tokens) rest) (cond-false here _ _ e))
    ]

behind : (text : List ℕ) (part : List Token) (rest : Option (List Token)) → all_assigned text (part ∷ parts_behind text rest) ≡ with_changes (part_changes text part) (assigned_behind text rest)
unfolding assignments
behind text part None = refl
behind text part (Some more) = refl

-- the first part, and the others
pub assignments_from : (text : List ℕ) (tokens : List Token) → assignments text tokens ≡ with_changes (part_changes text (before_comma text 0 tokens)) (assigned_behind text (behind_comma text 0 tokens))
unfolding assignments
assignments_from text tokens = ap (all_assigned text) (parts_from text 0 tokens) ∙ behind text (before_comma text 0 tokens) (behind_comma text 0 tokens)

-- none, where the first is none
pub none_assigned : (text : List ℕ) (tokens : List Token) → part_changes text (before_comma text 0 tokens) ≡ None → assignments text tokens ≡ None
none_assigned text tokens first = assignments_from text tokens ∙ ap (λ (changes : Option (List Change)). with_changes changes (assigned_behind text (behind_comma text 0 tokens))) first

-- the last one, and one with others behind it
pub last_assigned : (text : List ℕ) (tokens : List Token) (changes : List Change) → part_changes text (before_comma text 0 tokens) ≡ Some changes → behind_comma text 0 tokens ≡ None → assignments text tokens ≡ Some changes
last_assigned text tokens changes first end =
    assignments_from text tokens
    ∙ ap (λ (one : Option (List Change)). with_changes one (assigned_behind text (behind_comma text 0 tokens))) first
    ∙ ap (λ (rest : Option (List Token)). with_changes (Some changes) (assigned_behind text rest)) end
    ∙ ap (λ (all : List Change). Some all) (append-nil changes)

pub next_assigned : (text : List ℕ) (tokens rest : List Token) (changes : List Change) → part_changes text (before_comma text 0 tokens) ≡ Some changes → behind_comma text 0 tokens ≡ Some rest → assignments text tokens ≡ with_changes (Some changes) (assignments text rest)
next_assigned text tokens rest changes first more =
    assignments_from text tokens
    ∙ ap (λ (one : Option (List Change)). with_changes one (assigned_behind text (behind_comma text 0 tokens))) first
    ∙ ap (λ (others : Option (List Token)). with_changes (Some changes) (assigned_behind text others)) more

-- the changes of a part before others, behind those that were there
onto_changes : (front changes : List Change) (rest : Option (List Change)) → option_map (λ more. front ++ more) (with_changes (Some changes) rest) ≡ option_map (λ more. (front ++ changes) ++ more) rest
onto_changes front changes None = refl
onto_changes front changes (Some rest) = ap (λ (all : List Change). Some all) (sym (append_assoc front changes rest))

pub more_changes : (front new : List Change) (first rest : Option (List Change)) → option_map (λ more. front ++ more) first ≡ Some new → option_map (λ more. front ++ more) (with_changes first rest) ≡ option_map (λ more. new ++ more) rest
more_changes front new None rest is = absurd (cc)
more_changes front new (Some changes) rest is = let same : front ++ changes ≡ new = cc in onto_changes front changes rest ∙ ap (λ (all : List Change). option_map (λ more. all ++ more) rest) same

pub no_changes : (front : List Change) (first : Option (List Change)) → option_map (λ more. front ++ more) first ≡ None → first ≡ None
no_changes front None is = refl
no_changes front (Some changes) is = absurd (cc)

-- what is assigned behind a comma, where there is one
pub behind_by : (text : List ℕ) (more : Bool) (tokens : List Token) → assigned_behind text (cond more (Some tokens) None) ≡ cond more (assignments text tokens) (Some [])
behind_by text true tokens = refl
behind_by text false tokens = refl

-- more than sixty tokens are no value, and so sixty-five or more are no assignment
long_written : (text : List ℕ) (slot : Slot) (tokens : List Token) → 61 ≤ length tokens → written text slot tokens ≡ None
unfolding written joined
long_written text slot [] long = absurd (omega arith)
long_written text slot (a ∷ []) long = absurd (omega arith)
long_written text slot (a ∷ b ∷ []) long = absurd (omega arith)
long_written text slot (a ∷ b ∷ c ∷ tokens) long =
    let all = a ∷ b ∷ c ∷ tokens in
    cond-false (takes_modes slot && nat_le (length all) 60) _ _ (and_right (takes_modes slot) _ (lt-leb (length all) 60 (omega arith)))

long_colon : (text : List ℕ) (slot : Slot) (colon : Token) (tokens : List Token) → 62 ≤ length tokens → behind_colon text slot colon tokens ≡ None
unfolding behind_colon
long_colon text slot colon [] long = refl
long_colon text slot colon (equals ∷ tokens) long =
    elim (cases_Bool (is_symbol text equals 61 && nat_eq colon.end equals.start)) [
      | inl e ↦ cond-true _ _ _ e ∙ long_written text slot tokens (omega arith)
      | inr e ↦ cond-false _ _ _ e
    ]

long_assigned : (text : List ℕ) (slot : Option Slot) (tokens : List Token) → 63 ≤ length tokens → assigned text slot tokens ≡ None
unfolding assigned
long_assigned text None tokens long = refl
long_assigned text (Some slot) [] long = refl
long_assigned text (Some slot) (equals ∷ tokens) long =
    elim (cases_Bool (is_symbol text equals 61)) [
      | inl e ↦ cond-true (is_symbol text equals 61) _ _ e ∙ long_written text slot tokens (omega arith)
      | inr e ↦
          cond-false (is_symbol text equals 61) _ _ e
          ∙ elim (cases_Bool (is_symbol text equals 58)) [
            | inl f ↦ cond-true (is_symbol text equals 58) _ _ f ∙ long_colon text slot equals tokens (omega arith)
            | inr f ↦ cond-false (is_symbol text equals 58) _ _ f
          ]
    ]

-- a setting that isn't the mode takes no more than two
plain_written : (text : List ℕ) (slot : Slot) (tokens : List Token) → takes_modes slot ≡ false → 3 ≤ length tokens → written text slot tokens ≡ None
unfolding written joined
plain_written text slot [] plain long = absurd (omega arith)
plain_written text slot (a ∷ []) plain long = absurd (omega arith)
plain_written text slot (a ∷ b ∷ []) plain long = absurd (omega arith)
plain_written text slot (a ∷ b ∷ c ∷ tokens) plain long = cond-false (takes_modes slot && nat_le (length (a ∷ b ∷ c ∷ tokens)) 60) _ _ (and_left _ _ plain)

plain_colon : (text : List ℕ) (slot : Slot) (colon : Token) (tokens : List Token) → takes_modes slot ≡ false → 4 ≤ length tokens → behind_colon text slot colon tokens ≡ None
unfolding behind_colon
plain_colon text slot colon [] plain long = refl
plain_colon text slot colon (equals ∷ tokens) plain long =
    elim (cases_Bool (is_symbol text equals 61 && nat_eq colon.end equals.start)) [
      | inl e ↦ cond-true _ _ _ e ∙ plain_written text slot tokens plain (omega arith)
      | inr e ↦ cond-false _ _ _ e
    ]

plain_assigned : (text : List ℕ) (slot : Slot) (tokens : List Token) → takes_modes slot ≡ false → 5 ≤ length tokens → assigned text (Some slot) tokens ≡ None
unfolding assigned
plain_assigned text slot [] plain long = refl
plain_assigned text slot (equals ∷ tokens) plain long =
    elim (cases_Bool (is_symbol text equals 61)) [
      | inl e ↦ cond-true (is_symbol text equals 61) _ _ e ∙ plain_written text slot tokens plain (omega arith)
      | inr e ↦
          cond-false (is_symbol text equals 61) _ _ e
          ∙ elim (cases_Bool (is_symbol text equals 58)) [
            | inl f ↦ cond-true (is_symbol text equals 58) _ _ f ∙ plain_colon text slot equals tokens plain (omega arith)
            | inr f ↦ cond-false (is_symbol text equals 58) _ _ f
          ]
    ]

none_assigned_to : (text : List ℕ) (tokens : List Token) → assigned text None tokens ≡ None
unfolding assigned
none_assigned_to text tokens = refl

-- as those that comments name
long_comments : (text first second : List ℕ) (tokens : List Token) → 62 ≤ length tokens → assigned text (slot_of_comments first second) tokens ≡ None
unfolding slot_of_comments
long_comments text first second tokens long =
    let IsNone : Option Slot → Type 0 = λ found. assigned text found tokens ≡ None in
    let read_only = bytes_eq first mariadb_read_only && bytes_eq second mysql_read_only in
    cond_both (bytes_eq first mariadb_isolation && bytes_eq second mysql_isolation) (Some TransactionIsolation) (cond read_only (Some TransactionReadOnly) None) IsNone
    (λ _. plain_assigned text TransactionIsolation tokens refl (omega arith))
    (λ _. cond_both read_only (Some TransactionReadOnly) None IsNone
    (λ _. plain_assigned text TransactionReadOnly tokens refl (omega arith))
    (λ _. none_assigned_to text tokens))

long_named : (text : List ℕ) (slot : Option Slot) (name : Token) (tokens : List Token) → 63 ≤ length tokens → named_change text slot name tokens ≡ None
unfolding named_change
long_named text slot name [] long = refl
long_named text slot name (next ∷ tokens) long =
    elim (cases_Bool (is_executed name.kind)) [
      | inl e ↦ cond-true (is_executed name.kind) _ _ e ∙ long_comments text (bytes_of text name) (bytes_of text next) tokens (omega arith)
      | inr e ↦ cond-false (is_executed name.kind) _ _ e ∙ long_assigned text slot (next ∷ tokens) long
    ]

long_assignment : (text : List ℕ) (tokens : List Token) → 65 ≤ length tokens → assignment text tokens ≡ None
unfolding assignment
long_assignment text [] long = refl
long_assignment text (a ∷ []) long = refl
long_assignment text (a ∷ b ∷ tokens) long =
    elim (cases_Bool (is_session_word text a)) [
      | inl e ↦ cond-true (is_session_word text a) _ _ e ∙ long_named text (slot_of_name text b) b tokens (omega arith)
      | inr e ↦ cond-false (is_session_word text a) _ _ e ∙ long_named text (slot_by a.kind (bytes_of text a)) a (b ∷ tokens) (omega arith)
    ]

-- and so many are no SET NAMES
long_names : (text : List ℕ) (tokens : List Token) → 65 ≤ length tokens → names_value text tokens ≡ None
unfolding names_value
long_names text [] long = refl
long_names text (a ∷ []) long = refl
long_names text (a ∷ b ∷ []) long = absurd (omega arith)
long_names text (a ∷ b ∷ c ∷ []) long = refl
long_names text (a ∷ b ∷ c ∷ d ∷ []) long = absurd (omega arith)
long_names text (a ∷ b ∷ c ∷ d ∷ e ∷ tokens) long = refl

long_part : (text : List ℕ) (tokens : List Token) → 65 ≤ length tokens → part_changes text tokens ≡ None
long_part text tokens long =
    ap (λ value. option_or (names_changes value) (option_map (λ change. change ∷ []) (assignment text tokens))) (long_names text tokens long)
    ∙ ap (option_map (λ change. change ∷ [])) (long_assignment text tokens long)

-- so those behind the first sixty-five make no difference
pub part_front : (text : List ℕ) (tokens : List Token) → part_changes text (take 65 tokens) ≡ part_changes text tokens
part_front text tokens =
    elim (cases_lt (length tokens) 65) [
      | inl short ↦ ap (part_changes text) (take_all 65 tokens (omega arith))
      | inr long ↦ long_part text (take 65 tokens) (omega (arith, length-take-le 65 tokens long)) ∙ sym (long_part text tokens long)
    ]

pub nothing : {A : Type 0} (o : Option A) → ((x : A) → o ≡ Some x → ⊥) → o ≡ None
nothing None none = refl
nothing (Some x) none = absurd (none x refl)
