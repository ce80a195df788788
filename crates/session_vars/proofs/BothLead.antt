-- The two statements that make a difference lead to the wanted settings.
use Rattle.std.proofs.Common.{◌≡◌, Bool, true, false, not, ◌&&◌, ◌||◌, cond, List, [], ◌∷◌, ◌++◌, filter, refl, sym, ◌∙◌, ap, inl, inr, arith, append_assoc}
use Rattle.std.specs.List.{list_all}
use Rattle.std.proofs.lemmas.Bool.{cond-true, cond-false, cases_Bool, and_parts, and_from, or_parts, or_right}
use Rattle.session_vars.specs.Settings.{AreSettings, value_at, changed, applied, is_text, differs, is_taken_back, names_differ, results_differ, has_to_change, changes_of, difference_of}
use Rattle.session_vars.specs.Shapes.{changes_in, changes_by}
use Rattle.session_vars.specs.Slots.{all_slots}
use Rattle.session_vars.specs.Texts.{is_assigned, names_statement, names_text, session_by, session_text}
use Rattle.session_vars.specs.Tracked.{AreTracked}
use Rattle.session_vars.specs.declared.change.Change.{Change}
use Rattle.session_vars.specs.declared.change.SlotValue.{SlotValue}
use Rattle.session_vars.specs.declared.change.SlotValue.TheVariants.{Default, Text}
use Rattle.session_vars.specs.declared.slot.Slot.{Slot}
use Rattle.session_vars.specs.declared.slot.Slot.TheVariants.{Names, CharacterSetResults, CollationConnection}
use Rattle.session_vars.proofs.Assigned.{AreAssignable}
use Rattle.session_vars.proofs.Leading.{others, others_run, lead, unchanged_is}
use Rattle.session_vars.proofs.ReadAgain.{change_of, assignable, written_again, names_written, names_unwritten, names_read_again}

-- SET SESSION makes all changes of these
abbrev is_plain : Slot → Bool
is_plain Names = false
is_plain CharacterSetResults = false
is_plain CollationConnection = false
is_plain _ = true

plain_assigned : (slot : Slot) (value : SlotValue) → is_plain slot ≡ true → is_assigned (change_of slot value) ≡ true
plain_assigned Names value plain = absurd (cc)
plain_assigned CharacterSetResults value plain = absurd (cc)
plain_assigned CollationConnection value plain = absurd (cc)
plain_assigned _ value plain = refl

all_stay : (from to : List SlotValue) (slots : List Slot) → list_all is_plain slots ≡ true → filter is_assigned (changes_of from to slots) ≡ changes_of from to slots
all_stay from to [] plain = refl
all_stay from to (slot ∷ slots) plain =
    let both = and_parts (is_plain slot) (list_all is_plain slots) plain in
    let change = change_of slot (value_at to slot) in
    let rest = all_stay from to slots both.1 in
    elim (cases_Bool (has_to_change from to slot)) [
      | inl e ↦
          ap (filter is_assigned) (cond-true (has_to_change from to slot) _ _ e)
          ∙ cond-true (is_assigned change) _ _ (plain_assigned slot (value_at to slot) both.0)
          ∙ ap (λ (changes : List Change). change ∷ changes) rest
          ∙ sym (cond-true (has_to_change from to slot) _ _ e)
      | inr e ↦ ap (filter is_assigned) (cond-false (has_to_change from to slot) _ _ e) ∙ rest ∙ sym (cond-false (has_to_change from to slot) _ _ e)
    ]

-- what is read of SET SESSION
session_changes : (changes : List Change) → AreAssignable changes → changes_by (session_by changes) ≡ changes
session_changes [] are = refl
session_changes (change ∷ changes) are = ap changes_in (written_again (change ∷ changes) _ are refl)

read_session : (from to : List SlotValue) → AreTracked to → changes_by (session_text (difference_of from to)) ≡ filter is_assigned (difference_of from to)
read_session from to tracked = session_changes (filter is_assigned (difference_of from to)) (assignable from to all_slots tracked)

-- what is read of SET NAMES
abbrev names_made : Bool → SlotValue → List Change
names_made names value = cond names (change_of Names value ∷ change_of CharacterSetResults Default ∷ change_of CollationConnection Default ∷ []) []

read_names : (from to : List SlotValue) → AreTracked to → changes_by (names_text (difference_of from to)) ≡ names_made (has_to_change from to Names) (value_at to Names)
read_names from to tracked =
    elim (cases_Bool (has_to_change from to Names)) [
      | inl e ↦
          let written = names_written from to e in
          ap changes_by written
          ∙ ap changes_in (names_read_again from to (names_statement (change_of Names (value_at to Names))) tracked written)
          ∙ sym (cond-true (has_to_change from to Names) _ _ e)
      | inr e ↦ ap changes_by (names_unwritten from to e) ∙ sym (cond-false (has_to_change from to Names) _ _ e)
    ]

-- what SET SESSION makes of a difference: each of the two that SET NAMES sets too as a text, and the others
abbrev results_made : Slot → Bool → SlotValue → List Change
results_made slot results value = filter is_assigned (cond results (change_of slot value ∷ []) [])

without_names : (names : Bool) (value : SlotValue) (changes : List Change) → filter is_assigned (cond names (change_of Names value ∷ changes) changes) ≡ filter is_assigned changes
without_names true value changes = refl
without_names false value changes = refl

results_first : (slot : Slot) (results : Bool) (value : SlotValue) (changes : List Change) → filter is_assigned (cond results (change_of slot value ∷ changes) changes) ≡ results_made slot results value ++ filter is_assigned changes
results_first slot false value changes = refl
results_first slot true value changes =
    let change = change_of slot value in
    elim (cases_Bool (is_assigned change)) [
      | inl e ↦ cond-true (is_assigned change) _ _ e ∙ sym (ap (λ (made : List Change). made ++ filter is_assigned changes) (cond-true (is_assigned change) _ _ e))
      | inr e ↦ cond-false (is_assigned change) _ _ e ∙ sym (ap (λ (made : List Change). made ++ filter is_assigned changes) (cond-false (is_assigned change) _ _ e))
    ]

abbrev both_made : (from to : List SlotValue) → List Change
both_made from to =
    results_made CharacterSetResults (has_to_change from to CharacterSetResults) (value_at to CharacterSetResults)
    ++ results_made CollationConnection (has_to_change from to CollationConnection) (value_at to CollationConnection)

session_made : (from to : List SlotValue) → filter is_assigned (difference_of from to) ≡ both_made from to ++ changes_of from to others
session_made from to =
    let rest = changes_of from to others in
    let one = results_made CharacterSetResults (has_to_change from to CharacterSetResults) (value_at to CharacterSetResults) in
    let two = results_made CollationConnection (has_to_change from to CollationConnection) (value_at to CollationConnection) in
    without_names (has_to_change from to Names) (value_at to Names) (changes_of from to (CharacterSetResults ∷ CollationConnection ∷ others))
    ∙ results_first CharacterSetResults (has_to_change from to CharacterSetResults) (value_at to CharacterSetResults) (changes_of from to (CollationConnection ∷ others))
    ∙ ap (λ (changes : List Change). one ++ changes)
    (results_first CollationConnection (has_to_change from to CollationConnection) (value_at to CollationConnection) rest
    ∙ ap (λ (changes : List Change). two ++ changes) (all_stay from to others refl))
    ∙ sym (append_assoc one two rest)

applied-append : (values : List SlotValue) (xs ys : List Change) → applied values (xs ++ ys) ≡ applied (applied values xs) ys
applied-append values [] ys = refl
applied-append values (change ∷ xs) ys = applied-append (changed values change) xs ys

-- what SET NAMES leaves of one that it sets too, and what is made of it behind that
abbrev left_of : (names : Bool) → SlotValue → SlotValue
left_of names value = cond names Default value

abbrev made_of : (results : Bool) → (left wanted : SlotValue) → SlotValue
made_of true left (Text bytes) = Text bytes
made_of true left Default = left
made_of false left wanted = left

kept_default : (value : SlotValue) → is_text value && true ≡ false → value ≡ Default
kept_default Default h = refl
kept_default (Text bytes) h = absurd (cc)

one_made : (names results : Bool) (from wanted : SlotValue) → (names ≡ false → is_text from && not (is_text wanted) ≡ false) → (results ≡ false → from ≡ wanted) → (names ≡ true → is_text wanted ≡ true → results ≡ true) → made_of results (left_of names from) wanted ≡ wanted
one_made true true from Default kept stays taken = refl
one_made true false from Default kept stays taken = refl
one_made true true from (Text bytes) kept stays taken = refl
one_made true false from (Text bytes) kept stays taken = let apart : false ≡ true = taken refl refl in absurd (cc)
one_made false true from Default kept stays taken = kept_default from (kept refl)
one_made false true from (Text bytes) kept stays taken = refl
one_made false false from wanted kept stays taken = stays refl

-- the first three values
names_front : (names : Bool) (f0 f1 f2 t0 : SlotValue) (rest : List SlotValue) → (names ≡ false → f0 ≡ t0) → applied (f0 ∷ f1 ∷ f2 ∷ rest) (names_made names t0) ≡ t0 ∷ left_of names f1 ∷ left_of names f2 ∷ rest
names_front true f0 f1 f2 t0 rest same = refl
names_front false f0 f1 f2 t0 rest same = ap (λ (value : SlotValue). value ∷ f1 ∷ f2 ∷ rest) (same refl)

first_made : (results : Bool) (t0 left other wanted : SlotValue) (rest : List SlotValue) → applied (t0 ∷ left ∷ other ∷ rest) (results_made CharacterSetResults results wanted) ≡ t0 ∷ made_of results left wanted ∷ other ∷ rest
first_made true t0 left other (Text bytes) rest = refl
first_made true t0 left other Default rest = refl
first_made false t0 left other wanted rest = refl

second_made : (results : Bool) (t0 other left wanted : SlotValue) (rest : List SlotValue) → applied (t0 ∷ other ∷ left ∷ rest) (results_made CollationConnection results wanted) ≡ t0 ∷ other ∷ made_of results left wanted ∷ rest
second_made true t0 other left (Text bytes) rest = refl
second_made true t0 other left Default rest = refl
second_made false t0 other left wanted rest = refl

names_keep : (from to : List SlotValue) → has_to_change from to Names ≡ false → (is_taken_back from to CharacterSetResults ≡ false) × (is_taken_back from to CollationConnection ≡ false)
unfolding names_differ
names_keep from to same =
    or_parts (is_taken_back from to CharacterSetResults) (is_taken_back from to CollationConnection)
    (or_parts (differs from to Names) (is_taken_back from to CharacterSetResults || is_taken_back from to CollationConnection) same).1

names_take : (from to : List SlotValue) (slot : Slot) → has_to_change from to Names ≡ true → is_text (value_at to slot) ≡ true → results_differ from to slot ≡ true
unfolding results_differ
names_take from to slot changed text = or_right _ _ (and_from _ _ changed text)

front_made : (f0 f1 f2 t0 t1 t2 : SlotValue) (fs ts : List SlotValue) → applied (applied (f0 ∷ f1 ∷ f2 ∷ fs) (names_made (has_to_change (f0 ∷ f1 ∷ f2 ∷ fs) (t0 ∷ t1 ∷ t2 ∷ ts) Names) t0)) (both_made (f0 ∷ f1 ∷ f2 ∷ fs) (t0 ∷ t1 ∷ t2 ∷ ts)) ≡ t0 ∷ t1 ∷ t2 ∷ fs
front_made f0 f1 f2 t0 t1 t2 fs ts =
    let from = f0 ∷ f1 ∷ f2 ∷ fs in
    let to = t0 ∷ t1 ∷ t2 ∷ ts in
    let names = has_to_change from to Names in
    let results = has_to_change from to CharacterSetResults in
    let collation = has_to_change from to CollationConnection in
    let one = results_made CharacterSetResults results t1 in
    let two = results_made CollationConnection collation t2 in
    ap (λ (values : List SlotValue). applied values (one ++ two)) (names_front names f0 f1 f2 t0 fs (unchanged_is from to Names))
    ∙ applied-append (t0 ∷ left_of names f1 ∷ left_of names f2 ∷ fs) one two
    ∙ ap (λ (values : List SlotValue). applied values two) (first_made results t0 (left_of names f1) (left_of names f2) t1 fs)
    ∙ second_made collation t0 (made_of results (left_of names f1) t1) (left_of names f2) t2 fs
    ∙ ap (λ (value : SlotValue). t0 ∷ value ∷ made_of collation (left_of names f2) t2 ∷ fs)
    (one_made names results f1 t1 (λ same. (names_keep from to same).0) (unchanged_is from to CharacterSetResults) (names_take from to CharacterSetResults))
    ∙ ap (λ (value : SlotValue). t0 ∷ t1 ∷ value ∷ fs)
    (one_made names collation f2 t2 (λ same. (names_keep from to same).1) (unchanged_is from to CollationConnection) (names_take from to CollationConnection))

pub both_lead : (from to : List SlotValue) → AreSettings from → AreTracked to → applied (applied from (changes_by (names_text (difference_of from to)))) (changes_by (session_text (difference_of from to))) ≡ to
both_lead [] to in_from tracked = absurd (omega arith)
both_lead (f0 ∷ []) to in_from tracked = absurd (omega arith)
both_lead (f0 ∷ f1 ∷ []) to in_from tracked = absurd (omega arith)
both_lead (f0 ∷ f1 ∷ f2 ∷ fs) [] in_from tracked = absurd (omega (arith, tracked.0))
both_lead (f0 ∷ f1 ∷ f2 ∷ fs) (t0 ∷ []) in_from tracked = absurd (omega (arith, tracked.0))
both_lead (f0 ∷ f1 ∷ f2 ∷ fs) (t0 ∷ t1 ∷ []) in_from tracked = absurd (omega (arith, tracked.0))
both_lead (f0 ∷ f1 ∷ f2 ∷ fs) (t0 ∷ t1 ∷ t2 ∷ ts) in_from tracked =
    let from = f0 ∷ f1 ∷ f2 ∷ fs in
    let to = t0 ∷ t1 ∷ t2 ∷ ts in
    let names = names_made (has_to_change from to Names) t0 in
    ap (λ (changes : List Change). applied (applied from changes) (changes_by (session_text (difference_of from to)))) (read_names from to tracked)
    ∙ ap (applied (applied from names)) (read_session from to tracked ∙ session_made from to)
    ∙ applied-append (applied from names) (both_made from to) (changes_of from to others)
    ∙ ap (λ (values : List SlotValue). applied values (changes_of from to others)) (front_made f0 f1 f2 t0 t1 t2 fs ts)
    ∙ lead from to 3 others others_run in_from tracked.0
