-- Assignments that are joined.
use Rattle.std.proofs.Common.{◌≡◌, ◌<◌, ℕ, true, false, nat_eq, eqb, List, [], ◌∷◌, ◌++◌, Option, Some, None, length, codes, fold, filter, refl, sym, ◌∙◌, ap, inl, inr, arith, append_assoc, length-append}
use Rattle.std.specs.List.{flat_map}
use Rattle.std.proofs.lemmas.Bool.{cond-true, cond-false, cases_Bool, ne_eqb, eqb-true, eqb-false}
use Rattle.std.proofs.lemmas.List.{append-nil}
use Rattle.session_vars.specs.Texts.{assignment_text, is_assigned, session_by, session_text, with_assignment}
use Rattle.session_vars.specs.declared.change.Change.{Change}

abbrev pub with_comma : Change → List ℕ
with_comma change = codes ", " ++ assignment_text change

-- behind a text that has one, each assignment stands behind a comma
joined : (text : List ℕ) (changes : List Change) → 0 < length text → fold with_assignment text changes ≡ text ++ flat_map with_comma (filter is_assigned changes)
joined text [] some = sym (append-nil text)
joined text (change ∷ changes) some =
    elim (cases_Bool (is_assigned change)) [
      | inl e ↦
          let more : with_assignment text change ≡ text ++ with_comma change = cond-true (is_assigned change) _ _ e ∙ ap (λ before. text ++ (before ++ assignment_text change)) (cond-false (nat_eq (length text) 0) (codes "SET SESSION ") (codes ", ") (ne_eqb (length text) 0 (λ h. omega arith))) in
          ap (λ t. fold with_assignment t changes) more
          ∙ joined (text ++ with_comma change) changes (omega (arith, length-append text (with_comma change)))
          ∙ append_assoc text (with_comma change) (flat_map with_comma (filter is_assigned changes))
          ∙ sym (ap (λ (cs : List Change). text ++ flat_map with_comma cs) (cond-true (is_assigned change) _ _ e))
      | inr e ↦
          ap (λ t. fold with_assignment t changes) (cond-false (is_assigned change) _ _ e)
          ∙ joined text changes some
          ∙ sym (ap (λ (cs : List Change). text ++ flat_map with_comma cs) (cond-false (is_assigned change) _ _ e))
    ]

abbrev pub unless_empty : List ℕ → Option (List ℕ)
unless_empty [] = None
unless_empty (b ∷ bytes) = Some (b ∷ bytes)

-- from nothing on, the text of SET SESSION
pub session_joined : (changes : List Change) → unless_empty (fold with_assignment [] changes) ≡ session_text changes
session_joined [] = refl
session_joined (change ∷ changes) =
    elim (cases_Bool (is_assigned change)) [
      | inl e ↦
          let first : with_assignment [] change ≡ codes "SET SESSION " ++ assignment_text change = cond-true (is_assigned change) _ _ e in
          ap (λ t. unless_empty (fold with_assignment t changes)) first
          ∙ ap unless_empty (joined (codes "SET SESSION " ++ assignment_text change) changes (omega (arith, length-append (codes "SET SESSION ") (assignment_text change))))
          ∙ ap unless_empty (append_assoc (codes "SET SESSION ") (assignment_text change) (flat_map with_comma (filter is_assigned changes)))
          ∙ sym (ap session_by (cond-true (is_assigned change) _ _ e))
      | inr e ↦
          ap (λ t. unless_empty (fold with_assignment t changes)) (cond-false (is_assigned change) _ _ e)
          ∙ session_joined changes
          ∙ sym (ap session_by (cond-false (is_assigned change) _ _ e))
    ]

-- a whole text, by whether it is empty
pub none_joined : (text : List ℕ) (changes : List Change) → text ≡ fold with_assignment [] changes → eqb (length text) 0 ≡ true → None ≡ session_text changes
none_joined [] changes is empty = ap unless_empty is ∙ session_joined changes
none_joined (b ∷ text) changes is empty = absurd (omega (arith, eqb-true (length (b ∷ text)) 0 empty))

pub some_joined : (text : List ℕ) (changes : List Change) → text ≡ fold with_assignment [] changes → eqb (length text) 0 ≡ false → Some text ≡ session_text changes
some_joined [] changes is some = absurd (eqb-false 0 0 some refl)
some_joined (b ∷ text) changes is some = ap unless_empty is ∙ session_joined changes
