-- Folding makes each longest run of two or more values one list, and nothing else does.
use Rattle.std.proofs.Common.{◌≡◌, ◌<◌, true, false, ◌&&◌, List, [], ◌∷◌, ◌++◌, length, refl, sym, subst, ◌∙◌, ap, inl, inr, arith}
use Rattle.std.proofs.lemmas.Bool.{cond-true, cond-false, cases_Bool, both_ways, and_parts, and_from, and_left}
use Rattle.query_digest.specs.Parts.{Spaced, is_values, is_comma, joined, folded}
use Rattle.query_digest.specs.Runs.{IsRun, goes_on, list_for, FoldsTo}
use Rattle.query_digest.proofs.Joining.{front, no_values, no_values_alone}

-- where no run of two begins, a part stays
stays : (part : Spaced) (rest : List Spaced) → (is_values part.part ≡ true → goes_on rest ≡ false) → joined part rest ≡ part ∷ rest
stays part [] h = refl
stays part (first ∷ []) h = refl
stays part (first ∷ second ∷ rest) h =
    elim (cases_Bool (is_values part.part && is_comma first.part && is_values second.part)) [
      | inl e ↦
          let parts = and_parts (is_values part.part && is_comma first.part) (is_values second.part) e in
          let both = and_parts (is_values part.part) (is_comma first.part) parts.0 in
          absurd (both_ways (is_comma first.part && is_values second.part) (h both.0) (and_from (is_comma first.part) (is_values second.part) both.1 parts.1))
      | inr e ↦ cond-false _ _ _ e
    ]

-- what a run would go on with isn't changed by folding
goes_on-folded : (parts : List Spaced) → goes_on (folded parts) ≡ goes_on parts
goes_on-folded [] = refl
goes_on-folded (first ∷ []) = refl
goes_on-folded (first ∷ second ∷ rest) =
    let f = front second (folded rest) in
    elim (cases_Bool (is_comma first.part)) [
      | inl comma ↦
          ap goes_on (no_values_alone first (folded (second ∷ rest)) (no_values first.part comma) ∙ ap (λ (xs : List Spaced). first ∷ xs) f.is)
          ∙ ap (λ b. is_comma first.part && b) f.values
      | inr other ↦ front_goes_not first (folded (second ∷ rest)) other ∙ sym (and_left (is_comma first.part) (is_values second.part) other)
    ]
  where
    front_goes_not : (first : Spaced) (rest : List Spaced) → is_comma first.part ≡ false → goes_on (joined first rest) ≡ false
    front_goes_not first rest other =
        let f = front first rest in
        ap goes_on f.is ∙ not_on f.first f.others (f.comma ∙ other)
      where
        not_on : (first : Spaced) (others : List Spaced) → is_comma first.part ≡ false → goes_on (first ∷ others) ≡ false
        not_on first [] h = refl
        not_on first (second ∷ others) h = and_left (is_comma first.part) (is_values second.part) h

-- values, a comma, and values or a list are one list
one : (first comma value : Spaced) (rest : List Spaced) → is_values first.part ≡ true → is_comma comma.part ≡ true → is_values value.part ≡ true → joined first (comma ∷ value ∷ rest) ≡ list_for first ∷ rest
one first comma value rest f c v = cond-true _ _ _ (and_from (is_values first.part && is_comma comma.part) (is_values value.part) (and_from (is_values first.part) (is_comma comma.part) f c) v)

-- a longest run of two or more is one list
run_folds : (first : Spaced) (more rest : List Spaced) → 0 < length more → IsRun (first ∷ more) → goes_on rest ≡ false → folded ((first ∷ more) ++ rest) ≡ list_for first ∷ folded rest
run_folds first [] rest some run end = absurd (omega arith)
run_folds first (comma ∷ []) rest some run end = absurd run.2
run_folds first (comma ∷ value ∷ []) rest some run end =
    let alone : folded (value ∷ rest) ≡ value ∷ folded rest = stays value (folded rest) (λ _. goes_on-folded rest ∙ end) in
    ap (joined first) (no_values_alone comma (folded (value ∷ rest)) (no_values comma.part run.1) ∙ ap (λ (xs : List Spaced). comma ∷ xs) alone)
    ∙ one first comma value (folded rest) run.0 run.1 run.2
run_folds first (comma ∷ value ∷ next ∷ more) rest some run end =
    let list : folded ((value ∷ next ∷ more) ++ rest) ≡ list_for value ∷ folded rest = run_folds value (next ∷ more) rest (omega arith) run.2 end in
    ap (joined first) (no_values_alone comma (folded ((value ∷ next ∷ more) ++ rest)) (no_values comma.part run.1) ∙ ap (λ (xs : List Spaced). comma ∷ xs) list)
    ∙ one first comma (list_for value) (folded rest) run.0 run.1 refl

-- nothing else
pub only_folded : (parts out : List Spaced) → FoldsTo parts out → out ≡ folded parts
only_folded parts [] folds = ap folded (sym folds)
only_folded parts (part ∷ out) folds =
    let rest = folds.0 in
    let begins = folds.1 in
    let others : out ≡ folded rest = only_folded rest out folds.2 in
    elim begins.stands [
      | inl itself ↦
          let all : parts ≡ begins.first ∷ rest = begins.all ∙ ap (λ (xs : List Spaced). (begins.first ∷ xs) ++ rest) itself.0 in
          ap (λ (xs : List Spaced). part ∷ xs) others ∙ ap (λ (x : Spaced). x ∷ folded rest) itself.1 ∙ sym (ap folded all ∙ stays begins.first (folded rest) (λ value. goes_on-folded rest ∙ itself.2 value))
      | inr list ↦
          ap (λ (xs : List Spaced). part ∷ xs) others ∙ ap (λ (x : Spaced). x ∷ folded rest) list.1 ∙ sym (ap folded begins.all ∙ run_folds begins.first begins.more rest list.0 list.2 list.3)
    ]

-- a part before others that stays
stays_begins : (part : Spaced) (parts out : List Spaced) → FoldsTo parts out → (is_values part.part ≡ true → goes_on parts ≡ false) → FoldsTo (part ∷ parts) (part ∷ out)
stays_begins part parts out folds alone = (parts, record { first = part; more = []; all = refl; stands = inl (refl, refl, alone) }, folds)

-- a value before a comma and a value or list begins one list with them
list_begins : (part comma value : Spaced) (parts out : List Spaced) → FoldsTo parts (comma ∷ value ∷ out) → is_values part.part ≡ true → is_comma comma.part ≡ true → is_values value.part ≡ true → FoldsTo (part ∷ parts) (list_for part ∷ out)
list_begins part comma value parts out folds part_is comma_is value_is =
    let one = folds.1 in
    let two = folds.2.1 in
    let rest = folds.2.0 in
    elim one.stands [
      | inl itself ↦
          let begins : parts ≡ one.first ∷ ((two.first ∷ two.more) ++ rest) = one.all ∙ ap (λ (xs : List Spaced). (one.first ∷ xs) ++ folds.0) itself.0 ∙ ap (λ (xs : List Spaced). one.first ∷ xs) two.all in
          let is_comma_too : is_comma one.first.part ≡ true = ap (λ (x : Spaced). is_comma x.part) (sym itself.1) ∙ comma_is in
          let run : IsRun (two.first ∷ two.more) × (goes_on rest ≡ false) = elim two.stands [
            | inl alone ↦
                let is_value : is_values two.first.part ≡ true = ap (λ (x : Spaced). is_values x.part) (sym alone.1) ∙ value_is in
                (subst (λ (xs : List Spaced). IsRun (two.first ∷ xs)) (sym alone.0) is_value, alone.2 is_value)
            | inr list ↦ (list.2, list.3)
          ] in
          (rest, record { first = part; more = one.first ∷ two.first ∷ two.more; all = ap (λ (xs : List Spaced). part ∷ xs) begins; stands = inr (omega arith, refl, (part_is, is_comma_too, run.0), run.1) }, folds.2.2)
      | inr list ↦ absurd (both_ways (is_comma comma.part) (ap (λ (x : Spaced). is_comma x.part) list.1) comma_is)
    ]

begins_folded : (part : Spaced) (parts out : List Spaced) → FoldsTo parts out → goes_on out ≡ goes_on parts → FoldsTo (part ∷ parts) (joined part out)
begins_folded part parts [] folds same = stays_begins part parts [] folds (λ _. sym same)
begins_folded part parts (first ∷ []) folds same = stays_begins part parts (first ∷ []) folds (λ _. sym same)
begins_folded part parts (first ∷ second ∷ out) folds same =
    let test = is_values part.part && is_comma first.part && is_values second.part in
    elim (cases_Bool test) [
      | inl e ↦
          let halves = and_parts (is_values part.part && is_comma first.part) (is_values second.part) e in
          let both = and_parts (is_values part.part) (is_comma first.part) halves.0 in
          subst (FoldsTo (part ∷ parts)) (sym (cond-true test (list_for part ∷ out) (part ∷ first ∷ second ∷ out) e)) (list_begins part first second parts out folds both.0 both.1 halves.1)
      | inr e ↦
          subst (FoldsTo (part ∷ parts)) (sym (cond-false test (list_for part ∷ out) (part ∷ first ∷ second ∷ out) e))
          (stays_begins part parts (first ∷ second ∷ out) folds (λ value. sym same ∙ sym (ap (λ b. b && is_comma first.part && is_values second.part) value) ∙ e))
    ]

-- and that one
pub folds_to : (parts : List Spaced) → FoldsTo parts (folded parts)
folds_to [] = refl
folds_to (part ∷ parts) = begins_folded part parts (folded parts) (folds_to parts) (goes_on-folded parts)
