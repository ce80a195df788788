-- The rows that are left to compile, and all of them.
use Rattle.std.proofs.Common.{◌≡◌, ℕ, true, false, nat_eq, List, [], ◌∷◌, ◌++◌, map, Option, Some, None}
use Rattle.std.proofs.Common.{inr, refl, sym, ap, ◌∙◌, append_assoc, eq-eqb, arith}
use Rattle.std.specs.Option.{option_eq}
use Rattle.std.proofs.lemmas.Bool.Decides.{nat_tests}
use Rattle.std.proofs.lemmas.List.{map_push}
use Rattle.query_rules.specs.Building.{Stands, AllStand, IsFirstOf}
use Rattle.query_rules.specs.declared.fault.RuleFault.{RuleFault}
use Rattle.query_rules.specs.declared.row.RuleRow.{RuleRow}
use Rattle.query_rules.specs.declared.rule.Rule.{Rule}

-- the next row is compiled
pub rows_more : (rules : List Rule) (rule : Rule) (row : RuleRow) (left more all : List RuleRow)
    → map (λ (r : Rule). r.row) rules ++ left ≡ all → left ≡ row ∷ more → rule.row ≡ row
    → map (λ (r : Rule). r.row) (rules ++ rule ∷ []) ++ more ≡ all
rows_more rules rule row left more all so_far next same =
    let front = map_push (λ (r : Rule). r.row) rules rule in
    let compiled = map (λ (r : Rule). r.row) rules in
    ap (λ (rows : List RuleRow). rows ++ more) front ∙ append_assoc compiled (rule.row ∷ []) more
    ∙ ap (λ (r : RuleRow). compiled ++ r ∷ more) same ∙ ap (λ (rows : List RuleRow). compiled ++ rows) (sym next) ∙ so_far

-- where it stands, what is left of it says
pub stand_more : (last : Option ℕ) (row : RuleRow) (left more all : List RuleRow)
    → (AllStand last left → AllStand None all) → left ≡ row ∷ more → Stands last row
    → AllStand (Some row.rule_id) more → AllStand None all
stand_more last row left more all before next stands rest = before (rw next (stands, rest))

pub first_more : (last : Option ℕ) (row : RuleRow) (left more all : List RuleRow)
    → ((fault : RuleFault) → IsFirstOf last left fault → IsFirstOf None all fault) → left ≡ row ∷ more → Stands last row
    → (fault : RuleFault) → IsFirstOf (Some row.rule_id) more fault → IsFirstOf None all fault
first_more last row left more all before next stands fault rest = before fault (rw next (inr (stands, rest)))

-- the row before it has its id, or another
pub is_repeated : (last : Option ℕ) (id : ℕ) → option_eq nat_eq last (Some id) ≡ true → last ≡ Some id
is_repeated None id h = absurd (cc)
is_repeated (Some n) id h = ap Some (grind (arith, nat_tests, h))

pub is_new : (last : Option ℕ) (id : ℕ) → option_eq nat_eq last (Some id) ≡ false → last ≡ Some id → ⊥
is_new last id test same =
    let own : nat_eq id id ≡ false = rw same at test in
    let is : nat_eq id id ≡ true = eq-eqb id id refl in
    absurd (cc)
