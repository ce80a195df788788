-- The rules that are staged at first are the configuration's: they are put in one by one, and none is refused.
use Rattle.std.specs.Prelude.{◌≡◌, ◌≤◌, ◌==◌, ◌||◌, ◌+◌, ℕ, suc, Bool, true, false, if◌then◌else◌, nat_le, length, IsPermutation, List, [], ◌∷◌, ◌++◌, Option, Some, None, IsSome}
use Rattle.std.specs.List.{insert}
use Rattle.std.proofs.Common.{refl, sym, ap, ◌∙◌, subst, append-nil, append_assoc, arith, length-append}
use Rattle.std.proofs.lemmas.Bool.{lt-leb}
use Rattle.std.proofs.lemmas.List.Sorted.{IsPermutation-insert, IsPermutation-push_more, IsPermutation-refl, IsPermutation-sym, IsPermutation-trans, length_permutation, list_any-IsPermutation}
use Rattle.std.proofs.lemmas.Option.{same_Some}
use Rattle.mx_base.specs.Steps.{◌>>=◌}
use Rattle.mx_config.specs.Lawful.{AreLawfulRules, EachBehind, IsLawfulRule}
use Rattle.mx_config.specs.RuleRows.{has_rule}
use Rattle.mx_config.specs.declared.config.Config.{Config}
use Rattle.query_rules.specs.Passing.{rows_of, rules_of}
use Rattle.query_rules.specs.declared.row.RuleRow.{RuleRow}
use Rattle.admin_port.specs.Staged.{rule_place, with_rule_row, with_rules}
use Rattle.core_service.specs.Serves.{ServesBy}
use Rattle.core_service.specs.declared.service.Service.{Service}
use Rattle.core_promises.specs.Administers.{AreRulesOf}

-- Each is put in behind those of which none has its number.

placed : (taken many : Bool) (next : List RuleRow) (rows : List RuleRow) → taken ≡ false → many ≡ false
    → ((if taken || many then None else Some next) >>= (λ (staged : List RuleRow). with_rules staged rows)) ≡ with_rules next rows
placed false false next rows free few = refl
placed false true next rows free few = absurd (let no : true ≡ false = few in cc)
placed true many next rows free few = absurd (let no : true ≡ false = free in cc)

-- they are these, in some order
record AreStaged (rows staged : List RuleRow) (made : Option (List RuleRow)) : Type 0 where
  all : List RuleRow
  is : made ≡ Some all
  same : IsPermutation rows all

all_staged : (before staged rows : List RuleRow) → IsPermutation before staged → length (before ++ rows) ≤ 10000 → EachBehind IsLawfulRule before rows
    → AreStaged (before ++ rows) staged (with_rules staged rows)
all_staged before staged [] same few each = record {
  all = staged;
  is = refl;
  same = subst (λ (rows : List RuleRow). IsPermutation rows staged) (sym (append-nil before)) same;
}
all_staged before staged (row ∷ rows) same few each =
    let next : List RuleRow = insert staged (rule_place staged row.rule_id) row in
    let along : (before ++ row ∷ []) ++ rows ≡ before ++ row ∷ rows = append_assoc before (row ∷ []) rows in
    let long : length staged ≡ length before = length_permutation before staged same in
    let all : length (before ++ row ∷ rows) ≡ length before + suc (length rows) = length-append before (row ∷ rows) in
    let free : has_rule staged row.rule_id ≡ false =
    sym (list_any-IsPermutation (λ (other : RuleRow). other.rule_id == row.rule_id) before staged same) ∙ each.0.new in
    let rest : AreStaged ((before ++ row ∷ []) ++ rows) next (with_rules next rows) =
    all_staged (before ++ row ∷ []) next rows
    (IsPermutation-push_more before staged next row same (IsPermutation-insert staged (rule_place staged row.rule_id) row))
    (subst (λ (xs : List RuleRow). length xs ≤ 10000) (sym along) few) each.1 in
    record {
      all = rest.all;
      is = placed (has_rule staged row.rule_id) (nat_le 10000 (length staged)) next rows free (lt-leb 10000 (length staged) (omega (arith, long, all, few))) ∙ rest.is;
      same = subst (λ (xs : List RuleRow). IsPermutation xs rest.all) along rest.same;
    }

configured : (rows : List RuleRow) → AreLawfulRules rows → AreStaged rows [] (with_rules [] rows)
configured rows lawful = all_staged [] [] rows (IsPermutation-refl []) lawful.count lawful.each

pub can_be_staged : (rows : List RuleRow) → AreLawfulRules rows → IsSome (with_rules [] rows)
can_be_staged rows lawful = subst (λ (made : Option (List RuleRow)). IsSome made) (sym (configured rows lawful).is) refl

pub are_staged : (rows staged : List RuleRow) → AreLawfulRules rows → with_rules [] rows ≡ Some staged → IsPermutation rows staged
are_staged rows staged lawful is =
    let made = configured rows lawful in
    subst (IsPermutation rows) (same_Some made.all staged (sym made.is ∙ is)) made.same

-- So the rules in force are made of them.
pub rules_staged : (config : Config) (service : Service) (staged : List RuleRow) → ServesBy config service → IsPermutation config.rules staged
    → AreRulesOf staged (rules_of service.configured)
rules_staged config service staged serves same = record {
  ordered = record {
    same = IsPermutation-trans staged config.rules (rows_of service.configured) (IsPermutation-sym config.rules staged same) serves.rules.same;
    ascending = serves.rules.ascending;
  };
  compiled = serves.patterns;
}
