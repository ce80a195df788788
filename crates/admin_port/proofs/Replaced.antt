-- A row in place of another, and the other put back.
use Rattle.std.proofs.Common.{◌≡◌, ◌<◌, ◌∙◌, ℕ, Bool, List, Option, Some, ap, get_or, length, set, subst, sym}
use Rattle.std.proofs.lemmas.List.{set-get_or, set-set}
use Rattle.std.proofs.lemmas.Option.{slice_get-get_or}
use Rattle.hostgroups.specs.declared.row.ServerRow.{ServerRow}
use Rattle.mx_base.specs.Steps.{◌>>=◌}
use Rattle.query_rules.specs.declared.row.RuleRow.{RuleRow}
use Rattle.std.specs.Prelude.{option_map}
use Rattle.admin_port.specs.Faults.{Refuses}
use Rattle.admin_port.specs.Staged.{rule_set, rule_set_at, server_set, server_set_at, settled}
use Rattle.admin_port.specs.declared.fault.Fault.{Fault}
use Rattle.admin_port.specs.declared.pair.Pair.{Pair}

pub put_back : (rows : List ServerRow) (at : ℕ) (new old : ServerRow) → old ≡ get_or rows at old → set (set rows at new) at old ≡ rows
put_back rows at new old is = set-set rows at new old ∙ ap (set rows at) is ∙ set-get_or rows at old

-- where the rows with the new one aren't a table, the statement is refused
pub refused_at : (patterned : Bool) (rows put : List ServerRow) (pairs : List Pair) (at : ℕ) (old new : ServerRow) (fault : Fault) → at < length rows → old ≡ get_or rows at old
    → server_set patterned old pairs ≡ Some new → put ≡ set rows at new → Refuses fault (settled put) → Refuses fault (server_set_at patterned rows pairs at)
refused_at patterned rows put pairs at old new fault less is made same refused =
    subst (λ (found : Option ServerRow). Refuses fault (found >>= (λ row. server_set patterned row pairs >>= (λ next. settled (set rows at next)))))
    (sym (slice_get-get_or rows at old less ∙ ap (λ (row : ServerRow). Some row) (sym is)))
    (subst (λ (found : Option ServerRow). Refuses fault (found >>= (λ next. settled (set rows at next)))) (sym made)
    (subst (λ (all : List ServerRow). Refuses fault (settled all)) same refused))

pub rule_set_in : (patterned : Bool) (rows : List RuleRow) (pairs : List Pair) (at : ℕ) (old new : RuleRow) → at < length rows → old ≡ get_or rows at old
    → rule_set patterned old pairs ≡ Some new → rule_set_at patterned rows pairs at ≡ Some (set rows at new)
rule_set_in patterned rows pairs at old new less is made =
    ap (λ (found : Option RuleRow). found >>= (λ row. option_map (set rows at) (rule_set patterned row pairs)))
    (slice_get-get_or rows at old less ∙ ap (λ (row : RuleRow). Some row) (sym is))
    ∙ ap (λ (next : Option RuleRow). option_map (set rows at) next) made
