-- A pass over the rules.
use Rattle.std.specs.Prelude.{not, if◌then◌else◌, List, [], ◌∷◌, map, None, unwrap_or}
use Rattle.mx_base.specs.declared.names.Hostgroup.{Hostgroup}
use Rattle.query_rules.specs.declared.ask.Ask.{Ask}
use Rattle.query_rules.specs.declared.ask.Routed.{Routed}
use Rattle.query_rules.specs.declared.pass.Pass.{Pass}
use Rattle.query_rules.specs.declared.row.RuleRow.{RuleRow}
use Rattle.query_rules.specs.declared.rule.Rule.{Rule}
use Rattle.query_rules.specs.declared.rules.Rules.{Rules}
use Rattle.query_rules.specs.Conditions.{fires}
use Rattle.query_rules.specs.Effects.{after, is_last}

-- the rules of a table, in order of rule_id
abbrev pub rules_of : Rules → List Rule
rules_of rules = rules.rules

abbrev pub rows_of : Rules → List RuleRow
rows_of rules = map (λ (rule : Rule). rule.row) rules.rules

-- a pass begins with the session's flag and the text as received
abbrev pub beginning : Ask → Pass
beginning ask = record { flag = ask.flag; text = ask.text; hostgroup = None; next_flag = None; multiplex = None; stop = None }

-- it goes once over the rules in order, past those that don't fire, and up to the first that fires and ends it
abbrev pub passed : Ask → List Rule → Pass → Pass
passed ask [] pass = pass
passed ask (rule ∷ rules) pass =
    if not (fires rule ask pass) then passed ask rules pass
    else if is_last rule then after rule pass
    else passed ask rules (after rule pass)

-- what it says at its end
abbrev pub routed : (default_hostgroup : Hostgroup) → Pass → Routed
routed default_hostgroup pass = record {
  hostgroup = unwrap_or pass.hostgroup default_hostgroup;
  text = pass.text;
  next_flag = pass.next_flag;
  multiplex = pass.multiplex;
  stop = pass.stop;
}

-- what rules, in order of rule_id, say of a text
abbrev pub route_of : List Rule → Ask → Routed
route_of rules ask = routed ask.default_hostgroup (passed ask rules (beginning ask))
