-- What changes one of the staged tables changes what is staged.
use Rattle.std.proofs.Common.{List, Option, Result}
use Rattle.hostgroups.specs.declared.row.ServerRow.{ServerRow}
use Rattle.query_rules.specs.declared.row.RuleRow.{RuleRow}
use Rattle.admin_port.specs.Faults.{Changes}
use Rattle.admin_port.specs.Staged.{StagedRows, rules_to, servers_to}
use Rattle.admin_port.specs.declared.fault.Fault.{Fault}
use Rattle.admin_port.proofs.Steps.{changed_within}

pub servers_change : (result : Result (Unit {0}) Fault) (s : StagedRows) (new : List ServerRow) (said : Option (List ServerRow))
    → Changes result s.servers new said → Changes result s (record s { servers = new }) (servers_to s said)
servers_change result s new said h = changed_within result s.servers new said (λ servers. record s { servers = servers }) h

pub rules_change : (result : Result (Unit {0}) Fault) (s : StagedRows) (new : List RuleRow) (said : Option (List RuleRow))
    → Changes result s.rules new said → Changes result s (record s { rules = new }) (rules_to s said)
rules_change result s new said h = changed_within result s.rules new said (λ rules. record s { rules = rules }) h

pub ruleset tables = (servers_change, rules_change)
