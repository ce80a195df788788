-- The rules by which messages are judged.
use Rattle.std.specs.Prelude.{nat_le, if◌then◌else◌, List}
use Rattle.query_rules.specs.declared.rule.Rule.{Rule}
use Rattle.private_model.specs.Names.{MessageName}
use Rattle.router_laws.specs.decisions.Deeds.{Counts}

-- behind an entry: what was taken up before it by the rules of then, and all else by those in force
abbrev pub rules_then : Counts → (rules : MessageName → List Rule) → (now : List Rule) → MessageName → List Rule
rules_then n rules now m = if nat_le m.ordinal (n.taken m.client) then rules m else now
