use Rattle.std.specs.Prelude.{IfOk, List}
use Rattle.std.proofs.Common.{subst, sym}
use Rattle.admin_port.specs.Answers.{reply_of}
use Rattle.admin_port.specs.Answers.Reply.{Loads}
use Rattle.admin_port.specs.declared.statement.StagedTable.{StagedTable}
use Rattle.query_rules.specs.declared.rule.Rule.{Rule}
use Rattle.core_turns.specs.Administering.{CarriesOut}
use Rattle.core_turns.proofs.administering.load.Goals as goal

pub returns-in-Servers-clause-done : goal.returns-in-Servers-clause-done
returns-in-Servers-clause-done c =
    subst (λ (table : StagedTable). IfOk c.load_servers.result (λ answer. (force : List Rule) → CarriesOut (Loads table) (reply_of answer) force c.args.admin.now
    c.load_servers.new.admin)) (sym c.in-Servers.is) c.load_servers.ensures.done

pub returns-in-Rules-clause-done : goal.returns-in-Rules-clause-done
returns-in-Rules-clause-done c =
    subst (λ (table : StagedTable). IfOk c.load_rules.result (λ answer. (force : List Rule) → CarriesOut (Loads table) (reply_of answer) force c.args.admin.now
    c.load_rules.new.admin)) (sym c.in-Rules.is) c.load_rules.ensures.done
