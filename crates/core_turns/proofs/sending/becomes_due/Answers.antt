use Rattle.std.specs.Prelude.{ℕ, List, Option}
use Rattle.std.proofs.Common.{subst}
use Rattle.core_tables.specs.Tables.{tables_of}
use Rattle.core_tables.specs.Taking.{IsDue, text_work}
use Rattle.core_turns.proofs.Ups.{due-there}
use Rattle.core_turns.proofs.sending.becomes_due.Goals as goal

pub returns-then-is_due-clause-is : goal.returns-then-is_due-clause-is
returns-then-is_due-clause-is c = λ ruling nothing.
    due-there ruling nothing c.args.hostgroup c.args.ordinal c.args.flag c.args.clock c.args.text c.args.multiplex c.args.form c.args.client (tables_of c.args.marked.now.tables)
    (tables_of c.due.new.self.tables) c.requires.sendable
    (subst (λ (text : Option (List ℕ)). IsDue c.args.flag text (text_work c.args.ordinal c.args.hostgroup c.args.clock c.args.multiplex c.args.form) c.args.client
    (tables_of c.args.marked.now.tables) (tables_of c.due.new.self.tables)) c.text_of-text.ensures (c.in_ok-is_due.ensures.is c.if-is_due.true))
