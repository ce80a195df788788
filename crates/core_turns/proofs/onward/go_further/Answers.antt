use Rattle.std.proofs.Common.{subst}
use Rattle.core_tables.specs.Tables.{tables_of}
use Rattle.core_turns.specs.Administering.{ruling_by}
use Rattle.core_turns.specs.Turned.{IsTurned}
use Rattle.core_turns.specs.declared.turn.Turn.{Turn}
use Rattle.core_turns.proofs.Turning.{answered-choice, due-choice}
use Rattle.core_turns.proofs.onward.go_further.Goals as goal

pub returns-in-Answered-clause-is : goal.returns-in-Answered-clause-is
returns-in-Answered-clause-is c =
    answered-choice (ruling_by c.args.service.now c.take_there.new.texts c.args.admin.now c.take_there.new.admin) c.args.service.now.setup c.args.service.now.default_schema c.args.client (tables_of c.args.marked.now.tables) (tables_of c.take_there.new.marked.tables)
    (subst (λ (t : Turn). IsTurned t (ruling_by c.args.service.now c.take_there.new.texts c.args.admin.now c.take_there.new.admin) c.args.service.now.setup c.args.service.now.default_schema c.args.client (tables_of c.args.marked.now.tables)
    (tables_of c.take_there.new.marked.tables)) c.in-Answered.is c.in_ok-stop.ensures.is)

pub returns-in-Due-clause-is : goal.returns-in-Due-clause-is
returns-in-Due-clause-is c =
    due-choice (ruling_by c.args.service.now c.take_there.new.texts c.args.admin.now c.take_there.new.admin) c.args.service.now.setup c.args.service.now.default_schema c.args.client (tables_of c.args.marked.now.tables)
    (tables_of c.take_there.new.marked.tables) c.in-Due.hostgroup
    (subst (λ (t : Turn). IsTurned t (ruling_by c.args.service.now c.take_there.new.texts c.args.admin.now c.take_there.new.admin) c.args.service.now.setup c.args.service.now.default_schema c.args.client (tables_of c.args.marked.now.tables)
    (tables_of c.take_there.new.marked.tables)) c.in-Due.is c.in_ok-stop.ensures.is)
