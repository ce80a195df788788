use Rattle.std.proofs.Common.{subst, sym}
use Rattle.std.proofs.lemmas.Result.{on_ok_weaker}
use Rattle.core_tables.specs.Tables.{tables_of}
use Rattle.core_turns.specs.declared.turn.Stop.{Stop}
use Rattle.core_turns.proofs.Partings.{LeavesBy, leaves-so}
use Rattle.core_turns.proofs.Turning.{still-same}
use Rattle.core_turns.proofs.leaving.leave.Goals as goal

pub returns-in-Waits-clause-is : goal.returns-in-Waits-clause-is
returns-in-Waits-clause-is c = λ ruling setup default choices before is.
    leaves-so setup default c.args.client ruling c.args.stop choices before (tables_of c.args.marked.now.tables) (tables_of c.args.marked.now.tables)
    (subst (λ (s : Stop). LeavesBy s c.args.client (tables_of c.args.marked.now.tables) (tables_of c.args.marked.now.tables)) (sym c.in-Waits.is)
    (still-same (tables_of c.args.marked.now.tables))) is

pub returns-in-Rests-clause-is : goal.returns-in-Rests-clause-is
returns-in-Rests-clause-is c = λ ruling setup default choices before is.
    leaves-so setup default c.args.client ruling c.args.stop choices before (tables_of c.args.marked.now.tables) (tables_of c.args.marked.now.tables)
    (subst (λ (s : Stop). LeavesBy s c.args.client (tables_of c.args.marked.now.tables) (tables_of c.args.marked.now.tables)) (sym c.in-Rests.is)
    (still-same (tables_of c.args.marked.now.tables))) is

pub returns-in-Ends-clause-is : goal.returns-in-Ends-clause-is
returns-in-Ends-clause-is c = λ ruling setup default choices before is.
    leaves-so setup default c.args.client ruling c.args.stop choices before (tables_of c.args.marked.now.tables) (tables_of c.end.new.self.tables)
    (subst (λ (s : Stop). LeavesBy s c.args.client (tables_of c.args.marked.now.tables) (tables_of c.end.new.self.tables)) (sym c.in-Ends.is)
    c.end.ensures.is) is

pub returns-in-Quits-clause-is : goal.returns-in-Quits-clause-is
returns-in-Quits-clause-is c = on_ok_weaker c.quit.result
    (λ quits ruling setup default choices before is. leaves-so setup default c.args.client ruling c.args.stop choices before (tables_of c.args.marked.now.tables)
    (tables_of c.quit.new.self.tables)
    (subst (λ (s : Stop). LeavesBy s c.args.client (tables_of c.args.marked.now.tables) (tables_of c.quit.new.self.tables)) (sym c.in-Quits.is)
    quits) is) c.quit.ensures.is
