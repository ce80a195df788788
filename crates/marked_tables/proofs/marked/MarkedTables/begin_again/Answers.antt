use Rattle.std.proofs.Common.{refl}
use Rattle.std.proofs.lemmas.Result.{on_ok_weaker}
use Rattle.core_tables.specs.Tables.{tables_of}
use Rattle.client_seat.specs.Takings.{begun_anew}
use Rattle.marked_tables.proofs.Calls.{begun_again, left_goes}
use Rattle.marked_tables.proofs.marked.MarkedTables.begin_again.Goals as goal

pub returns-clause-is : goal.returns-clause-is
returns-clause-is c = on_ok_weaker c.begin_seat.result
    (λ is. begun_again (tables_of c.args.self.now.tables) (tables_of c.leave.new.self) _ c.args.client begun_anew c.leave.ensures is) c.begin_seat.ensures

pub returns-clause-goes : goal.returns-clause-goes
returns-clause-goes c = on_ok_weaker c.begin_seat.result
    (λ is. left_goes c.args.self.now c.begin_seat.new.tables c.mark_client.new.marks c.args.client begun_anew c.mark_client.ensures (λ seat. refl)
    (begun_again (tables_of c.args.self.now.tables) (tables_of c.leave.new.self) _ c.args.client begun_anew c.leave.ensures is)) c.begin_seat.ensures
