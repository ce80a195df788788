use Rattle.std.specs.Prelude.{◌≡◌, false, true}
use Rattle.std.proofs.Common.{sym, ◌∙◌}
use Rattle.std.proofs.lemmas.Result.{on_ok_weaker}
use Rattle.core_tables.specs.Tables.{tables_of}
use Rattle.core_turns.proofs.Ups.{answer-so, left-noted}
use Rattle.core_turns.proofs.answering.tell.Goals as goal

pub returns-then-begins_anew-clause-is : goal.returns-then-begins_anew-clause-is
returns-then-begins_anew-clause-is c =
    on_ok_weaker c.begin_anew.result
    (λ taken ruling payloads own said. answer-so true ruling c.args.client c.args.flag c.args.packets.now taken.statements
    payloads (tables_of c.args.marked.now.tables) (tables_of c.begin_anew.new.self.tables) own said
    (λ row there message found. sym c.if-begins_anew.true ∙ c.begins_anew.ensures row there message found)
    (left-noted true c.args.client (tables_of c.args.marked.now.tables) taken.statements taken.noted) taken.same) c.begin_anew.ensures.is

pub returns-else-begins_anew-clause-is : goal.returns-else-begins_anew-clause-is
returns-else-begins_anew-clause-is c =
    on_ok_weaker c.answer.result
    (λ taken ruling payloads own said. answer-so false ruling c.args.client c.args.flag c.args.packets.now taken.statements
    payloads (tables_of c.args.marked.now.tables) (tables_of c.answer.new.self.tables) own said
    (λ row there message found. sym c.if-begins_anew.false ∙ c.begins_anew.ensures row there message found) taken.noted taken.same) c.answer.ensures.is
