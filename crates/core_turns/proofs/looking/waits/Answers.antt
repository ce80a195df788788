use Rattle.std.specs.Prelude.{◌≡◌, Some}
use Rattle.std.proofs.Common.{sym, subst, ◌∙◌}
use Rattle.core_tables.specs.Tables.{tables_of}
use Rattle.core_tables.specs.declared.client.Client.{Client}
use Rattle.core_turns.specs.Turned.{IsLookable}
use Rattle.core_turns.proofs.Able.{able-so}
use Rattle.core_turns.proofs.looking.waits.Goals as goal

pub returns-then-is_able : goal.returns-then-is_able
unfolding tables_of
returns-then-is_able c = λ row there.
    let some : Some c.in-Some.row.now ≡ Some row = c.in-Some.ensures.value ∙ there in
    let same : c.in-Some.row.now ≡ row = cc in
    subst (λ (r : Client). IsLookable c.waits_for_capture.result r) same (record {
      able = able-so c.in-Some.row.now (sym c.is_able.ensures ∙ c.if-is_able.true);
      is = sym c.waits_for_capture.ensures;
    })
