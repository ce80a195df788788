use Rattle.std.proofs.Common.{refl}
use Rattle.mx_config.specs.Reading.{rows_at}
use Rattle.mx_config.proofs.Documents.{count-items_view}
use Rattle.mx_config.proofs.read.table_rows.Goals as goal

pub returns-then-is_few-clause-rows : goal.returns-then-is_few-clause-rows
unfolding rows_at
returns-then-is_few-clause-rows c =
    rw (← c.in-Some.ensures, count-items_view c.in-Some.rows.now.items, ← c.as_slice-rows.ensures.value, ← c.is_few.ensures.test, c.if-is_few.true) refl

pub returns-else-is_few-clause-rows : goal.returns-else-is_few-clause-rows
unfolding rows_at
returns-else-is_few-clause-rows c =
    rw (← c.in-Some.ensures, count-items_view c.in-Some.rows.now.items, ← c.as_slice-rows.ensures.value, ← c.is_few.ensures.test, c.if-is_few.false) c.refusal.ensures
