use Rattle.std.proofs.lemmas.Result.{err_from_is_err_and}
use Rattle.mx_config.specs.Lists.{list_row}
use Rattle.mx_config.proofs.Steps.{refused_before}
use Rattle.mx_config.proofs.lists.read_list_row.Goals as goal

pub returns-in_err-row : goal.returns-in_err-row
unfolding list_row
returns-in_err-row c =
    let p = err_from_is_err_and c.from_residual.result c.from_residual.ensures.1 in
    rw (p.1, p.2) (refused_before _ _ _ c.in_err-row.ensures)

pub returns : goal.returns
unfolding list_row
returns c = rw (c.in_ok-row.ensures.1, ← c.in_ok-row.ensures.0) c.read_list.ensures
