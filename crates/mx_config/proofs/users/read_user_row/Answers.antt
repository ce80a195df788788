use Rattle.std.proofs.Common.{refl}
use Rattle.std.proofs.lemmas.Result.{err_from_is_err_and}
use Rattle.mx_config.specs.Tables.{user_row}
use Rattle.mx_config.proofs.Steps.{refused_before}
use Rattle.mx_config.proofs.users.read_user_row.Goals as goal

pub returns-in_err-row-clause-said : goal.returns-in_err-row-clause-said
unfolding user_row
returns-in_err-row-clause-said c =
    let p = err_from_is_err_and c.from_residual.result c.from_residual.ensures.1 in
    rw (p.1, p.2) (rw (← c.len.ensures) (refused_before _ _ _ c.in_err-row.ensures))

pub returns-in_err-user-clause-said : goal.returns-in_err-user-clause-said
unfolding user_row
returns-in_err-user-clause-said c =
    let p = err_from_is_err_and c.from_residual-in_err-user.result c.from_residual-in_err-user.ensures.1 in
    rw (p.1, p.2) (rw (← c.len.ensures, c.in_ok-row.ensures.1, ← c.in_ok-row.ensures.0) (refused_before _ _ _ c.in_err-user.ensures.said))

pub returns-in_err-new_user-clause-said : goal.returns-in_err-new_user-clause-said
unfolding user_row
returns-in_err-new_user-clause-said c =
    let p = err_from_is_err_and c.from_residual-in_err-new_user.result c.from_residual-in_err-new_user.ensures.1 in
    rw (p.1, p.2) (rw (← c.len.ensures, c.in_ok-row.ensures.1, ← c.in_ok-row.ensures.0, c.in_ok-user.ensures.said) (refused_before _ _ _ c.in_err-new_user.ensures.said))

pub returns-clause-said : goal.returns-clause-said
unfolding user_row
returns-clause-said c =
    rw (← c.len.ensures, c.in_ok-row.ensures.1, ← c.in_ok-row.ensures.0, c.in_ok-user.ensures.said, c.in_ok-new_user.ensures.said) refl
