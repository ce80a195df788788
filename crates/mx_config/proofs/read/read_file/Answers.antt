use Rattle.std.proofs.Common.{refl}
use Rattle.std.proofs.lemmas.Result.{err_from_is_err_and}
use Rattle.mx_config.specs.Reading.{config_of}
use Rattle.mx_config.proofs.Steps.{refused_before}
use Rattle.mx_config.proofs.read.read_file.Goals as goal

pub returns-in_err-servers-clause-said : goal.returns-in_err-servers-clause-said
unfolding config_of
returns-in_err-servers-clause-said c =
    let p = err_from_is_err_and c.from_residual-in_err-servers.result c.from_residual-in_err-servers.ensures.1 in
    let only = rw c.whole.ensures at c.in_ok-only.ensures in
    λ is_pattern agrees. rw (p.1, p.2) (rw (only, c.in_ok-proxy.ensures.said, c.in_ok-users.ensures.said)
    (refused_before _ _ _ c.in_err-servers.ensures.said))

pub returns-in_err-rules-clause-said : goal.returns-in_err-rules-clause-said
unfolding config_of
returns-in_err-rules-clause-said c =
    let p = err_from_is_err_and c.from_residual-in_err-rules.result c.from_residual-in_err-rules.ensures.1 in
    let only = rw c.whole.ensures at c.in_ok-only.ensures in
    λ is_pattern agrees. rw (p.1, p.2) (rw (only, c.in_ok-proxy.ensures.said, c.in_ok-users.ensures.said, c.in_ok-servers.ensures.said)
    (refused_before _ _ _ (c.in_err-rules.ensures.said is_pattern agrees)))

pub returns-in_err-whitelist-clause-said : goal.returns-in_err-whitelist-clause-said
unfolding config_of
returns-in_err-whitelist-clause-said c =
    let p = err_from_is_err_and c.from_residual-in_err-whitelist.result c.from_residual-in_err-whitelist.ensures.1 in
    let only = rw c.whole.ensures at c.in_ok-only.ensures in
    λ is_pattern agrees. rw (p.1, p.2) (rw (
      only,
      c.in_ok-proxy.ensures.said,
      c.in_ok-users.ensures.said,
      c.in_ok-servers.ensures.said,
      c.in_ok-rules.ensures.said is_pattern agrees,
    ) (refused_before _ _ _ c.in_err-whitelist.ensures))

pub returns-clause-said : goal.returns-clause-said
unfolding config_of
returns-clause-said c =
    let only = rw c.whole.ensures at c.in_ok-only.ensures in
    λ is_pattern agrees. rw (
      only,
      c.in_ok-proxy.ensures.said,
      c.in_ok-users.ensures.said,
      c.in_ok-servers.ensures.said,
      c.in_ok-rules.ensures.said is_pattern agrees,
      c.in_ok-whitelist.ensures,
    ) refl
