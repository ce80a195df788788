use Rattle.core_laws.proofs.entry.safe.core_is_private.Goals as goal

pub returns : goal.returns
returns c = λ service default log t roomy core setup codes plan tests server of fits tame accepted honest.
    let safe = core.safe setup codes plan of fits in (
      c.safe_is_private.ensures.read setup plan tests server log tame accepted safe honest,
      c.safe_is_private.ensures.written setup plan tests server log tame accepted safe honest,
    )
