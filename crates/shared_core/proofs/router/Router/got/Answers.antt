use Rattle.std.proofs.Common.{◌∙◌, sym}
use Rattle.std.proofs.lemmas.Result.{on_ok_weaker}
use Rattle.shared_core.proofs.Machining.{copied_none, copied_some}
use Rattle.shared_core.proofs.router.Router.got.Goals as goal

pub returns-then-is_some-clause-carries : goal.returns-then-is_some-clause-carries
returns-then-is_some-clause-carries c =
    on_ok_weaker c.server_says.result (λ carries. carries (copied_some c.server.result _ c.server.ensures (sym c.is_some.ensures ∙ c.if-is_some.true)))
    c.server_says.ensures.carries

pub returns-else-is_some-clause-carries : goal.returns-else-is_some-clause-carries
returns-else-is_some-clause-carries c =
    on_ok_weaker c.client_says.result (λ carries. carries (copied_none c.server.result _ c.server.ensures (sym c.is_some.ensures ∙ c.if-is_some.false)))
    c.client_says.ensures.carries
