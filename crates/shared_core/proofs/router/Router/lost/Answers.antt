use Rattle.std.proofs.lemmas.Result.{on_ok_weaker}
use Rattle.shared_core.specs.Stands.{tables}
use Rattle.shared_core.proofs.Keeping.{keeps_moves, keeps_still}
use Rattle.shared_core.proofs.LinkLosses.{copied_is, nobodys_loses}
use Rattle.std.proofs.Common.{sym}
use Rattle.shared_core.proofs.router.Router.lost.Goals as goal

pub returns-then-is_some-clause-loses : goal.returns-then-is_some-clause-loses
returns-then-is_some-clause-loses c =
    on_ok_weaker c.server_lost.result
    (λ loses. loses (copied_is _ ((tables c.args.self.now).links c.args.link) _ _ c.server.ensures c.is_some.ensures c.if-is_some.true))
    c.server_lost.ensures.loses

pub returns-in-Some-clause-loses : goal.returns-in-Some-clause-loses
returns-in-Some-clause-loses c =
    on_ok_weaker c.client_lost.result (λ loses. loses (sym c.in-Some.ensures)) c.client_lost.ensures.loses

pub returns-in-None-clause-loses : goal.returns-in-None-clause-loses
returns-in-None-clause-loses c = λ loaded.
    nobodys_loses c.args.service.now c.args.link c.args.self.now
    (copied_is _ ((tables c.args.self.now).links c.args.link) _ _ c.server.ensures c.is_some.ensures c.if-is_some.false) c.in-None.ensures

pub returns-in-None-clause-moves : goal.returns-in-None-clause-moves
returns-in-None-clause-moves c = keeps_moves c.args.self.now c.args.self.now (keeps_still c.args.self.now)
