use Rattle.shared_core.specs.Stands.{tables}
use Rattle.std.proofs.lemmas.Result.{on_ok_weaker}
use Rattle.shared_core.proofs.Clients.{on_both}
use Rattle.shared_core.proofs.Keeping.{but_moves, keeps_moves}
use Rattle.shared_core.proofs.LinkLosses.{but_chosen_by, chosen_by, ended_loses, held_by, lost_loses, may_lose}
use Rattle.shared_core.proofs.router.Router.server_lost.Goals as goal

pub returns-in-Some-clause-loses : goal.returns-in-Some-clause-loses
returns-in-Some-clause-loses c =
    on_both c.loses_ended.result
    (λ loses keeps there loaded. ended_loses c.args.service.now c.args.link c.args.self.now c.loses_ended.new.self c.loses_ended_router.ensures c.in-Some.client
    (chosen_by c.args.self.now c.loses_ended.new.self c.loses.new.self keeps)
    (loses (held_by c.args.link c.may_give_with-given.result _ c.in-Some.client (tables c.args.self.now) c.in-Some.is c.in_ok-ended.ensures)))
    c.loses_ended.ensures.loses c.loses_ended.ensures.keeps

pub returns-in-Some-clause-moves : goal.returns-in-Some-clause-moves
returns-in-Some-clause-moves c =
    on_ok_weaker c.loses_ended.result
    (λ keeps. keeps_moves c.args.self.now c.loses_ended.new.self (chosen_by c.args.self.now c.loses_ended.new.self c.loses.new.self keeps))
    c.loses_ended.ensures.keeps

pub returns-in-None-clause-loses : goal.returns-in-None-clause-loses
returns-in-None-clause-loses c =
    on_both c.loses_going.result
    (λ loses keeps there. lost_loses c.args.service.now c.args.link c.args.self.now c.loses_going.new.self c.loses_router.ensures
    (but_chosen_by c.args.self.now c.loses_going.new.self c.loses.new.self keeps) c.requires
    (loses (may_lose c.args.link c.carried-name.result c.may_give_with-given.result _ (tables c.args.self.now) c.carried-name.ensures
    c.may_give_with-given.ensures c.in-None.is c.in_ok-ended.ensures there))) c.loses_going.ensures.loses c.loses_going.ensures.keeps

pub returns-in-None-clause-moves : goal.returns-in-None-clause-moves
returns-in-None-clause-moves c =
    on_ok_weaker c.loses_going.result
    (λ keeps. but_moves c.args.self.now c.loses_going.new.self (but_chosen_by c.args.self.now c.loses_going.new.self c.loses.new.self keeps))
    c.loses_going.ensures.keeps
