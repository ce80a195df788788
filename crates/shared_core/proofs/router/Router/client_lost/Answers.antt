use Rattle.std.proofs.lemmas.Result.{on_ok_weaker}
use Rattle.shared_core.proofs.Clients.{again_loses, at_once_loses, going_loses, gone_loses, moves_of, on_both}
use Rattle.shared_core.proofs.Keeping.{but_moves, keeps_still}
use Rattle.shared_core.proofs.router.Router.client_lost.Goals as goal

pub leaves_again-requires : goal.leaves_again-requires
leaves_again-requires c = c.in-Again.ensures

pub leaves_at_once-requires : goal.leaves_at_once-requires
leaves_at_once-requires c = c.in-AtOnce.ensures

pub leaves_going-requires : goal.leaves_going-requires
leaves_going-requires c = c.in-GoingOn.ensures

pub returns-in-Gone-clause-loses : goal.returns-in-Gone-clause-loses
returns-in-Gone-clause-loses c = λ numbered loaded.
    gone_loses c.routers_are_linked.ensures c.args.service.now c.args.link c.args.client c.args.self.now c.args.self.now c.in-Gone.ensures numbered

pub returns-in-Gone-clause-moves : goal.returns-in-Gone-clause-moves
returns-in-Gone-clause-moves c = moves_of c.args.self.now c.args.self.now (keeps_still c.args.self.now)

pub returns-in-Again-clause-loses : goal.returns-in-Again-clause-loses
returns-in-Again-clause-loses c =
    on_both c.leaves_again.result
    (λ so keeps numbered loaded. again_loses c.args.service.now c.args.link c.args.client c.args.self.now c.leaves_again.new.self keeps c.leaves_again_router.ensures
    (so c.args.link numbered)) c.leaves_again.ensures.leaves c.leaves_again.ensures.keeps

pub returns-in-Again-clause-moves : goal.returns-in-Again-clause-moves
returns-in-Again-clause-moves c =
    on_ok_weaker c.leaves_again.result (λ keeps. moves_of c.args.self.now c.leaves_again.new.self keeps) c.leaves_again.ensures.keeps

pub returns-in-AtOnce-clause-loses : goal.returns-in-AtOnce-clause-loses
returns-in-AtOnce-clause-loses c =
    on_both c.leaves_at_once.result
    (λ so keeps numbered loaded. at_once_loses c.args.service.now c.args.link c.args.client c.args.self.now c.leaves_at_once.new.self keeps c.leaves_at_once_router.ensures
    (so c.args.link numbered)) c.leaves_at_once.ensures.leaves c.leaves_at_once.ensures.keeps

pub returns-in-AtOnce-clause-moves : goal.returns-in-AtOnce-clause-moves
returns-in-AtOnce-clause-moves c =
    on_ok_weaker c.leaves_at_once.result (λ keeps. moves_of c.args.self.now c.leaves_at_once.new.self keeps) c.leaves_at_once.ensures.keeps

pub returns-in-GoingOn-clause-loses : goal.returns-in-GoingOn-clause-loses
returns-in-GoingOn-clause-loses c =
    on_both c.leaves_going.result
    (λ so keeps numbered. going_loses c.args.service.now c.args.link c.args.client c.args.self.now c.leaves_going.new.self keeps c.leaves_going_router.ensures c.requires
    (so c.args.link numbered)) c.leaves_going.ensures.leaves c.leaves_going.ensures.keeps

pub returns-in-GoingOn-clause-moves : goal.returns-in-GoingOn-clause-moves
returns-in-GoingOn-clause-moves c =
    on_ok_weaker c.leaves_going.result (λ keeps. but_moves c.args.self.now c.leaves_going.new.self keeps) c.leaves_going.ensures.keeps
