use Rattle.std.proofs.Common.{sym}
use Rattle.std.proofs.lemmas.Result.{on_ok_weaker}
use Rattle.shared_core.proofs.Clients.{moves_of, none_read, on_both, speaks_carry}
use Rattle.shared_core.proofs.Keeping.{but_moves, keeps_still}
use Rattle.shared_core.proofs.router.Router.client_says.Goals as goal

pub returns-in-Some-clause-carries : goal.returns-in-Some-clause-carries
returns-in-Some-clause-carries c =
    on_both c.speaks.result
    (λ spoken keeps aside reads. speaks_carry c.args.service.now c.args.link c.args.bytes.now c.in-Some.client c.args.self.now c.speaks.new.self c.speaks_router.ensures
    aside (sym c.in-Some.ensures) keeps c.requires spoken reads) c.speaks.ensures.spoken c.speaks.ensures.keeps

pub returns-in-Some-clause-moves : goal.returns-in-Some-clause-moves
returns-in-Some-clause-moves c =
    on_ok_weaker c.speaks.result (λ keeps. but_moves c.args.self.now c.speaks.new.self keeps) c.speaks.ensures.keeps

pub returns-in-None-clause-carries : goal.returns-in-None-clause-carries
returns-in-None-clause-carries c = λ aside reads. absurd (none_read c.args.link c.args.self.now aside (sym c.in-None.ensures) reads)

pub returns-in-None-clause-moves : goal.returns-in-None-clause-moves
returns-in-None-clause-moves c = moves_of c.args.self.now c.args.self.now (keeps_still c.args.self.now)
