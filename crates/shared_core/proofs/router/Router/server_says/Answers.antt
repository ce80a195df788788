use Rattle.std.proofs.lemmas.Result.{on_ok_weaker}
use Rattle.shared_core.proofs.Clients.{on_both}
use Rattle.shared_core.proofs.Hears.{read_carries}
use Rattle.shared_core.proofs.Keeping.{but_moves, keeps_moves}
use Rattle.shared_core.proofs.router.Router.server_says.Goals as goal

pub returns-clause-carries : goal.returns-clause-carries
returns-clause-carries c =
    on_both c.hears.result
    (λ hears keeps there reads. read_carries c.hears_router.ensures c.args.service.now c.args.link c.args.bytes.now c.args.self.now c.hears.new.self keeps
    c.requires c.hears.ensures.bytes (hears there reads)) c.hears.ensures.hears c.hears.ensures.keeps

pub returns-clause-moves : goal.returns-clause-moves
returns-clause-moves c = on_ok_weaker c.hears.result (λ keeps. but_moves c.args.self.now c.hears.new.self keeps) c.hears.ensures.keeps
