use Rattle.std.proofs.lemmas.Result.{on_ok_weaker}
use Rattle.shared_core.proofs.Callings.{fails_carries}
use Rattle.shared_core.proofs.Clients.{on_both}
use Rattle.shared_core.proofs.router.Router.open_failed.Goals as goal

pub returns-clause-carries : goal.returns-clause-carries
returns-clause-carries c =
    on_both c.fails.result
    (λ failed keeps address. fails_carries c.fails_router.ensures c.args.service.now c.args.server c.args.self.now c.fails.new.self failed keeps.roomy
    keeps.came keeps.texts c.requires address) c.fails.ensures.fails c.fails.ensures.keeps

pub returns-clause-moves : goal.returns-clause-moves
returns-clause-moves c =
    on_ok_weaker c.fails.result (λ keeps. record { goes = keeps.goes; client = keeps.client; link = keeps.link }) c.fails.ensures.keeps
