use Rattle.shared_core.specs.Follows.{made_by}
use Rattle.std.proofs.Common.{subst}
use Rattle.std.proofs.lemmas.Result.{on_ok_weaker}
use Rattle.shared_core.specs.Stands.{tables}
use Rattle.shared_core.specs.Wakes.{HasWoken}
use Rattle.shared_core.specs.declared.roomy.Roomy.{Roomy}
use Rattle.shared_core.proofs.Callings.{wakes_carries}
use Rattle.shared_core.proofs.Clients.{on_both}
use Rattle.shared_core.proofs.router.Router.woke.Goals as goal

pub returns-clause-carries : goal.returns-clause-carries
returns-clause-carries c =
    on_both c.wakes.result
    (λ woken keeps until_ms. wakes_carries c.wakes_router.ensures c.args.service.now c.args.now_ms c.args.self.now c.wakes.new.self
    (subst (λ (r : Roomy). HasWoken c.args.service.now (made_by c.args.service.now c.args.self.now c.wakes.new.self) c.args.now_ms c.args.self.now.came.administrator r (tables c.args.self.now) (tables c.wakes.new.self)) c.replace-roomy.ensures.value woken) keeps.came
    keeps.texts c.requires until_ms) c.wakes.ensures.wakes c.wakes.ensures.keeps

pub returns-clause-moves : goal.returns-clause-moves
returns-clause-moves c =
    on_ok_weaker c.wakes.result (λ keeps. record { goes = keeps.goes; client = keeps.client; link = keeps.link }) c.wakes.ensures.keeps
