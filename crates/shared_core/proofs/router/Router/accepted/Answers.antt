use Rattle.std.specs.Prelude.{◌≡◌, ◌+◌, ◌-◌, ◌^◌, min}
use Rattle.std.proofs.Common.{ap, ◌∙◌}
use Rattle.shared_core.specs.declared.came.Came.{Came}
use Rattle.std.proofs.lemmas.Result.{on_ok_weaker}
use Rattle.shared_core.proofs.Clients.{away_carries, comes_carry, on_both}
use Rattle.shared_core.proofs.router.Router.accepted.Goals as goal

pub returns-then-served-clause-carries : goal.returns-then-served-clause-carries
returns-then-served-clause-carries c =
    let count : c.then-self.result.clients ≡ min (c.args.self.now.came.clients + 1) (2 ^ 64 - 1) = ap (λ (came : Came). came.clients) c.then-self.ensures in
    on_both c.receives.result
    (λ so keeps. comes_carry c.args.service.now c.args.port c.args.link c.args.salt c.args.self.now c.receives.new.self
    (record { 0 = c.then-self.result.clients }) count (keeps.came ∙ c.then-self.ensures) keeps.roomy keeps.texts keeps.work c.comes_router.ensures so) c.receives.ensures.received c.receives.ensures.keeps

pub returns-then-served-clause-moves : goal.returns-then-served-clause-moves
returns-then-served-clause-moves c =
    on_ok_weaker c.receives.result (λ keeps. record { goes = keeps.goes; client = keeps.client; link = keeps.link }) c.receives.ensures.keeps

pub returns-else-served-clause-carries : goal.returns-else-served-clause-carries
returns-else-served-clause-carries c =
    let count : c.then-self.result.clients ≡ min (c.args.self.now.came.clients + 1) (2 ^ 64 - 1) = ap (λ (came : Came). came.clients) c.then-self.ensures in
    on_both c.turns_away.result
    (λ so keeps. away_carries c.args.service.now c.args.port c.args.link c.args.salt c.args.self.now c.turns_away.new.self
    (record { 0 = c.then-self.result.clients }) count (keeps.came ∙ c.then-self.ensures) keeps.roomy keeps.texts keeps.work c.turned_away_router.ensures so) c.turns_away.ensures.received c.turns_away.ensures.keeps

pub returns-else-served-clause-moves : goal.returns-else-served-clause-moves
returns-else-served-clause-moves c =
    on_ok_weaker c.turns_away.result (λ keeps. record { goes = keeps.goes; client = keeps.client; link = keeps.link }) c.turns_away.ensures.keeps
