use Rattle.shared_core.specs.Stands.{tables}
use Rattle.std.proofs.Common.{ap, subst, sym}
use Rattle.shared_core.specs.Wakes.{HasWoken}
use Rattle.shared_core.specs.declared.came.Came.{Came}
use Rattle.shared_core.specs.Follows.{Made, made_by}
use Rattle.shared_core.proofs.Callings.{given_since, have_woken}
use Rattle.shared_core.proofs.Keeping.{but_behind, made_behind}
use Rattle.shared_core.proofs.router.Router.wakes.Goals as goal

pub returns-clause-wakes : goal.returns-clause-wakes
returns-clause-wakes c =
    subst (λ (made : Made). HasWoken c.args.service.now made c.args.now_ms c.args.self.now.came.administrator c.args.roomy (tables c.args.self.now)
    (tables c.follow_all.new.self))
    (sym (made_behind c.args.service.now c.args.self.now c.gives_late.new.self c.follow_all.new.self c.in_ok-gives_late.ensures.keeps))
    (have_woken c.args.service.now c.args.ending.now c.args.self.now.texts (made_by c.args.service.now c.gives_late.new.self c.follow_all.new.self) c.args.now_ms
    c.args.self.now.came.administrator _ c.args.roomy _ c.in_ok-clients.clients.items _ _ _
    (ap (λ (came : Came). came.administrator) c.in_ok-gives_late.ensures.keeps.came)
    (but_behind c.args.self.now c.gives_late.new.self c.follow_all.new.self c.in_ok-follow_all.ensures.keeps c.in_ok-gives_late.ensures.keeps).texts
    (given_since c.args.service.now.wait_ms c.args.now_ms c.args.self.now.came.administrator _ _ _ _ _ _ c.call_all.ensures c.in_ok-gives_late.ensures.gives)
    c.in_ok-clients.ensures
    ((rw c.as_slice.ensures.value at c.in_ok-follow_all.ensures.follow) c.in_ok-clients.ensures.rising c.in_ok-clients.ensures.there))

pub returns-clause-keeps : goal.returns-clause-keeps
returns-clause-keeps c = but_behind _ _ _ c.in_ok-follow_all.ensures.keeps c.in_ok-gives_late.ensures.keeps
