use Rattle.shared_core.proofs.Goings.{gone-kept, gone-more, have-followed}
use Rattle.shared_core.proofs.Keeping.{but_then, keeps_along}
use Rattle.shared_core.proofs.router.Router.follow_all.Goals as goal

pub returns-clause-follow : goal.returns-clause-follow
returns-clause-follow c = λ rising there.
    have-followed c.args.service.now _ _ c.args.clients.now _ _ _ _ c.in_ok-homes.ensures
    (gone-kept c.args.service.now c.args.self.now c.all_go_on.new.self c.free_all.new.self c.free_all.ensures.keeps _ c.args.clients.now _ _ (c.in_ok-all_go_on.ensures.go rising there))
    (rw c.as_slice.ensures.value at c.free_all.ensures.is) rising there

pub returns-clause-keeps : goal.returns-clause-keeps
returns-clause-keeps c = but_then _ _ _ c.free_all.ensures.keeps c.in_ok-all_go_on.ensures.keeps
