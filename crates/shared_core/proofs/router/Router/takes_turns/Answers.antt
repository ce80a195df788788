use Rattle.shared_core.proofs.Keeping.{but_then, chosen_keeps, keeps_then}
use Rattle.shared_core.proofs.Goings.{went_chosen}
use Rattle.shared_core.proofs.router.Router.takes_turns.Goals as goal

pub returns-clause-is : goal.returns-clause-is
returns-clause-is c =
    went_chosen c.args.service.now c.args.client c.in_ok-went.went c.args.self.now c.takes_up.new.self c.took.new.self c.in_ok-took.ensures
    c.in_ok-went.ensures.is

pub returns-clause-keeps : goal.returns-clause-keeps
returns-clause-keeps c = but_then _ _ _ (chosen_keeps _ _ c.in_ok-took.ensures) c.in_ok-went.ensures.keeps
