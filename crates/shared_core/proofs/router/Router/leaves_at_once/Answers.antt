use Rattle.std.proofs.Common.{refl}
use Rattle.shared_core.proofs.ClientRows.{left_at_once}
use Rattle.shared_core.proofs.Keeping.{keeps_along, keeps_then}
use Rattle.shared_core.proofs.router.Router.leaves_at_once.Goals as goal
use Rattle.shared_core.specs.Stands.{tables}

pub returns-clause-leaves : goal.returns-clause-leaves
returns-clause-leaves c = λ link numbered.
    left_at_once link c.args.client c.in_ok-homes.homes.items (tables c.args.self.now) (tables c.ends.new.self) (tables c.free_all.new.self)
    (tables c.ends-2.new.self) numbered c.requires c.in_ok-homes.ensures c.in_ok-ends.ensures.ends (rw c.as_slice.ensures.value at c.free_all.ensures.is)
    c.in_ok-ends-2.ensures.ends

pub returns-clause-keeps : goal.returns-clause-keeps
returns-clause-keeps c =
    keeps_then c.args.self.now c.ends-2.new.self _ (record { same = refl; asked = refl })
    (keeps_along c.args.self.now c.free_all.new.self c.ends-2.new.self c.in_ok-ends-2.ensures.keeps
    (keeps_along c.args.self.now c.ends.new.self c.free_all.new.self c.free_all.ensures.keeps c.in_ok-ends.ensures.keeps))
