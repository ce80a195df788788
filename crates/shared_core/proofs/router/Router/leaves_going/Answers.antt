use Rattle.shared_core.specs.Clients.{HasLeftGoing}
use Rattle.shared_core.specs.Follows.{Made}
use Rattle.std.proofs.Common.{refl, subst, sym}
use Rattle.core_tables.specs.Tables.{tables_of}
use Rattle.shared_core.proofs.ClientRows.{left_going}
use Rattle.shared_core.proofs.Clients.{keeps_marked}
use Rattle.shared_core.proofs.Keeping.{but_behind, keeps_along, keeps_then, made_behind}
use Rattle.shared_core.proofs.router.Router.leaves_going.Goals as goal
use Rattle.shared_core.specs.Stands.{tables}

pub returns-in_ok-goes_on-clause-leaves : goal.returns-in_ok-goes_on-clause-leaves
returns-in_ok-goes_on-clause-leaves c = λ link numbered.
    subst (λ (made : Made). HasLeftGoing c.args.service.now made link c.args.client (tables c.args.self.now) (tables c.goes_on.new.self))
    (sym (made_behind c.args.service.now c.args.self.now c.free_all.new.self c.goes_on.new.self
    (keeps_along c.args.self.now (record c.args.self.now { marked = c.begin_again.new.self }) c.free_all.new.self c.free_all.ensures.keeps
    (keeps_marked c.args.self.now c.begin_again.new.self c.in_ok-begin_again.ensures.goes))))
    (left_going c.args.service.now _ link c.args.client c.in_ok-homes.homes.items (tables c.args.self.now) (tables_of c.begin_again.new.self.tables)
    (tables c.free_all.new.self) (tables c.goes_on.new.self) numbered c.requires (c.has_lives.ensures c.if-has_lives.true c.requires.row c.requires.there)
    c.in_ok-homes.ensures c.in_ok-begin_again.ensures.is (rw c.as_slice.ensures.value at c.free_all.ensures.is) c.in_ok-goes_on.ensures.goes)

pub returns-in_ok-goes_on-clause-keeps : goal.returns-in_ok-goes_on-clause-keeps
returns-in_ok-goes_on-clause-keeps c =
    but_behind c.args.self.now c.free_all.new.self c.goes_on.new.self c.in_ok-goes_on.ensures.keeps
    (keeps_along c.args.self.now (record c.args.self.now { marked = c.begin_again.new.self }) c.free_all.new.self c.free_all.ensures.keeps
    (keeps_marked c.args.self.now c.begin_again.new.self c.in_ok-begin_again.ensures.goes))
