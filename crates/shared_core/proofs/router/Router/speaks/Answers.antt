use Rattle.shared_core.specs.Follows.{made_by}
use Rattle.std.proofs.lemmas.Result.{on_ok_weaker}
use Rattle.core_tables.specs.Tables.{tables_of}
use Rattle.shared_core.proofs.ClientRows.{not_there, spoken}
use Rattle.shared_core.proofs.Clients.{keeps_marked}
use Rattle.shared_core.proofs.Keeping.{but_behind, keeps_along, keeps_but, keeps_still}
use Rattle.shared_core.proofs.router.Router.speaks.Goals as goal
use Rattle.shared_core.specs.Stands.{tables}

pub returns-in_ok-client_says-clause-spoken : goal.returns-in_ok-client_says-clause-spoken
returns-in_ok-client_says-clause-spoken c =
    on_ok_weaker c.follow.result
    (λ follows. spoken c.args.service.now (made_by c.args.service.now c.args.self.now c.follow.new.self) c.args.link c.args.bytes.now c.args.client (tables c.args.self.now) (tables_of c.client_says.new.self.tables)
    (tables c.follow.new.self) c.in_ok-client_says.ensures.is follows) c.follow.ensures.follows

pub returns-in_ok-client_says-clause-keeps : goal.returns-in_ok-client_says-clause-keeps
returns-in_ok-client_says-clause-keeps c =
    on_ok_weaker c.follow.result
    (λ keeps. but_behind c.args.self.now (record c.args.self.now { marked = c.client_says.new.self }) c.follow.new.self keeps
    (keeps_marked c.args.self.now c.client_says.new.self c.in_ok-client_says.ensures.goes)) c.follow.ensures.keeps

pub returns-else-is_there-clause-spoken : goal.returns-else-is_there-clause-spoken
returns-else-is_there-clause-spoken c = λ row its going.
    absurd (not_there c.args.client row (tables c.args.self.now) c.is_there.result c.is_there.ensures c.if-is_there.false its.there going)

pub returns-else-is_there-clause-keeps : goal.returns-else-is_there-clause-keeps
returns-else-is_there-clause-keeps c = keeps_but _ _ (keeps_still c.args.self.now)
