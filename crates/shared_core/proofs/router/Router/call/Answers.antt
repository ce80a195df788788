use Rattle.std.proofs.Common.{refl}
use Rattle.shared_core.specs.Follows.{made_by}
use Rattle.shared_core.specs.Stands.{tables}
use Rattle.shared_core.proofs.Givings.{nobody-called, one-called}
use Rattle.shared_core.proofs.router.Router.call.Goals as goal

pub returns-in_ok-follow-in-Some-clause-calls : goal.returns-in_ok-follow-in-Some-clause-calls
returns-in_ok-follow-in-Some-clause-calls c = λ told same for.
    one-called c.args.service.now _ c.args.name c.args.given told (tables c.args.self.now) (tables c.follow.new.self) c.in-Some.client _ c.is_last-last.ensures
    c.in-Some.ensures c.in_ok-follow-in-Some.ensures.follows same for

pub returns-in-None-clause-calls : goal.returns-in-None-clause-calls
returns-in-None-clause-calls c = λ told same for.
    nobody-called c.args.service.now (made_by c.args.service.now c.args.self.now c.args.self.now) refl c.args.name c.args.given told (tables c.args.self.now) c.in-None.ensures same for
