use Rattle.std.specs.Prelude.{false}
use Rattle.std.proofs.Common.{refl}
use Rattle.std.proofs.lemmas.Result.{on_ok_weaker}
use Rattle.core_laws.specs.clients.Turns.{Rests}
use Rattle.shared_core.specs.Follows.{IsRested}
use Rattle.shared_core.specs.Stands.{tables}
use Rattle.shared_core.specs.Telling.{HasLeftTold, RestsThere}
use Rattle.shared_core.proofs.Goings.{stays-off}
use Rattle.shared_core.proofs.Last.{told-parts}
use Rattle.shared_core.proofs.router.Router.tells_last.Goals as goal

pub returns-in-Some-clause-parts : goal.returns-in-Some-clause-parts
returns-in-Some-clause-parts c = on_ok_weaker c.says_last.result
    (λ (told : RestsThere c.in-Some.who c.args.client (tables c.args.self.now) → IsRested c.args.client (tables c.args.self.now)
    → HasLeftTold c.args.client c.args.why (tables c.args.self.now) (tables c.says_last.new.self)). λ budget full rested.
    told-parts budget c.args.client c.args.why (tables c.args.self.now) (tables c.says_last.new.self) full (told c.in-Some.ensures rested))
    c.says_last.ensures.told

pub returns-in-None-clause-parts : goal.returns-in-None-clause-parts
returns-in-None-clause-parts c = λ budget full rested. stays-off budget c.args.client false Rests (tables c.args.self.now) refl
