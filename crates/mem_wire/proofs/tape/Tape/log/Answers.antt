use Rattle.std.proofs.Common.{◌∙◌, ap, subst}
use Rattle.mem_wire.specs.Play.{IsPlay}
use Rattle.mem_wire.proofs.tape.Tape.log.Goals as goal

pub returns-clause-plays : goal.returns-clause-plays
returns-clause-plays c = λ log is.
    subst (λ v. IsPlay v.recording log) c.self.view_is (c.self.invariant.follows log (ap (λ v. v.told) c.self.view_is ∙ is)).played
