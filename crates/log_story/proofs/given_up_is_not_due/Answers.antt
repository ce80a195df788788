use Rattle.std.specs.Prelude.{not, nat_eq, is_some, if◌then◌else◌, Some, None}
use Rattle.std.proofs.Common.{ap}
use Rattle.std.proofs.lemmas.Bool.{and_right}
use Rattle.log_story.proofs.given_up_is_not_due.Goals as goal

pub returns : goal.returns
returns c = λ plan moment ordinal n due answer is.
    ap (λ b. if b then Some due else None) (and_right (nat_eq due.ordinal ordinal) _ (ap (λ o. not (is_some o)) is))
