use Rattle.step_laws.proofs.Sparing.{done_as_before, stays_spared}
use Rattle.step_laws.proofs.spared.untouched_rests.Goals as goal

pub returns : goal.returns
returns c = λ setup plan touched whose old new link spares untouched other.
    done_as_before setup plan old new link (stays_spared setup plan old new touched whose spares link untouched other)
