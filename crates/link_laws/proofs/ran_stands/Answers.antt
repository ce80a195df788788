use Rattle.link_laws.proofs.Keeps.{ran_at}
use Rattle.link_laws.proofs.ran_stands.Goals as goal

pub returns : goal.returns
returns c = λ reads codes state link stands. ran_at reads codes state link stands state.stage link.stage stands.stage
