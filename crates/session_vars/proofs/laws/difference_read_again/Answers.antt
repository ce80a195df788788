use Rattle.session_vars.proofs.BothLead.{both_lead}
use Rattle.session_vars.proofs.ReadAgain.{names_read_again, session_read_again}
use Rattle.session_vars.proofs.laws.difference_read_again.Goals as goal

pub returns : goal.returns
returns c = record { names = names_read_again; session = session_read_again; leads = both_lead }
