use Rattle.session_vars.proofs.Leading.{difference_leads}
use Rattle.session_vars.proofs.laws.difference_leads.Goals as goal

pub returns : goal.returns
returns c = difference_leads
