use Rattle.session_vars.proofs.First.{other_statement, set_statement}
use Rattle.session_vars.proofs.laws.first_word_decides.Goals as goal

pub returns : goal.returns
returns c = record { other = other_statement; set = set_statement }
