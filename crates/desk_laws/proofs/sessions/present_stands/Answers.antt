use Rattle.desk_laws.proofs.Changed.{present_held_so, present_lasting_so, present_name_so}
use Rattle.desk_laws.proofs.sessions.present_stands.Goals as goal

pub returns-clause-name : goal.returns-clause-name
returns-clause-name c = present_name_so

pub returns-clause-held : goal.returns-clause-held
returns-clause-held c = present_held_so

pub returns-clause-lasting : goal.returns-clause-lasting
returns-clause-lasting c = present_lasting_so
