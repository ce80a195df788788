use Rattle.desk_laws.proofs.Working.{back_so, formless_so, without_so}
use Rattle.desk_laws.proofs.works.taken_stands.Goals as goal

pub returns-clause-form : goal.returns-clause-form
returns-clause-form c = formless_so

pub returns-clause-packets : goal.returns-clause-packets
returns-clause-packets c = without_so

pub returns-clause-back : goal.returns-clause-back
returns-clause-back c = back_so
