use Rattle.std.proofs.Common.{sym}
use Rattle.std.proofs.lemmas.Bool.{and_parts}
use Rattle.client_desk.proofs.Open.{closed-all, open-found}
use Rattle.client_desk.specs.Desks.{session_of}
use Rattle.client_desk.proofs.desk.Desk.any_transaction.Goals as goal

pub returns-in-Some-clause-in_transaction : goal.returns-in-Some-clause-in_transaction
returns-in-Some-clause-in_transaction c =
    let row = c.in-Some.row.now in
    (and_parts row.pin.tx (session_of c.args.self.now row.hostgroup).pin.tx
    (open-found c.args.self.now c.args.self.now.sessions row (sym c.in-Some.ensures))).1

pub returns-in-None-clause-none : goal.returns-in-None-clause-none
returns-in-None-clause-none c = λ none hostgroup. closed-all c.args.self.now hostgroup (sym c.in-None.ensures)
