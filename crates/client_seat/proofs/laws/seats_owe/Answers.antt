use Rattle.client_seat.proofs.Answering.{answers-due}
use Rattle.client_seat.proofs.Keeping.{due-stays, more-due, written}
use Rattle.client_seat.proofs.laws.seats_owe.Goals as goal

pub returns-clause-written : goal.returns-clause-written
returns-clause-written c = written

pub returns-clause-more : goal.returns-clause-more
returns-clause-more c = more-due

pub returns-clause-taken : goal.returns-clause-taken
returns-clause-taken c = due-stays

pub returns-clause-answered : goal.returns-clause-answered
returns-clause-answered c = answers-due
