use Rattle.std.proofs.Common.{arith}
use Rattle.own_words.specs.Own.{BadBytes, BuffersFull, LinkLost, NoConnection, NoLink, ShuttingDown, StepRefused}
use Rattle.core_service.proofs.failure.payload_of.Goals as goal

pub returns-in-LinkLost-clause-own : goal.returns-in-LinkLost-clause-own
returns-in-LinkLost-clause-own c = rw c.in-LinkLost.is LinkLost

pub returns-in-NoConnection-clause-own : goal.returns-in-NoConnection-clause-own
returns-in-NoConnection-clause-own c = rw c.in-NoConnection.is (NoConnection c.in-NoConnection.since_ms c.in-NoConnection.now_ms (omega arith) (omega arith))

pub returns-in-Refused-clause-own : goal.returns-in-Refused-clause-own
returns-in-Refused-clause-own c = rw c.in-Refused.is NoLink

pub returns-in-StepRefused-clause-own : goal.returns-in-StepRefused-clause-own
returns-in-StepRefused-clause-own c = rw c.in-StepRefused.is (StepRefused c.in-StepRefused.code (omega arith))

pub returns-in-BadBytes-clause-own : goal.returns-in-BadBytes-clause-own
returns-in-BadBytes-clause-own c = rw c.in-BadBytes.is (BadBytes c.in-BadBytes.place (omega arith))

pub returns-in-BuffersFull-clause-own : goal.returns-in-BuffersFull-clause-own
returns-in-BuffersFull-clause-own c = rw c.in-BuffersFull.is (BuffersFull c.in-BuffersFull.kept c.in-BuffersFull.announced (omega arith) (omega arith))

pub returns-in-ShuttingDown-clause-own : goal.returns-in-ShuttingDown-clause-own
returns-in-ShuttingDown-clause-own c = rw c.in-ShuttingDown.is ShuttingDown
