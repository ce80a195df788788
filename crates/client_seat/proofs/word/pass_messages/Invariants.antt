use Rattle.std.proofs.Common.{◌≡◌, length}
use Rattle.client_seat.specs.Words.{behind_messages}
use Rattle.client_seat.proofs.word.pass_messages.Given as goal

abbrev pub invariant-passing : goal.invariant-passing
invariant-passing l = behind_messages l.client ≡ behind_messages l.fn.client

abbrev pub decreases-passing : goal.decreases-passing
decreases-passing l = length l.client.framer.kept
