use Rattle.packet_frame.specs.SpellingLaws.{first_message-spelled}
use Rattle.packet_frame.specs.RoundTrip.{first_message-again}
use Rattle.packet_frame.proofs.laws.one_spelling.Goals as goal

pub returns-clause-again : goal.returns-clause-again
returns-clause-again c = first_message-again

pub returns-clause-only : goal.returns-clause-only
returns-clause-only c = first_message-spelled
