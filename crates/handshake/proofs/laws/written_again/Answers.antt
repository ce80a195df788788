use Rattle.handshake.proofs.GreetingAgain.{greeting_bytes-has}
use Rattle.handshake.proofs.ResponseAgain.{response_bytes-has}
use Rattle.handshake.proofs.SwitchAgain.{switch_bytes-has}
use Rattle.handshake.proofs.laws.written_again.Goals as goal

pub returns-clause-greeting : goal.returns-clause-greeting
returns-clause-greeting c = greeting_bytes-has

pub returns-clause-response : goal.returns-clause-response
returns-clause-response c = response_bytes-has

pub returns-clause-switch : goal.returns-clause-switch
returns-clause-switch c = switch_bytes-has
