use Rattle.handshake.proofs.GreetingAgain.{greeting_of-has}
use Rattle.handshake.proofs.ResponseAgain.{response_of-has}
use Rattle.handshake.proofs.SwitchAgain.{switch_of-has}
use Rattle.handshake.proofs.laws.one_grammar.Goals as goal

pub returns-clause-greeting : goal.returns-clause-greeting
returns-clause-greeting c = greeting_of-has

pub returns-clause-response : goal.returns-clause-response
returns-clause-response c = response_of-has

pub returns-clause-switch : goal.returns-clause-switch
returns-clause-switch c = switch_of-has
