use Rattle.core_promises.specs.Wrong.{book_up, user_of}
use Rattle.core_promises.proofs.Texts.{sent-so, stood}
use Rattle.core_promises.proofs.Verdicts.{goes-not}
use Rattle.core_promises.proofs.judging.sends_another_command.Goals as goal

pub returns : goal.returns
returns c = λ terms payload route sends other.
    goes-not (book_up sends.up).rules (user_of sends.up) (stood terms payload sends.up).place.schema payload route.text (sent-so terms payload route sends) other
