use Rattle.std.specs.Prelude.{◌∷◌}
use Rattle.log_story.specs.Plan.{com_query}
use Rattle.core_promises.specs.Judges.{IsOpenIn}
use Rattle.core_promises.specs.Wrong.{book_up}
use Rattle.core_promises.proofs.Homing.{stays-alone}
use Rattle.core_promises.proofs.Texts.{as-stood, keys_in, route-for, stood}
use Rattle.core_promises.proofs.judging.leaves_its_transaction.Goals as goal

pub returns : goal.returns
returns c = λ terms text route sends hostgroup opened elsewhere.
    elsewhere
    (stays-alone (book_up sends.up) (stood terms (com_query ∷ text) sends.up) (keys_in terms) sends.up.client.number text route
    (route-for terms (com_query ∷ text) route sends) hostgroup
    (as-stood terms (com_query ∷ text) sends.up (IsOpenIn hostgroup) opened))
