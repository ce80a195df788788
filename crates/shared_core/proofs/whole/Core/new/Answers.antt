use Rattle.shared_core.proofs.Standing.{first_core}
use Rattle.shared_core.proofs.whole.Core.new.Goals as goal

pub returns-clause-stands : goal.returns-clause-stands
returns-clause-stands c =
    first_core (record { service = c.in_ok-new.field-0; router = c.in_ok-new-2.field-0 }) (c.in_ok-new-2.ensures.stands c.in_ok-new.field-0 c.in_ok-new.ensures.serves c.in_ok-new.ensures.unloaded)
    c.in_ok-new-2.ensures.closed c.in_ok-new-2.ensures.known
