use Rattle.core_laws.proofs.OfParting.Freeing.{freed_so}
use Rattle.core_laws.proofs.OfParting.Testing.{test_so}
use Rattle.core_laws.proofs.parting.links.freed_stands.Goals as goal

pub returns-clause-test : goal.returns-clause-test
returns-clause-test c = test_so

pub returns-clause-stands : goal.returns-clause-stands
returns-clause-stands c =
    freed_so c.others_are_spared.ensures.links c.others_are_spared.ensures.sessions c.clients_stay.ensures c.parted_stays.ensures c.coming_stays.ensures
    c.freed_stands.ensures c.rows_are_freed.ensures c.given_back_lawfully.ensures
