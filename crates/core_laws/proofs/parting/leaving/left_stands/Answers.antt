use Rattle.core_laws.proofs.OfParting.Departing.{anew_so, ends_so}
use Rattle.core_laws.proofs.parting.leaving.left_stands.Goals as goal

pub returns-clause-anew : goal.returns-clause-anew
returns-clause-anew c =
    anew_so c.others_are_spared.ensures.links c.others_are_spared.ensures.sessions c.clients_stay.ensures c.coming_stays.ensures c.left_stands.ensures c.rows_are_left.ensures

pub returns-clause-ends : goal.returns-clause-ends
returns-clause-ends c =
    ends_so c.others_are_spared.ensures.links c.others_are_spared.ensures.sessions c.clients_stay.ensures c.coming_stays.ensures c.left_stands.ensures c.rows_are_left.ensures
