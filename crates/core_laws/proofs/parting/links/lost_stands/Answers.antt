use Rattle.core_laws.proofs.OfParting.Losing.{lost_so}
use Rattle.core_laws.proofs.parting.links.lost_stands.Goals as goal

pub returns : goal.returns
returns c =
    lost_so c.others_are_spared.ensures.links c.others_are_spared.ensures.sessions c.clients_stay.ensures c.parted_stays.ensures c.coming_stays.ensures
    c.homes_have_rows.ensures c.gone_stands.ensures c.rows_are_lost.ensures c.given_up_stands.ensures c.seats_owe.ensures.answered
