use Rattle.core_laws.proofs.OfParting.Reading.{any_stays, server_stays}
use Rattle.core_laws.proofs.parting.frames.servers_stay.Goals as goal

pub returns-clause-row : goal.returns-clause-row
returns-clause-row c = λ g t l row e. server_stays c.others_are_spared.ensures.links c.others_are_spared.ensures.sessions g t l e row

pub returns-clause-all : goal.returns-clause-all
returns-clause-all c = λ g t l row e. any_stays c.others_are_spared.ensures.links c.others_are_spared.ensures.sessions g t l e row
