use Rattle.row_laws.proofs.Sparing.{link_stays, untouched}
use Rattle.row_laws.proofs.standing.others_are_spared.Goals as goal

pub returns : goal.returns
returns c = record { links = link_stays; sessions = untouched }
