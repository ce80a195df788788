use Rattle.router_laws.proofs.OfReading.Rows.{hears_keep_rows}
use Rattle.router_laws.proofs.reading.cores.hears_keep.Goals as goal

pub returns : goal.returns
returns c = λ service default l bytes clock given going old new so. hears_keep_rows service default l bytes clock given going old new so
