use Rattle.mx_wire.specs.declared.entry.Entry.TheVariants.{Woke}
use Rattle.core_promises.proofs.Ended.{neither, parted}
use Rattle.core_promises.proofs.ending.ends_whom_it_serves.Goals as goal

pub returns : goal.returns
returns c = λ terms before until_ms now_ms client ended none served. neither _ _ (parted terms before (Woke until_ms now_ms) client ended) none served
