use Rattle.mx_wire.specs.declared.entry.Entry.TheVariants.{Ended}
use Rattle.core_promises.proofs.Ended.{neither, parted}
use Rattle.core_promises.proofs.ending.ends_with_anothers_link.Goals as goal

pub returns : goal.returns
returns c = λ terms before link client ended own carried. neither _ _ (parted terms before (Ended link) client ended) own carried
