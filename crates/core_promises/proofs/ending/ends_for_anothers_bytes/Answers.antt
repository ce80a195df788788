use Rattle.std.proofs.Common.{sym, ◌∙◌}
use Rattle.std.proofs.lemmas.Bool.{true≢false}
use Rattle.mx_wire.specs.declared.entry.Entry.TheVariants.{Got}
use Rattle.core_promises.proofs.Ended.{parted}
use Rattle.core_promises.proofs.ending.ends_for_anothers_bytes.Goals as goal

pub returns : goal.returns
returns c = λ terms before link bytes client ended other. true≢false (sym (parted terms before (Got link bytes) client ended) ∙ other)
