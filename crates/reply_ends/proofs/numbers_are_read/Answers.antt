use Rattle.std.proofs.Common.{ap, ◌∙◌}
use Rattle.reply_relay.specs.Cells.{cell_number}
use Rattle.reply_ends.proofs.Cells.{number_read}
use Rattle.reply_ends.proofs.numbers_are_read.Goals as goal

pub returns : goal.returns
returns c = λ first payloads. ap cell_number (c.cells_are_read.ensures first payloads) ∙ number_read payloads
