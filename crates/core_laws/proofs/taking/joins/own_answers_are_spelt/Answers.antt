use Rattle.std.specs.Prelude.{ℕ, List, ◌++◌}
use Rattle.std.proofs.Common.{ap, ◌∙◌}
use Rattle.packet_frame.specs.Packets.{spellings}
use Rattle.core_laws.proofs.taking.joins.own_answers_are_spelt.Goals as goal

pub returns : goal.returns
returns c = λ row before packets payloads none is. is ∙ ap (λ (xs : List ℕ). xs ++ spellings row.desk.seat.first payloads) none
