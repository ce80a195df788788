-- What a link tells of the message that its framer found.
use Rattle.std.proofs.Common.{◌≡◌, IfSome, Option, Some, subst}
use Rattle.std.specs.Prelude.{Result, Ok}
use Rattle.packet_frame.specs.FramerState.{FramerState, answer, seen}
use Rattle.packet_frame.specs.Packets.{Framed, Found}
use Rattle.packet_frame.specs.Packets.Found.{Nothing, Whole, Faulty}
use Rattle.packet_frame.specs.declared.message.Message.{Message}
use Rattle.server_side.specs.declared.fault.BackendFault.{BackendFault}
use Rattle.server_side.specs.declared.hear.Heard.{Heard}
use Rattle.server_side.specs.Backend.{BackendState}
use Rattle.server_side.specs.Hearing.{Got, Tells, behind, found_by}

pub found_told : (read : Framed → BackendState → Got) (heard : Result Heard BackendFault) (new old : BackendState) (framer : FramerState)
    (found : Found) (o : Option Message) (message : Message) → o ≡ Some message → Ok o ≡ answer found → framer ≡ seen old.framer found
    → IfSome framer.found (λ m. Tells heard new (read m (behind m (record old { framer = framer }))))
    → Tells heard new (found_by read old found)
found_told read heard new old framer Nothing o message some is after tells = absurd cc
found_told read heard new old framer (Whole framed rest) o message some is after tells =
    subst (λ (f : FramerState). IfSome f.found (λ m. Tells heard new (read m (behind m (record old { framer = f }))))) after tells
found_told read heard new old framer (Faulty fault) o message some is after tells = absurd cc
