-- The last word to a client.
use Rattle.std.specs.Prelude.{ℕ, if◌then◌else◌, List, Option, Some, None}
use Rattle.packet_frame.specs.FramerState.{FramerState}
use Rattle.packet_frame.specs.Packets.{id_of_answer, spelling, split}
use Rattle.packet_frame.specs.declared.fault.FrameFault.{FrameFault}
use Rattle.client_side.specs.Client.{ClientState}
use Rattle.client_side.specs.Steps.{next_of}
use Rattle.client_side.specs.declared.stage.Stage.{Stage}
use Rattle.client_side.specs.declared.stage.Stage.TheVariants as stage
use Rattle.client_seat.specs.Outgoing.{said}
use Rattle.client_seat.specs.declared.phase.Phase.{Phase}
use Rattle.client_seat.specs.declared.phase.Phase.TheVariants as phase
use Rattle.client_seat.specs.Seats.{Seat}

-- the bytes behind the messages that are whole
abbrev pub behind_by : Option FrameFault → FramerState → List ℕ
behind_by None framer = (split framer.limit 0 framer.kept).rest
behind_by (Some fault) framer = framer.kept

abbrev pub behind_in : Stage → ClientState → List ℕ
behind_in stage.Commands client = behind_by client.framer.fault client.framer
behind_in at client = (next_of at client).client.framer.kept

abbrev pub behind_messages : ClientState → List ℕ
behind_messages client = behind_in client.stage client

-- the id behind the last header that was read of it; a response is one packet with the id 1
abbrev pub word_id_in : Phase → Seat → ℕ
word_id_in phase.LoggingIn seat = if seat.switched then 2 else id_of_answer seat.client.framer.kept
word_id_in (phase.Serving account) seat = id_of_answer (behind_messages seat.client)
word_id_in phase.Ended seat = 0

abbrev pub word_id : Seat → ℕ
word_id seat = word_id_in seat.phase seat

-- what is kept of it is of no use any more
abbrev pub with_word : (payload : List ℕ) → ClientState → Seat → Seat
with_word payload client seat =
    record seat { client = client; phase = phase.Ended; outbox = said (spelling (word_id seat) payload) seat.outbox }
