-- What a framer is to its callers, and what it finds.
use Rattle.std.specs.Prelude.{ℕ, List, drop, Option, Some, None, Result, Ok, Err}
use Rattle.packet_frame.specs.declared.fault.FrameFault.{FrameFault}
use Rattle.packet_frame.specs.declared.message.Message.{Message}
use Rattle.packet_frame.specs.Packets.{Framed, Found, first_message, message_size}
use Rattle.packet_frame.specs.Packets.Found.{Nothing, Whole, Faulty}
use Rattle.packet_frame.specs.Joining.{Joined, as_read, joined_message, told}

-- the length of the longest message that it takes, the bytes that it keeps, the message that it found, and its fault
pub record FramerState : Type 0 where
  pub limit : ℕ
  pub kept : List ℕ
  pub found : Option Framed
  pub fault : Option FrameFault

-- what is found in the kept bytes; after a fault that fault for good
abbrev pub look_by : Option FrameFault → Found → Found
look_by None found = found
look_by (Some fault) found = Faulty fault

abbrev pub look : (first : ℕ) → FramerState → Found
look first state = look_by state.fault (first_message state.limit first state.kept)

-- the state behind that, and the answer
abbrev pub seen : FramerState → Found → FramerState
seen state Nothing = record state { found = None }
seen state (Whole message rest) = record state { found = Some message }
seen state (Faulty fault) = record state { found = None; fault = Some fault }

abbrev pub answer : Found → Result (Option Message) FrameFault
answer Nothing = Ok None
answer (Whole message rest) = Ok (Some (told message))
answer (Faulty fault) = Err fault

-- the state without the message that was found
abbrev pub past : FramerState → FramerState
past state = record state { kept = drop (message_size state.kept) state.kept; found = None }

-- what a framer is by the packets that it joined: a message is found while there is no fault
abbrev pub found_unless : Option FrameFault → Option Framed → Option Framed
found_unless None message = message
found_unless (Some fault) message = None

abbrev pub framer_of : (limit : ℕ) → Option FrameFault → Joined → FramerState
framer_of limit fault joined = record { limit = limit; kept = as_read joined; found = found_unless fault (joined_message joined); fault = fault }
