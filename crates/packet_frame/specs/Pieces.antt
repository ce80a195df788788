-- Bytes that come in pieces.
use Rattle.std.specs.Prelude.{◌≡◌, ℕ, List, [], ◌∷◌, ◌++◌, map, Option, Some, None}
use Rattle.packet_frame.specs.declared.fault.FrameFault.{FrameFault}
use Rattle.packet_frame.specs.Packets.{Framed, Split, with_front, split}
use Rattle.packet_frame.specs.FramerState.{FramerState}

abbrev pub joined : List (List ℕ) → List ℕ
joined [] = []
joined (piece ∷ pieces) = piece ++ joined pieces

abbrev pub payload_of : Framed → List ℕ
payload_of message = message.payload

-- what a framer still has, each message of which begins with the id `first`
abbrev pub pending_by : Option FrameFault → List ℕ → Split → Split
pending_by None kept found = found
pending_by (Some fault) kept found = record { messages = []; rest = kept; fault = Some fault }

abbrev pub pending : (first : ℕ) → FramerState → Split
pending first state = pending_by state.fault state.kept (split state.limit first state.kept)

-- of all the messages those with these payloads were taken, and the others are still in the framer
pub record IsTaken (first : ℕ) (all : Split) (payloads : List (List ℕ)) (state : FramerState) : Type 0 where
  pub taken : List Framed
  pub are : payloads ≡ map payload_of taken
  pub others : all ≡ with_front taken (pending first state)

-- of the messages of the bytes all were taken, and there is this fault behind them
pub record AllTaken (limit first : ℕ) (bytes : List ℕ) (payloads : List (List ℕ)) (fault : Option FrameFault) (state : FramerState) : Type 0 where
  pub same : state.limit ≡ limit
  pub part : IsTaken first (split limit first bytes) payloads state
  pub dry : (pending first state).messages ≡ []
  pub faulty : (pending first state).fault ≡ fault
