-- Messages of given bytes.
use Rattle.std.proofs.Common.{◌≡◌, [], ◌∷◌, None, refl}
use Rattle.packet_frame.specs.declared.fault.FrameFault.TheVariants.{OutOfOrder, TooLarge}
use Rattle.packet_frame.specs.Packets.{first_message, split, spelling}
use Rattle.packet_frame.specs.Packets.Found.{Whole, Faulty}

-- 05 00 00 00 and the five bytes of the query DO 1
query_found : first_message 1024 0 (5 ∷ 0 ∷ 0 ∷ 0 ∷ 3 ∷ 68 ∷ 79 ∷ 32 ∷ 49 ∷ []) ≡ Whole (record { first = 0; last = 0; payload = 3 ∷ 68 ∷ 79 ∷ 32 ∷ 49 ∷ [] }) []
unfolding first_message
query_found = refl

query_spelled : spelling 0 (3 ∷ 68 ∷ 79 ∷ 32 ∷ 49 ∷ []) ≡ 5 ∷ 0 ∷ 0 ∷ 0 ∷ 3 ∷ 68 ∷ 79 ∷ 32 ∷ 49 ∷ []
unfolding spelling
query_spelled = refl

-- 01 04 00 announces 1,025 bytes
large_found : first_message 1024 0 (1 ∷ 4 ∷ 0 ∷ 0 ∷ []) ≡ Faulty (TooLarge 1025)
unfolding first_message
large_found = refl

-- of two faults in a header the id's comes first
order_found : first_message 1024 1 (1 ∷ 4 ∷ 0 ∷ 0 ∷ []) ≡ Faulty (OutOfOrder 1 0)
unfolding first_message
order_found = refl

-- two pings and the beginning of a third
pings_found : split 1024 0 (1 ∷ 0 ∷ 0 ∷ 0 ∷ 14 ∷ 1 ∷ 0 ∷ 0 ∷ 0 ∷ 14 ∷ 1 ∷ 0 ∷ [])
    ≡ record { messages = record { first = 0; last = 0; payload = 14 ∷ [] } ∷ record { first = 0; last = 0; payload = 14 ∷ [] } ∷ []; rest = 1 ∷ 0 ∷ []; fault = None }
unfolding split first_message
pings_found = refl
