-- What a framer is by the packets that it joined.
use Rattle.std.proofs.Common.{◌≡◌, ℕ, ◌+◌, ◌*◌, List, [], ◌++◌, length, Option, Some, None, IsSome, refl, ◌∙◌, sym, ap, subst, arith, append_assoc, length-append}
use Rattle.packet_frame.specs.declared.fault.FrameFault.{FrameFault}
use Rattle.packet_frame.specs.Packets.{Framed}
use Rattle.packet_frame.specs.MessageLaws.{first_message-goes}
use Rattle.packet_frame.specs.Joining.{Joined, in_packets, as_read, joined_message, IsJoined}
use Rattle.packet_frame.specs.FramerState.{FramerState, past, found_unless, framer_of}
use Rattle.packet_frame.proofs.Joins.{in_packets-length, most-size, found-whole}

pub read-length : (limit : ℕ) (joined : Joined) → IsJoined limit joined → 4 * joined.packets + length joined.payload + length joined.rest ≡ length (as_read joined)
read-length limit joined at =
    omega (arith, length-append (in_packets joined.packets joined.first joined.payload) joined.rest, in_packets-length joined.packets joined.first joined.payload (most-size limit joined at))

-- more bytes are kept
pub framer-fed : (limit : ℕ) (fault : Option FrameFault) (joined new : Joined) (piece : List ℕ) (state : FramerState) → framer_of limit fault joined ≡ state → new ≡ record joined { rest = joined.rest ++ piece }
    → framer_of limit fault new ≡ record state { kept = state.kept ++ piece }
framer-fed limit fault joined new piece state is grows =
    subst (λ (s : FramerState). framer_of limit fault new ≡ record s { kept = s.kept ++ piece }) is
    (ap (framer_of limit fault) grows ∙ ap (λ xs. record (framer_of limit fault joined) { kept = xs }) (sym (append_assoc (in_packets joined.packets joined.first joined.payload) joined.rest piece)))

-- the message is dropped
done-by : (limit : ℕ) (joined : Joined) (message : Option Framed) → IsJoined limit joined → joined_message joined ≡ message → IsSome message
    → framer_of limit None (record { packets = 0; first = joined.first; payload = []; rest = joined.rest }) ≡ past (framer_of limit None joined)
done-by limit joined None at is some = absurd (cc)
done-by limit joined (Some message) at is some =
    let goes = first_message-goes limit joined.first (as_read joined) message joined.rest (found-whole limit joined message at is) in
    ap (λ xs. record { limit = limit; kept = xs; found = None; fault = None }) goes

pub framer-done : (limit : ℕ) (fault : Option FrameFault) (joined new : Joined) (state : FramerState) → IsJoined limit joined → framer_of limit fault joined ≡ state → IsSome state.found
    → new ≡ record { packets = 0; first = joined.first; payload = []; rest = joined.rest } → framer_of limit fault new ≡ past state
framer-done limit fault joined new state at is some cleared =
    subst (λ (s : FramerState). framer_of limit fault new ≡ past s) is
    (ap (framer_of limit fault) cleared ∙ by fault (subst (λ (s : FramerState). IsSome s.found) (sym is) some)) where
      by : (why : Option FrameFault) → IsSome (found_unless why (joined_message joined)) → framer_of limit why (record { packets = 0; first = joined.first; payload = []; rest = joined.rest }) ≡ past (framer_of limit why joined)
      by None some = done-by limit joined (joined_message joined) at refl some
      by (Some why) some = absurd (cc)
