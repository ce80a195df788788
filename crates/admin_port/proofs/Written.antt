-- Payloads as packets.
use Rattle.std.proofs.Common.{◌≡◌, ℕ, List, [], ◌∷◌}
use Rattle.std.proofs.lemmas.List.{append-nil}
use Rattle.std.proofs.lemmas.Simd.{map-map}
use Rattle.packet_frame.specs.Packets.{spelling, spellings}

pub spelled_one : (first : ℕ) (payload : List ℕ) → spellings first (payload ∷ []) ≡ spelling first payload
spelled_one first payload = append-nil (spelling first payload)

-- one payload, and rows that are seen one by one
pub ruleset written = (spelled_one, map-map)
