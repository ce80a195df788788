-- Which clients have room.
use Rattle.std.specs.Prelude.{◌≡◌, Bool, false}
use Rattle.private_model.specs.Names.{ClientNo}
use Rattle.private_model.specs.Story.{is_client}

-- others that lack it lacked it before
abbrev pub OthersLack : ClientNo → (roomy room : ClientNo → Bool) → Type 0
OthersLack c roomy room = (other : ClientNo) → is_client c other ≡ false → room other ≡ false → roomy other ≡ false
