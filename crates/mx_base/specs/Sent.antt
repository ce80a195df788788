-- Bytes that are to be written on a link.
use Rattle.std.specs.Prelude.{◌≡◌, ℕ, ◌<◌, ◌≤◌, List, length, Option, Some, None}
use Rattle.mx_base.specs.declared.piece.Piece.{Piece}
use Rattle.mx_base.specs.declared.tag.Tag.{Tag}

pub record Sent : Type 0 where
  pub tag : Tag
  pub bytes : List ℕ

pub record IsLentPiece (piece : Piece) (sent : Sent) : Type 0 where
  pub tag : piece.tag ≡ sent.tag
  pub bytes : piece.bytes.now ≡ sent.bytes
  pub some : 0 < length sent.bytes

abbrev pub IsLent : Option Piece → Option Sent → Type 0
IsLent (Some piece) (Some sent) = IsLentPiece piece sent
IsLent None None = Unit {0}
IsLent _ _ = ⊥

-- no more is taken than there is to be written
abbrev pub MayTake : Option Sent → ℕ → Type 0
MayTake (Some sent) n = n ≤ length sent.bytes
MayTake None n = ⊥
