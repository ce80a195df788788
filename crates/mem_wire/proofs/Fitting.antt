-- What there is room for.
use Rattle.std.specs.Prelude.{◌≡◌, ℕ, ◌≤◌, List, length, take, Option, Some, None}
use Rattle.std.proofs.Common.{◌∙◌, ap, arith}
use Rattle.std.proofs.lemmas.List.{take_all, take_min}
use Rattle.std.proofs.Math.Nat.{min-le_left, min-le_right}
use Rattle.mx_base.specs.declared.names.LinkId.{LinkId}
use Rattle.mx_base.specs.declared.tag.Tag.{Tag}
use Rattle.mx_wire.specs.declared.entry.Entry.{Entry}
use Rattle.mx_wire.specs.declared.entry.Entry.TheVariants as entry
use Rattle.mem_wire.specs.Play.{FitsRoom}
use Rattle.mem_wire.specs.Fitting.{fit, fitting}

pub fit-most : (room : Option ℕ) (size n : ℕ) → n ≡ fit room size → n ≤ size
fit-most None size n is = omega arith
fit-most (Some left) size n is = (let most = min-le_right left size in omega arith)

pub fit-room : (room : Option ℕ) (size n : ℕ) → n ≡ fit room size → FitsRoom room n
fit-room None size n is = tt
fit-room (Some left) size n is = (let most = min-le_left left size in omega arith)

pub fit-take : (room : Option ℕ) (piece : List ℕ) (n : ℕ) → n ≡ fit room (length piece) → take n piece ≡ fitting room piece
fit-take None piece n is = take_all n piece (omega arith)
fit-take (Some left) piece n is = ap (λ (k : ℕ). take k piece) is ∙ take_min left piece

pub wrote-bytes : (link : LinkId) (tag other : Tag) (some bytes : List ℕ) → entry.Wrote link tag some ≡ entry.Wrote link other bytes → some ≡ bytes
wrote-bytes link tag other some bytes is = ap of is where
  of : Entry → List ℕ
  of (entry.Wrote to at written) = written
  of _ = bytes
