-- What a link lends is what is left there.
use Rattle.std.proofs.Common.{◌≡◌, ◌<◌, ℕ, true, List, [], ◌∷◌, length, Option, Some, None, refl, sym, arith}
use Rattle.std.specs.Prelude.{is_some}
use Rattle.mx_base.specs.Sent.{IsLent, Sent}
use Rattle.mx_base.specs.declared.piece.Piece.{Piece}
use Rattle.scripted_wire.specs.Giving.{is_some_of}
use Rattle.scripted_wire.specs.Scripts.{left_bytes}

pub lent_none : (l : Option Sent) → IsLent None l → left_bytes l ≡ []
lent_none None lent = refl
lent_none (Some l) lent = absurd lent

pub lent_some : (outgoing : Piece) (l : Option Sent) → IsLent (Some outgoing) l → left_bytes l ≡ outgoing.bytes.now
lent_some outgoing (Some l) lent = sym lent.bytes
lent_some outgoing None lent = absurd lent

not_empty : (xs : List ℕ) → 0 < length xs → is_some_of xs ≡ true
not_empty [] some = absurd (let h : 0 < 0 = some in omega arith)
not_empty (x ∷ xs) some = refl

pub lent_some_of : (outgoing : Option Piece) (l : Option Sent) → IsLent outgoing l → is_some outgoing ≡ is_some_of (left_bytes l)
lent_some_of (Some outgoing) (Some l) lent = sym (not_empty l.bytes lent.some)
lent_some_of None None lent = refl
lent_some_of (Some outgoing) None lent = absurd lent
lent_some_of None (Some l) lent = absurd lent
