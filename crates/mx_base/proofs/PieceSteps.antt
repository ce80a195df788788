-- A piece before others.
use Rattle.std.proofs.Common.{◌≡◌, ℕ, List, ◌∷◌, None, refl}
use Rattle.mx_base.specs.Pieces.{is_among, pieces, one}
use Rattle.mx_base.specs.PieceLaws.{some_piece}

pub one_more : (separators piece text : List ℕ) → None ≡ one (piece ∷ pieces separators text)
one_more separators piece text = let more = some_piece (is_among separators) text in rw more.2 refl
