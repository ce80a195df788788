-- A text without tokens that are left has no form of which a piece is left.
use Rattle.std.specs.Prelude.{◌≡◌, ℕ, List, [], ◌∷◌, Option, None}
use Rattle.std.proofs.Common.{refl}
use Rattle.mx_base.specs.PieceLaws.{some_piece}
use Rattle.mx_base.specs.Pieces.{is_among, pieces}
use Rattle.mem_rule.specs.Forms.{fits_from}

pub unfit : (text rest : List ℕ) (values : List (Option (List ℕ))) → fits_from text [] (pieces (32 ∷ []) rest) values ≡ None
unfit text rest values = let some = some_piece (is_among (32 ∷ [])) rest in rw some.2 refl
