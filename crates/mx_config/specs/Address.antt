-- How addresses are spelled.
use Rattle.std.specs.Prelude.{ℕ, List, [], ◌∷◌, Option, Some}
use Rattle.mx_base.specs.Decimal.{number_to}
use Rattle.mx_base.specs.Pieces.{pieces, two, four}
use Rattle.mx_base.specs.Steps.{◌>>=◌}
use Rattle.mx_base.specs.declared.names.Address.{Address}

-- the four numbers of a.b.c.d
unfoldable pub ipv4 : List ℕ → Option (List ℕ)
ipv4 text = do
  p ← four (pieces (46 ∷ []) text)
  a ← number_to 255 p.0
  b ← number_to 255 p.1
  c ← number_to 255 p.2
  d ← number_to 255 p.3
  Some (a ∷ b ∷ c ∷ d ∷ [])

-- a.b.c.d:port
unfoldable pub address : List ℕ → Option Address
address text = do
  p ← two (pieces (58 ∷ []) text)
  ip ← ipv4 p.0
  port ← number_to 65535 p.1
  Some (record { ip = ip; port = port })
