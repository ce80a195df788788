-- Clients by their numbers.
use Rattle.std.specs.Prelude.{◌≡◌, ℕ, suc, Bool, filter, map, List, [], ◌∷◌}
use Rattle.private_model.specs.Names.{ClientNo}
use Rattle.private_model.specs.Story.{is_client}
use Rattle.log_story.specs.Tale.{Client, Tale}

abbrev pub seats : Tale → ClientNo → List Client
seats tale number = filter (λ (client : Client). is_client client.number number) tale.clients

-- its number is this client's alone
abbrev pub IsSeated : Tale → Client → Type 0
IsSeated tale client = seats tale client.number ≡ client ∷ []

abbrev pub numbers : Tale → List ClientNo
numbers tale = map (λ (client : Client). client.number) tale.clients

-- those whose numbers pass a test
abbrev pub clients_of : (ClientNo → Bool) → Tale → List Client
clients_of whose tale = filter (λ (client : Client). whose client.number) tale.clients

-- the number is this client's
abbrev pub is_its : Client → ClientNo → Bool
is_its client number = is_client number client.number

-- these numbers count up
abbrev pub AreCounted : (from : ℕ) → List ClientNo → Type 0
AreCounted from [] = Unit {0}
AreCounted from (c ∷ cs) = (c.0 ≡ from) × AreCounted (suc from) cs
