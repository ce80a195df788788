-- The links that carry a client's sessions, in a list that rises.
use Rattle.std.specs.Prelude.{◌≡◌, ◌<◌, ◌≤◌, ℕ, Bool, false, ◌||◌, get_or, length, nat_eq, List, [], ◌∷◌, Option}
use Rattle.std.specs.Option.{option_map_or}
use Rattle.mx_base.specs.declared.names.LinkId.{LinkId}
use Rattle.step_laws.specs.Freed.{Ascend}
use Rattle.client_desk.specs.declared.session.Session.{Session}
use Rattle.core_tables.specs.declared.client.Client.{Client}
use Rattle.core_says.specs.Says.{is_at}

-- one of a list
abbrev pub is_among : LinkId → List LinkId → Bool
is_among link [] = false
is_among link (other ∷ links) = nat_eq other.0 link.0 || is_among link links

-- the home of one of these sessions
abbrev pub is_home_of : LinkId → List Session → Bool
is_home_of link [] = false
is_home_of link (s ∷ sessions) = is_at link s.home || is_home_of link sessions

abbrev pub is_home_in : LinkId → Option Client → Bool
is_home_in link row = option_map_or (λ (client : Client). is_home_of link client.desk.sessions) row false

-- the ids of links rise
abbrev pub Rise : List LinkId → Type 0
Rise links = Ascend (λ (link : LinkId). link.0) links

-- a list that rises has these links more
pub record Gains (are : LinkId → Bool) (old new : List LinkId) : Type 0 where
  pub rises : Rise new
  pub holds : (link : LinkId) → is_among link new ≡ (are link || is_among link old)

-- where a link goes that isn't in it
pub record IsPlace (link : LinkId) (links : List LinkId) (place : ℕ) : Type 0 where
  pub within : place ≤ length links
  pub below : (other : LinkId) (k : ℕ) → k < place → (get_or links k other).0 < link.0
  pub above : (other : LinkId) → place < length links → link.0 < (get_or links place other).0
