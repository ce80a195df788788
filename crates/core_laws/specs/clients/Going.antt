-- Whose statement is given up at an entry of a link to a server, and who goes on: of the code alone.
use Rattle.std.specs.Prelude.{◌≡◌, ℕ, Bool, false, not, if◌then◌else◌, List, Option, Some, None}
use Rattle.std.specs.Option.{option_map, option_map_or}
use Rattle.mx_base.specs.declared.names.ClientNo.{ClientNo}
use Rattle.mx_base.specs.declared.names.LinkId.{LinkId}
use Rattle.client_session.specs.Setups.{Setup as Service}
use Rattle.session_state.specs.declared.names.SessionName.{SessionName}
use Rattle.client_seat.specs.Seats.{is_ended}
use Rattle.core_tables.specs.Parting.{given_to}
use Rattle.core_tables.specs.Tables.{IsSame, Tabled}
use Rattle.core_tables.specs.declared.client.Client.{Client}
use Rattle.core_laws.specs.clients.Follows.{FollowsSo, Parting}
use Rattle.core_laws.specs.clients.Turns.{Choice, Halt}

-- whose statement it is, and what its client is told in place of a reply
pub record GivenUp : Type 0 where
  pub client : ClientNo
  pub payload : List ℕ

-- what each client is told
abbrev pub told_to : Option GivenUp → ClientNo → Option (List ℕ)
told_to None c = None
told_to (Some up) c = given_to up.client up.payload c

-- what follows for a client
pub record Going : Type 0 where
  pub client : ClientNo
  pub choices : List Choice
  pub halt : Halt
  pub parting : Parting
  pub links : List LinkId

abbrev pub GoesSo : Option Going → Service → (default : List ℕ) → (old new : Tabled) → Type 0
GoesSo None service default old new = IsSame new old
GoesSo (Some going) service default old new =
    FollowsSo service default going.client going.choices going.halt going.parting going.links old new

-- Who goes on: the client whose session the link carries, where that didn't end; and on a link that carries none the one whose statement is
-- given up. Where it carries one, no other's is.

abbrev pub is_going : Option Client → Bool
is_going row = option_map_or (λ (client : Client). not (is_ended client.desk.seat.phase)) row false

abbrev pub IsCalled : (carries : Option SessionName) → Option GivenUp → Tabled → (called : Option ClientNo) → Type 0
IsCalled (Some n) given t called =
    ((up : GivenUp) → given ≡ Some up → up.client ≡ n.client)
    × (called ≡ (if is_going (t.clients n.client) then Some n.client else None))
IsCalled None given t called = called ≡ option_map (λ (up : GivenUp). up.client) given
