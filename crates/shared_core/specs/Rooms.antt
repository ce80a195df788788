-- Who has room again.
use Rattle.std.specs.Prelude.{◌≡◌, ◌&&◌, not, Bool, false, ℕ, Option, Some}
use Rattle.std.specs.Option.{option_map_or}
use Rattle.private_model.specs.Names.{ClientNo}
use Rattle.private_model.specs.Story.{is_client}
use Rattle.client_seat.specs.Seats.{has_room, is_ended}
use Rattle.core_tables.specs.declared.client.Client.{Client}
use Rattle.router_laws.specs.clients.Writes.{AreRoomy}
use Rattle.shared_core.specs.Stands.{is_roomy, tables}
use Rattle.shared_core.specs.declared.roomy.Roomy.{Roomy}
use Rattle.shared_core.specs.declared.router.Router.{Router}

-- This client has, and all who had.
pub record IsRoomier (client : ClientNo) (old new : Roomy) : Type 0 where
  pub others : (c : ClientNo) → is_roomy new c ≡ false → is_roomy old c ≡ false
  pub itself : (c : ClientNo) → is_roomy new c ≡ false → is_client client c ≡ false

-- a client goes on, and has room
abbrev pub goes_roomy : Option Client → Bool
goes_roomy row = option_map_or (λ (client : Client). not (is_ended client.desk.seat.phase) && has_room client.desk.seat) row false

-- Of so many bytes that were written to a client: if it has room again, it is called at the next wake.
abbrev pub IsRoomyAfter : (client : ClientNo) → (n : ℕ) → (old new : Router) → Type 0
IsRoomyAfter client n old new =
    (row : Client) → (tables old).clients client ≡ Some row → AreRoomy n client row (is_roomy old.roomy) (is_roomy new.roomy)
