-- A client's next message comes up.
use Rattle.std.specs.Prelude.{◌≡◌, ℕ, suc, true, List, Some}
use Rattle.packet_frame.specs.Packets.{Framed, first_message, next_id}
use Rattle.packet_frame.specs.Packets.Found.{Whole}
use Rattle.server_side.specs.Account.{Account}
use Rattle.log_story.specs.Clients.{is_up}
use Rattle.log_story.specs.Tale as tales
use Rattle.client_seat.specs.declared.seat.Seat.{Seat}
use Rattle.client_seat.specs.Stands.{IsNext, IsServed}
use Rattle.client_seat.specs.declared.phase.Phase.TheVariants as phase
use Rattle.core_stands.specs.Grounds.{Ground}

-- It is whole, and may be taken up: what the seat kept begins with it, and it is found; the answer to it begins with the id behind it.
pub record IsUpNext (g : Ground) (client : tales.Client) (seat : Seat) (ordinal : ℕ) : Type 0 where
  pub account : Account
  pub serves : seat.phase ≡ phase.Serving account
  pub served : IsServed g.plan client seat account
  pub message : Framed
  pub rest : List ℕ
  pub whole : first_message g.plan.service.limit 0 seat.client.framer.kept ≡ Whole message rest
  pub found : seat.client.framer.found ≡ Some message
  pub next : IsNext g.plan client message
  pub counts : ordinal ≡ suc client.taken
  pub up : is_up g.setup g.plan client g.tale ≡ true
  pub answered : seat.answered ≡ true
  pub first : seat.first ≡ next_id message.last
