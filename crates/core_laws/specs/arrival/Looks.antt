-- What a client says next is looked at.
use Rattle.std.specs.Prelude.{◌≡◌, ◌<◌, ◌+◌, ℕ, Bool, false, true, List, Some, None}
use Rattle.handshake.specs.declared.response.Response.{Response}
use Rattle.server_side.specs.Account.{Account}
use Rattle.client_side.specs.Login.{Says}
use Rattle.client_session.specs.Answers as talks
use Rattle.client_session.specs.Answers.{opening_of}
use Rattle.client_session.specs.Setups.{Setup as Service}
use Rattle.log_story.specs.Clients.{waits_for_capture}
use Rattle.log_story.specs.Owed.{due_bytes, talk_of}
use Rattle.log_story.specs.Plan.{word_at}
use Rattle.log_story.specs.Servers.{logged_in_as}
use Rattle.log_story.specs.Tale as tales
use Rattle.step_laws.specs.Taken.{IsIdle}
use Rattle.client_seat.specs.Seats.{first_place, is_ended}
use Rattle.client_seat.specs.Stands.{IsWho}
use Rattle.client_seat.specs.Turns.{turned}
use Rattle.client_seat.specs.declared.next.Next.{Next}
use Rattle.client_seat.specs.declared.next.Next.TheVariants as next
use Rattle.client_seat.specs.declared.phase.Phase.TheVariants as phase
use Rattle.client_seat.specs.declared.seat.Seat.{Seat}
use Rattle.core_tables.specs.Arrivals.{looked, turn}
use Rattle.core_tables.specs.Tables.{Tabled}
use Rattle.core_tables.specs.declared.client.Client.{Client}
use Rattle.core_stands.specs.Clients.{IsFrontOf}
use Rattle.core_stands.specs.Grounds.{Ground, looked_at, view_on}
use Rattle.core_stands.specs.Stands.{IsKnown, Stands}
use Rattle.core_laws.specs.arrival.Ups.{IsUpNext}
use Rattle.core_laws.specs.clients.Refusals.{is_refused_talk}

-- where it is let in, the setup has it log in so, and stand there
pub record IsLetIn (g : Ground) (default : List ℕ) (client : tales.Client) : Type 0 where
  pub account : (login : Account) → talks.account (talk_of g.plan client) ≡ Some login → g.setup.accounts client.number ≡ logged_in_as login
  pub place : (login : Account) (switched : Bool) (response : Response) (id : ℕ) (rest : List ℕ)
      → talks.account (talk_of g.plan client) ≡ Some login → opening_of (talk_of g.plan client) ≡ Says switched response id rest
      → g.setup.places client.number ≡ first_place default response

-- a client that goes on is looked at, which waits for no capture
pub record IsLook (g : Ground) (t : Tabled) (default : List ℕ) (client : tales.Client) (row : Client) : Type 0 where
  pub known : IsKnown g client.number client
  pub there : t.clients client.number ≡ Some row
  pub going : is_ended row.desk.seat.phase ≡ false
  pub captured : waits_for_capture (view_on g) g.plan client ≡ false
  pub few : client.taken + 1 < 18446744073709551616
  pub let_in : IsLetIn g default client

-- Nothing that may be taken up, its next message, or its end: then the seat stands for it once it is over, where no other last word is decided.

pub record Rested (service : Service) (g : Ground) (t : Tabled) (client : tales.Client) : Type 0 where
  pub stands : Stands service (looked_at client.number g) t
  pub idle : IsIdle g.setup g.plan g.tale client

pub record CameUp (service : Service) (g : Ground) (t : Tabled) (client : tales.Client) (seat : Seat) (ordinal : ℕ) : Type 0 where
  pub stands : Stands service (looked_at client.number g) t
  pub up : IsUpNext g client seat ordinal

pub record IsParting (g : Ground) (client : tales.Client) (row : Client) (seat : Seat) : Type 0 where
  pub who : IsWho client seat
  pub ended : seat.phase ≡ phase.Ended
  pub idle : row.desk.work ≡ None
  pub rested : IsIdle g.setup g.plan g.tale client
  pub refused : is_refused_talk (talk_of g.plan client) ≡ true
  pub owed : word_at g.plan g.tale.moment client.number ≡ None → IsFrontOf client seat (due_bytes (view_on g).replies g.plan g.tale.moment client)

abbrev pub LooksBy : Next → Service → Ground → Tabled → tales.Client → Client → Seat → Type 0
LooksBy next.Nothing service g t client row seat = Rested service g t client
LooksBy (next.Message ordinal) service g t client row seat = CameUp service g t client seat ordinal
LooksBy next.Ended service g t client row seat = IsParting g client row seat

abbrev pub Looks : Service → Ground → Tabled → (default : List ℕ) → tales.Client → Client → Type 0
Looks service g t default client row =
    LooksBy (turned service default row.desk.seat).next service g t client row (turn service default row.desk.seat)
