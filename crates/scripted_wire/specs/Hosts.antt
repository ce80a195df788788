-- Servers and the sessions of the links to them.
use Rattle.std.specs.Prelude.{◌≡◌, true, ℕ, ◌-◌, ◌||◌, nat_eq, nat_lt, List, [], ◌∷◌, ◌++◌, length, slice_get, set, Option, Some, None, if◌then◌else◌}
use Rattle.mx_base.specs.declared.names.ServerId.{ServerId}
use Rattle.server_rule.specs.declared.session.Capabilities.{Capabilities}
use Rattle.server_rule.specs.Servers.{Step, Tests, fresh}
use Rattle.server_rule.specs.declared.command.Cmd.{Cmd}
use Rattle.scripted_wire.specs.declared.hosts.Seat.{Seat}

-- the data of each server, and the sessions in the order in which they began
pub record Hosted : Type 0 where
  pub stored : List (List ℕ)
  pub seats : List Seat

abbrev pub index_of : (servers : ℕ) → ServerId → Option ℕ
index_of servers server = if nat_eq server.0 0 || nat_lt servers server.0 then None else Some (server.0 - 1)

-- servers take the session
abbrev pub IsTaken : Tests → Seat → Type 0
IsTaken tests seat = tests.is_session seat.session.tx seat.session.locks seat.session.deep seat.session.diag ≡ true

-- a session begins
pub record Enters (server : ℕ) (user : List ℕ) (capabilities : Capabilities) (old : Hosted) (seat : ℕ) (new : Hosted) : Type 0 where
  pub place : seat ≡ length old.seats
  pub is : new ≡ record old { seats = old.seats ++ record { server = server; session = fresh user capabilities [] } ∷ [] }

-- what a command that ran leaves, and its reply
pub record Ran : Type 0 where
  pub hosted : Hosted
  pub reply : Option (List (List ℕ))

abbrev pub ran_on : Step → (at : ℕ) → Cmd → Hosted → Seat → (stored : List ℕ) → Ran
ran_on step at cmd hosted seat stored = record {
  hosted = record {
    stored = set hosted.stored seat.server (step stored seat.session cmd).stored;
    seats = set hosted.seats at (record seat { session = (step stored seat.session cmd).session });
  };
  reply = Some (step stored seat.session cmd).reply;
}

abbrev pub ran_by : Step → (at : ℕ) → Cmd → Hosted → Seat → Option (List ℕ) → Ran
ran_by step at cmd hosted seat None = record { hosted = hosted; reply = None }
ran_by step at cmd hosted seat (Some stored) = ran_on step at cmd hosted seat stored

abbrev pub ran_at : Step → (at : ℕ) → Cmd → Hosted → Option Seat → Ran
ran_at step at cmd hosted None = record { hosted = hosted; reply = None }
ran_at step at cmd hosted (Some seat) = ran_by step at cmd hosted seat (slice_get hosted.stored seat.server)

-- a command runs in the session at this place, where there is one
abbrev pub ran : Step → (at : ℕ) → Cmd → Hosted → Ran
ran step at cmd hosted = ran_at step at cmd hosted (slice_get hosted.seats at)

pub record RunsIn (step : Step) (at : ℕ) (cmd : Cmd) (old : Hosted) (reply : Option (List (List ℕ))) (new : Hosted) : Type 0 where
  pub is : record { hosted = new; reply = reply } ≡ ran step at cmd old
