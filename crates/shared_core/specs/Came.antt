-- Who came by a log, and its moment.
use Rattle.std.specs.Prelude.{◌≡◌, ◌+◌, ◌-◌, ◌^◌, ◌||◌, ℕ, Bool, false, length, min, true}
use Rattle.mx_base.specs.declared.names.Port.{Port}
use Rattle.mx_base.specs.declared.names.Port.TheVariants.{Admin, Traffic}
use Rattle.mx_wire.specs.Log.{Log, accepted_links, moment_of}
use Rattle.core_promises.specs.InForce.{has_administrator}
use Rattle.shared_core.specs.declared.came.Came.{Came}

abbrev pub is_administrators_port : Port → Bool
is_administrators_port Traffic = false
is_administrators_port Admin = true

abbrev pub came_then : Came → Port → Came
came_then came port = record {
  clients = min (came.clients + 1) (2 ^ 64 - 1);
  administrator = came.administrator || is_administrators_port port;
  clock = came.clock;
}

-- so many clients, an administrator only if one came, and this is the moment of the last wake
pub record HaveCome (log : Log) (came : Came) : Type 0 where
  pub clients : came.clients ≡ length (accepted_links log)
  pub administrator : came.administrator ≡ true → has_administrator log ≡ true
  pub clock : came.clock ≡ moment_of log
