-- What is kept of a private world.
use Rattle.std.specs.Prelude.{◌≡◌, ℕ, true, [], Option, Some, None}
use Rattle.std.specs.HashMap.{get_by}
use Rattle.mx_base.specs.declared.names.ClientNo.{ClientNo}
use Rattle.session_state.specs.declared.names.MessageName.{MessageName}
use Rattle.session_state.specs.declared.names.SessionName.{SessionName}
use Rattle.server_rule.specs.Servers.{Tests}
use Rattle.server_rule.specs.declared.session.Session.{Session}
use Rattle.private_model.specs.Commands.{Account, Reply, fresh_of}
use Rattle.private_model.specs.Story.{Key, is_message, is_name}
use Rattle.private_model.specs.Worlds.{Private}
use Rattle.oracle.specs.Entries.{prepared_at}
use Rattle.oracle.specs.declared.own.Own.{Own}
use Rattle.oracle.specs.declared.world.World.{World}

-- the session of a name, where something ran in it
abbrev pub own_at : World → SessionName → Option Own
own_at world n = get_by (λ key. is_name n key) world.owns

-- what a message was answered
abbrev pub answer_at : World → MessageName → Option Reply
answer_at world message = get_by (λ key. is_message message key) world.answers

-- a session in which nothing ran is fresh
abbrev pub session_of : Option Own → Account → Session
session_of None account = fresh_of account []
session_of (Some own) account = own.session

abbrev pub prepared_of : Option Own → (key : ℕ) → Option Key
prepared_of None key = None
prepared_of (Some own) key = prepared_at own.prepared key

-- these are the sessions and the answers of a private world, but for the data of its servers
pub record IsWorld (accounts : ClientNo → Account) (world : World) (private : Private) : Type 0 where
  pub sessions : (n : SessionName) → private.sessions n ≡ session_of (own_at world n) (accounts n.client)
  pub prepared : (n : SessionName) (key : ℕ) → private.tables n key ≡ prepared_of (own_at world n) key
  pub answers : (message : MessageName) → private.answers message ≡ answer_at world message

-- servers take its sessions
abbrev pub AreTaken : Tests → World → Type 0
AreTaken tests world = (n : SessionName) (own : Own) → own_at world n ≡ Some own → tests.is_session own.session.tx own.session.locks own.session.deep own.session.diag ≡ true
