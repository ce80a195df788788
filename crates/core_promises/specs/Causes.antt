-- Why the router answers in place of a server: what the entry was at which a statement was given up, and what there was before it.
use Rattle.std.specs.Prelude.{◌≡◌, ◌⊎◌, ◌<◌, ◌≤◌, ◌+◌, ◌++◌, ◌&&◌, ℕ, suc, Bool, true, false, All, nat_le, length, List, [], ◌∷◌, Option, Some, None}
use Rattle.std.specs.List.{list_any}
use Rattle.std.specs.Option.{option_map_or}
use Rattle.client_session.specs.Errors.{bad_server_bytes, connection_lost, connection_refused}
use Rattle.mx_wire.specs.Log.{Log, moment_of}
use Rattle.mx_wire.specs.declared.entry.Entry.{Entry}
use Rattle.mx_wire.specs.declared.entry.Entry.TheVariants.{Ended, Got, OpenFailed, ReadFailed, Woke, WriteFailed}
use Rattle.private_model.specs.Names.{ClientNo, LinkId, MessageName, SessionName}
use Rattle.private_model.specs.Story.{is_client}
use Rattle.private_model.specs.View.{Setup, session_in}
use Rattle.link_laws.specs.Stands.{Codes}
use Rattle.log_story.specs.Headline.{tale_of}
use Rattle.log_story.specs.Owed.{name_of}
use Rattle.log_story.specs.Plan.{OwnAnswer, Plan}
use Rattle.log_story.specs.Tale.{Client, Tale, view_of}
use Rattle.tale_world.specs.Decided.{Decided}
use Rattle.core_laws.specs.entry.Tells.{Fits, IsOf}
use Rattle.router_promises.specs.Errors.{no_connection, replay_refused, server_shutdown}
use Rattle.router_promises.specs.Terms.{Terms, plan_in, setup_in, tale_at}
use Rattle.core_promises.specs.InForce.{has_administrator}

-- the link carries a session of this client
abbrev pub is_carried : Setup → Tale → LinkId → ClientNo → Bool
is_carried setup tale link c =
    option_map_or (λ (n : SessionName). is_client c n.client) (session_in ((view_of setup tale).links link).carries) false

-- a message is among those that its client took up
abbrev pub is_taken_up : MessageName → Tale → Bool
is_taken_up m tale = list_any (λ (client : Client). is_client client.number m.client && nat_le m.ordinal client.taken) tale.clients

-- By this moment of the log it had been taken up.
pub record WasTakenUp (setup : Setup) (plan : Plan) (log : Log) (m : MessageName) (by_ms : ℕ) : Type 0 where
  pub before : Log
  pub later : Log
  pub there : log ≡ before ++ later
  pub moment : moment_of before ≡ by_ms
  pub taken : is_taken_up m (tale_of setup plan before) ≡ true

-- As the loop wakes: the statement had been taken up by a moment, and has waited since for as long as is configured; or where an administrator came,
-- who may shut the router down; or bytes that are no reply keep the link open that it was due on.
pub data IsLateCause (wait_ms now_ms : ℕ) (came : Bool) (HadBeenTakenUp : (by_ms : ℕ) → Type 0) : (payload : List ℕ) → Type 0 where
  WaitedTooLong : (since : ℕ) → HadBeenTakenUp since → since + wait_ms ≤ now_ms
      → IsLateCause wait_ms now_ms came HadBeenTakenUp (no_connection since now_ms)
  ShutDown : came ≡ true → IsLateCause wait_ms now_ms came HadBeenTakenUp server_shutdown
  HeldUp : IsLateCause wait_ms now_ms came HadBeenTakenUp (bad_server_bytes 0)

-- As bytes come on a link: a step was refused, or a login; or they are no reply, where the link carries a session of its client.
pub data IsHeardCause (carried : Bool) : (payload : List ℕ) → Type 0 where
  StepRefused : (code : ℕ) → IsHeardCause carried (replay_refused code)
  LoginRefused : IsHeardCause carried connection_refused
  BadBytes : (place : ℕ) → carried ≡ true → IsHeardCause carried (bad_server_bytes place)

-- As a link is lost: it carries a session of its client; or a login breaks off.
pub data IsLossCause (carried : Bool) : (payload : List ℕ) → Type 0 where
  LinkLost : carried ≡ true → IsLossCause carried connection_lost
  LoginBroken : IsLossCause carried connection_refused

-- at an entry behind these, of a client's statement
abbrev pub IsCause : (wait_ms : ℕ) → Setup → Plan → Log → Entry → MessageName → (payload : List ℕ) → Type 0
IsCause wait_ms setup plan log (Woke until_ms now_ms) m payload =
    IsLateCause wait_ms now_ms (has_administrator log) (WasTakenUp setup plan log m) payload
IsCause wait_ms setup plan log (Got link bytes) m payload = IsHeardCause (is_carried setup (tale_of setup plan log) link m.client) payload
IsCause wait_ms setup plan log (Ended link) m payload = IsLossCause (is_carried setup (tale_of setup plan log) link m.client) payload
IsCause wait_ms setup plan log (ReadFailed link) m payload = IsLossCause (is_carried setup (tale_of setup plan log) link m.client) payload
IsCause wait_ms setup plan log (WriteFailed link) m payload = IsLossCause (is_carried setup (tale_of setup plan log) link m.client) payload
IsCause wait_ms setup plan log (OpenFailed server address) m payload = payload ≡ connection_refused
IsCause wait_ms setup plan log _ m payload = ⊥

-- statements are given up there at all
abbrev pub may_give_up : Entry → Bool
may_give_up (Woke until_ms now_ms) = true
may_give_up (Got link bytes) = true
may_give_up (Ended link) = true
may_give_up (ReadFailed link) = true
may_give_up (WriteFailed link) = true
may_give_up (OpenFailed server address) = true
may_give_up _ = false

-- It was given up at an entry of this log, and for that.
pub record HasCause (wait_ms : ℕ) (setup : Setup) (plan : Plan) (log : Log) (m : MessageName) (answer : OwnAnswer) : Type 0 where
  pub before : Log
  pub entry : Entry
  pub later : Log
  pub there : log ≡ before ++ entry ∷ later
  pub from : answer.from ≡ suc (length before)
  pub payload : List ℕ
  pub one : answer.payloads ≡ payload ∷ []
  pub why : IsCause wait_ms setup plan before entry m payload

-- The message is answered as it is taken up, and goes to no server.
abbrev pub IsToldAtOnce : Plan → MessageName → OwnAnswer → Type 0
IsToldAtOnce plan name answer = (answer.from ≡ 0) × (plan.routes name ≡ None)

-- What the router answers by now to a message of a client.
abbrev pub AreCaused : (wait_ms : ℕ) → Setup → Plan → Log → Client → Type 0
AreCaused wait_ms setup plan log client =
    (k : ℕ) (answer : OwnAnswer) → k < client.taken → plan.own (name_of client (suc k)) ≡ Some answer → answer.from ≤ length log
    → IsToldAtOnce plan (name_of client (suc k)) answer ⊎ HasCause wait_ms setup plan log (name_of client (suc k)) answer

-- of each client
abbrev pub GivesUpSo : Terms → Log → Type 0
GivesUpSo terms log = All (AreCaused terms.router.proxy.wait_ms (setup_in terms) (plan_in terms) log) (tale_at terms log).clients

-- by each plan that has what was decided
abbrev pub CausedBy : (wait_ms : ℕ) → (default : List ℕ) → Decided → Log → Type 0
CausedBy wait_ms default d log =
    (setup : Setup) (codes : Codes) (plan : Plan) → IsOf d (length log) plan → Fits d.keys setup codes plan default (tale_of setup plan log)
    → All (AreCaused wait_ms setup plan log) (tale_of setup plan log).clients
