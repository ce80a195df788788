-- Why clients are ended behind their turns.
use Rattle.std.specs.Prelude.{◌≡◌, ◌⊎◌, ◌<◌, ◌+◌, ℕ, Bool, true, All, List, [], ◌∷◌, Option, Some, None}
use Rattle.mx_wire.specs.Log.{Log}
use Rattle.mx_wire.specs.declared.entry.Entry.{Entry}
use Rattle.private_model.specs.Names.{ClientNo, LinkId}
use Rattle.private_model.specs.View.{Setup}
use Rattle.log_story.specs.Plan.{Behind, Plan}
use Rattle.client_seat.specs.declared.phase.Phase.TheVariants as phase
use Rattle.core_laws.specs.clients.Follows.{Leaves, Parting, Stays, Tells}
use Rattle.core_laws.specs.clients.Going.{Going}
use Rattle.core_tables.specs.Tables.{Tabled}
use Rattle.core_tables.specs.declared.client.Client.{Client}
use Rattle.router_promises.specs.Errors.{buffers_full}
use Rattle.core_promises.specs.Endings.{IsPartedAt}
use Rattle.router_laws.specs.decisions.Causes.{carries_of}
use Rattle.router_laws.specs.decisions.Deeds.{Word}
use Rattle.router_laws.specs.wakes.Calling.{Caller}

-- too many bytes are kept of clients, with those that one announced; and this tells it so
pub record IsFull (budget : ℕ) (payload : List ℕ) : Type 0 where
  pub kept : ℕ
  pub announced : ℕ
  pub more : budget < kept + announced
  pub is : payload ≡ buffers_full kept announced

-- By the promise: the entry ends it, or its last word is that.

abbrev pub IsFullWord : (budget : ℕ) → Option Word → Type 0
IsFullWord budget None = ⊥
IsFullWord budget (Some word) = (payload : List ℕ) × (IsFull budget payload × (word ≡ record { place = Behind; payloads = payload ∷ [] }))

abbrev pub IsPartCause : (budget : ℕ) → Setup → Plan → Log → Entry → ClientNo → Option Word → Type 0
IsPartCause budget setup plan log e c end = IsPartedAt setup plan log e c ⊎ IsFullWord budget end

-- Of the code alone: it is ended without a word for this reason alone, and with one where too much is kept.
abbrev pub IsPartedFor : (budget : ℕ) → (Why : Type 0) → Parting → Type 0
IsPartedFor budget Why Stays = Unit {0}
IsPartedFor budget Why Leaves = Why
IsPartedFor budget Why (Tells payload) = IsFull budget payload

-- a link to a server carries a session of who goes on
abbrev pub IsGoingParted : (budget : ℕ) → LinkId → Tabled → Option Going → Type 0
IsGoingParted budget l t None = Unit {0}
IsGoingParted budget l t (Some going) = IsPartedFor budget (carries_of l t going.client ≡ true) going.parting

-- At a wake: an administrator came, or it isn't logged in.

pub record IsUnknown (t : Tabled) (c : ClientNo) : Type 0 where
  pub row : Client
  pub there : t.clients c ≡ Some row
  pub unknown : row.desk.seat.phase ≡ phase.LoggingIn

abbrev pub IsOusted : (came : Bool) → Tabled → ClientNo → Type 0
IsOusted came t c = (came ≡ true) ⊎ IsUnknown t c

abbrev pub AreOusted : (budget : ℕ) → (came : Bool) → Tabled → List Caller → Type 0
AreOusted budget came t callers = All (λ (k : Caller). IsPartedFor budget (IsOusted came t k.client) k.parting) callers

-- where nobody is
abbrev pub AreNotOusted : (budget : ℕ) → List Caller → Type 0
AreNotOusted budget callers = All (λ (k : Caller). IsPartedFor budget ⊥ k.parting) callers
