-- That what is noted of messages is so: by when they had been taken up.
use Rattle.std.specs.Prelude.{◌≡◌, ℕ, if◌then◌else◌, length, nat_eq, List, Option, Some}
use Rattle.mx_base.specs.declared.names.ClientNo.{ClientNo}
use Rattle.mx_wire.specs.Log.{Log}
use Rattle.private_model.specs.Names.{MessageName}
use Rattle.private_model.specs.View.{Setup}
use Rattle.link_laws.specs.Stands.{Codes}
use Rattle.log_story.specs.Headline.{tale_of}
use Rattle.log_story.specs.Plan.{Plan}
use Rattle.tale_world.specs.Decided.{Decided}
use Rattle.core_texts.specs.Texts.{key_at, noted_at}
use Rattle.core_texts.specs.declared.noted.Noted.{Noted}
use Rattle.core_texts.specs.declared.texts.Texts.{Texts}
use Rattle.client_desk.specs.declared.work.Work.{Work}
use Rattle.core_tables.specs.Tables.{Tabled}
use Rattle.core_tables.specs.declared.client.Client.{Client}
use Rattle.core_laws.specs.entry.Tells.{Fits, IsOf}
use Rattle.core_promises.specs.Causes.{WasTakenUp}

-- what is noted of clients
abbrev pub Notes : Type 0
Notes = ClientNo → Option Noted

-- a client's message of this place
abbrev pub message : ClientNo → (ordinal : ℕ) → MessageName
message c ordinal = record { client = c; ordinal = ordinal }

abbrev pub AreNoted : Notes → Setup → Plan → Log → Type 0
AreNoted notes setup plan log =
    (c : ClientNo) (one : Noted) → notes c ≡ Some one → WasTakenUp setup plan log (message c one.ordinal) one.by_ms

-- by each plan that has what was decided
abbrev pub AreNotedBy : Notes → (default : List ℕ) → Decided → Log → Type 0
AreNotedBy notes default d log =
    (setup : Setup) (codes : Codes) (plan : Plan) → IsOf d (length log) plan → Fits d.keys setup codes plan default (tale_of setup plan log)
    → AreNoted notes setup plan log

-- this is noted of a client
pub record IsNotedOf (c : ClientNo) (one : Noted) (old new : Texts) : Type 0 where
  pub last : new.last ≡ old.last
  pub same : (number : ℕ) → key_at new number ≡ key_at old number
  pub noted : (other : ClientNo) → noted_at new other ≡ (if nat_eq c.0 other.0 then Some one else noted_at old other)

-- the client has its message of this place in work
pub record IsInWork (c : ClientNo) (ordinal : ℕ) (t : Tabled) : Type 0 where
  pub row : Client
  pub there : t.clients c ≡ Some row
  pub work : Work
  pub in_work : row.desk.work ≡ Some work
  pub its : work.ordinal ≡ ordinal

-- by when that had been taken up was noted
pub record WasNoted (notes : Notes) (t : Tabled) (c : ClientNo) (since : ℕ) : Type 0 where
  pub one : Noted
  pub noted : notes c ≡ Some one
  pub in_work : IsInWork c one.ordinal t
  pub its : one.by_ms ≡ since
