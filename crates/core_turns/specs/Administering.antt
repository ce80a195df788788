-- What administrators are answered, as it is written.
use Rattle.std.specs.Prelude.{◌≡◌, ℕ, ◌++◌, Bool, true, false, slice_get, List, Some}
use Rattle.std.specs.Option.{option_map_or}
use Rattle.mx_base.specs.declared.names.Port.{Port}
use Rattle.mx_base.specs.declared.names.Port.TheVariants.{Admin, Traffic}
use Rattle.packet_frame.specs.Packets.{spellings}
use Rattle.query_rules.specs.Passing.{rules_of}
use Rattle.query_rules.specs.declared.rule.Rule.{Rule}
use Rattle.admin_port.specs.Answers.{Reply}
use Rattle.core_promises.specs.Administers.{Administered, Forces, IsAdminAnswer, IsDone, IsReplyOf}
use Rattle.core_promises.specs.Ruled.{Ruling, ruling_of}
use Rattle.core_service.specs.Serves.{rules_in}
use Rattle.core_service.specs.declared.service.Service.{Service}
use Rattle.core_texts.specs.Texts.{key_at}
use Rattle.core_texts.specs.declared.texts.Texts.{Texts}
use Rattle.core_turns.specs.declared.administrator.Administrator.{Administrator}

-- What administrators work on, where these rules are in force until others are loaded.
abbrev pub administered : (force : List Rule) → Administrator → Administered
administered force admin = record { staged = admin.staged; rules = option_map_or rules_of admin.loaded force }

-- The rules, the texts that are kept, and what became of what administrators work on.
abbrev pub ruling_by : Service → Texts → (old new : Administrator) → Ruling
ruling_by service texts old new = ruling_of service texts.since (key_at texts) (administered (rules_in service) old) (administered (rules_in service) new)

-- A statement that wants this is answered so, and rows are put in force.
pub record CarriesOut (wanted reply : Reply) (force : List Rule) (old new : Administrator) : Type 0 where
  pub done : IsDone wanted reply
  pub staged : new.staged ≡ old.staged
  pub forces : Forces reply (administered force old) (administered force new)

abbrev pub port_for : (is_admin : Bool) → Port
port_for true = Admin
port_for false = Traffic

-- these payloads are written behind what there was
pub record IsWrittenAs (answers : List (List ℕ) → Type 0) (first : ℕ) (old new : List ℕ) : Type 0 where
  pub payloads : List (List ℕ)
  pub answer : answers payloads
  pub spelt : new ≡ old ++ spellings first payloads

abbrev pub IsReplied : (text : List ℕ) → (was is : Administered) → (first : ℕ) → (old new : List ℕ) → Type 0
IsReplied text was is first old new = IsWrittenAs (IsReplyOf text was is) first old new

-- the answer to a message is, or it is a QUIT
abbrev pub IsWritten : (answered : Bool) → (payload : List ℕ) → (was is : Administered) → (first : ℕ) → (old new : List ℕ) → Type 0
IsWritten true payload was is first old new = IsWrittenAs (IsAdminAnswer payload was is) first old new
IsWritten false payload was is first old new = (slice_get payload 0 ≡ Some 1) × (is ≡ was)
