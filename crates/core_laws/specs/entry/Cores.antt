-- How a core goes on with an entry.
use Rattle.std.specs.Prelude.{◌≡◌, ℕ, Bool, true, false, length, List, [], ◌∷◌, ◌++◌, All}
use Rattle.mx_wire.specs.Log.{Log}
use Rattle.mx_wire.specs.declared.entry.Entry.{Entry}
use Rattle.client_session.specs.Setups.{Setup as Service}
use Rattle.private_model.specs.Names.{ClientNo, LinkId}
use Rattle.private_model.specs.View.{Setup}
use Rattle.link_laws.specs.Stands.{Codes}
use Rattle.log_story.specs.Headline.{tale_of}
use Rattle.log_story.specs.Plan.{Plan}
use Rattle.log_story.specs.Said.{ClosesFirst}
use Rattle.log_story.specs.Tale.{Client, is_to_server}
use Rattle.tale_world.specs.Decided.{Decided}
use Rattle.tale_world.specs.Tested.{Passes}
use Rattle.core_tables.specs.Tables.{Tabled}
use Rattle.core_stands.specs.Stands.{Rests}
use Rattle.core_laws.specs.entry.Grows.{IsHeardMore}
use Rattle.core_laws.specs.entry.Dues.{AreWrittenTo}
use Rattle.core_laws.specs.entry.Safe.{IsSafe}
use Rattle.core_laws.specs.entry.Speaks.{IsSilentOrSpoken}
use Rattle.core_laws.specs.entry.Tells.{Fits, IsOf, ground}
use Rattle.run_laws.specs.Tells.{GetsBytes}

abbrev pub with_entry : Log → Entry → Log
with_entry log e = log ++ e ∷ []

-- By one setup and plan: the tables rest behind the entry, and the log is safe with it, if so it was before; and each client that was there is
-- there, of which more was read.
pub record GoesOn (service : Service) (setup : Setup) (codes : Codes) (plan : Plan) (log : Log) (e : Entry) (old new : Decided) (t now : Tabled)
    (roomy room : ClientNo → Bool) : Type 0 where
  pub heard : All (λ (client : Client). IsHeardMore (tale_of setup plan (with_entry log e)) client) (tale_of setup plan log).clients
  pub rests : Rests service (ground setup codes plan old log) t roomy → Rests service (ground setup codes plan new (with_entry log e)) now room
  pub written : Rests service (ground setup codes plan old log) t roomy → Rests service (ground setup codes plan new (with_entry log e)) now room
      → AreWrittenTo (ground setup codes plan old log) log → AreWrittenTo (ground setup codes plan new (with_entry log e)) (with_entry log e)
  pub safe : Rests service (ground setup codes plan old log) t roomy → Rests service (ground setup codes plan new (with_entry log e)) now room
      → AreWrittenTo (ground setup codes plan new (with_entry log e)) (with_entry log e) → IsSafe setup plan log
      → IsSafe setup plan (with_entry log e)

-- What makes a log safe with one entry more, whose tables stand.
pub record IsSafely (setup : Setup) (plan : Plan) (log : Log) (e : Entry) (t : Tabled) : Type 0 where
  pub passes : Passes setup plan (tale_of setup plan log) e
  pub gets : GetsBytes (tale_of setup plan log) e
  pub closes : ClosesFirst setup (tale_of setup plan log) e
  pub spoken : (l : LinkId) → is_to_server (tale_of setup plan (with_entry log e)) l ≡ true
      → IsSilentOrSpoken setup plan (tale_of setup plan log) e (tale_of setup plan (with_entry log e)) t l

-- by each that has what is decided then, and fits
abbrev pub GoesOnBy : Service → (default : List ℕ) → Log → Entry → (old new : Decided) → (t now : Tabled) → (roomy room : ClientNo → Bool) → Type 0
GoesOnBy service default log e old new t now roomy room =
    (setup : Setup) (codes : Codes) (plan : Plan) → IsOf new (length (with_entry log e)) plan
    → Fits new.keys setup codes plan default (tale_of setup plan (with_entry log e))
    → GoesOn service setup codes plan log e old new t now roomy room
