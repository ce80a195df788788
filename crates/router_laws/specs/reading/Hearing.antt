-- Bytes on a link to a server, by one setup and one plan.
use Rattle.std.specs.Prelude.{◌≡◌, ◌<◌, ◌+◌, ℕ, suc, Bool, false, All, length, List, [], ◌∷◌, Option, Some, None}
use Rattle.mx_base.specs.Fields.{AreBytes}
use Rattle.mx_base.specs.declared.names.LinkId.{LinkId}
use Rattle.mx_wire.specs.declared.entry.Entry.TheVariants.{Got}
use Rattle.mx_wire.specs.Log.{Log}
use Rattle.client_session.specs.Setups.{Setup as Service}
use Rattle.private_model.specs.Names.{ClientNo}
use Rattle.log_story.specs.Plan.{Behind, LastWord, word_at}
use Rattle.log_story.specs.Tale as tales
use Rattle.log_story.specs.Telling.{tale_step}
use Rattle.row_laws.specs.Readied.{AreClasses}
use Rattle.step_laws.specs.Freed.{Ascend}
use Rattle.step_laws.specs.Seats.{IsSeated}
use Rattle.core_tables.specs.Tables.{Tabled}
use Rattle.core_stands.specs.Grounds.{AreNamed, Ground}
use Rattle.core_stands.specs.Stands.{Rests}
use Rattle.core_laws.specs.entry.Entries.{behind}
use Rattle.core_laws.specs.entry.Tells.{AreWhoTheySay}
use Rattle.core_laws.specs.clients.Following.{StandTold}
use Rattle.core_laws.specs.clients.Follows.{Parting, Tells}
use Rattle.core_laws.specs.clients.Going.{GivenUp, Going}
use Rattle.router_laws.specs.decisions.Deeds.{Deeds, taken_by}
use Rattle.router_laws.specs.decisions.Goings.{deeds_of}
use Rattle.router_laws.specs.decisions.Plans.{PlansSo}

-- By its last word, if it is told one, a client stands as it is told.

abbrev pub last_word : (now : ℕ) → (payload : List ℕ) → LastWord
last_word now payload = record { from = now; place = Behind; payloads = payload ∷ [] }

abbrev pub IsTelling : Service → (payload : List ℕ) → ClientNo → Type 0
IsTelling service payload c =
    (g : Ground) (moment : ℕ) → g.over c ≡ false → ((other : ClientNo) → g.fresh other ≡ false)
    → word_at g.plan moment c ≡ Some (last_word moment payload) → StandTold payload service g c moment

abbrev pub TellsFor : Parting → Service → ClientNo → Type 0
TellsFor (Tells payload) service c = IsTelling service payload c
TellsFor _ service c = Unit {0}

abbrev pub TellsSo : Option Going → Service → Type 0
TellsSo None service = Unit {0}
TellsSo (Some going) service = TellsFor going.parting service going.client

-- The setup fits, the plan has what is decided, and the log may go on with these bytes.
pub record IsHearing (service : Service) (default : List ℕ) (g : Ground) (log : Log) (l : LinkId) (bytes : List ℕ) (given : Option GivenUp) (going : Option Going)
    : Type 0 where
  pub plans : PlansSo g log (Got l bytes) (deeds_of given going)
  pub named : AreNamed g.codes
  pub classes : AreClasses g.setup.reads
  pub who : AreWhoTheySay g.setup g.plan default g.tale.clients
  pub bytes_are : AreBytes bytes
  pub some : 0 < length bytes
  pub rising : Ascend (λ l. l.0) g.tale.links
  pub tells : TellsSo going service

-- The tables rest behind the entry, and as many messages were taken up as was decided.
pub record AreHeard (service : Service) (g : Ground) (l : LinkId) (bytes : List ℕ) (deeds : Deeds) (over room : ClientNo → Bool) (now : Tabled)
    : Type 0 where
  pub rests : Rests service (behind g (Got l bytes) over) now room
  pub counts : (x was : tales.Client) → IsSeated (tale_step g.setup g.plan g.tale (Got l bytes)) x → IsSeated g.tale was → x.number ≡ was.number
      → x.taken ≡ was.taken + taken_by (deeds.calls x.number) (deeds.halts x.number)
