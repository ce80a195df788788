-- The tables behind an entry rest.
use Rattle.std.specs.Prelude.{◌≡◌, suc, ◌+◌, Bool, true, false, All, length}
use Rattle.mx_wire.specs.declared.entry.Entry.{Entry}
use Rattle.mx_wire.specs.declared.entry.Entry.TheVariants.{Accepted, Got, Wrote}
use Rattle.private_model.specs.Names.{ClientNo, LinkId}
use Rattle.private_model.specs.Story.{is_link_id}
use Rattle.private_model.specs.View.{Setup}
use Rattle.log_story.specs.Plan.{Plan}
use Rattle.log_story.specs.Tale.{Client, Tale, new_client}
use Rattle.log_story.specs.Telling.{tale_step}
use Rattle.step_laws.specs.Seats.{IsSeated, seats}
use Rattle.step_laws.specs.Freed.{NoneDone}
use Rattle.step_laws.specs.Steps.{ends_now, told_then}
use Rattle.step_laws.specs.Taken.{GivesUpNone, IsIdle, is_called}
use Rattle.core_stands.specs.Grounds.{Ground, view_on}
use Rattle.core_stands.specs.Stands.{IsCalm}
use Rattle.core_laws.specs.entry.Calms.{IsAside}

-- what stands behind an entry, by which these are over
abbrev pub behind : Ground → Entry → (over : ClientNo → Bool) → Ground
behind g e over = record g { tale = tale_step g.setup g.plan g.tale e; over = over }

-- but for these clients all stand among the clients as they stood
abbrev pub KeepsSeats : (whose : ClientNo → Bool) → Tale → Tale → Type 0
KeepsSeats whose old new = (n : ClientNo) → whose n ≡ false → seats new n ≡ seats old n

-- whose they are that an entry tells of: those of its link, or who comes
abbrev pub OfItsLink : (whose : ClientNo → Bool) → LinkId → Tale → Type 0
OfItsLink whose link tale = All (λ (client : Client). is_link_id client.link link ≡ true → whose client.number ≡ true) tale.clients

abbrev pub TellsOf : (whose : ClientNo → Bool) → Tale → Entry → Type 0
TellsOf whose tale (Accepted port link salt) = whose (new_client (length tale.clients + 1) port link salt).number ≡ true
TellsOf whose tale (Got link bytes) = OfItsLink whose link tale
TellsOf whose tale (Wrote link tag bytes) = OfItsLink whose link tale
TellsOf whose tale _ = Unit {0}

-- who had nothing to take up has nothing behind it, but for these
abbrev pub KeepsIdle : (whose : ClientNo → Bool) → Setup → Plan → (old new : Tale) → Type 0
KeepsIdle whose setup plan old new =
    (client : Client) → IsSeated old client → whose client.number ≡ false → IsIdle setup plan old client → IsIdle setup plan new client

-- and these have nothing to take up, or ended, or have room again
abbrev pub AreCalmToo : (whose : ClientNo → Bool) → Ground → (roomy : ClientNo → Bool) → Type 0
AreCalmToo whose g roomy = (client : Client) → IsSeated g.tale client → whose client.number ≡ true → IsCalm g roomy client

-- An entry doesn't concern other clients: nothing is told of them, nor given up.
pub record IsSpared (g : Ground) (e : Entry) (client : Client) : Type 0 where
  pub aside : IsAside g.setup g.tale e client.number
  pub keeps : GivesUpNone g.plan (suc g.tale.moment) client

abbrev pub AreSpared : (whose : ClientNo → Bool) → Ground → Entry → Type 0
AreSpared whose g e = All (λ (client : Client). whose client.number ≡ false → IsSpared g e client) g.tale.clients

-- By an entry no link is given back, no client is called, and none is ended.
pub record IsOfNobody (g : Ground) (e : Entry) : Type 0 where
  pub unfreed : NoneDone g.setup g.plan (told_then g.setup g.plan g.tale e)
  pub uncalled : All (λ (client : Client). is_called g.plan (told_then g.setup g.plan g.tale e).moment (view_on g) e client ≡ false)
      (told_then g.setup g.plan g.tale e).clients
  pub endless : (c : ClientNo) → ends_now g.plan (suc g.tale.moment) c ≡ false
