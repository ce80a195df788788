-- Of which links to servers an entry tells that the router said something there, or heard.
use Rattle.std.specs.Prelude.{◌≡◌, ◌⊎◌, Bool, true, false, Some}
use Rattle.mx_wire.specs.declared.entry.Entry.{Entry}
use Rattle.mx_wire.specs.declared.entry.Entry.TheVariants.{Got, Opened, Wrote}
use Rattle.private_model.specs.Names.{LinkId}
use Rattle.private_model.specs.Story.{is_link_id}
use Rattle.private_model.specs.View.{Setup}
use Rattle.log_story.specs.Plan.{Plan}
use Rattle.log_story.specs.Tale.{Tale, is_to_server}
use Rattle.log_story.specs.Telling.{told}
use Rattle.core_tables.specs.Tables.{Tabled}
use Rattle.core_tables.specs.declared.server.Server.{Server}

-- it is in its login before and behind the entry
pub record IsEntering (setup : Setup) (plan : Plan) (tale : Tale) (e : Entry) (l : LinkId) : Type 0 where
  pub before : (tale.wires l).entered ≡ false
  pub behind : ((told setup plan tale e).wires l).entered ≡ false

-- nothing is said on it, nor does it open, and what is read there leaves it in its login
abbrev pub IsSilent : Setup → Plan → Tale → Entry → LinkId → Type 0
IsSilent setup plan tale (Got link bytes) l = is_link_id l link ≡ true → IsEntering setup plan tale (Got link bytes) l
IsSilent setup plan tale (Wrote link tag bytes) l = is_link_id l link ≡ false
IsSilent setup plan tale (Opened server address link) l = is_link_id l link ≡ false
IsSilent setup plan tale _ l = Unit {0}

-- it has a row, and its login didn't fail
pub record IsSpoken (t : Tabled) (tale : Tale) (l : LinkId) : Type 0 where
  pub server : Server
  pub there : t.links l ≡ Some server
  pub well : (tale.wires l).entered ≡ false → server.row.link.spoilt ≡ false

-- of a link: it was there, and the entry is silent of it; or it is spoken to, and has a row behind the entry
abbrev pub IsSilentOrSpoken : Setup → Plan → (old : Tale) → Entry → (new : Tale) → Tabled → LinkId → Type 0
IsSilentOrSpoken setup plan old e new t l = ((is_to_server old l ≡ true) × IsSilent setup plan old e l) ⊎ IsSpoken t new l
