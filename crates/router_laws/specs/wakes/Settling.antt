-- What lending and looking make of the tables between entries: nothing of it is told.
use Rattle.std.specs.Prelude.{◌≡◌, ◌<◌, ◌^◌, ℕ, true, false, List, [], ◌∷◌, Option, None, Some}
use Rattle.mx_base.specs.declared.names.ClientNo.{ClientNo}
use Rattle.mx_base.specs.declared.names.LinkId.{LinkId}
use Rattle.session_state.specs.declared.names.SessionName.{SessionName}
use Rattle.private_model.specs.Story.{Key}
use Rattle.session_vars.specs.Settings.{AreSettings}
use Rattle.link_state.specs.Places.{calm_place, place_wish}
use Rattle.link_state.specs.declared.asking.Purpose.{Purpose}
use Rattle.link_state.specs.declared.wish.Wish.{Wish}
use Rattle.link_state.specs.declared.wish.Wish.TheVariants as wishes
use Rattle.served_link.specs.Rests.{may_part}
use Rattle.row_laws.specs.Readied.{IsStepFor}
use Rattle.client_desk.specs.Desks.{name_of}
use Rattle.client_desk.specs.declared.work.Work.{Work}
use Rattle.core_tables.specs.Beginning.{capture_begun, end_begun, next_back, quit_begun, step_begun, text_begun}
use Rattle.core_tables.specs.Noting.{noted, readied, shelved}
use Rattle.core_tables.specs.Preparing.{prep_begun, run_begun}
use Rattle.core_tables.specs.Tables.{IsSame, Tabled}
use Rattle.core_tables.specs.declared.client.Client.{Client}
use Rattle.core_tables.specs.declared.client.ClientNote.{ClientNote}
use Rattle.core_tables.specs.declared.server.Server.{Server}
use Rattle.core_texts.specs.Texts.{key_at}
use Rattle.core_texts.specs.declared.texts.Texts.{Texts}

-- One step of it: nothing; what the choice of acts needs is noted of a client, or of a link, which is readied or may be lent; what stands next on a link is
-- taken back; or there begins a client's statement, an execute, the preparation of its text, a step to one, a capture, the end of a session, or the
-- QUIT.
pub data Settling : Type 0 where
  Stays : Settling
  Notes : ClientNo → ClientNote → Settling
  Readies : LinkId → Option ClientNo → Settling
  Shelves : LinkId → (spot : Option ℕ) → Settling
  TakesBack : LinkId → Settling
  States : LinkId → SessionName → Settling
  Runs : LinkId → SessionName → Settling
  Prepares : LinkId → SessionName → (text : List ℕ) → Settling
  Steps : LinkId → Purpose → Wish → Settling
  Captures : LinkId → SessionName → Settling
  Ends : LinkId → SessionName → Settling
  Quits : LinkId → Settling

abbrev pub settled : Settling → Tabled → Tabled
settled Stays t = t
settled (Notes c note) t = noted c note t
settled (Readies l client) t = readied l client t
settled (Shelves l spot) t = shelved l spot t
settled (TakesBack l) t = next_back l t
settled (States l name) t = text_begun l name t
settled (Runs l name) t = run_begun l name t
settled (Prepares l name text) t = prep_begun l name text t
settled (Steps l purpose wish) t = step_begun l purpose wish t
settled (Captures l name) t = capture_begun l name t
settled (Ends l name) t = end_begun l name t
settled (Quits l) t = quit_begun l t

-- What code tests before that.

-- something may begin on the link
pub record MayBegin (l : LinkId) (t : Tabled) : Type 0 where
  pub server : Server
  pub there : t.links l ≡ Some server
  pub free : may_part server.row ≡ true

-- a client's statement, which wasn't sent, of its present session in that hostgroup
pub record MayState (l : LinkId) (name : SessionName) (t : Tabled) : Type 0 where
  pub begins : MayBegin l t
  pub client : Client
  pub there : t.clients name.client ≡ Some client
  pub work : Work
  pub in_work : client.desk.work ≡ Some work
  pub unsent : work.sent ≡ false
  pub named : name ≡ name_of client.desk work.hostgroup

-- the text of its key, where the link was told the place of that
pub record MayPrepare (texts : Texts) (l : LinkId) (name : SessionName) (text : List ℕ) (t : Tabled) : Type 0 where
  pub states : MayState l name t
  pub key : Key
  pub kept : key_at texts states.work.key ≡ Some key
  pub its_text : text ≡ key.text
  pub of_key : AreSettings key.place.settings
  pub told : AreSettings states.begins.server.row.link.state.told.settings
  pub is_there : place_wish states.begins.server.row.link.state.told (calm_place key.place states.begins.server.row.link.state.told) ≡ None

-- a step to a schema, to settings or to an insert id, a STMT_CLOSE or a STMT_RESET
abbrev pub IsStepBy : Wish → Type 0
IsStepBy (wishes.Schema schema) = Unit {0}
IsStepBy (wishes.Settings text) = Unit {0}
IsStepBy (wishes.SetId id) = id < 2 ^ 64
IsStepBy (wishes.Closes number) = Unit {0}
IsStepBy (wishes.Resets number) = Unit {0}
IsStepBy _ = ⊥

pub record MayStep (l : LinkId) (purpose : Purpose) (wish : Wish) (t : Tabled) : Type 0 where
  pub begins : MayBegin l t
  pub for_whom : IsStepFor purpose
  pub by : IsStepBy wish

abbrev pub MaySettle : Texts → Settling → Tabled → Type 0
MaySettle texts Stays t = Unit {0}
MaySettle texts (Notes c note) t = Unit {0}
MaySettle texts (Readies l client) t = Unit {0}
MaySettle texts (Shelves l spot) t = Unit {0}
MaySettle texts (TakesBack l) t = Unit {0}
MaySettle texts (States l name) t = MayState l name t
MaySettle texts (Runs l name) t = MayState l name t
MaySettle texts (Prepares l name text) t = MayPrepare texts l name text t
MaySettle texts (Steps l purpose wish) t = MayStep l purpose wish t
MaySettle texts (Captures l name) t = MayBegin l t
MaySettle texts (Ends l name) t = MayBegin l t
MaySettle texts (Quits l) t = MayBegin l t

-- All of it, step by step.

pub record SettlesBy (texts : Texts) (step : Settling) (old new : Tabled) : Type 0 where
  pub may : MaySettle texts step old
  pub same : IsSame new (settled step old)

abbrev pub AreSettled : Texts → List Settling → (old new : Tabled) → Type 0
AreSettled texts [] old new = IsSame new old
AreSettled texts (step ∷ others) old new = (between : Tabled) × SettlesBy texts step old between × AreSettled texts others between new

pub record Settles (texts : Texts) (old new : Tabled) : Type 0 where
  pub steps : List Settling
  pub path : AreSettled texts steps old new
