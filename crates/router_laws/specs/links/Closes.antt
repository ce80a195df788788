-- The core closes a link to a server by its own wish: of the code alone. With it goes the present session that it carries; nothing is given up, and
-- nobody goes on.
use Rattle.std.specs.Prelude.{◌≡◌, ◌&&◌, Bool, true, false, is_some, Option, Some, None}
use Rattle.mx_base.specs.Sent.{Sent}
use Rattle.mx_base.specs.declared.names.ClientNo.{ClientNo}
use Rattle.mx_base.specs.declared.names.LinkId.{LinkId}
use Rattle.session_state.specs.declared.names.SessionName.{SessionName}
use Rattle.lent_link.specs.declared.link.Begins.{Begins}
use Rattle.lent_link.specs.declared.link.Begins.TheVariants as begins
use Rattle.core_tables.specs.Parting.{lost_in, name_in, present_in, unlinked}
use Rattle.core_tables.specs.Passing.{sends}
use Rattle.core_tables.specs.Tables.{IsSame, Tabled}
use Rattle.core_tables.specs.declared.client.Client.{Client}
use Rattle.core_tables.specs.declared.server.Server.{Server}
use Rattle.core_laws.specs.clients.Turns.{waits_at}
use Rattle.router_laws.specs.links.Loses.{GoesWithIt}

-- Its client waits for no capture of it, or is to be called at the next wake.
abbrev pub IsUnawaited : LinkId → (room : ClientNo → Bool) → Tabled → Type 0
IsUnawaited l room t =
    (n : SessionName) (row : Client) → present_in l t ≡ Some n → t.clients n.client ≡ Some row → room n.client ≡ false → waits_at row ≡ false

-- no client has it as its own
pub record MayClose (l : LinkId) (room : ClientNo → Bool) (t : Tabled) : Type 0 where
  pub server : Server
  pub there : t.links l ≡ Some server
  pub own : t.numbers l ≡ None
  pub with_it : GoesWithIt l (λ c. false) t
  pub unawaited : IsUnawaited l room t

-- it is forgotten at once
pub record ClosesSo (l : LinkId) (room : ClientNo → Bool) (old new : Tabled) : Type 0 where
  pub may : MayClose l room old
  pub same : IsSame new (unlinked l (lost_in l old))

-- Before that one write may be offered: a QUIT begins, or what was begun goes on.
abbrev pub IsFarewellNext : Option Begins → Type 0
IsFarewellNext None = Unit {0}
IsFarewellNext (Some begins.Quits) = Unit {0}
IsFarewellNext _ = ⊥

-- then it carries nobody's session, or that of a client that isn't called by a write that fails: one that ended
pub record MaySayFarewell (l : LinkId) (ended : ClientNo → Bool) (t : Tabled) : Type 0 where
  pub server : Server
  pub there : t.links l ≡ Some server
  pub next : IsFarewellNext server.row.link.next
  pub uncalled : (n : SessionName) → name_in server.row.link.state.carries ≡ Some n → ended n.client ≡ true

-- what is lent there is lent by its row, which is sound
pub record IsLentThere (l : LinkId) (lent : Option Sent) (t : Tabled) : Type 0 where
  pub lends : (sent : Sent) → lent ≡ Some sent → sends l t ≡ Some sent
  pub well : (sent : Sent) → lent ≡ Some sent → (server : Server) → t.links l ≡ Some server → server.row.link.spoilt ≡ false
