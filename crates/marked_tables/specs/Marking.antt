-- Marks that are set before clients and links change: links that are open and not marked behind them have nothing to do with a change.
use Rattle.std.specs.Prelude.{◌≡◌, true, false, nat_eq, Option, Some, None}
use Rattle.std.specs.Option.{option_and_then, option_map}
use Rattle.mx_base.specs.declared.names.ClientNo.{ClientNo}
use Rattle.mx_base.specs.declared.names.LinkId.{LinkId}
use Rattle.session_state.specs.declared.names.SessionName.{SessionName}
use Rattle.link_state.specs.declared.asking.Purpose.{Purpose}
use Rattle.link_state.specs.declared.asking.Purpose.TheVariants as purposes
use Rattle.link_state.specs.declared.state.Stage.{Stage}
use Rattle.link_state.specs.declared.state.Stage.TheVariants as stages
use Rattle.lent_link.specs.declared.link.Begins.{Begins}
use Rattle.lent_link.specs.declared.link.Begins.TheVariants as begins
use Rattle.core_tables.specs.Parting.{name_in}
use Rattle.core_tables.specs.Tables.{Tabled}
use Rattle.core_tables.specs.declared.server.Server.{Server}
use Rattle.core_says.specs.Marking.{IsClearOf, IsMore}
use Rattle.link_marks.specs.Marks.{Marked, is_known, is_marked}
use Rattle.marked_tables.specs.Goes.{has_row}

-- marks are only added, no link comes or goes, and of each open one that isn't marked this is so
pub record MarksBut (Is : LinkId → Type 0) (old new : Marked) : Type 0 where
  pub more : IsMore old new
  pub others : (link : LinkId) → is_known old link ≡ true → is_marked new link ≡ false → Is link

-- it is another link
abbrev pub IsOther : LinkId → LinkId → Type 0
IsOther l link = nat_eq l.0 link.0 ≡ false

-- the row of a client has nothing to do with it
abbrev pub IsClearAt : Tabled → ClientNo → LinkId → Type 0
IsClearAt t c link = IsClearOf link (t.clients c)

abbrev pub IsClearFor : Tabled → Option ClientNo → LinkId → Type 0
IsClearFor t None link = Unit {0}
IsClearFor t (Some c) link = IsClearAt t c link

-- Whom a question on a link is for: what is to begin there, and what stands there.

abbrev pub client_of : Purpose → Option ClientNo
client_of (purposes.Statement n ordinal key) = Some n.client
client_of (purposes.Prep n ordinal key) = Some n.client
client_of (purposes.Sync n) = Some n.client
client_of purposes.Own = None
client_of (purposes.End n) = Some n.client
client_of (purposes.Capture n) = Some n.client

abbrev pub next_client : Option Begins → Option ClientNo
next_client (Some (begins.Asks asking)) = client_of asking.purpose
next_client _ = None

abbrev pub stage_client : Stage → Option ClientNo
stage_client stages.Quiet = None
stage_client (stages.Asked asking) = client_of asking.purpose
stage_client (stages.Answered asking) = client_of asking.purpose

abbrev pub next_at : Option Server → Option ClientNo
next_at row = option_and_then (λ (server : Server). next_client server.row.link.next) row

abbrev pub stage_at : Option Server → Option ClientNo
stage_at row = option_and_then (λ (server : Server). stage_client server.row.link.state.stage) row

-- it is another link, and the rows of those clients have nothing to do with it
pub record IsUnasked (t : Tabled) (l link : LinkId) : Type 0 where
  pub other : IsOther l link
  pub next : IsClearFor t (next_at (t.links l)) link
  pub stage : IsClearFor t (stage_at (t.links l)) link

-- or the row of the client whose session this one carries

abbrev pub carried_at : Option Server → Option SessionName
carried_at row = option_and_then (λ (server : Server). name_in server.row.link.state.carries) row

abbrev pub carrier_at : Option Server → Option ClientNo
carrier_at row = option_map (λ (n : SessionName). n.client) (carried_at row)

pub record IsUncarried (t : Tabled) (l link : LinkId) : Type 0 where
  pub other : IsOther l link
  pub carrier : IsClearFor t (carrier_at (t.links l)) link

-- a link is open no more, or marked; one that has a row in these tables stays as open as it was
pub record Leaves (t : Tabled) (l : LinkId) (old new : Marked) : Type 0 where
  pub gone : is_known new l ≡ true → is_marked new l ≡ true
  pub stays : has_row t l ≡ true → is_known new l ≡ is_known old l
  pub known : (link : LinkId) → IsOther l link → is_known new link ≡ is_known old link
  pub marked : (link : LinkId) → IsOther l link → is_marked new link ≡ is_marked old link
