-- What is made of the tables by what clients' own links say.
use Rattle.std.specs.Prelude.{◌≡◌, ◌⊎◌, ℕ, true, false, All, List, Some, None}
use Rattle.mx_base.specs.declared.names.ClientNo.{ClientNo}
use Rattle.mx_base.specs.declared.names.LinkId.{LinkId}
use Rattle.client_seat.specs.Seats.{account_in, is_ended}
use Rattle.core_service.specs.Serves.{rules_in}
use Rattle.core_service.specs.declared.service.Service.{Service}
use Rattle.core_tables.specs.Tables.{Tabled}
use Rattle.core_tables.specs.declared.client.Client.{Client}
use Rattle.core_laws.specs.clients.Follows.{Parting}
use Rattle.core_laws.specs.clients.Turns.{Choice, Halt}
use Rattle.router_laws.specs.clients.Leaves.{LeavesAtOnce, LeavesGoing, is_at_rest}
use Rattle.router_laws.specs.clients.Plans.{nobody}
use Rattle.router_laws.specs.clients.Speaks.{SpeaksSo}
use Rattle.core_promises.specs.Ruled.{AreRuled}
use Rattle.router_laws.specs.decisions.Partings.{IsPartedFor}
use Rattle.router_laws.specs.decisions.Speaks.{IsOurs, IsPartingOurs}
use Rattle.shared_core.specs.Follows.{Made, ruling_in}
use Rattle.shared_core.specs.declared.leaving.Leaving.{Leaving}
use Rattle.shared_core.specs.declared.leaving.Leaving.TheVariants as leaving

-- Bytes came, and it went on.
pub record HasSpoken (service : Service) (made : Made) (link : LinkId) (bytes : List ℕ) (c : ClientNo) (old new : Tabled) : Type 0 where
  pub ordinal : ℕ
  pub choices : List Choice
  pub halt : Halt
  pub parting : Parting
  pub links : List LinkId
  pub ours : All (IsOurs (rules_in service) made.texts c) choices
  pub word : IsPartingOurs parting
  pub parted : IsPartedFor service.buffer_budget ⊥ parting
  pub so : SpeaksSo service.setup service.default_schema link bytes c ordinal choices halt parting links old new
  pub ruled : AreRuled (ruling_in service made) choices halt service.setup service.default_schema c so.heard so.follows.turned so.follows.turns

-- it goes on, and waits for an answer or isn't logged in
pub record IsBusy (row : Client) : Type 0 where
  pub going : is_ended row.desk.seat.phase ≡ false
  pub busy : (row.desk.seat.answered ≡ false) ⊎ (account_in row.desk.seat.phase ≡ None)

-- How its link is lost, by its row.

pub record HasRow (Is : Client → Type 0) (c : ClientNo) (t : Tabled) : Type 0 where
  pub row : Client
  pub there : t.clients c ≡ Some row
  pub is : Is row

abbrev pub LeavesBy : Leaving → ClientNo → Tabled → Type 0
LeavesBy leaving.Gone c t = t.clients c ≡ None
LeavesBy leaving.Again c t = HasRow (λ (row : Client). is_ended row.desk.seat.phase ≡ true) c t
LeavesBy leaving.AtOnce c t = HasRow IsBusy c t
LeavesBy leaving.GoingOn c t = HasRow (λ (row : Client). is_at_rest row ≡ true) c t

-- Its link was lost: it ended at once; or it began anew, went on, and was ended.

pub record HasLeftAtOnce (link : LinkId) (c : ClientNo) (old new : Tabled) : Type 0 where
  pub links : List LinkId
  pub so : LeavesAtOnce link links c nobody old new

pub record HasLeftGoing (service : Service) (made : Made) (link : LinkId) (c : ClientNo) (old new : Tabled) : Type 0 where
  pub links : List LinkId
  pub ordinal : ℕ
  pub choices : List Choice
  pub halt : Halt
  pub parting : Parting
  pub ours : All (IsOurs (rules_in service) made.texts c) choices
  pub word : IsPartingOurs parting
  pub so : LeavesGoing service.setup service.default_schema link links ordinal choices halt parting c old new
  pub ruled : AreRuled (ruling_in service made) choices halt service.setup service.default_schema c so.between so.follows.turned so.follows.turns
