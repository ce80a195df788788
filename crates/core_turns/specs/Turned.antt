-- What code makes of the tables as it takes up a client's messages, up to where the client leaves.
use Rattle.std.specs.Prelude.{◌≡◌, ◌<◌, ◌+◌, ℕ, nat_lt, Bool, true, false, ◌&&◌, All, List, [], ◌∷◌, Option, None, Some, is_some}
use Rattle.std.specs.List.{list_all}
use Rattle.std.specs.Option.{option_map_or}
use Rattle.mx_base.specs.declared.names.ClientNo.{ClientNo}
use Rattle.mx_base.specs.declared.names.Hostgroup.{Hostgroup}
use Rattle.own_words.specs.Own.{IsOwnAnswer}
use Rattle.client_session.specs.Answers.{is_quit}
use Rattle.client_session.specs.Setups.{Setup as Service}
use Rattle.client_side.specs.declared.stage.Stage.TheVariants.{Commands}
use Rattle.client_seat.specs.Seats.{is_ended}
use Rattle.client_seat.specs.declared.next.Next.TheVariants as next
use Rattle.client_desk.specs.declared.session.Session.{Session}
use Rattle.log_story.specs.Plan.{Route}
use Rattle.core_laws.specs.taking.Takes.{is_reset}
use Rattle.core_tables.specs.Arrivals.{looked, turn}
use Rattle.core_tables.specs.Tables.{IsSame, Tabled}
use Rattle.core_tables.specs.Taking.{IsUpOr}
use Rattle.core_tables.specs.declared.client.Client.{Client}
use Rattle.core_laws.specs.clients.Turns.{Answers, Choice, ComesUp, Ends, Goes, GoesBy, Halt, IsLookedAt, IsTurn, Keyed, MayLeave, Quits, Rests, RestsThere, Turns, Waits, WaitsThere, waits_at}
use Rattle.core_promises.specs.Judges.{IsRoutedFor}
use Rattle.core_laws.specs.clients.Found.{desk_up}
use Rattle.core_promises.specs.Administers.{Administered}
use Rattle.core_promises.specs.Ruled.{AreKept, AreRuled, IsRuled, MakesNothing, Ruling, from, situation_up, until}
use Rattle.core_turns.specs.Taken.{AreUnder}
use Rattle.core_turns.specs.declared.turn.Stop.{Stop}
use Rattle.core_turns.specs.declared.turn.Stop.TheVariants as stops
use Rattle.core_turns.specs.declared.turn.Turn.{Turn}
use Rattle.core_turns.specs.declared.turn.Turn.TheVariants as turns
use Rattle.core_turns.specs.declared.turn.Went.{Went}

-- nobody is there, or the client ended
abbrev pub is_away : Option Client → Bool
is_away row = option_map_or (λ (client : Client). is_ended client.desk.seat.phase) row true

-- Its next message has a number, and so have the lives that it would begin.

abbrev pub has_life : Session → Bool
has_life s = nat_lt s.life 18446744073709551615

abbrev pub is_able : Client → Bool
is_able row =
    nat_lt row.desk.seat.client.arrived 18446744073709551615 && nat_lt row.desk.lefts 18446744073709551615 && list_all has_life row.desk.sessions

pub record IsAble (row : Client) : Type 0 where
  pub few : row.desk.seat.client.arrived + 1 < 18446744073709551616
  pub lives : MayLeave row

-- and whether it waits for a capture
pub record IsLookable (waits : Bool) (row : Client) : Type 0 where
  pub able : IsAble row
  pub is : waits_at row ≡ waits

-- Its login is denied, or its bytes are no messages: it is told so, and is to leave.
pub record IsToEnd (service : Service) (default : List ℕ) (c : ClientNo) (old new : Tabled) : Type 0 where
  pub row : Client
  pub looks : IsLookedAt service default c old row next.Ended
  pub lives : MayLeave row
  pub same : IsSame new (looked service default c old)

-- It says that it quits, and is to leave.
pub record IsToQuit (service : Service) (default : List ℕ) (c : ClientNo) (old new : Tabled) : Type 0 where
  pub up : ComesUp service default c old new
  pub past_login : (turn service default up.row.desk.seat).client.stage ≡ Commands
  pub quits_only : is_reset up.message ≡ false
  pub says : is_quit up.message.payload ≡ true
  pub lives : MayLeave up.row

abbrev pub StopsSo : Halt → Service → (default : List ℕ) → ClientNo → (old new : Tabled) → Type 0
StopsSo Waits service default c old new = WaitsThere c old new
StopsSo Rests service default c old new = RestsThere service default c old new
StopsSo Quits service default c old new = IsToQuit service default c old new
StopsSo Ends service default c old new = IsToEnd service default c old new

-- Turns by these choices, which are what the verdict says of what came up, and then this end: with the leaving, and but for it.

abbrev pub TurnsBy : Type 1
TurnsBy = Ruling → List Choice → Halt → Service → (default : List ℕ) → ClientNo → (old new : Tabled) → Type 0

abbrev pub RuledTurns : TurnsBy
RuledTurns ruling choices halt service default c old new =
    (turns : Turns choices halt service default c old new) × AreRuled ruling choices halt service default c old new turns

abbrev pub IsRuledTurn : Ruling → Choice → Service → (default : List ℕ) → ClientNo → (old new : Tabled) → Type 0
IsRuledTurn ruling choice service default c old new =
    (turn : IsTurn choice service default c old new) × IsRuled ruling choice service default c old new turn

abbrev pub TurnsUntil : TurnsBy
TurnsUntil ruling [] halt service default c old new = StopsSo halt service default c old new × MakesNothing ruling
TurnsUntil ruling (choice ∷ others) halt service default c old new =
    (between : Tabled) × (then : Administered)
    × (IsRuledTurn (until ruling then) choice service default c old between × TurnsUntil (from ruling then) others halt service default c between new)

-- By what code says of it.

abbrev pub halt_of : Stop → Halt
halt_of stops.Waits = Waits
halt_of stops.Rests = Rests
halt_of stops.Ends = Ends
halt_of (stops.Quits flag) = Quits

-- its statement goes to this hostgroup alone
pub record IsDueIn (hostgroup : Hostgroup) (ruling : Ruling) (service : Service) (default : List ℕ) (c : ClientNo) (old new : Tabled) : Type 0 where
  pub route : Route
  pub keyed : List Keyed
  pub goes : GoesBy service default route keyed c old new
  pub there : route.hostgroup ≡ hostgroup
  pub single : route.mirror ≡ None
  pub under : AreUnder ruling.keys keyed
  pub prepares : 0 < route.number → is_some (ruling.keys route.key) ≡ true
  pub ruled : AreKept ruling (desk_up service default goes.up.row).seat.statements
      → IsRoutedFor ruling.book (situation_up ruling.keys service default goes.up.row) ruling.keys c goes.up.message.payload route
  pub nothing : MakesNothing ruling

abbrev pub IsTurned : Turn → Ruling → Service → (default : List ℕ) → ClientNo → (old new : Tabled) → Type 0
IsTurned (turns.Stops stop) ruling service default c old new = StopsSo (halt_of stop) service default c old new × MakesNothing ruling
IsTurned turns.Answered ruling service default c old new =
    (payloads : List (List ℕ)) × IsOwnAnswer ruling.book.rules c payloads × IsRuledTurn ruling (Answers payloads) service default c old new
IsTurned (turns.Due hostgroup) ruling service default c old new = IsDueIn hostgroup ruling service default c old new

-- One turn, and all that it makes as it goes on, up to where it leaves. No copies are made of its messages, what the router answers is in its
-- own words, and what becomes of each is what the verdict says. What is prepared so stands under the keys that there are then.

abbrev pub IsSaid : Ruling → ClientNo → Choice → Type 0
IsSaid ruling c (Goes route keyed) =
    (route.mirror ≡ None) × AreUnder ruling.keys keyed × (0 < route.number → is_some (ruling.keys route.key) ≡ true)
IsSaid ruling c (Answers payloads) = IsOwnAnswer ruling.book.rules c payloads

pub record HasChosen (ruling : Ruling) (service : Service) (default : List ℕ) (c : ClientNo) (old new : Tabled) : Type 0 where
  pub choice : Choice
  pub said : IsSaid ruling c choice
  pub turns : IsRuledTurn ruling choice service default c old new

abbrev pub HasGoneFurther : Option Stop → Ruling → Service → (default : List ℕ) → ClientNo → (old new : Tabled) → Type 0
HasGoneFurther None ruling service default c old new = HasChosen ruling service default c old new
HasGoneFurther (Some stop) ruling service default c old new = StopsSo (halt_of stop) service default c old new × MakesNothing ruling

pub record HasGone (turns : TurnsBy) (stop : Stop) (ruling : Ruling) (service : Service) (default : List ℕ) (c : ClientNo) (old new : Tabled) : Type 0 where
  pub going : is_away (old.clients c) ≡ false
  pub choices : List Choice
  pub said : All (IsSaid ruling c) choices
  pub turned : turns ruling choices (halt_of stop) service default c old new

pub record IsAbsent (c : ClientNo) (old new : Tabled) : Type 0 where
  pub away : is_away (old.clients c) ≡ true
  pub same : IsSame new old

abbrev pub HasGoneOn : TurnsBy → Option Went → Ruling → Service → (default : List ℕ) → ClientNo → (old new : Tabled) → Type 0
HasGoneOn turns None ruling service default c old new = IsAbsent c old new × MakesNothing ruling
HasGoneOn turns (Some went) ruling service default c old new = HasGone turns went.stop ruling service default c old new

-- what a client is by which code has it leave
abbrev pub MayLeaveBy : Stop → Option Client → Type 0
MayLeaveBy (stops.Quits flag) row = IsUpOr row
MayLeaveBy stop row = Unit {0}

abbrev pub MayLeaveIf : Option Went → Option Client → Type 0
MayLeaveIf None row = Unit {0}
MayLeaveIf (Some went) row = MayLeaveBy went.stop row

-- where somebody is there
abbrev pub IsTurnedIf : Option Turn → Ruling → Service → (default : List ℕ) → ClientNo → (old new : Tabled) → Type 0
IsTurnedIf None ruling service default c old new = IsAbsent c old new × MakesNothing ruling
IsTurnedIf (Some turn) ruling service default c old new = (is_away (old.clients c) ≡ false) × IsTurned turn ruling service default c old new
