-- That the turns are ruled of all who go on at an entry: what becomes of what came up is what the verdict says.
use Rattle.std.specs.Prelude.{◌≡◌, ℕ, List, [], ◌∷◌, Option, Some, None}
use Rattle.client_session.specs.Setups.{Setup as Service}
use Rattle.core_tables.specs.Tables.{Tabled}
use Rattle.core_tables.specs.declared.client.Client.{Client}
use Rattle.core_service.specs.Serves.{rules_in}
use Rattle.core_service.specs.declared.service.Service.{Service as Serving}
use Rattle.core_laws.specs.clients.Going.{GoesSo, Going}
use Rattle.core_promises.specs.Administers.{Administered}
use Rattle.core_promises.specs.Ruled.{AreKept, AreRuled, MakesNothing, Ruling, from, until}
use Rattle.router_laws.specs.wakes.Calling.{AllGoOn, Caller}

-- the texts of what a client has prepared are kept, if it is there
abbrev pub AreKeptIn : Ruling → Option Client → Type 0
AreKeptIn ruling found = (row : Client) → found ≡ Some row → AreKept ruling row.desk.seat.statements

-- of the one client, if any, that goes on
abbrev pub IsRuledOn : Ruling → (going : Option Going) → (service : Service) → (default : List ℕ) → (old new : Tabled)
    → GoesSo going service default old new → Type 0
IsRuledOn ruling None service default old new so = MakesNothing ruling
IsRuledOn ruling (Some going) service default old new so =
    AreRuled ruling going.choices going.halt service default going.client old so.turned so.turns

-- messages are judged by the rules that administrators have in force, where one goes on
abbrev pub IsSettledFor : (going : Option Going) → Serving → (was : Administered) → Type 0
IsSettledFor None service was = Unit {0}
IsSettledFor (Some going) service was = was.rules ≡ rules_in service

-- of each that is called
abbrev pub AreRuledAll : Ruling → (callers : List Caller) → (service : Service) → (default : List ℕ) → (old new : Tabled)
    → AllGoOn callers service default old new → Type 0
AreRuledAll ruling [] service default old new so = MakesNothing ruling
AreRuledAll ruling (caller ∷ others) service default old new so =
    (then : Administered)
    × (AreRuled (until ruling then) caller.choices caller.halt service default caller.client old so.1.turned so.1.turns
    × AreRuledAll (from ruling then) others service default so.0 new so.2)
