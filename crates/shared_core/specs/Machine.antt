-- The core as a machine: how it stands for a log, and what its router is told.
use Rattle.std.specs.Prelude.{◌≡◌, ◌&&◌, ℕ, Bool, false, true, List, None, Option, IsSome}
use Rattle.std.specs.Option.{option_map}
use Rattle.mx_wire.specs.Log.{Log}
use Rattle.mx_wire.specs.declared.entry.Entry.{Entry}
use Rattle.ready_loop.specs.Machine.{IsToldOf}
use Rattle.ready_loop.specs.declared.machines.Event.{Event}
use Rattle.ready_loop.specs.declared.machines.Event.TheVariants as event
use Rattle.core_policy.specs.declared.asks.Asked.{Asked}
use Rattle.core_service.specs.declared.service.Service.{Service}
use Rattle.marked_tables.specs.Goes.{AreKnown, reads_on}
use Rattle.router_laws.specs.waits.Drained.{IsDrainedFor}
use Rattle.shared_core.specs.Says.{target_of}
use Rattle.shared_core.specs.Stands.{CarriesWhere, IsClosed, IsSettled, PartsFor, shown, tables}
use Rattle.shared_core.specs.declared.whole.Core.{Core}
use Rattle.shared_core.specs.declared.router.Router.{Router}

-- what it serves by, but for rules that were loaded
abbrev pub unloaded : Core → Service
unloaded core = record core.service { loaded = None }

-- it has shut down, as an administrator wanted
abbrev pub is_stopped : Core → Bool
is_stopped core = core.router.stopped && core.router.came.administrator

-- only what administrators work on is another
abbrev pub IsRuledAnew : (old new : Router) → Type 0
IsRuledAnew old new = new ≡ record old { admin = new.admin }

-- It does all closes that it asks for before anything else happens.
pub record IsStanding (core : Core) (log : Log) : Type 0 where
  pub stands : PartsFor core.service log (shown core.router)
  pub acted : core.router.acting ≡ false → IsClosed (shown core.router)
  pub opening : IsSome core.router.asked → IsClosed (shown core.router)
  pub known : AreKnown core.router.marked

-- bytes come of a link that is to be read, and the loop wakes where nothing was left to read or to write
abbrev pub IsDueIn : Router → Event → Log → Type 0
IsDueIn r (event.Got link) log = reads_on r.marked link ≡ true
IsDueIn r (event.Woke now_ms) log = IsDrainedFor (tables r) log
IsDueIn r _ log = Unit {0}

-- The router carries over whatever entry it is told of by an event, where all rules that were loaded are in force.
abbrev pub Tells : Service → Event → (bytes : List ℕ) → (old new : Router) → Type 0
Tells service event bytes old new =
    IsSettled old → (until_ms : ℕ) (e : Entry) → IsToldOf until_ms (option_map target_of old.asked) event bytes e → CarriesWhere (IsDueIn old event) service e old new
