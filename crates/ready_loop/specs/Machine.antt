-- How a machine stands for a log.
use Rattle.std.specs.Prelude.{◌≡◌, ◌⊎◌, ℕ, Bool, false, List, [], ◌∷◌, ◌++◌, take, Option, Some, None, IsSome}
use Rattle.mx_base.specs.declared.names.LinkId.{LinkId}
use Rattle.mx_base.specs.declared.names.ServerId.{ServerId}
use Rattle.mx_base.specs.declared.names.Address.{Address}
use Rattle.mx_base.specs.declared.tag.Tag.{Tag}
use Rattle.mx_base.specs.Sent.{Sent}
use Rattle.mx_wire.specs.Log.{Log, AreMarks}
use Rattle.mx_wire.specs.Tells.{IsOpen, MayFollow, Tells}
use Rattle.mx_wire.specs.declared.entry.Entry.{Entry}
use Rattle.mx_wire.specs.declared.entry.Entry.TheVariants as entry
use Rattle.ready_loop.specs.declared.machines.Event.{Event}
use Rattle.ready_loop.specs.declared.machines.Event.TheVariants as event
use Rattle.ready_loop.specs.declared.machines.Act.{Act}
use Rattle.ready_loop.specs.declared.machines.Act.TheVariants as act

-- a server that is to be connected to
pub record Target : Type 0 where
  pub server : ServerId
  pub address : Address

-- the machine stands for the log, where it is told
pub record StandsFor {M : Type 0} (stands : M → Log → Type 0) (machine : M) (told : Option Log) : Type 0 where
  pub holds : (log : Log) → told ≡ Some log → stands machine log

-- whatever log it stood for, it stands for that log with this entry, where the entry may follow and was due
pub record CarriesOver {M : Type 0} (stands : M → Log → Type 0) (due : M → Log → Entry → Type 0) (old new : M) (e : Entry) : Type 0 where
  pub carried : (log : Log) → MayFollow log e → due old log e → stands old log → stands new (log ++ e ∷ [])

-- it stands for what it stood for
pub record Keeps {M : Type 0} (stands : M → Log → Type 0) (old new : M) : Type 0 where
  pub kept : (log : Log) → stands old log → stands new log

-- a link to a server opens only where it was asked for
abbrev pub IsHeard : Option Target → Event → Type 0
IsHeard awaited (event.Opened server link) = (address : Address) × (awaited ≡ Some (record { server = server; address = address }))
IsHeard awaited (event.OpenFailed server) = (address : Address) × (awaited ≡ Some (record { server = server; address = address }))
IsHeard awaited _ = Unit {0}

-- the acts that a machine asked for are done before it is told of anything but what an open answered
abbrev pub HasActed : Bool → Event → Type 0
HasActed asks (event.Opened server link) = Unit {0}
HasActed asks (event.OpenFailed server) = Unit {0}
HasActed asks _ = asks ≡ false

abbrev pub IsAwaited : Option Target → Act → Type 0
IsAwaited awaited (act.Open server address) = awaited ≡ Some (record { server = server; address = address })
IsAwaited awaited (act.Close link) = Unit {0}

-- an event is told of this entry
abbrev pub IsToldOf : ℕ → Option Target → Event → List ℕ → Entry → Type 0
IsToldOf until_ms awaited (event.Woke now_ms) bytes e = e ≡ entry.Woke until_ms now_ms
IsToldOf until_ms awaited (event.Accepted port link salt) bytes e = e ≡ entry.Accepted port link salt
IsToldOf until_ms awaited (event.Opened server link) bytes e = (address : Address) × (awaited ≡ Some (record { server = server; address = address })) × (e ≡ entry.Opened server address link)
IsToldOf until_ms awaited (event.OpenFailed server) bytes e = (address : Address) × (awaited ≡ Some (record { server = server; address = address })) × (e ≡ entry.OpenFailed server address)
IsToldOf until_ms awaited (event.Got link) bytes e = e ≡ entry.Got link bytes
IsToldOf until_ms awaited (event.Ended link) bytes e = e ≡ entry.Ended link
IsToldOf until_ms awaited (event.Failed link) bytes e = (e ≡ entry.ReadFailed link) ⊎ (e ≡ entry.WriteFailed link)

-- bytes of a lent piece, from its beginning
pub record IsPartOf (lent : Option Sent) (tag : Tag) (bytes : List ℕ) : Type 0 where
  pub sent : Sent
  pub is : lent ≡ Some sent
  pub same_tag : tag ≡ sent.tag
  pub front : (n : ℕ) × (bytes ≡ take n sent.bytes)

-- the one write that a link is offered before it closes
abbrev pub IsFarewell : Option Sent → LinkId → Entry → Type 0
IsFarewell lent link (entry.Wrote to tag bytes) = (to ≡ link) × IsPartOf lent tag bytes
IsFarewell lent link (entry.WriteNothing to) = to ≡ link
IsFarewell lent link (entry.WriteFailed to) = to ≡ link
IsFarewell lent link _ = ⊥

-- an open link closes, after a farewell where there are bytes for it, and else without one
pub record Closes {M : Type 0} (stands : M → Log → Type 0) (due : M → Log → Entry → Type 0) (old new : M) (lent : Option Sent) (link : LinkId) : Type 0 where
  pub opened : (log : Log) → stands old log → IsOpen link log
  pub plain : lent ≡ None → CarriesOver stands due old new (entry.Closed link)
  pub offered : IsSome lent → (log : Log) (e : Entry) (marks : Log) → IsFarewell lent link e → AreMarks marks → MayFollow log e → MayFollow (log ++ e ∷ [] ++ marks) (entry.Closed link) → stands old log → stands new (log ++ e ∷ [] ++ marks ++ entry.Closed link ∷ [])

-- what an act leaves to do
abbrev pub Acts : {M : Type 0} → (M → Log → Type 0) → (M → Log → Entry → Type 0) → (M → LinkId → Option Sent) → M → M → Option Act → Type 0
Acts stands due sends old new (Some (act.Close link)) = Closes stands due old new (sends new link) link
Acts stands due sends old new (Some (act.Open server address)) = Keeps stands old new
Acts stands due sends old new None = Keeps stands old new

-- what is lent for the one write before a close is owed
abbrev pub OwesFarewell : {M : Type 0} → (M → Log → Type 0) → (Log → LinkId → (piece : List ℕ) → Type 0) → (M → LinkId → Option Sent) → M → M → Option Act → Type 0
OwesFarewell stands owes sends old new (Some (act.Close link)) = (log : Log) (sent : Sent) → stands old log → sends new link ≡ Some sent → owes log link sent.bytes
OwesFarewell stands owes sends old new _ = Unit {0}

-- one call that adds such an entry, or none
pub record MayTell (P : Entry → Type 0) (old new : Option Log) : Type 0 where
  pub either : (new ≡ old) ⊎ ((e : Entry) × P e × Tells old e new)

-- entries that no machine is told of
abbrev pub IsQuiet : Entry → Type 0
IsQuiet (entry.Listening port address) = Unit {0}
IsQuiet (entry.ListenFailed port) = Unit {0}
IsQuiet (entry.Named link) = Unit {0}
IsQuiet entry.NoneNamed = Unit {0}
IsQuiet (entry.AcceptNothing port) = Unit {0}
IsQuiet (entry.AcceptFailed port) = Unit {0}
IsQuiet (entry.ReadNothing link) = Unit {0}
IsQuiet (entry.WriteNothing link) = Unit {0}
IsQuiet entry.WaitFailed = Unit {0}
IsQuiet entry.Over = Unit {0}
IsQuiet (entry.Exec link) = Unit {0}
IsQuiet (entry.Drop link) = Unit {0}
IsQuiet _ = ⊥
