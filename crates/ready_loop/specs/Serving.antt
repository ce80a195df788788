-- What a serving loop keeps, and how it ends.
use Rattle.std.specs.Prelude.{◌≡◌, ◌⊎◌, ℕ, ◌+◌, ◌<◌, ◌≤◌, Bool, true, false, List, [], ◌∷◌, ◌++◌, length, filter, drop, Option, Some, None, IsSome, Result, OnOk, IfErr}
use Rattle.mx_base.specs.declared.names.LinkId.{LinkId}
use Rattle.mx_base.specs.declared.names.Port.TheVariants as port
use Rattle.mx_base.specs.declared.names.Address.{Address}
use Rattle.mx_wire.specs.Log.{Log, AreMarks}
use Rattle.mx_wire.specs.Moments.{AllLawful}
use Rattle.mx_wire.specs.Tells.{MayFollow, Tells}
use Rattle.mx_wire.specs.Offers.{HasOffered}
use Rattle.mx_wire.specs.declared.entry.Entry.{Entry}
use Rattle.mx_wire.specs.declared.entry.Entry.TheVariants as entry
use Rattle.mx_base.specs.Fields.{AreBytes}
use Rattle.mx_base.specs.Sent.{Sent}
use Rattle.ready_loop.specs.Machine.{StandsFor, IsFarewell, Target}
use Rattle.ready_loop.specs.Drained.{IsDrained, MayWait}
use Rattle.ready_loop.specs.Links.{dry_in, dry_of, is_read_dry, is_write_dry, mark_of}
use Rattle.ready_loop.specs.Queued.{Watches, IsSettled}
use Rattle.ready_loop.specs.Round.{CountsOf, calls_since_wake, wakes_of}
use Rattle.ready_loop.specs.declared.round.Round.{Round}
use Rattle.ready_loop.specs.declared.links.Mark.{Mark}
use Rattle.ready_loop.specs.declared.table.Table.{Table}
use Rattle.ready_loop.specs.declared.table.Call.{Call}
use Rattle.ready_loop.specs.declared.table.Call.TheVariants as call
use Rattle.ready_loop.specs.declared.ends.ServeEnd.{ServeEnd}
use Rattle.ready_loop.specs.declared.ends.ServeEnd.TheVariants.{Stopped, Over, ListenFault, TurnsSpent, OutOfMemory}

-- what a table says is true of the log
pub record Tracks (table : Table) (log : Log) : Type 0 where
  pub round : CountsOf table.round log
  pub links : (link : LinkId) → dry_of table.links link ≡ dry_in link log

pub record TracksFor (table : Table) (told : Option Log) : Type 0 where
  pub holds : (log : Log) → told ≡ Some log → Tracks table log

-- what holds between two calls of the wire
pub record Serves {M : Type 0} (stands : M → Log → Type 0) (reads : M → LinkId → Bool) (sends : M → LinkId → Option Sent) (changed : M → LinkId → Bool) (core : M) (table : Table) (told : Option Log) : Type 0 where
  pub standing : StandsFor stands core told
  pub tracks : TracksFor table told
  pub watches : Watches (reads core) (sends core) (changed core) table.links

-- what holds between two calls, once the machine's acts are done and where it hasn't stopped
pub record IsGoing {M : Type 0} (stands : M → Log → Type 0) (reads : M → LinkId → Bool) (sends : M → LinkId → Option Sent) (changed : M → LinkId → Bool) (is_stopped asks : M → Bool) (core : M) (table : Table) (told : Option Log) : Type 0 where
  pub serves : Serves stands reads sends changed core table told
  pub going : is_stopped core ≡ false
  pub acted : asks core ≡ false

-- the calls of a log, without the marks
abbrev pub is_call : Entry → Bool
is_call (entry.Exec link) = false
is_call (entry.Drop link) = false
is_call _ = true

abbrev pub calls_of : Log → Log
calls_of log = filter is_call log

-- the log begins by listening at both addresses, traffic first
abbrev pub IsListening : Address → Address → Log → Type 0
IsListening traffic admin log = (rest : Log) × (calls_of log ≡ entry.Listening port.Traffic traffic ∷ entry.Listening port.Admin admin ∷ rest)

-- What was listened at before the entry: before any other call both addresses, before the call for the second of them the first, and before the call
-- for the first nothing. So there is no third call of `listen`.
abbrev pub ListensBefore : Address → Address → Log → Entry → Type 0
ListensBefore traffic admin log (entry.Listening port.Traffic address) = (calls_of log ≡ []) × (address ≡ traffic)
ListensBefore traffic admin log (entry.ListenFailed port.Traffic) = calls_of log ≡ []
ListensBefore traffic admin log (entry.Listening port.Admin address) = (calls_of log ≡ entry.Listening port.Traffic traffic ∷ []) × (address ≡ admin)
ListensBefore traffic admin log (entry.ListenFailed port.Admin) = calls_of log ≡ entry.Listening port.Traffic traffic ∷ []
ListensBefore traffic admin log (entry.Exec link) = Unit {0}
ListensBefore traffic admin log (entry.Drop link) = Unit {0}
ListensBefore traffic admin log _ = IsListening traffic admin log

-- the router listened at both addresses, first of all, and at no others
pub record ListensFirst (traffic admin : Address) (told : Option Log) : Type 0 where
  pub holds : (log : Log) → told ≡ Some log → AllLawful (ListensBefore traffic admin) log

-- so far so, and it has listened at both
pub record ListeningFor (traffic admin : Address) (told : Option Log) : Type 0 where
  pub first : ListensFirst traffic admin told
  pub done : (log : Log) → told ≡ Some log → IsListening traffic admin log

-- the log only grows, and failures are only added to
pub record Advances {W R : Type 0} (told : W → Option Log) (ruled_by : W → R) (port_faults faults : W → ℕ) (old new : W) : Type 0 where
  pub ruled : ruled_by new ≡ ruled_by old
  pub grew : (log : Log) → told new ≡ Some log → (before : Log) × (told old ≡ Some before) × ((more : Log) × (log ≡ before ++ more))
  pub ports_failed : port_faults old ≤ port_faults new
  pub links_failed : faults old ≤ faults new

-- The wire advances, and the machine serves by what it served by; each write was offered all that is owed.
pub record Begins {M W R S : Type 0} (service : M → S) (owes : S → Log → LinkId → (piece : List ℕ) → Type 0) (told : W → Option Log) (ruled_by : W → R) (takes : R → Log → LinkId → (piece taken : List ℕ) → Type 0) (port_faults faults : W → ℕ)
    (core next : M) (old new : W) : Type 0 where
  pub advances : Advances told ruled_by port_faults faults old new
  pub serves_by : service next ≡ service core
  pub offered : HasOffered (owes (service core)) (takes (ruled_by old)) (told old) → HasOffered (owes (service next)) (takes (ruled_by new)) (told new)

-- So it does once it has listened, and it listens nowhere else.
pub record Proceeds {M W R S : Type 0} (service : M → S) (owes : S → Log → LinkId → (piece : List ℕ) → Type 0) (told : W → Option Log) (ruled_by : W → R) (takes : R → Log → LinkId → (piece taken : List ℕ) → Type 0) (port_faults faults : W → ℕ)
    (core next : M) (old new : W) : Type 0 where
  pub advances : Advances told ruled_by port_faults faults old new
  pub serves_by : service next ≡ service core
  pub offered : HasOffered (owes (service core)) (takes (ruled_by old)) (told old) → HasOffered (owes (service next)) (takes (ruled_by new)) (told new)
  pub listens : (traffic admin : Address) → ListeningFor traffic admin (told old) → ListeningFor traffic admin (told new)

-- the call of which the entry is the answer, where a wake may owe it
abbrev pub call_of : Entry → Option Call
call_of (entry.Accepted at link salt) = Some (call.Accept at)
call_of (entry.AcceptNothing at) = Some (call.Accept at)
call_of (entry.AcceptFailed at) = Some (call.Accept at)
call_of (entry.Named link) = Some call.Name
call_of entry.NoneNamed = Some call.Name
call_of (entry.Got link bytes) = Some (call.Read link)
call_of (entry.ReadNothing link) = Some (call.Read link)
call_of (entry.Ended link) = Some (call.Read link)
call_of (entry.ReadFailed link) = Some (call.Read link)
call_of (entry.Wrote link tag bytes) = Some (call.Write link)
call_of (entry.WriteNothing link) = Some (call.Write link)
call_of (entry.WriteFailed link) = Some (call.Write link)
call_of _ = None

-- the call was made, and no other
pub record Makes (made : Call) (old new : Option Log) : Type 0 where
  pub entry_of : Entry
  pub tells : Tells old entry_of new
  pub is : call_of entry_of ≡ Some made

-- since the last wake both ports found nobody, and each ready link was named
pub record IsAsked (round : Round) : Type 0 where
  pub traffic : round.traffic ≡ true
  pub admin : round.admin ≡ true
  pub named : round.named ≡ true

-- ports come first, then names, and then the link at the front of the queue, which is read before it is written
pub record IsAccepting (table : Table) (traffic admin : Bool) : Type 0 where
  pub traffic_asked : table.round.traffic ≡ traffic
  pub admin_asked : traffic ≡ true → table.round.admin ≡ admin

pub record IsNaming (table : Table) : Type 0 where
  pub traffic : table.round.traffic ≡ true
  pub admin : table.round.admin ≡ true
  pub named : table.round.named ≡ false

pub record IsReading (reads : Bool) (table : Table) (link : LinkId) : Type 0 where
  pub asked : IsAsked table.round
  pub first : table.links.queue.items ≡ link ∷ drop 1 table.links.queue.items
  pub wanted : reads ≡ true
  pub wet : is_read_dry table.links link ≡ Some false

pub record IsWriting (reads : Bool) (sends : Option Sent) (table : Table) (link : LinkId) : Type 0 where
  pub asked : IsAsked table.round
  pub first : table.links.queue.items ≡ link ∷ drop 1 table.links.queue.items
  pub read : reads ≡ true → is_read_dry table.links link ≡ Some true
  pub some : IsSome sends
  pub wet : is_write_dry table.links link ≡ Some false

abbrev pub IsOwed : (LinkId → Bool) → (LinkId → Option Sent) → Table → Call → Type 0
IsOwed reads sends table (call.Accept port.Traffic) = IsAccepting table false false
IsOwed reads sends table (call.Accept port.Admin) = IsAccepting table true false
IsOwed reads sends table call.Name = IsNaming table
IsOwed reads sends table (call.Read link) = IsReading (reads link) table link
IsOwed reads sends table (call.Write link) = IsWriting (reads link) (sends link) table link

-- no call is owed
pub record IsDone (reads : LinkId → Bool) (sends : LinkId → Option Sent) (changed : LinkId → Bool) (table : Table) : Type 0 where
  pub asked : IsAsked table.round
  pub settled : (link : LinkId) (mark : Mark) → mark_of table.links link ≡ Some mark → changed link ≡ false → IsSettled (reads link) (sends link) mark

-- the link's bytes, if there are any, are offered to one write
abbrev pub IsOffered : Option Sent → LinkId → Option Log → Option Log → Type 0
IsOffered None link old new = new ≡ old
IsOffered (Some sent) link old new = (e : Entry) × IsFarewell (Some sent) link e × Tells old e new

-- what is lent for a link is owed to it, also behind marks that its write tells of
pub record OwedFor (owes : Log → LinkId → (piece : List ℕ) → Type 0) (lent : Option Sent) (link : LinkId) (told : Option Log) : Type 0 where
  pub holds : (log marks : Log) (sent : Sent) → told ≡ Some log → AreMarks marks → length (log ++ marks) < 281474976710656 → lent ≡ Some sent → owes (log ++ marks) link sent.bytes

-- an offer is counted
abbrev pub offered_round : Option Sent → Round → Round
offered_round None round = round
offered_round (Some sent) round = record round { calls = round.calls + 1 }

-- a link is parted with: the offer, and then the close
pub record Parts (lent : Option Sent) (link : LinkId) (old new : Option Log) : Type 0 where
  pub offered : Option Log
  pub offer : IsOffered lent link old offered
  pub close : Tells offered (entry.Closed link) new

-- the last entry of the log, where it is told
pub record EndsWith (P : Entry → Type 0) (told : Option Log) : Type 0 where
  pub last : (log : Log) → told ≡ Some log → (before : Log) × ((e : Entry) × P e × (log ≡ before ++ e ∷ []))

abbrev pub IsOver : Entry → Type 0
IsOver entry.Over = Unit {0}
IsOver _ = ⊥

abbrev pub IsPortFault : Entry → Type 0
IsPortFault (entry.ListenFailed at) = Unit {0}
IsPortFault entry.WaitFailed = Unit {0}
IsPortFault (entry.AcceptFailed at) = Unit {0}
IsPortFault _ = ⊥

-- as many calls of the wire were made since the last wake as one may make
abbrev pub IsBusy : Log → Type 0
IsBusy log = 4294967296 ≤ calls_since_wake log

pub record BusyFor (told : Option Log) : Type 0 where
  pub holds : (log : Log) → told ≡ Some log → IsBusy log

-- the loop is due to wait, and so many waits woke
pub record IsOut (turns : ℕ) (reads : LinkId → Bool) (sends : LinkId → Option Sent) (log : Log) : Type 0 where
  pub woke : wakes_of log ≡ turns
  pub drained : IsDrained reads sends log

pub record SpentFor (turns : ℕ) (reads : LinkId → Bool) (sends : LinkId → Option Sent) (told : Option Log) : Type 0 where
  pub holds : (log : Log) → told ≡ Some log → IsOut turns reads sends log ⊎ IsBusy log

-- so many waits woke at most
pub record WokeFor (most : ℕ) (told : Option Log) : Type 0 where
  pub holds : (log : Log) → told ≡ Some log → wakes_of log ≤ most

-- The machine wanted the call whose answer the entry is, and memory may be wanted for that answer: it was told all there was before a wait, which is
-- until the moment that it named; an open is the one that it awaits; and all that it asked for was done before a link was accepted, read or written.
abbrev pub IsWanted : {M : Type 0} → (M → LinkId → Bool) → (M → LinkId → Option Sent) → (M → Bool) → (M → ℕ) → (M → Option Target) → M → Log → Entry → Type 0
IsWanted reads sends asks until awaits machine log (entry.Woke until_ms now_ms) = MayWait (reads machine) (sends machine) (asks machine) log × (until_ms ≡ until machine)
IsWanted reads sends asks until awaits machine log (entry.Named link) = Unit {0}
IsWanted reads sends asks until awaits machine log (entry.Accepted at link salt) = asks machine ≡ false
IsWanted reads sends asks until awaits machine log (entry.Opened server address link) = awaits machine ≡ Some (record { server = server; address = address })
IsWanted reads sends asks until awaits machine log (entry.OpenFailed server address) = awaits machine ≡ Some (record { server = server; address = address })
IsWanted reads sends asks until awaits machine log (entry.Got link bytes) = (asks machine ≡ false) × AreBytes bytes
IsWanted reads sends asks until awaits machine log (entry.Ended link) = asks machine ≡ false
IsWanted reads sends asks until awaits machine log (entry.ReadFailed link) = asks machine ≡ false
IsWanted reads sends asks until awaits machine log (entry.WriteFailed link) = asks machine ≡ false
IsWanted reads sends asks until awaits machine log _ = ⊥

-- the last call of a log, by whose answer memory was refused
pub record Refuses {M : Type 0} (wanted : M → Log → Entry → Type 0) (machine : M) (before log : Log) : Type 0 where
  pub marks : Log
  pub only_marks : AreMarks marks
  pub last : Entry
  pub is_wanted : wanted machine (before ++ marks) last
  pub follows : MayFollow (before ++ marks) last
  pub is : log ≡ before ++ marks ++ last ∷ []

-- A machine that serves by what this one serves by stood for the log, but for the call by whose answer memory was refused, which it wanted.
pub record Stood {M S : Type 0} (stands : M → Log → Type 0) (wanted : M → Log → Entry → Type 0) (service : M → S) (core : M) (log : Log) : Type 0 where
  pub machine : M
  pub serves_by : service machine ≡ service core
  pub before : Log
  pub stood : stands machine before
  pub but : (log ≡ before) ⊎ Refuses wanted machine before log

pub record StoodFor {M S : Type 0} (stands : M → Log → Type 0) (wanted : M → Log → Entry → Type 0) (service : M → S) (core : M) (told : Option Log) : Type 0 where
  pub holds : (log : Log) → told ≡ Some log → Stood stands wanted service core log

-- how the loop ends, and what stands then
pub record EndsSo {M : Type 0} (stands : M → Log → Type 0) (wakes : ℕ) (core : M) (told : Option Log) (is should : Bool) (last : Option Log → Type 0) : Type 0 where
  pub standing : StandsFor stands core told
  pub halted : is ≡ should
  pub woke : WokeFor wakes told
  pub so : last told

abbrev pub Ends : {M S : Type 0} → (M → Log → Type 0) → (M → Log → Entry → Type 0) → (M → S) → (M → Bool) → ℕ → (Option Log → Type 0) → M → Option Log → ServeEnd → Type 0
Ends stands wanted service is_stopped wakes spent core told Stopped = EndsSo stands wakes core told (is_stopped core) true (λ t. Unit {0})
Ends stands wanted service is_stopped wakes spent core told Over = EndsSo stands wakes core told (is_stopped core) false (EndsWith IsOver)
Ends stands wanted service is_stopped wakes spent core told ListenFault = EndsSo stands wakes core told (is_stopped core) false (EndsWith IsPortFault)
Ends stands wanted service is_stopped wakes spent core told TurnsSpent = EndsSo stands wakes core told (is_stopped core) false spent
Ends stands wanted service is_stopped wakes spent core told OutOfMemory = StoodFor stands wanted service core told

-- how the loop ends, and that a fault of a port has its cause
pub record Breaks {M S : Type 0} (stands : M → Log → Type 0) (wanted : M → Log → Entry → Type 0) (service : M → S) (is_stopped : M → Bool) (wakes : ℕ) (core : M) (told : Option Log) (faults_before faults_now : ℕ) (end : ServeEnd) : Type 0 where
  pub ends : Ends stands wanted service is_stopped wakes BusyFor core told end
  pub rose : end ≡ ListenFault → faults_before < faults_now

-- the call was made, and no other, and is counted; the loop goes on, or ends by what the call answered
pub record HasMade {M W R S A : Type 0} (stands : M → Log → Type 0) (wanted : M → Log → Entry → Type 0) (is_stopped : M → Bool) (service : M → S) (owes : S → Log → LinkId → (piece : List ℕ) → Type 0) (told : W → Option Log) (ruled_by : W → R)
    (takes : R → Log → LinkId → (piece taken : List ℕ) → Type 0) (port_faults faults : W → ℕ) (made : Call) (core next : M) (old new : W) (before now : Round) (result : Result A ServeEnd) : Type 0 where
  pub made_it : Makes made (told old) (told new)
  pub more : OnOk result (before.calls < now.calls)
  pub wakes : now.wakes ≡ before.wakes
  pub ends : IfErr result (Breaks stands wanted service is_stopped now.wakes next (told new) (port_faults old) (port_faults new))
  pub proceeds : Proceeds service owes told ruled_by takes port_faults faults core next old new
