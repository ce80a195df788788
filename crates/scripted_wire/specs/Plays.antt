-- Which logs a wire of scripts tells: those that its clients and servers give, call by call.
use Rattle.std.specs.Prelude.{◌≡◌, ℕ, zero, suc, ◌+◌, Bool, true, false, ◌||◌, List, [], ◌∷◌, ◌++◌, length, set, slice_get, take, Option, Some, None}
use Rattle.mx_base.specs.declared.names.LinkId.{LinkId}
use Rattle.mx_base.specs.declared.names.Port.TheVariants as port
use Rattle.mx_base.specs.declared.names.ServerId.{ServerId}
use Rattle.mx_wire.specs.Adds.{Adds}
use Rattle.mx_wire.specs.Log.{Log}
use Rattle.mx_wire.specs.declared.entry.Entry.{Entry}
use Rattle.mx_wire.specs.declared.entry.Entry.TheVariants as entry
use Rattle.mx_wire.specs.declared.wire.Got.TheVariants as got
use Rattle.server_rule.specs.Servers.{Step}
use Rattle.scripted_wire.specs.Giving.{IsAtEnd}
use Rattle.scripted_wire.specs.Hosts.{Hosted, index_of}
use Rattle.scripted_wire.specs.Links.{LinkServed, ends, link_served, read_on, unread}
use Rattle.scripted_wire.specs.Marks.{is_work, marks_of}
use Rattle.scripted_wire.specs.Scripts.{Scripts}
use Rattle.scripted_wire.specs.Stages.{Accepts, Changes, IsFirst, Opens, Writes, awake, closes, is_over, news_from}
use Rattle.scripted_wire.specs.declared.link.Link.{Link}
use Rattle.scripted_wire.specs.declared.script.Script.{Script}
use Rattle.scripted_wire.specs.declared.stage.Stage.{Stage}

-- the data that the servers have at first, and what the clients say
pub record Cast : Type 0 where
  pub stored : List (List ℕ)
  pub scripts : List Script

abbrev pub cast_of : List (Hosted × Scripts) → Cast
cast_of [] = record { stored = []; scripts = [] }
cast_of (first ∷ rest) = record { stored = first.0.stored; scripts = first.1.scripts }

-- where clients, links and servers stand
pub record Scene : Type 0 where
  pub stage : Stage
  pub hosted : Hosted

-- nobody has come, and servers have no session
pub record IsBegun (cast : Cast) (scene : Scene) : Type 0 where
  pub stage : IsFirst cast.scripts scene.stage
  pub hosted : scene.hosted ≡ record { stored = cast.stored; seats = [] }

-- What servers do at a wake, in the order of their links, on the first so many: the links and servers behind that, the marks of it, and whether one did
-- anything.

pub record AllServed : Type 0 where
  pub links : List Link
  pub hosted : Hosted
  pub marks : Log
  pub worked : Bool

abbrev pub with_served : (at : ℕ) → LinkServed → AllServed → AllServed
with_served at it so = record {
  links = set so.links at it.link;
  hosted = it.hosted;
  marks = so.marks ++ marks_of (record { 0 = at }) it.did;
  worked = so.worked || is_work it.did;
}

abbrev pub served_at : Step → (at : ℕ) → Option Link → AllServed → AllServed
served_at step at None so = so
served_at step at (Some link) so = with_served at (link_served step link so.hosted) so

abbrev pub served_next : Step → (at : ℕ) → AllServed → AllServed
served_next step at so = served_at step at (slice_get so.links at) so

abbrev pub served_to : Step → (count : ℕ) → List Link → Hosted → AllServed
served_to step zero links hosted = record { links = links; hosted = hosted; marks = []; worked = false }
served_to step (suc count) links hosted = served_next step count (served_to step count links hosted)

pub record ServesTo (step : Step) (count : ℕ) (old : Stage) (hosted : Hosted) (told : Option Log) (worked : Bool) (new : Stage) (after : Hosted) (later : Option Log) : Type 0 where
  pub frame : new ≡ record old { links = new.links }
  pub marks : Log
  pub is : record { links = new.links.items; hosted = after; marks = marks; worked = worked } ≡ served_to step count old.links.items hosted
  pub adds : Adds told marks later

-- all servers do it, and that is told by these marks
pub record AreServed (step : Step) (old : Scene) (marks : Log) (worked : Bool) (stage : Stage) (hosted : Hosted) : Type 0 where
  pub frame : stage ≡ record old.stage { links = stage.links }
  pub is : record { links = stage.links.items; hosted = hosted; marks = marks; worked = worked } ≡ served_to step (length old.stage.links.items) old.stage.links.items old.hosted

-- then a wake begins
pub record Wakes (step : Step) (now_ms : ℕ) (old : Scene) (marks : Log) (new : Scene) : Type 0 where
  pub worked : Bool
  pub stage : Stage
  pub served : AreServed step old marks worked stage new.hosted
  pub wakes : new.stage ≡ awake now_ms stage

-- or nothing was done, and nothing is to come
pub record Ends (step : Step) (old : Scene) (marks : Log) (new : Scene) : Type 0 where
  pub served : AreServed step old marks false new.stage new.hosted
  pub over : is_over new.stage ≡ true

-- What calls tell of clients and links. Nobody comes at the port of administrators. Where calls fail, nothing changes.

abbrev pub ReadsBytes : Option Link → (bytes : List ℕ) → Type 0
ReadsBytes None bytes = ⊥
ReadsBytes (Some link) bytes = bytes ≡ take (length bytes) (unread link.peer)

abbrev pub HasRead : Option Link → (ended : Bool) → Type 0
HasRead None ended = ended ≡ false
HasRead (Some link) ended = IsAtEnd (unread link.peer) (ends link.peer) ended

-- the next client comes on this link
pub record ComesOn (link : LinkId) (old new : Stage) : Type 0 where
  pub next : link.0 ≡ length old.links.items
  pub comes : Accepts true old new

-- a link to the server comes
pub record OpensTo (servers : ℕ) (server : ServerId) (link : LinkId) (old new : Stage) : Type 0 where
  pub next : link.0 ≡ length old.links.items
  pub at : ℕ
  pub place : index_of servers server ≡ Some at
  pub opens : Opens at old new

-- the link is the next of which there is something new, where it is one
pub record Names (named : Option ℕ) (old new : Stage) : Type 0 where
  pub is : named ≡ news_from old.links.items old.next
  pub frame : new ≡ record old { next = new.next }

abbrev pub Does : (servers : ℕ) → Entry → (old new : Stage) → Type 0
Does servers (entry.Named link) old new = Names (Some link.0) old new
Does servers entry.NoneNamed old new = Names None old new
Does servers (entry.Accepted port.Traffic link salt) old new = ComesOn link old new
Does servers (entry.Accepted port.Admin link salt) old new = ⊥
Does servers (entry.AcceptNothing port.Traffic) old new = Accepts false old new
Does servers (entry.Opened server address link) old new = OpensTo servers server link old new
Does servers (entry.Got link bytes) old new = ReadsBytes (slice_get old.links.items link.0) bytes × Changes (read_on (got.Got (length bytes))) link.0 old new
Does servers (entry.ReadNothing link) old new = HasRead (slice_get old.links.items link.0) false × Changes (read_on got.NotReady) link.0 old new
Does servers (entry.Ended link) old new = HasRead (slice_get old.links.items link.0) true × Changes (read_on got.End) link.0 old new
Does servers (entry.Wrote link tag bytes) old new = Writes bytes link.0 old new
Does servers (entry.Closed link) old new = Changes closes link.0 old new
Does servers _ old new = new ≡ old

-- servers do nothing then
pub record IsCall (old : Scene) (marks : Log) (e : Entry) (new : Scene) : Type 0 where
  pub unmarked : marks ≡ []
  pub does : Does (length old.hosted.stored) e old.stage new.stage
  pub hosted : new.hosted ≡ old.hosted

-- what marks and the entry of the call behind them tell
abbrev pub Turns : Step → (old : Scene) → (marks : Log) → Entry → (new : Scene) → Type 0
Turns step old marks (entry.Woke until_ms now_ms) new = Wakes step now_ms old marks new
Turns step old marks entry.Over new = Ends step old marks new
Turns step old marks e new = IsCall old marks e new

-- the logs, and where each leaves all
pub data Plays (step : Step) (cast : Cast) : Log → Scene → Type 0 where
  Begins : (first : Scene) → IsBegun cast first → Plays step cast [] first
  GoesOn : (log marks : Log) (e : Entry) (old new : Scene) → Plays step cast log old → Turns step old marks e new → Plays step cast (log ++ (marks ++ e ∷ [])) new

-- the log is one of them
pub record IsPlayOf (step : Step) (cast : Cast) (log : Log) : Type 0 where
  pub scene : Scene
  pub plays : Plays step cast log scene

-- so is one that is told, and it leaves all here
pub record IsPlayed (step : Step) (cast : Cast) (scene : Scene) (told : Option Log) : Type 0 where
  pub plays : (log : Log) → told ≡ Some log → Plays step cast log scene
