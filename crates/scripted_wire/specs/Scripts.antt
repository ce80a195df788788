-- What the clients of scripts say, and when.
use Rattle.std.specs.Prelude.{◌≡◌, ℕ, ◌+◌, Bool, true, false, not, ◌&&◌, is_some, nat_eq, nat_le, List, [], ◌∷◌, length, slice_get, Option, Some, None, if◌then◌else◌}
use Rattle.mx_base.specs.Sent.{Sent}
use Rattle.mx_base.specs.declared.tag.Tag.TheVariants.{Own}
use Rattle.server_side.specs.Backend.{BackendState, commanded, left, new_backend, taken}
use Rattle.server_side.specs.Hearing.{Got, Hears, Fails, got_of}
use Rattle.server_side.specs.declared.hear.Heard.{Heard}
use Rattle.server_side.specs.declared.hear.Heard.TheVariants as heard
use Rattle.server_side.specs.declared.stage.Stage.{Stage}
use Rattle.server_side.specs.declared.stage.Stage.TheVariants as stage
use Rattle.mx_wire.specs.declared.wire.Got.{Got as Answer}
use Rattle.mx_wire.specs.declared.wire.Got.TheVariants as got
use Rattle.scripted_wire.specs.declared.course.Course.{Course}
use Rattle.scripted_wire.specs.declared.course.Course.TheVariants as course
use Rattle.scripted_wire.specs.declared.script.Script.{Script}
use Rattle.scripted_wire.specs.declared.scripted_client.ScriptedClient.{ScriptedClient}

-- the scripts in order, and how many of their clients have come
pub record Scripts : Type 0 where
  pub scripts : List Script
  pub came : ℕ

abbrev pub commands_by : Option Script → List (List ℕ)
commands_by None = []
commands_by (Some script) = script.commands.items

abbrev pub commands_at : List Script → ℕ → List (List ℕ)
commands_at scripts at = commands_by (slice_get scripts at)

-- a client that has heard nothing
abbrev pub first_client : (at : ℕ) → (user password : List ℕ) → ScriptedClient
first_client at user password = record {
  backend = new_backend (record { user = user; password = password; found_rows = false });
  script = at;
  said = 0;
  course = course.Talks;
}

-- the next script's client comes, where there is one
abbrev pub ComesBy : Option Script → Scripts → Option ScriptedClient → Scripts → Type 0
ComesBy None old client new = (client ≡ None) × (new ≡ old)
ComesBy (Some script) old client new = (client ≡ Some (first_client old.came script.user script.password)) × (new ≡ record old { came = old.came + 1 })

abbrev pub Comes : Scripts → Option ScriptedClient → Scripts → Type 0
Comes old client new = ComesBy (slice_get old.scripts old.came) old client new

-- COM_QUIT has no reply and ends the link

abbrev pub is_quit : List ℕ → Bool
is_quit [] = false
is_quit (byte ∷ rest) = nat_eq byte 1

abbrev pub course_behind : List ℕ → Course
course_behind payload = if is_quit payload then course.Quits else course.Talks

-- it is logged in, and the reply to its last command is whole
abbrev pub is_in : Stage → Bool
is_in stage.In = true
is_in _ = false

abbrev pub is_free : BackendState → Bool
is_free backend = is_in backend.stage && not (is_some backend.command)

-- then it says its next command, in packets whose ids begin with 0
abbrev pub says : Option (List ℕ) → ScriptedClient → ScriptedClient
says None client = client
says (Some payload) client = record client { backend = commanded Own payload 1 client.backend; said = client.said + 1; course = course_behind payload }

abbrev pub goes_on : (commands : List (List ℕ)) → ScriptedClient → ScriptedClient
goes_on commands client = if is_free client.backend then says (slice_get commands client.said) client else client

-- nothing stands behind a reply that is whole
abbrev pub ends_piece : (size : ℕ) → Heard → Bool
ends_piece size (heard.Whole used) = nat_eq used size
ends_piece size _ = true

abbrev pub heard_so : (ends : Bool) → (commands : List (List ℕ)) → ScriptedClient → ScriptedClient
heard_so true commands client = goes_on commands client
heard_so false commands client = record client { course = course.Lost }

-- no more is heard of it
pub record IsLost (old new : ScriptedClient) : Type 0 where
  pub script : new.script ≡ old.script
  pub said : new.said ≡ old.said
  pub course : new.course ≡ course.Lost

abbrev pub HearsSo : (commands : List (List ℕ)) → (size : ℕ) → Got → ScriptedClient → ScriptedClient → Type 0
HearsSo commands size (Hears what backend) old new = new ≡ heard_so (ends_piece size what) commands (record old { backend = backend })
HearsSo commands size (Fails fault) old new = IsLost old new

-- bytes are written to it: it goes by what they tell, unless it has ended its link
abbrev pub HearsBy : Course → (commands : List (List ℕ)) → (piece : List ℕ) → ScriptedClient → ScriptedClient → Type 0
HearsBy course.Talks commands piece old new = HearsSo commands (length piece) (got_of piece old.backend) old new
HearsBy _ commands piece old new = new ≡ old

abbrev pub HearsPiece : (commands : List (List ℕ)) → (piece : List ℕ) → ScriptedClient → ScriptedClient → Type 0
HearsPiece commands piece old new = HearsBy old.course commands piece old new

-- what can be read of it, and whether its link ends behind that
abbrev pub left_bytes : Option Sent → List ℕ
left_bytes None = []
left_bytes (Some what) = what.bytes

abbrev pub client_unread : Course → BackendState → List ℕ
client_unread course.Lost backend = []
client_unread _ backend = left_bytes (left backend)

abbrev pub client_ends : Course → Bool
client_ends course.Talks = false
client_ends _ = true

abbrev pub client_read : Answer → ScriptedClient → ScriptedClient
client_read (got.Got n) client = record client { backend = taken n client.backend }
client_read _ client = client

-- all its commands are said, and the last reply is whole
abbrev pub is_finished : (commands : ℕ) → ScriptedClient → Bool
is_finished commands client = is_free client.backend && nat_le commands client.said
