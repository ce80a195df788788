-- A link to a server, and what is written there.
use Rattle.std.specs.Prelude.{ℕ, Bool, true, false, if◌then◌else◌, List, Option, Some, None}
use Rattle.std.specs.Option.{option_map}
use Rattle.mx_base.specs.Sent.{Sent}
use Rattle.mx_base.specs.declared.names.ServerId.{ServerId}
use Rattle.mx_base.specs.declared.tag.Tag.{Tag}
use Rattle.server_side.specs.Account.{Account}
use Rattle.server_side.specs.Backend.{left, new_backend, taken}
use Rattle.server_side.specs.declared.stage.Stage.{Stage}
use Rattle.server_side.specs.declared.stage.Stage.TheVariants.{In}
use Rattle.link_state.specs.States.{asked, closed_number, fresh}
use Rattle.link_state.specs.Writes as writes
use Rattle.link_state.specs.declared.state.Stage as there
use Rattle.link_state.specs.declared.state.Stage.TheVariants.{Answered}
use Rattle.link_state.specs.declared.writing.Writing.{Writing}
use Rattle.lent_link.specs.declared.link.Begins.{Begins}
use Rattle.lent_link.specs.declared.link.Begins.TheVariants as begins
use Rattle.lent_link.specs.declared.link.LentLink.{LentLink}
use Rattle.lent_link.specs.declared.link.Step.TheVariants.{Other, Closes, Resets}

-- nothing was heard there
abbrev pub new_link : ServerId → Account → LentLink
new_link server account = record {
  server = server;
  login = new_backend account;
  state = fresh;
  step = Other;
  quits = false;
  next = None;
  writing = None;
  reading = None;
  first = 0;
  number = 0;
  spoilt = false;
}

-- the router is logged in
abbrev pub is_in : Stage → Bool
is_in In = true
is_in _ = false

-- What is to be written.

abbrev pub stands_next : Tag → (bytes : List ℕ) → Begins → (first number : ℕ) → LentLink → LentLink
stands_next tag bytes next first number link =
    record link { next = Some next; writing = Some (writes.writing tag bytes); first = first; number = number }

-- no byte of it was written, and it is taken back

abbrev pub unbegun_by : Option Begins → LentLink → LentLink
unbegun_by None link = link
unbegun_by (Some next) link = record link { next = None; writing = None }

abbrev pub unbegun : LentLink → LentLink
unbegun link = unbegun_by link.next link

abbrev pub left_of : Option Writing → Option Sent
left_of None = None
left_of (Some writing) = writes.left_of writing

-- of a question nothing more once a byte of its answer was read
abbrev pub left_at : there.Stage → Option Writing → Option Sent
left_at (Answered asking) writing = None
left_at _ writing = left_of writing

abbrev pub left_in : LentLink → Option Sent
left_in link = if is_in link.login.stage then left_at link.state.stage link.writing else left link.login

-- With its first byte it begins.

abbrev pub begun : Begins → LentLink → LentLink
begun (begins.Asks asking) link = record link { step = Other; state = asked asking link.state }
begun (begins.Closes number) link = record link { step = Closes number; state = closed_number number link.state }
begun (begins.Resets number) link = record link { step = Resets number }
begun begins.Quits link = record link { step = Other; quits = true }

abbrev pub begun_by : Option Begins → LentLink → LentLink
begun_by None link = link
begun_by (Some next) link = begun next link

abbrev pub wrote_in : (count : ℕ) → LentLink → LentLink
wrote_in count link = begun_by link.next (record link { next = None; writing = option_map (writes.wrote count) link.writing })

abbrev pub wrote_on : (count : ℕ) → LentLink → LentLink
wrote_on count link = if is_in link.login.stage then wrote_in count link else record link { login = taken count link.login }
