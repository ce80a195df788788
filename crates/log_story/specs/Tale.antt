-- What is known of a log as it is read: its story, and the bytes that no happening stands for yet.
use Rattle.std.specs.Prelude.{ℕ, ◌+◌, suc, Bool, false, true, List, [], ◌∷◌, ◌++◌, map, Option, Some, None, if◌then◌else◌}
use Rattle.std.specs.List.{list_any}
use Rattle.mx_base.specs.declared.names.Port.{Port}
use Rattle.private_model.specs.Names.{ClientNo, LinkId, ServerId}
use Rattle.private_model.specs.Story.{Happening, Story, is_client, is_link_id, put}
use Rattle.private_model.specs.View.{Link, Setup, View, view_after}
use Rattle.log_story.specs.Plan.{Resets, StepText}

-- A link to a server: whether the router is logged in there and sent a QUIT; the bytes read that no reply was made of, those
-- written in the login or of the question that was begun last, the step that this is, and how many questions were begun.
pub record Wire : Type 0 where
  pub server : ServerId
  pub entered : Bool
  pub quits : Bool
  pub unread : List ℕ
  pub written : List ℕ
  pub step : Option StepText
  pub begun : ℕ

-- A client: at which port and on which link it came, the bytes read of it, how many were written to it, and how many of its messages were taken up.
pub record Client : Type 0 where
  pub number : ClientNo
  pub port : Port
  pub link : LinkId
  pub salt : List ℕ
  pub read : List ℕ
  pub written : ℕ
  pub taken : ℕ

abbrev pub new_client : (number : ℕ) → Port → LinkId → (salt : List ℕ) → Client
new_client number port link salt = record { number = record { 0 = number }; port = port; link = link; salt = salt; read = []; written = 0; taken = 0 }

-- how many entries there were; clients, and links to servers, in the order in which they came
pub record Tale : Type 0 where
  pub moment : ℕ
  pub story : Story
  pub clients : List Client
  pub links : List LinkId
  pub wires : LinkId → Wire

abbrev pub new_wire : ServerId → Wire
new_wire server = record { server = server; entered = false; quits = false; unread = []; written = []; step = None; begun = 0 }

abbrev pub first_tale : Tale
first_tale = record { moment = 0; story = []; clients = []; links = []; wires = λ link. new_wire (record { 0 = 0 }) }

abbrev pub tell : Happening → Tale → Tale
tell e tale = record tale { story = e ∷ tale.story }

abbrev pub counted : Tale → Tale
counted tale = record tale { moment = suc tale.moment }

abbrev pub view_of : Setup → Tale → View
view_of setup tale = view_after setup tale.story

abbrev pub link_in : Setup → Tale → LinkId → Link
link_in setup tale link = (view_of setup tale).links link

abbrev pub with_wire : LinkId → Wire → Tale → Tale
with_wire link wire tale = record tale { wires = put is_link_id tale.wires link wire }

abbrev pub is_to_server : Tale → LinkId → Bool
is_to_server tale link = list_any (is_link_id link) tale.links

-- a STMT_RESET stands there, which is answered
abbrev pub is_reset_step : Option StepText → Bool
is_reset_step (Some (Resets number)) = true
is_reset_step _ = false

abbrev pub with_client : Client → Tale → Tale
with_client client tale = record tale { clients = map (λ (other : Client). if is_client other.number client.number then client else other) tale.clients }

-- bytes were read of a client
abbrev pub client_hears : LinkId → List ℕ → Client → Client
client_hears link bytes client = if is_link_id client.link link then record client { read = client.read ++ bytes } else client

-- so many bytes were written to it
abbrev pub client_gets : LinkId → (count : ℕ) → Client → Client
client_gets link count client = if is_link_id client.link link then record client { written = client.written + count } else client
