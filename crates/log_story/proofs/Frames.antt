-- What stays of a tale as something passes on a link or for a client, and which clients take up nothing.
use Rattle.std.specs.Prelude.{◌≡◌, ◌≤◌, ◌||◌, ℕ, Bool, false, slice_get, Option, Some, None}
use Rattle.std.specs.Option.{option_map_or}
use Rattle.private_model.specs.Names.{ClientNo, Hostgroup, LinkId, MessageName, SessionName}
use Rattle.private_model.specs.Story.{Capture, End, Own, Prep, Question, Statement, Sync, is_client, is_link_id}
use Rattle.private_model.specs.View.{Answered, Asked, Carried, Link, Quiet, Setup, Stage, View, session_in}
use Rattle.log_story.specs.Clients.{next_taken}
use Rattle.log_story.specs.Owed.{messages, name_of}
use Rattle.log_story.specs.Plan.{Plan, is_before, job_of}
use Rattle.log_story.specs.Tale.{Client, Tale, view_of}

-- but for these links and clients, links, pins, insert ids, dues, lives and replies are as they were
pub record Rests (touched : LinkId → Bool) (whose : ClientNo → Bool) (old new : View) : Type 0 where
  pub link : (l : LinkId) → touched l ≡ false → new.links l ≡ old.links l
  pub pin : (n : SessionName) → whose n.client ≡ false → (new.held n).pin ≡ (old.held n).pin
  pub id : (n : SessionName) → whose n.client ≡ false → (new.held n).id ≡ (old.held n).id
  pub due : (n : SessionName) → whose n.client ≡ false → new.dues n ≡ old.dues n
  pub life : (c : ClientNo) (h : Hostgroup) → whose c ≡ false → new.lives c h ≡ old.lives c h
  pub reply : (m : MessageName) → whose m.client ≡ false → new.replies m ≡ old.replies m

-- so it is of a tale whose clients, links and moment stay, and what passes on all other links
pub record Moved (setup : Setup) (touched : LinkId → Bool) (whose : ClientNo → Bool) (old new : Tale) : Type 0 where
  pub moment : new.moment ≡ old.moment
  pub places : new.links ≡ old.links
  pub clients : new.clients ≡ old.clients
  pub wire : (l : LinkId) → touched l ≡ false → new.wires l ≡ old.wires l
  pub view : Rests touched whose (view_of setup old) (view_of setup new)

abbrev pub no_link_at : LinkId → Bool
no_link_at l = false

abbrev pub nobody : ClientNo → Bool
nobody c = false

abbrev pub only_link : LinkId → LinkId → Bool
only_link link l = is_link_id l link

abbrev pub only_client : ClientNo → ClientNo → Bool
only_client client c = is_client c client

-- a client, and the copy that is made of its message
abbrev pub client_and_job : Client → (ordinal : ℕ) → ClientNo → Bool
client_and_job client ordinal c = is_client c client.number || is_client c (job_of (name_of client ordinal))

-- whose question it is
abbrev pub asker : Question → Option SessionName
asker (Statement n due) = Some n
asker (Prep n key text) = Some n
asker (Sync n command) = Some n
asker (Own command) = None
asker (End n) = Some n
asker (Capture n) = Some n

abbrev pub asker_at : Stage → Option SessionName
asker_at Quiet = None
asker_at (Asked question) = asker question
asker_at (Answered question) = asker question

-- it is the present session of its client, or one before
abbrev pub IsBorn : View → SessionName → Type 0
IsBorn view n = n.life ≤ view.lives n.client n.hostgroup

abbrev pub is_whose : Option SessionName → ClientNo → Bool
is_whose session c = option_map_or (λ n. is_client n.client c) session false

-- whom what passes on a link may touch: whose question stood there and stands there, and whose session it carries
abbrev pub is_touched : (old new : Link) → ClientNo → Bool
is_touched old new c = is_whose (asker_at old.stage) c || (is_whose (asker_at new.stage) c || is_whose (session_in new.carries) c)

abbrev pub is_of : (whose : ClientNo → Bool) → Carried → Bool
is_of whose carried = option_map_or (λ n. whose n.client) (session_in carried) false

-- the router ended it before, or its next message can't be taken up
abbrev pub IsResting : Setup → Plan → Client → Tale → Type 0
IsResting setup plan client tale =
    is_before tale.moment (plan.ends client.number) ≡ false → next_taken setup plan client (slice_get (messages plan client) client.taken) tale ≡ None
