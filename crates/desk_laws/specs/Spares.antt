-- What leaves a client's desk as it is: happenings of others, and of its sessions that were left.
use Rattle.std.specs.Prelude.{◌≡◌, ◌⊎◌, ◌<◌, ℕ, Bool, false, Option, Some, None}
use Rattle.std.specs.Option.{option_map_or}
use Rattle.private_model.specs.Names.{ClientNo, Hostgroup, SessionName}
use Rattle.private_model.specs.Story.{BecameDue, Capture, End, Freed, Gone, Happening, Heard, Left, Mirrored, Own, Prep, Question, Sent, Statement, Sync, is_client, is_hostgroup}
use Rattle.private_model.specs.View.{Answered, Stage, View, session_in}
use Rattle.client_seat.specs.declared.phase.Phase.TheVariants as phase
use Rattle.client_desk.specs.declared.desk.Desk.{Desk}
use Rattle.client_desk.specs.declared.work.Work.{Work}

-- whose session a happening names

abbrev pub asked_for : Question → Option SessionName
asked_for (Statement n due) = Some n
asked_for (Prep n key text) = Some n
asked_for (Sync n command) = Some n
asked_for (Own command) = None
asked_for (End n) = Some n
asked_for (Capture n) = Some n

abbrev pub answered_for : Stage → Option SessionName
answered_for (Answered question) = asked_for question
answered_for _ = None

abbrev pub named : View → Happening → Option SessionName
named view (Sent link question) = asked_for question
named view (Heard link reply) = answered_for (view.links link).stage
named view (Freed link) = session_in (view.links link).carries
named view (Gone link) = session_in (view.links link).carries
named view _ = None

-- and which client is touched

abbrev pub is_of : ClientNo → Option SessionName → Bool
is_of c n = option_map_or (λ (name : SessionName). is_client c name.client) n false

abbrev pub touches : View → Happening → ClientNo → Bool
touches view (BecameDue client hostgroup ordinal key command multiplex) c = is_client c client
touches view (Left client) c = is_client c client
touches view (Mirrored client job) c = is_client c job
touches view e c = is_of c (named view e)

-- A session that was left is of no matter to the desk; but its statement moves the client and answers a message, so that client ended.

pub record IsOver (desk : Desk) : Type 0 where
  pub ended : desk.seat.phase ≡ phase.Ended
  pub idle : desk.work ≡ None

abbrev pub SparesQuestion : Desk → Question → Type 0
SparesQuestion desk (Statement n due) = IsOver desk
SparesQuestion desk _ = Unit {0}

abbrev pub SparesStage : Desk → Stage → Type 0
SparesStage desk (Answered question) = SparesQuestion desk question
SparesStage desk _ = Unit {0}

abbrev pub Spares : View → Desk → Happening → Type 0
Spares view desk (Sent link question) = SparesQuestion desk question
Spares view desk (Heard link reply) = SparesStage desk (view.links link).stage
Spares view desk _ = Unit {0}

-- a question that is no statement
abbrev pub IsAside : Question → Type 0
IsAside (Statement n due) = ⊥
IsAside _ = Unit {0}

-- its work is in another hostgroup
abbrev pub IsElsewhere : Hostgroup → Option Work → Type 0
IsElsewhere h None = Unit {0}
IsElsewhere h (Some work) = is_hostgroup work.hostgroup h ≡ false

-- A message that is to come isn't what a happening makes due, sends or answers; and what it sends is due.

abbrev pub SparesAsked : ClientNo → (from : ℕ) → Question → Type 0
SparesAsked c from (Statement n due) = (is_client c n.client ≡ false) ⊎ (due.ordinal < from)
SparesAsked c from _ = Unit {0}

abbrev pub SparesAnswered : ClientNo → (from : ℕ) → Stage → Type 0
SparesAnswered c from (Answered question) = SparesAsked c from question
SparesAnswered c from _ = Unit {0}

abbrev pub SparesSent : View → ClientNo → (from : ℕ) → Question → Type 0
SparesSent view c from (Statement n due) = (is_client c n.client ≡ false) ⊎ ((due.ordinal < from) × (view.dues n ≡ Some due))
SparesSent view c from _ = Unit {0}

abbrev pub SparesToCome : View → ClientNo → (from : ℕ) → Happening → Type 0
SparesToCome view c from (BecameDue client hostgroup ordinal key command multiplex) = is_client c client ≡ false
SparesToCome view c from (Sent link question) = SparesSent view c from question
SparesToCome view c from (Heard link reply) = SparesAnswered c from (view.links link).stage
SparesToCome view c from _ = Unit {0}
