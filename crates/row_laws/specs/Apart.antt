-- What happens elsewhere: on other links, and in other sessions than the one that a link carries.
use Rattle.std.specs.Prelude.{◌≡◌, false, Option, Some, None}
use Rattle.private_model.specs.Names.{LinkId, SessionName}
use Rattle.private_model.specs.Story.{Capture, End, Freed, Gone, Happening, Heard, Left, LoggedIn, Own, Prep, Question, Ran, Sent, Statement, Sync, Unprepared, is_client, is_link_id, is_name}
use Rattle.private_model.specs.View.{Answered, Stage, View, session_in}
use Rattle.served_link.specs.declared.row.LeftSession.{LeftSession}
use Rattle.row_laws.specs.Whose.{OfStatement}

-- the link that it names
abbrev pub link_named : Happening → Option LinkId
link_named (LoggedIn link server account) = Some link
link_named (Sent link question) = Some link
link_named (Ran link) = Some link
link_named (Heard link reply) = Some link
link_named (Freed link) = Some link
link_named (Unprepared link number) = Some link
link_named (Gone link) = Some link
link_named _ = None

abbrev pub IsElsewhere : LinkId → Happening → Type 0
IsElsewhere l e = (other : LinkId) → link_named e ≡ Some other → is_link_id l other ≡ false

-- for whom a question is asked
abbrev pub asked_for : Question → Option SessionName
asked_for (Statement n due) = Some n
asked_for (Prep n key text) = Some n
asked_for (Sync n command) = Some n
asked_for (Own command) = None
asked_for (End n) = Some n
asked_for (Capture n) = Some n

abbrev pub answered_for : Stage → Option SessionName
answered_for (Answered question) = asked_for question
answered_for _ = None

abbrev pub IsNot : SessionName → Option SessionName → Type 0
IsNot n other = (m : SessionName) → other ≡ Some m → is_name n m ≡ false

-- A present session isn't left by it; of one that was left nothing is sent of which no reset takes back what it does, and nothing answered.
abbrev pub IsSpared : View → Happening → SessionName → Option LeftSession → Type 0
IsSpared seen (Left client) n None = is_client n.client client ≡ false
IsSpared seen (Gone link) n None = IsNot n (session_in (seen.links link).carries)
IsSpared seen (Sent link question) n (Some left) = OfStatement question (λ m due. is_name n m ≡ false)
IsSpared seen (Heard link reply) n (Some left) = IsNot n (answered_for (seen.links link).stage)
IsSpared seen e n left = Unit {0}
