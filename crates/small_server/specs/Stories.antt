-- Stories of two clients and the small server: one that is lawful, and one for each of eight rules, which it breaks.
use Rattle.std.specs.Prelude.{ℕ, Bool, true, false, ◌||◌, bytes_eq, nat_eq, is_some, List, [], ◌∷◌, codes, slice_index_or, Option, Some, None, if◌then◌else◌}
use Rattle.std.proofs.Common.{arith}
use Rattle.session_vars.specs.Settings.{defaults}
use Rattle.mx_base.specs.declared.names.ClientNo.{ClientNo}
use Rattle.mx_base.specs.declared.names.Hostgroup.{Hostgroup}
use Rattle.mx_base.specs.declared.names.LinkId.{LinkId}
use Rattle.pin_classifier.specs.declared.class.Class.{Class}
use Rattle.session_state.specs.declared.names.MessageName.{MessageName}
use Rattle.session_state.specs.declared.names.SessionName.{SessionName}
use Rattle.session_state.specs.declared.place.Place.{Place}
use Rattle.server_rule.specs.Classes.{Reads}
use Rattle.server_rule.specs.Replies.{first_payload}
use Rattle.server_rule.specs.Servers.{no_capabilities}
use Rattle.server_rule.specs.Texts.{read_id_text}
use Rattle.private_model.specs.Commands.{Account, Command, Query, SetId, Number, Reply, Step, plain_class, runs}
use Rattle.private_model.specs.Story.{Due, Happening, LoggedIn, BecameDue, Sent, Ran, Heard, Freed, Left, Statement, Own, Capture, Story}
use Rattle.private_model.specs.Headline.{MeetsPrivate}
use Rattle.private_model.specs.Honest.{IsHonest}
use Rattle.private_model.specs.Lawful.{IsLawful}
use Rattle.private_model.specs.View.{Setup, view_after}
use Rattle.private_model.specs.Worlds.{private_after, real_after}
use Rattle.small_server.specs.Tally.{NoId, FirstId, LaterId, id_set, is_special, ok, row, tally, tests}

-- INSERT is marked, as are the two texts of the insert id; SHOW WARNINGS reads diagnostics; nothing else is known of a text
abbrev pub class_read : List ℕ → Class
class_read text = record plain_class { deep = is_some (id_set text); marks_id = is_special text || bytes_eq text (codes "INSERT"); reads_diag = bytes_eq text (codes "SHOW WARNINGS") }

abbrev pub reads : Reads
reads = record { class = class_read; hides_id = λ text. false }

abbrev pub server : Step
server = runs (tally reads)

abbrev pub client : ℕ → ClientNo
client n = record { 0 = n }

abbrev pub group : Hostgroup
group = record { 0 = 0 }

abbrev pub link : ℕ → LinkId
link n = record { 0 = n }

abbrev pub anybody : Account
anybody = record { user = codes "app"; capabilities = record no_capabilities { multi_results = true } }

abbrev pub nowhere : Place
nowhere = record { schema = []; settings = defaults }

abbrev pub somewhere : Place
somewhere = record { schema = codes "shop"; settings = defaults }

-- the third client begins in a schema
abbrev pub place_of : ClientNo → Place
place_of c = if nat_eq c.0 3 then somewhere else nowhere

abbrev pub setup : Setup
setup = record { reads = reads; keys = λ key. record { text = key ∷ []; place = nowhere }; accounts = λ c. anybody; places = place_of; stored = λ s. [] }

abbrev pub session : ℕ → SessionName
session n = record { client = client n; hostgroup = group; life = 0 }

abbrev pub message : (n ordinal : ℕ) → MessageName
message n ordinal = record { client = client n; ordinal = ordinal }

abbrev pub due_at : Place → (ordinal : ℕ) → (anew : Bool) → Command → Due
due_at place ordinal anew command = record { ordinal = ordinal; place = place; anew = anew; command = command; key = 0; multiplex = None }

abbrev pub heard : ℕ → List (List ℕ) → Happening
heard n payloads = Heard (link n) (record { to_prepare = false; payloads = payloads })

abbrev pub login : ℕ → Happening
login n = LoggedIn (link n) (record { 0 = 1 }) anybody

abbrev pub came : (n ordinal : ℕ) → Command → Happening
came n ordinal command = BecameDue (client n) group ordinal 0 command None

abbrev pub zero_id : Number
zero_id = record { value = 0; fits = omega arith }

abbrev pub insert : Command
insert = Query (codes "INSERT")

abbrev pub show : Command
show = Query (codes "DO 1")

-- a byte of the last payload of a reply, by which two replies differ
abbrev pub byte_of : (at : ℕ) → Option Reply → ℕ
byte_of at None = 0
byte_of at (Some reply) = slice_index_or (first_payload reply.payloads) at 0

-- the spelled digit of a row
abbrev pub second_of : List (List ℕ) → List ℕ
second_of (a ∷ b ∷ c ∷ d ∷ rest) = d
second_of _ = []

abbrev pub digit_of : Option Reply → ℕ
digit_of None = 0
digit_of (Some reply) = slice_index_or (second_of reply.payloads) 1 0

-- One client inserts, and its insert id is captured; the link goes to the next client, which first gets its own insert id.
abbrev pub shared : Story
shared = heard 3 (ok false LaterId false) ∷ Ran (link 3) ∷ Sent (link 3) (Statement (session 2) (due_at nowhere 1 true insert))
    ∷ heard 3 (ok false NoId false) ∷ Ran (link 3) ∷ Sent (link 3) (Own (SetId zero_id)) ∷ came 2 1 insert
    ∷ Freed (link 3) ∷ heard 3 (row false 49) ∷ Ran (link 3) ∷ Sent (link 3) (Capture (session 1)) ∷ heard 3 (ok false FirstId false)
    ∷ Ran (link 3) ∷ Sent (link 3) (Statement (session 1) (due_at nowhere 1 true insert)) ∷ login 3 ∷ came 1 1 insert ∷ []

-- A link is given back, and lent to another client, while a transaction is open.
abbrev pub in_a_transaction : Story
in_a_transaction = heard 0 (ok false NoId true) ∷ Ran (link 0) ∷ Sent (link 0) (Statement (session 2) (due_at nowhere 1 true show)) ∷ came 2 1 show
    ∷ Freed (link 0) ∷ heard 0 (ok false NoId true) ∷ Ran (link 0) ∷ Sent (link 0) (Statement (session 1) (due_at nowhere 1 true (Query (codes "BEGIN")))) ∷ came 1 1 (Query (codes "BEGIN")) ∷ login 0 ∷ []

-- The same where the first client has left: a reset is missing.
abbrev pub without_a_reset : Story
without_a_reset = heard 0 (ok false NoId true) ∷ Ran (link 0) ∷ Sent (link 0) (Statement (session 2) (due_at nowhere 1 true show)) ∷ came 2 1 show
    ∷ Freed (link 0) ∷ Left (client 1) ∷ heard 0 (ok false NoId true) ∷ Ran (link 0) ∷ Sent (link 0) (Statement (session 1) (due_at nowhere 1 true (Query (codes "BEGIN")))) ∷ came 1 1 (Query (codes "BEGIN")) ∷ login 0 ∷ []

-- A client in a schema is served by a link that wasn't told it.
abbrev pub without_its_place : Story
without_its_place = heard 0 (ok false NoId false) ∷ Ran (link 0) ∷ Sent (link 0) (Statement (session 3) (due_at somewhere 1 true show)) ∷ came 3 1 show ∷ login 0 ∷ []

-- A client asks for its insert id on a link that has another's.
abbrev pub with_another_id : Story
with_another_id = heard 0 (row false 49) ∷ Ran (link 0) ∷ Sent (link 0) (Statement (session 2) (due_at nowhere 1 true (Query read_id_text))) ∷ came 2 1 (Query read_id_text)
    ∷ Freed (link 0) ∷ heard 0 (row false 49) ∷ Ran (link 0) ∷ Sent (link 0) (Capture (session 1)) ∷ heard 0 (ok false FirstId false) ∷ Ran (link 0) ∷ Sent (link 0) (Statement (session 1) (due_at nowhere 1 true insert)) ∷ came 1 1 insert ∷ login 0 ∷ []

-- A client asks for diagnostics on a link where another's statement ran.
abbrev pub with_diagnostics : Story
with_diagnostics = heard 0 (ok true NoId false) ∷ Ran (link 0) ∷ Sent (link 0) (Statement (session 2) (due_at nowhere 1 true (Query (codes "SHOW WARNINGS")))) ∷ came 2 1 (Query (codes "SHOW WARNINGS"))
    ∷ Freed (link 0) ∷ heard 0 (ok false NoId false) ∷ Ran (link 0) ∷ Sent (link 0) (Statement (session 1) (due_at nowhere 1 true show)) ∷ came 1 1 show ∷ login 0 ∷ []

-- A client asks for its insert id on another link, where it wasn't captured.
abbrev pub without_a_capture : Story
without_a_capture = heard 1 (row false 48) ∷ Ran (link 1) ∷ Sent (link 1) (Statement (session 1) (due_at nowhere 2 true (Query read_id_text))) ∷ came 1 2 (Query read_id_text)
    ∷ Freed (link 0) ∷ heard 0 (ok false FirstId false) ∷ Ran (link 0) ∷ Sent (link 0) (Statement (session 1) (due_at nowhere 1 true insert)) ∷ came 1 1 insert ∷ login 1 ∷ login 0 ∷ []

-- A statement of a transaction goes to another link.
abbrev pub on_another_link : Story
on_another_link = heard 1 (ok false NoId false) ∷ Ran (link 1) ∷ Sent (link 1) (Statement (session 1) (due_at nowhere 2 false show)) ∷ came 1 2 show
    ∷ heard 0 (ok false NoId true) ∷ Ran (link 0) ∷ Sent (link 0) (Statement (session 1) (due_at nowhere 1 true (Query (codes "BEGIN")))) ∷ came 1 1 (Query (codes "BEGIN")) ∷ login 1 ∷ login 0 ∷ []

-- A client asks for its insert id in a transaction, on a link that had another's when the transaction began.
abbrev pub with_another_id_inside : Story
with_another_id_inside = heard 0 (row true 49) ∷ Ran (link 0) ∷ Sent (link 0) (Statement (session 2) (due_at nowhere 2 false (Query read_id_text))) ∷ came 2 2 (Query read_id_text)
    ∷ heard 0 (ok false NoId true) ∷ Ran (link 0) ∷ Sent (link 0) (Statement (session 2) (due_at nowhere 1 true (Query (codes "BEGIN")))) ∷ came 2 1 (Query (codes "BEGIN"))
    ∷ Freed (link 0) ∷ heard 0 (row false 49) ∷ Ran (link 0) ∷ Sent (link 0) (Capture (session 1)) ∷ heard 0 (ok false FirstId false) ∷ Ran (link 0) ∷ Sent (link 0) (Statement (session 1) (due_at nowhere 1 true insert)) ∷ came 1 1 insert ∷ login 0 ∷ []

-- It may happen, and the promise fails; so it isn't lawful.
pub record IsBreach (story : Story) : Type 0 where
  pub honest : IsHonest setup server story
  pub broken : MeetsPrivate reads tests (view_after setup story) (real_after setup server story) (private_after setup server story) → ⊥
  pub unlawful : IsLawful setup story → ⊥
