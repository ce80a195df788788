-- What passes on links to servers: which question begins there, whose run it is, and which reply was read.
use Rattle.std.specs.Prelude.{ℕ, suc, ◌-◌, Bool, true, false, not, ◌&&◌, ◌||◌, is_some, nat_eq, List, [], ◌∷◌, ◌++◌, fold, length, take, unwrap_or, Option}
use Rattle.std.specs.Prelude.{Some, None, if◌then◌else◌}
use Rattle.std.specs.List.{last_or}
use Rattle.std.specs.Option.{option_map_or}
use Rattle.mx_base.specs.declared.tag.Tag.{Tag}
use Rattle.mx_base.specs.declared.tag.Tag.TheVariants as tag
use Rattle.packet_frame.specs.Packets.{Framed, Split, next_id, split}
use Rattle.reply_track.specs.declared.reply.ReplyKind.{ReplyKind}
use Rattle.reply_track.specs.declared.reply.ReplyKind.TheVariants as kind
use Rattle.reply_track.specs.Runs.{Ending, Ended, run}
use Rattle.reply_track.specs.Replying.{payloads_in}
use Rattle.reply_track.specs.Tracking.{started}
use Rattle.server_side.specs.Account.{Account as Login}
use Rattle.server_side.specs.Login.{Opening, LogsIn}
use Rattle.session_state.specs.Pins.{is_pinned, needs_reset}
use Rattle.server_rule.specs.Servers.{is_some_of}
use Rattle.private_model.specs.Names.{ClientNo, LinkId, SessionName}
use Rattle.private_model.specs.Commands.{Account, Command, FieldList, Prepare, Reply, is_prepare}
use Rattle.private_model.specs.Story.{Broke, Capture, Due, End, Freed, Happening, Heard, Left, LoggedIn, Own, Prep, Question, Ran, Sent, Statement, Sync}
use Rattle.private_model.specs.Story.{Unprepared, command_of, is_client, is_name, message_of}
use Rattle.private_model.specs.View.{Asked, Answered, Carried, Held, Joined, Lent, Link, Nobody, Quiet, Setup, Stage, View, is_quit, present, session_in}
use Rattle.log_story.specs.Plan.{Asks, Closes, Plan, Resets, Route, StepText, job_of, own_at}
use Rattle.log_story.specs.Tale.{Tale, Wire, is_reset_step, link_in, tell, view_of, with_wire}

-- The login.

-- As whom the router logs in: of what changes a server's answers it asks for several results, which servers offer, and for found
-- rows where its client did.
abbrev pub logged_in_as : Login → Account
logged_in_as login = record { user = login.user; capabilities = record { found_rows = login.found_rows; multi_results = true; ignore_space = false } }

abbrev pub entered_by : Plan → LinkId → Wire → Opening → Tale → Tale
entered_by plan link wire (LogsIn said rest) tale =
    tell (LoggedIn link wire.server (logged_in_as (plan.logins link)))
    (with_wire link (record wire { entered = true; unread = rest; written = [] }) tale)
entered_by plan link wire _ tale = with_wire link wire tale

-- The question that begins with a byte of this tag.

-- the statement of this message, where it is due and the router didn't give it up
abbrev pub due_in : Plan → (moment ordinal : ℕ) → SessionName → Option Due → Option Due
due_in plan moment ordinal n None = None
due_in plan moment ordinal n (Some due) =
    if nat_eq due.ordinal ordinal && not (is_some (own_at plan moment (message_of n due))) then Some due else None

-- a question of what isn't there breaks a rule of sending
abbrev pub or_broke : {A : Type 0} → (A → List Happening) → Option A → List Happening
or_broke happens found = option_map_or happens found (Broke ∷ [])

-- a question about what is due in a session
abbrev pub of_due : Plan → (moment : ℕ) → View → LinkId → (ordinal : ℕ) → SessionName → (Due → Question) → List Happening
of_due plan moment view link ordinal n question = or_broke (λ due. Sent link (question due) ∷ []) (due_in plan moment ordinal n (view.dues n))

-- a message that goes to a server
abbrev pub routed : Plan → ClientNo → (ordinal : ℕ) → (Route → List Happening) → List Happening
routed plan client ordinal happens = or_broke happens (plan.routes (record { client = client; ordinal = ordinal }))

-- a session that was left is ended; of another the insert id is asked
abbrev pub ended_by : View → SessionName → Question
ended_by view n = if is_name n (present view n.client n.hostgroup) then Capture n else End n

-- a step asks something, but for a STMT_CLOSE, and a STMT_RESET, which is answered and leaves sessions as they are
abbrev pub stepped : LinkId → (Command → Question) → StepText → List Happening
stepped link question (Asks command) = Sent link (question command) ∷ []
stepped link question (Closes number) = Unprepared link number ∷ []
stepped link question (Resets number) = []

abbrev pub quits_by : StepText → Bool
quits_by (Asks command) = is_quit command
quits_by _ = false

-- a job sends its one statement and leaves; what it sends behind that ends its session
abbrev pub copy_by : Plan → (moment : ℕ) → View → LinkId → SessionName → Carried → List Happening
copy_by plan moment view link n (Joined who) =
    if is_client who.client n.client then Sent link (End who) ∷ [] else of_due plan moment view link 1 n (Statement n)
copy_by plan moment view link n _ = or_broke (λ due. Left n.client ∷ Sent link (Statement n due) ∷ []) (due_in plan moment 1 n (view.dues n))

-- the last first; a Prep is of the text of what is due, and what ends is the session that the link carries, else the present one
abbrev pub begun_by : Setup → Plan → (moment : ℕ) → View → LinkId → (begun : ℕ) → Tag → List Happening
begun_by setup plan moment view link begun (tag.For client ordinal) =
    routed plan client ordinal (λ route. let n = present view client route.hostgroup in of_due plan moment view link ordinal n (Statement n))
begun_by setup plan moment view link begun (tag.Prep client ordinal) =
    routed plan client ordinal (λ route. let n = present view client route.hostgroup in
    of_due plan moment view link ordinal n (λ due. Prep n due.key (setup.keys due.key).text))
begun_by setup plan moment view link begun (tag.Mirror client ordinal) =
    let job = job_of (record { client = client; ordinal = ordinal }) in
    routed plan client ordinal (λ route. or_broke (λ hostgroup. copy_by plan moment view link (present view job hostgroup) (view.links link).carries)
    route.mirror)
begun_by setup plan moment view link begun (tag.Sync client hostgroup) = stepped link (Sync (present view client hostgroup)) (plan.steps link begun)
begun_by setup plan moment view link begun (tag.End client hostgroup) =
    Sent link (ended_by view (unwrap_or (session_in (view.links link).carries) (present view client hostgroup))) ∷ []
begun_by setup plan moment view link begun tag.Own = if quits_by (plan.steps link begun) then [] else stepped link Own (plan.steps link begun)
begun_by setup plan moment view link begun tag.Reply = Broke ∷ []

abbrev pub quits_for : Tag → StepText → Bool
quits_for tag.Own step = quits_by step
quits_for _ step = false

-- nothing but a QUIT begins behind bytes that nobody asked for
abbrev pub begun_on : Setup → Plan → (moment : ℕ) → View → LinkId → Wire → Tag → List Happening
begun_on setup plan moment view link wire for =
    if is_some_of wire.unread && not (quits_for for (plan.steps link wire.begun)) then Broke ∷ []
    else begun_by setup plan moment view link wire.begun for

-- Bytes go on with a question, or begin one; in a login they are what the router says there.

-- the messages that were written, of at most 2^65 bytes each: a log, of fewer than 2^48 entries, has no more for one
abbrev pub written_in : List ℕ → Split
written_in written = split 36893488147419103232 0 written

abbrev pub is_quiet : Stage → Bool
is_quiet Quiet = true
is_quiet _ = false

abbrev pub tell_all : List Happening → Tale → Tale
tell_all happenings tale = record tale { story = happenings ++ tale.story }

abbrev pub step_for : Tag → StepText → Option StepText
step_for tag.Own step = Some step
step_for (tag.Sync client hostgroup) step = Some step
step_for _ step = None

abbrev pub begins : Setup → Plan → LinkId → Tag → List ℕ → Wire → Tale → Tale
begins setup plan link for bytes wire tale =
    let step = plan.steps link wire.begun in
    tell_all (begun_on setup plan tale.moment (view_of setup tale) link wire for)
    (with_wire link (record wire { written = bytes; step = step_for for step; begun = suc wire.begun; quits = wire.quits || quits_for for step }) tale)

-- one command stands on a link at a time, and none is written in part
abbrev pub may_begin : Setup → LinkId → Wire → Tale → Bool
may_begin setup link wire tale =
    wire.entered && (is_quiet (link_in setup tale link).stage && (not (is_some_of (written_in wire.written).rest) && not (is_reset_step wire.step)))

abbrev pub writes : Setup → Plan → LinkId → Tag → List ℕ → Wire → Tale → Tale
writes setup plan link for bytes wire tale =
    if may_begin setup link wire tale then begins setup plan link for bytes wire tale
    else with_wire link (record wire { written = wire.written ++ bytes }) tale

-- what hasn't run as the first byte of its reply is read runs then
abbrev pub runs_first : Stage → LinkId → Tale → Tale
runs_first (Asked question) link tale = tell (Ran link) tale
runs_first _ link tale = tale

-- Replies.

abbrev pub kind_by : Command → ReplyKind
kind_by (Prepare text) = kind.Prepare
kind_by (FieldList rest) = kind.Fields
kind_by _ = kind.Command

abbrev pub last_id : List Framed → ℕ
last_id messages = option_map_or (λ message. message.last) (last_or None messages) 0

-- the id of a reply's first packet: behind that of the question's last
abbrev pub reply_id : Wire → ℕ
reply_id wire = next_id (last_id (written_in wire.written).messages)

-- what the bytes that were read are, as a reply of this kind
abbrev pub read_as : ReplyKind → Wire → Ending
read_as kind wire = run (started (record { kind = kind; server = reply_id wire; client = 0; number = 0 })) wire.unread

abbrev pub reply_in : Wire → Question → List ℕ → Reply
reply_in wire question bytes = record { to_prepare = is_prepare (command_of question); payloads = payloads_in (reply_id wire) bytes }

abbrev pub heard_by : LinkId → Question → Wire → Ending → Tale → Tale
heard_by link question wire (Ended end rest) tale =
    tell (Heard link (reply_in wire question (take (length wire.unread - length rest) wire.unread))) (with_wire link
    (record wire { unread = rest; written = [] }) tale)
heard_by link question wire _ tale = with_wire link wire tale

abbrev pub hears : LinkId → Wire → Stage → Tale → Tale
hears link wire (Answered question) tale = heard_by link question wire (read_as (kind_by (command_of question)) wire) tale
hears link wire _ tale = with_wire link wire tale

-- bytes are read there
abbrev pub with_run : Setup → LinkId → Tale → Tale
with_run setup link tale = runs_first (link_in setup tale link).stage link tale

abbrev pub reads_on : Setup → LinkId → Wire → Tale → Tale
reads_on setup link wire tale = hears link wire (link_in setup (with_run setup link tale) link).stage (with_run setup link tale)

-- the reply to a STMT_RESET, of which no story tells
abbrev pub reset_by : LinkId → Wire → Ending → Tale → Tale
reset_by link wire (Ended end rest) tale = with_wire link (record wire { unread = rest; written = []; step = None }) tale
reset_by link wire _ tale = with_wire link wire tale

-- A link is given back: its statement is answered, by a reply or, before it was sent, by the router, and nothing is left
-- there; or its session was left and needs no reset.

abbrev pub is_settled : Held → Bool
is_settled held = not (is_pinned held.pin) && is_some held.id

abbrev pub is_left : View → SessionName → Bool
is_left view n = not (is_name n (present view n.client n.hostgroup))

abbrev pub is_given_up : Plan → (moment : ℕ) → SessionName → Option Due → Bool
is_given_up plan moment n due = option_map_or (λ d. is_some (own_at plan moment (message_of n d))) due false

abbrev pub is_done_by : Plan → (moment : ℕ) → View → Carried → Bool
is_done_by plan moment view Nobody = false
is_done_by plan moment view (Lent n) =
    not (needs_reset (view.held n).pin) && ((is_settled (view.held n) && is_given_up plan moment n (view.dues n)) || is_left view n)
is_done_by plan moment view (Joined n) = not (needs_reset (view.held n).pin) && (is_settled (view.held n) || is_left view n)

abbrev pub is_done : Plan → (moment : ℕ) → View → Wire → Link → Bool
is_done plan moment view wire link = link.usable && (is_quiet link.stage && (not (is_reset_step wire.step) && is_done_by plan moment view link.carries))

abbrev pub freed_if_done : Setup → Plan → Tale → LinkId → Tale
freed_if_done setup plan tale link =
    if is_done plan tale.moment (view_of setup tale) (tale.wires link) (link_in setup tale link) then tell (Freed link) tale else tale

abbrev pub links_are_freed : Setup → Plan → Tale → Tale
links_are_freed setup plan tale = fold (freed_if_done setup plan) tale tale.links
