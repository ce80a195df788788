-- Tests of what a log tells: that it is one of a wire, who clients are, what is written, and what may be sent.
use Rattle.std.specs.Prelude.{ℕ, suc, Bool, true, false, not, ◌&&◌, ◌||◌, bytes_eq, nat_eq, nat_le, nat_lt, length, take, drop, if◌then◌else◌, List, [], ◌∷◌, ◌++◌, Option, Some, None}
use Rattle.std.specs.List.{list_all, list_any}
use Rattle.std.specs.Option.{option_map_or}
use Rattle.client_session.specs.Answers.{account, opening_of}
use Rattle.client_side.specs.Login.{Opening, Says}
use Rattle.mx_base.specs.declared.names.LinkId.{LinkId}
use Rattle.mx_base.specs.declared.tag.Tag.{Tag}
use Rattle.mx_base.specs.declared.tag.Tag.TheVariants as tags
use Rattle.mx_wire.specs.Log.{Log, is_open, moment_of, of_link, written_of}
use Rattle.mx_wire.specs.Tells.{all_below}
use Rattle.mx_wire.specs.declared.entry.Entry.{Entry}
use Rattle.mx_wire.specs.declared.entry.Entry.TheVariants.{Accepted, Closed, Ended, Got, Opened, ReadFailed, ReadNothing, Woke, WriteFailed, WriteNothing, Wrote}
use Rattle.packet_frame.specs.Packets.{Framed, spelling}
use Rattle.server_side.specs.Account.{Account as Login}
use Rattle.server_side.specs.Login.{opening, said_of}
use Rattle.private_model.specs.Commands.{Args, Command, Quit, Run}
use Rattle.private_model.specs.Names.{Hostgroup}
use Rattle.private_model.specs.Story.{Question, command_of, is_hostgroup}
use Rattle.private_model.specs.View.{Answered, Asked, Link, Quiet, Setup, Stage, View}
use Rattle.log_story.specs.Executes.{args_in, is_for}
use Rattle.log_story.specs.Honest.{number_for}
use Rattle.log_story.specs.Owed.{talk_of}
use Rattle.log_story.specs.Plan.{Asks, Closes, Plan, Resets, StepText, com_execute, com_long_data, step_payload, text_payload}
use Rattle.log_story.specs.Servers.{begun_on, may_begin, quits_for, written_in}
use Rattle.log_story.specs.Tale.{Client, Tale, Wire, is_to_server, link_in, view_of}
use Rattle.log_story.specs.Telling.{tale_step}
use Rattle.tale_world.specs.Tests.{is_account, may_tell}
use Rattle.router_promises.specs.Closes.{is_usable}
use Rattle.router_promises.specs.Due.{due_to}
use Rattle.router_promises.specs.Now.{Now, link_now, next, wire_now}
use Rattle.router_promises.specs.Router.{first_place}
use Rattle.router_promises.specs.Running.{hostgroup_of}
use Rattle.router_promises.specs.Tags.{hostgroup_asked, last_tag}
use Rattle.router_promises.specs.Terms.{Terms, login_as, plan_in, setup_in}
use Rattle.promise_tests.specs.Same.{are_args, is_nothing, is_option, is_place, is_tag}

-- The wire.

abbrev pub is_empty : {A : Type 0} → List A → Bool
is_empty [] = true
is_empty (x ∷ xs) = false

abbrev pub is_new : LinkId → Log → Bool
is_new link log = is_empty (of_link link log)

abbrev pub is_salt : List ℕ → Bool
is_salt salt = nat_eq (length salt) 20 && list_all (λ byte. nat_le 1 byte && nat_le byte 127) salt

abbrev pub fits : Log → Entry → Bool
fits log (Woke until_ms now_ms) = nat_le (moment_of log) now_ms
fits log (Accepted port link salt) = is_new link log && is_salt salt
fits log (Opened server address link) = is_new link log && all_below link.0 log
fits log (Got link bytes) = is_open link log && (nat_lt 0 (length bytes) && nat_le (length bytes) 65536)
fits log (ReadNothing link) = is_open link log
fits log (Ended link) = is_open link log
fits log (ReadFailed link) = is_open link log
fits log (Wrote link tag bytes) = is_open link log && nat_lt 0 (length bytes)
fits log (WriteNothing link) = is_open link log
fits log (WriteFailed link) = is_open link log
fits log (Closed link) = is_open link log
fits log _ = true

-- Clients.

abbrev pub is_as : Terms → Client → Opening → Login → Bool
is_as terms client (Says switched response id rest) login =
    is_account (terms.decided.accounts client.number) (login_as login)
    && is_place (terms.decided.places client.number) (first_place terms.router response)
is_as terms client _ login = true

abbrev pub says_who : Terms → Client → Bool
says_who terms client =
    let talk = talk_of (plan_in terms) client in
    option_map_or (is_as terms client (opening_of talk)) (account talk) true

abbrev pub is_front : (front whole : List ℕ) → Bool
is_front front whole = bytes_eq (take (length front) whole) front

abbrev pub is_owed : Terms → Log → Now → Client → Bool
is_owed terms log now client = is_front (written_of client.link log) (due_to terms now client)

-- What is said on links to servers. An execute is written at once.

abbrev pub is_run : Command → Bool
is_run (Run text schema settings args) = true
is_run _ = false

-- the messages before the last, and the last
pub record Ends : Type 0 where
  pub front : List Framed
  pub last : Framed

abbrev pub ends_in : Framed → List Framed → Ends
ends_in message [] = record { front = []; last = message }
ends_in message (other ∷ more) = record (ends_in other more) {
  front = message ∷ (ends_in other more).front;
}

abbrev pub executes : (there : ℕ) → Args → (bytes : List ℕ) → Ends → Bool
executes there args bytes ends =
    is_empty (written_in bytes).rest
    && (is_for com_execute there ends.last.payload
    && (list_any (λ params. are_args
    (args_in params there (λ i. false) 0 ends.front ends.last.payload) args) (0 ∷ 1 ∷ 2 ∷ 3 ∷ [])
    && (list_all (λ (m : Framed). is_for com_long_data there m.payload) ends.front
    && bytes_eq (take 5 (drop 5 ends.last.payload)) (0 ∷ 1 ∷ 0 ∷ 0 ∷ 0 ∷ []))))

abbrev pub executes_by : (number : Option ℕ) → Args → (bytes : List ℕ) → List Framed → Bool
executes_by None args bytes messages = false
executes_by (Some there) args bytes [] = false
executes_by (Some there) args bytes (message ∷ more) = executes there args bytes (ends_in message more)

abbrev pub begins : Command → (number : Option ℕ) → (written : List ℕ) → Bool
begins (Run text schema settings args) number written =
    executes_by number args written (written_in written).messages
begins command number written = is_front written (spelling 0 (text_payload command))

abbrev pub asks : Stage → (live : ℕ → Option ℕ) → (written : List ℕ) → Bool
asks Quiet live written = true
asks (Asked question) live written = begins (command_of question) (number_for question live) written
asks (Answered question) live written = begins (command_of question) (number_for question live) written

abbrev pub steps : Option StepText → (written : List ℕ) → Bool
steps (Some (Closes number)) written = is_front written (spelling 0 (step_payload (Closes number)))
steps (Some (Resets number)) written = is_front written (spelling 0 (step_payload (Resets number)))
steps _ written = true

abbrev pub is_unsaid : Stage → Option StepText → (written : List ℕ) → Bool
is_unsaid Quiet (Some (Closes number)) written = true
is_unsaid Quiet (Some (Resets number)) written = true
is_unsaid Quiet _ written = is_empty written
is_unsaid _ step written = true

abbrev pub says_behind : Wire → Link → Bool
says_behind wire link =
    (asks link.stage link.live wire.written && steps wire.step wire.written)
    && (if wire.quits then is_front wire.written (spelling 0 (text_payload Quit))
    else is_unsaid link.stage wire.step wire.written)

abbrev pub says_there : Terms → Tale → LinkId → Bool
says_there terms tale link =
    if (tale.wires link).entered then says_behind (tale.wires link) (link_in (setup_in terms) tale link)
    else is_front (tale.wires link).written
    (said_of (opening ((plan_in terms).logins link) (tale.wires link).unread))

abbrev pub says : Terms → Log → Now → Bool
says terms log now = list_all (says_there terms now.tale) now.tale.links

-- Its tags.

-- what stands there is whole
abbrev pub is_whole_step : Option StepText → (written : List ℕ) → Bool
is_whole_step (Some (Closes number)) written =
    bytes_eq written (spelling 0 (step_payload (Closes number)))
is_whole_step (Some (Resets number)) written =
    bytes_eq written (spelling 0 (step_payload (Resets number)))
is_whole_step _ written = true

abbrev pub is_for_session : Tag → StepText → Bool
is_for_session (tags.Sync client hostgroup) (Asks command) = true
is_for_session (tags.Sync client hostgroup) _ = false
is_for_session tags.Reply step = false
is_for_session _ step = true

abbrev pub stands_in : (of_link of_question : Option Hostgroup) → Bool
stands_in of_link None = true
stands_in of_link (Some hostgroup) = is_option is_hostgroup of_link (Some hostgroup)

abbrev pub stands_right : Terms → Now → LinkId → Stage → Bool
stands_right terms now link (Asked question) =
    stands_in (hostgroup_of terms.router (wire_now now link).server) (hostgroup_asked question)
stands_right terms now link _ = true

abbrev pub begins_right : Terms → Log → Now → LinkId → Tag → (later : Now) → Bool
begins_right terms log now link tag later =
    let step = (plan_in terms).steps link (wire_now now link).begun in
    ((quits_for tag step || is_usable terms log now link)
    && is_whole_step (wire_now now link).step (wire_now now link).written)
    && (is_for_session tag step
    && stands_right terms later link (link_now (setup_in terms) later link).stage)

abbrev pub tagged_there : Terms → Log → Now → LinkId → Tag → (begins entered : Bool) → Now → Bool
tagged_there terms log now link tag true entered later = begins_right terms log now link tag later
tagged_there terms log now link tag false true later = is_option is_tag (last_tag link log) (Some tag)
tagged_there terms log now link tag false false later = is_tag tag tags.Own

abbrev pub tagged_to : Terms → Log → Now → LinkId → Tag → (is_server : Bool) → Now → Bool
tagged_to terms log now link tag true later =
    tagged_there terms log now link tag (may_begin (setup_in terms) link (wire_now now link) now.tale)
    (wire_now now link).entered later
tagged_to terms log now link tag false later = is_tag tag tags.Reply

abbrev pub is_tagged : Terms → Log → Now → Entry → Bool
is_tagged terms log now (Wrote link tag bytes) =
    tagged_to terms log now link tag (is_to_server now.tale link)
    (next terms now (Wrote link tag bytes))
is_tagged terms log now _ = true

-- What is told of its story may come.

abbrev pub passes : Setup → Plan → Tale → Entry → Bool
passes setup plan tale (Opened server address link) = not (is_to_server tale link)
passes setup plan tale (Wrote link tag bytes) =
    not (is_to_server tale link) || (not (may_begin setup link (tale.wires link) tale)
    || may_tell setup (begun_on setup plan tale.moment (view_of setup tale) link
    (tale.wires link) tag) tale.story)
passes setup plan tale _ = true

abbrev pub passes_from : Setup → Plan → Tale → Log → Bool
passes_from setup plan tale [] = true
passes_from setup plan tale (e ∷ log) =
    passes setup plan tale e && passes_from setup plan (tale_step setup plan tale e) log
