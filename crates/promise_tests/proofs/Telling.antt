-- What the tests of what a log tells show.
use Rattle.std.specs.Prelude.{◌≡◌, ◌≤◌, ◌<◌, ℕ, zero, suc, Bool, true, false, ◌&&◌, ◌||◌, bytes_eq, nat_le, nat_lt, length, take, if◌then◌else◌, List, [], ◌∷◌, ◌++◌, Option, Some, None, refl}
use Rattle.std.specs.List.{list_all}
use Rattle.std.specs.Option.{option_map_or}
use Rattle.std.proofs.Common.{subst, sym, ap, ◌∙◌, arith, append-nil}
use Rattle.std.proofs.lemmas.Bool.{and_parts}
use Rattle.client_session.specs.Answers.{account, opening_of}
use Rattle.client_side.specs.Login.{Fails, Opening, Says, Waits}
use Rattle.mx_base.specs.declared.names.LinkId.{LinkId}
use Rattle.mx_base.specs.declared.tag.Tag.{Tag}
use Rattle.mx_base.specs.declared.tag.Tag.TheVariants as tags
use Rattle.mx_wire.specs.Log.{Log, of_link, written_of}
use Rattle.mx_wire.specs.Tells.{Fits, IsSaltByte}
use Rattle.mx_wire.specs.declared.entry.Entry.{Entry}
use Rattle.mx_wire.specs.declared.entry.Entry.TheVariants as entry
use Rattle.packet_frame.specs.Packets.{Framed, spelling}
use Rattle.private_model.proofs.Maps.{hostgroup_of as hostgroup_is, number_of}
use Rattle.private_model.specs.Commands.{Account, Args, Command, FieldList, InitDb, Prepare, Query, Quit, ReadId, Reset, Run, SetId}
use Rattle.private_model.specs.Names.{Hostgroup}
use Rattle.private_model.specs.Story.{command_of, is_hostgroup}
use Rattle.private_model.specs.View.{Answered, Asked, Link, Quiet, Setup, Stage}
use Rattle.server_side.specs.Account.{Account as Login}
use Rattle.server_side.specs.Login.{opening, said_of}
use Rattle.log_story.specs.Executes.{args_in, is_for}
use Rattle.log_story.specs.Honest.{IsExecute, IsFront, IsStep, IsWritten, number_for}
use Rattle.log_story.specs.Owed.{talk_of}
use Rattle.log_story.specs.Plan.{Asks, Closes, Plan, Resets, StepText, com_long_data, text_payload}
use Rattle.log_story.specs.Servers.{may_begin, written_in}
use Rattle.log_story.specs.Tale.{Client, Tale, Wire, is_to_server, link_in, view_of}
use Rattle.log_story.specs.Telling.{tale_step}
use Rattle.tale_world.specs.Tested.{IsTestedFrom, Passes}
use Rattle.tale_world.specs.Tests.{is_account}
use Rattle.tale_world.proofs.Testing.{same_account}
use Rattle.router_promises.specs.Due.{DueSo}
use Rattle.router_promises.specs.Now.{Now, link_now, next, now_at, wire_now}
use Rattle.router_promises.specs.Router.{first_place}
use Rattle.router_promises.specs.Running.{hostgroup_of}
use Rattle.log_story.specs.Said.{Begins, IsNothing, IsQuestion, IsSaid, IsSaidBehind, IsStepText, SaysThere}
use Rattle.router_promises.specs.Headline.{SaysSo}
use Rattle.log_story.specs.Owed.{due_bytes}
use Rattle.router_promises.specs.Tags.{BeginsRight, IsForSession, StandsIn, StandsRight, TagsBy, WritesThere, WritesTo, hostgroup_asked}
use Rattle.router_promises.specs.Terms.{AreWhoTheySay, IsWhoItSays, Terms, login_as, plan_in, setup_in, tale_at}
use Rattle.router_promises.proofs.Saying.{now-tale}
use Rattle.router_promises.proofs.Refusals.{never}
use Rattle.promise_tests.specs.Same.{are_args, is_tag}
use Rattle.promise_tests.specs.Telling.{Ends, asks, begins, begins_right, ends_in, executes, executes_by, fits, is_as, is_empty, is_for_session, is_front, is_new, is_owed}
use Rattle.promise_tests.specs.Telling.{is_tagged, is_unsaid, is_whole_step, passes, passes_from, says, says_behind, says_there, says_who, stands_in, stands_right, steps, tagged_there, tagged_to}
use Rattle.promise_tests.proofs.Same.{all-so, any-so, exempt, found, front-so, implied, isnt, not-so, same-args, same-bytes, same-flag, same-option, same-place, same-tag}

-- The wire.

pub le-so : (a b : ℕ) → nat_le a b ≡ true → a ≤ b
le-so a b is = grind arith

pub lt-so : (a b : ℕ) → nat_lt a b ≡ true → a < b
lt-so a b is = grind arith

pub empty-so : {A : Type 0} (xs : List A) → is_empty xs ≡ true → xs ≡ []
empty-so [] is = refl
empty-so (x ∷ xs) is = isnt is

byte-so : (byte : ℕ) → (nat_le 1 byte && nat_le byte 127) ≡ true → IsSaltByte byte
byte-so byte is = (let parts = and_parts (nat_le 1 byte) _ is in record { from = le-so 1 byte parts.0; to = le-so byte 127 parts.1 })

pub fits-so : (log : Log) (e : Entry) → fits log e ≡ true → Fits log e
fits-so log (entry.Woke until_ms now_ms) is = le-so _ now_ms is
fits-so log (entry.Accepted port link salt) is =
    let parts = and_parts (is_new link log) _ is in
    let salted = and_parts _ _ parts.1 in
    record { fresh = empty-so (of_link link log) parts.0; salted = record { size = number_of (length salt) 20 salted.0; bytes = all-so IsSaltByte _ salt byte-so salted.1 } }
fits-so log (entry.Opened server address link) is =
    let parts = and_parts (is_new link log) _ is in record { fresh = empty-so (of_link link log) parts.0; above = parts.1 }
fits-so log (entry.Got link bytes) is =
    let parts = and_parts _ _ is in
    let sized = and_parts _ _ parts.1 in
    record { opened = parts.0; some = lt-so 0 (length bytes) sized.0; most = le-so (length bytes) 65536 sized.1 }
fits-so log (entry.ReadNothing link) is = is
fits-so log (entry.Ended link) is = is
fits-so log (entry.ReadFailed link) is = is
fits-so log (entry.Wrote link tag bytes) is = (let parts = and_parts _ _ is in record { opened = parts.0; some = lt-so 0 (length bytes) parts.1 })
fits-so log (entry.WriteNothing link) is = is
fits-so log (entry.WriteFailed link) is = is
fits-so log (entry.Closed link) is = is
fits-so log _ is = tt

-- Clients.

pub who-so : (terms : Terms) (client : Client) → says_who terms client ≡ true → IsWhoItSays terms client (opening_of (talk_of (plan_in terms) client))
who-so terms client is = by (opening_of (talk_of (plan_in terms) client)) is where
  by : (opening : Opening) → option_map_or (is_as terms client opening) (account (talk_of (plan_in terms) client)) true ≡ true → IsWhoItSays terms client opening
  by (Says switched response id rest) so = λ login is.
      (let here : is_as terms client (Says switched response id rest) login ≡ true =
      subst (λ (o : Option Login). option_map_or (is_as terms client (Says switched response id rest)) o true ≡ true) is so in
      let parts = and_parts (is_account (terms.decided.accounts client.number) (login_as login)) _ here in
      (same_account (terms.decided.accounts client.number) (login_as login) parts.0, same-place (terms.decided.places client.number) (first_place terms.router response) parts.1))
  by (Waits switched) so = tt
  by (Fails switched fault id) so = tt

pub whos-so : (terms : Terms) (log : Log) → list_all (says_who terms) (tale_at terms log).clients ≡ true → AreWhoTheySay terms log
whos-so terms log so = all-so _ (says_who terms) (tale_at terms log).clients (λ c is. who-so terms c is) so

pub due-so : (terms : Terms) (log : Log) → list_all (is_owed terms log (now_at terms log)) (now_at terms log).tale.clients ≡ true → DueSo terms log
due-so terms log so =
    let owed : Tale → Client → Bool = λ t client. is_front (written_of client.link log) (due_bytes (view_of (setup_in terms) t).replies (plan_in terms) t.moment client) in
    let tested : list_all (owed (tale_at terms log)) (tale_at terms log).clients ≡ true =
    subst (λ (t : Tale). list_all (owed t) t.clients ≡ true) (now-tale terms log) so in
    all-so _ (owed (tale_at terms log)) (tale_at terms log).clients (λ c is. front-so (written_of c.link log) (due_bytes (view_of (setup_in terms) (tale_at terms log)).replies (plan_in terms) (tale_at terms log).moment c) is) tested

-- What is said on links.

ends-so : (message : Framed) (more : List Framed) → message ∷ more ≡ (ends_in message more).front ++ (ends_in message more).last ∷ []
ends-so message [] = refl
ends-so message (other ∷ more) = ap (λ (ms : List Framed). message ∷ ms) (ends-so other more)

executes-so : (there : ℕ) (args : Args) (bytes : List ℕ) (ends : Ends) → (written_in bytes).messages ≡ ends.front ++ ends.last ∷ [] → executes there args bytes ends ≡ true → IsExecute (Some there) args bytes
executes-so there args bytes ends is so =
    let whole = and_parts _ _ so in
    let runs = and_parts _ _ whole.1 in
    let given = and_parts _ _ runs.1 in
    let long = and_parts _ _ given.1 in
    let params = any-so (λ params. are_args (args_in params there (λ i. false) 0 ends.front ends.last.payload) args) (0 ∷ 1 ∷ 2 ∷ 3 ∷ []) given.0 in
    record {
      there = there;
      named = refl;
      long_data = ends.front;
      message = ends.last;
      messages = is;
      own_data = all-so _ (λ (m : Framed). is_for com_long_data there m.payload) ends.front (λ m is. is) long.0;
      whole = empty-so (written_in bytes).rest whole.0;
      executes = runs.0;
      plain = same-bytes _ _ long.1;
      params = params.0;
      arguments = same-args (args_in params.0 there (λ i. false) 0 ends.front ends.last.payload) args params.1;
    }

run-so : (number : Option ℕ) (args : Args) (bytes : List ℕ) (messages : List Framed) → (written_in bytes).messages ≡ messages → executes_by number args bytes messages ≡ true → IsExecute number args bytes
run-so None args bytes messages is so = isnt so
run-so (Some there) args bytes [] is so = isnt so
run-so (Some there) args bytes (message ∷ more) is so = executes-so there args bytes (ends_in message more) (is ∙ ends-so message more) so

plain-so : (command : Command) (number : Option ℕ) (written : List ℕ) → ((bytes : List ℕ) → bytes ≡ spelling 0 (text_payload command) → IsWritten command number bytes)
    → is_front written (spelling 0 (text_payload command)) ≡ true → Begins command number written
plain-so command number written all so =
    let front = front-so written (spelling 0 (text_payload command)) so in
    record { more = front.rest; all = all (written ++ front.rest) front.is }

begins-so : (command : Command) (number : Option ℕ) (written : List ℕ) → begins command number written ≡ true → Begins command number written
begins-so (Run text schema settings args) number written so =
    record { more = []; all = subst (λ (b : List ℕ). IsExecute number args b) (sym (append-nil written)) (run-so number args written (written_in written).messages refl so) }
begins-so (Query text) number written so = plain-so (Query text) number written (λ b is. is) so
begins-so (InitDb schema) number written so = plain-so (InitDb schema) number written (λ b is. is) so
begins-so (FieldList rest) number written so = plain-so (FieldList rest) number written (λ b is. is) so
begins-so (SetId n) number written so = plain-so (SetId n) number written (λ b is. is) so
begins-so ReadId number written so = plain-so ReadId number written (λ b is. is) so
begins-so (Prepare text) number written so = plain-so (Prepare text) number written (λ b is. is) so
begins-so Reset number written so = plain-so Reset number written (λ b is. is) so
begins-so Quit number written so = plain-so Quit number written (λ b is. is) so

asks-so : (stage : Stage) (live : ℕ → Option ℕ) (written : List ℕ) → asks stage live written ≡ true → IsQuestion stage live written
asks-so Quiet live written so = tt
asks-so (Asked question) live written so = begins-so (command_of question) (number_for question live) written so
asks-so (Answered question) live written so = begins-so (command_of question) (number_for question live) written so

steps-so : (step : Option StepText) (written : List ℕ) → steps step written ≡ true → IsStepText step written
steps-so None written so = tt
steps-so (Some (Asks command)) written so = tt
steps-so (Some (Closes number)) written so = front-so written _ so
steps-so (Some (Resets number)) written so = front-so written _ so

unsaid-so : (stage : Stage) (step : Option StepText) (written : List ℕ) → is_unsaid stage step written ≡ true → IsNothing stage step written
unsaid-so Quiet None written so = empty-so written so
unsaid-so Quiet (Some (Asks command)) written so = empty-so written so
unsaid-so Quiet (Some (Closes number)) written so = tt
unsaid-so Quiet (Some (Resets number)) written so = tt
unsaid-so (Asked question) step written so = tt
unsaid-so (Answered question) step written so = tt

quit-so : (quits : Bool) (stage : Stage) (step : Option StepText) (written : List ℕ)
    → (if quits then is_front written (spelling 0 (text_payload Quit)) else is_unsaid stage step written) ≡ true → quits ≡ true → IsFront written (spelling 0 (text_payload Quit))
quit-so true stage step written so is = front-so written _ so
quit-so false stage step written so is = isnt is

calm-so : (quits : Bool) (stage : Stage) (step : Option StepText) (written : List ℕ)
    → (if quits then is_front written (spelling 0 (text_payload Quit)) else is_unsaid stage step written) ≡ true → quits ≡ false → IsNothing stage step written
calm-so true stage step written so is = never is
calm-so false stage step written so is = unsaid-so stage step written so

behind-so : (wire : Wire) (link : Link) → says_behind wire link ≡ true → IsSaidBehind wire link
behind-so wire link so =
    let both = and_parts _ _ so in
    let first = and_parts _ _ both.0 in
    record {
      question = asks-so link.stage link.live wire.written first.0;
      step = steps-so wire.step wire.written first.1;
      quit = λ quits. quit-so wire.quits link.stage wire.step wire.written both.1 quits;
      nothing = λ calm. calm-so wire.quits link.stage wire.step wire.written both.1 calm;
    }

there-so : (terms : Terms) (tale : Tale) (link : LinkId) → says_there terms tale link ≡ true → SaysThere (setup_in terms) (plan_in terms) tale link
there-so terms tale link so = by (tale.wires link).entered so where
  login : Login
  login = (plan_in terms).logins link

  by : (entered : Bool) → (if entered then says_behind (tale.wires link) (link_in (setup_in terms) tale link)
      else is_front (tale.wires link).written (said_of (opening login (tale.wires link).unread))) ≡ true → IsSaid entered login (tale.wires link) (link_in (setup_in terms) tale link)
  by true so = behind-so (tale.wires link) (link_in (setup_in terms) tale link) so
  by false so = front-so (tale.wires link).written _ so

pub said-so : (terms : Terms) (log : Log) → says terms log (now_at terms log) ≡ true → SaysSo terms log
said-so terms log so link there =
    let tested : list_all (says_there terms (tale_at terms log)) (tale_at terms log).links ≡ true =
    subst (λ (t : Tale). list_all (says_there terms t) t.links ≡ true) (now-tale terms log) so in
    found (SaysThere (setup_in terms) (plan_in terms) (tale_at terms log)) (says_there terms (tale_at terms log)) link (tale_at terms log).links (there-so terms (tale_at terms log)) tested there

-- Tags.

pub step-whole : (step : Option StepText) (written : List ℕ) → is_whole_step step written ≡ true → IsStep step written
step-whole None written so = tt
step-whole (Some (Asks command)) written so = tt
step-whole (Some (Closes number)) written so = same-bytes written _ so
step-whole (Some (Resets number)) written so = same-bytes written _ so

session-so : (tag : Tag) (step : StepText) → is_for_session tag step ≡ true → IsForSession tag step
session-so (tags.Sync client hostgroup) (Asks command) so = tt
session-so (tags.Sync client hostgroup) (Closes number) so = isnt so
session-so (tags.Sync client hostgroup) (Resets number) so = isnt so
session-so tags.Reply step so = isnt so
session-so (tags.For client ordinal) step so = tt
session-so (tags.Prep client ordinal) step so = tt
session-so (tags.Mirror client ordinal) step so = tt
session-so (tags.End client hostgroup) step so = tt
session-so tags.Own step so = tt

in-so : (of_link of_question : Option Hostgroup) → stands_in of_link of_question ≡ true → StandsIn of_link of_question
in-so of_link None so = tt
in-so of_link (Some hostgroup) so = same-option is_hostgroup hostgroup_is of_link (Some hostgroup) so

stands-so : (terms : Terms) (now : Now) (link : LinkId) (stage : Stage) → stands_right terms now link stage ≡ true → StandsRight terms now link stage
stands-so terms now link (Asked question) so = in-so (hostgroup_of terms.router (wire_now now link).server) (hostgroup_asked question) so
stands-so terms now link Quiet so = tt
stands-so terms now link (Answered question) so = tt

right-so : (terms : Terms) (log : Log) (now : Now) (link : LinkId) (tag : Tag) (later : Now) → begins_right terms log now link tag later ≡ true → BeginsRight terms log now link tag later
right-so terms log now link tag later so =
    let both = and_parts _ _ so in
    let first = and_parts _ _ both.0 in
    let second = and_parts _ _ both.1 in
    record {
      sound = λ calm. exempt _ _ first.0 calm;
      closed = step-whole (wire_now now link).step (wire_now now link).written first.1;
      session = session-so tag ((plan_in terms).steps link (wire_now now link).begun) second.0;
      group = stands-so terms later link (link_now (setup_in terms) later link).stage second.1;
    }

writes-so : (terms : Terms) (log : Log) (now : Now) (link : LinkId) (tag : Tag) (begins entered : Bool) (later : Now)
    → tagged_there terms log now link tag begins entered later ≡ true → WritesThere terms log now link tag begins entered later
writes-so terms log now link tag true entered later so = right-so terms log now link tag later so
writes-so terms log now link tag false true later so = same-option is_tag same-tag _ (Some tag) so
writes-so terms log now link tag false false later so = same-tag tag tags.Own so

to-so : (terms : Terms) (log : Log) (now : Now) (link : LinkId) (tag : Tag) (is_server : Bool) (later : Now)
    → tagged_to terms log now link tag is_server later ≡ true → WritesTo terms log now link tag is_server later
to-so terms log now link tag true later so =
    writes-so terms log now link tag (may_begin (setup_in terms) link (wire_now now link) now.tale) (wire_now now link).entered later so
to-so terms log now link tag false later so = same-tag tag tags.Reply so

pub tagged-so : (terms : Terms) (log : Log) (now : Now) (e : Entry) → is_tagged terms log now e ≡ true → TagsBy terms log now e
tagged-so terms log now (entry.Wrote link tag bytes) so = to-so terms log now link tag (is_to_server now.tale link) (next terms now (entry.Wrote link tag bytes)) so
tagged-so terms log now _ so = tt

-- The story.

pass-so : (setup : Setup) (plan : Plan) (tale : Tale) (e : Entry) → passes setup plan tale e ≡ true → Passes setup plan tale e
pass-so setup plan tale (entry.Opened server address link) so = not-so (is_to_server tale link) so
pass-so setup plan tale (entry.Wrote link tag bytes) so = λ there begins. implied _ _ (implied _ _ so there) begins
pass-so setup plan tale _ so = tt

pub passes-so : (setup : Setup) (plan : Plan) (tale : Tale) (log : Log) → passes_from setup plan tale log ≡ true → (n : ℕ) → IsTestedFrom setup plan tale (take n log)
passes-so setup plan tale [] so zero = tt
passes-so setup plan tale [] so (suc n) = tt
passes-so setup plan tale (e ∷ log) so zero = tt
passes-so setup plan tale (e ∷ log) so (suc n) =
    let parts = and_parts _ _ so in
    (pass-so setup plan tale e parts.0, passes-so setup plan (tale_step setup plan tale e) log parts.1 n)
