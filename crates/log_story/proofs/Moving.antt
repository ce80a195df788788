-- What each entry of a log leaves as it was.
use Rattle.std.specs.Prelude.{◌≡◌, ◌-◌, ◌&&◌, ℕ, Bool, true, false, not, List, [], ◌∷◌, ◌++◌, if◌then◌else◌, length, take, slice_index_or, unwrap_or}
use Rattle.std.specs.Prelude.{nat_eq, Option}
use Rattle.std.specs.Prelude.{Some, None}
use Rattle.std.proofs.Common.{◌∙◌, refl, sym, ap, subst}
use Rattle.mx_base.specs.declared.tag.Tag.{Tag}
use Rattle.mx_base.specs.declared.tag.Tag.TheVariants as tag
use Rattle.packet_frame.specs.Packets.{Framed}
use Rattle.reply_track.specs.declared.reply.ReplyKind.TheVariants as kind
use Rattle.reply_track.specs.Runs.{Ending}
use Rattle.reply_track.specs.Runs.Ending.{Ended, Failed, Going}
use Rattle.server_rule.specs.Classes.{Reads}
use Rattle.server_side.specs.Login.{Fails, Goes, LogsIn, Opening, opening}
use Rattle.private_model.proofs.Maps.{same_link}
use Rattle.private_model.specs.Commands.{Account, Command}
use Rattle.private_model.specs.Names.{ClientNo, Hostgroup, LinkId, SessionName}
use Rattle.server_rule.specs.Servers.{is_some_of}
use Rattle.private_model.specs.Story.{BecameDue, Broke, Dropped, Due, End, Freed, Gone, Happening, Heard, Left, LoggedIn, Mirrored, Own, Prep, Question, Ran, Sent}
use Rattle.private_model.specs.Story.{Statement, Story, Sync, Unprepared}
use Rattle.private_model.specs.Story.{is_client, command_of}
use Rattle.private_model.specs.View.{Answered, Asked, Carried, Joined, Lent, Link, Nobody, Quiet, Setup, Stage, View, asked}
use Rattle.private_model.specs.View.{present, ran_by, session_in, view_after, view_step}
use Rattle.log_story.specs.Clients.{copied, due_by, ended_if_now, taken_by}
use Rattle.log_story.specs.Executes.{Request, requested}
use Rattle.log_story.specs.Owed.{name_of}
use Rattle.log_story.specs.Plan.{Asks, Closes, Plan, Resets, Route, StepText, com_reset, is_now, job_of}
use Rattle.log_story.specs.Servers.{begins, begun_by, begun_on, copy_by, due_in, ended_by, entered_by, freed_if_done, heard_by, hears, is_done, kind_by}
use Rattle.log_story.specs.Servers.{logged_in_as, may_begin, of_due, or_broke, quits_by, quits_for, read_as, reads_on, reply_in}
use Rattle.log_story.specs.Servers.{reset_by, runs_first, stepped, with_run, writes}
use Rattle.log_story.specs.Tale.{Client, Tale, Wire, is_reset_step, link_in, tell, view_of, with_wire}
use Rattle.log_story.specs.Telling.{server_says, wire_with}
use Rattle.log_story.proofs.Frames.{Moved, Rests, client_and_job, is_touched, is_whose, no_link_at, nobody, only_client, only_link, asker_at}
use Rattle.log_story.proofs.Happens.{dropped-rests, due-rests, flipped, freed-rests, gone-rests, heard-rests, left-rests, logged-in-rests, mirrored-rests, or_left}
use Rattle.log_story.proofs.Happens.{or_right}
use Rattle.log_story.proofs.Happens.{put_link, ran-rests, rests-more, rests-on, same-rests, sent-rests, unprepared-rests, whosever}

-- What a story makes of a tale.

pub same-moved : (setup : Setup) (touched : LinkId → Bool) (whose : ClientNo → Bool) (tale : Tale) → Moved setup touched whose tale tale
same-moved setup touched whose tale =
    record { moment = refl; places = refl; clients = refl; wire = λ l other. refl; view = same-rests touched whose (view_of setup tale) }

pub moved-on : (setup : Setup) (touched : LinkId → Bool) (whose : ClientNo → Bool) (old mid new : Tale) → Moved setup touched whose old mid
    → Moved setup touched whose mid new → Moved setup touched whose old new
moved-on setup touched whose old mid new first next = record {
  moment = next.moment ∙ first.moment;
  places = next.places ∙ first.places;
  clients = next.clients ∙ first.clients;
  wire = λ l other. next.wire l other ∙ first.wire l other;
  view = rests-on touched whose (view_of setup old) (view_of setup mid) (view_of setup new) first.view next.view;
}

pub moved-more : (setup : Setup) (touched touched' : LinkId → Bool) (whose whose' : ClientNo → Bool) (old new : Tale)
    → ((l : LinkId) → touched' l ≡ false → touched l ≡ false)
    → ((c : ClientNo) → whose' c ≡ false → whose c ≡ false) → Moved setup touched whose old new → Moved setup touched' whose' old new
moved-more setup touched touched' whose whose' old new links clients moved = record {
  moment = moved.moment;
  places = moved.places;
  clients = moved.clients;
  wire = λ l other. moved.wire l (links l other);
  view = rests-more touched touched' whose whose' (view_of setup old) (view_of setup new) links clients moved.view;
}

module _ (setup : Setup) where
  pub tell-moved : (touched : LinkId → Bool) (whose : ClientNo → Bool) (e : Happening) (tale : Tale)
      → Rests touched whose (view_of setup tale) (view_step setup (view_of setup tale) e) → Moved setup touched whose tale (tell e tale)
  tell-moved touched whose e tale rests = record { moment = refl; places = refl; clients = refl; wire = λ l other. refl; view = rests }

  pub wire-moved : (link : LinkId) (wire : Wire) (whose : ClientNo → Bool) (tale : Tale) → Moved setup (only_link link) whose tale (with_wire link wire tale)
  wire-moved link wire whose tale = record {
    moment = refl;
    places = refl;
    clients = refl;
    wire = put_link tale.wires link wire;
    view = same-rests (only_link link) whose (view_of setup tale);
  }

  pub freed-moved : (plan : Plan) (tale : Tale) (link : LinkId) → Moved setup (only_link link) nobody tale (freed_if_done setup plan tale link)
  freed-moved plan tale link = by (is_done plan tale.moment (view_of setup tale) (tale.wires link) (link_in setup tale link))
    where
      by : (b : Bool) → Moved setup (only_link link) nobody tale (if b then tell (Freed link) tale else tale)
      by true = tell-moved (only_link link) nobody (Freed link) tale (freed-rests setup (view_of setup tale) link)
      by false = same-moved setup (only_link link) nobody tale

  -- Clients leave.

  pub left-moved : (client : ClientNo) (tale : Tale) → Moved setup no_link_at (only_client client) tale (tell (Left client) tale)
  left-moved client tale = tell-moved no_link_at (only_client client) (Left client) tale (left-rests setup (view_of setup tale) client)

  left_if : (client : ClientNo) (tale : Tale) (b : Bool) → Moved setup no_link_at (only_client client) tale (if b then tell (Left client) tale else tale)
  left_if client tale true = left-moved client tale
  left_if client tale false = same-moved setup no_link_at (only_client client) tale

  pub ended-moved : (plan : Plan) (tale : Tale) (client : Client) → Moved setup no_link_at (only_client client.number) tale (ended_if_now plan tale client)
  ended-moved plan tale client = left_if client.number tale (is_now tale.moment (plan.ends client.number))

  -- What servers run, and links that end.

  pub ran-moved : (link : LinkId) (tale : Tale) → Moved setup (only_link link) nobody tale (tell (Ran link) tale)
  ran-moved link tale = tell-moved (only_link link) nobody (Ran link) tale (ran-rests setup (view_of setup tale) link)

  pub dropped-moved : (link : LinkId) (tale : Tale) → Moved setup (only_link link) nobody tale (tell (Dropped link) tale)
  dropped-moved link tale = tell-moved (only_link link) nobody (Dropped link) tale (dropped-rests setup (view_of setup tale) link)

  pub run-moved : (link : LinkId) (tale : Tale)
      → Moved setup (only_link link) nobody tale
      (if (tale.wires link).entered then tell (if (tale.wires link).quits then Dropped link else Ran link) tale else tale)
  run-moved link tale = by (tale.wires link).entered (tale.wires link).quits
    where
      by : (a b : Bool) → Moved setup (only_link link) nobody tale (if a then tell (if b then Dropped link else Ran link) tale else tale)
      by true true = dropped-moved link tale
      by true false = ran-moved link tale
      by false b = same-moved setup (only_link link) nobody tale

  pub gone-moved : (link : LinkId) (tale : Tale)
      → Moved setup (only_link link) (is_touched (link_in setup tale link) (link_in setup (tell (Gone link) tale) link)) tale (tell (Gone link) tale)
  gone-moved link tale =
      moved-more setup (only_link link) (only_link link) (is_whose (session_in (link_in setup tale link).carries)) whose tale (tell (Gone link) tale)
      (λ l other. other)
      (λ c other. ap (λ (k : Carried). is_whose (session_in k) c) (sym same)
      ∙ or_right (is_whose (asker_at new.stage) c) (is_whose (session_in new.carries) c)
      (or_right (is_whose (asker_at (link_in setup tale link).stage) c) _ other))
      (tell-moved (only_link link) (is_whose (session_in (link_in setup tale link).carries)) (Gone link) tale (gone-rests setup (view_of setup tale) link))
    where
      new : Link
      new = link_in setup (tell (Gone link) tale) link

      whose : ClientNo → Bool
      whose = is_touched (link_in setup tale link) new

      same : new.carries ≡ (link_in setup tale link).carries
      same = ap (λ b. (if b then record (link_in setup tale link) { usable = false } else link_in setup tale link).carries) (same_link link)

-- Bytes are read on a link.

module _ (setup : Setup) (link : LinkId) (tale : Tale) where
  abbrev there : Link
  there = link_in setup tale link

  pub first-run-moved : (stage : Stage) → Moved setup (only_link link) nobody tale (runs_first stage link tale)
  first-run-moved Quiet = same-moved setup (only_link link) nobody tale
  first-run-moved (Asked question) = ran-moved setup link tale
  first-run-moved (Answered question) = same-moved setup (only_link link) nobody tale

  ran_session : (reads : Reads) (stage : Stage) (known : Link) → known.stage ≡ stage → asker_at (ran_by reads stage known).stage ≡ asker_at stage
  ran_session reads (Asked question) known is = refl
  ran_session reads Quiet known is = ap asker_at is
  ran_session reads (Answered question) known is = ap asker_at is

  abbrev session_behind : Stage → Option SessionName
  session_behind stage = asker_at (link_in setup (runs_first stage link tale) link).stage

  -- the question stays as it runs
  pub run-session : asker_at (link_in setup (with_run setup link tale) link).stage ≡ asker_at there.stage
  run-session = by there.stage refl
    where
      by : (stage : Stage) → there.stage ≡ stage → session_behind there.stage ≡ asker_at there.stage
      by Quiet is = ap session_behind is
      by (Answered question) is = ap session_behind is
      by (Asked question) is = ap session_behind is
          ∙ ap (λ b. asker_at (if b then ran_by setup.reads there.stage there else there).stage) (same_link link)
          ∙ ran_session setup.reads there.stage there refl

  pub heard-moved : (question : Question) (wire : Wire) (ending : Ending)
      → Moved setup (only_link link) (is_whose (asker_at there.stage)) tale (heard_by link question wire ending tale)
  heard-moved question wire (Ended end rest) =
      let said = record wire { unread = rest; written = [] } in
      let whose = is_whose (asker_at there.stage) in
      let reply = reply_in wire question (take (length wire.unread - length rest) wire.unread) in
      moved-on setup (only_link link) whose tale (with_wire link said tale) (tell (Heard link reply) (with_wire link said tale))
      (wire-moved setup link said whose tale)
      (tell-moved setup (only_link link) whose (Heard link reply) (with_wire link said tale) (heard-rests setup (view_of setup tale) link reply))
  heard-moved question wire (Going state) = wire-moved setup link wire (is_whose (asker_at there.stage)) tale
  heard-moved question wire (Failed rest) = wire-moved setup link wire (is_whose (asker_at there.stage)) tale

  pub hears-moved : (wire : Wire) (stage : Stage) → Moved setup (only_link link) (is_whose (asker_at there.stage)) tale (hears link wire stage tale)
  hears-moved wire (Answered question) = heard-moved question wire (read_as (kind_by (command_of question)) wire)
  hears-moved wire Quiet = wire-moved setup link wire (is_whose (asker_at there.stage)) tale
  hears-moved wire (Asked question) = wire-moved setup link wire (is_whose (asker_at there.stage)) tale

module _ (setup : Setup) (link : LinkId) (tale : Tale) where
  abbrev before : Link
  before = link_in setup tale link

  abbrev asker : ClientNo → Bool
  asker = is_whose (asker_at before.stage)

  abbrev Says : Tale → Type 0
  Says new = Moved setup (only_link link) (is_touched before (link_in setup new link)) tale new

  silent : (new : Tale) → Moved setup (only_link link) nobody tale new → Says new
  silent new = moved-more setup (only_link link) (only_link link) nobody (is_touched before (link_in setup new link)) tale new (λ l other. other)
      (λ c other. refl)

  asked_there : (new : Tale) → Moved setup (only_link link) asker tale new → Says new
  asked_there new = moved-more setup (only_link link) (only_link link) asker (is_touched before (link_in setup new link)) tale new (λ l other. other)
      (λ c other. or_left (asker c) _ other)

  pub reads-moved : (wire : Wire) → Moved setup (only_link link) (is_whose (asker_at before.stage)) tale (reads_on setup link wire tale)
  reads-moved wire =
      let run = with_run setup link tale in
      let new = reads_on setup link wire tale in
      moved-on setup (only_link link) asker tale run new
      (moved-more setup (only_link link) (only_link link) nobody asker tale run (λ l other. other) (λ c other. refl)
      (first-run-moved setup link tale before.stage))
      (subst (λ (session : Option SessionName). Moved setup (only_link link) (is_whose session) run new) (run-session setup link tale)
      (hears-moved setup link run wire (link_in setup run link).stage))

  entered-moved : (plan : Plan) (wire : Wire) (said : Opening) → Moved setup (only_link link) nobody tale (entered_by plan link wire said tale)
  entered-moved plan wire (LogsIn said rest) =
      let login = plan.logins link in
      let account : Account = logged_in_as login in
      let now = record wire { entered = true; unread = rest; written = [] } in
      moved-on setup (only_link link) nobody tale (with_wire link now tale) (tell (LoggedIn link wire.server account) (with_wire link now tale))
      (wire-moved setup link now nobody tale)
      (tell-moved setup (only_link link) nobody (LoggedIn link wire.server account) (with_wire link now tale)
      (logged-in-rests setup (view_of setup tale) link wire.server account))
  entered-moved plan wire (Goes said) = wire-moved setup link wire nobody tale
  entered-moved plan wire (Fails said fault) = wire-moved setup link wire nobody tale

  reset-moved : (wire : Wire) (ending : Ending) → Moved setup (only_link link) nobody tale (reset_by link wire ending tale)
  reset-moved wire (Ended end rest) = wire-moved setup link (record wire { unread = rest; written = []; step = None }) nobody tale
  reset-moved wire (Going state) = wire-moved setup link wire nobody tale
  reset-moved wire (Failed rest) = wire-moved setup link wire nobody tale

pub says-moved : (setup : Setup) (plan : Plan) (link : LinkId) (bytes : List ℕ) (tale : Tale)
    → Moved setup (only_link link) (is_touched (link_in setup tale link) (link_in setup (server_says setup plan link bytes tale) link)) tale
    (server_says setup plan link bytes tale)
says-moved setup plan link bytes tale = by (not (tale.wires link).entered) (is_reset_step (tale.wires link).step)
  where
    wire : Wire
    wire = wire_with tale link bytes

    said : Opening
    said = opening (plan.logins link) wire.unread

    by : (a b : Bool) → Says setup link tale
        (if a then entered_by plan link wire said tale else if b then reset_by link wire (read_as kind.Command wire) tale else reads_on setup link wire tale)
    by true b = silent setup link tale (entered_by plan link wire said tale) (entered-moved setup link tale plan wire said)
    by false true =
        silent setup link tale (reset_by link wire (read_as kind.Command wire) tale) (reset-moved setup link tale wire (read_as kind.Command wire))
    by false false = asked_there setup link tale (reads_on setup link wire tale) (reads-moved setup link tale wire)

-- A question begins on a link: it stands there then.

module _ (setup : Setup) (story : Story) (plan : Plan) (moment : ℕ) (view : View) (link : LinkId) where
  abbrev old : View
  old = view_after setup story

  abbrev Begins : List Happening → Type 0
  Begins happenings =
      Rests (only_link link) (is_whose (asker_at ((view_after setup (happenings ++ story)).links link).stage)) old (view_after setup (happenings ++ story))

  stands_there : (question : Question) → ((view_step setup old (Sent link question)).links link).stage ≡ Asked question
  stands_there question = ap (λ b. (if b then asked question (old.links link) else old.links link).stage) (same_link link)

  sent : (question : Question) → Begins (Sent link question ∷ [])
  sent question =
      let new = view_step setup old (Sent link question) in
      subst (λ (stage : Stage). Rests (only_link link) (is_whose (asker_at stage)) old new) (sym (stands_there question)) (sent-rests setup old link question)

  sent_as_left : (n : SessionName) (due : Due) → Begins (Left n.client ∷ Sent link (Statement n due) ∷ [])
  sent_as_left n due =
      let mid = view_step setup old (Sent link (Statement n due)) in
      let new = view_step setup mid (Left n.client) in
      subst (λ (stage : Stage). Rests (only_link link) (is_whose (asker_at stage)) old new) (sym (stands_there (Statement n due)))
      (rests-on (only_link link) (is_whose (Some n)) old mid new (sent-rests setup old link (Statement n due))
      (rests-more no_link_at (only_link link) (only_client n.client) (is_whose (Some n)) mid new (λ l other. refl) (λ c other. flipped n.client c other)
      (left-rests setup mid n.client)))

  nothing : Begins []
  nothing = same-rests (only_link link) (is_whose (asker_at (old.links link).stage)) old

  -- a rule of sending is broken
  broken : Begins (Broke ∷ [])
  broken = nothing

  or-broken : {A : Type 0} (happens : A → List Happening) (found : Option A) → ((a : A) → Begins (happens a)) → Begins (or_broke happens found)
  or-broken happens None begin = broken
  or-broken happens (Some a) begin = begin a

  due-begins : (ordinal : ℕ) (n : SessionName) (question : Due → Question) → Begins (of_due plan moment view link ordinal n question)
  due-begins ordinal n question =
      or-broken (λ due. Sent link (question due) ∷ []) (due_in plan moment ordinal n (view.dues n)) (λ due. sent (question due))

  stepped-begins : (question : Command → Question) (step : StepText) → Begins (stepped link question step)
  stepped-begins question (Asks command) = sent (question command)
  stepped-begins question (Closes number) =
      let new = view_step setup old (Unprepared link number) in
      whosever (only_link link) (is_whose (asker_at (new.links link).stage)) old new (unprepared-rests setup old link number)
  stepped-begins question (Resets number) = nothing

  copy-begins : (n : SessionName) (carries : Carried) → Begins (copy_by plan moment view link n carries)
  copy-begins n Nobody = or-broken _ (due_in plan moment 1 n (view.dues n)) (sent_as_left n)
  copy-begins n (Lent who) = or-broken _ (due_in plan moment 1 n (view.dues n)) (sent_as_left n)
  copy-begins n (Joined who) = by (is_client who.client n.client)
    where
      by : (b : Bool) → Begins (if b then Sent link (End who) ∷ [] else of_due plan moment view link 1 n (Statement n))
      by true = sent (End who)
      by false = due-begins 1 n (Statement n)

  own-begins : (quits : Bool) (step : StepText) → Begins (if quits then [] else stepped link Own step)
  own-begins true step = nothing
  own-begins false step = stepped-begins Own step

  begun-rests : (begun : ℕ) (for : Tag) → Begins (begun_by setup plan moment view link begun for)
  begun-rests begun (tag.For client ordinal) =
      or-broken _ (plan.routes (record { client = client; ordinal = ordinal }))
      (λ route. let n = present view client route.hostgroup in due-begins ordinal n (Statement n))
  begun-rests begun (tag.Prep client ordinal) =
      or-broken _ (plan.routes (record { client = client; ordinal = ordinal }))
      (λ route. let n = present view client route.hostgroup in due-begins ordinal n (λ due. Prep n due.key (setup.keys due.key).text))
  begun-rests begun (tag.Mirror client ordinal) =
      let job = job_of (record { client = client; ordinal = ordinal }) in
      or-broken _ (plan.routes (record { client = client; ordinal = ordinal }))
      (λ route. or-broken _ route.mirror (λ hostgroup. copy-begins (present view job hostgroup) (view.links link).carries))
  begun-rests begun (tag.Sync client hostgroup) = stepped-begins (Sync (present view client hostgroup)) (plan.steps link begun)
  begun-rests begun (tag.End client hostgroup) = sent (ended_by view (unwrap_or (session_in (view.links link).carries) (present view client hostgroup)))
  begun-rests begun tag.Own = own-begins (quits_by (plan.steps link begun)) (plan.steps link begun)
  begun-rests begun tag.Reply = broken

  begun-on-rests : (wire : Wire) (for : Tag) → Begins (begun_on setup plan moment view link wire for)
  begun-on-rests wire for = by (is_some_of wire.unread && not (quits_for for (plan.steps link wire.begun)))
    where
      by : (b : Bool) → Begins (if b then Broke ∷ [] else begun_by setup plan moment view link wire.begun for)
      by true = broken
      by false = begun-rests wire.begun for

-- Bytes are written on a link.
pub writes-moved : (setup : Setup) (plan : Plan) (link : LinkId) (for : Tag) (bytes : List ℕ) (tale : Tale)
    → Moved setup (only_link link) (is_touched (link_in setup tale link) (link_in setup (writes setup plan link for bytes (tale.wires link) tale) link)) tale
    (writes setup plan link for bytes (tale.wires link) tale)
writes-moved setup plan link for bytes tale = by (may_begin setup link wire tale)
  where
    wire : Wire
    wire = tale.wires link

    goes_on : Wire
    goes_on = record wire { written = wire.written ++ bytes }

    begun : Tale
    begun = begins setup plan link for bytes wire tale

    stands : ClientNo → Bool
    stands = is_whose (asker_at (link_in setup begun link).stage)

    begun-moved : Moved setup (only_link link) stands tale begun
    begun-moved = record {
      moment = refl;
      places = refl;
      clients = refl;
      wire = λ l other. put_link tale.wires link _ l other;
      view = begun-on-rests setup tale.story plan tale.moment (view_of setup tale) link wire for;
    }

    by : (b : Bool) → Says setup link tale (if b then begun else with_wire link goes_on tale)
    by true = moved-more setup (only_link link) (only_link link) stands (is_touched (link_in setup tale link) (link_in setup begun link)) tale begun
        (λ l other. other) (λ c other. or_left (stands c) _ (or_right (is_whose (asker_at (link_in setup tale link).stage) c) _ other)) begun-moved
    by false = silent setup link tale (with_wire link goes_on tale) (wire-moved setup link goes_on nobody tale)

-- A message is taken up.
module _ (setup : Setup) (plan : Plan) (client : Client) (ordinal : ℕ) (tale : Tale) where
  abbrev whose : ClientNo → Bool
  whose = client_and_job client ordinal

  abbrev job : ClientNo
  job = job_of (name_of client ordinal)

  abbrev Takes : Tale → Type 0
  Takes new = Moved setup no_link_at whose tale new

  client_moved : (old new : Tale) → Moved setup no_link_at (only_client client.number) old new → Moved setup no_link_at whose old new
  client_moved old new =
      moved-more setup no_link_at no_link_at (only_client client.number) whose old new (λ l other. other)
      (λ c other. or_left (is_client c client.number) _ other)

  job_moved : (old new : Tale) → Moved setup no_link_at (only_client job) old new → Moved setup no_link_at whose old new
  job_moved old new = moved-more setup no_link_at no_link_at (only_client job) whose old new (λ l other. other)
      (λ c other. or_right (is_client c client.number) _ other)

  copied-moved : (command : Command) (mirror : Option Hostgroup) (now : Tale)
      → Moved setup no_link_at whose now (copied (name_of client ordinal) command mirror now)
  copied-moved command None now = same-moved setup no_link_at whose now
  copied-moved command (Some hostgroup) now =
      let mirrored = tell (Mirrored client.number job) now in
      let new = tell (BecameDue job hostgroup 1 0 command None) mirrored in
      moved-on setup no_link_at whose now mirrored new
      (tell-moved setup no_link_at whose (Mirrored client.number job) now
      (whosever no_link_at whose (view_of setup now) (view_of setup mirrored) (mirrored-rests setup (view_of setup now) client.number job)))
      (job_moved mirrored new
      (tell-moved setup no_link_at (only_client job) (BecameDue job hostgroup 1 0 command None) mirrored
      (due-rests setup (view_of setup mirrored) job hostgroup 1 0 command None)))

  due-moved : (route : Route) (request : Option Request) → Takes (due_by client ordinal route request tale)
  due-moved route None = tell-moved setup no_link_at whose Broke tale (same-rests no_link_at whose (view_of setup tale))
  due-moved route (Some request) =
      let due = tell (BecameDue client.number route.hostgroup ordinal request.key request.command route.multiplex) tale in
      let new = copied (name_of client ordinal) request.command route.mirror due in
      moved-on setup no_link_at whose tale due new
      (client_moved tale due
      (tell-moved setup no_link_at (only_client client.number)
      (BecameDue client.number route.hostgroup ordinal request.key request.command route.multiplex) tale
      (due-rests setup (view_of setup tale) client.number route.hostgroup ordinal request.key request.command route.multiplex)))
      (copied-moved request.command route.mirror due)

pub taken-moved : (setup : Setup) (plan : Plan) (client : Client) (ordinal : ℕ) (message : Framed) (route : Option Route) (tale : Tale)
    → Moved setup no_link_at (client_and_job client ordinal) tale (taken_by setup plan client ordinal message route tale)
taken-moved setup plan client ordinal message None tale = by (nat_eq (slice_index_or message.payload 0 0) com_reset)
  where
    by : (b : Bool) → Moved setup no_link_at (client_and_job client ordinal) tale (if b then tell (Left client.number) tale else tale)
    by b = client_moved setup plan client ordinal tale tale (if b then tell (Left client.number) tale else tale) (left_if setup client.number tale b)
taken-moved setup plan client ordinal message (Some route) tale =
    due-moved setup plan client ordinal tale route (requested setup (view_of setup tale) plan client ordinal route message.payload)
