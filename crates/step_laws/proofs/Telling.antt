-- What each entry leaves of links and sessions as it is told, and which links may be given back then.
use Rattle.std.specs.Prelude.{◌≡◌, ◌-◌, ◌+◌, ℕ, suc, Bool, true, false, ◌&&◌, ◌||◌, not, fold, if◌then◌else◌, length, map, take, unwrap_or, List, [], ◌∷◌, ◌++◌, Option, Some, None}
use Rattle.std.specs.List.{list_any}
use Rattle.std.specs.Option.{option_map_or}
use Rattle.std.proofs.Common.{refl, sym, ap, ◌∙◌, subst}
use Rattle.std.proofs.lemmas.Bool.{and_left, or_parts}
use Rattle.mx_base.specs.declared.tag.Tag.{Tag}
use Rattle.mx_base.specs.declared.tag.Tag.TheVariants as tag
use Rattle.mx_wire.specs.Log.{opened_link}
use Rattle.mx_wire.specs.declared.entry.Entry.{Entry}
use Rattle.mx_wire.specs.declared.entry.Entry.TheVariants as entry
use Rattle.reply_track.specs.Runs.{Ending}
use Rattle.reply_track.specs.Runs.Ending.{Ended, Failed, Going}
use Rattle.reply_track.specs.declared.reply.ReplyKind.TheVariants as kind
use Rattle.server_side.specs.Login.{Fails, Goes, LogsIn, Opening, opening}
use Rattle.server_rule.specs.Servers.{is_some_of}
use Rattle.private_model.specs.Commands.{Command}
use Rattle.private_model.specs.Names.{LinkId, SessionName}
use Rattle.private_model.specs.Story.{Broke, Dropped, Due, End, Gone, Happening, Heard, Left, LoggedIn, Own, Prep, Question, Ran, Sent, Statement, Story, Sync, Unprepared}
use Rattle.private_model.specs.Story.{command_of, is_client, is_link_id, is_name, message_of}
use Rattle.private_model.specs.View.{Answered, Asked, Carried, Joined, Lent, Nobody, Quiet, Setup, Stage, View, present, session_in, view_after, view_step}
use Rattle.log_story.specs.Clients.{client_leaves}
use Rattle.log_story.specs.Plan.{Asks, Closes, Plan, Resets, StepText, gives_up, job_of}
use Rattle.log_story.specs.Servers.{begins, begun_by, begun_on, copy_by, due_in, ended_by, entered_by, heard_by, hears, kind_by, logged_in_as, may_begin, of_due, or_broke}
use Rattle.log_story.specs.Servers.{quits_by, quits_for, read_as, reads_on, reply_in, reset_by, runs_first, step_for, stepped, with_run, writes}
use Rattle.log_story.specs.Tale.{Client, Tale, Wire, client_gets, client_hears, is_reset_step, is_to_server, link_in, new_client, new_wire, tell, view_of, with_wire}
use Rattle.log_story.specs.Telling.{is_lost_or_left, server_says, told, wire_with}
use Rattle.log_story.proofs.Moving.{run-session}
use Rattle.tale_world.proofs.Telling.{told_of}
use Rattle.step_laws.specs.Freed.{NoneDone, NoneDoneBut, is_among}
use Rattle.step_laws.specs.Steps.{told_then}
use Rattle.step_laws.specs.Spared.{Spares, SparesIn, begun_at, carries_of, is_given_now, may_be_freed, is_asked_by, is_heard_by, is_newest, is_touched_by, lost_session, told_link, told_session, touched_link, touched_session}
use Rattle.step_laws.proofs.Counting.{counted_done}
use Rattle.step_laws.proofs.Sparing.{done_as_before, each_spares, more_spared, spares_along, spares_itself, spares_more, spares_on, spares_told, stays_spared, tell_spares, wire_spares}

module _ (setup : Setup) (link : LinkId) where
  abbrev here : LinkId → Bool
  here l = is_link_id l link

  itself : (whose : SessionName → Bool) (tale : Tale) → SparesIn setup here whose tale tale
  itself whose tale = spares_told setup here whose tale tale refl refl refl

  -- a happening on this link, which is told behind another wire
  told_there : (whose : SessionName → Bool) (e : Happening) (tale : Tale) → ((l : LinkId) → here l ≡ false → touched_link e l ≡ false)
      → ((n : SessionName) → whose n ≡ false → touched_session (view_of setup tale) e n ≡ false) → SparesIn setup here whose tale (tell e tale)
  told_there whose e tale links sessions =
      more_spared setup (touched_link e) here (touched_session (view_of setup tale) e) whose tale (tell e tale) links sessions (tell_spares setup e tale)

  -- Bytes are read there.

  entered_spares : (plan : Plan) (whose : SessionName → Bool) (wire : Wire) (said : Opening) (tale : Tale) → SparesIn setup here whose tale (entered_by plan link wire said tale)
  entered_spares plan whose wire (LogsIn said rest) tale =
      let now = record wire { entered = true; unread = rest; written = [] } in
      spares_along setup here whose tale (with_wire link now tale) (tell (LoggedIn link wire.server (logged_in_as (plan.logins link))) (with_wire link now tale))
      (wire_spares setup link now whose tale)
      (told_there whose (LoggedIn link wire.server (logged_in_as (plan.logins link))) (with_wire link now tale) (λ l other. other) (λ n other. refl))
  entered_spares plan whose wire (Goes said) tale = wire_spares setup link wire whose tale
  entered_spares plan whose wire (Fails said fault) tale = wire_spares setup link wire whose tale

  reset_spares : (whose : SessionName → Bool) (wire : Wire) (ending : Ending) (tale : Tale) → SparesIn setup here whose tale (reset_by link wire ending tale)
  reset_spares whose wire (Ended end rest) tale = wire_spares setup link (record wire { unread = rest; written = []; step = None }) whose tale
  reset_spares whose wire (Going state) tale = wire_spares setup link wire whose tale
  reset_spares whose wire (Failed rest) tale = wire_spares setup link wire whose tale

  asked_heard : (stage : Stage) (n : SessionName) → is_asked_by stage n ≡ false → is_heard_by stage n ≡ false
  asked_heard Quiet n other = refl
  asked_heard (Asked question) n other = refl
  asked_heard (Answered question) n other = other

  heard_spares : (question : Question) (wire : Wire) (ending : Ending) (tale : Tale)
      → SparesIn setup here (is_asked_by (link_in setup tale link).stage) tale (heard_by link question wire ending tale)
  heard_spares question wire (Ended end rest) tale =
      let said = record wire { unread = rest; written = [] } in
      let whose = is_asked_by (link_in setup tale link).stage in
      let e = Heard link (reply_in wire question (take (length wire.unread - length rest) wire.unread)) in
      spares_along setup here whose tale (with_wire link said tale) (tell e (with_wire link said tale)) (wire_spares setup link said whose tale)
      (told_there whose e (with_wire link said tale) (λ l other. other) (asked_heard (link_in setup tale link).stage))
  heard_spares question wire (Going state) tale = wire_spares setup link wire (is_asked_by (link_in setup tale link).stage) tale
  heard_spares question wire (Failed rest) tale = wire_spares setup link wire (is_asked_by (link_in setup tale link).stage) tale

  hears_spares : (wire : Wire) (stage : Stage) (tale : Tale) → SparesIn setup here (is_asked_by (link_in setup tale link).stage) tale (hears link wire stage tale)
  hears_spares wire (Answered question) tale = heard_spares question wire (read_as (kind_by (command_of question)) wire) tale
  hears_spares wire Quiet tale = wire_spares setup link wire (is_asked_by (link_in setup tale link).stage) tale
  hears_spares wire (Asked question) tale = wire_spares setup link wire (is_asked_by (link_in setup tale link).stage) tale

  run_spares : (whose : SessionName → Bool) (stage : Stage) (tale : Tale) → SparesIn setup here whose tale (runs_first stage link tale)
  run_spares whose (Asked question) tale = told_there whose (Ran link) tale (λ l other. other) (λ n other. refl)
  run_spares whose Quiet tale = itself whose tale
  run_spares whose (Answered question) tale = itself whose tale

  reads_spares : (wire : Wire) (tale : Tale) → SparesIn setup here (is_asked_by (link_in setup tale link).stage) tale (reads_on setup link wire tale)
  reads_spares wire tale =
      let run = with_run setup link tale in
      let new = reads_on setup link wire tale in
      let whose = is_asked_by (link_in setup tale link).stage in
      spares_along setup here whose tale run new (run_spares whose (link_in setup tale link).stage tale)
      (subst (λ (session : Option SessionName). SparesIn setup here (λ n. option_map_or (λ m. is_name n m) session false) run new) (run-session setup link tale)
      (hears_spares wire (link_in setup run link).stage run))

  says_spares : (plan : Plan) (bytes : List ℕ) (tale : Tale)
      → SparesIn setup here (is_asked_by (link_in setup tale link).stage) tale (server_says setup plan link bytes tale)
  says_spares plan bytes tale = by (not (tale.wires link).entered) (is_reset_step (tale.wires link).step)
    where
      wire : Wire
      wire = wire_with tale link bytes

      said : Opening
      said = opening (plan.logins link) wire.unread

      by : (a b : Bool) → SparesIn setup here (is_asked_by (link_in setup tale link).stage) tale
          (if a then entered_by plan link wire said tale else if b then reset_by link wire (read_as kind.Command wire) tale else reads_on setup link wire tale)
      by true b = entered_spares plan (is_asked_by (link_in setup tale link).stage) wire said tale
      by false true = reset_spares (is_asked_by (link_in setup tale link).stage) wire (read_as kind.Command wire) tale
      by false false = reads_spares wire tale

  -- A question begins there.

  module _ (story : Story) (plan : Plan) (moment : ℕ) where
    abbrev view : View
    view = view_after setup story

    abbrev Begins : List Happening → Type 0
    Begins es = Spares here (is_touched_by view es) view (view_after setup (es ++ story))

    alone : (e : Happening) → ((l : LinkId) → here l ≡ false → touched_link e l ≡ false) → Begins (e ∷ [])
    alone e links =
        spares_more (touched_link e) here (touched_session view e) (is_touched_by view (e ∷ [])) view (view_step setup view e) links
        (λ n other. (or_parts (touched_session view e n) false other).0) (each_spares setup view e)

    sent : (question : Question) → Begins (Sent link question ∷ [])
    sent question = alone (Sent link question) (λ l other. other)

    nothing : Begins []
    nothing = spares_itself here (is_touched_by view []) view

    broken : Begins (Broke ∷ [])
    broken = alone Broke (λ l other. refl)

    sent_as_left : (n : SessionName) (due : Due) → Begins (Left n.client ∷ Sent link (Statement n due) ∷ [])
    sent_as_left n due =
        let first = Sent link (Statement n due) in
        let es = Left n.client ∷ first ∷ [] in
        let mid = view_step setup view first in
        let new = view_step setup mid (Left n.client) in
        spares_on here (is_touched_by view es) view mid new
        (spares_more (touched_link first) here (touched_session view first) (is_touched_by view es) view mid (λ l other. other)
        (λ m other. (or_parts (touched_session view first m) false (or_parts (touched_session view (Left n.client) m) (touched_session view first m || false) other).1).0)
        (each_spares setup view first))
        (spares_more (touched_link (Left n.client)) here (touched_session mid (Left n.client)) (is_touched_by view es) mid new (λ l other. refl)
        (λ m other. (or_parts (touched_session view (Left n.client) m) (touched_session view first m || false) other).0)
        (each_spares setup mid (Left n.client)))

    or_broken : {A : Type 0} (happens : A → List Happening) (found : Option A) → ((a : A) → Begins (happens a)) → Begins (or_broke happens found)
    or_broken happens None begin = broken
    or_broken happens (Some a) begin = begin a

    due_begins : (ordinal : ℕ) (n : SessionName) (question : Due → Question) → Begins (of_due plan moment view link ordinal n question)
    due_begins ordinal n question =
        or_broken (λ due. Sent link (question due) ∷ []) (due_in plan moment ordinal n (view.dues n)) (λ due. sent (question due))

    stepped_begins : (question : Command → Question) (step : StepText) → Begins (stepped link question step)
    stepped_begins question (Asks command) = sent (question command)
    stepped_begins question (Closes number) = alone (Unprepared link number) (λ l other. other)
    stepped_begins question (Resets number) = nothing

    copy_begins : (n : SessionName) (carries : Carried) → Begins (copy_by plan moment view link n carries)
    copy_begins n Nobody = or_broken _ (due_in plan moment 1 n (view.dues n)) (sent_as_left n)
    copy_begins n (Lent who) = or_broken _ (due_in plan moment 1 n (view.dues n)) (sent_as_left n)
    copy_begins n (Joined who) = by (is_client who.client n.client)
      where
        by : (b : Bool) → Begins (if b then Sent link (End who) ∷ [] else of_due plan moment view link 1 n (Statement n))
        by true = sent (End who)
        by false = due_begins 1 n (Statement n)

    own_begins : (quits : Bool) (step : StepText) → Begins (if quits then [] else stepped link Own step)
    own_begins true step = nothing
    own_begins false step = stepped_begins Own step

    begun_spares : (begun : ℕ) (for : Tag) → Begins (begun_by setup plan moment view link begun for)
    begun_spares begun (tag.For client ordinal) =
        or_broken _ (plan.routes (record { client = client; ordinal = ordinal }))
        (λ route. let n = present view client route.hostgroup in due_begins ordinal n (Statement n))
    begun_spares begun (tag.Prep client ordinal) =
        or_broken _ (plan.routes (record { client = client; ordinal = ordinal }))
        (λ route. let n = present view client route.hostgroup in due_begins ordinal n (λ due. Prep n due.key (setup.keys due.key).text))
    begun_spares begun (tag.Mirror client ordinal) =
        let job = job_of (record { client = client; ordinal = ordinal }) in
        or_broken _ (plan.routes (record { client = client; ordinal = ordinal }))
        (λ route. or_broken _ route.mirror (λ hostgroup. copy_begins (present view job hostgroup) (view.links link).carries))
    begun_spares begun (tag.Sync client hostgroup) = stepped_begins (Sync (present view client hostgroup)) (plan.steps link begun)
    begun_spares begun (tag.End client hostgroup) = sent (ended_by view (unwrap_or (session_in (view.links link).carries) (present view client hostgroup)))
    begun_spares begun tag.Own = own_begins (quits_by (plan.steps link begun)) (plan.steps link begun)
    begun_spares begun tag.Reply = broken

    begun_on_spares : (wire : Wire) (for : Tag) → Begins (begun_on setup plan moment view link wire for)
    begun_on_spares wire for = by (is_some_of wire.unread && not (quits_for for (plan.steps link wire.begun)))
      where
        by : (b : Bool) → Begins (if b then Broke ∷ [] else begun_by setup plan moment view link wire.begun for)
        by true = broken
        by false = begun_spares wire.begun for

  writes_spares : (plan : Plan) (for : Tag) (bytes : List ℕ) (tale : Tale)
      → SparesIn setup here (λ n. may_begin setup link (tale.wires link) tale && is_touched_by (view_of setup tale) (begun_at setup plan tale link for) n) tale
      (writes setup plan link for bytes (tale.wires link) tale)
  writes_spares plan for bytes tale = by (may_begin setup link wire tale)
    where
      wire : Wire
      wire = tale.wires link

      goes_on : Wire
      goes_on = record wire { written = wire.written ++ bytes }

      begun : Wire
      begun =
          let step = plan.steps link wire.begun in
          record wire { written = bytes; step = step_for for step; begun = suc wire.begun; quits = wire.quits || quits_for for step }

      touched : SessionName → Bool
      touched = is_touched_by (view_of setup tale) (begun_at setup plan tale link for)

      by : (b : Bool) → SparesIn setup here (λ n. b && touched n) tale
          (if b then begins setup plan link for bytes wire tale else with_wire link goes_on tale)
      by true = record {
        moment = refl;
        wire = (wire_spares setup link begun touched tale).wire;
        view = begun_on_spares tale.story plan tale.moment wire for;
      }
      by false = wire_spares setup link goes_on (λ n. false) tale

  -- The link is lost, or a client leaves.

  abbrev of_leaver : List Client → SessionName → Bool
  of_leaver xs n = list_any (λ (c : Client). is_link_id c.link link && is_client n.client c.number) xs

  leaves_spares : (xs : List Client) (tale : Tale) → SparesIn setup here (of_leaver xs) tale (fold (client_leaves link) tale xs)
  leaves_spares [] tale = itself (of_leaver []) tale
  leaves_spares (x ∷ xs) tale =
      let next = client_leaves link tale x in
      let last = fold (client_leaves link) next xs in
      spares_along setup here (of_leaver (x ∷ xs)) tale next last (by (is_link_id x.link link))
      (more_spared setup here here (of_leaver xs) (of_leaver (x ∷ xs)) next last (λ l other. other)
      (λ n other. (or_parts (is_link_id x.link link && is_client n.client x.number) (of_leaver xs n) other).1) (leaves_spares xs next))
    where
      by : (b : Bool) → SparesIn setup here (λ n. (b && is_client n.client x.number) || of_leaver xs n) tale (if b then tell (Left x.number) tale else tale)
      by true =
          told_there (λ n. is_client n.client x.number || of_leaver xs n) (Left x.number) tale (λ l other. refl)
          (λ n other. and_left (is_client n.client x.number) (is_newest (view_of setup tale) n) (or_parts (is_client n.client x.number) (of_leaver xs n) other).0)
      by false = itself (λ n. of_leaver xs n) tale

  lost_spares : (tale : Tale) → SparesIn setup here (lost_session setup tale link) tale (is_lost_or_left link tale)
  lost_spares tale = by (is_to_server tale link)
    where
      by : (b : Bool) → SparesIn setup here (λ n. if b then touched_session (view_of setup tale) (Gone link) n else of_leaver tale.clients n) tale
          (if b then tell (Gone link) tale else fold (client_leaves link) tale tale.clients)
      by true = told_there (λ n. touched_session (view_of setup tale) (Gone link) n) (Gone link) tale (λ l other. other) (λ n other. other)
      by false = leaves_spares tale.clients tale

  exec_spares : (whose : SessionName → Bool) (tale : Tale)
      → SparesIn setup here whose tale (if (tale.wires link).entered then tell (if (tale.wires link).quits then Dropped link else Ran link) tale else tale)
  exec_spares whose tale = by (tale.wires link).entered (tale.wires link).quits
    where
      by : (a b : Bool) → SparesIn setup here whose tale (if a then tell (if b then Dropped link else Ran link) tale else tale)
      by true true = told_there whose (Dropped link) tale (λ l other. refl) (λ n other. refl)
      by true false = told_there whose (Ran link) tale (λ l other. other) (λ n other. refl)
      by false b = itself whose tale

module _ (setup : Setup) (plan : Plan) (tale : Tale) where
  abbrev Tells : Entry → Type 0
  Tells e = SparesIn setup (told_link e) (told_session setup plan tale e) tale (told setup plan tale e)

  said_there : (link : LinkId) (bytes : List ℕ) → Tells (entry.Got link bytes)
  said_there link bytes = by (is_to_server tale link)
    where
      by : (b : Bool) → SparesIn setup (λ l. is_link_id l link) (λ n. b && is_asked_by (link_in setup tale link).stage n) tale
          (if b then server_says setup plan link bytes tale else record tale { clients = map (client_hears link bytes) tale.clients })
      by true = says_spares setup link plan bytes tale
      by false = spares_told setup (λ l. is_link_id l link) (λ n. false) tale (record tale { clients = map (client_hears link bytes) tale.clients }) refl refl refl

  written_there : (link : LinkId) (for : Tag) (bytes : List ℕ) → Tells (entry.Wrote link for bytes)
  written_there link for bytes = by (is_to_server tale link)
    where
      by : (b : Bool) → SparesIn setup (λ l. is_link_id l link)
          (λ n. b && (may_begin setup link (tale.wires link) tale && is_touched_by (view_of setup tale) (begun_at setup plan tale link for) n)) tale
          (if b then writes setup plan link for bytes (tale.wires link) tale else record tale { clients = map (client_gets link (length bytes)) tale.clients })
      by true = writes_spares setup link plan for bytes tale
      by false = spares_told setup (λ l. is_link_id l link) (λ n. false) tale (record tale { clients = map (client_gets link (length bytes)) tale.clients }) refl refl refl

  pub told_spares : (e : Entry) → Tells e
  told_spares (entry.Accepted port link salt) =
      spares_told setup (λ l. is_link_id l link) (λ n. false) tale (record tale { clients = tale.clients ++ new_client (length tale.clients + 1) port link salt ∷ [] }) refl refl refl
  told_spares (entry.Opened server address link) =
      let more = record tale { links = tale.links ++ link ∷ [] } in
      spares_along setup (λ l. is_link_id l link) (λ n. false) tale more (with_wire link (new_wire server) more)
      (spares_told setup (λ l. is_link_id l link) (λ n. false) tale more refl refl refl) (wire_spares setup link (new_wire server) (λ n. false) more)
  told_spares (entry.Got link bytes) = said_there link bytes
  told_spares (entry.Wrote link for bytes) = written_there link for bytes
  told_spares (entry.Exec link) = exec_spares setup link (λ n. false) tale
  told_spares (entry.Drop link) = told_there setup link (λ n. false) (Dropped link) tale (λ l other. refl) (λ n other. refl)
  told_spares (entry.Ended link) = lost_spares setup link tale
  told_spares (entry.ReadFailed link) = lost_spares setup link tale
  told_spares (entry.WriteFailed link) = lost_spares setup link tale
  told_spares (entry.Closed link) = lost_spares setup link tale
  told_spares _ = spares_told setup _ (λ n. false) tale tale refl refl refl

-- Which links may be given back then.

module _ (setup : Setup) (plan : Plan) (tale : Tale) (e : Entry) where
  abbrev new : Tale
  new = told setup plan tale e

  abbrev spares : SparesIn setup (told_link e) (told_session setup plan tale e) tale new
  spares = told_spares setup plan tale e

  opened_apart : (f : Entry) (link l : LinkId) → opened_link f ≡ Some link → told_link f l ≡ false → is_link_id l link ≡ false
  opened_apart (entry.Opened server address other) link l is apart = let same : other ≡ link = cc in ap (is_link_id l) (sym same) ∙ apart
  opened_apart _ link l is apart = absurd (cc)

  any_last : (link l : LinkId) (xs : List LinkId) → is_link_id l link ≡ false → is_among (xs ++ link ∷ []) l ≡ is_among xs l
  any_last link l [] apart = ap (λ b. b || false) apart
  any_last link l (x ∷ xs) apart = ap (λ b. is_link_id l x || b) (any_last link l xs apart)

  told_places : (l : LinkId) → told_link e l ≡ false → is_to_server new l ≡ is_to_server tale l
  told_places l apart =
      told_of (λ (t : Tale). is_to_server t l) (λ story t. refl) (λ link wire t. refl) (λ clients t. refl) setup plan tale e
      (λ link opens. any_last link l tale.links (opened_apart e link l opens apart))

  given_same : (moment : ℕ) (carried : Carried) → carries_of (told_session setup plan tale e) carried ≡ false
      → is_given_now plan moment (view_of setup new) carried ≡ is_given_now plan moment (view_of setup tale) carried
  given_same moment Nobody other = refl
  given_same moment (Lent n) other = ap (λ (d : Option Due). option_map_or (λ due. gives_up plan moment (message_of n due)) d false) (spares.view.due n other)
  given_same moment (Joined n) other = refl

  pub told_rests : NoneDone setup plan tale → NoneDoneBut setup plan (may_be_freed setup plan tale e) (told_then setup plan tale e)
  told_rests none l there untouched =
      let carried = (link_in setup tale l).carries in
      let parts = or_parts (told_link e l) (carries_of (told_session setup plan tale e) carried || is_given_now plan (suc tale.moment) (view_of setup tale) carried) untouched in
      let more = or_parts (carries_of (told_session setup plan tale e) carried) (is_given_now plan (suc tale.moment) (view_of setup tale) carried) parts.1 in
      let given : is_given_now plan (suc new.moment) (view_of setup new) (link_in setup new l).carries ≡ false =
      (λ i. is_given_now plan (suc (spares.moment i)) (view_of setup new) (spares.view.link l parts.0 i).carries)
      ∙ given_same (suc tale.moment) carried more.0 ∙ more.1 in
      counted_done setup plan new l given
      ∙ done_as_before setup plan tale new l
      (stays_spared setup plan tale new (told_link e) (told_session setup plan tale e) spares l parts.0 more.0)
      ∙ none l (sym (told_places l parts.0) ∙ there)
