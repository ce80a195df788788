-- An entry as it is told leaves what a client may take up next, that it doesn't concern.
use Rattle.std.specs.Prelude.{◌≡◌, ℕ, suc, Bool, true, false, not, ◌||◌, ◌&&◌, All, fold, if◌then◌else◌, length, map, ◌+◌, List, [], ◌∷◌, ◌++◌, Option, Some, None}
use Rattle.std.proofs.Common.{refl, sym, ◌∙◌, subst}
use Rattle.std.proofs.lemmas.Bool.{true≢false}
use Rattle.std.proofs.lemmas.List.Elements.{All-head, All-tail}
use Rattle.mx_base.specs.declared.tag.Tag.{Tag}
use Rattle.mx_base.specs.declared.tag.Tag.TheVariants as tags
use Rattle.mx_wire.specs.declared.entry.Entry.{Entry}
use Rattle.mx_wire.specs.declared.entry.Entry.TheVariants as entry
use Rattle.reply_track.specs.Runs.{Ending}
use Rattle.reply_track.specs.Runs.Ending.{Ended, Failed, Going}
use Rattle.reply_track.specs.declared.reply.ReplyKind.TheVariants as kind
use Rattle.server_side.specs.Login.{Fails, Goes, LogsIn, Opening, opening}
use Rattle.private_model.proofs.Maps.{same_link}
use Rattle.private_model.specs.Commands.{Command}
use Rattle.private_model.specs.Names.{LinkId, ServerId, SessionName}
use Rattle.private_model.specs.Story.{Broke, Dropped, Due, Gone, Happening, Left, Own, Question, Ran, Sent, Sync, Unprepared, command_of, is_client, is_link_id}
use Rattle.private_model.specs.View.{Answered, Asked, Link, Quiet, Setup, Stage, View, present, ran_by}
use Rattle.log_story.specs.Clients.{client_leaves}
use Rattle.log_story.specs.Plan.{Asks, Closes, Plan, Resets, StepText}
use Rattle.log_story.specs.Servers.{begins, begun_by, begun_on, due_in, entered_by, heard_by, hears, kind_by, may_begin, of_due, or_broke, quits_by, quits_for, read_as}
use Rattle.log_story.specs.Servers.{reads_on, reset_by, runs_first, step_for, stepped, tell_all, with_run, writes}
use Rattle.server_rule.specs.Servers.{is_some_of}
use Rattle.log_story.specs.Tale.{Client, Tale, Wire, client_gets, client_hears, is_reset_step, is_to_server, link_in, new_client, new_wire, tell, view_of, with_wire}
use Rattle.log_story.specs.Telling.{is_lost_or_left, server_says, told, wire_with}
use Rattle.step_laws.proofs.Apart.{told_apart}
use Rattle.step_laws.specs.Taken.{IsAsItWas, is_heard_of}
use Rattle.core_laws.specs.entry.Calms.{IsAside, IsLostOf, is_asked_of, is_copy}

-- Of what begins nothing is told that touches a client, but of a copy.

abbrev pub IsBegun : List Happening → Type 0
IsBegun [] = Unit {0}
IsBegun (Sent link question ∷ []) = Unit {0}
IsBegun (Unprepared link number ∷ []) = Unit {0}
IsBegun (Broke ∷ []) = Unit {0}
IsBegun _ = ⊥

or_broke_begun : {A : Type 0} (happens : A → List Happening) (found : Option A) → ((a : A) → IsBegun (happens a)) → IsBegun (or_broke happens found)
or_broke_begun happens None each = tt
or_broke_begun happens (Some a) each = each a

stepped_begun : (link : LinkId) (question : Command → Question) (step : StepText) → IsBegun (stepped link question step)
stepped_begun link question (Asks command) = tt
stepped_begun link question (Closes number) = tt
stepped_begun link question (Resets number) = tt

either_begun : (b : Bool) (x y : List Happening) → IsBegun x → IsBegun y → IsBegun (if b then x else y)
either_begun true x y first second = first
either_begun false x y first second = second

module _ (setup : Setup) (plan : Plan) (moment : ℕ) (view : View) (link : LinkId) where
  due_begun : (ordinal : ℕ) (n : SessionName) (question : Due → Question) → IsBegun (of_due plan moment view link ordinal n question)
  due_begun ordinal n question = or_broke_begun (λ due. Sent link (question due) ∷ []) (due_in plan moment ordinal n (view.dues n)) (λ due. tt)

  by_begun : (begun : ℕ) (tag : Tag) → is_copy tag ≡ false → IsBegun (begun_by setup plan moment view link begun tag)
  by_begun begun (tags.For client ordinal) own =
      or_broke_begun _ (plan.routes (record { client = client; ordinal = ordinal })) (λ route. due_begun ordinal (present view client route.hostgroup) _)
  by_begun begun (tags.Prep client ordinal) own =
      or_broke_begun _ (plan.routes (record { client = client; ordinal = ordinal })) (λ route. due_begun ordinal (present view client route.hostgroup) _)
  by_begun begun (tags.Mirror client ordinal) own = absurd (true≢false own)
  by_begun begun (tags.Sync client hostgroup) own = stepped_begun link (Sync (present view client hostgroup)) (plan.steps link begun)
  by_begun begun (tags.End client hostgroup) own = tt
  by_begun begun tags.Own own =
      either_begun (quits_by (plan.steps link begun)) [] (stepped link Own (plan.steps link begun)) tt (stepped_begun link Own (plan.steps link begun))
  by_begun begun tags.Reply own = tt

  pub on_begun : (wire : Wire) (tag : Tag) → is_copy tag ≡ false → IsBegun (begun_on setup plan moment view link wire tag)
  on_begun wire tag own =
      either_begun (is_some_of wire.unread && not (quits_for tag (plan.steps link wire.begun))) (Broke ∷ [])
      (begun_by setup plan moment view link wire.begun tag) tt (by_begun wire.begun tag own)

module _ (setup : Setup) (plan : Plan) (client : Client) where
  abbrev Same : Tale → Tale → Type 0
  Same old new = IsAsItWas setup plan old new client

  itself : (tale : Tale) → Same tale tale
  itself tale = record {
    answered = λ ordinal below. refl;
    waits = refl;
    room = refl;
    up = refl;
    asks = λ ordinal route payload. refl;
  }

  along : (old mid new : Tale) → Same old mid → Same mid new → Same old new
  along old mid new first next = record {
    answered = λ ordinal below. next.answered ordinal below ∙ first.answered ordinal below;
    waits = next.waits ∙ first.waits;
    room = next.room ∙ first.room;
    up = next.up ∙ first.up;
    asks = λ ordinal route payload. next.asks ordinal route payload ∙ first.asks ordinal route payload;
  }

  either : (old : Tale) (b : Bool) (x y : Tale) → Same old x → Same old y → Same old (if b then x else y)
  either old true x y first second = first
  either old false x y first second = second

  -- Links are lost, and clients leave.

  left_aside : (link : LinkId) (xs : List Client) (tale : Tale)
      → All (λ (other : Client). is_link_id other.link link ≡ true → is_client client.number other.number ≡ false) xs
      → Same tale (fold (client_leaves link) tale xs)
  left_aside link [] tale others = itself tale
  left_aside link (x ∷ xs) tale others =
      along tale (client_leaves link tale x) (fold (client_leaves link) (client_leaves link tale x) xs)
      (by (is_link_id x.link link) refl)
      (left_aside link xs (client_leaves link tale x)
      (All-tail (λ (other : Client). is_link_id other.link link ≡ true → is_client client.number other.number ≡ false) x xs others)) where
        by : (b : Bool) → is_link_id x.link link ≡ b → Same tale (if b then tell (Left x.number) tale else tale)
        by true its =
            told_apart setup plan client (Left x.number) tale
            (All-head (λ (other : Client). is_link_id other.link link ≡ true → is_client client.number other.number ≡ false) x xs others its)
        by false other = itself tale

  losing_aside : (link : LinkId) (tale : Tale) → IsLostOf setup tale link client.number → Same tale (is_lost_or_left link tale)
  losing_aside link tale is = by (is_to_server tale link) refl where
    by : (b : Bool) → is_to_server tale link ≡ b → Same tale (if b then tell (Gone link) tale else fold (client_leaves link) tale tale.clients)
    by true here = told_apart setup plan client (Gone link) tale (is.carried here)
    by false other = left_aside link tale.clients tale is.theirs

  -- Servers.

  exec_aside : (link : LinkId) (tale : Tale) → Same tale (told setup plan tale (entry.Exec link))
  exec_aside link tale = by (tale.wires link).entered (tale.wires link).quits where
    by : (a b : Bool) → Same tale (if a then tell (if b then Dropped link else Ran link) tale else tale)
    by true true = told_apart setup plan client (Dropped link) tale refl
    by true false = told_apart setup plan client (Ran link) tale refl
    by false b = itself tale

  wire_aside : (link : LinkId) (wire : Wire) (tale : Tale) → Same tale (with_wire link wire tale)
  wire_aside link wire tale = record {
    answered = λ ordinal below. refl;
    waits = refl;
    room = refl;
    up = refl;
    asks = λ ordinal route payload. refl;
  }

  -- what ran is asked for whom it was

  abbrev asked_of : Stage → Bool
  asked_of stage = is_asked_of stage client.number

  heard_of : (stage : Stage) → asked_of stage ≡ false → is_heard_of stage client.number ≡ false
  heard_of Quiet other = refl
  heard_of (Asked question) other = refl
  heard_of (Answered question) other = other

  module _ (link : LinkId) (tale : Tale) where
    abbrev stage : Stage
    stage = (link_in setup tale link).stage

    run_same : (s : Stage) → Same tale (runs_first s link tale)
    run_same Quiet = itself tale
    run_same (Asked question) = told_apart setup plan client (Ran link) tale refl
    run_same (Answered question) = itself tale

    ran_of : (s : Stage) (there : Link) → asked_of s ≡ false → asked_of there.stage ≡ false → asked_of (ran_by setup.reads s there).stage ≡ false
    ran_of Quiet there other is = is
    ran_of (Asked question) there other is = other
    ran_of (Answered question) there other is = is

    run_other : (s : Stage) → stage ≡ s → asked_of s ≡ false → asked_of (link_in setup (runs_first s link tale) link).stage ≡ false
    run_other Quiet same other = subst (λ (s : Stage). asked_of s ≡ false) (sym same) other
    run_other (Answered question) same other = subst (λ (s : Stage). asked_of s ≡ false) (sym same) other
    run_other (Asked question) same other =
        subst (λ (b : Bool). asked_of (if b then ran_by setup.reads stage (link_in setup tale link) else link_in setup tale link).stage ≡ false)
        (sym (same_link link))
        (ran_of stage (link_in setup tale link) (subst (λ (s : Stage). asked_of s ≡ false) (sym same) other)
        (subst (λ (s : Stage). asked_of s ≡ false) (sym same) other))

  module _ (link : LinkId) (wire : Wire) (tale : Tale) where
    heard_same : (question : Question) (ending : Ending) → is_heard_of (link_in setup tale link).stage client.number ≡ false
        → Same tale (heard_by link question wire ending tale)
    heard_same question (Ended end rest) other =
        let said : Wire = record wire { unread = rest; written = [] } in
        along tale (with_wire link said tale) (heard_by link question wire (Ended end rest) tale) (wire_aside link said tale)
        (told_apart setup plan client _ (with_wire link said tale) other)
    heard_same question (Going state) other = wire_aside link wire tale
    heard_same question (Failed rest) other = wire_aside link wire tale

    hears_same : (s : Stage) → is_heard_of (link_in setup tale link).stage client.number ≡ false → Same tale (hears link wire s tale)
    hears_same (Answered question) other = heard_same question (read_as (kind_by (command_of question)) wire) other
    hears_same Quiet other = wire_aside link wire tale
    hears_same (Asked question) other = wire_aside link wire tale

  read_same : (link : LinkId) (wire : Wire) (tale : Tale) → asked_of (link_in setup tale link).stage ≡ false → Same tale (reads_on setup link wire tale)
  read_same link wire tale other =
      let run : Tale = with_run setup link tale in
      along tale run (reads_on setup link wire tale) (run_same link tale (link_in setup tale link).stage)
      (hears_same link wire run (link_in setup run link).stage
      (heard_of (link_in setup run link).stage (run_other link tale (link_in setup tale link).stage refl other)))

  entered_same : (link : LinkId) (wire : Wire) (to : Opening) (tale : Tale) → Same tale (entered_by plan link wire to tale)
  entered_same link wire (LogsIn said rest) tale =
      let inside : Wire = record wire { entered = true; unread = rest; written = [] } in
      along tale (with_wire link inside tale) (entered_by plan link wire (LogsIn said rest) tale) (wire_aside link inside tale)
      (told_apart setup plan client _ (with_wire link inside tale) refl)
  entered_same link wire (Goes said) tale = wire_aside link wire tale
  entered_same link wire (Fails said fault) tale = wire_aside link wire tale

  reset_same : (link : LinkId) (wire : Wire) (ending : Ending) (tale : Tale) → Same tale (reset_by link wire ending tale)
  reset_same link wire (Ended end rest) tale = wire_aside link (record wire { unread = rest; written = []; step = None }) tale
  reset_same link wire (Going state) tale = wire_aside link wire tale
  reset_same link wire (Failed rest) tale = wire_aside link wire tale

  says_same : (link : LinkId) (bytes : List ℕ) (tale : Tale) → asked_of (link_in setup tale link).stage ≡ false
      → Same tale (server_says setup plan link bytes tale)
  says_same link bytes tale other =
      let wire : Wire = wire_with tale link bytes in
      either tale (not (tale.wires link).entered) _ _ (entered_same link wire (opening (plan.logins link) wire.unread) tale)
      (either tale (is_reset_step (tale.wires link).step) _ _ (reset_same link wire (read_as kind.Command wire) tale)
      (read_same link wire tale other))

  begun_same : (happens : List Happening) (tale : Tale) → IsBegun happens → Same tale (tell_all happens tale)
  begun_same [] tale is = itself tale
  begun_same (Sent link question ∷ []) tale is = told_apart setup plan client (Sent link question) tale refl
  begun_same (Unprepared link number ∷ []) tale is = told_apart setup plan client (Unprepared link number) tale refl
  begun_same (Broke ∷ []) tale is = told_apart setup plan client Broke tale refl
  begun_same _ tale is = absurd is

  abbrev MayCopy : LinkId → Tag → Tale → Type 0
  MayCopy link tag tale = may_begin setup link (tale.wires link) tale ≡ true → is_copy tag ≡ false

  writes_same : (link : LinkId) (tag : Tag) (bytes : List ℕ) (tale : Tale) → MayCopy link tag tale
      → Same tale (writes setup plan link tag bytes (tale.wires link) tale)
  writes_same link tag bytes tale own = by (may_begin setup link (tale.wires link) tale) refl where
    by : (b : Bool) → may_begin setup link (tale.wires link) tale ≡ b
        → Same tale (if b then begins setup plan link tag bytes (tale.wires link) tale
        else with_wire link (record (tale.wires link) { written = (tale.wires link).written ++ bytes }) tale)
    by false goes = wire_aside link (record (tale.wires link) { written = (tale.wires link).written ++ bytes }) tale
    by true starts =
        let wire : Wire = tale.wires link in
        let step : StepText = plan.steps link wire.begun in
        let begun : Wire = record wire { written = bytes; step = step_for tag step; begun = suc wire.begun; quits = wire.quits || quits_for tag step } in
        let happens : List Happening = begun_on setup plan tale.moment (view_of setup tale) link wire tag in
        along tale (with_wire link begun tale) (tell_all happens (with_wire link begun tale)) (wire_aside link begun tale)
        (begun_same happens (with_wire link begun tale) (on_begun setup plan tale.moment (view_of setup tale) link wire tag (own starts)))

  clients_aside : (clients : List Client) (tale : Tale) → Same tale (record tale { clients = clients })
  clients_aside clients tale = record {
    answered = λ ordinal below. refl;
    waits = refl;
    room = refl;
    up = refl;
    asks = λ ordinal route payload. refl;
  }

  got_aside : (link : LinkId) (bytes : List ℕ) (tale : Tale) → (is_to_server tale link ≡ true → asked_of (link_in setup tale link).stage ≡ false)
      → Same tale (told setup plan tale (entry.Got link bytes))
  got_aside link bytes tale other = by (is_to_server tale link) refl where
    by : (b : Bool) → is_to_server tale link ≡ b
        → Same tale (if b then server_says setup plan link bytes tale else record tale { clients = map (client_hears link bytes) tale.clients })
    by true here = says_same link bytes tale (other here)
    by false aside = clients_aside (map (client_hears link bytes) tale.clients) tale

  wrote_aside : (link : LinkId) (tag : Tag) (bytes : List ℕ) (tale : Tale) → (is_to_server tale link ≡ true → MayCopy link tag tale)
      → Same tale (told setup plan tale (entry.Wrote link tag bytes))
  wrote_aside link tag bytes tale own = by (is_to_server tale link) refl where
    by : (b : Bool) → is_to_server tale link ≡ b
        → Same tale (if b then writes setup plan link tag bytes (tale.wires link) tale
        else record tale { clients = map (client_gets link (length bytes)) tale.clients })
    by true here = writes_same link tag bytes tale (own here)
    by false aside = clients_aside (map (client_gets link (length bytes)) tale.clients) tale

  opened_aside : (server : ServerId) (link : LinkId) (tale : Tale) → Same tale (with_wire link (new_wire server) (record tale { links = tale.links ++ link ∷ [] }))
  opened_aside server link tale = record {
    answered = λ ordinal below. refl;
    waits = refl;
    room = refl;
    up = refl;
    asks = λ ordinal route payload. refl;
  }

  pub told_aside : (tale : Tale) (e : Entry) → IsAside setup tale e client.number → Same tale (told setup plan tale e)
  told_aside tale (entry.Accepted port link salt) aside = clients_aside (tale.clients ++ new_client (length tale.clients + 1) port link salt ∷ []) tale
  told_aside tale (entry.Opened server address link) aside = opened_aside server link tale
  told_aside tale (entry.Got link bytes) aside = got_aside link bytes tale aside
  told_aside tale (entry.Wrote link tag bytes) aside = wrote_aside link tag bytes tale aside
  told_aside tale (entry.Exec link) aside = exec_aside link tale
  told_aside tale (entry.Drop link) aside = told_apart setup plan client (Dropped link) tale refl
  told_aside tale (entry.Ended link) aside = losing_aside link tale aside
  told_aside tale (entry.ReadFailed link) aside = losing_aside link tale aside
  told_aside tale (entry.WriteFailed link) aside = losing_aside link tale aside
  told_aside tale (entry.Closed link) aside = losing_aside link tale aside
  told_aside tale _ aside = itself tale
