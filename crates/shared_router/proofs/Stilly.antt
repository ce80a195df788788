-- What each happening keeps that an entry tells by which no link is lost, the entry keeps: none becomes due then, nothing is given back, and
-- nobody leaves.
use Rattle.std.specs.Prelude.{◌≡◌, ℕ, Bool, true, false, ◌&&◌, not, if◌then◌else◌, List, [], ◌∷◌, ◌++◌, Option, Some, None}
use Rattle.mx_base.specs.declared.names.LinkId.{LinkId}
use Rattle.mx_base.specs.declared.tag.Tag.{Tag}
use Rattle.mx_base.specs.declared.tag.Tag.TheVariants as tag
use Rattle.mx_wire.specs.declared.entry.Entry.{Entry}
use Rattle.mx_wire.specs.declared.entry.Entry.TheVariants as entry
use Rattle.private_model.specs.Commands.{Command}
use Rattle.private_model.specs.Names.{ClientNo, Hostgroup, MessageName, SessionName}
use Rattle.private_model.specs.Story.{BecameDue, Broke, Dropped, Due, End, Freed, Gone, Happening, Left, Mirrored, Own, Prep, Question, Ran, Sent, Statement, Story, Sync, command_of}
use Rattle.private_model.specs.View.{Answered, Asked, Quiet, Setup, Stage, View, present}
use Rattle.reply_track.specs.Runs.{Ending}
use Rattle.reply_track.specs.Runs.Ending.{Going, Ended, Failed}
use Rattle.reply_track.specs.declared.reply.ReplyKind.TheVariants as kind
use Rattle.server_rule.specs.Servers.{is_some_of}
use Rattle.server_side.specs.Login.{Opening, Goes, LogsIn, Fails, opening}
use Rattle.log_story.specs.Plan.{Asks, Closes, Plan, Resets, Route, StepText, job_of}
use Rattle.log_story.specs.Servers.{begins, begun_by, begun_on, copy_by, due_in, entered_by, heard_by, hears, kind_by, may_begin, of_due, or_broke, quits_by, quits_for, read_as, reset_by, runs_first, stepped, with_run, writes}
use Rattle.log_story.specs.Tale.{Tale, Wire, is_reset_step, is_to_server, link_in, tell, view_of, with_wire}
use Rattle.log_story.specs.Telling.{server_says, told, wire_with}
use Rattle.std.proofs.Common.{sym, subst}
use Rattle.router_promises.specs.Now.{is_gone}
use Rattle.shared_router.proofs.Plain.{IsPlain}

abbrev pub IsStill : Happening → Type 0
IsStill (BecameDue client hostgroup ordinal key command multiplex) = ⊥
IsStill (Freed link) = ⊥
IsStill (Gone link) = ⊥
IsStill (Left client) = ⊥
IsStill (Mirrored client job) = ⊥
IsStill _ = Unit {0}

abbrev pub AreStill : List Happening → Type 0
AreStill [] = Unit {0}
AreStill (e ∷ es) = IsStill e × AreStill es

still_if : (b : Bool) (x y : List Happening) → AreStill x → AreStill y → AreStill (if b then x else y)
still_if true x y first second = first
still_if false x y first second = second

still_or : {A : Type 0} (happens : A → List Happening) (found : Option A) → ((a : A) → AreStill (happens a)) → AreStill (or_broke happens found)
still_or happens None each = (tt, tt)
still_or happens (Some a) each = each a

module _ (setup : Setup) (plan : Plan) (lone : (m : MessageName) → IsPlain (plan.routes m)) where
  due_still : (moment : ℕ) (view : View) (link : LinkId) (ordinal : ℕ) (n : SessionName) (question : Due → Question)
      → AreStill (of_due plan moment view link ordinal n question)
  due_still moment view link ordinal n question =
      still_or (λ due. Sent link (question due) ∷ []) (due_in plan moment ordinal n (view.dues n)) (λ due. (tt, tt))

  stepped_still : (link : LinkId) (question : Command → Question) (step : StepText) → AreStill (stepped link question step)
  stepped_still link question (Asks command) = (tt, tt)
  stepped_still link question (Closes number) = (tt, tt)
  stepped_still link question (Resets number) = tt

  begun_still : (moment : ℕ) (view : View) (link : LinkId) (begun : ℕ) (for : Tag) → AreStill (begun_by setup plan moment view link begun for)
  begun_still moment view link begun (tag.For client ordinal) =
      still_or (λ route. let n = present view client route.hostgroup in of_due plan moment view link ordinal n (Statement n))
      (plan.routes (record { client = client; ordinal = ordinal }))
      (λ route. due_still moment view link ordinal (present view client route.hostgroup) (Statement (present view client route.hostgroup)))
  begun_still moment view link begun (tag.Prep client ordinal) =
      still_or (λ route. let n = present view client route.hostgroup in of_due plan moment view link ordinal n (λ due. Prep n due.key (setup.keys due.key).text))
      (plan.routes (record { client = client; ordinal = ordinal }))
      (λ route. due_still moment view link ordinal (present view client route.hostgroup) (λ due. Prep (present view client route.hostgroup) due.key (setup.keys due.key).text))
  begun_still moment view link begun (tag.Mirror client ordinal) =
      by_route (plan.routes (record { client = client; ordinal = ordinal })) (lone (record { client = client; ordinal = ordinal }))
    where
      job : ClientNo
      job = job_of (record { client = client; ordinal = ordinal })

      copy : Hostgroup → List Happening
      copy hostgroup = copy_by plan moment view link (present view job hostgroup) (view.links link).carries

      by_route : (o : Option Route) → IsPlain o → AreStill (or_broke (λ (route : Route). or_broke copy route.mirror) o)
      by_route None plain = (tt, tt)
      by_route (Some route) plain = subst (λ (mirror : Option Hostgroup). AreStill (or_broke copy mirror)) (sym plain) (tt, tt)
  begun_still moment view link begun (tag.Sync client hostgroup) = stepped_still link (Sync (present view client hostgroup)) (plan.steps link begun)
  begun_still moment view link begun (tag.End client hostgroup) = (tt, tt)
  begun_still moment view link begun tag.Own =
      still_if (quits_by (plan.steps link begun)) [] (stepped link Own (plan.steps link begun)) tt (stepped_still link Own (plan.steps link begun))
  begun_still moment view link begun tag.Reply = (tt, tt)

  begun_on_still : (moment : ℕ) (view : View) (link : LinkId) (wire : Wire) (for : Tag) → AreStill (begun_on setup plan moment view link wire for)
  begun_on_still moment view link wire for =
      still_if (is_some_of wire.unread && not (quits_for for (plan.steps link wire.begun))) (Broke ∷ []) (begun_by setup plan moment view link wire.begun for) (tt, tt)
      (begun_still moment view link wire.begun for)

  -- what each such happening keeps is kept by the entry
  module _ (holds : Story → Type 0) (more : (past : Story) (e : Happening) → IsStill e → holds past → holds (e ∷ past)) where
    abbrev Holds : Tale → Type 0
    Holds tale = holds tale.story

    lossy : {A : Type 0} → true ≡ false → A
    lossy is = absurd (cc)

    either : (b : Bool) (x y : Tale) → Holds x → Holds y → Holds (if b then x else y)
    either true x y first second = first
    either false x y first second = second

    all_keep : (es : List Happening) (past : Story) → AreStill es → holds past → holds (es ++ past)
    all_keep [] past others kept = kept
    all_keep (e ∷ es) past others kept = more (es ++ past) e others.0 (all_keep es past others.1 kept)

    writes_keep : (link : LinkId) (for : Tag) (bytes : List ℕ) (wire : Wire) (tale : Tale) → Holds tale → Holds (writes setup plan link for bytes wire tale)
    writes_keep link for bytes wire tale kept =
        either (may_begin setup link wire tale) (begins setup plan link for bytes wire tale) (with_wire link (record wire { written = wire.written ++ bytes }) tale)
        (all_keep (begun_on setup plan tale.moment (view_of setup tale) link wire for) tale.story (begun_on_still tale.moment (view_of setup tale) link wire for) kept) kept

    entered_keeps : (link : LinkId) (wire : Wire) (at : Opening) (tale : Tale) → Holds tale → Holds (entered_by plan link wire at tale)
    entered_keeps link wire (LogsIn said rest) tale kept = more _ _ tt kept
    entered_keeps link wire (Goes said) tale kept = kept
    entered_keeps link wire (Fails said fault) tale kept = kept

    heard_keeps : (link : LinkId) (question : Question) (wire : Wire) (ending : Ending) (tale : Tale) → Holds tale → Holds (heard_by link question wire ending tale)
    heard_keeps link question wire (Ended end rest) tale kept = more _ _ tt kept
    heard_keeps link question wire (Going state) tale kept = kept
    heard_keeps link question wire (Failed rest) tale kept = kept

    hears_keeps : (link : LinkId) (wire : Wire) (stage : Stage) (tale : Tale) → Holds tale → Holds (hears link wire stage tale)
    hears_keeps link wire (Answered question) tale kept = heard_keeps link question wire (read_as (kind_by (command_of question)) wire) tale kept
    hears_keeps link wire Quiet tale kept = kept
    hears_keeps link wire (Asked question) tale kept = kept

    runs_keep : (stage : Stage) (link : LinkId) (tale : Tale) → Holds tale → Holds (runs_first stage link tale)
    runs_keep (Asked question) link tale kept = more _ _ tt kept
    runs_keep Quiet link tale kept = kept
    runs_keep (Answered question) link tale kept = kept

    reset_keeps : (link : LinkId) (wire : Wire) (ending : Ending) (tale : Tale) → Holds tale → Holds (reset_by link wire ending tale)
    reset_keeps link wire (Ended end rest) tale kept = kept
    reset_keeps link wire (Going state) tale kept = kept
    reset_keeps link wire (Failed rest) tale kept = kept

    says_keep : (link : LinkId) (bytes : List ℕ) (tale : Tale) → Holds tale → Holds (server_says setup plan link bytes tale)
    says_keep link bytes tale kept =
        let wire : Wire = wire_with tale link bytes in
        either (not (tale.wires link).entered) _ _ (entered_keeps link wire (opening (plan.logins link) wire.unread) tale kept)
        (either (is_reset_step (tale.wires link).step) _ _ (reset_keeps link wire (read_as kind.Command wire) tale kept)
        (hears_keeps link wire (link_in setup (with_run setup link tale) link).stage (with_run setup link tale) (runs_keep (link_in setup tale link).stage link tale kept)))

    runs_or_drops : (b : Bool) (link : LinkId) (tale : Tale) → Holds tale → Holds (tell (if b then Dropped link else Ran link) tale)
    runs_or_drops true link tale kept = more _ _ tt kept
    runs_or_drops false link tale kept = more _ _ tt kept

    pub still_keeps : (tale : Tale) (e : Entry) → is_gone e ≡ false → Holds tale → Holds (told setup plan tale e)
    still_keeps tale (entry.Got link bytes) none kept = either (is_to_server tale link) _ _ (says_keep link bytes tale kept) kept
    still_keeps tale (entry.Wrote link for bytes) none kept = either (is_to_server tale link) _ _ (writes_keep link for bytes (tale.wires link) tale kept) kept
    still_keeps tale (entry.Exec link) none kept = either (tale.wires link).entered _ _ (runs_or_drops (tale.wires link).quits link tale kept) kept
    still_keeps tale (entry.Drop link) none kept = more _ _ tt kept
    still_keeps tale (entry.Ended link) none kept = lossy none
    still_keeps tale (entry.ReadFailed link) none kept = lossy none
    still_keeps tale (entry.WriteFailed link) none kept = lossy none
    still_keeps tale (entry.Closed link) none kept = lossy none
    still_keeps tale _ none kept = kept
