-- Honest bytes tell an honest story.
use Rattle.std.specs.Prelude.{◌≡◌, ℕ, zero, suc, ◌-◌, Bool, true, false, not, ◌&&◌, ◌||◌, List, [], ◌∷◌, ◌++◌, fold, length, nat_eq, slice_get, slice_index_or}
use Rattle.std.specs.Prelude.{take, Option, Some, None, if◌then◌else◌}
use Rattle.std.specs.Option.{option_map_or}
use Rattle.std.proofs.Common.{refl, sym, ap, ◌∙◌, subst, inl, inr, arith}
use Rattle.std.proofs.lemmas.Bool.{not-false}
use Rattle.std.proofs.lemmas.List.{take_all}
use Rattle.mx_base.specs.declared.tag.Tag.{Tag}
use Rattle.mx_base.specs.declared.tag.Tag.TheVariants as tag
use Rattle.mx_wire.specs.Log.{Log}
use Rattle.mx_wire.specs.declared.entry.Entry.{Entry}
use Rattle.mx_wire.specs.declared.entry.Entry.TheVariants as entry
use Rattle.packet_frame.specs.Packets.{Framed}
use Rattle.reply_track.specs.Runs.{Ending}
use Rattle.reply_track.specs.Runs.Ending.{Going, Ended, Failed}
use Rattle.reply_track.specs.Tracking.{Sought, started}
use Rattle.reply_track.specs.declared.reply.ReplyKind.TheVariants as kind
use Rattle.server_side.specs.Login.{Opening, Goes, LogsIn, Fails, opening}
use Rattle.server_rule.specs.Servers.{Step, is_some_of}
use Rattle.private_model.specs.Names.{Hostgroup, LinkId, MessageName, SessionName}
use Rattle.private_model.specs.Commands.{Command, Reply, is_prepare, runs}
use Rattle.private_model.specs.Honest.{IsHonest, IsTrueOf}
use Rattle.private_model.specs.Lawful.{IsLawful}
use Rattle.private_model.specs.Worlds.{real_after}
use Rattle.private_model.specs.Story.{Broke, Dropped, End, Freed, Gone, Happening, Left, Own, Question, Ran, Sent, Statement, Story, Sync, command_of, is_client}
use Rattle.private_model.specs.Story.{is_link_id}
use Rattle.private_model.specs.View.{Answered, Asked, Carried, Joined, Quiet, Setup, Stage, View, present, view_after}
use Rattle.log_story.specs.Plan.{Plan, Resets, Route, StepText, com_reset, gives_up, is_before, is_now, job_of}
use Rattle.log_story.specs.Tale.{Client, Tale, Wire, counted, first_tale, is_reset_step, is_to_server, link_in, tell, view_of, with_client, with_wire}
use Rattle.log_story.specs.Executes.{Request, requested}
use Rattle.log_story.specs.Owed.{messages, name_of}
use Rattle.log_story.specs.Clients.{client_goes_on, client_leaves, clients_are_ended, clients_go_on, copied, due_by, ended_if_now}
use Rattle.log_story.specs.Clients.{is_event_of, is_up, next_taken, taken_by, taken_up}
use Rattle.log_story.specs.Servers.{begins, begun_by, begun_on, copy_by, due_in, entered_by, freed_if_done, heard_by, hears, is_done, kind_by, links_are_freed, may_begin}
use Rattle.log_story.specs.Servers.{of_due, or_broke, quits_by, quits_for, read_as, reads_on, reply_id, reply_in, reset_by, runs_first, step_for, stepped, tell_all}
use Rattle.log_story.specs.Servers.{with_run, writes}
use Rattle.log_story.specs.Telling.{is_lost_or_left, server_says, story_of, tale_step, told, wire_with}
use Rattle.log_story.specs.Honest.{IsFarewell, IsHonestFrom, IsHonestLog, IsTrue, IsTrueGot, IsTrueRead, IsTrueReply, real_of, spelled}
use Rattle.log_story.proofs.Forms.{HasForm, story_formed}
use Rattle.reply_track.specs.Replying.{payloads_in}
use Rattle.reply_track.proofs.Replying.{payloads-again}
use Rattle.log_story.proofs.Bytes.{all_of, ends-so}

if_either : {A : Type 0} (P : A → Type 0) (b : Bool) (x y : A) → (b ≡ true → P x) → (b ≡ false → P y) → P (if b then x else y)
if_either P true x y first second = first refl
if_either P false x y first second = second refl

folds : {A : Type 0} (P : Tale → Type 0) (f : Tale → A → Tale) → ((tale : Tale) (a : A) → P tale → P (f tale a)) → (xs : List A) (tale : Tale) → P tale
    → P (fold f tale xs)
folds P f keeps [] tale holds = holds
folds P f keeps (x ∷ xs) tale holds = folds P f keeps xs (f tale x) (keeps tale x holds)

-- What holds of an honest story as true happenings are told.
pub record Kept (setup : Setup) (server : Step) : Type 1 where
  pub holds : Story → Type 0
  pub honest : (story : Story) → holds story → IsHonest setup (runs server) story
  pub more : (past : Story) (e : Happening) → IsTrueOf (runs server) (view_after setup past) (real_after setup (runs server) past) e → holds past
      → holds (e ∷ past)

module _ (setup : Setup) (plan : Plan) (server : Step) (k : Kept setup server) where
  abbrev Holds : Tale → Type 0
  Holds tale = k.holds tale.story

  -- Clients.

  abbrev HoldsIn : Option Tale → Type 0
  HoldsIn None = Unit {0}
  HoldsIn (Some tale) = Holds tale

  copied_keeps : (message : MessageName) (command : Command) (mirror : Option Hostgroup) (tale : Tale) → Holds tale → Holds (copied message command mirror tale)
  copied_keeps message command None tale holds = holds
  copied_keeps message command (Some hostgroup) tale holds = k.more _ _ tt (k.more _ _ tt holds)

  due_by_keeps : (client : Client) (i : ℕ) (route : Route) (request : Option Request) (tale : Tale) → Holds tale → Holds (due_by client i route request tale)
  due_by_keeps client i route None tale holds = k.more _ _ tt holds
  due_by_keeps client i route (Some request) tale holds = copied_keeps (name_of client i) request.command route.mirror _ (k.more _ _ tt holds)

  taken_by_keeps : (client : Client) (i : ℕ) (message : Framed) (route : Option Route) (tale : Tale) → Holds tale
      → Holds (taken_by setup plan client i message route tale)
  taken_by_keeps client i message None tale holds =
      if_either Holds (nat_eq (slice_index_or message.payload 0 0) com_reset) (tell (Left client.number) tale) tale (λ is. k.more _ _ tt holds)
      (λ is. holds)
  taken_by_keeps client i message (Some route) tale holds =
      due_by_keeps client i route (requested setup (view_of setup tale) plan client i route message.payload) tale holds

  next_keeps : (client : Client) (message : Option Framed) (tale : Tale) → Holds tale → HoldsIn (next_taken setup plan client message tale)
  next_keeps client None tale holds = tt
  next_keeps client (Some message) tale holds =
      if_either HoldsIn (is_up setup plan client tale) (Some (taken_by setup plan client (suc client.taken) message
      (plan.routes (name_of client (suc client.taken))) tale)) None
      (λ is. taken_by_keeps client (suc client.taken) message (plan.routes (name_of client (suc client.taken))) tale holds) (λ is. tt)

  others_keep : (others : Tale → Tale) (next : Option Tale) (old : Tale) → Holds old → HoldsIn next → ((tale : Tale) → Holds tale → Holds (others tale))
      → Holds (option_map_or others next old)
  others_keep others None old holds found keeps = holds
  others_keep others (Some tale) old holds found keeps = keeps tale found

  taken_up_keeps : (most : ℕ) (client : Client) (tale : Tale) → Holds tale → Holds (taken_up most setup plan client tale)
  taken_up_keeps zero client tale holds = holds
  taken_up_keeps (suc most) client tale holds =
      let next : Client = record client { taken = suc client.taken } in
      others_keep (λ other. taken_up most setup plan next (with_client next other))
      (next_taken setup plan client (slice_get (messages plan client) client.taken) tale) tale holds
      (next_keeps client (slice_get (messages plan client) client.taken) tale holds)
      (λ other found. taken_up_keeps most next (with_client next other) found)

  clients_keep : (view : View) (e : Entry) (tale : Tale) → Holds tale → Holds (clients_go_on setup plan view e tale)
  clients_keep view e tale holds =
      folds Holds (client_goes_on setup plan view e)
      (λ other client found. if_either Holds ((is_event_of view client e || gives_up plan other.moment (name_of client client.taken)) && not (is_before other.moment (plan.ends client.number)))
      (taken_up (length (messages plan client)) setup plan client other) other
      (λ is. taken_up_keeps (length (messages plan client)) client other found) (λ is. found)) tale.clients tale holds

  ending_keeps : (tale : Tale) → Holds tale → Holds (clients_are_ended plan tale)
  ending_keeps tale holds =
      folds Holds (ended_if_now plan) (λ other client found. if_either Holds (is_now other.moment (plan.ends client.number))
      (tell (Left client.number) other) other (λ is. k.more _ _ tt found) (λ is. found)) tale.clients tale holds

  -- Links to servers.

  freeing_keeps : (tale : Tale) → Holds tale → Holds (links_are_freed setup plan tale)
  freeing_keeps tale holds =
      folds Holds (freed_if_done setup plan)
      (λ other link found. if_either Holds (is_done plan other.moment (view_of setup other) (other.wires link) (link_in setup other link))
      (tell (Freed link) other) other (λ is. k.more _ _ tt found) (λ is. found)) tale.links tale holds

  else_broke : {A : Type 0} (happens : A → List Happening) (found : Option A) (tale : Tale) → ((a : A) → Holds (tell_all (happens a) tale)) → Holds tale
      → Holds (tell_all (or_broke happens found) tale)
  else_broke happens None tale each holds = k.more _ _ tt holds
  else_broke happens (Some a) tale each holds = each a

  stepped_keeps : (link : LinkId) (question : Command → Question) (step : StepText) (tale : Tale) → Holds tale
      → Holds (tell_all (stepped link question step) tale)
  stepped_keeps link question (Resets number) tale holds = holds
  stepped_keeps link question _ tale holds = k.more _ _ tt holds

  copy_by_keeps : (view : View) (link : LinkId) (n : SessionName) (carried : Carried) (tale : Tale) → Holds tale
      → Holds (tell_all (copy_by plan tale.moment view link n carried) tale)
  copy_by_keeps view link n (Joined who) tale holds =
      if_either (λ es. Holds (tell_all es tale)) (is_client who.client n.client) (Sent link (End who) ∷ []) (of_due plan tale.moment view link 1 n (Statement n))
      (λ is. k.more _ _ tt holds) (λ is. else_broke _ (due_in plan tale.moment 1 n (view.dues n)) tale (λ due. k.more _ _ tt holds) holds)
  copy_by_keeps view link n _ tale holds = else_broke _ (due_in plan tale.moment 1 n (view.dues n)) tale (λ due. k.more _ _ tt (k.more _ _ tt holds)) holds

  begun_keeps : (view : View) (link : LinkId) (begun : ℕ) (for : Tag) (tale : Tale) → Holds tale
      → Holds (tell_all (begun_by setup plan tale.moment view link begun for) tale)
  begun_keeps view link begun (tag.For client ordinal) tale holds =
      else_broke _ (plan.routes (record { client = client; ordinal = ordinal })) tale
      (λ route. let n = present view client route.hostgroup in
      else_broke _ (due_in plan tale.moment ordinal n (view.dues n)) tale (λ due. k.more _ _ tt holds) holds) holds
  begun_keeps view link begun (tag.Prep client ordinal) tale holds =
      else_broke _ (plan.routes (record { client = client; ordinal = ordinal })) tale
      (λ route. let n = present view client route.hostgroup in
      else_broke _ (due_in plan tale.moment ordinal n (view.dues n)) tale (λ due. k.more _ _ tt holds) holds) holds
  begun_keeps view link begun (tag.Mirror client ordinal) tale holds =
      let job = job_of (record { client = client; ordinal = ordinal }) in
      else_broke _ (plan.routes (record { client = client; ordinal = ordinal })) tale (λ route. else_broke _ route.mirror tale
      (λ hostgroup. copy_by_keeps view link (present view job hostgroup) (view.links link).carries tale holds) holds) holds
  begun_keeps view link begun (tag.Sync client hostgroup) tale holds =
      stepped_keeps link (Sync (present view client hostgroup)) (plan.steps link begun) tale holds
  begun_keeps view link begun (tag.End client hostgroup) tale holds = k.more _ _ tt holds
  begun_keeps view link begun tag.Own tale holds =
      if_either (λ es. Holds (tell_all es tale)) (quits_by (plan.steps link begun)) [] (stepped link Own (plan.steps link begun)) (λ is. holds)
      (λ is. stepped_keeps link Own (plan.steps link begun) tale holds)
  begun_keeps view link begun tag.Reply tale holds = k.more _ _ tt holds

  begun_on_keeps : (view : View) (link : LinkId) (wire : Wire) (for : Tag) (tale : Tale) → Holds tale
      → Holds (tell_all (begun_on setup plan tale.moment view link wire for) tale)
  begun_on_keeps view link wire for tale holds =
      if_either (λ es. Holds (tell_all es tale)) (is_some_of wire.unread && not (quits_for for (plan.steps link wire.begun))) (Broke ∷ [])
      (begun_by setup plan tale.moment view link wire.begun for) (λ is. k.more _ _ tt holds) (λ is. begun_keeps view link wire.begun for tale holds)

  writing_keeps : (link : LinkId) (for : Tag) (bytes : List ℕ) (wire : Wire) (tale : Tale) → Holds tale → Holds (writes setup plan link for bytes wire tale)
  writing_keeps link for bytes wire tale holds =
      let step = plan.steps link wire.begun in
      let begun : Wire = record wire { written = bytes; step = step_for for step; begun = suc wire.begun; quits = wire.quits || quits_for for step } in
      if_either Holds (may_begin setup link wire tale) (begins setup plan link for bytes wire tale)
      (with_wire link (record wire { written = wire.written ++ bytes }) tale)
      (λ is. begun_on_keeps (view_of setup tale) link wire for (with_wire link begun tale) holds) (λ is. holds)

  entering_keeps : (link : LinkId) (wire : Wire) (at : Opening) (tale : Tale) → Holds tale → Holds (entered_by plan link wire at tale)
  entering_keeps link wire (Goes said) tale holds = holds
  entering_keeps link wire (LogsIn said rest) tale holds = k.more _ _ tt holds
  entering_keeps link wire (Fails said fault) tale holds = holds

  -- A reply that is cut from honest bytes is the answer of the run.

  as_reply : (to_prepare : Bool) (payloads : List (List ℕ)) (answer : Reply) → to_prepare ≡ answer.to_prepare → payloads ≡ answer.payloads
      → record { to_prepare = to_prepare; payloads = payloads } ≡ answer
  as_reply to_prepare payloads answer form same = rw (form, same) refl

  same_reply : (wire : Wire) (question : Question) (answer : Reply) (end : _) (rest : List ℕ) → IsTrueReply wire question answer
      → answer.to_prepare ≡ is_prepare (command_of question) → read_as (kind_by (command_of question)) wire ≡ Ended end rest
      → reply_in wire question (take (length wire.unread - length rest) wire.unread) ≡ answer
  same_reply wire question answer end rest true_reply form found =
      let sought : Sought = record { kind = kind_by (command_of question); server = reply_id wire; client = 0; number = 0 } in
      let all = all_of (started sought) wire.unread (spelled wire answer) rest end true_reply.end true_reply.front
      (ends-so sought answer.payloads true_reply.end true_reply.is) found in
      let none : length rest ≡ 0 = ap length all.none in
      let taken : take (length wire.unread - length rest) wire.unread ≡ wire.unread =
      take_all (length wire.unread - length rest) wire.unread (omega (arith, none)) in
      let payloads = payloads-again (reply_id wire) answer.payloads (omega arith) in
      let bytes : take (length wire.unread - length rest) wire.unread ≡ spelled wire answer = taken ∙ all.is in
      let same : payloads_in (reply_id wire) (take (length wire.unread - length rest) wire.unread) ≡ answer.payloads =
      ap (payloads_in (reply_id wire)) bytes ∙ payloads in
      as_reply (is_prepare (command_of question)) (payloads_in (reply_id wire) (take (length wire.unread - length rest) wire.unread)) answer (sym form)
      same

  pub running_keeps : (link : LinkId) (wire : Wire) (tale : Tale) (stage : Stage) → IsTrueRead setup server link wire tale
      → (link_in setup tale link).stage ≡ stage → Holds tale → Holds (runs_first stage link tale)
  running_keeps link wire tale Quiet read is holds = holds
  running_keeps link wire tale (Asked question) read is holds = k.more _ _ (read.ran question is).true_run holds
  running_keeps link wire tale (Answered question) read is holds = holds

  hearing_keeps : (link : LinkId) (wire : Wire) (question : Question) (ending : Ending) (tale : Tale) → (link_in setup tale link).stage ≡ Answered question
      → IsTrueReply wire question ((real_of setup server tale).peers link).answer → read_as (kind_by (command_of question)) wire ≡ ending → Holds tale
      → Holds (heard_by link question wire ending tale)
  hearing_keeps link wire question (Going state) tale ran reply found holds = holds
  hearing_keeps link wire question (Ended end rest) tale ran reply found holds =
      k.more _ _ (record {
        question = question;
        ran = ran;
        same = same_reply wire question ((real_of setup server tale).peers link).answer end rest reply
            (subst (λ stage. HasForm stage ((real_of setup server tale).peers link).answer) ran (story_formed setup server tale.story (k.honest tale.story holds) link)) found;
      }) holds
  hearing_keeps link wire question (Failed rest) tale ran reply found holds = holds

  reading_keeps : (link : LinkId) (wire : Wire) (tale : Tale) → IsTrueRead setup server link wire tale → Holds tale → Holds (reads_on setup link wire tale)
  reading_keeps link wire tale read holds =
      let before : Tale = with_run setup link tale in
      let ran : Holds before = running_keeps link wire tale (link_in setup tale link).stage read refl holds in
      subst (λ stage. Holds (hears link wire stage before)) (sym read.answered)
      (hearing_keeps link wire read.question (read_as (kind_by (command_of read.question)) wire) before read.answered read.reply refl ran)

  -- what is said behind a drop lies unread
  farewell_keeps : (link : LinkId) (wire : Wire) (tale : Tale) → IsFarewell setup server tale link → Holds tale → Holds (reads_on setup link wire tale)
  farewell_keeps link wire tale is holds =
      subst (λ s. Holds (hears link wire (link_in setup (runs_first s link tale) link).stage (runs_first s link tale))) (sym is.quiet)
      (subst (λ s. Holds (hears link wire s tale)) (sym is.quiet) holds)

  resetting_keeps : (link : LinkId) (wire : Wire) (ending : Ending) (tale : Tale) → Holds tale → Holds (reset_by link wire ending tale)
  resetting_keeps link wire (Ended end rest) tale holds = holds
  resetting_keeps link wire _ tale holds = holds

  -- Each entry.

  losing_keeps : (link : LinkId) (tale : Tale) → Holds tale → Holds (is_lost_or_left link tale)
  losing_keeps link tale holds =
      if_either Holds (is_to_server tale link) (tell (Gone link) tale) (fold (client_leaves link) tale tale.clients) (λ is. k.more _ _ tt holds)
      (λ is. folds Holds (client_leaves link)
      (λ other client found. if_either Holds (is_link_id client.link link) (tell (Left client.number) other) other (λ it. k.more _ _ tt found)
      (λ it. found)) tale.clients tale holds)

  saying_keeps : (link : LinkId) (bytes : List ℕ) (tale : Tale) → IsTrueGot setup plan server tale link (wire_with tale link bytes) → Holds tale
      → Holds (server_says setup plan link bytes tale)
  saying_keeps link bytes tale got holds =
      let wire : Wire = wire_with tale link bytes in
      if_either Holds (not (tale.wires link).entered) _ _
      (λ is. entering_keeps link wire (opening (plan.logins link) wire.unread) tale holds)
      (λ is. if_either Holds (is_reset_step (tale.wires link).step) _ _
      (λ resets. resetting_keeps link wire (read_as kind.Command wire) tale holds)
      (λ reads. elim (got.read (not-false (tale.wires link).entered is) reads) [
        | inl farewell ↦ farewell_keeps link wire tale farewell holds
        | inr read ↦ reading_keeps link wire tale read holds
      ]))

  told_keeps : (tale : Tale) (e : Entry) → IsTrue setup plan server tale e → Holds tale → Holds (told setup plan tale e)
  told_keeps tale (entry.Got link bytes) is holds =
      if_either Holds (is_to_server tale link) _ _ (λ there. saying_keeps link bytes tale (is there) holds) (λ other. holds)
  told_keeps tale (entry.Wrote link for bytes) is holds =
      if_either Holds (is_to_server tale link) _ _ (λ there. writing_keeps link for bytes (tale.wires link) tale holds)
      (λ other. holds)
  told_keeps tale (entry.Exec link) is holds =
      if_either Holds (tale.wires link).entered _ _
      (λ there. if_either (λ e. Holds (tell e tale)) (tale.wires link).quits (Dropped link) (Ran link) (λ quits. k.more _ _ tt holds)
      (λ goes. k.more _ _ ((is there).runs goes).true_run holds)) (λ other. holds)
  told_keeps tale (entry.Drop link) is holds = k.more _ _ tt holds
  told_keeps tale (entry.Ended link) is holds = losing_keeps link tale holds
  told_keeps tale (entry.ReadFailed link) is holds = losing_keeps link tale holds
  told_keeps tale (entry.WriteFailed link) is holds = losing_keeps link tale holds
  told_keeps tale (entry.Closed link) is holds = losing_keeps link tale holds
  told_keeps tale _ is holds = holds

  pub step_keeps : (tale : Tale) (e : Entry) → IsTrue setup plan server tale e → Holds tale → Holds (tale_step setup plan tale e)
  step_keeps tale e is holds =
      let next = told_keeps tale e is holds in
      let heard : Tale = counted (told setup plan tale e) in
      let freed = freeing_keeps heard next in
      let gone : Tale = clients_go_on setup plan (view_of setup tale) e (links_are_freed setup plan heard) in
      freeing_keeps (clients_are_ended plan gone) (ending_keeps gone (clients_keep (view_of setup tale) e (links_are_freed setup plan heard) freed))

  pub kept_from : (log : Log) (tale : Tale) → IsHonestFrom setup plan server tale log → Holds tale → Holds (fold (tale_step setup plan) tale log)
  kept_from [] tale honest holds = holds
  kept_from (e ∷ log) tale honest holds =
      kept_from log (tale_step setup plan tale e) honest.1 (step_keeps tale e honest.0 holds)

-- it stays honest
abbrev pub honesty : (setup : Setup) (server : Step) → Kept setup server
honesty setup server = record { holds = IsHonest setup (runs server); honest = λ story is. is; more = λ past e is holds. (holds, is) }

pub story_kept : (setup : Setup) (plan : Plan) (server : Step) (log : Log) → IsHonestLog setup plan server log
    → IsHonest setup (runs server) (story_of setup plan log)
story_kept setup plan server log honest = kept_from setup plan server (honesty setup server) log first_tale honest tt

-- where a longer story is lawful, this one is
abbrev pub lawful_of : (setup : Setup) (server : Step) (story : Story) → Kept setup server
lawful_of setup server story = record {
  holds = λ later. IsHonest setup (runs server) later × (IsLawful setup later → IsLawful setup story);
  honest = λ later is. is.0;
  more = λ past e is holds. ((holds.0, is), λ lawful. holds.1 lawful.0);
}

pub lawful_before : (setup : Setup) (plan : Plan) (server : Step) (log : Log) (tale : Tale) → IsHonest setup (runs server) tale.story
    → IsHonestFrom setup plan server tale log → IsLawful setup (fold (tale_step setup plan) tale log).story → IsLawful setup tale.story
lawful_before setup plan server log tale before honest lawful =
    (kept_from setup plan server (lawful_of setup server tale.story) log tale honest (before, λ is. is)).1 lawful
