-- What each happening that a tale tells keeps, its story has: a walk through what an entry does.
use Rattle.std.specs.Prelude.{◌≡◌, ◌⊎◌, ℕ, zero, suc, Bool, true, false, ◌&&◌, ◌||◌, not, nat_eq, fold, if◌then◌else◌, length, slice_get, slice_index_or, unwrap_or, List, [], ◌∷◌, ◌++◌, Option, Some, None}
use Rattle.std.proofs.Common.{refl, ap, inl, inr, arith}
use Rattle.server_rule.specs.Servers.{is_some_of}
use Rattle.private_model.specs.Story.{Broke, Capture, Dropped, Due, End, Freed, Gone, Happening, Left, Own, Prep, Question, Ran, Sent, Statement, Story, Sync, command_of, is_client, is_link_id, is_name}
use Rattle.private_model.specs.View.{Answered, Asked, Carried, Joined, Lent, Nobody, Quiet, Setup, Stage, View, present, session_in, view_after}
use Rattle.log_story.specs.Clients.{client_goes_on, client_leaves, clients_are_ended, clients_go_on, copied, due_by, ended_if_now, is_event_of, is_up, next_taken, taken_by, taken_up}
use Rattle.log_story.specs.Executes.{Request, requested}
use Rattle.log_story.specs.Owed.{messages, name_of}
use Rattle.log_story.specs.Plan.{Asks, Closes, Plan, Resets, Route, StepText, com_reset, gives_up, is_before, is_now, job_of}
use Rattle.log_story.specs.Servers.{begins, begun_by, begun_on, copy_by, due_in, of_due, or_broke, ended_by, entered_by, freed_if_done, heard_by, hears, is_done, kind_by, links_are_freed, may_begin}
use Rattle.log_story.specs.Servers.{quits_by, quits_for, read_as, reset_by, runs_first, step_for, stepped, tell_all, with_run, writes}
use Rattle.log_story.specs.Tale.{Client, Tale, Wire, counted, is_reset_step, is_to_server, link_in, tell, view_of, with_client, with_wire}
use Rattle.log_story.specs.Telling.{is_lost_or_left, server_says, tale_step, told, wire_with}
use Rattle.log_story.proofs.Frames.{IsBorn, asker}
use Rattle.std.specs.Option.{option_map_or}
use Rattle.mx_base.specs.declared.names.LinkId.{LinkId}
use Rattle.mx_base.specs.declared.tag.Tag.{Tag}
use Rattle.mx_base.specs.declared.tag.Tag.TheVariants as tag
use Rattle.mx_wire.specs.Log.{Log}
use Rattle.mx_wire.specs.declared.entry.Entry.{Entry}
use Rattle.mx_wire.specs.declared.entry.Entry.TheVariants as entry
use Rattle.packet_frame.specs.Packets.{Framed}
use Rattle.reply_track.specs.Runs.{Ending}
use Rattle.reply_track.specs.Runs.Ending.{Going, Ended, Failed}
use Rattle.reply_track.specs.declared.reply.ReplyKind.TheVariants as kind
use Rattle.server_side.specs.Login.{Opening, Goes, LogsIn, Fails, opening}
use Rattle.private_model.specs.Commands.{Command}
use Rattle.private_model.specs.Names.{ClientNo, Hostgroup, MessageName, SessionName}

if_either : {A : Type 0} (P : A → Type 0) (b : Bool) (x y : A) → P x → P y → P (if b then x else y)
if_either P true x y first second = first
if_either P false x y first second = second

folds : {A : Type 0} (P : Tale → Type 0) (f : Tale → A → Tale) → ((tale : Tale) (a : A) → P tale → P (f tale a)) → (xs : List A) (tale : Tale) → P tale
    → P (fold f tale xs)
folds P f keeps [] tale holds = holds
folds P f keeps (x ∷ xs) tale holds = folds P f keeps xs (f tale x) (keeps tale x holds)

-- a question is of a session that isn't to come, or of the one that the link carries
abbrev pub IsOfHere : View → LinkId → Option SessionName → Type 0
IsOfHere view link None = Unit {0}
IsOfHere view link (Some n) = IsBorn view n ⊎ (session_in (view.links link).carries ≡ Some n)

abbrev pub MayBeTold : View → Happening → Type 0
MayBeTold view (Sent link question) = IsOfHere view link (asker question)
MayBeTold view _ = Unit {0}

pub record Kept (setup : Setup) : Type 1 where
  pub holds : Story → Type 0
  pub more : (past : Story) (e : Happening) → MayBeTold (view_after setup past) e → holds past → holds (e ∷ past)

module _ (setup : Setup) (plan : Plan) (k : Kept setup) where
  abbrev Holds : Tale → Type 0
  Holds tale = k.holds tale.story

  abbrev HoldIn : Option Tale → Type 0
  HoldIn None = Unit {0}
  HoldIn (Some tale) = Holds tale

  -- Clients.

  copied_keeps : (message : MessageName) (command : Command) (mirror : Option Hostgroup) (tale : Tale) → Holds tale → Holds (copied message command mirror tale)
  copied_keeps message command None tale holds = holds
  copied_keeps message command (Some hostgroup) tale holds = k.more _ _ tt (k.more _ _ tt holds)

  due_by_keeps : (client : Client) (i : ℕ) (route : Route) (request : Option Request) (tale : Tale) → Holds tale → Holds (due_by client i route request tale)
  due_by_keeps client i route None tale holds = k.more _ _ tt holds
  due_by_keeps client i route (Some request) tale holds = copied_keeps (name_of client i) request.command route.mirror _ (k.more _ _ tt holds)

  taken_by_keeps : (client : Client) (i : ℕ) (message : Framed) (route : Option Route) (tale : Tale) → Holds tale → Holds (taken_by setup plan client i message route tale)
  taken_by_keeps client i message None tale holds =
      if_either Holds (nat_eq (slice_index_or message.payload 0 0) com_reset) (tell (Left client.number) tale) tale (k.more _ _ tt holds) holds
  taken_by_keeps client i message (Some route) tale holds =
      due_by_keeps client i route (requested setup (view_of setup tale) plan client i route message.payload) tale holds

  next_keeps : (client : Client) (message : Option Framed) (tale : Tale) → Holds tale → HoldIn (next_taken setup plan client message tale)
  next_keeps client None tale holds = tt
  next_keeps client (Some message) tale holds =
      if_either HoldIn (is_up setup plan client tale) (Some (taken_by setup plan client (suc client.taken) message
      (plan.routes (name_of client (suc client.taken))) tale)) None
      (taken_by_keeps client (suc client.taken) message (plan.routes (name_of client (suc client.taken))) tale holds) tt

  others_keep : (others : Tale → Tale) (next : Option Tale) (old : Tale) → Holds old → HoldIn next → ((tale : Tale) → Holds tale → Holds (others tale))
      → Holds (option_map_or others next old)
  others_keep others None old holds found keeps = holds
  others_keep others (Some tale) old holds found keeps = keeps tale found

  taken_up_keeps : (most : ℕ) (client : Client) (tale : Tale) → Holds tale → Holds (taken_up most setup plan client tale)
  taken_up_keeps zero client tale holds = holds
  taken_up_keeps (suc most) client tale holds =
      let next : Client = record client { taken = suc client.taken } in
      others_keep (λ other. taken_up most setup plan next (with_client next other)) (next_taken setup plan client (slice_get (messages plan client) client.taken) tale) tale
      holds (next_keeps client (slice_get (messages plan client) client.taken) tale holds)
      (λ other found. taken_up_keeps most next (with_client next other) found)

  go_on_keeps : (view : View) (e : Entry) (tale : Tale) → Holds tale → Holds (clients_go_on setup plan view e tale)
  go_on_keeps view e tale holds =
      folds Holds (client_goes_on setup plan view e)
      (λ other client found. if_either Holds ((is_event_of view client e || gives_up plan other.moment (name_of client client.taken)) && not (is_before other.moment (plan.ends client.number)))
      (taken_up (length (messages plan client)) setup plan client other) other
      (taken_up_keeps (length (messages plan client)) client other found) found) tale.clients tale holds

  ending_keeps : (tale : Tale) → Holds tale → Holds (clients_are_ended plan tale)
  ending_keeps tale holds =
      folds Holds (ended_if_now plan) (λ other client found. if_either Holds (is_now other.moment (plan.ends client.number))
      (tell (Left client.number) other) other (k.more _ _ tt found) found) tale.clients tale holds

  -- Links to servers.

  freeing_keeps : (tale : Tale) → Holds tale → Holds (links_are_freed setup plan tale)
  freeing_keeps tale holds =
      folds Holds (freed_if_done setup plan)
      (λ other link found. if_either Holds (is_done plan other.moment (view_of setup other) (other.wires link) (link_in setup other link))
      (tell (Freed link) other) other (k.more _ _ tt found) found) tale.links tale holds

  -- what is present, or has life 0, isn't to come
  now_born : (view : View) (client : ClientNo) (hostgroup : Hostgroup) → IsBorn view (present view client hostgroup)
  now_born view client hostgroup = omega arith

  else_broke : {A : Type 0} (happens : A → List Happening) (found : Option A) (tale : Tale) → ((a : A) → Holds (tell_all (happens a) tale)) → Holds tale
      → Holds (tell_all (or_broke happens found) tale)
  else_broke happens None tale each holds = k.more _ _ tt holds
  else_broke happens (Some a) tale each holds = each a

  -- what is due is of a session that isn't to come
  due_keeps : (link : LinkId) (ordinal : ℕ) (n : SessionName) (question : Due → Question) (tale : Tale)
      → ((due : Due) → IsOfHere (view_of setup tale) link (asker (question due))) → Holds tale
      → Holds (tell_all (of_due plan tale.moment (view_of setup tale) link ordinal n question) tale)
  due_keeps link ordinal n question tale here holds =
      else_broke _ (due_in plan tale.moment ordinal n ((view_of setup tale).dues n)) tale (λ due. k.more _ _ (here due) holds) holds

  stepped_keeps : (link : LinkId) (question : Command → Question) (step : StepText) (tale : Tale)
      → ((command : Command) → IsOfHere (view_of setup tale) link (asker (question command))) → Holds tale → Holds (tell_all (stepped link question step) tale)
  stepped_keeps link question (Asks command) tale here holds = k.more _ _ (here command) holds
  stepped_keeps link question (Closes number) tale here holds = k.more _ _ tt holds
  stepped_keeps link question (Resets number) tale here holds = holds

  copy_keeps : (link : LinkId) (n : SessionName) (carried : Carried) (tale : Tale) → (link_in setup tale link).carries ≡ carried → IsBorn (view_of setup tale) n
      → Holds tale → Holds (tell_all (copy_by plan tale.moment (view_of setup tale) link n carried) tale)
  copy_keeps link n (Joined who) tale is born holds =
      if_either (λ es. Holds (tell_all es tale)) (is_client who.client n.client) (Sent link (End who) ∷ [])
      (of_due plan tale.moment (view_of setup tale) link 1 n (Statement n)) (k.more _ _ (inr (ap session_in is)) holds)
      (due_keeps link 1 n (Statement n) tale (λ due. inl born) holds)
  copy_keeps link n Nobody tale is born holds =
      else_broke _ (due_in plan tale.moment 1 n ((view_of setup tale).dues n)) tale (λ due. k.more _ _ tt (k.more _ _ (inl born) holds)) holds
  copy_keeps link n (Lent who) tale is born holds =
      else_broke _ (due_in plan tale.moment 1 n ((view_of setup tale).dues n)) tale (λ due. k.more _ _ tt (k.more _ _ (inl born) holds)) holds

  copies_keep : (link : LinkId) (job : ClientNo) (mirror : Option Hostgroup) (tale : Tale) → Holds tale
      → Holds (tell_all (or_broke (λ hostgroup. copy_by plan tale.moment (view_of setup tale) link (present (view_of setup tale) job hostgroup) (link_in setup tale link).carries) mirror) tale)
  copies_keep link job None tale holds = k.more _ _ tt holds
  copies_keep link job (Some hostgroup) tale holds =
      copy_keeps link (present (view_of setup tale) job hostgroup) (link_in setup tale link).carries tale refl (now_born (view_of setup tale) job hostgroup) holds

  -- what ends, or is captured, is what the link carries, else the present session
  end_here : (view : View) (link : LinkId) (n : SessionName) → IsOfHere view link (Some n) → IsOfHere view link (asker (ended_by view n))
  end_here view link n here = if_either (λ q. IsOfHere view link (asker q)) (is_name n (present view n.client n.hostgroup)) (Capture n) (End n) here here

  carried_here : (view : View) (link : LinkId) (client : ClientNo) (hostgroup : Hostgroup) (found : Option SessionName) → session_in (view.links link).carries ≡ found
      → IsOfHere view link (Some (unwrap_or found (present view client hostgroup)))
  carried_here view link client hostgroup None is = inl (now_born view client hostgroup)
  carried_here view link client hostgroup (Some n) is = inr is

  begun_keeps : (link : LinkId) (begun : ℕ) (for : Tag) (tale : Tale) → Holds tale
      → Holds (tell_all (begun_by setup plan tale.moment (view_of setup tale) link begun for) tale)
  begun_keeps link begun (tag.For client ordinal) tale holds =
      else_broke _ (plan.routes (record { client = client; ordinal = ordinal })) tale
      (λ route. let n = present (view_of setup tale) client route.hostgroup in
      due_keeps link ordinal n (Statement n) tale (λ due. inl (now_born (view_of setup tale) client route.hostgroup)) holds) holds
  begun_keeps link begun (tag.Prep client ordinal) tale holds =
      else_broke _ (plan.routes (record { client = client; ordinal = ordinal })) tale
      (λ route. let n = present (view_of setup tale) client route.hostgroup in
      due_keeps link ordinal n (λ due. Prep n due.key (setup.keys due.key).text) tale (λ due. inl (now_born (view_of setup tale) client route.hostgroup)) holds) holds
  begun_keeps link begun (tag.Mirror client ordinal) tale holds =
      else_broke _ (plan.routes (record { client = client; ordinal = ordinal })) tale
      (λ route. copies_keep link (job_of (record { client = client; ordinal = ordinal })) route.mirror tale holds) holds
  begun_keeps link begun (tag.Sync client hostgroup) tale holds =
      stepped_keeps link (Sync (present (view_of setup tale) client hostgroup)) (plan.steps link begun) tale (λ command. inl (now_born (view_of setup tale) client hostgroup)) holds
  begun_keeps link begun (tag.End client hostgroup) tale holds =
      let view = view_of setup tale in
      k.more _ _ (end_here view link (unwrap_or (session_in (view.links link).carries) (present view client hostgroup))
      (carried_here view link client hostgroup (session_in (view.links link).carries) refl)) holds
  begun_keeps link begun tag.Own tale holds =
      if_either (λ es. Holds (tell_all es tale)) (quits_by (plan.steps link begun)) [] (stepped link Own (plan.steps link begun)) holds
      (stepped_keeps link Own (plan.steps link begun) tale (λ command. tt) holds)
  begun_keeps link begun tag.Reply tale holds = k.more _ _ tt holds

  begun_on_keeps : (link : LinkId) (wire : Wire) (for : Tag) (tale : Tale) → Holds tale
      → Holds (tell_all (begun_on setup plan tale.moment (view_of setup tale) link wire for) tale)
  begun_on_keeps link wire for tale holds =
      if_either (λ es. Holds (tell_all es tale)) (is_some_of wire.unread && not (quits_for for (plan.steps link wire.begun))) (Broke ∷ [])
      (begun_by setup plan tale.moment (view_of setup tale) link wire.begun for) (k.more _ _ tt holds) (begun_keeps link wire.begun for tale holds)

  writes_keeps : (link : LinkId) (for : Tag) (bytes : List ℕ) (wire : Wire) (tale : Tale) → Holds tale → Holds (writes setup plan link for bytes wire tale)
  writes_keeps link for bytes wire tale holds =
      let step = plan.steps link wire.begun in
      let begun : Wire = record wire { written = bytes; step = step_for for step; begun = suc wire.begun; quits = wire.quits || quits_for for step } in
      if_either Holds (may_begin setup link wire tale) (begins setup plan link for bytes wire tale) (with_wire link (record wire { written = wire.written ++ bytes }) tale)
      (begun_on_keeps link wire for tale holds) holds

  entered_keeps : (link : LinkId) (wire : Wire) (at : Opening) (tale : Tale) → Holds tale → Holds (entered_by plan link wire at tale)
  entered_keeps link wire (LogsIn said rest) tale holds = k.more _ _ tt holds
  entered_keeps link wire (Goes said) tale holds = holds
  entered_keeps link wire (Fails said fault) tale holds = holds

  heard_keeps : (link : LinkId) (question : Question) (wire : Wire) (ending : Ending) (tale : Tale) → Holds tale → Holds (heard_by link question wire ending tale)
  heard_keeps link question wire (Ended end rest) tale holds = k.more _ _ tt holds
  heard_keeps link question wire (Going state) tale holds = holds
  heard_keeps link question wire (Failed rest) tale holds = holds

  hears_keeps : (link : LinkId) (wire : Wire) (stage : Stage) (tale : Tale) → Holds tale → Holds (hears link wire stage tale)
  hears_keeps link wire (Answered question) tale holds = heard_keeps link question wire (read_as (kind_by (command_of question)) wire) tale holds
  hears_keeps link wire Quiet tale holds = holds
  hears_keeps link wire (Asked question) tale holds = holds

  runs_keeps : (stage : Stage) (link : LinkId) (tale : Tale) → Holds tale → Holds (runs_first stage link tale)
  runs_keeps (Asked question) link tale holds = k.more _ _ tt holds
  runs_keeps Quiet link tale holds = holds
  runs_keeps (Answered question) link tale holds = holds

  reset_keeps : (link : LinkId) (wire : Wire) (ending : Ending) (tale : Tale) → Holds tale → Holds (reset_by link wire ending tale)
  reset_keeps link wire (Ended end rest) tale holds = holds
  reset_keeps link wire (Going state) tale holds = holds
  reset_keeps link wire (Failed rest) tale holds = holds

  says_keeps : (link : LinkId) (bytes : List ℕ) (tale : Tale) → Holds tale → Holds (server_says setup plan link bytes tale)
  says_keeps link bytes tale holds =
      let wire : Wire = wire_with tale link bytes in
      if_either Holds (not (tale.wires link).entered) _ _ (entered_keeps link wire (opening (plan.logins link) wire.unread) tale holds)
      (if_either Holds (is_reset_step (tale.wires link).step) _ _ (reset_keeps link wire (read_as kind.Command wire) tale holds)
      (hears_keeps link wire (link_in setup (with_run setup link tale) link).stage (with_run setup link tale) (runs_keeps (link_in setup tale link).stage link tale holds)))

  losing_keeps : (link : LinkId) (tale : Tale) → Holds tale → Holds (is_lost_or_left link tale)
  losing_keeps link tale holds =
      if_either Holds (is_to_server tale link) (tell (Gone link) tale) (fold (client_leaves link) tale tale.clients) (k.more _ _ tt holds)
      (folds Holds (client_leaves link) (λ other client found. if_either Holds (is_link_id client.link link) (tell (Left client.number) other) other
      (k.more _ _ tt found) found) tale.clients tale holds)

  entry_keeps : (tale : Tale) (e : Entry) → Holds tale → Holds (told setup plan tale e)
  entry_keeps tale (entry.Got link bytes) holds = if_either Holds (is_to_server tale link) _ _ (says_keeps link bytes tale holds) holds
  entry_keeps tale (entry.Wrote link for bytes) holds = if_either Holds (is_to_server tale link) _ _ (writes_keeps link for bytes (tale.wires link) tale holds) holds
  entry_keeps tale (entry.Exec link) holds =
      if_either Holds (tale.wires link).entered _ _
      (if_either (λ e. Holds (tell e tale)) (tale.wires link).quits (Dropped link) (Ran link) (k.more _ _ tt holds) (k.more _ _ tt holds)) holds
  entry_keeps tale (entry.Drop link) holds = k.more _ _ tt holds
  entry_keeps tale (entry.Ended link) holds = losing_keeps link tale holds
  entry_keeps tale (entry.ReadFailed link) holds = losing_keeps link tale holds
  entry_keeps tale (entry.WriteFailed link) holds = losing_keeps link tale holds
  entry_keeps tale (entry.Closed link) holds = losing_keeps link tale holds
  entry_keeps tale _ holds = holds

  pub step_keeps : (tale : Tale) (e : Entry) → Holds tale → Holds (tale_step setup plan tale e)
  step_keeps tale e holds =
      let heard : Tale = counted (told setup plan tale e) in
      let gone : Tale = clients_go_on setup plan (view_of setup tale) e (links_are_freed setup plan heard) in
      freeing_keeps (clients_are_ended plan gone) (ending_keeps gone (go_on_keeps (view_of setup tale) e (links_are_freed setup plan heard) (freeing_keeps heard (entry_keeps tale e holds))))

  pub log_keeps : (log : Log) (tale : Tale) → Holds tale → Holds (fold (tale_step setup plan) tale log)
  log_keeps [] tale holds = holds
  log_keeps (e ∷ log) tale holds = log_keeps log (tale_step setup plan tale e) (step_keeps tale e holds)
