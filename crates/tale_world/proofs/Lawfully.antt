-- A log that passes the tests has a lawful story.
use Rattle.std.specs.Prelude.{Bool, List, None, Option, Some, [], false, fold, if◌then◌else◌, is_some, length, nat_eq, not, slice_get, slice_index_or, suc, true, unwrap_or, zero, ℕ, ◌&&◌, ◌++◌, ◌||◌, ◌∷◌, ◌≡◌}
use Rattle.std.specs.List.{list_any}
use Rattle.std.specs.Option.{option_map_or}
use Rattle.std.proofs.Common.{refl, sym, ap, ◌∙◌, inl, inr}
use Rattle.std.proofs.lemmas.Bool.{and_parts, cases_Bool, not-true, or_parts, or_right}
use Rattle.std.proofs.lemmas.List.Folds.{list_any-append}
use Rattle.mx_base.specs.declared.names.LinkId.{LinkId}
use Rattle.mx_base.specs.declared.tag.Tag.{Tag}
use Rattle.mx_base.specs.declared.tag.Tag.TheVariants as tag
use Rattle.mx_wire.specs.Log.{Log}
use Rattle.mx_wire.specs.declared.entry.Entry.{Entry}
use Rattle.mx_wire.specs.declared.entry.Entry.TheVariants as entry
use Rattle.packet_frame.specs.Packets.{Framed}
use Rattle.reply_track.specs.Runs.{Ending}
use Rattle.reply_track.specs.Runs.Ending.{Going, Ended, Failed}
use Rattle.reply_track.specs.declared.reply.ReplyKind.TheVariants as kind
use Rattle.server_side.specs.Login.{Opening, Goes, LogsIn, Fails, opening}
use Rattle.private_model.proofs.Maps.{link_of, same_link}
use Rattle.private_model.specs.Commands.{Command, Reply}
use Rattle.private_model.specs.Names.{ClientNo, Hostgroup, MessageName, ServerId, SessionName}
use Rattle.private_model.specs.Lawful.{IsLawful, MayCome}
use Rattle.private_model.specs.Story.{BecameDue, Broke, Capture, Dropped, Due, End, Freed, Gone, Happening, Heard, Left, LoggedIn, Mirrored, Own, Prep, Question, Ran, Sent, Statement, Story, Sync, Unprepared, message_of}
use Rattle.private_model.specs.Story.{command_of, is_client, is_link_id, is_name, put}
use Rattle.private_model.specs.View.{Answered, Asked, Carried, Joined, Lent, Link, Nobody, Quiet, Setup, Stage, View, closed_number, freed, heard, new_link, no_link, present, ran_by, session_in, view_after, view_heard, view_step}
use Rattle.log_story.specs.Clients.{client_goes_on, client_leaves, clients_are_ended, clients_go_on, copied, due_by, ended_if_now, is_up}
use Rattle.log_story.specs.Clients.{is_event_of, next_taken, taken_by, taken_up}
use Rattle.log_story.specs.Executes.{Request, requested}
use Rattle.log_story.specs.Owed.{messages, name_of}
use Rattle.log_story.specs.Plan.{Asks, Closes, Plan, Resets, Route, StepText, com_reset, gives_up, is_before, is_now, job_of, own_at}
use Rattle.log_story.specs.Servers.{begins, begun_by, begun_on, copy_by, due_in, ended_by, entered_by, freed_if_done, heard_by, hears, is_done, kind_by, links_are_freed, logged_in_as, may_begin, of_due, or_broke}
use Rattle.log_story.specs.Servers.{quits_by, quits_for, read_as, reads_on, reset_by, runs_first, step_for, stepped, with_run, writes}
use Rattle.log_story.specs.Tale.{Client, Tale, Wire, counted, first_tale, is_reset_step, is_to_server, link_in, new_wire, tell, view_of, with_client, with_wire}
use Rattle.log_story.specs.Telling.{is_lost_or_left, server_says, story_of, tale_step, told, wire_with}
use Rattle.log_story.proofs.Rules.{may_free}
use Rattle.tale_world.specs.Tested.{IsTested, IsTestedFrom, Passes, has_broken, is_broken}
use Rattle.tale_world.specs.Tests.{may_tell}
use Rattle.tale_world.proofs.Used.{IsUsed, StaysUsed, used_after}
use Rattle.tale_world.proofs.Testing.{AreBegun, IsOfView, tells_so}
use Rattle.server_rule.specs.Servers.{is_some_of}

isnt : {A : Type 0} → false ≡ true → A
isnt is = absurd (cc)

or_assoc : (a b c : Bool) → ((a || b) || c) ≡ (a || (b || c))
or_assoc true b c = refl
or_assoc false b c = refl

if_either : {A : Type 0} (P : A → Type 0) (b : Bool) (x y : A) → (b ≡ true → P x) → (b ≡ false → P y) → P (if b then x else y)
if_either P true x y first second = first refl
if_either P false x y first second = second refl

folds : {A : Type 0} (P : Tale → Type 0) (f : Tale → A → Tale) → ((tale : Tale) (a : A) → P tale → P (f tale a)) → (xs : List A) (tale : Tale) → P tale
    → P (fold f tale xs)
folds P f keeps [] tale holds = holds
folds P f keeps (x ∷ xs) tale holds = folds P f keeps xs (f tale x) (keeps tale x holds)

-- What is begun is of what the view has.

due-of : (plan : Plan) (moment ordinal : ℕ) (n : SessionName) (found : Option Due) (due : Due) → due_in plan moment ordinal n found ≡ Some due → found ≡ Some due
due-of plan moment ordinal n None due is = is
due-of plan moment ordinal n (Some other) due is = by_test (nat_eq other.ordinal ordinal && not (is_some (own_at plan moment (message_of n other)))) is where
  by_test : (b : Bool) → (if b then Some other else None) ≡ Some due → Some other ≡ Some due
  by_test true same = same
  by_test false same = absurd (cc)

unbroken-past : (es story : Story) → has_broken (es ++ story) ≡ false → has_broken story ≡ false
unbroken-past es story none = (or_parts (list_any is_broken es) _ (sym (list_any-append is_broken es story) ∙ none)).1

-- of links that are lost or closed it isn't said that they are of use
module _ (setup : Setup) (plan : Plan) (lost : LinkId → Bool) where
  begun_broke : {A : Type 0} (happens : A → List Happening) (story : Story) (found : Option A) → ((a : A) → found ≡ Some a → AreBegun setup (happens a) story)
      → AreBegun setup (or_broke happens found) story
  begun_broke happens story None each = (tt, tt)
  begun_broke happens story (Some a) each = each a refl

  begun_due : (moment ordinal : ℕ) (link : LinkId) (n : SessionName) (question : Due → Question) (story : Story)
      → ((due : Due) → (view_after setup story).dues n ≡ Some due → IsOfView (view_after setup story) (question due))
      → AreBegun setup (of_due plan moment (view_after setup story) link ordinal n question) story
  begun_due moment ordinal link n question story each =
      begun_broke (λ due. Sent link (question due) ∷ []) story (due_in plan moment ordinal n ((view_after setup story).dues n))
      (λ due is. (tt, each due (due-of plan moment ordinal n ((view_after setup story).dues n) due is)))

  begun_stepped : (link : LinkId) (question : Command → Question) (step : StepText) (story : Story)
      → ((command : Command) → IsOfView (view_after setup story) (question command)) → AreBegun setup (stepped link question step) story
  begun_stepped link question (Asks command) story each = (tt, each command)
  begun_stepped link question (Closes number) story each = (tt, tt)
  begun_stepped link question (Resets number) story each = tt

  begun_leaving : (moment : ℕ) (link : LinkId) (n : SessionName) (story : Story)
      → AreBegun setup (or_broke (λ due. Left n.client ∷ Sent link (Statement n due) ∷ []) (due_in plan moment 1 n ((view_after setup story).dues n))) story
  begun_leaving moment link n story =
      begun_broke (λ due. Left n.client ∷ Sent link (Statement n due) ∷ []) story (due_in plan moment 1 n ((view_after setup story).dues n))
      (λ due is. ((tt, due-of plan moment 1 n ((view_after setup story).dues n) due is), tt))

  begun_copy : (moment : ℕ) (link : LinkId) (n : SessionName) (carried : Carried) (story : Story) → AreBegun setup (copy_by plan moment (view_after setup story) link n carried) story
  begun_copy moment link n (Joined who) story =
      if_either (λ es. AreBegun setup es story) (is_client who.client n.client) (Sent link (End who) ∷ []) (of_due plan moment (view_after setup story) link 1 n (Statement n))
      (λ is. (tt, tt)) (λ is. begun_due moment 1 link n (Statement n) story (λ due has. has))
  begun_copy moment link n Nobody story = begun_leaving moment link n story
  begun_copy moment link n (Lent who) story = begun_leaving moment link n story

  begun_copies : (moment : ℕ) (link : LinkId) (job : ClientNo) (mirror : Option Hostgroup) (story : Story)
      → AreBegun setup (or_broke (λ hostgroup. copy_by plan moment (view_after setup story) link (present (view_after setup story) job hostgroup) ((view_after setup story).links link).carries) mirror) story
  begun_copies moment link job mirror story =
      begun_broke _ story mirror (λ hostgroup is. begun_copy moment link (present (view_after setup story) job hostgroup) ((view_after setup story).links link).carries story)

  begun_end : (view : View) (n : SessionName) → IsOfView view (ended_by view n)
  begun_end view n = if_either (IsOfView view) (is_name n (present view n.client n.hostgroup)) (Capture n) (End n) (λ is. tt) (λ is. tt)

  are_begun : (moment : ℕ) (link : LinkId) (begun : ℕ) (for : Tag) (story : Story) → AreBegun setup (begun_by setup plan moment (view_after setup story) link begun for) story
  are_begun moment link begun (tag.For client ordinal) story =
      begun_broke _ story (plan.routes (record { client = client; ordinal = ordinal }))
      (λ route is. begun_due moment ordinal link (present (view_after setup story) client route.hostgroup) (Statement (present (view_after setup story) client route.hostgroup)) story (λ due has. has))
  are_begun moment link begun (tag.Prep client ordinal) story =
      begun_broke _ story (plan.routes (record { client = client; ordinal = ordinal }))
      (λ route is. begun_due moment ordinal link (present (view_after setup story) client route.hostgroup)
      (λ due. Prep (present (view_after setup story) client route.hostgroup) due.key (setup.keys due.key).text) story (λ due has. tt))
  are_begun moment link begun (tag.Mirror client ordinal) story =
      begun_broke _ story (plan.routes (record { client = client; ordinal = ordinal }))
      (λ route is. begun_copies moment link (job_of (record { client = client; ordinal = ordinal })) route.mirror story)
  are_begun moment link begun (tag.Sync client hostgroup) story =
      begun_stepped link (Sync (present (view_after setup story) client hostgroup)) (plan.steps link begun) story (λ command. tt)
  are_begun moment link begun (tag.End client hostgroup) story = (tt, begun_end (view_after setup story) (unwrap_or (session_in ((view_after setup story).links link).carries) (present (view_after setup story) client hostgroup)))
  are_begun moment link begun tag.Own story =
      if_either (λ es. AreBegun setup es story) (quits_by (plan.steps link begun)) [] (stepped link Own (plan.steps link begun)) (λ is. tt)
      (λ is. begun_stepped link Own (plan.steps link begun) story (λ command. tt))
  are_begun moment link begun tag.Reply story = (tt, tt)

  are_begun_on : (moment : ℕ) (link : LinkId) (wire : Wire) (for : Tag) (story : Story) → AreBegun setup (begun_on setup plan moment (view_after setup story) link wire for) story
  are_begun_on moment link wire for story =
      if_either (λ es. AreBegun setup es story) (is_some_of wire.unread && not (quits_for for (plan.steps link wire.begun))) (Broke ∷ [])
      (begun_by setup plan moment (view_after setup story) link wire.begun for) (λ is. (tt, tt)) (λ is. are_begun moment link wire.begun for story)

  -- A link on which the router isn't logged in is as no link is.

  -- these alone touch such a link
  abbrev IsPlain : Happening → Type 0
  IsPlain (LoggedIn link server account) = ⊥
  IsPlain (Sent link question) = ⊥
  IsPlain (Gone link) = lost link ≡ true
  IsPlain _ = Unit {0}

  put_fresh : (links : LinkId → Link) (link : LinkId) (of : Link → Link) → of no_link ≡ no_link → (l : LinkId) → links l ≡ no_link
      → put is_link_id links link (of (links link)) l ≡ no_link
  put_fresh links link of same l fresh = elim (cases_Bool (is_link_id l link)) [
    | inl here ↦ ap (λ b. if b then of (links link) else links l) here ∙ ap (λ k. of (links k)) (sym (link_of l link here)) ∙ ap of fresh ∙ same
    | inr other ↦ ap (λ b. if b then of (links link) else links l) other ∙ fresh
  ]

  heard_fresh : (view : View) (link : LinkId) (reply : Reply) (stage : Stage) → (view.links link).stage ≡ stage → (l : LinkId) → view.links l ≡ no_link
      → (view_heard setup view link reply stage).links l ≡ no_link
  heard_fresh view link reply (Answered question) is l fresh = elim (cases_Bool (is_link_id l link)) [
    | inl here ↦ absurd (let stage : Quiet ≡ Answered question = ap (λ (x : Link). x.stage) (sym fresh) ∙ ap (λ k. (view.links k).stage) (link_of l link here) ∙ is in cc)
    | inr other ↦ ap (λ b. if b then heard setup.reads question reply (view.links link) else view.links l) other ∙ fresh
  ]
  heard_fresh view link reply Quiet is l fresh = fresh
  heard_fresh view link reply (Asked question) is l fresh = fresh

  plain_fresh : (view : View) (e : Happening) → IsPlain e → (l : LinkId) → view.links l ≡ no_link → (view_step setup view e).links l ≡ no_link
  plain_fresh view (LoggedIn link server account) plain l fresh = absurd plain
  plain_fresh view (Sent link question) plain l fresh = absurd plain
  plain_fresh view (Ran link) plain l fresh = put_fresh view.links link (λ x. ran_by setup.reads x.stage x) refl l fresh
  plain_fresh view (Heard link reply) plain l fresh = heard_fresh view link reply (view.links link).stage refl l fresh
  plain_fresh view (Freed link) plain l fresh = put_fresh view.links link freed refl l fresh
  plain_fresh view (Unprepared link number) plain l fresh = put_fresh view.links link (closed_number number) refl l fresh
  plain_fresh view (Dropped link) plain l fresh = fresh
  plain_fresh view (Gone link) plain l fresh = put_fresh view.links link (λ x. record x { usable = false }) refl l fresh
  plain_fresh view (BecameDue client hostgroup ordinal key command multiplex) plain l fresh = fresh
  plain_fresh view (Left client) plain l fresh = fresh
  plain_fresh view (Mirrored client job) plain l fresh = fresh
  plain_fresh view Broke plain l fresh = fresh

  -- a question on another link
  abbrev IsElsewhere : Happening → LinkId → Type 0
  IsElsewhere (LoggedIn link server account) l = is_link_id l link ≡ false
  IsElsewhere (Sent link question) l = is_link_id l link ≡ false
  IsElsewhere _ l = Unit {0}

  other_put : (links : LinkId → Link) (link l : LinkId) (value : Link) → is_link_id l link ≡ false → put is_link_id links link value l ≡ links l
  other_put links link l value other = ap (λ b. if b then value else links l) other

  else_fresh : (view : View) (e : Happening) (l : LinkId) → IsElsewhere e l → view.links l ≡ no_link → (view_step setup view e).links l ≡ no_link
  else_fresh view (LoggedIn link server account) l other fresh = other_put view.links link l _ other ∙ fresh
  else_fresh view (Sent link question) l other fresh = other_put view.links link l _ other ∙ fresh
  else_fresh view (Ran link) l other fresh = plain_fresh view (Ran link) tt l fresh
  else_fresh view (Heard link reply) l other fresh = plain_fresh view (Heard link reply) tt l fresh
  else_fresh view (Freed link) l other fresh = plain_fresh view (Freed link) tt l fresh
  else_fresh view (Unprepared link number) l other fresh = plain_fresh view (Unprepared link number) tt l fresh
  else_fresh view (Dropped link) l other fresh = fresh
  else_fresh view (Gone link) l other fresh = put_fresh view.links link (λ x. record x { usable = false }) refl l fresh
  else_fresh view (BecameDue client hostgroup ordinal key command multiplex) l other fresh = fresh
  else_fresh view (Left client) l other fresh = fresh
  else_fresh view (Mirrored client job) l other fresh = fresh
  else_fresh view Broke l other fresh = fresh

  gone_else : (l link : LinkId) → lost link ≡ true → lost l ≡ false → is_link_id l link ≡ false
  gone_else l link is stays = elim (cases_Bool (is_link_id l link)) [
    | inl same ↦ isnt (sym stays ∙ ap lost (link_of l link same) ∙ is)
    | inr other ↦ other
  ]

  plain_stays : (e : Happening) (l : LinkId) → IsPlain e → lost l ≡ false → StaysUsed setup e l
  plain_stays (LoggedIn link server account) l plain stays = absurd plain
  plain_stays (Sent link question) l plain stays = absurd plain
  plain_stays (Gone link) l plain stays = gone_else l link plain stays
  plain_stays _ l plain stays = tt

  -- What holds of a tale: its story is lawful, if no rule was broken; and a link on which the router is logged in is of use until it is lost.

  pub record IsSound (tale : Tale) : Type 0 where
    pub lawful : has_broken tale.story ≡ false → IsLawful setup tale.story
    pub fresh : (l : LinkId) → (tale.wires l).entered ≡ false → (view_of setup tale).links l ≡ no_link
    pub outside : (l : LinkId) → is_to_server tale l ≡ false → (tale.wires l).entered ≡ false
    pub used : (l : LinkId) → (tale.wires l).entered ≡ true → lost l ≡ false → IsUsed setup (view_of setup tale) l

  told_so : (e : Happening) (tale : Tale) → IsPlain e → MayCome setup (view_of setup tale) e → IsSound tale → IsSound (tell e tale)
  told_so e tale plain comes sound = record {
    lawful = λ unbroken. (sound.lawful (unbroken-past (e ∷ []) tale.story unbroken), comes);
    fresh = λ l out. plain_fresh (view_of setup tale) e plain l (sound.fresh l out);
    outside = sound.outside;
    used = λ l in_it stays. used_after setup (view_of setup tale) e l (plain_stays e l plain stays) (sound.used l in_it stays);
  }

  broke_so : (tale : Tale) → IsSound tale → IsSound (tell Broke tale)
  broke_so tale sound = record { lawful = λ unbroken. isnt (sym unbroken); fresh = sound.fresh; outside = sound.outside; used = sound.used }

  same_put : (wires : LinkId → Wire) (link : LinkId) (wire : Wire) → wire.entered ≡ (wires link).entered → (l : LinkId)
      → (put is_link_id wires link wire l).entered ≡ (wires l).entered
  same_put wires link wire same l = elim (cases_Bool (is_link_id l link)) [
    | inl here ↦ ap (λ b. (if b then wire else wires l).entered) here ∙ same ∙ ap (λ k. (wires k).entered) (sym (link_of l link here))
    | inr other ↦ ap (λ b. (if b then wire else wires l).entered) other
  ]

  -- what passes on a link changes, but for whether the router is logged in there
  wire_so : (link : LinkId) (wire : Wire) (tale : Tale) → wire.entered ≡ (tale.wires link).entered → IsSound tale → IsSound (with_wire link wire tale)
  wire_so link wire tale same sound = record {
    lawful = sound.lawful;
    fresh = λ l out. sound.fresh l (sym (same_put tale.wires link wire same l) ∙ out);
    outside = λ l no. same_put tale.wires link wire same l ∙ sound.outside l no;
    used = λ l in_it stays. sound.used l (sym (same_put tale.wires link wire same l) ∙ in_it) stays;
  }

  -- Clients.

  abbrev AreSound : Option Tale → Type 0
  AreSound None = Unit {0}
  AreSound (Some tale) = IsSound tale

  clients_so : (clients : List Client) (tale : Tale) → IsSound tale → IsSound (record tale { clients = clients })
  clients_so clients tale sound = record { lawful = sound.lawful; fresh = sound.fresh; outside = sound.outside; used = sound.used }

  copied_so : (message : MessageName) (command : Command) (mirror : Option Hostgroup) (tale : Tale) → IsSound tale → IsSound (copied message command mirror tale)
  copied_so message command None tale sound = sound
  copied_so message command (Some hostgroup) tale sound = told_so _ _ tt tt (told_so _ _ tt tt sound)

  due_by_so : (client : Client) (i : ℕ) (route : Route) (request : Option Request) (tale : Tale) → IsSound tale → IsSound (due_by client i route request tale)
  due_by_so client i route None tale sound = broke_so tale sound
  due_by_so client i route (Some request) tale sound = copied_so (name_of client i) request.command route.mirror _ (told_so _ _ tt tt sound)

  taken_by_so : (client : Client) (i : ℕ) (message : Framed) (route : Option Route) (tale : Tale) → IsSound tale
      → IsSound (taken_by setup plan client i message route tale)
  taken_by_so client i message None tale sound =
      if_either IsSound (nat_eq (slice_index_or message.payload 0 0) com_reset) (tell (Left client.number) tale) tale (λ is. told_so _ _ tt tt sound) (λ is. sound)
  taken_by_so client i message (Some route) tale sound =
      due_by_so client i route (requested setup (view_of setup tale) plan client i route message.payload) tale sound

  next_so : (client : Client) (message : Option Framed) (tale : Tale) → IsSound tale → AreSound (next_taken setup plan client message tale)
  next_so client None tale sound = tt
  next_so client (Some message) tale sound =
      if_either AreSound (is_up setup plan client tale) (Some (taken_by setup plan client (suc client.taken) message (plan.routes (name_of client (suc client.taken))) tale)) None
      (λ is. taken_by_so client (suc client.taken) message (plan.routes (name_of client (suc client.taken))) tale sound) (λ is. tt)

  others_so : (others : Tale → Tale) (next : Option Tale) (old : Tale) → IsSound old → AreSound next → ((tale : Tale) → IsSound tale → IsSound (others tale))
      → IsSound (option_map_or others next old)
  others_so others None old sound found keeps = sound
  others_so others (Some tale) old sound found keeps = keeps tale found

  taken_up_so : (most : ℕ) (client : Client) (tale : Tale) → IsSound tale → IsSound (taken_up most setup plan client tale)
  taken_up_so zero client tale sound = sound
  taken_up_so (suc most) client tale sound =
      let next : Client = record client { taken = suc client.taken } in
      others_so (λ other. taken_up most setup plan next (with_client next other)) (next_taken setup plan client (slice_get (messages plan client) client.taken) tale) tale
      sound (next_so client (slice_get (messages plan client) client.taken) tale sound)
      (λ other found. taken_up_so most next (with_client next other) (clients_so (with_client next other).clients other found))

  go_on_so : (view : View) (e : Entry) (tale : Tale) → IsSound tale → IsSound (clients_go_on setup plan view e tale)
  go_on_so view e tale sound =
      folds IsSound (client_goes_on setup plan view e)
      (λ other client found. if_either IsSound ((is_event_of view client e || gives_up plan other.moment (name_of client client.taken)) && not (is_before other.moment (plan.ends client.number)))
      (taken_up (length (messages plan client)) setup plan client other) other
      (λ is. taken_up_so (length (messages plan client)) client other found) (λ is. found)) tale.clients tale sound

  ending_so : (tale : Tale) → IsSound tale → IsSound (clients_are_ended plan tale)
  ending_so tale sound =
      folds IsSound (ended_if_now plan) (λ other client found. if_either IsSound (is_now other.moment (plan.ends client.number))
      (tell (Left client.number) other) other (λ is. told_so _ _ tt tt found) (λ is. found)) tale.clients tale sound

  -- Links to servers.

  freeing_so : (tale : Tale) → IsSound tale → IsSound (links_are_freed setup plan tale)
  freeing_so tale sound =
      folds IsSound (freed_if_done setup plan)
      (λ other link found. if_either IsSound (is_done plan other.moment (view_of setup other) (other.wires link) (link_in setup other link))
      (tell (Freed link) other) other
      (λ is. told_so (Freed link) other tt (may_free plan other.moment (view_of setup other) (other.wires link) (link_in setup other link) is) found) (λ is. found)) tale.links tale sound

  -- a link comes
  opened_so : (server : ServerId) (link : LinkId) (tale : Tale) → is_to_server tale link ≡ false → IsSound tale
      → IsSound (with_wire link (new_wire server) (record tale { links = tale.links ++ link ∷ [] }))
  opened_so server link tale new sound = record {
    lawful = sound.lawful;
    fresh = λ l out. elim (cases_Bool (is_link_id l link)) [
      | inl here ↦ sound.fresh l (ap (λ k. (tale.wires k).entered) (link_of l link here) ∙ sound.outside link new)
      | inr other ↦ sound.fresh l (sym (ap (λ b. (if b then new_wire server else tale.wires l).entered) other) ∙ out)
    ];
    outside = λ l no. elim (cases_Bool (is_link_id l link)) [
      | inl here ↦ ap (λ b. (if b then new_wire server else tale.wires l).entered) here
      | inr other ↦ ap (λ b. (if b then new_wire server else tale.wires l).entered) other
          ∙ sound.outside l (or_parts (list_any (is_link_id l) tale.links) _ (sym (list_any-append (is_link_id l) tale.links (link ∷ [])) ∙ no)).0
    ];
    used = λ l in_it stays. elim (cases_Bool (is_link_id l link)) [
      | inl here ↦ isnt (ap (λ b. (if b then new_wire server else tale.wires l).entered) (sym here) ∙ in_it)
      | inr other ↦ sound.used l (sym (ap (λ b. (if b then new_wire server else tale.wires l).entered) other) ∙ in_it) stays
    ];
  }

  -- the router logs in
  logged_in_so : (e : Happening) (link : LinkId) (wire : Wire) (tale : Tale) → is_to_server tale link ≡ true → wire.entered ≡ true
      → ((l : LinkId) → is_link_id l link ≡ false → IsElsewhere e l) → ((l : LinkId) → StaysUsed setup e l)
      → ((l : LinkId) → is_link_id l link ≡ true → IsUsed setup (view_step setup (view_of setup tale) e) l)
      → MayCome setup (view_of setup tale) e → IsSound tale → IsSound (tell e (with_wire link wire tale))
  logged_in_so e link wire tale there entered elsewhere stays_used now_used comes sound = record {
    lawful = λ unbroken. (sound.lawful (unbroken-past (e ∷ []) tale.story unbroken), comes);
    fresh = λ l out. elim (cases_Bool (is_link_id l link)) [
      | inl here ↦ isnt (sym out ∙ ap (λ b. (if b then wire else tale.wires l).entered) here ∙ entered)
      | inr other ↦ else_fresh (view_of setup tale) e l (elsewhere l other)
          (sound.fresh l (sym (ap (λ b. (if b then wire else tale.wires l).entered) other) ∙ out))
    ];
    outside = λ l no. elim (cases_Bool (is_link_id l link)) [
      | inl here ↦ isnt (sym no ∙ ap (λ k. is_to_server tale k) (link_of l link here) ∙ there)
      | inr other ↦ ap (λ b. (if b then wire else tale.wires l).entered) other ∙ sound.outside l no
    ];
    used = λ l in_it stays. elim (cases_Bool (is_link_id l link)) [
      | inl here ↦ now_used l here
      | inr other ↦ used_after setup (view_of setup tale) e l (stays_used l) (sound.used l (sym (ap (λ b. (if b then wire else tale.wires l).entered) other) ∙ in_it) stays)
    ];
  }

  entered_so : (link : LinkId) (wire : Wire) (at : Opening) (tale : Tale) → is_to_server tale link ≡ true → (tale.wires link).entered ≡ false
      → wire.entered ≡ (tale.wires link).entered → IsSound tale → IsSound (entered_by plan link wire at tale)
  entered_so link wire (LogsIn said rest) tale there out same sound =
      logged_in_so _ link (record wire { entered = true; unread = rest; written = [] }) tale there refl (λ l other. other) (λ l. tt)
      (λ l here. ap (λ b. (if b then new_link wire.server (logged_in_as (plan.logins link)) else link_in setup tale l).usable) here) (sound.fresh link out) sound
  entered_so link wire (Goes said) tale there out same sound = wire_so link wire tale same sound
  entered_so link wire (Fails said fault) tale there out same sound = wire_so link wire tale same sound

  heard_so : (link : LinkId) (question : Question) (wire : Wire) (ending : Ending) (tale : Tale) → wire.entered ≡ (tale.wires link).entered → IsSound tale
      → IsSound (heard_by link question wire ending tale)
  heard_so link question wire (Ended end rest) tale same sound =
      told_so _ _ tt tt (wire_so link (record wire { unread = rest; written = [] }) tale same sound)
  heard_so link question wire (Going state) tale same sound = wire_so link wire tale same sound
  heard_so link question wire (Failed rest) tale same sound = wire_so link wire tale same sound

  hears_so : (link : LinkId) (wire : Wire) (stage : Stage) (tale : Tale) → wire.entered ≡ (tale.wires link).entered → IsSound tale → IsSound (hears link wire stage tale)
  hears_so link wire (Answered question) tale same sound = heard_so link question wire (read_as (kind_by (command_of question)) wire) tale same sound
  hears_so link wire Quiet tale same sound = wire_so link wire tale same sound
  hears_so link wire (Asked question) tale same sound = wire_so link wire tale same sound

  runs_so : (stage : Stage) (link : LinkId) (tale : Tale) → IsSound tale → IsSound (runs_first stage link tale)
  runs_so (Asked question) link tale sound = told_so _ _ tt tt sound
  runs_so Quiet link tale sound = sound
  runs_so (Answered question) link tale sound = sound

  runs_wire : (stage : Stage) (link : LinkId) (tale : Tale) → ((runs_first stage link tale).wires link).entered ≡ (tale.wires link).entered
  runs_wire (Asked question) link tale = refl
  runs_wire Quiet link tale = refl
  runs_wire (Answered question) link tale = refl

  reads_so : (link : LinkId) (wire : Wire) (tale : Tale) → wire.entered ≡ (tale.wires link).entered → IsSound tale → IsSound (reads_on setup link wire tale)
  reads_so link wire tale same sound =
      let stage = (link_in setup tale link).stage in
      hears_so link wire (link_in setup (with_run setup link tale) link).stage (with_run setup link tale) (same ∙ sym (runs_wire stage link tale)) (runs_so stage link tale sound)

  reset_so : (link : LinkId) (wire : Wire) (ending : Ending) (tale : Tale) → wire.entered ≡ (tale.wires link).entered → IsSound tale → IsSound (reset_by link wire ending tale)
  reset_so link wire (Ended end rest) tale same sound = wire_so link (record wire { unread = rest; written = []; step = None }) tale same sound
  reset_so link wire (Going state) tale same sound = wire_so link wire tale same sound
  reset_so link wire (Failed rest) tale same sound = wire_so link wire tale same sound

  says_so : (link : LinkId) (bytes : List ℕ) (tale : Tale) → is_to_server tale link ≡ true → IsSound tale → IsSound (server_says setup plan link bytes tale)
  says_so link bytes tale there sound =
      let wire : Wire = wire_with tale link bytes in
      if_either IsSound (not (tale.wires link).entered) _ _
      (λ is. entered_so link wire (opening (plan.logins link) wire.unread) tale there (not-true (tale.wires link).entered is) refl sound)
      (λ is. if_either IsSound (is_reset_step (tale.wires link).step) _ _ (λ resets. reset_so link wire (read_as kind.Command wire) tale refl sound)
      (λ reads. reads_so link wire tale refl sound))

  -- a question begins, where the router is logged in

  abbrev AreBegunOn : LinkId → List Happening → Type 0
  AreBegunOn link [] = Unit {0}
  AreBegunOn link (e ∷ es) = AreBegunOn link es × (((l : LinkId) → StaysUsed setup e l) × ((l : LinkId) → is_link_id l link ≡ false → IsElsewhere e l))

  on_broke : {A : Type 0} (link : LinkId) (happens : A → List Happening) (found : Option A) → ((a : A) → AreBegunOn link (happens a)) → AreBegunOn link (or_broke happens found)
  on_broke link happens None each = (tt, (λ l. tt, λ l other. tt))
  on_broke link happens (Some a) each = each a

  on_due : (moment ordinal : ℕ) (link : LinkId) (view : View) (n : SessionName) (question : Due → Question) → AreBegunOn link (of_due plan moment view link ordinal n question)
  on_due moment ordinal link view n question = on_broke link _ (due_in plan moment ordinal n (view.dues n)) (λ due. (tt, (λ l. tt, λ l other. other)))

  on_stepped : (link : LinkId) (question : Command → Question) (step : StepText) → AreBegunOn link (stepped link question step)
  on_stepped link question (Asks command) = (tt, (λ l. tt, λ l other. other))
  on_stepped link question (Closes number) = (tt, (λ l. tt, λ l other. tt))
  on_stepped link question (Resets number) = tt

  on_copy : (moment : ℕ) (link : LinkId) (view : View) (n : SessionName) (carried : Carried) → AreBegunOn link (copy_by plan moment view link n carried)
  on_copy moment link view n (Joined who) =
      if_either (AreBegunOn link) (is_client who.client n.client) (Sent link (End who) ∷ []) (of_due plan moment view link 1 n (Statement n))
      (λ is. (tt, (λ l. tt, λ l other. other))) (λ is. on_due moment 1 link view n (Statement n))
  on_copy moment link view n Nobody = on_broke link _ (due_in plan moment 1 n (view.dues n)) (λ due. ((tt, (λ l. tt, λ l other. other)), (λ l. tt, λ l other. tt)))
  on_copy moment link view n (Lent who) = on_broke link _ (due_in plan moment 1 n (view.dues n)) (λ due. ((tt, (λ l. tt, λ l other. other)), (λ l. tt, λ l other. tt)))

  begun_there : (moment : ℕ) (link : LinkId) (begun : ℕ) (for : Tag) (view : View) → AreBegunOn link (begun_by setup plan moment view link begun for)
  begun_there moment link begun (tag.For client ordinal) view =
      on_broke link _ (plan.routes (record { client = client; ordinal = ordinal }))
      (λ route. on_due moment ordinal link view (present view client route.hostgroup) (Statement (present view client route.hostgroup)))
  begun_there moment link begun (tag.Prep client ordinal) view =
      on_broke link _ (plan.routes (record { client = client; ordinal = ordinal }))
      (λ route. on_due moment ordinal link view (present view client route.hostgroup) (λ due. Prep (present view client route.hostgroup) due.key (setup.keys due.key).text))
  begun_there moment link begun (tag.Mirror client ordinal) view =
      let job = job_of (record { client = client; ordinal = ordinal }) in
      on_broke link _ (plan.routes (record { client = client; ordinal = ordinal }))
      (λ route. on_broke link _ route.mirror (λ hostgroup. on_copy moment link view (present view job hostgroup) (view.links link).carries))
  begun_there moment link begun (tag.Sync client hostgroup) view = on_stepped link (Sync (present view client hostgroup)) (plan.steps link begun)
  begun_there moment link begun (tag.End client hostgroup) view = (tt, (λ l. tt, λ l other. other))
  begun_there moment link begun tag.Own view =
      if_either (AreBegunOn link) (quits_by (plan.steps link begun)) [] (stepped link Own (plan.steps link begun)) (λ is. tt)
      (λ is. on_stepped link Own (plan.steps link begun))
  begun_there moment link begun tag.Reply view = (tt, (λ l. tt, λ l other. tt))

  begun_on_there : (moment : ℕ) (link : LinkId) (wire : Wire) (for : Tag) (view : View) → AreBegunOn link (begun_on setup plan moment view link wire for)
  begun_on_there moment link wire for view =
      if_either (AreBegunOn link) (is_some_of wire.unread && not (quits_for for (plan.steps link wire.begun))) (Broke ∷ [])
      (begun_by setup plan moment view link wire.begun for) (λ is. (tt, (λ l. tt, λ l other. tt))) (λ is. begun_there moment link wire.begun for view)

  else_begun : (es : List Happening) (link l : LinkId) (story : Story) → AreBegunOn link es → is_link_id l link ≡ false → (view_after setup story).links l ≡ no_link
      → (view_after setup (es ++ story)).links l ≡ no_link
  else_begun [] link l story on other fresh = fresh
  else_begun (e ∷ es) link l story on other fresh = else_fresh (view_after setup (es ++ story)) e l (on.1.1 l other) (else_begun es link l story on.0 other fresh)

  used_begun : (es : List Happening) (link l : LinkId) (story : Story) → AreBegunOn link es → IsUsed setup (view_after setup story) l → IsUsed setup (view_after setup (es ++ story)) l
  used_begun [] link l story on used = used
  used_begun (e ∷ es) link l story on used = used_after setup (view_after setup (es ++ story)) e l (on.1.0 l) (used_begun es link l story on.0 used)

  begins_so : (link : LinkId) (for : Tag) (bytes : List ℕ) (wire : Wire) (tale : Tale) → wire.entered ≡ true → (tale.wires link).entered ≡ true
      → may_tell setup (begun_on setup plan tale.moment (view_of setup tale) link wire for) tale.story ≡ true → IsSound tale
      → IsSound (begins setup plan link for bytes wire tale)
  begins_so link for bytes wire tale entered here passes sound =
      let es : List Happening = begun_on setup plan tale.moment (view_of setup tale) link wire for in
      let step = plan.steps link wire.begun in
      let begun : Wire = record wire { written = bytes; step = step_for for step; begun = suc wire.begun; quits = wire.quits || quits_for for step } in
      let next = wire_so link begun tale (entered ∙ sym here) sound in
      record {
        lawful = λ unbroken. tells_so setup es tale.story (are_begun_on tale.moment link wire for tale.story) passes (sound.lawful (unbroken-past es tale.story unbroken));
        fresh = λ l out. elim (cases_Bool (is_link_id l link)) [
          | inl same ↦ isnt (sym out ∙ ap (λ b. (if b then begun else tale.wires l).entered) same ∙ entered)
          | inr other ↦ else_begun es link l tale.story (begun_on_there tale.moment link wire for (view_of setup tale)) other (next.fresh l out)
        ];
        outside = next.outside;
        used = λ l in_it stays. used_begun es link l tale.story (begun_on_there tale.moment link wire for (view_of setup tale)) (next.used l in_it stays);
      }

  writes_so : (link : LinkId) (for : Tag) (bytes : List ℕ) (tale : Tale) → (may_begin setup link (tale.wires link) tale ≡ true
      → may_tell setup (begun_on setup plan tale.moment (view_of setup tale) link (tale.wires link) for) tale.story ≡ true) → IsSound tale
      → IsSound (writes setup plan link for bytes (tale.wires link) tale)
  writes_so link for bytes tale passes sound =
      if_either IsSound (may_begin setup link (tale.wires link) tale) (begins setup plan link for bytes (tale.wires link) tale)
      (with_wire link (record (tale.wires link) { written = (tale.wires link).written ++ bytes }) tale)
      (λ is. let entered = (and_parts (tale.wires link).entered _ is).0 in begins_so link for bytes (tale.wires link) tale entered entered (passes is) sound)
      (λ is. wire_so link (record (tale.wires link) { written = (tale.wires link).written ++ bytes }) tale refl sound)

  -- Each entry.

  losing_so : (link : LinkId) (tale : Tale) → lost link ≡ true → IsSound tale → IsSound (is_lost_or_left link tale)
  losing_so link tale gone sound =
      if_either IsSound (is_to_server tale link) (tell (Gone link) tale) (fold (client_leaves link) tale tale.clients) (λ is. told_so _ _ gone tt sound)
      (λ is. folds IsSound (client_leaves link) (λ other client found. if_either IsSound (is_link_id client.link link) (tell (Left client.number) other) other
      (λ it. told_so _ _ tt tt found) (λ it. found)) tale.clients tale sound)

  -- what is lost by the entry is one of those
  abbrev pub IsLostBy : Entry → Type 0
  IsLostBy (entry.Ended link) = lost link ≡ true
  IsLostBy (entry.ReadFailed link) = lost link ≡ true
  IsLostBy (entry.WriteFailed link) = lost link ≡ true
  IsLostBy (entry.Closed link) = lost link ≡ true
  IsLostBy _ = Unit {0}

  entry_so : (tale : Tale) (e : Entry) → Passes setup plan tale e → IsLostBy e → IsSound tale → IsSound (told setup plan tale e)
  entry_so tale (entry.Accepted port link salt) passes gone sound = clients_so _ tale sound
  entry_so tale (entry.Opened server address link) passes gone sound = opened_so server link tale passes sound
  entry_so tale (entry.Got link bytes) passes gone sound =
      if_either IsSound (is_to_server tale link) _ _ (λ there. says_so link bytes tale there sound) (λ other. clients_so _ tale sound)
  entry_so tale (entry.Wrote link for bytes) passes gone sound =
      if_either IsSound (is_to_server tale link) _ _ (λ there. writes_so link for bytes tale (passes there) sound) (λ other. clients_so _ tale sound)
  entry_so tale (entry.Exec link) passes gone sound =
      if_either IsSound (tale.wires link).entered _ _
      (λ there. if_either (λ e. IsSound (tell e tale)) (tale.wires link).quits (Dropped link) (Ran link) (λ quits. told_so _ _ tt tt sound)
      (λ goes. told_so _ _ tt tt sound)) (λ other. sound)
  entry_so tale (entry.Drop link) passes gone sound = told_so _ _ tt tt sound
  entry_so tale (entry.Ended link) passes gone sound = losing_so link tale gone sound
  entry_so tale (entry.ReadFailed link) passes gone sound = losing_so link tale gone sound
  entry_so tale (entry.WriteFailed link) passes gone sound = losing_so link tale gone sound
  entry_so tale (entry.Closed link) passes gone sound = losing_so link tale gone sound
  entry_so tale _ passes gone sound = sound

  counted_so : (tale : Tale) → IsSound tale → IsSound (counted tale)
  counted_so tale sound = record { lawful = sound.lawful; fresh = sound.fresh; outside = sound.outside; used = sound.used }

  pub step_so : (tale : Tale) (e : Entry) → Passes setup plan tale e → IsLostBy e → IsSound tale → IsSound (tale_step setup plan tale e)
  step_so tale e passes gone sound =
      let heard : Tale = counted (told setup plan tale e) in
      let called : Tale = clients_go_on setup plan (view_of setup tale) e (links_are_freed setup plan heard) in
      freeing_so (clients_are_ended plan called) (ending_so called (go_on_so (view_of setup tale) e (links_are_freed setup plan heard)
      (freeing_so heard (counted_so (told setup plan tale e) (entry_so tale e passes gone sound)))))

-- which links a log's entries lose

abbrev pub loses : Entry → LinkId → Bool
loses (entry.Ended link) l = is_link_id l link
loses (entry.ReadFailed link) l = is_link_id l link
loses (entry.WriteFailed link) l = is_link_id l link
loses (entry.Closed link) l = is_link_id l link
loses _ l = false

abbrev pub lost_in : Log → LinkId → Bool
lost_in log l = list_any (λ e. loses e l) log

module _ (setup : Setup) (plan : Plan) where
  lost_by : (lost : LinkId → Bool) (e : Entry) → IsLostBy setup plan (λ l. lost l || loses e l) e
  lost_by lost (entry.Ended link) = or_right (lost link) _ (same_link link)
  lost_by lost (entry.ReadFailed link) = or_right (lost link) _ (same_link link)
  lost_by lost (entry.WriteFailed link) = or_right (lost link) _ (same_link link)
  lost_by lost (entry.Closed link) = or_right (lost link) _ (same_link link)
  lost_by lost _ = tt

  more_lost : (lost more : LinkId → Bool) (tale : Tale) → ((l : LinkId) → more l ≡ false → lost l ≡ false) → IsSound setup plan lost tale → IsSound setup plan more tale
  more_lost lost more tale fewer sound =
      record { lawful = sound.lawful; fresh = sound.fresh; outside = sound.outside; used = λ l in_it stays. sound.used l in_it (fewer l stays) }

  pub log_so : (log : Log) (lost : LinkId → Bool) (tale : Tale) → IsTestedFrom setup plan tale log → IsSound setup plan lost tale
      → IsSound setup plan (λ l. lost l || lost_in log l) (fold (tale_step setup plan) tale log)
  log_so [] lost tale tested sound = more_lost lost (λ l. lost l || false) tale (λ l stays. (or_parts (lost l) false stays).0) sound
  log_so (e ∷ log) lost tale tested sound =
      let more : LinkId → Bool = λ l. lost l || loses e l in
      more_lost (λ l. more l || lost_in log l) (λ l. lost l || lost_in (e ∷ log) l) (fold (tale_step setup plan) (tale_step setup plan tale e) log)
      (λ l stays. or_assoc (lost l) (loses e l) (lost_in log l) ∙ stays)
      (log_so log more (tale_step setup plan tale e) tested.1
      (step_so setup plan more tale e tested.0 (lost_by lost e) (more_lost lost more tale (λ l stays. (or_parts (lost l) (loses e l) stays).0) sound)))

  pub sound_so : (log : Log) → IsTested setup plan log → IsSound setup plan (lost_in log) (fold (tale_step setup plan) first_tale log)
  sound_so log tested = log_so log (λ l. false) first_tale tested
      (record { lawful = λ none. tt; fresh = λ l out. refl; outside = λ l no. refl; used = λ l in_it stays. isnt in_it })

  pub lawful_so : (log : Log) → IsTested setup plan log → has_broken (story_of setup plan log) ≡ false → IsLawful setup (story_of setup plan log)
  lawful_so log tested unbroken = (sound_so log tested).lawful unbroken
