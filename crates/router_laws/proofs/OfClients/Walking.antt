-- Of which clients a tale tells: of those that came.
use Rattle.std.specs.Prelude.{◌≡◌, ◌≤◌, ◌<◌, ◌+◌, ℕ, zero, suc, Bool, true, false, not, ◌&&◌, ◌||◌, All, fold, if◌then◌else◌, is_some, length, map, nat_eq, slice_get, slice_index_or, unwrap_or, List, [], ◌∷◌, ◌++◌, Option, Some, None}
use Rattle.std.specs.Option.{option_map_or}
use Rattle.std.proofs.Common.{refl, sym, ap, ◌∙◌, subst, arith, length-append}
use Rattle.std.proofs.lemmas.List.Elements.{All-cons, All-head, All-nil, All-tail, All-weaker}
use Rattle.mx_base.specs.declared.names.LinkId.{LinkId}
use Rattle.mx_base.specs.declared.tag.Tag.{Tag}
use Rattle.mx_base.specs.declared.tag.Tag.TheVariants as tag
use Rattle.mx_wire.specs.Log.{Log}
use Rattle.mx_wire.specs.declared.entry.Entry.{Entry}
use Rattle.mx_wire.specs.declared.entry.Entry.TheVariants as entry
use Rattle.packet_frame.specs.Packets.{Framed}
use Rattle.reply_track.specs.Runs.{Ending}
use Rattle.reply_track.specs.Runs.Ending.{Ended, Failed, Going}
use Rattle.reply_track.specs.declared.reply.ReplyKind.TheVariants as kind
use Rattle.server_rule.specs.Servers.{is_some_of}
use Rattle.server_side.specs.Login.{Fails, Goes, LogsIn, Opening, opening}
use Rattle.private_model.specs.Commands.{Command}
use Rattle.private_model.specs.Names.{ClientNo, Hostgroup, MessageName, SessionName}
use Rattle.private_model.specs.Story.{BecameDue, Broke, Capture, Dropped, Due, End, Freed, Gone, Happening, Heard, Left, LoggedIn, Mirrored, Own, Prep, Question, Ran, Sent, Statement, Story, Sync, Unprepared, command_of, is_link_id, is_name}
use Rattle.private_model.specs.View.{Answered, Asked, Quiet, Setup, Stage, View, present, session_in, view_after}
use Rattle.log_story.specs.Clients.{client_goes_on, client_leaves, clients_are_ended, clients_go_on, copied, due_by, ended_if_now, is_event_of, is_up, next_taken, taken_by, taken_up}
use Rattle.log_story.specs.Executes.{Request, requested}
use Rattle.log_story.specs.Owed.{messages, name_of}
use Rattle.log_story.specs.Plan.{Asks, Closes, Plan, Resets, Route, StepText, com_reset, gives_up, is_before, is_now, job_of}
use Rattle.log_story.specs.Servers.{begins, begun_by, begun_on, copy_by, due_in, ended_by, entered_by, freed_if_done, heard_by, hears, is_done, kind_by, links_are_freed, may_begin, of_due, or_broke, quits_by, quits_for, read_as, reads_on, reset_by, runs_first, stepped, tell_all, with_run, writes}
use Rattle.log_story.specs.Tale.{Client, Tale, Wire, client_gets, client_hears, counted, first_tale, is_reset_step, is_to_server, link_in, new_client, tell, view_of, with_client, with_wire}
use Rattle.log_story.specs.Telling.{is_lost_or_left, server_says, tale_step, told, wire_with}
use Rattle.step_laws.proofs.Giving.{kept_in}
use Rattle.step_laws.proofs.Seating.{log_counted, step_counted, told_counted}
use Rattle.step_laws.specs.Seats.{AreCounted, numbers}
use Rattle.router_laws.proofs.OfClients.Continuing.{Pairs, by_entry, newcomers, step_later, told_is}

-- What is told is of clients numbered so far, no copy is made, and what is prepared is of a statement that is due.

abbrev pub AskedIn : View → Question → Type 0
AskedIn view (Prep m key text) = is_some (view.dues m) ≡ true
AskedIn view _ = Unit {0}

abbrev pub KnownIn : (n : ℕ) → View → Happening → Type 0
KnownIn n view (BecameDue client hostgroup ordinal key command multiplex) = client.0 ≤ n
KnownIn n view (Left client) = client.0 ≤ n
KnownIn n view (Mirrored client job) = ⊥
KnownIn n view (Sent link question) = AskedIn view question
KnownIn n view _ = Unit {0}

abbrev pub AllKnown : Setup → (n : ℕ) → Story → Type 0
AllKnown setup n [] = Unit {0}
AllKnown setup n (e ∷ past) = AllKnown setup n past × KnownIn n (view_after setup past) e

either : {A : Type 0} (P : A → Type 0) (b : Bool) (x y : A) → P x → P y → P (if b then x else y)
either P true x y first second = first
either P false x y first second = second

module _ (setup : Setup) (plan : Plan) (single : (m : MessageName) (route : Route) → plan.routes m ≡ Some route → route.mirror ≡ None) (n : ℕ) where
  abbrev Holds : Tale → Type 0
  Holds tale = AllKnown setup n tale.story

  abbrev HoldsIn : Option Tale → Type 0
  HoldsIn None = Unit {0}
  HoldsIn (Some tale) = Holds tale

  -- What begins on a link: one happening, or none.

  abbrev One : View → List Happening → Type 0
  One view [] = Unit {0}
  One view (e ∷ []) = KnownIn n view e
  One view (e ∷ f ∷ es) = ⊥

  one_told : (es : List Happening) (story : Story) → One (view_after setup story) es → AllKnown setup n story → AllKnown setup n (es ++ story)
  one_told [] story is known = known
  one_told (e ∷ []) story is known = (known, is)
  one_told (e ∷ f ∷ es) story is known = absurd is

  some_due : (moment ordinal : ℕ) (m : SessionName) (found : Option Due) (due : Due) → due_in plan moment ordinal m found ≡ Some due → is_some found ≡ true
  some_due moment ordinal m None due is = absurd (cc)
  some_due moment ordinal m (Some d) due is = refl

  due_one : (moment ordinal : ℕ) (view : View) (link : LinkId) (m : SessionName) (question : Due → Question)
      → ((due : Due) → is_some (view.dues m) ≡ true → AskedIn view (question due)) → One view (of_due plan moment view link ordinal m question)
  due_one moment ordinal view link m question asks = by (due_in plan moment ordinal m (view.dues m)) refl where
    by : (found : Option Due) → due_in plan moment ordinal m (view.dues m) ≡ found → One view (or_broke (λ due. Sent link (question due) ∷ []) found)
    by None is = tt
    by (Some due) is = asks due (some_due moment ordinal m (view.dues m) due is)

  routed_one : (view : View) (m : MessageName) (happens : Route → List Happening)
      → ((route : Route) → plan.routes m ≡ Some route → One view (happens route)) → One view (or_broke happens (plan.routes m))
  routed_one view m happens each = by (plan.routes m) refl where
    by : (found : Option Route) → plan.routes m ≡ found → One view (or_broke happens found)
    by None is = tt
    by (Some route) is = each route is

  stepped_one : (view : View) (link : LinkId) (question : Command → Question) (step : StepText) → ((command : Command) → AskedIn view (question command))
      → One view (stepped link question step)
  stepped_one view link question (Asks command) asks = asks command
  stepped_one view link question (Closes number) asks = tt
  stepped_one view link question (Resets number) asks = tt

  ended_one : (view : View) (m : SessionName) → AskedIn view (ended_by view m)
  ended_one view m = either (AskedIn view) (is_name m (present view m.client m.hostgroup)) (Capture m) (End m) tt tt

  begun_one : (moment : ℕ) (view : View) (link : LinkId) (begun : ℕ) (for : Tag) → One view (begun_by setup plan moment view link begun for)
  begun_one moment view link begun (tag.For client ordinal) =
      routed_one view (record { client = client; ordinal = ordinal }) _
      (λ route is. due_one moment ordinal view link (present view client route.hostgroup) (Statement (present view client route.hostgroup)) (λ due has. tt))
  begun_one moment view link begun (tag.Prep client ordinal) =
      routed_one view (record { client = client; ordinal = ordinal }) _
      (λ route is. due_one moment ordinal view link (present view client route.hostgroup)
      (λ due. Prep (present view client route.hostgroup) due.key (setup.keys due.key).text) (λ due has. has))
  begun_one moment view link begun (tag.Mirror client ordinal) =
      let job : ClientNo = job_of (record { client = client; ordinal = ordinal }) in
      routed_one view (record { client = client; ordinal = ordinal })
      (λ route. or_broke (λ hostgroup. copy_by plan moment view link (present view job hostgroup) (view.links link).carries) route.mirror)
      (λ route is. subst (λ (mirror : Option Hostgroup).
      One view (or_broke (λ hostgroup. copy_by plan moment view link (present view job hostgroup) (view.links link).carries) mirror))
      (sym (single (record { client = client; ordinal = ordinal }) route is)) tt)
  begun_one moment view link begun (tag.Sync client hostgroup) =
      stepped_one view link (Sync (present view client hostgroup)) (plan.steps link begun) (λ command. tt)
  begun_one moment view link begun (tag.End client hostgroup) =
      ended_one view (unwrap_or (session_in (view.links link).carries) (present view client hostgroup))
  begun_one moment view link begun tag.Own =
      either (One view) (quits_by (plan.steps link begun)) [] (stepped link Own (plan.steps link begun)) tt
      (stepped_one view link Own (plan.steps link begun) (λ command. tt))
  begun_one moment view link begun tag.Reply = tt

  begun_on_one : (moment : ℕ) (view : View) (link : LinkId) (wire : Wire) (for : Tag) → One view (begun_on setup plan moment view link wire for)
  begun_on_one moment view link wire for =
      either (One view) (is_some_of wire.unread && not (quits_for for (plan.steps link wire.begun))) (Broke ∷ [])
      (begun_by setup plan moment view link wire.begun for) tt (begun_one moment view link wire.begun for)

  -- As an entry is told.

  begins_holds : (link : LinkId) (for : Tag) (bytes : List ℕ) (wire : Wire) (tale : Tale) → Holds tale → Holds (begins setup plan link for bytes wire tale)
  begins_holds link for bytes wire tale holds =
      one_told (begun_on setup plan tale.moment (view_of setup tale) link wire for) tale.story (begun_on_one tale.moment (view_of setup tale) link wire for) holds

  writes_holds : (link : LinkId) (for : Tag) (bytes : List ℕ) (wire : Wire) (tale : Tale) → Holds tale → Holds (writes setup plan link for bytes wire tale)
  writes_holds link for bytes wire tale holds =
      either Holds (may_begin setup link wire tale) (begins setup plan link for bytes wire tale)
      (with_wire link (record wire { written = wire.written ++ bytes }) tale) (begins_holds link for bytes wire tale holds) holds

  entered_holds : (link : LinkId) (wire : Wire) (at : Opening) (tale : Tale) → Holds tale → Holds (entered_by plan link wire at tale)
  entered_holds link wire (LogsIn said rest) tale holds = (holds, tt)
  entered_holds link wire _ tale holds = holds

  runs_holds : (stage : Stage) (link : LinkId) (tale : Tale) → Holds tale → Holds (runs_first stage link tale)
  runs_holds (Asked question) link tale holds = (holds, tt)
  runs_holds Quiet link tale holds = holds
  runs_holds (Answered question) link tale holds = holds

  heard_holds : (link : LinkId) (question : Question) (wire : Wire) (ending : Ending) (tale : Tale) → Holds tale → Holds (heard_by link question wire ending tale)
  heard_holds link question wire (Ended end rest) tale holds = (holds, tt)
  heard_holds link question wire _ tale holds = holds

  hears_holds : (link : LinkId) (wire : Wire) (stage : Stage) (tale : Tale) → Holds tale → Holds (hears link wire stage tale)
  hears_holds link wire (Answered question) tale holds =
      heard_holds link question wire (read_as (kind_by (command_of question)) wire) tale holds
  hears_holds link wire Quiet tale holds = holds
  hears_holds link wire (Asked question) tale holds = holds

  reset_holds : (link : LinkId) (wire : Wire) (ending : Ending) (tale : Tale) → Holds tale → Holds (reset_by link wire ending tale)
  reset_holds link wire (Ended end rest) tale holds = holds
  reset_holds link wire _ tale holds = holds

  says_holds : (link : LinkId) (bytes : List ℕ) (tale : Tale) → Holds tale → Holds (server_says setup plan link bytes tale)
  says_holds link bytes tale holds =
      let wire : Wire = wire_with tale link bytes in
      let ran : Tale = with_run setup link tale in
      either Holds (not (tale.wires link).entered) (entered_by plan link wire (opening (plan.logins link) wire.unread) tale)
      (if is_reset_step (tale.wires link).step then reset_by link wire (read_as kind.Command wire) tale else reads_on setup link wire tale)
      (entered_holds link wire (opening (plan.logins link) wire.unread) tale holds)
      (either Holds (is_reset_step (tale.wires link).step) (reset_by link wire (read_as kind.Command wire) tale) (reads_on setup link wire tale)
      (reset_holds link wire (read_as kind.Command wire) tale holds)
      (hears_holds link wire (link_in setup ran link).stage ran (runs_holds (link_in setup tale link).stage link tale holds)))

  leaving_holds : (link : LinkId) (xs : List Client) (tale : Tale) → All (λ (x : Client). x.number.0 ≤ n) xs → Holds tale
      → Holds (fold (client_leaves link) tale xs)
  leaving_holds link [] tale few holds = holds
  leaving_holds link (x ∷ xs) tale few holds =
      leaving_holds link xs (client_leaves link tale x) (All-tail (λ (x : Client). x.number.0 ≤ n) x xs few)
      (either Holds (is_link_id x.link link) (tell (Left x.number) tale) tale (holds, All-head (λ (x : Client). x.number.0 ≤ n) x xs few) holds)

  losing_holds : (link : LinkId) (tale : Tale) → All (λ (x : Client). x.number.0 ≤ n) tale.clients → Holds tale → Holds (is_lost_or_left link tale)
  losing_holds link tale few holds =
      either Holds (is_to_server tale link) (tell (Gone link) tale) (fold (client_leaves link) tale tale.clients) (holds, tt)
      (leaving_holds link tale.clients tale few holds)

  runs_or_drops : (a b : Bool) (link : LinkId) (tale : Tale) → Holds tale → Holds (if a then tell (if b then Dropped link else Ran link) tale else tale)
  runs_or_drops true true link tale holds = (holds, tt)
  runs_or_drops true false link tale holds = (holds, tt)
  runs_or_drops false b link tale holds = holds

  told_holds : (tale : Tale) (e : Entry) → All (λ (x : Client). x.number.0 ≤ n) tale.clients → Holds tale → Holds (told setup plan tale e)
  told_holds tale (entry.Got link bytes) few holds =
      either Holds (is_to_server tale link) (server_says setup plan link bytes tale) (record tale { clients = map (client_hears link bytes) tale.clients })
      (says_holds link bytes tale holds) holds
  told_holds tale (entry.Wrote link for bytes) few holds =
      either Holds (is_to_server tale link) (writes setup plan link for bytes (tale.wires link) tale)
      (record tale { clients = map (client_gets link (length bytes)) tale.clients }) (writes_holds link for bytes (tale.wires link) tale holds) holds
  told_holds tale (entry.Exec link) few holds = runs_or_drops (tale.wires link).entered (tale.wires link).quits link tale holds
  told_holds tale (entry.Drop link) few holds = (holds, tt)
  told_holds tale (entry.Ended link) few holds = losing_holds link tale few holds
  told_holds tale (entry.ReadFailed link) few holds = losing_holds link tale few holds
  told_holds tale (entry.WriteFailed link) few holds = losing_holds link tale few holds
  told_holds tale (entry.Closed link) few holds = losing_holds link tale few holds
  told_holds tale _ few holds = holds

  -- Behind that.

  freeing_holds : (xs : List LinkId) (tale : Tale) → Holds tale → Holds (fold (freed_if_done setup plan) tale xs)
  freeing_holds [] tale holds = holds
  freeing_holds (x ∷ xs) tale holds =
      freeing_holds xs (freed_if_done setup plan tale x)
      (either Holds (is_done plan tale.moment (view_of setup tale) (tale.wires x) (link_in setup tale x)) (tell (Freed x) tale) tale (holds, tt) holds)

  ending_holds : (xs : List Client) (tale : Tale) → All (λ (x : Client). x.number.0 ≤ n) xs → Holds tale → Holds (fold (ended_if_now plan) tale xs)
  ending_holds [] tale few holds = holds
  ending_holds (x ∷ xs) tale few holds =
      ending_holds xs (ended_if_now plan tale x) (All-tail (λ (x : Client). x.number.0 ≤ n) x xs few)
      (either Holds (is_now tale.moment (plan.ends x.number)) (tell (Left x.number) tale) tale
      (holds, All-head (λ (x : Client). x.number.0 ≤ n) x xs few) holds)

  due_holds : (client : Client) (i : ℕ) (route : Route) (request : Option Request) (tale : Tale) → route.mirror ≡ None → client.number.0 ≤ n → Holds tale
      → Holds (due_by client i route request tale)
  due_holds client i route None tale lone few holds = (holds, tt)
  due_holds client i route (Some request) tale lone few holds =
      let due : Tale = tell (BecameDue client.number route.hostgroup i request.key request.command route.multiplex) tale in
      subst (λ (o : Option Hostgroup). Holds (copied (name_of client i) request.command o due)) (sym lone) (holds, few)

  taken_holds : (client : Client) (i : ℕ) (message : Framed) (route : Option Route) (tale : Tale) → plan.routes (name_of client i) ≡ route
      → client.number.0 ≤ n → Holds tale → Holds (taken_by setup plan client i message route tale)
  taken_holds client i message None tale is few holds =
      either Holds (nat_eq (slice_index_or message.payload 0 0) com_reset) (tell (Left client.number) tale) tale (holds, few) holds
  taken_holds client i message (Some route) tale is few holds =
      due_holds client i route (requested setup (view_of setup tale) plan client i route message.payload) tale (single (name_of client i) route is) few holds

  next_holds : (client : Client) (found : Option Framed) (tale : Tale) → client.number.0 ≤ n → Holds tale → HoldsIn (next_taken setup plan client found tale)
  next_holds client None tale few holds = tt
  next_holds client (Some message) tale few holds =
      either HoldsIn (is_up setup plan client tale)
      (Some (taken_by setup plan client (suc client.taken) message (plan.routes (name_of client (suc client.taken))) tale)) None
      (taken_holds client (suc client.taken) message (plan.routes (name_of client (suc client.taken))) tale refl few holds) tt

  others_hold : (others : Tale → Tale) (found : Option Tale) (old : Tale) → Holds old → HoldsIn found → ((tale : Tale) → Holds tale → Holds (others tale))
      → Holds (option_map_or others found old)
  others_hold others None old holds in_it keeps = holds
  others_hold others (Some tale) old holds in_it keeps = keeps tale in_it

  up_holds : (most : ℕ) (client : Client) (tale : Tale) → client.number.0 ≤ n → Holds tale → Holds (taken_up most setup plan client tale)
  up_holds zero client tale few holds = holds
  up_holds (suc most) client tale few holds =
      let onward : Client = record client { taken = suc client.taken } in
      others_hold (λ other. taken_up most setup plan onward (with_client onward other))
      (next_taken setup plan client (slice_get (messages plan client) client.taken) tale) tale holds
      (next_holds client (slice_get (messages plan client) client.taken) tale few holds)
      (λ other in_it. up_holds most onward (with_client onward other) few in_it)

  going_holds : (view : View) (e : Entry) (xs : List Client) (tale : Tale) → All (λ (x : Client). x.number.0 ≤ n) xs → Holds tale
      → Holds (fold (client_goes_on setup plan view e) tale xs)
  going_holds view e [] tale few holds = holds
  going_holds view e (x ∷ xs) tale few holds =
      going_holds view e xs (client_goes_on setup plan view e tale x) (All-tail (λ (x : Client). x.number.0 ≤ n) x xs few)
      (either Holds ((is_event_of view x e || gives_up plan tale.moment (name_of x x.taken)) && not (is_before tale.moment (plan.ends x.number)))
      (taken_up (length (messages plan x)) setup plan x tale) tale
      (up_holds (length (messages plan x)) x tale (All-head (λ (x : Client). x.number.0 ≤ n) x xs few) holds) holds)

-- So it is of a log, by how many clients came.

known_more : (setup : Setup) (n m : ℕ) (story : Story) → n ≤ m → AllKnown setup n story → AllKnown setup m story
known_more setup n m [] less known = tt
known_more setup n m (e ∷ past) less known = (known_more setup n m past less known.0, by e known.1) where
  by : (e : Happening) → KnownIn n (view_after setup past) e → KnownIn m (view_after setup past) e
  by (BecameDue client hostgroup ordinal key command multiplex) is = omega (arith, is, less)
  by (Left client) is = omega (arith, is, less)
  by (Mirrored client job) is = absurd is
  by (Sent link question) is = is
  by (LoggedIn link server account) is = tt
  by (Ran link) is = tt
  by (Heard link reply) is = tt
  by (Freed link) is = tt
  by (Unprepared link number) is = tt
  by (Dropped link) is = tt
  by (Gone link) is = tt
  by Broke is = tt

abbrev all_numbers : List Client → List ClientNo
all_numbers xs = map (λ (c : Client). c.number) xs

pub numbers_within : (from : ℕ) (xs : List Client) → AreCounted (suc from) (all_numbers xs) → All (λ (x : Client). x.number.0 ≤ from + length xs) xs
numbers_within from [] are = All-nil (λ (x : Client). x.number.0 ≤ from + 0)
numbers_within from (x ∷ xs) are =
    let first : x.number.0 ≡ suc from = are.0 in
    All-cons (λ (y : Client). y.number.0 ≤ from + length (x ∷ xs)) x xs (omega (arith, first))
    (All-weaker (λ (y : Client). y.number.0 ≤ suc from + length xs) (λ (y : Client). y.number.0 ≤ from + length (x ∷ xs)) (λ y less. omega (arith, less)) xs
    (numbers_within (suc from) xs are.1))

pairs_length : (R : Client → Client → Type 0) (xs ys : List Client) → Pairs R xs ys → length xs ≡ length ys
pairs_length R [] [] pairs = refl
pairs_length R [] (y ∷ ys) pairs = absurd pairs
pairs_length R (x ∷ xs) [] pairs = absurd pairs
pairs_length R (x ∷ xs) (y ∷ ys) pairs = ap suc (pairs_length R xs ys pairs.1)

map_length : (f : Client → Client) (xs : List Client) → length (map f xs) ≡ length xs
map_length f [] = refl
map_length f (x ∷ xs) = ap suc (map_length f xs)

module _ (setup : Setup) (plan : Plan) (single : (m : MessageName) (route : Route) → plan.routes m ≡ Some route → route.mirror ≡ None) where
  step_known : (tale : Tale) (e : Entry) → AreCounted 1 (numbers tale) → AllKnown setup (length tale.clients) tale.story
      → AllKnown setup (length (tale_step setup plan tale e).clients) (tale_step setup plan tale e).story
  step_known tale e are known =
      let heard : Tale = counted (told setup plan tale e) in
      let freed : Tale = links_are_freed setup plan heard in
      let gone : Tale = clients_go_on setup plan (view_of setup tale) e freed in
      let ended : Tale = clients_are_ended plan gone in
      let last : Tale = tale_step setup plan tale e in
      let n : ℕ = length last.clients in
      let same : length heard.clients ≡ n = pairs_length _ heard.clients last.clients (step_later setup plan tale e are) in
      let more : length heard.clients ≡ length tale.clients + length (newcomers setup plan tale e) =
      ap length (told_is setup plan tale e) ∙ length-append (map (by_entry setup plan tale e) tale.clients) (newcomers setup plan tale e)
      ∙ ap (λ (k : ℕ). k + length (newcomers setup plan tale e)) (map_length (by_entry setup plan tale e) tale.clients) in
      let first_few : All (λ (x : Client). x.number.0 ≤ n) tale.clients =
      All-weaker (λ (x : Client). x.number.0 ≤ 0 + length tale.clients) (λ (x : Client). x.number.0 ≤ n) (λ x less. omega (arith, less, same, more)) tale.clients
      (numbers_within 0 tale.clients are) in
      let told_few : All (λ (x : Client). x.number.0 ≤ n) heard.clients =
      All-weaker (λ (x : Client). x.number.0 ≤ 0 + length heard.clients) (λ (x : Client). x.number.0 ≤ n) (λ x less. omega (arith, less, same)) heard.clients
      (numbers_within 0 heard.clients (told_counted setup plan tale e are)) in
      let freed_few : All (λ (x : Client). x.number.0 ≤ n) freed.clients =
      subst (λ (xs : List Client). All (λ (x : Client). x.number.0 ≤ n) xs)
      (sym (kept_in setup plan (λ (t : Tale). t.clients) (λ story t. refl) heard.links heard)) told_few in
      let last_few : All (λ (x : Client). x.number.0 ≤ n) gone.clients =
      subst (λ (xs : List Client). All (λ (x : Client). x.number.0 ≤ n) xs)
      (kept_in setup plan (λ (t : Tale). t.clients) (λ story t. refl) ended.links ended ∙ ends_clients gone.clients gone)
      (All-weaker (λ (x : Client). x.number.0 ≤ 0 + length last.clients) (λ (x : Client). x.number.0 ≤ n) (λ x less. omega (arith, less)) last.clients
      (numbers_within 0 last.clients (step_counted setup plan tale e are))) in
      let known_told : AllKnown setup n heard.story =
      told_holds setup plan single n tale e first_few (known_more setup (length tale.clients) n tale.story (omega (arith, same, more)) known) in
      freeing_holds setup plan single n ended.links ended
      (ending_holds setup plan single n gone.clients gone last_few
      (going_holds setup plan single n (view_of setup tale) e freed.clients freed freed_few (freeing_holds setup plan single n heard.links heard known_told)))
    where
      ends_clients : (xs : List Client) (t : Tale) → (fold (ended_if_now plan) t xs).clients ≡ t.clients
      ends_clients [] t = refl
      ends_clients (x ∷ xs) t = ends_clients xs (ended_if_now plan t x) ∙ either (λ (s : Tale). s.clients ≡ t.clients) (is_now t.moment (plan.ends x.number)) (tell (Left x.number) t) t refl refl

  log_known : (log : Log) (tale : Tale) → AreCounted 1 (numbers tale) → AllKnown setup (length tale.clients) tale.story
      → AllKnown setup (length (fold (tale_step setup plan) tale log).clients) (fold (tale_step setup plan) tale log).story
  log_known [] tale are known = known
  log_known (e ∷ log) tale are known =
      log_known log (tale_step setup plan tale e) (step_counted setup plan tale e are) (step_known tale e are known)

  pub tale_known : (log : Log) → AllKnown setup (length (fold (tale_step setup plan) first_tale log).clients) (fold (tale_step setup plan) first_tale log).story
  tale_known log = log_known log first_tale tt tt
