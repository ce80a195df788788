-- What no log has that keeps the promises.
use Rattle.std.specs.Prelude.{◌≡◌, ◌≢◌, ◌⊎◌, ℕ, ◌+◌, ◌<◌, ◌≤◌, Bool, true, false, not, ◌&&◌, ◌||◌, List, [], ◌∷◌, ◌++◌, All, length, slice_index_or, Option, Some, None, refl}
use Rattle.std.specs.List.{list_any}
use Rattle.std.proofs.Common.{subst, sym, ap, ◌∙◌, append_assoc, append-nil, arith, inl, inr}
use Rattle.std.proofs.lemmas.List.{take-append-le, take_all}
use Rattle.mx_base.specs.declared.names.LinkId.{LinkId}
use Rattle.mx_wire.specs.Log.{Log}
use Rattle.mx_wire.specs.Moments.{AllLawful, AtEachMoment, LawfulAfter}
use Rattle.mx_wire.specs.declared.entry.Entry.{Entry}
use Rattle.mx_wire.specs.declared.entry.Entry.TheVariants as entry
use Rattle.client_session.specs.Errors.{bad_server_bytes, connection_lost, connection_refused}
use Rattle.private_model.specs.Lawful.{IsLawful, IsPlaced, IsSettled, IsStatement, MayCome, MayFree, MayLend, ReadsOwn}
use Rattle.packet_frame.specs.Packets.{spelling}
use Rattle.private_model.specs.Commands.{Command, InitDb, Query, class_of}
use Rattle.private_model.specs.Names.{MessageName, SessionName}
use Rattle.log_story.specs.Honest.{IsFront, number_for}
use Rattle.log_story.specs.Plan.{Asks, Route, StepText, text_payload}
use Rattle.log_story.specs.Servers.{may_begin}
use Rattle.router_promises.specs.Errors.{no_connection, out_of_memory, replay_refused, server_offline}
use Rattle.router_promises.specs.GivenUp.{BadBytes, Cause, LinkLost, NoLink, NoMemory, NoResult, StepRefused, TakenOffline, WaitedTooLong, GivesUpSo, key_tried}
use Rattle.private_model.specs.Story.{Due, Happening, Statement, Story}
use Rattle.private_model.specs.View.{Asked, Carried, Held, Joined, Lent, Link, Nobody, Setup, Stage, View, present, view_after}
use Rattle.session_state.specs.Pins.{is_pinned, reads_own}
use Rattle.session_state.specs.declared.pin.Pin.{Pin}
use Rattle.pin_classifier.specs.declared.class.Class.{Class}
use Rattle.log_story.specs.Tale.{Tale, is_to_server, link_in}
use Rattle.router_promises.specs.Closes.{is_usable, Amiss, Idle, Leaving, HasCause, MakesRoom, MayDrop, MayQuit, Needless, PastReset, Refused, Spoilt, Starved, WasTold}
use Rattle.router_promises.specs.Keys.{LinkKey, key_of, oldest, waiters}
use Rattle.router_promises.specs.Now.{Now, entry_now, held_now, link_now, next, now_at, present_now, takings_now, view_now, wire_now}
use Rattle.router_promises.specs.Routed.{AreSo, IsRoute, IsSo, IsStarved, RoutesBy}
use Rattle.router_promises.specs.Running.{servers_after}
use Rattle.mx_base.specs.declared.tag.Tag.TheVariants as tags
use Rattle.session_state.specs.declared.place.Place.{Place}
use Rattle.session_state.specs.declared.place.Told.{Told}
use Rattle.std.specs.Option.{option_map_or}
use Rattle.std.specs.Prelude.{bytes_eq}
use Rattle.std.proofs.lemmas.Slice.Eq.{bytes_eq-Decides}
use Rattle.router_promises.specs.Dues.{is_due}
use Rattle.router_promises.specs.Steps.{IsStep, MayStepAs, MayStepFor, StepsSo, is_wanted, some_wants, wants_there}
use Rattle.router_promises.specs.Wants.{is_text, leads_to, places_of, wants}
use Rattle.router_promises.specs.Takings.{Taking, message_in}
use Rattle.mx_base.specs.declared.names.ClientNo.{ClientNo}
use Rattle.router_promises.specs.Tags.{BeginsRight, TagsSo, WritesThere, WritesTo}
use Rattle.router_promises.specs.Verdicts.{Goes, Wanted, verdict}
use Rattle.router_promises.specs.Rest.{IsAtRest, RestsBy}
use Rattle.router_promises.specs.Terms.{Terms, plan_in, setup_in, tale_at}
use Rattle.router_promises.specs.Wrong.{Has, HasNoCause, IsWait, Tells}
use Rattle.log_story.specs.Honest.{IsWritten}
use Rattle.log_story.specs.Said.{Begins, IsQuestion, IsSaid, IsSaidBehind, SaysThere}
use Rattle.router_promises.proofs.Saying.{lawful-last, now-tale}

pub never : {A : Type 0} → true ≡ false → A
never is = absurd (cc)

-- an entry of a lawful log kept the rule
lawful-at : (Rule : Log → Entry → Type 0) (before log more : Log) (e : Entry) → LawfulAfter Rule before (log ++ e ∷ more) → Rule (before ++ log) e
lawful-at Rule before [] more e all = subst (λ (l : Log). Rule l e) (sym (append-nil before)) all.0
lawful-at Rule before (x ∷ log) more e all = subst (λ (l : Log). Rule l e) (append_assoc before (x ∷ []) log) (lawful-at Rule (before ++ x ∷ []) log more e all.1)

pub kept-at : (Rule : Log → Entry → Type 0) (before more : Log) (e : Entry) → AllLawful Rule (before ++ e ∷ more) → Rule before e
kept-at Rule before more e all = lawful-at Rule [] before more e all

-- a happening of a lawful story could come
pub came-at : (setup : Setup) (later past : Story) (e : Happening) → IsLawful setup (later ++ e ∷ past) → MayCome setup (view_after setup past) e
came-at setup [] past e lawful = lawful.1
came-at setup (x ∷ later) past e lawful = came-at setup later past e lawful.0

rest-of : (terms : Terms) (log : Log) (now : Now) (e : Entry) → IsWait e → RestsBy terms log now e → IsAtRest terms log now
rest-of terms log now (entry.Woke until_ms now_ms) wait rest = rest.rests
rest-of terms log now entry.WaitFailed wait rest = rest
rest-of terms log now entry.Over wait rest = rest
rest-of terms log now _ wait rest = elim wait [ ]

pub rests-at : (terms : Terms) (before : Log) (e : Entry) → Has terms before e → IsWait e → IsAtRest terms before (now_at terms before)
rests-at terms before e has wait = rest-of terms before (now_at terms before) e wait (kept-at _ before has.more e has.keeps.rests)

pub may-quit : (terms : Terms) (before : Log) (link : LinkId) → HasNoCause terms before (now_at terms before) link → MayQuit terms before (now_at terms before) link → ⊥
may-quit terms before link none (Spoilt is) = never (sym is ∙ none.sound)
may-quit terms before link none (Amiss is) = never (sym is ∙ none.answered)
may-quit terms before link none (Refused is unjoined) = never (sym is ∙ none.obeyed)
may-quit terms before link none (PastReset is) = never (sym is ∙ none.resettable)
may-quit terms before link none (Leaving unlent is) = never (sym is ∙ none.online)
may-quit terms before link none (Idle unlent old) = (let young = none.young in omega (arith, old, young))
may-quit terms before link none (MakesRoom unlent is full) = never (sym is ∙ none.alone)
may-quit terms before link none (Starved is) = never (sym is ∙ none.fed)
may-quit terms before link none (Needless is nobodys needless) = never (sym is ∙ none.quiet)

pub may-drop : (terms : Terms) (before : Log) (link : LinkId) → HasNoCause terms before (now_at terms before) link → (wire_now (now_at terms before) link).quits ≡ false
    → MayDrop terms before (now_at terms before) link → ⊥
may-drop terms before link none untold (WasTold is) = never (sym is ∙ untold)
may-drop terms before link none untold (HasCause why) = may-quit terms before link none why

pub at-index : {A : Type 0} (P : A → Type 0) (xs : List A) (k : ℕ) (x : A) → All P xs → k < length xs → slice_index_or xs k x ≡ x → P x
at-index P xs k x all within is = subst P is (all k x within)

-- at a moment of the log
moment-at : (P : Log → Type 0) (before more : Log) → AtEachMoment P (before ++ more) → P before
moment-at P before more each = subst P (take-append-le (length before) before more (omega arith) ∙ take_all (length before) before (omega arith)) (each (length before))

pub held-at : (P : Log → Type 0) (before more : Log) → AtEachMoment P (before ++ more) → P before
held-at P before more each = moment-at P before more each

-- what is told of a story could come
pub could-come : (terms : Terms) (past : Story) (e : Happening) → Tells terms past e → MayCome (setup_in terms) (view_after (setup_in terms) past) e
could-come terms past e tells =
    came-at (setup_in terms) tells.later past e (subst (IsLawful (setup_in terms)) tells.story (lawful-last terms tells.log tells.keeps.lawful))

-- The code of an error tells its cause; its lower byte is enough.

abbrev code : List ℕ → ℕ
code payload = slice_index_or payload 1 0

cause-late : (terms : Terms) (now later : Now) (e : Entry) (m : MessageName) (route : Route) (payload : List ℕ) → Cause terms now later e m route payload
    → code payload ≡ 142 → (until_ms : ℕ) × (now_ms : ℕ) × (e ≡ entry.Woke until_ms now_ms) × (now.since m + terms.router.proxy.wait_ms ≤ now_ms)
unfolding connection_lost connection_refused bad_server_bytes replay_refused server_offline out_of_memory no_connection
cause-late terms now later e m route _ (LinkLost link is_lost of on) at = absurd (omega (arith, at))
cause-late terms now later e m route _ (WaitedTooLong until_ms now_ms woke waits long) at = (until_ms, now_ms, woke, long)
cause-late terms now later e m route _ (NoLink key tried first) at = absurd (omega (arith, at))
cause-late terms now later e m route _ (StepRefused link answer of read err step) at = absurd (omega (arith, at))
cause-late terms now later e m route _ (TakenOffline link off on) at = absurd (omega (arith, at))
cause-late terms now later e m route _ (BadBytes link place of read on) at = absurd (omega (arith, at))
cause-late terms now later e m route _ (NoResult link answer of read is_a_step amiss on) at = absurd (omega (arith, at))
cause-late terms now later e m route _ (NoMemory ends) at = absurd (omega (arith, at))

pub cause-refused : (terms : Terms) (now later : Now) (e : Entry) (m : MessageName) (route : Route) (payload : List ℕ) → Cause terms now later e m route payload
    → code payload ≡ 143 → (key : LinkKey) × (key_tried terms now e ≡ Some key) × (oldest terms now key ≡ Some m)
unfolding connection_lost connection_refused bad_server_bytes replay_refused server_offline out_of_memory no_connection
cause-refused terms now later e m route _ (LinkLost link is_lost of on) at = absurd (omega (arith, at))
cause-refused terms now later e m route _ (WaitedTooLong until_ms now_ms woke waits long) at = absurd (omega (arith, at))
cause-refused terms now later e m route _ (NoLink key tried first) at = (key, tried, first)
cause-refused terms now later e m route _ (StepRefused link answer of read err step) at = absurd (omega (arith, at))
cause-refused terms now later e m route _ (TakenOffline link off on) at = absurd (omega (arith, at))
cause-refused terms now later e m route _ (BadBytes link place of read on) at = absurd (omega (arith, at))
cause-refused terms now later e m route _ (NoResult link answer of read is_a_step amiss on) at = absurd (omega (arith, at))
cause-refused terms now later e m route _ (NoMemory ends) at = absurd (omega (arith, at))

-- Sends.

pub none-some : {A : Type 0} {x : A} {B : Type 0} → ◌≡◌ {A = Option A} None (Some x) → B
none-some is = absurd (cc)

pub placed : (setup : Setup) (view : View) (n : SessionName) (due : Due) (link : Link) → IsStatement setup view n due link → IsPlaced link.told due.place
placed setup view n due link is = elim is.how [
  | inl begins ↦ begins.begins.placed
  | inr goes_on ↦ goes_on.goes_on.placed
]

same-joined : (a b : SessionName) → ◌≡◌ {A = Carried} (Joined a) (Joined b) → a ≡ b
same-joined a b is = cc

joined-nobody : (a : SessionName) {B : Type 0} → ◌≡◌ {A = Carried} (Joined a) Nobody → B
joined-nobody a is = absurd (cc)

joined-lent : (a b : SessionName) {B : Type 0} → ◌≡◌ {A = Carried} (Joined a) (Lent b) → B
joined-lent a b is = absurd (cc)

lent-to : (setup : Setup) (n other : SessionName) (link : Link) (held : Held) → MayLend n link held → link.carries ≡ Joined other → ⊥
lent-to setup n other link held (inl vacant) carries = joined-nobody other (sym carries ∙ vacant.free)
lent-to setup n other link held (inr lent) carries = joined-lent other n (sym carries ∙ lent)

pub carried-by : (setup : Setup) (view : View) (n : SessionName) (due : Due) (link : Link) (other : SessionName) → IsStatement setup view n due link → link.carries ≡ Joined other → other ≡ n
carried-by setup view n due link other is carries = elim is.how [
  | inl begins ↦ absurd (lent-to setup n other link (view.held n) begins.lends carries)
  | inr goes_on ↦ same-joined other n (sym carries ∙ goes_on.carries)
]

pub account-of : (setup : Setup) (view : View) (n : SessionName) (due : Due) (link : Link) → IsStatement setup view n due link → is_pinned (view.held n).pin ≡ false → link.account ≡ setup.accounts n.client
account-of setup view n due link is unpinned = elim is.how [
  | inl begins ↦ begins.begins.account
  | inr goes_on ↦ never (sym goes_on.goes_on.pinned ∙ unpinned)
]

own-by : (asks pinned own : Bool) → (asks ≡ true → pinned ≡ true) → (asks ≡ true → own ≡ true) → (not asks || (pinned && own)) ≡ true
own-by false pinned own keeps is = refl
own-by true pinned own keeps is = subst (λ b. (b && own) ≡ true) (sym (keeps refl)) (is refl)

both-own : (class : Class) (pin : Pin) → (not class.reads_diag || (is_pinned pin && pin.own_diag)) ≡ true → (not class.reads_found || (is_pinned pin && pin.own_found)) ≡ true → reads_own class pin ≡ true
both-own class pin diag found = subst (λ b. (b && (not class.reads_found || (is_pinned pin && pin.own_found))) ≡ true) (sym diag) found

own-begins : (class : Class) (pin : Pin) → class.reads_diag ≡ false → class.reads_found ≡ false → reads_own class pin ≡ true
own-begins class pin diag found = both-own class pin
    (own-by class.reads_diag (is_pinned pin) pin.own_diag (λ asks. never (sym asks ∙ diag)) (λ asks. never (sym asks ∙ diag)))
    (own-by class.reads_found (is_pinned pin) pin.own_found (λ asks. never (sym asks ∙ found)) (λ asks. never (sym asks ∙ found)))

own-goes : (class : Class) (pin : Pin) → is_pinned pin ≡ true → ReadsOwn class pin → reads_own class pin ≡ true
own-goes class pin pinned reads = both-own class pin (own-by class.reads_diag (is_pinned pin) pin.own_diag (λ asks. pinned) reads.diag)
    (own-by class.reads_found (is_pinned pin) pin.own_found (λ asks. pinned) reads.found)

pub own-read : (setup : Setup) (view : View) (n : SessionName) (due : Due) (link : Link) → IsStatement setup view n due link → reads_own (class_of setup.reads due.command) (view.held n).pin ≡ true
own-read setup view n due link is = elim is.how [
  | inl begins ↦ own-begins (class_of setup.reads due.command) (view.held n).pin begins.begins.blind begins.begins.blind_found
  | inr goes_on ↦ own-goes (class_of setup.reads due.command) (view.held n).pin goes_on.goes_on.pinned goes_on.goes_on.reads
]

pub kept-back : (view : View) (link : Link) (n : SessionName) → MayFree view link → link.carries ≡ Joined n → is_pinned (view.held n).pin ≡ true → n ≡ present view n.client n.hostgroup → ⊥
kept-back view link n free carries pinned here = elim free.carries [
  | inl joined ↦ by (same-joined n free.who (sym carries ∙ joined)) free.settled
  | inr lent ↦ joined-lent n free.who (sym carries ∙ lent)
] where
  by : n ≡ free.who → IsSettled (view.held free.who) ⊎ (free.who ≢ present view free.who.client free.who.hostgroup) → ⊥
  by same (inl settled) = never (sym (subst (λ (m : SessionName). is_pinned (view.held m).pin ≡ true) same pinned) ∙ settled.unpinned)
  by same (inr left) = left (subst (λ (m : SessionName). m ≡ present view m.client m.hostgroup) same here)

-- Bytes.

pub query-front : (terms : Terms) (before : Log) (link : LinkId) (n : SessionName) (due : Due) (text : List ℕ) → ((tale_at terms before).wires link).entered ≡ true → due.command ≡ Query text
    → (link_now (setup_in terms) (now_at terms before) link).stage ≡ Asked (Statement n due) → SaysThere (setup_in terms) (plan_in terms) (tale_at terms before) link
    → IsFront ((tale_at terms before).wires link).written (spelling 0 (text_payload (Query text)))
query-front terms before link n due text entered query at says =
    let tale = tale_at terms before in
    let there = link_in (setup_in terms) tale link in
    let stage : there.stage ≡ Asked (Statement n due) = subst (λ (t : Tale). (link_in (setup_in terms) t link).stage ≡ Asked (Statement n due)) (now-tale terms before) at in
    let said : IsSaidBehind (tale.wires link) there = subst (λ (b : Bool). IsSaid b ((plan_in terms).logins link) (tale.wires link) there) entered says in
    let begun : Begins due.command (number_for (Statement n due) there.live) (tale.wires link).written =
    subst (λ (s : Stage). IsQuestion s there.live (tale.wires link).written) stage said.question in
    let whole : (tale.wires link).written ++ begun.more ≡ spelling 0 (text_payload (Query text)) =
    subst (λ (c : Command). IsWritten c (number_for (Statement n due) there.live) ((tale.wires link).written ++ begun.more)) query begun.all in
    record { rest = begun.more; is = whole }

-- Verdicts.

first-so : (terms : Terms) (now : Now) (e : Entry) (taking : Taking) (takings : List Taking) → RoutesBy terms now e → takings_now terms now e ≡ taking ∷ takings
    → IsSo terms taking (verdict terms (servers_after terms now.clock now.tale e now.servers) (now.flags taking.client.number) taking) ⊎ IsStarved terms taking
first-so terms now e taking takings routes first =
    (subst (λ (ts : List Taking). AreSo terms (servers_after terms now.clock now.tale e now.servers) now.flags ts) first routes).0

pub same-some : {A : Type 0} (a b : A) → ◌≡◌ {A = Option A} (Some a) (Some b) → a ≡ b
same-some a b is = cc

pub routed-so : (terms : Terms) (now : Now) (e : Entry) (taking : Taking) (takings : List Taking) (wanted : Wanted) (route : Route) → RoutesBy terms now e
    → takings_now terms now e ≡ taking ∷ takings → verdict terms (servers_after terms now.clock now.tale e now.servers) (now.flags taking.client.number) taking ≡ Goes wanted
    → (plan_in terms).routes (message_in taking) ≡ Some route → (route.hostgroup ≢ wanted.route.hostgroup) ⊎ (route.text ≢ wanted.route.text) → ⊥
routed-so terms now e taking takings wanted route routes first is goes other = elim (first-so terms now e taking takings routes first) [
  | inl so ↦ by (subst (IsSo terms taking) is so) other
  | inr starved ↦ none-some (sym starved.left.route ∙ goes)
] where
  same : (so : IsRoute terms taking wanted) → route ≡ record wanted.route { key = so.key }
  same so = same-some route (record wanted.route { key = so.key }) (sym goes ∙ so.route)

  by : IsRoute terms taking wanted → (route.hostgroup ≢ wanted.route.hostgroup) ⊎ (route.text ≢ wanted.route.text) → ⊥
  by so (inl group) = group (ap (λ (r : Route). r.hostgroup) (same so))
  by so (inr text) = text (ap (λ (r : Route). r.text) (same so))

pub answered-so : (terms : Terms) (now : Now) (e : Entry) (taking : Taking) (takings : List Taking) (wanted : Wanted) → RoutesBy terms now e
    → takings_now terms now e ≡ taking ∷ takings → verdict terms (servers_after terms now.clock now.tale e now.servers) (now.flags taking.client.number) taking ≡ Goes wanted
    → (plan_in terms).routes (message_in taking) ≡ None → (plan_in terms).ends taking.client.number ≡ None → ⊥
answered-so terms now e taking takings wanted routes first is none stays = elim (first-so terms now e taking takings routes first) [
  | inl so ↦ by (subst (IsSo terms taking) is so)
  | inr starved ↦ none-some (sym stays ∙ starved.left.ends)
] where
  by : IsRoute terms taking wanted → ⊥
  by so = none-some (sym none ∙ so.route)

-- Refusals.

one-payload : (a b : List ℕ) → ◌≡◌ {A = List (List ℕ)} (a ∷ []) (b ∷ []) → a ≡ b
one-payload a b is = cc

pub refused-for : (terms : Terms) (before : Log) (e : Entry) (m : MessageName) → GivesUpSo terms before e
    → (plan_in terms).own m ≡ Some (record { from = entry_now (now_at terms before); payloads = connection_refused ∷ [] })
    → (key : LinkKey) × (key_tried terms (now_at terms before) e ≡ Some key) × (oldest terms (now_at terms before) key ≡ Some m)
unfolding connection_refused
refused-for terms before e m gives own =
    let up = gives.each m (record { from = entry_now (now_at terms before); payloads = connection_refused ∷ [] }) own refl in
    cause-refused terms (now_at terms before) (next terms (now_at terms before) e) e m up.route up.payload up.why
    (ap (λ (p : List ℕ). slice_index_or p 1 0) (one-payload up.payload connection_refused (sym up.one)))

pub refused-one : (terms : Terms) (before : Log) (e : Entry) (m other : MessageName) → GivesUpSo terms before e
    → (plan_in terms).own m ≡ Some (record { from = entry_now (now_at terms before); payloads = connection_refused ∷ [] })
    → (plan_in terms).own other ≡ Some (record { from = entry_now (now_at terms before); payloads = connection_refused ∷ [] })
    → m ≡ other
refused-one terms before e m other gives one two =
    let first = refused-for terms before e m gives one in
    let second = refused-for terms before e other gives two in
    let key : first.0 ≡ second.0 = same-some first.0 second.0 (sym first.1 ∙ second.1) in
    same-some m other (sym first.2 ∙ ap (oldest terms (now_at terms before)) key ∙ second.2)

same-woke : (a b c d : ℕ) → ◌≡◌ {A = Entry} (entry.Woke a b) (entry.Woke c d) → b ≡ d
same-woke a b c d is = cc

pub refused-late : (terms : Terms) (before : Log) (until_ms now_ms since : ℕ) (m : MessageName) → GivesUpSo terms before (entry.Woke until_ms now_ms)
    → (plan_in terms).own m ≡ Some (record { from = entry_now (now_at terms before); payloads = no_connection since now_ms ∷ [] })
    → now_ms < (now_at terms before).since m + terms.router.proxy.wait_ms → ⊥
unfolding no_connection
refused-late terms before until_ms now_ms since m gives own soon =
    let up = gives.each m (record { from = entry_now (now_at terms before); payloads = no_connection since now_ms ∷ [] }) own refl in
    let late = cause-late terms (now_at terms before) (next terms (now_at terms before) (entry.Woke until_ms now_ms)) (entry.Woke until_ms now_ms) m up.route up.payload up.why
    (ap (λ (p : List ℕ). slice_index_or p 1 0) (one-payload up.payload (no_connection since now_ms) (sym up.one))) in
    let same : now_ms ≡ late.1 = same-woke until_ms now_ms late.0 late.1 late.2 in
    let long = late.3 in
    omega (arith, soon, same, long)

-- Steps.

pub neither : (a b : Bool) → a ≡ false → b ≡ false → (a || b) ≡ true → ⊥
neither false false x y is = never (sym is)
neither true b x y is = never x
neither false true x y is = never y

any-none : {A : Type 0} (f : A → Bool) (xs : List A) → ((x : A) → f x ≡ false) → list_any f xs ≡ false
any-none f [] none = refl
any-none f (x ∷ xs) none = rw (none x) (any-none f xs none)

and-none : (a b : Bool) → b ≡ false → (a && b) ≡ false
and-none false b none = refl
and-none true b none = none

-- a step to this schema leads from what a link was told to no place
abbrev LeadsNowhere : (schema : List ℕ) → Told → Type 0
LeadsNowhere schema told = (place : Place) → leads_to (InitDb schema) told place ≡ false

told-already : (told : Told) (schema : List ℕ) → told.schema ≡ Some schema → LeadsNowhere schema told
told-already told schema is place =
    let same : is_text schema told.schema ≡ true = ap (is_text schema) is ∙ (bytes_eq-Decides schema schema).1 refl in
    and-none (bytes_eq schema place.schema) _ (and-none (not (bytes_eq schema [])) (not (is_text schema told.schema)) (ap not same))

no-schema : (told : Told) → LeadsNowhere [] told
no-schema told place = and-none (bytes_eq [] place.schema) _ refl

not-wanted : (setup : Setup) (link : Link) (held : Held) (schema : List ℕ) (due : Due) → LeadsNowhere schema link.told → wants setup link held due (InitDb schema) ≡ false
not-wanted setup link held schema due nowhere = rw (any-none (leads_to (InitDb schema) link.told) (places_of setup link due) nowhere) refl

none-wants : (setup : Setup) (link : Link) (held : Held) (schema : List ℕ) (due : Option Due) → LeadsNowhere schema link.told → option_map_or (λ (d : Due). wants setup link held d (InitDb schema)) due false ≡ false
none-wants setup link held schema None nowhere = refl
none-wants setup link held schema (Some due) nowhere = not-wanted setup link held schema due nowhere

not-there : (terms : Terms) (now : Now) (link : LinkId) (n : SessionName) (schema : List ℕ) → LeadsNowhere schema (link_now (setup_in terms) now link).told → wants_there terms now link n (InitDb schema) ≡ false
not-there terms now link n schema nowhere =
    and-none (is_due terms now.tale n) _ (none-wants (setup_in terms) (link_now (setup_in terms) now link) (held_now (setup_in terms) now n) schema ((view_now (setup_in terms) now).dues n) nowhere)

not-some : (terms : Terms) (now : Now) (link : LinkId) (schema : List ℕ) (key : Option LinkKey) → LeadsNowhere schema (link_now (setup_in terms) now link).told → some_wants terms now link (InitDb schema) key ≡ false
not-some terms now link schema None nowhere = refl
not-some terms now link schema (Some key) nowhere = any-none _ (waiters terms now key) (λ m. not-there terms now link (present_now (setup_in terms) now m.client key.hostgroup) schema nowhere)

not-by : (terms : Terms) (now : Now) (link : LinkId) (schema : List ℕ) (carried : Carried) → LeadsNowhere schema (link_now (setup_in terms) now link).told → is_wanted terms now link (InitDb schema) carried ≡ false
not-by terms now link schema Nobody nowhere = not-some terms now link schema (key_of terms now link) nowhere
not-by terms now link schema (Lent n) nowhere = not-there terms now link n schema nowhere
not-by terms now link schema (Joined n) nowhere = not-there terms now link n schema nowhere

schema-by : (terms : Terms) (before : Log) (link : LinkId) (schema bytes : List ℕ) → StepsSo terms before (entry.Wrote link tags.Own bytes) → is_to_server (now_at terms before).tale link ≡ true
    → may_begin (setup_in terms) link (wire_now (now_at terms before) link) (now_at terms before).tale ≡ true
    → (plan_in terms).steps link (wire_now (now_at terms before) link).begun ≡ Asks (InitDb schema)
    → LeadsNowhere schema (link_now (setup_in terms) (now_at terms before) link).told → ⊥
schema-by terms before link schema bytes steps there begins is nowhere =
    let now = now_at terms before in
    let may : MayStepAs terms before now link tags.Own true = subst (λ (b : Bool). MayStepAs terms before now link tags.Own b) begins (steps there) in
    let step : IsStep terms now link (InitDb schema) = subst (λ (s : StepText). MayStepFor terms before now link s tags.Own) is may in
    never (sym step.wanted ∙ not-by terms now link schema (link_now (setup_in terms) now link).carries nowhere)

pub schema-told : (terms : Terms) (before : Log) (link : LinkId) (schema bytes : List ℕ) → StepsSo terms before (entry.Wrote link tags.Own bytes) → is_to_server (now_at terms before).tale link ≡ true
    → may_begin (setup_in terms) link (wire_now (now_at terms before) link) (now_at terms before).tale ≡ true
    → (plan_in terms).steps link (wire_now (now_at terms before) link).begun ≡ Asks (InitDb schema)
    → (link_now (setup_in terms) (now_at terms before) link).told.schema ≡ Some schema → ⊥
schema-told terms before link schema bytes steps there begins is told =
    schema-by terms before link schema bytes steps there begins is (told-already (link_now (setup_in terms) (now_at terms before) link).told schema told)

pub schema-none : (terms : Terms) (before : Log) (link : LinkId) (bytes : List ℕ) → StepsSo terms before (entry.Wrote link tags.Own bytes) → is_to_server (now_at terms before).tale link ≡ true
    → may_begin (setup_in terms) link (wire_now (now_at terms before) link) (now_at terms before).tale ≡ true
    → (plan_in terms).steps link (wire_now (now_at terms before) link).begun ≡ Asks (InitDb []) → ⊥
schema-none terms before link bytes steps there begins is =
    schema-by terms before link [] bytes steps there begins is (no-schema (link_now (setup_in terms) (now_at terms before) link).told)

pub refused-sent : (terms : Terms) (before : Log) (link : LinkId) (client : ClientNo) (ordinal : ℕ) (bytes : List ℕ) (route : Route) → StepsSo terms before (entry.Wrote link (tags.For client ordinal) bytes)
    → is_to_server (now_at terms before).tale link ≡ true → may_begin (setup_in terms) link (wire_now (now_at terms before) link) (now_at terms before).tale ≡ true
    → (plan_in terms).routes (record { client = client; ordinal = ordinal }) ≡ Some route
    → is_due terms (now_at terms before).tale (present_now (setup_in terms) (now_at terms before) client route.hostgroup) ≡ false → ⊥
refused-sent terms before link client ordinal bytes route steps there begins goes given_up =
    let now = now_at terms before in
    let may : MayStepAs terms before now link (tags.For client ordinal) true = subst (λ (b : Bool). MayStepAs terms before now link (tags.For client ordinal) b) begins (steps there) in
    let due : option_map_or (λ (r : Route). is_due terms now.tale (present_now (setup_in terms) now client r.hostgroup)) (Some route) false ≡ true =
    subst (λ (o : Option Route). option_map_or (λ (r : Route). is_due terms now.tale (present_now (setup_in terms) now client r.hostgroup)) o false ≡ true) goes may in
    never (sym due ∙ given_up)

pub spoilt-used : (terms : Terms) (before : Log) (link : LinkId) (client : ClientNo) (ordinal : ℕ) (bytes : List ℕ) → TagsSo terms before (entry.Wrote link (tags.For client ordinal) bytes)
    → is_to_server (now_at terms before).tale link ≡ true → may_begin (setup_in terms) link (wire_now (now_at terms before) link) (now_at terms before).tale ≡ true
    → is_usable terms before (now_at terms before) link ≡ false → ⊥
spoilt-used terms before link client ordinal bytes tagged there begins spoilt =
    let now = now_at terms before in
    let later = next terms now (entry.Wrote link (tags.For client ordinal) bytes) in
    let to : WritesTo terms before now link (tags.For client ordinal) true later = subst (λ (b : Bool). WritesTo terms before now link (tags.For client ordinal) b later) there tagged in
    let right : BeginsRight terms before now link (tags.For client ordinal) later =
    subst (λ (b : Bool). WritesThere terms before now link (tags.For client ordinal) b (wire_now now link).entered later) begins to in
    never (sym (right.sound refl) ∙ spoilt)
