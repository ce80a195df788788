-- What the tests of what the router decides show.
use Rattle.std.specs.Prelude.{◌≡◌, ◌⊎◌, ℕ, ◌+◌, ◌≤◌, ◌<◌, Bool, true, false, not, ◌&&◌, ◌||◌, bytes_eq, nat_eq, slice_index_or, if◌then◌else◌, List, [], ◌∷◌, ◌++◌, Option, Some, None, refl}
use Rattle.std.specs.List.{list_all, list_any}
use Rattle.std.specs.Option.{option_map_or}
use Rattle.std.proofs.Common.{ap, arith, inl, inr, subst, sym, ◌∙◌}
use Rattle.std.proofs.lemmas.Bool.{and_from, and_parts, or_cases, or_left}
use Rattle.client_session.specs.Errors.{connection_lost, connection_refused}
use Rattle.hostgroups.specs.declared.server.Server.{Server}
use Rattle.mx_base.specs.declared.names.Address.{Address}
use Rattle.mx_base.specs.declared.names.LinkId.{LinkId}
use Rattle.mx_base.specs.declared.names.ServerId.{ServerId}
use Rattle.mx_base.specs.declared.tag.Tag.{Tag}
use Rattle.mx_base.specs.declared.tag.Tag.TheVariants as tags
use Rattle.mx_wire.specs.Log.{Log, link_of}
use Rattle.mx_wire.specs.declared.entry.Entry.{Entry}
use Rattle.mx_wire.specs.declared.entry.Entry.TheVariants as entry
use Rattle.private_model.proofs.Maps.{link_of as link_is, message_is, name_of as name_is, number_of}
use Rattle.private_model.specs.Commands.{Command, FieldList, InitDb, Prepare, Query, Quit, ReadId, Reset, Run, SetId}
use Rattle.private_model.specs.Names.{ClientNo, MessageName}
use Rattle.private_model.specs.Story.{Capture, End, Key, Own, Prep, Question, Statement, Sync, is_link_id, is_message}
use Rattle.private_model.specs.View.{Carried, Joined, Lent, Nobody}
use Rattle.log_story.specs.Plan.{Alone, Asks, Behind, Closes, ForLogin, LastWord, OwnAnswer, Resets, Route, StepText, WordPlace, is_now}
use Rattle.log_story.specs.Servers.{may_begin}
use Rattle.log_story.specs.Tale.{Client}
use Rattle.router_promises.specs.Closes.{Amiss, ClosesBy, HasCause, Idle, IsNeedless, Leaving, MakesRoom, MayDrop, MayQuit, Needless, PastReset, Refused, Spoilt, Starved, WasTold}
use Rattle.router_promises.specs.Ends.{AllWritten, Broken, EndsBy, EndsRight, IsLastWord, MayPart, NoMemory, NotServed, PartsBy, PartsRight, TimeIsOver, TooMuch, TurnedAway, Unheard, WordFor, WordRight, buffers_word, is_alone, is_at, is_too_much}
use Rattle.router_promises.specs.Errors.{out_of_memory, replay_refused, server_offline}
use Rattle.router_promises.specs.GivenUp.{Cause, BadBytes, GivesUp, IsOnLink, IsStepFor, LinkLost, NoLink, NoResult, StepRefused, TakenOffline, WaitedTooLong, key_tried}
use Rattle.router_promises.specs.GivenUp as given
use Rattle.router_promises.specs.Heard.{Bad, Part, Reading, Whole, reading_of}
use Rattle.router_promises.specs.Keys.{LinkKey, key_of}
use Rattle.router_promises.specs.Now.{Now, entry_now, flag_taken, link_now, next, takings_now, while_ending, wire_now}
use Rattle.router_promises.specs.Opens.{MayOpen, OpensBy}
use Rattle.router_promises.specs.Routed.{AreSo, IsKeyed, IsRoute, IsSo, IsTold, RoutesBy}
use Rattle.router_promises.specs.Running.{hostgroup_of, servers_after}
use Rattle.router_promises.specs.Steps.{IsClose, IsInSeries, IsStep, MayStep, MayStepAs, MayStepFor, StepsBy, live_keys}
use Rattle.router_promises.specs.Takings.{Taking, message_in}
use Rattle.router_promises.specs.Terms.{Terms, Tried, login_as, plan_in, setup_in}
use Rattle.router_promises.specs.Uses.{StepKind, kind_of_step}
use Rattle.router_promises.specs.Verdicts.{Goes, Parts, Tells, Verdict, Wanted, verdict}
use Rattle.promise_tests.specs.Same.{are_each, is_address}
use Rattle.promise_tests.specs.Judging.{Given, are_ended, are_so, closes_right, ends_here, ends_right, goes_so, has_cause, has_no_link, is_answer, is_close_of, is_given, is_given_by, is_in_series}
use Rattle.promise_tests.specs.Judging.{is_keyed, is_last_word, is_right_step, is_late, is_lost_so, is_needless, is_offline, is_on_link, is_read_so, is_replay, is_routed, is_single, is_so, is_step_for, is_word_for}
use Rattle.promise_tests.specs.Judging.{may_drop, may_open, may_part, may_quit, may_step, may_step_for, opens_right, own_by, parts, parts_right, steps_right, word_right}
use Rattle.promise_tests.proofs.Same.{all-so, any-so, implied, isnt, none-so, not-so, same-address, same-bytes, same-each, same-key, same-option, same-route}
use Rattle.promise_tests.proofs.Telling.{le-so, lt-so}
use Rattle.router_promises.specs.Due.{turned_away}
use Rattle.router_promises.proofs.Refusals.{never}

-- What an option has that passes a test.
some-so : {A : Type 0} (test : A → Bool) (o : Option A) → option_map_or test o false ≡ true → (a : A) × (o ≡ Some a) × (test a ≡ true)
some-so test None is = isnt is
some-so test (Some a) is = (a, refl, is)

now-so : (moment : ℕ) (at : Option ℕ) → is_now moment at ≡ true → at ≡ Some moment
now-so moment None is = isnt is
now-so moment (Some n) is = ap (λ k. Some k) (number_of n moment is)

-- Where messages go.

keyed-so : (terms : Terms) (key : ℕ) (wanted : Option Key) → is_keyed terms key wanted ≡ true → IsKeyed terms key wanted
keyed-so terms key None is = tt
keyed-so terms key (Some wanted) is = same-key (terms.decided.keys key) wanted is

goes-by : (terms : Terms) (taking : Taking) (wanted : Wanted) (route : Option Route) → (plan_in terms).routes (message_in taking) ≡ route
    → goes_so terms taking wanted route ≡ true → IsRoute terms taking wanted
goes-by terms taking wanted None goes is = isnt is
goes-by terms taking wanted (Some route) goes is =
    let parts = and_parts _ _ is in
    let more = and_parts _ _ parts.1 in
    record {
      key = route.key;
      route = goes ∙ ap (λ r. Some r) (same-route route wanted.route parts.0);
      keyed = keyed-so terms route.key wanted.key more.0;
      unanswered = none-so _ more.1;
    }

answer-by : (a b : OwnAnswer) → a.from ≡ b.from → a.payloads ≡ b.payloads → a ≡ b
answer-by a b x y = λ i. record { from = x i; payloads = y i }

told-so : (terms : Terms) (taking : Taking) (payloads : List (List ℕ)) → is_so terms taking (Tells payloads) ≡ true → IsTold terms taking payloads
told-so terms taking payloads is =
    let parts = and_parts _ _ is in
    let own = some-so (is_answer 0 payloads) ((plan_in terms).own (message_in taking)) parts.1 in
    let same = and_parts _ _ own.2 in
    record {
      route = none-so _ parts.0;
      own = own.1 ∙ ap (λ a. Some a) (answer-by own.0 (record { from = 0; payloads = payloads }) (number_of own.0.from 0 same.0) (same-each bytes_eq same-bytes own.0.payloads payloads same.1));
    }

so-so : (terms : Terms) (taking : Taking) (verdict : Verdict) → is_so terms taking verdict ≡ true → IsSo terms taking verdict
so-so terms taking Parts is =
    let parts = and_parts _ _ is in
    let more = and_parts _ _ parts.1 in
    record { route = none-so _ parts.0; unanswered = none-so _ more.0; ends = now-so taking.tale.moment _ more.1 }
so-so terms taking (Tells payloads) is = told-so terms taking payloads is
so-so terms taking (Goes wanted) is = goes-by terms taking wanted _ refl is

are-so : (terms : Terms) (servers : List Server) (flags : ClientNo → ℕ) (takings : List Taking) → are_so terms servers flags takings ≡ true → AreSo terms servers flags takings
are-so terms servers flags [] is = tt
are-so terms servers flags (taking ∷ takings) is =
    let parts = and_parts _ _ is in
    (inl (so-so terms taking (verdict terms servers (flags taking.client.number) taking) parts.0), are-so terms servers (flag_taken terms flags taking) takings parts.1)

pub routed-so : (terms : Terms) (now : Now) (e : Entry) → is_routed terms now e ≡ true → RoutesBy terms now e
routed-so terms now e is = are-so terms (servers_after terms now.clock now.tale e now.servers) now.flags (takings_now terms now e) is

-- Closes.

needless-so : (terms : Terms) (log : Log) (now : Now) (link : LinkId) (key : Option LinkKey) → is_needless terms log now link key ≡ true → IsNeedless terms log now link key
needless-so terms log now link None is = tt
needless-so terms log now link (Some key) is = le-so _ _ is

quit-so : (terms : Terms) (log : Log) (now : Now) (link : LinkId) → may_quit terms log now link ≡ true → MayQuit terms log now link
quit-so terms log now link is = elim (or_cases _ _ is) [
  | inl spoilt ↦ Spoilt spoilt
  | inr a ↦ elim (or_cases _ _ a) [
    | inl amiss ↦ Amiss amiss
    | inr b ↦ elim (or_cases _ _ b) [
      | inl refused ↦ (let parts = and_parts _ _ refused in Refused parts.0 (not-so _ parts.1))
      | inr c ↦ elim (or_cases _ _ c) [
        | inl past ↦ PastReset past
        | inr d ↦ elim (or_cases _ _ d) [
          | inl leaving ↦ (let parts = and_parts _ _ leaving in Leaving parts.0 parts.1)
          | inr e ↦ elim (or_cases _ _ e) [
            | inl idle ↦ (let parts = and_parts _ _ idle in Idle parts.0 (le-so _ _ parts.1))
            | inr f ↦ elim (or_cases _ _ f) [
              | inl room ↦ (let parts = and_parts _ _ room in let more = and_parts _ _ parts.1 in MakesRoom parts.0 more.0 more.1)
              | inr g ↦ elim (or_cases _ _ g) [
                | inl starved ↦ Starved starved
                | inr h ↦ (let parts = and_parts _ _ h in let more = and_parts _ _ parts.1 in
                    Needless parts.0 more.0 (needless-so terms log now link (key_of terms now link) more.1))
              ]
            ]
          ]
        ]
      ]
    ]
  ]
]

drop-so : (terms : Terms) (log : Log) (now : Now) (link : LinkId) → may_drop terms log now link ≡ true → MayDrop terms log now link
drop-so terms log now link is = elim (or_cases _ _ is) [
  | inl told ↦ WasTold told
  | inr why ↦ HasCause (quit-so terms log now link why)
]

pub closes-so : (terms : Terms) (log : Log) (now : Now) (e : Entry) → closes_right terms log now e ≡ true → ClosesBy terms log now e
closes-so terms log now (entry.Closed link) is = λ there. drop-so terms log now link (implied _ _ is there)
closes-so terms log now _ is = tt

-- Steps.

series-so : (terms : Terms) (now : Now) (link : LinkId) (kind : Option StepKind) → is_in_series terms now link kind ≡ true → IsInSeries terms now link kind
series-so terms now link None is = isnt is
series-so terms now link (Some kind) is = le-so _ _ is

step-so : (terms : Terms) (now : Now) (link : LinkId) (command : Command) → is_right_step terms now link command ≡ true → IsStep terms now link command
step-so terms now link command is = (let parts = and_parts _ _ is in record { wanted = parts.0; series = series-so terms now link (kind_of_step command) parts.1 })

close-so : (terms : Terms) (now : Now) (link : LinkId) (number : ℕ) → list_any (is_close_of terms now link number) (live_keys (setup_in terms) now link) ≡ true → IsClose terms now link number
close-so terms now link number is =
    let key = any-so (is_close_of terms now link number) (live_keys (setup_in terms) now link) is in
    let parts = and_parts _ _ key.1 in
    record { key = key.0; live = same-option nat_eq number_of _ (Some number) parts.0; needed = parts.1 }

may-so : (terms : Terms) (log : Log) (now : Now) (link : LinkId) (step : StepText) → may_step terms log now link step ≡ true → MayStep terms log now link step
may-so terms log now link (Asks Quit) is = quit-so terms log now link is
may-so terms log now link (Asks (Query text)) is = step-so terms now link (Query text) is
may-so terms log now link (Asks (InitDb schema)) is = step-so terms now link (InitDb schema) is
may-so terms log now link (Asks (FieldList rest)) is = step-so terms now link (FieldList rest) is
may-so terms log now link (Asks (SetId n)) is = step-so terms now link (SetId n) is
may-so terms log now link (Asks ReadId) is = step-so terms now link ReadId is
may-so terms log now link (Asks (Prepare text)) is = step-so terms now link (Prepare text) is
may-so terms log now link (Asks (Run text schema settings args)) is = step-so terms now link (Run text schema settings args) is
may-so terms log now link (Asks Reset) is = step-so terms now link Reset is
may-so terms log now link (Closes number) is = close-so terms now link number is
may-so terms log now link (Resets number) is = is

for-so : (terms : Terms) (log : Log) (now : Now) (link : LinkId) (step : StepText) (tag : Tag) → may_step_for terms log now link step tag ≡ true → MayStepFor terms log now link step tag
for-so terms log now link step tags.Own is = may-so terms log now link step is
for-so terms log now link step (tags.Sync client hostgroup) is = may-so terms log now link step is
for-so terms log now link step (tags.For client ordinal) is = is
for-so terms log now link step (tags.Prep client ordinal) is = is
for-so terms log now link step (tags.End client hostgroup) is = not-so _ is
for-so terms log now link step (tags.Mirror client ordinal) is = tt
for-so terms log now link step tags.Reply is = tt

as-so : (terms : Terms) (log : Log) (now : Now) (link : LinkId) (tag : Tag) (begins : Bool)
    → (not begins || may_step_for terms log now link ((plan_in terms).steps link (wire_now now link).begun) tag) ≡ true → MayStepAs terms log now link tag begins
as-so terms log now link tag true is = for-so terms log now link ((plan_in terms).steps link (wire_now now link).begun) tag is
as-so terms log now link tag false is = tt

pub steps-so : (terms : Terms) (log : Log) (now : Now) (e : Entry) → steps_right terms log now e ≡ true → StepsBy terms log now e
steps-so terms log now (entry.Wrote link tag bytes) is =
    λ there. as-so terms log now link tag (may_begin (setup_in terms) link (wire_now now link) now.tale) (implied _ _ is there)
steps-so terms log now _ is = tt

-- Opens.

open-so : (terms : Terms) (log : Log) (now : Now) (server : ServerId) (address : Address) (tried : Tried) → may_open terms log now server address tried ≡ true → MayOpen terms log now server address tried
open-so terms log now server address tried is =
    let group = some-so _ (hostgroup_of terms.router server) is in
    let there = and_parts _ _ group.2 in
    let room = and_parts _ _ there.1 in
    let known = and_parts _ _ room.1 in
    record {
      key = record { hostgroup = group.0; account = login_as tried.login; bare = tried.bare };
      group = group.1;
      account = refl;
      bare = refl;
      there = same-option is_address same-address _ (Some address) there.0;
      room = room.0;
      known = known.0;
      wanted = lt-so _ _ known.1;
    }

pub opens-so : (terms : Terms) (log : Log) (now : Now) (e : Entry) → opens_right terms log now e ≡ true → OpensBy terms log now e
opens-so terms log now (entry.Opened server address link) is = open-so terms log now server address _ is
opens-so terms log now (entry.OpenFailed server address) is = open-so terms log now server address _ is
opens-so terms log now _ is = tt

-- Statements that are given up.

on-link : (terms : Terms) (now : Now) (m : MessageName) (route : Route) (link : LinkId) → is_on_link terms now m route link ≡ true → IsOnLink terms now m route link
on-link terms now m route link is = (let parts = and_parts _ _ is in record { home = same-option is_link_id link_is _ (Some link) parts.0; unpinned = not-so _ parts.1 })

step-for : (terms : Terms) (now : Now) (m : MessageName) (route : Route) (link : LinkId) (question : Question) (carried : Carried)
    → is_step_for terms now m route link question carried ≡ true → IsStepFor terms now m route link question carried
step-for terms now m route link (Own command) Nobody is = is
step-for terms now m route link (Own command) (Lent n) is = same-option is_link_id link_is _ (Some link) is
step-for terms now m route link (Own command) (Joined n) is = same-option is_link_id link_is _ (Some link) is
step-for terms now m route link (Prep n key text) carried is = name_is n _ is
step-for terms now m route link (Sync n command) carried is = name_is n _ is
step-for terms now m route link (Statement n due) carried is = isnt is
step-for terms now m route link (End n) carried is = isnt is
step-for terms now m route link (Capture n) carried is = isnt is

-- the payload is that of the cause
as-caused : (terms : Terms) (now later : Now) (e : Entry) (m : MessageName) (route : Route) (payload other : List ℕ) → bytes_eq payload other ≡ true → Cause terms now later e m route other → Cause terms now later e m route payload
as-caused terms now later e m route payload other is cause = subst (λ (p : List ℕ). Cause terms now later e m route p) (sym (same-bytes payload other is)) cause

late-so : (terms : Terms) (now later : Now) (e : Entry) (m : MessageName) (route : Route) (payload : List ℕ) → is_late terms now m route payload e ≡ true → Cause terms now later e m route payload
late-so terms now later (entry.Woke until_ms now_ms) m route payload is =
    let parts = and_parts _ _ is in
    let more = and_parts _ _ parts.1 in
    as-caused terms now later (entry.Woke until_ms now_ms) m route payload _ more.1 (WaitedTooLong until_ms now_ms refl parts.0 (le-so _ _ more.0))
late-so terms now later _ m route payload is = isnt is

no-link : (terms : Terms) (now later : Now) (e : Entry) (m : MessageName) (route : Route) (payload : List ℕ) → has_no_link terms now e m payload ≡ true → Cause terms now later e m route payload
no-link terms now later e m route payload is =
    let parts = and_parts _ _ is in
    let key = some-so _ (key_tried terms now e) parts.0 in
    as-caused terms now later e m route payload connection_refused parts.1 (NoLink key.0 key.1 (same-option is_message message_is _ (Some m) key.2))

read-so : (terms : Terms) (now later : Now) (e : Entry) (m : MessageName) (route : Route) (payload : List ℕ) (link : LinkId) → link_of e ≡ Some link
    → (reading : Reading) → reading_of (setup_in terms) now e ≡ reading → is_read_so terms now m route payload link reading ≡ true → Cause terms now later e m route payload
read-so terms now later e m route payload link at Part reads is = isnt is
read-so terms now later e m route payload link at (Whole answer) reads is = elim (or_cases _ _ is) [
  | inl refused ↦ (let parts = and_parts _ _ refused in let more = and_parts _ _ parts.1 in
      as-caused terms now later e m route payload _ more.1
      (StepRefused link answer at reads parts.0 (step-for terms now m route link answer.question (link_now (setup_in terms) now link).carries more.0)))
  | inr amiss ↦ (let parts = and_parts _ _ amiss in let more = and_parts _ _ parts.1 in let last = and_parts _ _ more.1 in
      as-caused terms now later e m route payload _ last.1 (NoResult link answer at reads parts.0 more.0 (on-link terms now m route link last.0)))
]
read-so terms now later e m route payload link at (Bad place) reads is =
    let parts = and_parts _ _ is in
    as-caused terms now later e m route payload _ parts.1 (BadBytes link place at reads (on-link terms now m route link parts.0))

lost-so : (terms : Terms) (now later : Now) (e : Entry) (m : MessageName) (route : Route) (payload : List ℕ) (link : LinkId) → link_of e ≡ Some link
    → is_lost_so terms now later e m route payload link ≡ true → Cause terms now later e m route payload
lost-so terms now later e m route payload link at is = elim (or_cases _ _ is) [
  | inl lost ↦ (let parts = and_parts _ _ lost in let more = and_parts _ _ parts.1 in
      as-caused terms now later e m route payload connection_lost more.1 (LinkLost link parts.0 at (on-link terms now m route link more.0)))
  | inr read ↦ read-so terms now later e m route payload link at (reading_of (setup_in terms) now e) refl read
]

pub cause-so : (terms : Terms) (now later : Now) (e : Entry) (m : MessageName) (route : Route) (payload : List ℕ) → has_cause terms now later e m route payload ≡ true → Cause terms now later e m route payload
cause-so terms now later e m route payload is = elim (or_cases _ _ is) [
  | inl late ↦ late-so terms now later e m route payload late
  | inr a ↦ elim (or_cases _ _ a) [
    | inl none ↦ no-link terms now later e m route payload none
    | inr b ↦ elim (or_cases _ _ b) [
      | inl lost ↦ (let at = some-so (is_lost_so terms now later e m route payload) (link_of e) lost in lost-so terms now later e m route payload at.0 at.1 at.2)
      | inr c ↦ elim (or_cases _ _ c) [
        | inl off ↦ (let at = any-so (is_offline terms now later m route payload) now.tale.links off in let parts = and_parts _ _ at.1 in let more = and_parts _ _ parts.1 in
            as-caused terms now later e m route payload server_offline more.1 (TakenOffline at.0 parts.0 (on-link terms now m route at.0 more.0)))
        | inr starved ↦ (let parts = and_parts _ _ starved in
            as-caused terms now later e m route payload out_of_memory parts.1 (given.NoMemory (now-so (entry_now now) _ parts.0)))
      ]
    ]
  ]
]

given-by : (terms : Terms) (now later : Now) (e : Entry) (m : MessageName) (payloads : List (List ℕ)) (route : Route) → (plan_in terms).routes m ≡ Some route
    → is_given_by terms now later e m payloads route ≡ true → GivesUp terms now later e m payloads
given-by terms now later e m [] route goes is = isnt is
given-by terms now later e m (payload ∷ []) route goes is =
    let parts = and_parts _ _ is in
    record { route = route; goes = goes; in_work = parts.0; payload = payload; one = refl; why = cause-so terms now later e m route payload parts.1 }
given-by terms now later e m (payload ∷ other ∷ more) route goes is = isnt is

-- what a table has passes the test, as each of it does
some-is : {A : Type 0} (a b : A) → ◌≡◌ {A = Option A} (Some a) (Some b) → a ≡ b
some-is a b is = cc

none-is : {A B : Type 0} (a : A) → ◌≡◌ {A = Option A} None (Some a) → B
none-is a is = absurd (cc)

in-table : (P : MessageName → OwnAnswer → Type 0) (test : Given → Bool) (table : List Given) → ((g : Given) → test g ≡ true → P g.message g.answer) → list_all test table ≡ true
    → (m : MessageName) (answer : OwnAnswer) → own_by table m ≡ Some answer → P m answer
in-table P test [] sound all m answer is = none-is answer is
in-table P test (g ∷ more) sound all m answer is = by (is_message m g.message) refl (in-table P test more sound (and_parts _ _ all).1 m answer) is where
  by : (b : Bool) → is_message m g.message ≡ b → (own_by more m ≡ Some answer → P m answer) → (if b then Some g.answer else own_by more m) ≡ Some answer → P m answer
  by true same rest is =
      subst (λ (a : OwnAnswer). P m a) (some-is g.answer answer is)
      (subst (λ (n : MessageName). P n g.answer) (sym (message_is m g.message same)) (sound g (and_parts _ _ all).0))
  by false other rest is = rest is

here : (n m : ℕ) → n ≡ m → nat_eq n m ≡ true
here n m is = grind arith

given-so : (terms : Terms) (now later : Now) (e : Entry) (g : Given) → is_given terms now later e g ≡ true → g.answer.from ≡ entry_now now → GivesUp terms now later e g.message g.answer.payloads
given-so terms now later e g is from =
    let route = some-so (is_given_by terms now later e g.message g.answer.payloads) ((plan_in terms).routes g.message) (implied _ _ is (here g.answer.from (entry_now now) from)) in
    given-by terms now later e g.message g.answer.payloads route.0 route.1 route.2

pub gives-each : (terms : Terms) (now later : Now) (e : Entry) (table : List Given) → ((m : MessageName) → (plan_in terms).own m ≡ own_by table m) → list_all (is_given terms now later e) table ≡ true
    → (m : MessageName) (answer : OwnAnswer) → (plan_in terms).own m ≡ Some answer → answer.from ≡ entry_now now → GivesUp terms now later e m answer.payloads
gives-each terms now later e table own all m answer is =
    in-table (λ n a. a.from ≡ entry_now now → GivesUp terms now later e n a.payloads) (is_given terms now later e) table (given-so terms now later e) all m answer (sym (own m) ∙ is)

replay-low : (code : ℕ) → nat_eq (slice_index_or (replay_refused code) 1 0) 144 ≡ true
unfolding replay_refused
replay-low code = refl

abbrev refusal : Now → (code : ℕ) → OwnAnswer
refusal now code = record { from = entry_now now; payloads = replay_refused code ∷ [] }

is-replay : (now : Now) (code : ℕ) (m : MessageName) → is_replay now (record { message = m; answer = refusal now code }) ≡ true
is-replay now code m = and_from _ _ (here (entry_now now) (entry_now now) refl) (replay-low code)

pub gives-single : (terms : Terms) (now : Now) (table : List Given) → ((m : MessageName) → (plan_in terms).own m ≡ own_by table m) → is_single now table ≡ true → (code : ℕ) (m other : MessageName)
    → (plan_in terms).own m ≡ Some (refusal now code) → (plan_in terms).own other ≡ Some (refusal now code) → m ≡ other
gives-single terms now table own all code m other is also =
    in-table (λ n a. a ≡ refusal now code → n ≡ other) _ table
    (λ g each same. in-table (λ n a. a ≡ refusal now code → g.message ≡ n) _ table
    (λ h both same_too. message_is g.message h.message (implied _ _ both (and_from _ _ (replays g same) (replays h same_too)))) each other (refusal now code) (sym (own other) ∙ also) refl)
    all m (refusal now code) (sym (own m) ∙ is) refl where
      replays : (g : Given) → g.answer ≡ refusal now code → is_replay now g ≡ true
      replays g same = subst (λ (a : OwnAnswer). is_replay now (record { message = g.message; answer = a }) ≡ true) (sym same) (is-replay now code g.message)

-- Clients that end.

here-so : (at : Option ℕ) (n : ℕ) → at ≡ Some n → option_map_or (nat_eq n) at false ≡ true
here-so at n is = subst (λ (o : Option ℕ). option_map_or (nat_eq n) o false ≡ true) (sym is) (here n n refl)

at-here : (at : Option ℕ) (n : ℕ) → option_map_or (nat_eq n) at false ≡ true → at ≡ Some n
at-here None n is = isnt is
at-here (Some k) n is = ap (λ x. Some x) (sym (number_of n k is))

ends-so : (terms : Terms) (log : Log) (now later : Now) (e : Entry) (c : Client) → ends_right terms log now later e c ≡ true → EndsRight terms log now later e c
ends-so terms log now later e c so =
    let both = and_parts _ _ so in
    record {
      must = λ is. implied _ _ both.0 is;
      may = λ is. implied (ends_here terms now c) _ both.1 (here-so ((plan_in terms).ends c.number) (entry_now now) is);
    }

aside-for : (terms : Terms) (log : Log) (now ending : Now) (e : Entry) (c : Client) (place : WordPlace) (payloads : List (List ℕ)) → is_alone place ≡ false
    → ((is_at (setup_in terms) now e c && are_each bytes_eq payloads (out_of_memory ∷ [])) || (is_too_much terms ending c && are_each bytes_eq payloads (buffers_word terms ending c ∷ []))) ≡ true
    → WordFor terms log now ending e c place payloads
aside-for terms log now ending e c place payloads aside is = elim (or_cases _ _ is) [
  | inl starved ↦ (let parts = and_parts _ _ starved in
      subst (λ (p : List (List ℕ)). WordFor terms log now ending e c place p) (sym (same-each bytes_eq same-bytes payloads (out_of_memory ∷ []) parts.1)) (NoMemory place aside parts.0))
  | inr much ↦ (let parts = and_parts _ _ much in
      subst (λ (p : List (List ℕ)). WordFor terms log now ending e c place p) (sym (same-each bytes_eq same-bytes payloads (buffers_word terms ending c ∷ []) parts.1)) (TooMuch place aside parts.0))
]

word-for : (terms : Terms) (log : Log) (now ending : Now) (e : Entry) (c : Client) (place : WordPlace) (payloads : List (List ℕ)) → is_word_for terms log now ending e c place payloads ≡ true
    → WordFor terms log now ending e c place payloads
word-for terms log now ending e c Alone payloads is =
    let parts = and_parts _ _ is in
    let more = and_parts _ _ parts.1 in
    subst (λ (p : List (List ℕ)). WordFor terms log now ending e c Alone p) (sym (same-each bytes_eq same-bytes payloads turned_away more.1))
    (TurnedAway parts.0 (not-so _ more.0))
word-for terms log now ending e c ForLogin payloads is = aside-for terms log now ending e c ForLogin payloads refl is
word-for terms log now ending e c Behind payloads is = aside-for terms log now ending e c Behind payloads refl is

last-word : (terms : Terms) (log : Log) (now : Now) (e : Entry) (c : Client) (word : LastWord) → is_last_word terms log now e c word ≡ true → word.from ≡ entry_now now → IsLastWord terms log now e c word
last-word terms log now e c word so from =
    let parts = and_parts _ _ (implied _ _ so (here word.from (entry_now now) from)) in
    let more = and_parts _ _ parts.1 in
    record { ends = at-here ((plan_in terms).ends c.number) (entry_now now) parts.0; answered = or_left _ _ more.0; why = word-for terms log now (while_ending terms now e) e c word.place word.payloads more.1 }

word-so : (terms : Terms) (log : Log) (now later : Now) (e : Entry) (c : Client) → word_right terms log now later e c ≡ true → WordRight terms log now later e c
word-so terms log now later e c so =
    let both = and_parts _ _ so in
    let first = and_parts _ _ both.0 in
    record {
      may = λ word is from. last-word terms log now e c word
          (subst (λ (o : Option LastWord). option_map_or (is_last_word terms log now e c) o true ≡ true) is first.0) from;
      away = λ comes away. never (sym (implied _ _ first.1 comes) ∙ away);
      must = λ measured much. implied _ _ (implied _ _ both.1 measured) much;
    }

part-so : (terms : Terms) (log : Log) (now : Now) (c : Client) → may_part terms log now c ≡ true → MayPart terms log now c
part-so terms log now c is = elim (or_cases _ _ is) [
  | inl all ↦ AllWritten (same-bytes _ _ all)
  | inr a ↦ elim (or_cases _ _ a) [
    | inl broken ↦ Broken broken
    | inr b ↦ elim (or_cases _ _ b) [
      | inl over ↦ TimeIsOver (le-so _ _ over)
      | inr d ↦ elim (or_cases _ _ d) [
        | inl away ↦ (let parts = and_parts _ _ away in NotServed (not-so _ parts.0) parts.1)
        | inr unheard ↦ Unheard unheard
      ]
    ]
  ]
]

link-here : (a b : LinkId) → a ≡ b → is_link_id a b ≡ true
link-here a b is = subst (λ (l : LinkId). is_link_id a l ≡ true) is (here a.0 a.0 refl)

parts-right : (terms : Terms) (log : Log) (now : Now) (link : LinkId) (c : Client) → parts_right terms log now link c ≡ true → PartsRight terms log now link c
parts-right terms log now link c so = record {
  ended = λ is. (and_parts _ _ (implied (is_link_id c.link link) _ so (link-here c.link link is))).0;
  may = λ is. part-so terms log now c (and_parts _ _ (implied (is_link_id c.link link) _ so (link-here c.link link is))).1;
}

parts-so : (terms : Terms) (log : Log) (now : Now) (e : Entry) → parts terms log now e ≡ true → PartsBy terms log now e
parts-so terms log now (entry.Closed link) so = all-so (PartsRight terms log now link) (parts_right terms log now link) now.tale.clients (parts-right terms log now link) so
parts-so terms log now _ so = tt

pub ended-so : (terms : Terms) (log : Log) (now : Now) (e : Entry) → are_ended terms log now e ≡ true → EndsBy terms log now (next terms now e) e
ended-so terms log now e so =
    let later = next terms now e in
    let both = and_parts _ _ so in
    let more = and_parts _ _ both.1 in
    record {
      ends = all-so (EndsRight terms (log ++ e ∷ []) now later e) (ends_right terms (log ++ e ∷ []) now later e) later.tale.clients (ends-so terms (log ++ e ∷ []) now later e) both.0;
      words = all-so (WordRight terms (log ++ e ∷ []) now later e) (word_right terms (log ++ e ∷ []) now later e) later.tale.clients (word-so terms (log ++ e ∷ []) now later e) more.0;
      parts = parts-so terms log now e more.1;
    }
