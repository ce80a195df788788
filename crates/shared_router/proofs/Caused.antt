-- Each cause for which a statement is given up is one of the promise's, by terms that are alike.
use Rattle.std.specs.Prelude.{◌≡◌, ◌+◌, ◌⊎◌, ℕ, Bool, true, false, not, ◌&&◌, nat_le, slice_get, if◌then◌else◌, List, Option, Some, None}
use Rattle.std.specs.Option.{option_and_then, option_map, option_map_or, option_or}
use Rattle.std.proofs.Common.{refl, sym, ap, ◌∙◌, subst, inl, inr}
use Rattle.std.proofs.lemmas.Bool.{and_parts, leb-true}
use Rattle.hostgroups.specs.declared.server.Server.{Server}
use Rattle.mx_base.specs.declared.names.LinkId.{LinkId}
use Rattle.mx_wire.specs.Log as wire
use Rattle.mx_wire.specs.Log.{Log}
use Rattle.mx_wire.specs.declared.entry.Entry.{Entry}
use Rattle.mx_wire.specs.declared.entry.Entry.TheVariants as entry
use Rattle.private_model.proofs.Maps.{link_of, message_is, name_of}
use Rattle.private_model.specs.Commands.{Command, end_of, is_err}
use Rattle.private_model.specs.Names.{MessageName, SessionName}
use Rattle.private_model.specs.Story.{Capture, Due, End, Own, Prep, Question, Statement, Sync, is_link_id, is_message}
use Rattle.private_model.specs.View.{Carried, Joined, Lent, Nobody}
use Rattle.session_state.specs.Pins.{is_pinned}
use Rattle.server_side.specs.Account.{Account as Login}
use Rattle.server_side.specs.Login.{opening}
use Rattle.client_session.specs.Errors.{bad_server_bytes, connection_lost, connection_refused}
use Rattle.log_story.specs.Plan.{Route}
use Rattle.log_story.specs.Tale.{is_to_server}
use Rattle.log_story.specs.Telling.{wire_with}
use Rattle.tale_world.specs.Deciding.{World}
use Rattle.tale_world.specs.Policy.{Readied}
use Rattle.router_promises.specs.Errors.{no_connection, replay_refused, server_offline}
use Rattle.router_promises.specs.GivenUp as gone
use Rattle.router_promises.specs.GivenUp.{Cause, IsOnLink, IsStepFor, key_tried}
use Rattle.router_promises.specs.Heard as heard
use Rattle.router_promises.specs.Heard.{Answer, Reading, is_amiss, is_step, reading_of}
use Rattle.router_promises.specs.Keys.{is_waiting, key_of, oldest}
use Rattle.router_promises.specs.Now.{Now, entry_now, is_gone, link_now, wire_now}
use Rattle.router_promises.specs.Running.{breaks_off, hostgroup_of, if_entering, is_failed, is_off, opening_on, opening_with, status_in}
use Rattle.router_promises.specs.Steps.{wants_there}
use Rattle.router_promises.specs.Terms.{Terms, Tried, login_as}
use Rattle.router_promises.specs.Wants.{wants}
use Rattle.shared_router.specs.Causes.{Case, by_answer, by_bytes, by_reading, cause_of, home_in, is_carried, is_home, is_named, is_nobody, is_on, is_ready, is_step_for, late, late_by, lost, name_in, offline, payload_if, starved, unlinked, was_for}
use Rattle.shared_router.specs.Fixed.{Fixed, setup_of}
use Rattle.shared_router.specs.Known.{Known, held_by, link_by, view_by}
use Rattle.shared_router.specs.More.{More, terms_of}
use Rattle.shared_router.proofs.Later.{AreAlike, due_same, failed_same, key_same, unsent_same, waiters_same}

isnt : {A : Type 0} → false ≡ true → A
isnt is = absurd (cc)

none_is : {A B : Type 0} (a : A) → None ≡ Some a → B
none_is a is = absurd (cc)

not_so : (b : Bool) → not b ≡ true → b ≡ false
not_so false is = refl
not_so true is = isnt is

pub payload_so : (b : Bool) (p payload : List ℕ) → payload_if b p ≡ Some payload → (b ≡ true) × (p ≡ payload)
payload_so true p payload is = (refl, cc)
payload_so false p payload is = none_is payload is

one_of : (x y : Option (List ℕ)) (a : List ℕ) → option_or x y ≡ Some a → (x ≡ Some a) ⊎ (y ≡ Some a)
one_of None y a is = inr is
one_of (Some b) y a is = inl is

pub mapped_true : {A : Type 0} (test : A → Bool) (o : Option A) → option_map_or test o false ≡ true → (a : A) × ((o ≡ Some a) × (test a ≡ true))
mapped_true test None is = isnt is
mapped_true test (Some a) is = (a, (refl, is))

-- The key for a link of which an open failed, or a login broke off.

module _ (fixed : Fixed) (log : Log) (now : Now) (v last : World More) (alike : AreAlike fixed now.tale v last) (tried : last.more.tried (entry_now now) ≡ v.more.tried (entry_now now)) where
  abbrev one : Terms
  one = terms_of fixed last

  abbrev other : Terms
  other = terms_of fixed v

  abbrev entering_by : LinkId → (there failed : Bool) → Option LinkId
  entering_by link there failed = if there && (not (now.tale.wires link).entered && not failed) then Some link else None

  entering_same : (link : LinkId) → if_entering one now.tale link ≡ if_entering other now.tale link
  entering_same link = by_there (is_to_server now.tale link) refl where
    by_there : (b : Bool) → is_to_server now.tale link ≡ b → entering_by link b (is_failed (opening_on one now.tale link)) ≡ entering_by link b (is_failed (opening_on other now.tale link))
    by_there false is = refl
    by_there true is = ap (entering_by link true) (failed_same fixed log now v last alike link is)

  -- a link that is no server's breaks off nothing
  not_entering : (terms : Terms) (link : LinkId) → is_to_server now.tale link ≡ false → if_entering terms now.tale link ≡ None
  not_entering terms link is = ap (λ b. entering_by link b (is_failed (opening_on terms now.tale link))) is

  either_none : (b : Bool) (o : Option LinkId) → o ≡ None → (if b then o else None) ≡ None
  either_none true o is = is
  either_none false o is = refl

  got_same : (link : LinkId) (bytes : List ℕ) → breaks_off one now.tale (entry.Got link bytes) ≡ breaks_off other now.tale (entry.Got link bytes)
  got_same link bytes = by_there (is_to_server now.tale link) refl where
    by_there : (b : Bool) → is_to_server now.tale link ≡ b → breaks_off one now.tale (entry.Got link bytes) ≡ breaks_off other now.tale (entry.Got link bytes)
    by_there false is =
        either_none (is_failed (opening_with one now.tale link bytes)) (if_entering one now.tale link) (not_entering one link is)
        ∙ sym (either_none (is_failed (opening_with other now.tale link bytes)) (if_entering other now.tale link) (not_entering other link is))
    by_there true is =
        ap (λ (login : Login). if is_failed (opening login (wire_with now.tale link bytes).unread) then if_entering one now.tale link else None) (alike.logins link is)
        ∙ ap (λ o. if is_failed (opening_with other now.tale link bytes) then o else None) (entering_same link)

  breaks_same : (f : Entry) → breaks_off one now.tale f ≡ breaks_off other now.tale f
  breaks_same (entry.Got link bytes) = got_same link bytes
  breaks_same (entry.Ended link) = entering_same link
  breaks_same (entry.ReadFailed link) = entering_same link
  breaks_same (entry.WriteFailed link) = entering_same link
  breaks_same _ = refl

  entered_there : (link other : LinkId) → if_entering one now.tale link ≡ Some other → is_to_server now.tale other ≡ true
  entered_there link other is = by_there (is_to_server now.tale link) (not (now.tale.wires link).entered && not (is_failed (opening_on one now.tale link))) refl is where
    by_there : (b rest : Bool) → is_to_server now.tale link ≡ b → (if b && rest then Some link else None) ≡ Some other → is_to_server now.tale other ≡ true
    by_there true true there is = (let same : link ≡ other = cc in subst (λ l. is_to_server now.tale l ≡ true) same there)
    by_there true false there is = none_is other is
    by_there false rest there is = none_is other is

  broken_there : (f : Entry) (other : LinkId) → breaks_off one now.tale f ≡ Some other → is_to_server now.tale other ≡ true
  broken_there (entry.Got link bytes) other is = by_failed (is_failed (opening_with one now.tale link bytes)) is where
    by_failed : (b : Bool) → (if b then if_entering one now.tale link else None) ≡ Some other → is_to_server now.tale other ≡ true
    by_failed true is = entered_there link other is
    by_failed false is = none_is other is
  broken_there (entry.Ended link) other is = entered_there link other is
  broken_there (entry.ReadFailed link) other is = entered_there link other is
  broken_there (entry.WriteFailed link) other is = entered_there link other is
  broken_there _ other is = none_is other is

  keyed_same : (o : Option LinkId) → ((link : LinkId) → o ≡ Some link → is_to_server now.tale link ≡ true)
      → option_and_then (key_of one now) o ≡ option_and_then (key_of other now) o
  keyed_same None there = refl
  keyed_same (Some link) there = key_same fixed log now v last alike link (there link refl)

  broken_same : (f : Entry) → option_and_then (key_of one now) (breaks_off one now.tale f) ≡ option_and_then (key_of other now) (breaks_off other now.tale f)
  broken_same f = keyed_same (breaks_off one now.tale f) (broken_there f) ∙ ap (option_and_then (key_of other now)) (breaks_same f)

  pub tried_same : (f : Entry) → key_tried one now f ≡ key_tried other now f
  tried_same (entry.OpenFailed server address) =
      ap (λ (tried : Tried). option_map (λ hostgroup. record { hostgroup = hostgroup; account = login_as tried.login; bare = tried.bare }) (hostgroup_of fixed.router server)) tried
  tried_same (entry.Got link bytes) = broken_same (entry.Got link bytes)
  tried_same (entry.Ended link) = broken_same (entry.Ended link)
  tried_same (entry.ReadFailed link) = broken_same (entry.ReadFailed link)
  tried_same (entry.WriteFailed link) = broken_same (entry.WriteFailed link)
  tried_same _ = refl

-- The causes.

module _ (fixed : Fixed) (log : Log) (now : Now) (v last : World More) (alike : AreAlike fixed now.tale v last) (tried : last.more.tried (entry_now now) ≡ v.more.tried (entry_now now))
    (readied : LinkId → Option Readied) (servers : List Server) (later : Now) (stands : later.servers ≡ servers) (e : Entry) (m : MessageName) (route : Route) where
  abbrev t : Terms
  t = terms_of fixed last

  abbrev k : Known
  k = record { fixed = fixed; terms = terms_of fixed v; log = log; now = now; readied = readied }

  abbrev c : Case
  c = record { known = k; servers = servers; e = e; m = m; route = route }

  abbrev Caused : (payload : List ℕ) → Type 0
  Caused payload = Cause t now later e m route payload

  pub home_so : (link : LinkId) → is_home c link ≡ true → home_in c ≡ Some link
  home_so link is = let found = mapped_true (is_link_id link) (home_in c) is in found.1.0 ∙ ap (λ l. Some l) (sym (link_of link found.0 found.1.1))

  on_so : (link : LinkId) → is_on c link ≡ true → IsOnLink t now m route link
  on_so link is =
      let parts = and_parts (is_home c link) (not (is_pinned (held_by k (name_in c)).pin)) is in
      record { home = home_so link parts.0; unpinned = not_so (is_pinned (held_by k (name_in c)).pin) parts.1 }

  lost_so : (payload : List ℕ) → lost c ≡ Some payload → Caused payload
  lost_so payload is =
      let p = payload_so (is_gone e && is_named c (is_on c)) connection_lost payload is in
      let parts = and_parts (is_gone e) (is_named c (is_on c)) p.0 in
      let named = mapped_true (is_on c) (wire.link_of e) parts.1 in
      subst Caused p.1 (gone.LinkLost named.0 parts.0 named.1.0 (on_so named.0 named.1.1))

  late_so : (f : Entry) → e ≡ f → (payload : List ℕ) → late_by c f ≡ Some payload → Caused payload
  late_so (entry.Woke until_ms now_ms) same payload is =
      let waits : Bool = is_waiting (terms_of fixed v) now m.client route.hostgroup m.ordinal in
      let long : Bool = nat_le (now.since m + fixed.router.proxy.wait_ms) now_ms in
      let p = payload_so (waits && (long && not (is_ready c))) (no_connection (now.since m) now_ms) payload is in
      let parts = and_parts waits (long && not (is_ready c)) p.0 in
      let unsent = and_parts _ _ parts.0 in
      subst Caused p.1 (gone.WaitedTooLong until_ms now_ms same (unsent_same fixed log now v last alike (name_in c) ∙ unsent.0)
      (leb-true (now.since m + fixed.router.proxy.wait_ms) now_ms (and_parts long (not (is_ready c)) parts.1).0))
  late_so _ same payload is = none_is payload is

  unlinked_so : (payload : List ℕ) → unlinked c ≡ Some payload → Caused payload
  unlinked_so payload is =
      let p = payload_so (option_map_or (λ key. option_map_or (is_message m) (oldest (terms_of fixed v) now key) false) (key_tried (terms_of fixed v) now e) false) connection_refused payload is in
      let found = mapped_true (λ key. option_map_or (is_message m) (oldest (terms_of fixed v) now key) false) (key_tried (terms_of fixed v) now e) p.0 in
      let first = mapped_true (is_message m) (oldest (terms_of fixed v) now found.0) found.1.1 in
      let old : oldest t now found.0 ≡ Some m =
      ap (λ ms. slice_get ms 0) (waiters_same fixed log now v last alike found.0 now.tale.story) ∙ first.1.0 ∙ ap (λ x. Some x) (sym (message_is m first.0 first.1.1)) in
      subst Caused p.1 (gone.NoLink found.0 (tried_same fixed log now v last alike tried e ∙ found.1.0) old)

  -- a step was on its way to it

  wants_same : (link : LinkId) (n : SessionName) (command : Command) → wants_there t now link n command ≡ wants_there (terms_of fixed v) now link n command
  wants_same link n command =
      ap (λ b. b && option_map_or (λ (due : Due). wants (setup_of fixed) (link_now (setup_of fixed) now link) (held_by k n) due command) ((view_by k).dues n) false)
      (due_same fixed log now v last alike n)

  step_so : (link : LinkId) (question : Question) (carried : Carried) → (link_by k link).carries ≡ carried → is_step_for c link question ≡ true
      → IsStepFor t now m route link question carried
  step_so link (Own command) Nobody at is =
      let wanted : Bool = was_for c link && wants_there (terms_of fixed v) now link (name_in c) command in
      let so : wanted ≡ true = sym (ap (λ x. if is_nobody x then wanted else is_carried c link && is_home c link) at) ∙ is in
      wants_same link (name_in c) command ∙ (and_parts (was_for c link) (wants_there (terms_of fixed v) now link (name_in c) command) so).1
  step_so link (Own command) (Lent n) at is =
      let wanted : Bool = was_for c link && wants_there (terms_of fixed v) now link (name_in c) command in
      home_so link (and_parts (is_carried c link) (is_home c link) (sym (ap (λ x. if is_nobody x then wanted else is_carried c link && is_home c link) at) ∙ is)).1
  step_so link (Own command) (Joined n) at is =
      let wanted : Bool = was_for c link && wants_there (terms_of fixed v) now link (name_in c) command in
      home_so link (and_parts (is_carried c link) (is_home c link) (sym (ap (λ x. if is_nobody x then wanted else is_carried c link && is_home c link) at) ∙ is)).1
  step_so link (Prep n key text) carried at is = name_of n (name_in c) is
  step_so link (Sync n command) carried at is = name_of n (name_in c) is
  step_so link (Statement n due) carried at is = isnt is
  step_so link (End n) carried at is = isnt is
  step_so link (Capture n) carried at is = isnt is

  answered_so : (link : LinkId) (answer : Answer) → wire.link_of e ≡ Some link → reading_of (setup_of fixed) now e ≡ heard.Whole answer
      → (payload : List ℕ) → by_answer c link answer ≡ Some payload → Caused payload
  answered_so link answer at whole payload is =
      let refused : Bool = is_err answer.reply && is_step_for c link answer.question in
      let amiss : Bool = is_step answer.question && (is_amiss answer.question answer.reply && is_on c link) in
      elim (one_of (payload_if refused (replay_refused (end_of answer.reply).code)) (payload_if amiss (bad_server_bytes 0)) payload is) [
        | inl first ↦ (
            let p = payload_so refused (replay_refused (end_of answer.reply).code) payload first in
            let parts = and_parts (is_err answer.reply) (is_step_for c link answer.question) p.0 in
            subst Caused p.1 (gone.StepRefused link answer at whole parts.0 (step_so link answer.question (link_by k link).carries refl parts.1))
            )
        | inr second ↦ (
            let p = payload_so amiss (bad_server_bytes 0) payload second in
            let parts = and_parts (is_step answer.question) (is_amiss answer.question answer.reply && is_on c link) p.0 in
            let rest = and_parts (is_amiss answer.question answer.reply) (is_on c link) parts.1 in
            subst Caused p.1 (gone.NoResult link answer at whole parts.0 rest.0 (on_so link rest.1))
            )
      ]

  reading_so : (link : LinkId) → wire.link_of e ≡ Some link → (r : Reading) → reading_of (setup_of fixed) now e ≡ r
      → (payload : List ℕ) → by_reading c link r ≡ Some payload → Caused payload
  reading_so link at heard.Part read payload is = none_is payload is
  reading_so link at (heard.Whole answer) read payload is = answered_so link answer at read payload is
  reading_so link at (heard.Bad place) read payload is =
      let p = payload_so (is_on c link) (bad_server_bytes place) payload is in
      subst Caused p.1 (gone.BadBytes link place at read (on_so link p.0))

  bytes_so : (payload : List ℕ) → by_bytes c ≡ Some payload → Caused payload
  bytes_so payload is = by_link (wire.link_of e) refl is where
    by_link : (o : Option LinkId) → wire.link_of e ≡ o → option_and_then (λ link. by_reading c link (reading_of (setup_of fixed) now e)) o ≡ Some payload → Caused payload
    by_link None at is = none_is payload is
    by_link (Some link) at is = reading_so link at (reading_of (setup_of fixed) now e) refl payload is

  offline_so : (payload : List ℕ) → offline c ≡ Some payload → Caused payload
  offline_so payload is = by_home (home_in c) is where
    by_home : (o : Option LinkId)
        → option_and_then (λ link. payload_if (is_on c link && status_in is_off servers (wire_now now link).server) server_offline) o ≡ Some payload → Caused payload
    by_home None is = none_is payload is
    by_home (Some link) is =
        let p = payload_so (is_on c link && status_in is_off servers (wire_now now link).server) server_offline payload is in
        let parts = and_parts (is_on c link) (status_in is_off servers (wire_now now link).server) p.0 in
        subst Caused p.1 (gone.TakenOffline link (ap (λ (s : List Server). status_in is_off s (wire_now now link).server) stands ∙ parts.1) (on_so link parts.0))

  -- or there is no memory
  pub caused_so : (payload : List ℕ) → cause_of c ≡ Some payload → Caused payload ⊎ (starved c ≡ Some payload)
  caused_so payload is =
      elim (one_of (starved c) _ payload is) [
        | inl first ↦ inr first
        | inr second ↦ inl (elim (one_of (lost c) _ payload second) [
          | inl was_lost ↦ lost_so payload was_lost
          | inr third ↦ elim (one_of (late c) _ payload third) [
            | inl was_late ↦ late_so e refl payload was_late
            | inr fourth ↦ elim (one_of (unlinked c) _ payload fourth) [
              | inl none ↦ unlinked_so payload none
              | inr fifth ↦ elim (one_of (by_bytes c) (offline c) payload fifth) [
                | inl bytes ↦ bytes_so payload bytes
                | inr off ↦ offline_so payload off
              ]
            ]
          ]
        ])
      ]
