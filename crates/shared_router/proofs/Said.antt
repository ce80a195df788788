-- Last words are what they should be, and who keeps too much is ended.
use Rattle.std.specs.Prelude.{◌≡◌, ◌+◌, ◌≤◌, ℕ, suc, Bool, true, false, not, ◌&&◌, ◌||◌, fold, length, nat_lt, sum_by, if◌then◌else◌, List, [], ◌∷◌, ◌++◌, Option, Some, None}
use Rattle.std.specs.Option.{option_and_then}
use Rattle.std.proofs.Common.{refl, sym, ap, ◌∙◌, subst, arith, inl, inr}
use Rattle.std.proofs.lemmas.Bool.{and_from, and_parts, le-leb, lt-ltb, not-true, or_left, or_right}
use Rattle.std.proofs.lemmas.List.Sums.{sum_by-cons}
use Rattle.client_session.specs.Answers.{opening_of}
use Rattle.client_side.specs.Login.{Fails, Opening, Says, Waits}
use Rattle.mx_wire.specs.Log.{Log}
use Rattle.mx_wire.specs.declared.entry.Entry.{Entry}
use Rattle.packet_frame.specs.Packets.{lacking}
use Rattle.private_model.specs.Names.{ClientNo}
use Rattle.private_model.specs.View.{Setup}
use Rattle.log_story.specs.Clients.{is_answered}
use Rattle.log_story.specs.Owed.{talk_of}
use Rattle.log_story.specs.Plan.{Alone, Behind, ForLogin, LastWord, Plan, is_before, is_by_now}
use Rattle.log_story.specs.Tale.{Client, Tale, view_of}
use Rattle.tale_world.specs.Decided.{Agrees, Decided, plan_of}
use Rattle.tale_world.specs.Deciding.{Deciding, World}
use Rattle.tale_world.specs.World.{ended_now, is_ended}
use Rattle.tale_world.proofs.Agreeing.{same_before}
use Rattle.tale_world.proofs.Following.{going_even, step_even}
use Rattle.router_promises.specs.Due.{served}
use Rattle.router_promises.specs.Ends.{IsLastWord, Left, NoMemory, TooMuch, TurnedAway, WordFor, buffers_word, comes_from, is_accepted, is_alone, is_at, is_left, is_measured, is_refused, is_refused_by, is_too_much, kept, kept_bytes, kept_in_all, loses_client, was_answered}
use Rattle.router_promises.specs.Errors.{buffers_full, out_of_memory}
use Rattle.router_promises.specs.Now as now
use Rattle.router_promises.specs.Now.{Now, entry_now, now_at, while_ending}
use Rattle.router_promises.specs.Terms.{Terms}
use Rattle.shared_router.specs.Ends.{Ending, away_word, client_at, ending_of, goes, has_too_much, is_refused_now, is_turned_away, left_word, may_say_starved, must_go, place_by, says_last, was_left, word_place, word_to, words_by}
use Rattle.shared_router.specs.Fixed.{Fixed, IsNumbered, setup_of}
use Rattle.shared_router.specs.Judged.{with_plan}
use Rattle.shared_router.specs.More.{More}
use Rattle.shared_router.specs.Shared.{final_terms, shared, world_at}
use Rattle.shared_router.proofs.Ended as ended
use Rattle.shared_router.proofs.Looked.{IsLooked}
use Rattle.shared_router.proofs.Musts.{IsEnding, answered-same, ending_world, last_plan, left-same, must-same, served-same}
use Rattle.shared_router.proofs.Single.{IsAlone}
use Rattle.shared_router.proofs.Parting.{even_at, next, world_more}
use Rattle.shared_router.proofs.Since.{log-since, step-moment}
use Rattle.shared_router.proofs.Worded.{ended-same-ends, said-by, word-goes}

isnt : {A : Type 0} → false ≡ true → A
isnt is = absurd (cc)

none-said : {A : Type 0} (word : LastWord) → None ≡ Some word → A
none-said word is = absurd (cc)

left-none : (a b : Bool) → (a || b) ≡ false → a ≡ false
left-none false b is = refl
left-none true b is = absurd (cc)

right-none : (a b : Bool) → (a || b) ≡ false → b ≡ false
right-none false b is = is
right-none true b is = absurd (cc)

behind-login : {A : Type 0} → Behind ≡ ForLogin → A
behind-login is = absurd (cc)

alone-login : {A : Type 0} → Alone ≡ ForLogin → A
alone-login is = absurd (cc)

some-same : {A : Type 0} (a b : A) → Some a ≡ Some b → a ≡ b
some-same a b is = cc

sum-same : {A : Type 0} (f g : A → ℕ) (xs : List A) → ((x : A) → f x ≡ g x) → sum_by f xs ≡ sum_by g xs
sum-same f g [] same = refl
sum-same f g (x ∷ xs) same =
    sum_by-cons f x xs ∙ ap (λ n. n + sum_by f xs) (same x) ∙ ap (λ n. g x + n) (sum-same f g xs same) ∙ sym (sum_by-cons g x xs)

not-alone : (opening : Opening) → is_alone (place_by opening) ≡ false
not-alone (Waits switched) = refl
not-alone (Says switched response id rest) = refl
not-alone (Fails switched fault id) = refl

-- a plan that agrees by a moment agrees by an earlier one
agrees-earlier : (d : Decided) (moment early : ℕ) (plan : Plan) → early ≤ moment → Agrees d moment plan → Agrees d early plan
agrees-earlier d moment early plan before agrees = record {
  service = agrees.service;
  room = agrees.room;
  logins = agrees.logins;
  routes = agrees.routes;
  answered = agrees.answered;
  unanswered = λ m answer is has. (let later = agrees.unanswered m answer is has in omega (arith, later, before));
  ended = agrees.ended;
  going = agrees.going;
  steps = agrees.steps;
}

module _ (fixed : Fixed) (numbered : IsNumbered fixed) (before later : Log) (e : Entry) where
  abbrev setup : Setup
  setup = setup_of fixed

  abbrev by : Deciding More
  by = shared fixed

  abbrev log : Log
  log = before ++ e ∷ later

  abbrev t : Terms
  t = final_terms fixed log

  abbrev plan : Plan
  plan = last_plan fixed numbered log

  abbrev w : World More
  w = world_at fixed before

  abbrev d : World More
  d = ending_world fixed numbered before e

  abbrev f : World More
  f = is_ended by d e

  abbrev x : Ending
  x = ending_of fixed d e

  abbrev there : Now
  there = now_at t before

  abbrev ending : Now
  ending = while_ending t there e

  abbrev behind : Now
  behind = now.next t there e

  so : IsEnding fixed numbered before e log
  so = ended.so fixed numbered before later e

  -- a word of this entry was decided at it
  word-now : (c : ClientNo) (word : LastWord) → plan.words c ≡ Some word → word.from ≡ entry_now there → words_by x c ≡ Some word
  word-now c word planned at =
      let g : World More = next fixed w e in
      let last = log-since fixed later g (step_even setup by w e) in
      let world : world_at fixed log ≡ fold (next fixed) g later = world_more fixed before (e ∷ later) in
      let from : word.from ≡ d.tale.moment = at ∙ ended.entry-so fixed numbered before later e in
      let moment : g.tale.moment ≡ d.tale.moment = step-moment fixed w e (even_at fixed before) ∙ sym (ended.moment-so fixed numbered before later e) in
      let there_so : f.decided.words c ≡ Some word = elim (last.words c word (ap (λ (v : World More). v.decided.words c) (sym world) ∙ planned)) [
        | inl was ↦ ap (λ h. h c) (sym (ended-same-ends fixed w e).words) ∙ was
        | inr within ↦ absurd (omega (arith, within.0, from, moment))
      ] in
      elim (said-by fixed (d.decided.words c) (words_by x c) word there_so) [
        | inl old ↦ (let early = ended.words-early fixed numbered before later e c word old in absurd (omega (arith, early, from)))
        | inr new ↦ new
      ]

  closed : d.tale.moment ≤ suc d.decided.until
  closed = (let gone : suc d.decided.until ≡ d.tale.moment = going_even setup by w e (even_at fixed before) in omega (arith, gone))

  -- What is kept of all clients.

  kept-same : (client : Client) → kept t client ≡ kept x.terms client
  kept-same client = ap (λ service. kept (with_plan t (record plan { service = service })) client) so.agrees.service

  bytes-same : (client : Client) → kept_bytes t x.ending client ≡ kept_bytes x.terms x.ending client
  bytes-same client =
      ap (λ b. if b then 0 else length (kept t client)) (sym (same_before d.decided d.tale.moment plan so.agrees closed client.number))
      ∙ ap (λ xs. if is_before d.tale.moment (d.decided.ends client.number) then 0 else length xs) (kept-same client)

  all-same : kept_in_all t ending ≡ kept_in_all x.terms x.ending
  all-same =
      ap (λ (tale : Tale). kept_in_all t (record x.ending { tale = tale })) so.tale
      ∙ sum-same (kept_bytes t x.ending) (kept_bytes x.terms x.ending) d.tale.clients bytes-same

  module _ (client : Client) (looked : IsLooked d.decided client) (alone : IsAlone d.tale.clients client) where
    abbrev c : ClientNo
    c = client.number

    much-same : is_too_much t ending client ≡ is_too_much x.terms x.ending client
    much-same =
        ap (λ n. nat_lt fixed.router.proxy.buffer_budget (n + lacking (kept t client))) all-same
        ∙ ap (λ xs. nat_lt fixed.router.proxy.buffer_budget (kept_in_all x.terms x.ending + lacking xs)) (kept-same client)

    text-same : buffers_word t ending client ≡ buffers_word x.terms x.ending client
    text-same =
        ap (λ n. buffers_full n (lacking (kept t client))) all-same
        ∙ ap (λ xs. buffers_full (kept_in_all x.terms x.ending) (lacking xs)) (kept-same client)

    answered-end : was_answered t ending client ≡ was_answered x.terms x.ending client
    answered-end =
        ap (λ (tale : Tale). is_answered plan tale (view_of setup tale) client client.taken) so.tale
        ∙ answered-same fixed numbered d.decided d.tale plan client so.agrees looked client.taken (omega arith)

    answered-was : was_answered t there client ≡ was_answered x.terms x.now client
    answered-was =
        let now_d : d.tale.moment ≡ suc w.tale.moment = ended.moment-so fixed numbered before later e in
        ap (λ (tale : Tale). is_answered plan tale (view_of setup tale) client client.taken) so.was
        ∙ answered-same fixed numbered d.decided w.tale plan client (agrees-earlier d.decided d.tale.moment w.tale.moment plan (omega (arith, now_d)) so.agrees) looked client.taken (omega arith)
        ∙ ap (λ (n : Now). is_answered (plan_of d.decided) n.tale (view_of setup n.tale) client client.taken) (sym so.known)

    measured-same : is_measured t there ending e client ≡ is_measured x.terms x.now x.ending e client
    measured-same =
        ap (λ b. b && (comes_from e client || not (was_answered t there client))) answered-end
        ∙ ap (λ b. was_answered x.terms x.ending client && (comes_from e client || not b)) answered-was

    at-same : is_at setup x.now e client ≡ is_at setup there e client
    at-same = ap (λ (n : Now). is_at setup n e client) so.known ∙ ap (λ (tale : Tale). is_at setup (record there { tale = tale }) e client) (sym so.was)

    -- who keeps too much has ended
    pub much-ends : is_measured t there ending e client ≡ true → is_too_much t ending client ≡ true → is_by_now behind.tale.moment (plan.ends c) ≡ true
    much-ends measured much =
        let has : has_too_much x client ≡ true = and_from _ _ (sym measured-same ∙ measured) (sym much-same ∙ much) in
        let going : goes x client ≡ true = or_right (must_go x client) _ (or_left (has_too_much x client) _ has) in
        let end = ended.goes-ends fixed numbered before later e client looked alone going in
        let same : behind.tale.moment ≡ d.tale.moment = ended.behind-moment fixed numbered before later e in
        ap (is_by_now behind.tale.moment) end.1.0 ∙ le-leb end.0 behind.tale.moment (omega (arith, end.1.1, same))

    -- The last word of this entry.

    said-of : (word : LastWord) → words_by x c ≡ Some word → (d.decided.ends c ≡ None) × (word_to x client ≡ Some word)
    said-of word is = by_test (is_before d.tale.moment (d.decided.ends c)) refl is where
      by_end : (o : Option ℕ) → d.decided.ends c ≡ o → is_before d.tale.moment o ≡ false → o ≡ None
      by_end None at apart = refl
      by_end (Some n) at apart = isnt (sym apart ∙ lt-ltb n d.tale.moment (ended.ends-early fixed numbered before later e c n at))

      by_test : (b : Bool) → is_before d.tale.moment (d.decided.ends c) ≡ b → (if b then None else option_and_then (word_to x) (client_at x c)) ≡ Some word
          → (d.decided.ends c ≡ None) × (word_to x client ≡ Some word)
      by_test true same so_is = none-said word so_is
      by_test false same so_is = (by_end (d.decided.ends c) refl same, ap (option_and_then (word_to x)) (sym alone.found) ∙ so_is)

    ends-now : d.decided.ends c ≡ None → goes x client ≡ true → plan.ends c ≡ Some (entry_now there)
    ends-now none going =
        (ended.on_f fixed numbered before later e).ended c (entry_now there)
        (ap (λ b. ended_now d.tale.moment b (d.decided.ends c)) (ended.ends-same fixed numbered before later e client looked alone ∙ going)
        ∙ ap (ended_now d.tale.moment true) none ∙ ap (λ n. Some n) (sym (ended.entry-so fixed numbered before later e)))

    pub record IsWhy (word : LastWord) : Type 0 where
      pub answered : (was_answered t ending client || is_left t ending client) ≡ true
      pub why : WordFor t (before ++ e ∷ []) there ending e client word.place word.payloads

    -- it was turned away
    away-why : is_turned_away x client ≡ true → was_answered t ending client ≡ true → (word : LastWord) → Some (away_word x) ≡ Some word → IsWhy word
    away-why away answered word is =
        subst IsWhy (some-same _ word is) (record {
          answered = or_left (was_answered t ending client) _ answered;
          why = TurnedAway parts.0 (served-same fixed numbered before e log so client looked ∙ not-true (served x.terms x.log client) parts.1);
        })
      where
        parts : (is_accepted e client ≡ true) × (not (served x.terms x.log client) ≡ true)
        parts = and_parts (is_accepted e client) (not (served x.terms x.log client)) away

    much-why : has_too_much x client ≡ true → (word : LastWord) → Some (says_last x client (buffers_word x.terms x.ending client)) ≡ Some word → IsWhy word
    much-why much word is =
        let parts = and_parts (is_measured x.terms x.now x.ending e client) (is_too_much x.terms x.ending client) much in
        let answered = and_parts (was_answered x.terms x.ending client) (comes_from e client || not (was_answered x.terms x.now client)) parts.0 in
        subst IsWhy (some-same _ word is) (record {
          answered = or_left (was_answered t ending client) _ (answered-end ∙ answered.0);
          why = subst (λ text. WordFor t (before ++ e ∷ []) there ending e client (word_place x client) (text ∷ [])) text-same
              (TooMuch (word_place x client) (not-alone _) (much-same ∙ parts.1));
        })

    starved-why : (is_refused_now x client && may_say_starved x client) ≡ true → (word : LastWord) → Some (says_last x client out_of_memory) ≡ Some word → IsWhy word
    starved-why starved word is =
        let says = and_parts (is_refused_now x client) (may_say_starved x client) starved in
        let parts = and_parts _ (was_answered x.terms x.ending client && is_at setup x.now e client) says.1 in
        let both = and_parts (was_answered x.terms x.ending client) (is_at setup x.now e client) parts.1 in
        subst IsWhy (some-same _ word is) (record {
          answered = or_left (was_answered t ending client) _ (answered-end ∙ both.0);
          why = NoMemory (word_place x client) (not-alone _) (sym at-same ∙ both.1);
        })

    left-why : (is_refused_now x client && was_left x client) ≡ true → (word : LastWord) → Some (left_word x) ≡ Some word → IsWhy word
    left-why left word is =
        let last : is_left t ending client ≡ true =
        left-same fixed numbered before e log so client looked ∙ (and_parts (is_refused_now x client) (was_left x client) left).1 in
        subst IsWhy (some-same _ word is) (record { answered = or_right (was_answered t ending client) _ last; why = Left last })

    why-so : (is_accepted e client ≡ true → was_answered t ending client ≡ true) → (word : LastWord) → word_to x client ≡ Some word → IsWhy word
    why-so idle word is =
        by_tests (is_refused_now x client && was_left x client) (is_turned_away x client) (must_go x client) (has_too_much x client) (is_refused_now x client && may_say_starved x client) refl refl refl refl is
      where
        by_tests : (left away must much starved : Bool) → (is_refused_now x client && was_left x client) ≡ left → is_turned_away x client ≡ away → has_too_much x client ≡ much
            → (is_refused_now x client && may_say_starved x client) ≡ starved
            → (if left then Some (left_word x) else if away then Some (away_word x) else if must then None
            else if much then Some (says_last x client (buffers_word x.terms x.ending client)) else if starved then Some (says_last x client out_of_memory) else None) ≡ Some word → IsWhy word
        by_tests true away must much starved l a h s so_is = left-why l word so_is
        by_tests false true must much starved l a h s so_is = away-why a (idle (and_parts (is_accepted e client) (not (served x.terms x.log client)) a).0) word so_is
        by_tests false false true much starved l a h s so_is = none-said word so_is
        by_tests false false false true starved l a h s so_is = much-why h word so_is
        by_tests false false false false true l a h s so_is = starved-why s word so_is
        by_tests false false false false false l a h s so_is = none-said word so_is

    refused-none : must_go x client ≡ false → is_refused t client ≡ false
    refused-none stays =
        left-none (is_refused t client) _ (right-none (is_accepted e client && not (served t (before ++ e ∷ []) client)) _
        (right-none (loses_client e client) _ (must-same fixed numbered before e log so client looked ∙ stays)))

    -- A word in place of the answer to a login comes while that can't be answered yet: of whose login can't be read none comes.

    place-waits : (o : Opening) → is_refused_by t client o ≡ false → place_by o ≡ ForLogin → (switched : Bool) × (o ≡ Waits switched)
    place-waits (Waits switched) read place = (switched, refl)
    place-waits (Says switched response id rest) read place = behind-login place
    place-waits (Fails switched fault id) read place = isnt (sym read)

    login-there : must_go x client ≡ false → word_place x client ≡ ForLogin → (switched : Bool) × (opening_of (talk_of plan client) ≡ Waits switched)
    login-there stays place =
        let opening : opening_of (talk_of plan client) ≡ opening_of (talk_of (plan_of d.decided) client) =
        ap (λ service. opening_of (talk_of (record plan { service = service }) client)) so.agrees.service in
        place-waits (opening_of (talk_of plan client)) (refused-none stays) (ap place_by opening ∙ place)

    pub login-waits : (word : LastWord) → plan.words c ≡ Some word → word.from ≡ entry_now there → word.place ≡ ForLogin
        → (switched : Bool) × (opening_of (talk_of plan client) ≡ Waits switched)
    login-waits word planned at place =
        by_tests (is_refused_now x client && was_left x client) (is_turned_away x client) (must_go x client) (has_too_much x client) (is_refused_now x client && may_say_starved x client) refl
        (said-of word (word-now c word planned at)).1
      where
        says : (payload : List ℕ) → must_go x client ≡ false → Some (says_last x client payload) ≡ Some word → (switched : Bool) × (opening_of (talk_of plan client) ≡ Waits switched)
        says payload stays is = login-there stays (ap (λ (w : LastWord). w.place) (some-same (says_last x client payload) word is) ∙ place)

        by_tests : (left away_now must much starved : Bool) → must_go x client ≡ must
            → (if left then Some (left_word x) else if away_now then Some (away_word x) else if must then None
            else if much then Some (says_last x client (buffers_word x.terms x.ending client)) else if starved then Some (says_last x client out_of_memory) else None) ≡ Some word
            → (switched : Bool) × (opening_of (talk_of plan client) ≡ Waits switched)
        by_tests true away_now must much starved m is = behind-login (ap (λ (w : LastWord). w.place) (some-same (left_word x) word is) ∙ place)
        by_tests false true must much starved m is = alone-login (ap (λ (w : LastWord). w.place) (some-same (away_word x) word is) ∙ place)
        by_tests false false true much starved m is = none-said word is
        by_tests false false false true starved m is = says (buffers_word x.terms x.ending client) m is
        by_tests false false false false true m is = says out_of_memory m is
        by_tests false false false false false m is = none-said word is

    pub word-right : (is_accepted e client ≡ true → was_answered t ending client ≡ true) → (word : LastWord) → plan.words c ≡ Some word → word.from ≡ entry_now there
        → IsLastWord t (before ++ e ∷ []) there e client word
    word-right idle word planned at =
        let said = said-of word (word-now c word planned at) in
        let why = why-so idle word said.1 in
        record { ends = ends-now said.0 (word-goes x client word said.1); answered = why.answered; why = why.why }
