-- A step that was refused gives up one statement.
use Rattle.std.specs.Prelude.{◌≡◌, ◌⊎◌, ℕ, suc, Bool, true, false, ◌&&◌, ◌||◌, nat_eq, if◌then◌else◌, slice_index_or, List, [], ◌∷◌, ◌++◌, Option, Some, None}
use Rattle.std.specs.List.{list_any}
use Rattle.std.specs.Option.{option_and_then, option_map_or, option_or}
use Rattle.std.proofs.Common.{refl, sym, ap, ◌∙◌, subst, append_assoc, arith, inl, inr}
use Rattle.std.proofs.lemmas.Bool.{and_parts}
use Rattle.mx_base.specs.declared.names.LinkId.{LinkId}
use Rattle.mx_wire.specs.Log as wire
use Rattle.mx_wire.specs.Log.{Log}
use Rattle.mx_wire.specs.Moments.{LawfulAfter}
use Rattle.mx_wire.specs.declared.entry.Entry.{Entry}
use Rattle.mx_wire.specs.declared.entry.Entry.TheVariants as entry
use Rattle.private_model.proofs.Maps.{client_of, name_of, number_of}
use Rattle.private_model.specs.Commands.{end_of, is_err}
use Rattle.private_model.specs.Names.{MessageName, SessionName}
use Rattle.private_model.specs.Story.{Capture, End, Own, Prep, Question, Statement, Sync, is_client, is_name}
use Rattle.private_model.specs.View.{Carried, Joined, Lent, Nobody, session_in}
use Rattle.client_session.specs.Errors.{bad_server_bytes, connection_lost, connection_refused}
use Rattle.log_story.specs.Plan.{OwnAnswer, Route}
use Rattle.log_story.specs.Tale.{Client}
use Rattle.tale_world.specs.Decided.{plan_of}
use Rattle.tale_world.specs.Deciding.{World}
use Rattle.tale_world.specs.Policy.{Readied}
use Rattle.router_promises.specs.Errors.{no_connection, out_of_memory, replay_refused, server_offline}
use Rattle.router_promises.specs.Heard as heard
use Rattle.router_promises.specs.Heard.{Answer, Reading, is_amiss, is_step, reading_of}
use Rattle.router_promises.specs.Now.{Now, entry_now}
use Rattle.router_promises.specs.Running.{is_off, status_in}
use Rattle.router_promises.specs.Steps.{wants_there}
use Rattle.shared_router.specs.Causes.{Case, by_answer, by_bytes, by_reading, cause_of, home_in, is_carried, is_home, is_nobody, is_on, is_step_for, late, late_by, lost, name_in, offline, payload_if, starved, unlinked, was_for}
use Rattle.shared_router.specs.Fixed.{Fixed, IsNumbered}
use Rattle.shared_router.specs.Given.{RefusesOne, RefusesOneSo}
use Rattle.shared_router.specs.Known.{link_by, setup_by}
use Rattle.shared_router.specs.More.{More, now_of}
use Rattle.shared_router.specs.Shared.{final_terms, world_at}
use Rattle.shared_router.proofs.Caused.{mapped_true, payload_so}
use Rattle.shared_router.proofs.Giving.{case_of, is_given}
use Rattle.shared_router.proofs.Looked.{Each}
use Rattle.shared_router.proofs.Same.{now_is, now_same}
use Rattle.shared_router.proofs.Single.{IsAlone, counts_at, each-alone}

isnt : {A : Type 0} → false ≡ true → A
isnt is = absurd (cc)

none_is : {A B : Type 0} (a : A) → None ≡ Some a → B
none_is a is = absurd (cc)

some_is : {A : Type 0} (a b : A) → Some a ≡ Some b → a ≡ b
some_is a b is = cc

one_of : (x y : Option (List ℕ)) (a : List ℕ) → option_or x y ≡ Some a → (x ≡ Some a) ⊎ (y ≡ Some a)
one_of None y a is = inr is
one_of (Some b) y a is = inl is

-- The lower byte of an error's code tells its cause.

abbrev code : List ℕ → ℕ
code payload = slice_index_or payload 1 0

refused_code : (number : ℕ) → code (replay_refused number) ≡ 144
unfolding replay_refused
refused_code number = refl

isnt_lost : {A : Type 0} → code connection_lost ≡ 144 → A
unfolding connection_lost
isnt_lost is = absurd (omega (arith, is))

isnt_late : {A : Type 0} (since now : ℕ) → code (no_connection since now) ≡ 144 → A
unfolding no_connection
isnt_late since now is = absurd (omega (arith, is))

isnt_unlinked : {A : Type 0} → code connection_refused ≡ 144 → A
unfolding connection_refused
isnt_unlinked is = absurd (omega (arith, is))

isnt_bad : {A : Type 0} (place : ℕ) → code (bad_server_bytes place) ≡ 144 → A
unfolding bad_server_bytes
isnt_bad place is = absurd (omega (arith, is))

isnt_offline : {A : Type 0} → code server_offline ≡ 144 → A
unfolding server_offline
isnt_offline is = absurd (omega (arith, is))

isnt_starved : {A : Type 0} → code out_of_memory ≡ 144 → A
unfolding out_of_memory
isnt_starved is = absurd (omega (arith, is))

-- what is told if a test holds has its code
coded : (b : Bool) (p payload : List ℕ) → payload_if b p ≡ Some payload → code payload ≡ 144 → code p ≡ 144
coded b p payload is at = ap code (payload_so b p payload is).1 ∙ at

-- The step that it was.
record IsStepped (c : Case) : Type 0 where
  pub link : LinkId
  pub answer : Answer
  pub named : wire.link_of c.e ≡ Some link
  pub read : reading_of (setup_by c.known) c.known.now c.e ≡ heard.Whole answer
  pub step : is_step_for c link answer.question ≡ true

module _ (c : Case) (payload : List ℕ) (at : code payload ≡ 144) where
  by_late : (f : Entry) → late_by c f ≡ Some payload → IsStepped c
  by_late (entry.Woke until_ms now_ms) is = isnt_late (c.known.now.since c.m) now_ms (coded _ (no_connection (c.known.now.since c.m) now_ms) payload is at)
  by_late _ is = none_is payload is

  by_reply : (link : LinkId) (answer : Answer) → wire.link_of c.e ≡ Some link → reading_of (setup_by c.known) c.known.now c.e ≡ heard.Whole answer
      → by_answer c link answer ≡ Some payload → IsStepped c
  by_reply link answer named read is =
      let refused : Bool = is_err answer.reply && is_step_for c link answer.question in
      let amiss : Bool = is_step answer.question && (is_amiss answer.question answer.reply && is_on c link) in
      elim (one_of (payload_if refused (replay_refused (end_of answer.reply).code)) (payload_if amiss (bad_server_bytes 0)) payload is) [
        | inl first ↦ record {
          link = link;
          answer = answer;
          named = named;
          read = read;
          step = (and_parts (is_err answer.reply) (is_step_for c link answer.question) (payload_so refused (replay_refused (end_of answer.reply).code) payload first).0).1;
        }
        | inr second ↦ isnt_bad 0 (coded amiss (bad_server_bytes 0) payload second at)
      ]

  by_read : (link : LinkId) → wire.link_of c.e ≡ Some link → (r : Reading) → reading_of (setup_by c.known) c.known.now c.e ≡ r → by_reading c link r ≡ Some payload → IsStepped c
  by_read link named heard.Part read is = none_is payload is
  by_read link named (heard.Whole answer) read is = by_reply link answer named read is
  by_read link named (heard.Bad place) read is = isnt_bad place (coded (is_on c link) (bad_server_bytes place) payload is at)

  by_link : (o : Option LinkId) → wire.link_of c.e ≡ o → option_and_then (λ link. by_reading c link (reading_of (setup_by c.known) c.known.now c.e)) o ≡ Some payload → IsStepped c
  by_link None named is = none_is payload is
  by_link (Some link) named is = by_read link named (reading_of (setup_by c.known) c.known.now c.e) refl is

  by_home : (o : Option LinkId)
      → option_and_then (λ link. payload_if (is_on c link && status_in is_off c.servers (c.known.now.tale.wires link).server) server_offline) o ≡ Some payload → IsStepped c
  by_home None is = none_is payload is
  by_home (Some link) is = isnt_offline (coded _ server_offline payload is at)

  by_cause : cause_of c ≡ Some payload → IsStepped c
  by_cause is =
      elim (one_of (starved c) _ payload is) [
        | inl first ↦ isnt_starved (coded _ out_of_memory payload first at)
        | inr second ↦ elim (one_of (lost c) _ payload second) [
          | inl was_lost ↦ isnt_lost (coded _ connection_lost payload was_lost at)
          | inr third ↦ elim (one_of (late c) _ payload third) [
            | inl was_late ↦ by_late c.e was_late
            | inr fourth ↦ elim (one_of (unlinked c) _ payload fourth) [
              | inl none ↦ isnt_unlinked (coded _ connection_refused payload none at)
              | inr fifth ↦ elim (one_of (by_bytes c) (offline c) payload fifth) [
                | inl bytes ↦ by_link (wire.link_of c.e) refl bytes
                | inr off ↦ by_home (home_in c) off
              ]
            ]
          ]
        ]
      ]

-- It is of one session.

module _ (c : Case) (link : LinkId) where
  -- whose it is, by the question and by whom the link carries
  abbrev Whose : Question → Carried → Type 0
  Whose (Own command) Nobody = (r : Readied) × ((c.known.readied link ≡ Some r) × (r.name ≡ name_in c))
  Whose (Own command) (Lent n) = n ≡ name_in c
  Whose (Own command) (Joined n) = n ≡ name_in c
  Whose (Prep n key text) carried = n ≡ name_in c
  Whose (Sync n command) carried = n ≡ name_in c
  Whose _ carried = ⊥

  whose_so : (question : Question) (carried : Carried) → (link_by c.known link).carries ≡ carried → is_step_for c link question ≡ true → Whose question carried
  whose_so (Own command) Nobody at is =
      let wanted : Bool = was_for c link && wants_there c.known.terms c.known.now link (name_in c) command in
      let so : wanted ≡ true = sym (ap (λ x. if is_nobody x then wanted else is_carried c link && is_home c link) at) ∙ is in
      let found = mapped_true (λ (r : Readied). is_name r.name (name_in c)) (c.known.readied link) (and_parts (was_for c link) (wants_there c.known.terms c.known.now link (name_in c) command) so).0 in
      (found.0, (found.1.0, name_of found.0.name (name_in c) found.1.1))
  whose_so (Own command) (Lent n) at is =
      let wanted : Bool = was_for c link && wants_there c.known.terms c.known.now link (name_in c) command in
      let so = and_parts (is_carried c link) (is_home c link) (sym (ap (λ x. if is_nobody x then wanted else is_carried c link && is_home c link) at) ∙ is) in
      name_of n (name_in c) (sym (ap (λ x. option_map_or (λ (s : SessionName). is_name s (name_in c)) (session_in x) false) at) ∙ so.0)
  whose_so (Own command) (Joined n) at is =
      let wanted : Bool = was_for c link && wants_there c.known.terms c.known.now link (name_in c) command in
      let so = and_parts (is_carried c link) (is_home c link) (sym (ap (λ x. if is_nobody x then wanted else is_carried c link && is_home c link) at) ∙ is) in
      name_of n (name_in c) (sym (ap (λ x. option_map_or (λ (s : SessionName). is_name s (name_in c)) (session_in x) false) at) ∙ so.0)
  whose_so (Prep n key text) carried at is = name_of n (name_in c) is
  whose_so (Sync n command) carried at is = name_of n (name_in c) is
  whose_so (Statement n due) carried at is = isnt is
  whose_so (End n) carried at is = isnt is
  whose_so (Capture n) carried at is = isnt is

-- of two cases that are of one moment
one_session : (c d : Case) → d.known ≡ c.known → (link : LinkId) (question : Question) (carried : Carried) → Whose c link question carried → Whose d link question carried
    → name_in c ≡ name_in d
one_session c d same link (Own command) Nobody one other =
    let read : Some one.0 ≡ Some other.0 = sym one.1.0 ∙ ap (λ k. k.readied link) (sym same) ∙ other.1.0 in
    sym one.1.1 ∙ ap (λ (r : Readied). r.name) (some_is one.0 other.0 read) ∙ other.1.1
one_session c d same link (Own command) (Lent n) one other = sym one ∙ other
one_session c d same link (Own command) (Joined n) one other = sym one ∙ other
one_session c d same link (Prep n key text) carried one other = sym one ∙ other
one_session c d same link (Sync n command) carried one other = sym one ∙ other
one_session c d same link (Statement n due) carried one other = elim one [ ]
one_session c d same link (End n) carried one other = elim one [ ]
one_session c d same link (Capture n) carried one other = elim one [ ]

-- And a client has one message in work.

any_of : (P : Client → Type 0) (test : Client → Bool) (xs : List Client) → Each P xs → list_any test xs ≡ true → (x : Client) × (P x × (test x ≡ true))
any_of P test [] each is = isnt is
any_of P test (x ∷ xs) each is = by_test (test x) refl is (any_of P test xs each.1) where
  by_test : (b : Bool) → test x ≡ b → (b || list_any test xs) ≡ true → (list_any test xs ≡ true → (x : Client) × (P x × (test x ≡ true)))
      → (x : Client) × (P x × (test x ≡ true))
  by_test true here is later = (x, (each.0, here))
  by_test false here is later = later is

abbrev in_hand : List Client → MessageName → Bool
in_hand clients m = list_any (λ (client : Client). is_client client.number m.client && nat_eq client.taken m.ordinal) clients

one_message : (clients : List Client) → Each (IsAlone clients) clients → (m other : MessageName) → m.client ≡ other.client → in_hand clients m ≡ true → in_hand clients other ≡ true → m ≡ other
one_message clients alone m other same here there =
    let found = any_of (IsAlone clients) (λ (client : Client). is_client client.number m.client && nat_eq client.taken m.ordinal) clients alone here in
    let x : Client = found.0 in
    let parts = and_parts (is_client x.number m.client) (nat_eq x.taken m.ordinal) found.1.1 in
    let number : x.number ≡ other.client = client_of x.number m.client parts.0 ∙ same in
    let its : nat_eq x.taken other.ordinal ≡ true =
    sym (found.1.0.any (λ (client : Client). nat_eq client.taken other.ordinal))
    ∙ ap (λ c. list_any (λ (client : Client). is_client client.number c && nat_eq client.taken other.ordinal) clients) number ∙ there in
    let ordinal : m.ordinal ≡ other.ordinal = sym (number_of x.taken m.ordinal parts.1) ∙ number_of x.taken other.ordinal its in
    λ i. record { client = same i; ordinal = ordinal i }

module _ (fixed : Fixed) (numbered : IsNumbered fixed) (before later : Log) (e : Entry) where
  abbrev w : World More
  w = world_at fixed before

  abbrev last : World More
  last = world_at fixed (before ++ e ∷ later)

  abbrev here : Now
  here = now_of fixed w

  abbrev answer_with : (code : ℕ) → OwnAnswer
  answer_with number = record { from = entry_now here; payloads = replay_refused number ∷ [] }

  one_more : (answer_with 0).from ≡ suc w.tale.moment
  one_more = omega arith

  abbrev Found : MessageName → Type 0
  Found m = (route : Route) × (IsStepped (case_of fixed before later e m (answer_with 0) one_more route) × (in_hand w.tale.clients m ≡ true))

  found_so : (number : ℕ) (m : MessageName) → (plan_of last.decided).own m ≡ Some (answer_with number) → Found m
  found_so number m own =
      let given = is_given fixed before later e m (answer_with number) one_more own in
      let told : given.payload ≡ replay_refused number = (let same : replay_refused number ∷ [] ≡ given.payload ∷ [] = given.one in cc) in (
        given.route,
        (
          by_cause (case_of fixed before later e m (answer_with 0) one_more given.route) given.payload (ap code told ∙ refused_code number) given.caused,
          (and_parts (in_hand w.tale.clients m) _ given.in_work).0,
        ),
      )

  one_only : RefusesOne (final_terms fixed (before ++ e ∷ later)) here
  one_only number m other own also =
      let x = found_so number m own in
      let y = found_so number other also in
      let c = case_of fixed before later e m (answer_with 0) one_more x.0 in
      let d = case_of fixed before later e other (answer_with 0) one_more y.0 in
      let one : IsStepped c = x.1.0 in
      let two : IsStepped d = y.1.0 in
      let link_is : two.link ≡ one.link = some_is two.link one.link (sym two.named ∙ one.named) in
      let answer_is : two.answer ≡ one.answer = (let same : heard.Whole two.answer ≡ heard.Whole one.answer = sym two.read ∙ one.read in cc) in
      let step : is_step_for d one.link one.answer.question ≡ true =
      subst (λ l. is_step_for d l one.answer.question ≡ true) link_is (subst (λ (a : Answer). is_step_for d two.link a.question ≡ true) answer_is two.step) in
      let carried : Carried = (link_by c.known one.link).carries in
      let name : name_in c ≡ name_in d =
      one_session c d refl one.link one.answer.question carried
      (whose_so c one.link one.answer.question carried refl one.step) (whose_so d one.link one.answer.question carried refl step) in
      one_message w.tale.clients (each-alone 1 w.tale.clients (counts_at fixed before)) m other (ap (λ (n : SessionName). n.client) name) x.1.1 y.1.1

  one_then : RefusesOneSo (final_terms fixed (before ++ e ∷ later)) before e
  one_then = subst (RefusesOne (final_terms fixed (before ++ e ∷ later))) (sym (now_is fixed (final_terms fixed (before ++ e ∷ later)) before (now_same fixed numbered before (e ∷ later)))) one_only

-- along a log

one_from : (fixed : Fixed) → IsNumbered fixed → (before later log : Log) → before ++ later ≡ log → LawfulAfter (RefusesOneSo (final_terms fixed log)) before later
one_from fixed numbered before [] log is = tt
one_from fixed numbered before (e ∷ later) log is = (
  subst (λ l. RefusesOneSo (final_terms fixed l) before e) is (one_then fixed numbered before later e),
  one_from fixed numbered (before ++ e ∷ []) later log (append_assoc before (e ∷ []) later ∙ is),
)

pub one_along : (fixed : Fixed) → IsNumbered fixed → (log : Log) → LawfulAfter (RefusesOneSo (final_terms fixed log)) [] log
one_along fixed numbered log = one_from fixed numbered [] log log refl
