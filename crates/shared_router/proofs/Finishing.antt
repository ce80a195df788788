-- Where the loop waits, what began on a link to a server is whole; and where all is answered there and a session goes on, a question may begin.
use Rattle.std.specs.Prelude.{◌≡◌, ◌<◌, ◌≤◌, ℕ, Bool, true, false, not, ◌||◌, drop, find, fold, is_some, length, take, if◌then◌else◌, List, [], ◌∷◌, ◌++◌, Option, Some, None}
use Rattle.std.specs.Option.{option_map_or}
use Rattle.std.proofs.Common.{refl, sym, ap, ◌∙◌, subst, arith}
use Rattle.std.proofs.lemmas.List.{take-append-le, take_all}
use Rattle.std.proofs.lemmas.Bool.{and_from, and_parts, or_left, or_right}
use Rattle.mx_base.specs.declared.names.LinkId.{LinkId}
use Rattle.mx_base.specs.declared.tag.Tag.{Tag}
use Rattle.mx_wire.specs.Log.{Log, is_open}
use Rattle.mx_wire.specs.Moments.{AllLawful, AtEachMoment, LawfulAfter}
use Rattle.mx_wire.specs.Tells.{Fits}
use Rattle.mx_wire.specs.declared.entry.Entry.{Entry}
use Rattle.packet_frame.specs.Packets.{spelling}
use Rattle.ready_loop.specs.Drained.{write_dry}
use Rattle.server_rule.specs.Servers.{is_some_of}
use Rattle.server_side.specs.Account.{Account as Login}
use Rattle.private_model.specs.Story.{Question, command_of, is_link_id}
use Rattle.private_model.specs.View.{Answered, Asked, Carried, Joined, Lent, Link, Nobody, Quiet, Stage, no_link}
use Rattle.log_story.specs.Honest.{IsFront, IsStep, number_for}
use Rattle.log_story.specs.Plan.{Asks, Closes, Plan, Resets, StepText, step_payload}
use Rattle.log_story.specs.Servers.{is_quiet, may_begin, written_in}
use Rattle.log_story.specs.Tale.{Client, Wire, first_tale, is_reset_step, is_to_server}
use Rattle.log_story.specs.Telling.{tale_step}
use Rattle.tale_world.specs.Deciding.{World}
use Rattle.tale_world.specs.Tested.{IsTested}
use Rattle.tale_world.proofs.Lawfully.{IsSound, lost_in, sound_so}
use Rattle.router_promises.specs.Closes.{has_bytes, is_joined, is_spoilt}
use Rattle.router_promises.specs.Now.{was_lost, wire_now}
use Rattle.router_promises.specs.Rest.{IsBegunWhole, is_answered_on, owes_capture, owes_reset}
use Rattle.router_promises.specs.Tags.{last_tag}
use Rattle.router_promises.specs.Terms.{tale_at}
use Rattle.shared_router.specs.Fixed.{Fixed, IsNumbered, setup_of}
use Rattle.shared_router.specs.Known.{Known, known, link_by, setup_by}
use Rattle.shared_router.specs.More.{More}
use Rattle.shared_router.specs.Ours.{IsOurLog, IsOurs, MayWait}
use Rattle.shared_router.specs.Owed.{Owed, begun_there, farewell, is_to_quit, nothing_owed, owed_on, owed_on_client, owed_on_server, owed_rest, owed_there}
use Rattle.shared_router.specs.Shared.{final_terms, world_at}
use Rattle.run_laws.specs.Reads.{ReadsAsked}
use Rattle.shared_router.specs.Spelt.{RunsRead, RunsReadSo, question_spelt}
use Rattle.shared_router.specs.Waited.{AreWhole, AsItWaits, AskNothing, OwesNoStep}
use Rattle.shared_router.proofs.Calming.{left_false, nothing_closes, right_false, stays_open, then_false}
use Rattle.shared_router.proofs.Greeting.{all_of}
use Rattle.shared_router.proofs.Along.{IsAt, as_it_waits, moment_at}
use Rattle.shared_router.proofs.Closed.{open_unlost}
use Rattle.shared_router.proofs.Keeping.{tested, tested_before}
use Rattle.shared_router.proofs.Parting.{tale_then}
use Rattle.shared_router.proofs.Pausing.{MayAsk, owes_none}
use Rattle.shared_router.proofs.Saying.{last_plan, stands_at}
use Rattle.shared_router.proofs.Spelling.{Cleanly, IsStanding, Stood, is_mute, text_of_step, text_on}
use Rattle.shared_router.proofs.Standing.{On}
use Rattle.shared_router.proofs.Wholly.{empty_rest, spelt_rest, whole_front, whole_so}
use Rattle.shared_router.proofs.Staying.{log_at}
use Rattle.shared_router.proofs.Written.{IsTagged, tagged_at}

isnt : {A : Type 0} → false ≡ true → A
isnt is = absurd (cc)

no_step : {A : Type 0} (step : StepText) → None ≡ Some step → A
no_step step is = absurd (cc)

quiet_is : (stage : Stage) → is_quiet stage ≡ true → stage ≡ Quiet
quiet_is Quiet is = refl
quiet_is (Asked question) is = isnt is
quiet_is (Answered question) is = isnt is

none_of : (xs : List ℕ) → not (is_some_of xs) ≡ true → xs ≡ []
none_of [] is = refl
none_of (x ∷ xs) is = isnt is

none_left : (b c : Bool) → (b ≡ true → c ≡ true) → c ≡ false → b ≡ false
none_left false c full dry = refl
none_left true c full dry = isnt (sym dry ∙ full refl)

front_none : (written : List ℕ) → IsFront written [] → written ≡ []
front_none [] front = refl
front_none (x ∷ xs) front = absurd (let is : x ∷ (xs ++ front.rest) ≡ [] = front.is in cc)

module _ (k : Known) (link : LinkId) (login : Login) where
  abbrev wire : Wire
  wire = wire_now k.now link

  abbrev there : Link
  there = link_by k link

  abbrev begins_now : Bool
  begins_now = may_begin (setup_by k) link wire k.now.tale

  -- What stands there is a front of its one spelling, and has a tag; it is no link where the router isn't logged in, else it is of use.
  pub record IsKnown : Type 0 where
    pub stood : Stood k.terms.router wire login there
    pub tagged : IsTagged link k.log wire
    pub fresh : wire.entered ≡ false → there ≡ no_link
    pub used : wire.entered ≡ true → there.usable ≡ true

  module _ (so : IsKnown) (may : MayWait k) (to_server : is_to_server k.now.tale link ≡ true) (opened : is_open link k.log ≡ true) (goes : write_dry link k.log ≡ false) where
    stays : wire.quits ≡ false
    stays = left_false wire.quits (is_to_quit k link) (then_false (is_open link k.log) (wire.quits || is_to_quit k link) (stays_open k may.acted link to_server) opened)

    none_owed : has_bytes (owed_on k link).bytes ≡ false
    none_owed = none_left (has_bytes (owed_on k link).bytes) (write_dry link k.log) (may.written link opened) goes

    -- once a question began, the rest of it is owed
    owed_is : wire.entered ≡ true → begins_now ≡ false → owed_on k link ≡ owed_rest k link
    owed_is entered stands =
        ap by_server to_server
        ∙ ap (λ o. if option_map_or (is_link_id link) o false then farewell k link else owed_there k link wire.entered begins_now) (nothing_closes k may.acted)
        ∙ ap (λ b. owed_there k link b begins_now) entered
        ∙ ap (λ b. owed_there k link true b) stands
      where
        by_server : Bool → Owed
        by_server b = if b then owed_on_server k link else owed_on_client k (find (λ (client : Client). is_link_id client.link link) k.now.tale.clients)

    rest_none : wire.entered ≡ true → begins_now ≡ false → 0 < length wire.written → has_bytes (drop (length wire.written) (begun_there wire.step there.stage there)) ≡ false
    rest_none entered stands some = by_tag (last_tag link k.log) (so.tagged some) (ap (λ o. has_bytes o.bytes) (sym (owed_is entered stands)) ∙ none_owed) where
      by_tag : (o : Option Tag) → is_some o ≡ true
          → has_bytes (option_map_or (λ tag. record { tag = tag; bytes = drop (length wire.written) (begun_there wire.step there.stage there) }) o nothing_owed).bytes ≡ false
          → has_bytes (drop (length wire.written) (begun_there wire.step there.stage there)) ≡ false
      by_tag None is none = isnt is
      by_tag (Some tag) is none = none

    clean : wire.entered ≡ true → Cleanly k.terms.router wire there
    clean entered = subst (λ b. IsStanding k.terms.router b login wire there) entered so.stood

    -- a STMT_CLOSE or a STMT_RESET

    module _ (step : StepText) (at : wire.step ≡ Some step) (mute : is_mute (Some step) ≡ true)
        (text : (quits : Bool) → text_of_step quits (Some step) ≡ spelling 0 (step_payload step))
        (begun : (l : Link) → begun_there (Some step) Quiet l ≡ spelling 0 (step_payload step)) (small : length (step_payload step) ≤ 36893488147419103232) where
      its_login : wire.entered ≡ false → wire.entered ≡ true
      its_login out = (let standing : IsStanding k.terms.router false login wire there = subst (λ b. IsStanding k.terms.router b login wire there) out so.stood in no_step step (sym standing.begun ∙ at))

      entered : wire.entered ≡ true
      entered = by_test wire.entered refl where
        by_test : (b : Bool) → wire.entered ≡ b → wire.entered ≡ true
        by_test true is = is
        by_test false is = its_login is

      is_it : is_mute wire.step ≡ true
      is_it = ap is_mute at ∙ mute

      quiet : there.stage ≡ Quiet
      quiet = quiet_is there.stage ((clean entered).mute is_it).0

      front : IsFront wire.written (spelling 0 (step_payload step))
      front =
          subst (IsFront wire.written) (text wire.quits)
          (subst (λ s. IsFront wire.written (text_on wire.quits s Quiet there.live)) at
          (subst (λ (s : Stage). IsFront wire.written (text_on wire.quits wire.step s there.live)) quiet (clean entered).front))

      some : 0 < length wire.written
      some = (clean entered).some (or_left (is_mute wire.step) _ is_it)

      its_text : begun_there wire.step there.stage there ≡ spelling 0 (step_payload step)
      its_text = ap (λ s. begun_there s there.stage there) at ∙ ap (λ (s : Stage). begun_there (Some step) s there) quiet ∙ begun there

      step_whole : wire.written ≡ spelling 0 (step_payload step)
      step_whole = by_test begins_now refl where
        by_test : (b : Bool) → begins_now ≡ b → wire.written ≡ spelling 0 (step_payload step)
        by_test true begins =
            let parts = and_parts (is_quiet there.stage) _ (and_parts wire.entered _ begins).1 in
            whole_front (step_payload step) wire.written small front some (none_of (written_in wire.written).rest (and_parts (not (is_some_of (written_in wire.written).rest)) _ parts.1).0)
        by_test false stands =
            all_of wire.written (spelling 0 (step_payload step)) front (ap (λ whole. has_bytes (drop (length wire.written) whole)) (sym its_text) ∙ rest_none entered stands some)

      left_none : (written_in wire.written).rest ≡ []
      left_none = ap (λ written. (written_in written).rest) step_whole ∙ spelt_rest (step_payload step) small

    pub closed : IsStep wire.step wire.written
    closed = by_step wire.step refl where
      by_step : (o : Option StepText) → wire.step ≡ o → IsStep o wire.written
      by_step None at = tt
      by_step (Some (Asks command)) at = tt
      by_step (Some (Closes number)) at = step_whole (Closes number) at refl (λ quits. refl) (λ l. refl) (omega arith)
      by_step (Some (Resets number)) at = step_whole (Resets number) at refl (λ quits. refl) (λ l. refl) (omega arith)

    -- a question

    pub begun : ReadsAsked there.stage there.live → IsBegunWhole (setup_by k) k.now link there.stage
    begun reads = by_stage there.stage refl reads where
      asked_whole : (question : Question) → there.stage ≡ Asked question → wire.written ≡ question_spelt question there
      asked_whole question at = by_entered wire.entered refl where
        by_begins : wire.entered ≡ true → (b : Bool) → begins_now ≡ b → wire.written ≡ question_spelt question there
        by_begins in_it true begins = isnt (sym (ap is_quiet at) ∙ (and_parts (is_quiet there.stage) _ (and_parts wire.entered _ begins).1).0)
        by_begins in_it false stands =
            let some : 0 < length wire.written = (clean in_it).some (or_right (is_mute wire.step) _ (ap (λ (s : Stage). not (is_quiet s)) at)) in
            all_of wire.written (question_spelt question there)
            (subst (λ (s : Stage). IsFront wire.written (text_on wire.quits wire.step s there.live)) at (clean in_it).front)
            (ap (λ (s : Stage). has_bytes (drop (length wire.written) (begun_there wire.step s there))) (sym at) ∙ rest_none in_it stands some)

        by_entered : (b : Bool) → wire.entered ≡ b → wire.written ≡ question_spelt question there
        by_entered true is = by_begins is begins_now refl
        by_entered false is = isnt (sym (ap is_quiet at) ∙ ap (λ (x : Link). is_quiet x.stage) (so.fresh is))

      by_stage : (stage : Stage) → there.stage ≡ stage → ReadsAsked stage there.live → IsBegunWhole (setup_by k) k.now link stage
      by_stage Quiet at reads = tt
      by_stage (Answered question) at reads = tt
      by_stage (Asked question) at reads = whole_so (command_of question) (number_for question there.live) wire.written reads (asked_whole question at)

    -- where all is answered a question may begin

    -- the router is logged in on one that carries a session
    pub joined_entered : is_joined there.carries ≡ true → wire.entered ≡ true
    joined_entered joined = by_test wire.entered refl where
      by_test : (b : Bool) → wire.entered ≡ b → wire.entered ≡ true
      by_test true is = is
      by_test false is = isnt (sym (ap (λ (x : Link). is_joined x.carries) (so.fresh is)) ∙ joined)

    module _ (answered : is_answered_on (setup_by k) k.now link ≡ true) (logged_in : wire.entered ≡ true) where
      parts : (is_quiet there.stage ≡ true) × (not (is_reset_step wire.step) ≡ true)
      parts = and_parts (is_quiet there.stage) (not (is_reset_step wire.step)) answered

      -- nothing stands there in part
      none_behind : (text_of_step false wire.step ≡ []) → (written_in wire.written).rest ≡ []
      none_behind none =
          let front : IsFront wire.written (text_of_step wire.quits wire.step) =
          subst (λ (s : Stage). IsFront wire.written (text_on wire.quits wire.step s there.live)) (quiet_is there.stage parts.0) (clean logged_in).front in
          let nothing : wire.written ≡ [] = front_none wire.written (subst (IsFront wire.written) none (subst (λ b. IsFront wire.written (text_of_step b wire.step)) stays front)) in
          ap (λ written. (written_in written).rest) nothing ∙ empty_rest

      all_behind : (written_in wire.written).rest ≡ []
      all_behind = by_step wire.step refl where
        by_step : (o : Option StepText) → wire.step ≡ o → (written_in wire.written).rest ≡ []
        by_step None at = none_behind (ap (text_of_step false) at)
        by_step (Some (Asks command)) at = none_behind (ap (text_of_step false) at)
        by_step (Some (Closes number)) at = left_none (Closes number) at refl (λ quits. refl) (λ l. refl) (omega arith)
        by_step (Some (Resets number)) at = left_none (Resets number) at refl (λ quits. refl) (λ l. refl) (omega arith)

      pub may_ask : MayAsk k.terms k.now link
      may_ask = record {
        begins = and_from wire.entered _ logged_in (and_from (is_quiet there.stage) _ parts.0
            (and_from (not (is_some_of (written_in wire.written).rest)) _ (ap (λ xs. not (is_some_of xs)) all_behind) parts.1));
        whole = closed;
        stays = stays;
        usable = so.used logged_in;
      }

-- By the last terms.

module _ (fixed : Fixed) (numbered : IsNumbered fixed) (log : Log) (our : IsOurLog fixed log) where
  module _ (before later : Log) (e : Entry) (at : IsAt log before e later) (may : MayWait (known fixed (world_at fixed before))) (link : LinkId)
      (to_server : is_to_server (world_at fixed before).tale link ≡ true) (opened : is_open link (world_at fixed before).more.log ≡ true) where
    abbrev w : World More
    w = world_at fixed before

    abbrev k : Known
    k = known fixed w

    abbrev plan : Plan
    plan = last_plan fixed numbered log

    cut : take (length before) log ≡ before
    cut = ap (take (length before)) (sym at.is) ∙ take-append-le (length before) before (e ∷ later) (omega arith) ∙ take_all (length before) before (omega arith)

    same : fold (tale_step (setup_of fixed) plan) first_tale before ≡ w.tale
    same = subst (λ (l : Log). tale_at (final_terms fixed l) before ≡ w.tale) at.is (tale_then fixed before (e ∷ later))

    sound : IsSound (setup_of fixed) plan (lost_in before) w.tale
    sound = subst (IsSound (setup_of fixed) plan (lost_in before)) same
        (sound_so (setup_of fixed) plan before
        (subst (λ (l : Log). IsTested (setup_of fixed) plan l) cut (tested_before (setup_of fixed) plan (length before) log first_tale (tested fixed log (let few : length log < 281474976710656 = our.bounded in omega (arith, few)) our.ours our.fits))))

    stands : On fixed.router (setup_of fixed) plan w.tale
    stands = subst (λ (l : Log). On fixed.router (setup_of fixed) (last_plan fixed numbered l) w.tale) at.is
        (stands_at fixed numbered before (e ∷ later)
        (let few : length log < 281474976710656 = our.bounded in let long : length (before ++ e ∷ later) ≡ length log = ap length at.is in omega (arith, few, long))
        (subst (LawfulAfter (IsOurs fixed) []) (sym at.is) our.ours) (subst (LawfulAfter Fits []) (sym at.is) our.fits))

    unlost : was_lost w.more.log link ≡ false
    unlost =
        let rest : Bool = is_spoilt k.terms w.more.log k.now link in
        let kept = then_false (is_open link w.more.log) ((w.tale.wires link).quits || is_to_quit k link) (stays_open k may.acted link to_server) opened in
        left_false (was_lost w.more.log link) _ (left_false rest _ (right_false (w.tale.wires link).quits (is_to_quit k link) kept))

    pub known_so : IsKnown k link (plan.logins link)
    known_so = record {
      stood = stands link to_server;
      tagged = subst (λ (l : Log). IsTagged link l (w.tale.wires link)) (sym (log_at fixed before)) (tagged_at link fixed before);
      fresh = sound.fresh link;
      used = λ entered. sound.used link entered
          (open_unlost link before (subst (λ (l : Log). is_open link l ≡ true) (log_at fixed before) opened)
          (subst (λ (l : Log). was_lost l link ≡ false) (log_at fixed before) unlost) at.so_far);
    }

  pub are_whole : AtEachMoment (RunsReadSo (final_terms fixed log)) log → AllLawful (AsItWaits AreWhole (final_terms fixed log)) log
  are_whole reads = as_it_waits fixed numbered log AreWhole (λ before later e at may link to_server opened goes.
      let k = known fixed (world_at fixed before) in
      let so = known_so before later e at may link to_server opened in
      let there = moment_at (RunsReadSo (final_terms fixed log)) before (e ∷ later) log at.is reads in
      let now : RunsRead (setup_of fixed) (world_at fixed before).tale =
      subst (RunsRead (setup_of fixed)) (same before later e at may link to_server opened) there in
      record {
        begun = begun k link ((last_plan fixed numbered log).logins link) so may to_server opened goes (now link to_server);
        closed = closed k link ((last_plan fixed numbered log).logins link) so may to_server opened goes;
      }) our

  pub asks_nothing : AllLawful (AsItWaits AskNothing (final_terms fixed log)) log
  asks_nothing = as_it_waits fixed numbered log AskNothing (λ before later e at may link to_server opened goes answered.
      let w : World More = world_at fixed before in
      let login : Login = (last_plan fixed numbered log).logins link in
      let so = known_so before later e at may link to_server opened in
      by_carries w link (link_by (known fixed w) link).carries refl (λ joined.
      owes_none (known fixed w) link may to_server opened goes
      (may_ask (known fixed w) link login so may to_server opened goes answered (joined_entered (known fixed w) link login so may to_server opened goes joined)))) our
    where
      by_carries : (w : World More) (link : LinkId) (carried : Carried) → (link_by (known fixed w) link).carries ≡ carried
          → (is_joined (link_by (known fixed w) link).carries ≡ true → OwesNoStep (known fixed w).terms (known fixed w).now link)
          → OwesNoStep (final_terms fixed log) (known fixed w).now link
      by_carries w link Nobody is none = record { reset = ap (owes_reset (setup_of fixed) (known fixed w).now) is; capture = ap (owes_capture (setup_of fixed) (known fixed w).now) is }
      by_carries w link (Lent n) is none = record { reset = ap (owes_reset (setup_of fixed) (known fixed w).now) is; capture = ap (owes_capture (setup_of fixed) (known fixed w).now) is }
      by_carries w link (Joined n) is none = (let owes = none (ap is_joined is) in record { reset = owes.reset; capture = owes.capture })
