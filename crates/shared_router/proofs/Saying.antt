-- What is written on each link to a server is a front of its one spelling.
use Rattle.std.specs.Prelude.{◌≡◌, ◌<◌, ℕ, zero, suc, ◌+◌, Bool, true, false, not, ◌&&◌, ◌||◌, drop, find, if◌then◌else◌, length, take, List, [], ◌∷◌, ◌++◌, Option, Some, None}
use Rattle.std.specs.Option.{option_map_or}
use Rattle.std.proofs.Common.{refl, sym, ap, ◌∙◌, subst, append_assoc, append-nil, arith, length-append}
use Rattle.std.proofs.lemmas.List.{take-append-drop, take-append-le, take_all}
use Rattle.mx_base.specs.declared.names.LinkId.{LinkId}
use Rattle.mx_base.specs.declared.tag.Tag.{Tag}
use Rattle.mx_base.specs.declared.tag.Tag.TheVariants as tags
use Rattle.mx_wire.specs.Log.{Log}
use Rattle.mx_wire.specs.Moments.{AtEachMoment, LawfulAfter}
use Rattle.mx_wire.specs.Tells.{Fits}
use Rattle.mx_wire.specs.declared.entry.Entry.{Entry}
use Rattle.mx_wire.specs.declared.entry.Entry.TheVariants as entry
use Rattle.packet_frame.specs.Packets.{spelling}
use Rattle.private_model.specs.Commands.{Command, FieldList, InitDb, Prepare, Query, Quit, ReadId, Reset, Run, SetId}
use Rattle.private_model.specs.Story.{command_of, is_link_id}
use Rattle.private_model.specs.View.{Answered, Asked, Link, Quiet, Setup, Stage}
use Rattle.server_side.specs.Account.{Account as Login}
use Rattle.server_side.specs.Login.{opening, said_of}
use Rattle.log_story.specs.Honest.{IsFront, IsWritten, number_for}
use Rattle.log_story.specs.Plan.{Asks, Closes, Plan, Resets, StepText, text_payload}
use Rattle.log_story.specs.Said.{Begins, IsNothing, IsQuestion, IsSaid, IsStepText, SaysSo}
use Rattle.log_story.specs.Servers.{is_quiet, may_begin, quits_for, step_for}
use Rattle.log_story.specs.Tale.{Client, Tale, Wire, is_to_server, link_in, view_of}
use Rattle.log_story.specs.Telling.{tale_step}
use Rattle.tale_world.specs.Decided.{Agrees, plan_of}
use Rattle.tale_world.specs.Deciding.{World}
use Rattle.tale_world.specs.Wishes.{Wish}
use Rattle.tale_world.proofs.Following as following
use Rattle.tale_world.proofs.Following.{stepped}
use Rattle.router_promises.specs.Headline as headline
use Rattle.router_promises.specs.Now.{was_lost}
use Rattle.router_promises.specs.Router.{Router}
use Rattle.router_promises.specs.Running.{hostgroup_of, is_entering, opening_on}
use Rattle.router_promises.specs.Tags.{last_tag}
use Rattle.router_promises.specs.Terms.{tale_at}
use Rattle.shared_router.specs.Fixed.{Fixed, IsNumbered, setup_of}
use Rattle.shared_router.specs.Known.{Known, known}
use Rattle.shared_router.specs.More.{More}
use Rattle.shared_router.specs.Ours.{IsOurs, Writes}
use Rattle.shared_router.specs.Owed.{Owed, begun_there, closes, is_whole_step, nothing_owed, owed_next, owed_on_client, owed_there, step_by}
use Rattle.shared_router.specs.Shared.{final_terms, shared, world_at}
use Rattle.run_laws.specs.Reads.{ReadsAsked, ReadsRun}
use Rattle.shared_router.specs.Spelt.{RunsRead, RunsReadSo, spelt}
use Rattle.shared_router.specs.Wishes.{wish_on, wish_step, wish_tag}
use Rattle.shared_router.proofs.Decidedly.{AreDecided}
use Rattle.shared_router.proofs.Lasting.{alike_at}
use Rattle.shared_router.proofs.Parting.{agrees_then, even_at, tale_then, world_more}
use Rattle.shared_router.proofs.Passing.{no_front, step_told}
use Rattle.shared_router.proofs.Prompting.{IsReached, first_reached, reached_next}
use Rattle.shared_router.proofs.Routing.{agrees_behind}
use Rattle.shared_router.proofs.Speaking.{Right, quit_starts, tells_same}
use Rattle.shared_router.proofs.Spelling.{Cleanly, IsEntering, IsStanding, is_mute, text_on}
use Rattle.shared_router.proofs.Standing.{On, Starts, WritesThere, WritesWell, first_stands, step_stands}
use Rattle.shared_router.proofs.Stepping.{AreBegun, none_begun}
use Rattle.shared_router.proofs.Voicing.{wish_well}
use Rattle.shared_router.proofs.Wishing.{wished}

isnt : {A : Type 0} → false ≡ true → A
isnt is = absurd (cc)

left_of : (a b : Bool) → (a && b) ≡ true → a ≡ true
left_of true b is = refl
left_of false b is = isnt is

quiet_is : (stage : Stage) → is_quiet stage ≡ true → stage ≡ Quiet
quiet_is Quiet is = refl
quiet_is (Asked question) is = isnt is
quiet_is (Answered question) is = isnt is

-- Bytes go on with a front.

dropped : (xs ys : List ℕ) → drop (length xs) (xs ++ ys) ≡ ys
dropped [] ys = refl
dropped (x ∷ xs) ys = dropped xs ys

dropped_none : (n : ℕ) → drop {A = ℕ} n [] ≡ []
dropped_none zero = refl
dropped_none (suc n) = refl

pub on_front : (written bytes whole : List ℕ) → IsFront written whole → IsFront bytes (drop (length written) whole) → IsFront (written ++ bytes) whole
on_front written bytes whole old new =
    let rest : drop (length written) whole ≡ old.rest = ap (drop (length written)) (sym old.is) ∙ dropped written old.rest in
    record { rest = new.rest; is = append_assoc written bytes new.rest ∙ ap (λ (xs : List ℕ). written ++ xs) (new.is ∙ rest) ∙ old.is }

none_more : {A : Type 0} (written bytes : List ℕ) → IsFront bytes (drop (length written) []) → 0 < length bytes → A
none_more written bytes front some = no_front bytes (subst (IsFront bytes) (dropped_none (length written)) front) some

rest_front : (written bytes : List ℕ) (quits : Bool) (step : Option StepText) (stage : Stage) (link : Link) → IsFront written (text_on quits step stage link.live)
    → IsFront bytes (drop (length written) (begun_there step stage link)) → 0 < length bytes → IsFront (written ++ bytes) (text_on quits step stage link.live)
rest_front written bytes quits step (Asked question) link old new some = on_front written bytes _ old new
rest_front written bytes quits step (Answered question) link old new some = on_front written bytes _ old new
rest_front written bytes quits None Quiet link old new some = none_more written bytes new some
rest_front written bytes quits (Some (Asks command)) Quiet link old new some = none_more written bytes new some
rest_front written bytes quits (Some (Closes number)) Quiet link old new some = on_front written bytes _ old new
rest_front written bytes quits (Some (Resets number)) Quiet link old new some = on_front written bytes _ old new

-- What stands there as the promise says it.

reads_whole : (command : Command) (number : Option ℕ) → ReadsRun command number → IsWritten command number (spelt command number)
reads_whole (Run text schema settings args) number reads = reads
reads_whole (Query text) number reads = refl
reads_whole (InitDb schema) number reads = refl
reads_whole (FieldList rest) number reads = refl
reads_whole (SetId n) number reads = refl
reads_whole ReadId number reads = refl
reads_whole (Prepare text) number reads = refl
reads_whole Reset number reads = refl
reads_whole Quit number reads = refl

begins_so : (command : Command) (number : Option ℕ) (written : List ℕ) → ReadsRun command number → IsFront written (spelt command number) → Begins command number written
begins_so command number written reads front =
    record { more = front.rest; all = subst (IsWritten command number) (sym front.is) (reads_whole command number reads) }

question_so : (quits : Bool) (step : Option StepText) (stage : Stage) (live : ℕ → Option ℕ) (written : List ℕ) → ReadsAsked stage live → IsFront written (text_on quits step stage live)
    → IsQuestion stage live written
question_so quits step Quiet live written reads front = tt
question_so quits step (Asked question) live written reads front = begins_so (command_of question) (number_for question live) written reads front
question_so quits step (Answered question) live written reads front = begins_so (command_of question) (number_for question live) written reads front

step_so : (quits : Bool) (step : Option StepText) (live : ℕ → Option ℕ) (written : List ℕ) → (is_mute step ≡ true → IsFront written (text_on quits step Quiet live)) → IsStepText step written
step_so quits None live written front = tt
step_so quits (Some (Asks command)) live written front = tt
step_so quits (Some (Closes number)) live written front = front refl
step_so quits (Some (Resets number)) live written front = front refl

quit_so : (quits : Bool) (step : Option StepText) (live : ℕ → Option ℕ) (written : List ℕ) → quits ≡ true → (is_mute step ≡ true → quits ≡ false)
    → IsFront written (text_on quits step Quiet live) → IsFront written (spelling 0 (text_payload Quit))
quit_so true None live written is mute front = front
quit_so true (Some (Asks command)) live written is mute front = front
quit_so true (Some (Closes number)) live written is mute front = isnt (sym (mute refl))
quit_so true (Some (Resets number)) live written is mute front = isnt (sym (mute refl))
quit_so false step live written is mute front = isnt is

none_of : (written : List ℕ) → IsFront written [] → written ≡ []
none_of [] front = refl
none_of (byte ∷ written) front = absurd (let is : byte ∷ (written ++ front.rest) ≡ [] = front.is in cc)

nothing_so : (quits : Bool) (step : Option StepText) (stage : Stage) (live : ℕ → Option ℕ) (written : List ℕ) → quits ≡ false → IsFront written (text_on quits step stage live)
    → IsNothing stage step written
nothing_so true step stage live written is front = isnt (sym is)
nothing_so false None Quiet live written is front = none_of written front
nothing_so false (Some (Asks command)) Quiet live written is front = none_of written front
nothing_so false (Some (Closes number)) Quiet live written is front = tt
nothing_so false (Some (Resets number)) Quiet live written is front = tt
nothing_so false step (Asked question) live written is front = tt
nothing_so false step (Answered question) live written is front = tt

standing_said : (router : Router) (entered : Bool) (login : Login) (wire : Wire) (link : Link) → ReadsAsked link.stage link.live → IsStanding router entered login wire link → IsSaid entered login wire link
standing_said router false login wire link reads stood = stood.front
standing_said router true login wire link reads stood =
    let at_quiet : is_quiet link.stage ≡ true → IsFront wire.written (text_on wire.quits wire.step Quiet link.live) =
    λ quiet. subst (λ (s : Stage). IsFront wire.written (text_on wire.quits wire.step s link.live)) (quiet_is link.stage quiet) stood.front in
    record {
      question = question_so wire.quits wire.step link.stage link.live wire.written reads stood.front;
      step = step_so wire.quits wire.step link.live wire.written (λ mute. at_quiet (stood.mute mute).0);
      quit = λ quits. quit_so wire.quits wire.step link.live wire.written quits (λ mute. (stood.mute mute).1) (at_quiet (stood.ends quits));
      nothing = λ stays. nothing_so wire.quits wire.step link.stage link.live wire.written stays stood.front;
    }

pub says_so : (router : Router) (setup : Setup) (plan : Plan) (tale : Tale) → RunsRead setup tale → On router setup plan tale → SaysSo setup plan tale
says_so router setup plan tale reads all link there =
    standing_said router (tale.wires link).entered (plan.logins link) (tale.wires link) (link_in setup tale link) (reads link there) (all link there)

module _ (fixed : Fixed) (numbered : IsNumbered fixed) where
  abbrev setup : Setup
  setup = setup_of fixed

  module _ (before later : Log) (link : LinkId) (tag : Tag) (bytes : List ℕ) (begun : AreBegun fixed (world_at fixed before)) where
    abbrev e : Entry
    e = entry.Wrote link tag bytes

    abbrev log : Log
    log = before ++ e ∷ later

    abbrev w : World More
    w = world_at fixed before

    abbrev k : Known
    k = known fixed w

    abbrev plan : Plan
    plan = plan_of (world_at fixed log).decided

    abbrev wire : Wire
    wire = w.tale.wires link

    abbrev there : Link
    there = (view_of setup w.tale).links link

    abbrev begins_now : Bool
    begins_now = may_begin setup link wire w.tale

    step_is : is_to_server w.tale link ≡ true → begins_now ≡ true → plan.steps link wire.begun ≡ step_by k link
    step_is to_server begins =
        let here : following.IsStep setup (shared fixed) w e plan = stepped setup (shared fixed) w e plan (even_at fixed before) (agrees_behind fixed numbered before later e log refl) in
        here.told.steps link wire.begun (step_by k link)
        (step_told fixed w link tag bytes (is_to_server w.tale link) begins_now to_server begins (none_begun fixed w link begun))

    abbrev Owes : Owed → Type 0
    Owes owed = IsFront bytes owed.bytes × (tag ≡ owed.tag)

    -- what was begun as it is known
    finish : (other : Tag) (step : StepText) → tag ≡ other → plan.steps link wire.begun ≡ step → Right fixed w plan link bytes other step → WritesThere fixed.router setup plan true link tag bytes w.tale
    finish other step same is right =
        let by_step : Right fixed w plan link bytes other (plan.steps link wire.begun) = subst (Right fixed w plan link bytes other) (sym is) right in
        let by_tag : Right fixed w plan link bytes tag (plan.steps link wire.begun) =
        subst (λ t. Right fixed w plan link bytes t (plan.steps link wire.begun)) (sym same) by_step in
        subst (Starts link bytes (hostgroup_of fixed.router wire.server) (wire.quits || quits_for tag (plan.steps link wire.begun)) (step_for tag (plan.steps link wire.begun)) there.live)
        (tells_same fixed w plan link bytes tag) by_tag

    agrees : Agrees w.decided w.tale.moment plan
    agrees = agrees_then fixed before (e ∷ later)

    -- a QUIT

    abbrev parting : Bool → Owed
    parting b = if b then record { tag = tags.Own; bytes = spelling 0 (text_payload Quit) } else nothing_owed

    abbrev farewell_test : Bool
    farewell_test = begins_now && (not wire.quits && (not (was_lost w.more.log link) && is_whole_step wire.step wire.written))

    parting_so : (b : Bool) → IsFront bytes (parting b).bytes → 0 < length bytes → b ≡ true
    parting_so true front some = refl
    parting_so false front some = no_front bytes front some

    farewell_well : closes k link ≡ true → is_to_server w.tale link ≡ true → begins_now ≡ true → Owes (parting farewell_test) → 0 < length bytes
        → WritesThere fixed.router setup plan true link tag bytes w.tale
    farewell_well closing to_server begins owes some =
        let told : farewell_test ≡ true = parting_so farewell_test owes.0 some in
        let own : tag ≡ tags.Own = owes.1 ∙ ap (λ b. (parting b).tag) told in
        let front : IsFront bytes (spelling 0 (text_payload Quit)) = subst (λ b. IsFront bytes (parting b).bytes) told owes.0 in
        let step : plan.steps link wire.begun ≡ Asks Quit =
        step_is to_server begins ∙ ap (λ b. if b then Asks Quit else option_map_or wish_step (wish_on k link) (Closes 0)) closing in
        finish tags.Own (Asks Quit) own step (quit_starts fixed w plan link bytes front)

    -- what is wished

    module _ (closing : closes k link ≡ false) (to_server : is_to_server w.tale link ≡ true) (begins : begins_now ≡ true)
        (decided : AreDecided w.decided (view_of setup w.tale)) (clean : Cleanly fixed.router wire there) (some : 0 < length bytes) where
      wish_case : (o : Option Wish) → wish_on k link ≡ o → Owes (owed_next k link o) → WritesThere fixed.router setup plan true link tag bytes w.tale
      wish_case None at owes = no_front bytes owes.0 some
      wish_case (Some wish) at owes =
          let step : plan.steps link wire.begun ≡ wish_step wish =
          step_is to_server begins ∙ ap (λ b. if b then Asks Quit else option_map_or wish_step (wish_on k link) (Closes 0)) closing
          ∙ ap (λ o. option_map_or wish_step o (Closes 0)) at in
          finish (wish_tag k wish) (wish_step wish) owes.1 step
          (wish_well fixed w plan link bytes decided agrees clean.carried wish (wished k link wish at) owes.0)

      whole_case : (b : Bool) → Owes (if b then owed_next k link (wish_on k link) else nothing_owed) → WritesThere fixed.router setup plan true link tag bytes w.tale
      whole_case true owes = wish_case (wish_on k link) refl owes
      whole_case false owes = no_front bytes owes.0 some

    -- what goes on

    abbrev more : Wire
    more = record wire { written = wire.written ++ bytes }

    login_case : (b : Bool) → IsFront bytes (if b then record { tag = tags.Own; bytes = drop (length wire.written) (said_of (opening_on k.terms w.tale link)) } else nothing_owed).bytes
        → 0 < length bytes → plan.logins link ≡ (plan_of w.decided).logins link → IsEntering (plan.logins link) wire → IsEntering (plan.logins link) more
    login_case true front some same old = record {
      front = on_front wire.written bytes (said_of (opening (plan.logins link) wire.unread)) old.front
          (subst (λ (l : Login). IsFront bytes (drop (length wire.written) (said_of (opening l wire.unread)))) (sym same) front);
      begun = old.begun;
      stays = old.stays;
    }
    login_case false front some same old = no_front bytes front some

    rest_case : (last : Option Tag) → IsFront bytes (option_map_or (λ t. record { tag = t; bytes = drop (length wire.written) (begun_there wire.step there.stage there) }) last nothing_owed).bytes
        → 0 < length bytes → Cleanly fixed.router wire there → Cleanly fixed.router more there
    rest_case None front some old = no_front bytes front some
    rest_case (Some t) front some old =
        record {
          front = rest_front wire.written bytes wire.quits wire.step there.stage there old.front front some;
          mute = old.mute;
          ends = old.ends;
          stands = old.stands;
          carried = old.carried;
          some = λ begun. (let long = length-append wire.written bytes in omega (arith, long, some));
        }

    module _ (to_server : is_to_server w.tale link ≡ true) (decided : AreDecided w.decided (view_of setup w.tale))
        (some : 0 < length bytes) (fits : LawfulAfter Fits before (e ∷ later)) (on : On fixed.router setup plan w.tale) where
      stood : (entered : Bool) → wire.entered ≡ entered → IsStanding fixed.router entered (plan.logins link) wire there
      stood entered is = subst (λ b. IsStanding fixed.router b (plan.logins link) wire there) is (on link to_server)

      by_all : (c entered begins : Bool) → closes k link ≡ c → wire.entered ≡ entered → begins_now ≡ begins
          → Owes (if c then parting farewell_test else owed_there k link entered begins) → WritesThere fixed.router setup plan begins link tag bytes w.tale
      by_all true entered true closing in_it begin owes = farewell_well closing to_server begin owes some
      by_all true entered false closing in_it begin owes = isnt (sym begin ∙ left_of begins_now _ (parting_so farewell_test owes.0 some))
      by_all false false true closing in_it begin owes = isnt (sym in_it ∙ left_of wire.entered _ begin)
      by_all false false false closing in_it begin owes =
          subst (λ b. IsStanding fixed.router b (plan.logins link) more there) (sym in_it)
          (login_case (is_entering k.terms w.tale link) owes.0 some ((alike_at fixed numbered before (e ∷ later) fits).logins link to_server) (stood false in_it))
      by_all false true true closing in_it begin owes =
          whole_case closing to_server begin decided (stood true in_it) some (is_whole_step wire.step wire.written) owes
      by_all false true false closing in_it begin owes =
          subst (λ b. IsStanding fixed.router b (plan.logins link) more there) (sym in_it) (rest_case (last_tag link w.more.log) owes.0 some (stood true in_it))

    abbrev owed_by : (is_server c entered begins : Bool) → Owed
    owed_by is_server c entered begins =
        if is_server then (if c then parting farewell_test else owed_there k link entered begins)
        else owed_on_client k (find (λ (client : Client). is_link_id client.link link) w.tale.clients)

    writes_well : Writes k link tag bytes → AreDecided w.decided (view_of setup w.tale) → LawfulAfter Fits before (e ∷ later)
        → On fixed.router setup plan w.tale → WritesWell fixed.router setup plan w.tale e
    writes_well writes decided fits on = (
      fits.0.some,
      λ to_server.
          by_all to_server decided fits.0.some fits on (closes k link) wire.entered begins_now refl refl refl
          (subst (λ b. Owes (owed_by b (closes k link) wire.entered begins_now)) to_server (writes.front, writes.tagged)),
    )

  abbrev pub last_plan : Log → Plan
  last_plan log = plan_of (world_at fixed log).decided

  well_so : (before later : Log) (e : Entry) → AreBegun fixed (world_at fixed before) → IsOurs fixed before e → LawfulAfter Fits before (e ∷ later)
      → AreDecided (world_at fixed before).decided (view_of setup (world_at fixed before).tale)
      → On fixed.router setup (last_plan (before ++ e ∷ later)) (world_at fixed before).tale
      → WritesWell fixed.router setup (last_plan (before ++ e ∷ later)) (world_at fixed before).tale e
  well_so before later (entry.Wrote link tag bytes) begun ours fits decided on = writes_well before later link tag bytes begun ours decided fits on
  well_so before later _ begun ours fits decided on = tt

  same_step : (before later whole : Log) (e : Entry) → before ++ e ∷ later ≡ whole
      → (world_at fixed (before ++ e ∷ [])).tale ≡ tale_step setup (last_plan whole) (world_at fixed before).tale e
  same_step before later whole e is =
      ap (λ (v : World More). v.tale) (world_more fixed before (e ∷ []))
      ∙ (stepped setup (shared fixed) (world_at fixed before) e (last_plan whole) (even_at fixed before) (agrees_behind fixed numbered before later e whole is)).same

  stands_from : (before later whole : Log) (n j : ℕ) → before ++ later ≡ whole → n + length later < 18446744073709551616 → IsReached fixed n before
      → LawfulAfter (IsOurs fixed) before later → LawfulAfter Fits before later → On fixed.router setup (last_plan whole) (world_at fixed before).tale
      → On fixed.router setup (last_plan whole) (world_at fixed (before ++ take j later)).tale
  stands_from before later whole n zero is small reached ours fits on =
      subst (λ (l : Log). On fixed.router setup (last_plan whole) (world_at fixed l).tale) (sym (append-nil before)) on
  stands_from before [] whole n (suc j) is small reached ours fits on =
      subst (λ (l : Log). On fixed.router setup (last_plan whole) (world_at fixed l).tale) (sym (append-nil before)) on
  stands_from before (e ∷ later) whole n (suc j) is small reached ours fits on =
      let w : World More = world_at fixed before in
      let well : WritesWell fixed.router setup (last_plan whole) w.tale e = subst (λ (l : Log). WritesWell fixed.router setup (last_plan l) w.tale e) is
      (well_so before later e reached.begun ours.0 fits reached.held.decided (subst (λ (l : Log). On fixed.router setup (last_plan l) w.tale) (sym is) on)) in
      subst (λ (l : Log). On fixed.router setup (last_plan whole) (world_at fixed l).tale) (append_assoc before (e ∷ []) (take j later))
      (stands_from (before ++ e ∷ []) later whole (suc n) j (append_assoc before (e ∷ []) later ∙ is) (omega arith)
      (reached_next fixed n before e (omega arith) reached ours.0 fits.0) ours.1 fits.1
      (subst (λ (t : Tale). On fixed.router setup (last_plan whole) t) (sym (same_step before later whole e is)) (step_stands fixed.router setup (last_plan whole) w.tale e well on)))

  -- what stands on links at each moment
  pub stands_on : (log : Log) → length log < 18446744073709551616 → LawfulAfter (IsOurs fixed) [] log → LawfulAfter Fits [] log → (j : ℕ)
      → On fixed.router setup (last_plan log) (world_at fixed (take j log)).tale
  stands_on log small ours fits j = stands_from [] log log 0 j refl (omega arith) (first_reached fixed) ours fits (first_stands fixed.router setup (last_plan log))

  -- before each entry, by the last plan
  pub stands_at : (before later : Log) → length (before ++ later) < 18446744073709551616 → LawfulAfter (IsOurs fixed) [] (before ++ later)
      → LawfulAfter Fits [] (before ++ later) → On fixed.router setup (last_plan (before ++ later)) (world_at fixed before).tale
  stands_at before later small ours fits =
      let log : Log = before ++ later in
      let same : take (length before) log ≡ before = take-append-le (length before) before later (omega arith) ∙ take_all (length before) before (omega arith) in
      subst (λ (l : Log). On fixed.router setup (last_plan log) (world_at fixed l).tale) same (stands_on log small ours fits (length before))

  pub says_kept : (log : Log) → length log < 18446744073709551616 → LawfulAfter (IsOurs fixed) [] log → LawfulAfter Fits [] log
      → AtEachMoment (RunsReadSo (final_terms fixed log)) log → AtEachMoment (headline.SaysSo (final_terms fixed log)) log
  says_kept log small ours fits reads = λ j.
      let same : tale_at (final_terms fixed log) (take j log) ≡ (world_at fixed (take j log)).tale =
      subst (λ (l : Log). tale_at (final_terms fixed l) (take j log) ≡ (world_at fixed (take j log)).tale) (take-append-drop j log) (tale_then fixed (take j log) (drop j log)) in
      says_so fixed.router setup (last_plan log) (tale_at (final_terms fixed log) (take j log)) (reads j)
      (subst (λ (t : Tale). On fixed.router setup (last_plan log) t) (sym same) (stands_on log small ours fits j))
