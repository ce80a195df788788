-- What begins is a QUIT, or what is wished; so each entry of ours passes the test, where the step that begins wasn't decided before.
use Rattle.std.specs.Prelude.{◌≡◌, ◌<◌, ℕ, Bool, true, false, not, ◌&&◌, find, length, nat_eq, if◌then◌else◌, unwrap_or, List, [], ◌∷◌, ◌++◌, Option, Some, None}
use Rattle.std.specs.Option.{option_map_or}
use Rattle.std.proofs.Common.{refl, sym, ap, ◌∙◌, subst, arith}
use Rattle.std.proofs.lemmas.Bool.{and_from, and_parts}
use Rattle.mx_base.specs.declared.names.LinkId.{LinkId}
use Rattle.mx_base.specs.declared.tag.Tag.{Tag}
use Rattle.mx_base.specs.declared.tag.Tag.TheVariants as tags
use Rattle.mx_wire.specs.Log.{Log}
use Rattle.mx_wire.specs.Tells.{Fits}
use Rattle.mx_wire.specs.declared.entry.Entry.{Entry}
use Rattle.mx_wire.specs.declared.entry.Entry.TheVariants as entry
use Rattle.packet_frame.specs.Packets.{spelling}
use Rattle.private_model.proofs.Maps.{same_link, same_number}
use Rattle.private_model.specs.Commands.{Quit}
use Rattle.private_model.specs.Story.{Broke, Happening, is_link_id}
use Rattle.private_model.specs.View.{Setup, View}
use Rattle.server_rule.specs.Servers.{is_some_of}
use Rattle.log_story.specs.Honest.{IsFront}
use Rattle.log_story.specs.Plan.{Asks, Closes, Plan, Resets, StepText, text_payload}
use Rattle.log_story.specs.Servers.{begun_on, is_quiet, may_begin, written_in}
use Rattle.log_story.specs.Tale.{Client, Wire, is_reset_step, is_to_server, view_of}
use Rattle.tale_world.specs.Decided.{Agrees, Decided, plan_of}
use Rattle.tale_world.specs.Deciding.{World}
use Rattle.tale_world.specs.Tested.{PassesBy}
use Rattle.tale_world.specs.Tests.{fits, may_tell}
use Rattle.tale_world.specs.Wishes.{Says, Sends, Wish, before_question}
use Rattle.tale_world.specs.World.{decided_told, with_step}
use Rattle.tale_world.proofs.Agreeing.{agrees-itself, agrees-less, filled-there}
use Rattle.tale_world.proofs.Following.{told-more}
use Rattle.tale_world.proofs.Links.{new_link}
use Rattle.router_promises.specs.Now.{was_lost, wire_now}
use Rattle.shared_router.specs.Fixed.{Fixed, setup_of}
use Rattle.shared_router.specs.Known.{Known, known, link_by, setup_by}
use Rattle.shared_router.specs.More.{More}
use Rattle.shared_router.specs.Ours.{IsOurs, Writes}
use Rattle.shared_router.specs.Owed.{Owed, closes, farewell, is_whole_step, nothing_owed, owed_next, owed_on_client, owed_there, step_by}
use Rattle.shared_router.specs.Shared.{shared, world_at}
use Rattle.shared_router.specs.Wishes.{standing_on, wish_on, wish_step, wish_tag}
use Rattle.shared_router.proofs.Beginning.{and_no, isnt}
use Rattle.shared_router.proofs.Decidedly.{AreDecided}
use Rattle.shared_router.proofs.Parting.{tale_then}
use Rattle.shared_router.proofs.Speaking.{tells, tells_same, told_of}
use Rattle.shared_router.proofs.Starting.{wish_told}
use Rattle.shared_router.proofs.Stepping.{AreBegun, none_begun}
use Rattle.shared_router.proofs.Wishing.{IsWished, wished}

-- Bytes that are a front of nothing are none.

no_bytes : (bytes rest : List ℕ) → bytes ++ rest ≡ [] → bytes ≡ []
no_bytes [] rest is = refl
no_bytes (byte ∷ bytes) rest is = absurd (cc)

pub no_front : {A : Type 0} (bytes : List ℕ) → IsFront bytes [] → 0 < length bytes → A
no_front bytes front some =
    let none : bytes ≡ [] = no_bytes bytes front.rest front.is in
    let size : length bytes ≡ 0 = ap (λ (l : List ℕ). length l) none in absurd (omega (arith, size, some))

-- What begins on a link: a QUIT where it is to be closed, or what is wished there.

pub data Begun (k : Known) (link : LinkId) (tag : Tag) (step : StepText) : Type 0 where
  Parts : closes k link ≡ true → (wire_now k.now link).quits ≡ false → step ≡ Asks Quit → tag ≡ tags.Own → Begun k link tag step
  Wishes : (wish : Wish) → wish_on k link ≡ Some wish → tag ≡ wish_tag k wish → step ≡ wish_step wish → Begun k link tag step

module _ (k : Known) (link : LinkId) (tag : Tag) (bytes : List ℕ) (step : StepText) (some : 0 < length bytes) (is : step ≡ step_by k link) where
  abbrev Owes : Owed → Type 0
  Owes owed = IsFront bytes owed.bytes × (tag ≡ owed.tag)

  -- a QUIT is owed once
  farewell_once : (may rest quits : Bool) → Owes (if may && (not quits && rest) then record { tag = tags.Own; bytes = spelling 0 (text_payload Quit) } else nothing_owed)
      → (quits ≡ false) × (tag ≡ tags.Own)
  farewell_once true true false owes = (refl, owes.1)
  farewell_once true false false owes = no_front bytes owes.0 some
  farewell_once true rest true owes = no_front bytes owes.0 some
  farewell_once false rest quits owes = no_front bytes owes.0 some

  wished_begun : closes k link ≡ false → (o : Option Wish) → wish_on k link ≡ o → Owes (owed_next k link o) → Begun k link tag step
  wished_begun stays None at owes = no_front bytes owes.0 some
  wished_begun stays (Some wish) at owes =
      Wishes wish at owes.1
      (is ∙ ap (λ b. if b then Asks Quit else option_map_or wish_step (wish_on k link) (Closes 0)) stays ∙ ap (λ o. option_map_or wish_step o (Closes 0)) at)

  whole_begun : closes k link ≡ false → (b : Bool) → Owes (if b then owed_next k link (wish_on k link) else nothing_owed) → Begun k link tag step
  whole_begun stays true owes = wished_begun stays (wish_on k link) refl owes
  whole_begun stays false owes = no_front bytes owes.0 some

  server_begun : (c : Bool) → closes k link ≡ c → Owes (if c then farewell k link else owed_there k link true true) → Begun k link tag step
  server_begun true closing owes =
      let once = farewell_once (may_begin (setup_by k) link (wire_now k.now link) k.now.tale)
      (not (was_lost k.log link) && is_whole_step (wire_now k.now link).step (wire_now k.now link).written) (wire_now k.now link).quits owes in
      Parts closing once.0 (is ∙ ap (λ b. if b then Asks Quit else option_map_or wish_step (wish_on k link) (Closes 0)) closing) once.1
  server_begun false stays owes = whole_begun stays (is_whole_step (wire_now k.now link).step (wire_now k.now link).written) owes

  abbrev owed_by : (there entered begins : Bool) → Owed
  owed_by there entered begins =
      if there then (if closes k link then farewell k link else owed_there k link entered begins)
      else owed_on_client k (find (λ (client : Client). is_link_id client.link link) k.now.tale.clients)

  abbrev begins_now : Bool
  begins_now = may_begin (setup_by k) link (wire_now k.now link) k.now.tale

  abbrev rest_of : Bool
  rest_of = is_quiet (link_by k link).stage && (not (is_some_of (written_in (wire_now k.now link).written).rest) && not (is_reset_step (wire_now k.now link).step))

  by_all : (there entered begins : Bool) → is_to_server k.now.tale link ≡ there → (wire_now k.now link).entered ≡ entered → begins_now ≡ begins
      → Owes (owed_by there entered begins) → is_to_server k.now.tale link ≡ true → begins_now ≡ true → Begun k link tag step
  by_all false entered begins at in_it begin owes there may = isnt (sym at ∙ there)
  by_all true entered false at in_it begin owes there may = isnt (sym begin ∙ may)
  by_all true false true at in_it begin owes there may = isnt (sym (ap (λ b. b && rest_of) in_it) ∙ may)
  by_all true true true at in_it begin owes there may = server_begun (closes k link) refl owes

  pub begun_so : Writes k link tag bytes → is_to_server k.now.tale link ≡ true → begins_now ≡ true → Begun k link tag step
  begun_so writes there may =
      by_all (is_to_server k.now.tale link) (wire_now k.now link).entered begins_now refl refl refl (writes.front, writes.tagged) there may

-- The step that begins is the one that is decided then.

-- the step that began is the one that was decided then
pub step_told : (fixed : Fixed) (w : World More) (link : LinkId) (tag : Tag) (bytes : List ℕ) (there begins : Bool)
    → there ≡ true → begins ≡ true → w.decided.steps link (w.tale.wires link).begun ≡ None
    → (if there && begins then with_step (shared fixed) w link tag bytes else w.decided).steps link (w.tale.wires link).begun ≡ Some (step_by (known fixed w) link)
step_told fixed w link tag bytes true true to_server begin fresh =
    let step = (shared fixed).step w link tag bytes in
    filled-there (λ n. is_link_id link link && nat_eq n (w.tale.wires link).begun) (λ n. step) (w.decided.steps link) (w.tale.wires link).begun
    (and_from _ _ (same_link link) (same_number (w.tale.wires link).begun))
    ∙ ap (λ o. Some (unwrap_or o step)) fresh
step_told fixed w link tag bytes true false to_server begin fresh = isnt begin
step_told fixed w link tag bytes false begins to_server begin fresh = isnt to_server

-- So it passes the test.

module _ (fixed : Fixed) (w : World More) (link : LinkId) (tag : Tag) (bytes : List ℕ) (decided : AreDecided w.decided (view_of (setup_of fixed) w.tale)) where
  abbrev setup : Setup
  setup = setup_of fixed

  abbrev k : Known
  k = known fixed w

  abbrev view : View
  view = view_of setup w.tale

  abbrev wire : Wire
  wire = w.tale.wires link

  abbrev Passed : List Happening → Type 0
  Passed es = may_tell setup es w.tale.story ≡ true

  -- what is told of a wish
  wish_passes : (wish : Wish) → IsWished k link wish → Passed (told_of link wish)
  wish_passes wish is = subst (λ x. Passed (told_of link x)) is.is (asked (before_question (view.links link) (standing_on k link) is.question) refl) where
    said : (text : StepText) → Passed (told_of link (Says text))
    said (Asks command) = refl
    said (Closes number) =
        (and_parts (is_quiet (view.links link).stage) (fits setup view (view.links link) is.question) (and_parts (view.links link).usable _ is.may).1).0
    said (Resets number) = refl

    asked : (o : Option StepText) → before_question (view.links link) (standing_on k link) is.question ≡ o
        → Passed (told_of link (option_map_or (λ text. Says text) o (Sends is.question)))
    asked None at = is.may
    asked (Some text) at = said text

  module _ (plan : Plan) (agrees : Agrees w.decided w.tale.moment plan) (step : plan.steps link wire.begun ≡ step_by k link) where
    begun_passes : Begun k link tag (plan.steps link wire.begun) → Passed (tells fixed w plan link bytes tag (plan.steps link wire.begun))
    begun_passes (Parts closing stays asks own) =
        subst (λ s. Passed (tells fixed w plan link bytes tag s)) (sym asks) (subst (λ t. Passed (tells fixed w plan link bytes t (Asks Quit))) (sym own) (none_told (is_some_of wire.unread && false) (and_no (is_some_of wire.unread))))
      where
        none_told : (b : Bool) → b ≡ false → Passed (if b then Broke ∷ [] else [])
        none_told true is = isnt (sym is)
        none_told false is = refl
    begun_passes (Wishes wish at tagged asks) =
        let is : IsWished k link wish = wished k link wish at in
        subst (λ s. Passed (tells fixed w plan link bytes tag s)) (sym asks) (subst (λ t. Passed (tells fixed w plan link bytes t (wish_step wish))) (sym tagged)
        (subst Passed (sym (wish_told fixed w plan link bytes decided agrees wish is)) (wish_passes wish is)))

    pub passes_there : 0 < length bytes → Writes k link tag bytes → is_to_server w.tale link ≡ true → may_begin setup link wire w.tale ≡ true
        → Passed (begun_on setup plan w.tale.moment view link wire tag)
    passes_there some writes there begins =
        subst Passed (tells_same fixed w plan link bytes tag) (begun_passes (begun_so k link tag bytes (plan.steps link wire.begun) some step writes there begins))

pub passes_so : (fixed : Fixed) (log : Log) (e : Entry) → AreBegun fixed (world_at fixed log)
    → AreDecided (world_at fixed log).decided (view_of (setup_of fixed) (world_at fixed log).tale)
    → IsOurs fixed log e → Fits log e → PassesBy (setup_of fixed) (shared fixed) (world_at fixed log) e
passes_so fixed log (entry.Opened server address link) begun decided ours fits =
    ap (λ t. is_to_server t link) (sym (tale_then fixed log [])) ∙ new_link (setup_of fixed) (plan_of (world_at fixed (log ++ [])).decided) log link fits.fresh
passes_so fixed log (entry.Wrote link tag bytes) begun decided ours fits = λ there begins.
    let w : World More = world_at fixed log in
    let d : Decided = decided_told (setup_of fixed) (shared fixed) w (entry.Wrote link tag bytes) in
    let agrees : Agrees w.decided w.tale.moment (plan_of d) =
    agrees-less w.decided d w.tale.moment (plan_of d) (told-more (setup_of fixed) (shared fixed) w (entry.Wrote link tag bytes)) (agrees-itself d w.tale.moment) in
    passes_there fixed w link tag bytes decided (plan_of d) agrees
    (agrees_step (step_told fixed w link tag bytes (is_to_server w.tale link) (may_begin (setup_of fixed) link (w.tale.wires link) w.tale) there begins (none_begun fixed w link begun)))
    fits.some ours there begins
  where
    agrees_step : {o : Option StepText} {step : StepText} → o ≡ Some step → unwrap_or o (Closes 0) ≡ step
    agrees_step is = cc
passes_so fixed log _ begun decided ours fits = tt
