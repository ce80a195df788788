-- What our router writes has its tags by the last plan.
use Rattle.std.specs.Prelude.{◌≡◌, ◌<◌, ℕ, suc, take, Bool, true, false, not, ◌&&◌, ◌||◌, bytes_eq, find, length, if◌then◌else◌, List, [], ◌∷◌, ◌++◌, is_some}
use Rattle.std.specs.Prelude.{cond, drop, Option, Some, None}
use Rattle.std.specs.List.{list_any}
use Rattle.std.specs.Option.{option_map_or, option_or}
use Rattle.std.proofs.Common.{refl, sym, ap, ◌∙◌, subst, append_assoc}
use Rattle.std.proofs.lemmas.Bool.{or_parts}
use Rattle.std.proofs.lemmas.Slice.Eq.{bytes_eq-Decides}
use Rattle.hostgroups.specs.Servers.{is_known}
use Rattle.hostgroups.specs.declared.server.Server.{Server}
use Rattle.mx_base.specs.declared.names.LinkId.{LinkId}
use Rattle.mx_base.specs.declared.tag.Tag.{Tag}
use Rattle.mx_base.specs.declared.tag.Tag.TheVariants as tags
use Rattle.mx_wire.specs.Log.{Log, is_open}
use Rattle.mx_wire.specs.Moments.{LawfulAfter}
use Rattle.mx_wire.specs.Tells.{Fits, MayWrite}
use Rattle.mx_wire.specs.declared.entry.Entry.{Entry}
use Rattle.mx_wire.specs.declared.entry.Entry.TheVariants as entry
use Rattle.packet_frame.specs.Packets.{spelling}
use Rattle.private_model.proofs.Maps.{link_of}
use Rattle.private_model.specs.Commands.{Quit}
use Rattle.private_model.specs.Story.{Capture, End, Own, Prep, Statement, Sync, is_link_id}
use Rattle.server_rule.specs.Servers.{is_some_of}
use Rattle.log_story.specs.Honest.{IsFront, IsStep}
use Rattle.log_story.specs.Plan.{Asks, Closes, Plan, Resets, StepText, step_payload, text_payload}
use Rattle.log_story.specs.Servers.{is_quiet, may_begin, quits_for, written_in}
use Rattle.log_story.specs.Tale.{Client, Tale, is_reset_step, is_to_server, link_in}
use Rattle.log_story.specs.Telling.{tale_step}
use Rattle.tale_world.specs.Deciding.{World}
use Rattle.tale_world.specs.Wishes.{Says, Sends, Wish}
use Rattle.tale_world.proofs.Following as following
use Rattle.tale_world.proofs.Following.{stepped}
use Rattle.router_promises.proofs.Saying.{now-tale}
use Rattle.router_promises.specs.Closes.{has_bad_bytes, is_spoilt, is_usable, was_amiss}
use Rattle.router_promises.specs.Now as now
use Rattle.router_promises.specs.Now.{Now, now_at, was_lost, wire_now}
use Rattle.router_promises.specs.Running.{is_failed, is_off, opening_on, status_in}
use Rattle.router_promises.specs.Tags as tagging
use Rattle.router_promises.specs.Tags.{BeginsRight, IsForSession, StandsRight, TagsSo, WritesTo, last_tag}
use Rattle.router_promises.specs.Terms.{Terms, plan_in}
use Rattle.shared_router.specs.Fixed.{Fixed, IsNumbered, setup_of}
use Rattle.shared_router.specs.Known.{Known, known, link_by}
use Rattle.shared_router.specs.More.{More, now_of, terms_of}
use Rattle.shared_router.specs.Ours.{IsOurs, Writes}
use Rattle.shared_router.specs.Owed.{Owed, asks, begun_there, close_by, closes, farewell, is_to_close, is_whole_step, nothing_owed, owed_next}
use Rattle.shared_router.specs.Owed.{owed_on_client, owed_there, step_by}
use Rattle.shared_router.specs.Shared.{final_terms, shared, world_at}
use Rattle.shared_router.specs.Wishes.{wish_on, wish_step, wish_tag}
use Rattle.shared_router.proofs.Parting.{even_at, next, tale_then, world_more}
use Rattle.shared_router.proofs.Passing.{no_front, step_told}
use Rattle.shared_router.proofs.Routing.{IsSame, agrees_behind, same_at}
use Rattle.shared_router.proofs.Staying.{log_at}
use Rattle.shared_router.proofs.Stepping.{AreBegun, begun_then, first_begun, none_begun}

isnt : {A : Type 0} → false ≡ true → A
isnt is = absurd (cc)

-- Tests of a list.

none_of_more : {A : Type 0} (b : Bool) (x : A) (o : Option A) → cond b (Some x) o ≡ None → (b ≡ false) × (o ≡ None)
none_of_more true x o is = absurd (cc)
none_of_more false x o is = (refl, is)

pub find_none : (test : LinkId → Bool) (link : LinkId) (links : List LinkId) → find test links ≡ None → list_any (is_link_id link) links ≡ true → test link ≡ false
find_none test link [] none there = absurd (cc)
find_none test link (x ∷ links) none there = by_test (is_link_id link x) refl there (find_none test link links) where
  parts_of : (test x ≡ false) × (find test links ≡ None)
  parts_of = none_of_more (test x) x (find test links) none

  by_test : (b : Bool) → is_link_id link x ≡ b → (b || list_any (is_link_id link) links) ≡ true
      → (find test links ≡ None → list_any (is_link_id link) links ≡ true → test link ≡ false) → test link ≡ false
  by_test true same there later = ap test (link_of link x same) ∙ parts_of.0
  by_test false same there later = later parts_of.1 there

or_none : {A : Type 0} (x y : Option A) → option_or x y ≡ None → y ≡ None
or_none None y is = is
or_none (Some x) y is = absurd (cc)

some_not : {A : Type 0} (o : Option A) → is_some o ≡ false → o ≡ None
some_not None is = refl
some_not (Some x) is = absurd (cc)

-- of the tests for closes
usable_of : (opened quits spoilt amiss more : Bool) → (opened && (quits || (spoilt || (amiss || more)))) ≡ false → opened ≡ true → (not spoilt && not amiss) ≡ true
usable_of true false false false more is there = refl
usable_of true false false true more is there = absurd (cc)
usable_of true false true amiss more is there = absurd (cc)
usable_of true true spoilt amiss more is there = absurd (cc)
usable_of false quits spoilt amiss more is there = isnt there

left_of : (a b : Bool) → (a && b) ≡ true → a ≡ true
left_of true b is = refl
left_of false b is = isnt is

right_of : (a b : Bool) → (a && b) ≡ true → b ≡ true
right_of true b is = is
right_of false b is = isnt is

done_of : (asks closes : Bool) → (not asks || closes) ≡ true → closes ≡ false → asks ≡ false
done_of false closes is stays = refl
done_of true true is stays = absurd (cc)
done_of true false is stays = isnt is

same-bytes : (a b : List ℕ) → bytes_eq a b ≡ true → a ≡ b
same-bytes a b is = (bytes_eq-Decides a b).0 is

-- what is whole by the test is whole
whole_so : (step : Option StepText) (written : List ℕ) → is_whole_step step written ≡ true → IsStep step written
whole_so (Some (Closes number)) written is = same-bytes written (spelling 0 (step_payload (Closes number))) is
whole_so (Some (Resets number)) written is = same-bytes written (spelling 0 (step_payload (Resets number))) is
whole_so (Some (Asks command)) written is = tt
whole_so None written is = tt

module _ (fixed : Fixed) (numbered : IsNumbered fixed) where
  -- a step in a session asks something
  session_by : (w : World More) (wish : Wish) (tag : Tag) (step : StepText) → tag ≡ wish_tag (known fixed w) wish → step ≡ wish_step wish → IsForSession tag step
  session_by w (Sends (Statement n due)) tag step is asks = subst (λ t. IsForSession t step) (sym is) tt
  session_by w (Sends (Prep n key text)) tag step is asks = subst (λ t. IsForSession t step) (sym is) tt
  session_by w (Sends (Sync n command)) tag step is asks =
      subst (λ t. IsForSession t step) (sym is) (subst (λ s. IsForSession (tags.Sync n.client n.hostgroup) s) (sym asks) tt)
  session_by w (Sends (Own command)) tag step is asks = subst (λ t. IsForSession t step) (sym is) tt
  session_by w (Sends (End n)) tag step is asks = subst (λ t. IsForSession t step) (sym is) tt
  session_by w (Sends (Capture n)) tag step is asks = subst (λ t. IsForSession t step) (sym is) tt
  session_by w (Says text) tag step is asks = subst (λ t. IsForSession t step) (sym is) tt

  module _ (before later : Log) (link : LinkId) (tag : Tag) (bytes : List ℕ) (begun : AreBegun fixed (world_at fixed before)) where
    abbrev e : Entry
    e = entry.Wrote link tag bytes

    abbrev log : Log
    log = before ++ e ∷ later

    abbrev terms : Terms
    terms = final_terms fixed log

    abbrev w : World More
    w = world_at fixed before

    abbrev v : World More
    v = next fixed w e

    abbrev k : Known
    k = known fixed w

    abbrev plan : Plan
    plan = plan_in terms

    same : IsSame fixed numbered terms before
    same = same_at fixed numbered before (e ∷ later)

    here : following.IsStep (setup_of fixed) (shared fixed) w e plan
    here = stepped (setup_of fixed) (shared fixed) w e plan (even_at fixed before) (agrees_behind fixed numbered before later e log refl)

    same_now : (now_at terms before).tale ≡ w.tale
    same_now = now-tale terms before ∙ tale_then fixed before (e ∷ later)

    same_later : (now.next terms (now_at terms before) e).tale ≡ v.tale
    same_later = ap (λ t. tale_step (setup_of fixed) plan t e) same_now ∙ sym here.same

    abbrev there_now : Now
    there_now = record (now_at terms before) { tale = w.tale }

    abbrev there_later : Now
    there_later = record (now.next terms (now_at terms before) e) { tale = v.tale }

    -- what is said of tales alone
    abbrev SaysBy : (tale other : Tale) → Type 0
    SaysBy tale other = WritesTo terms before (record (now_at terms before) { tale = tale }) link tag (is_to_server tale link)
        (record (now.next terms (now_at terms before) e) { tale = other })

    abbrev usable_by : (servers : List Server) → (entered failed : Bool) → Bool
    usable_by servers entered failed =
        not (was_lost before link || ((not entered && failed)
        || (has_bad_bytes (setup_of fixed) there_now link || (status_in is_off servers (w.tale.wires link).server || not (is_known servers (w.tale.wires link).server)))))
        && not (was_amiss (setup_of fixed) link w.tale.story)

    sound_so : (w.tale.wires link).entered ≡ true → is_usable (terms_of fixed w) before (now_of fixed w) link ≡ true → is_usable terms before there_now link ≡ true
    sound_so in_it usable =
        ap (λ s. usable_by s (w.tale.wires link).entered (is_failed (opening_on terms w.tale link))) same.servers
        ∙ ap (λ b. usable_by w.more.servers b (is_failed (opening_on terms w.tale link))) in_it
        ∙ sym (ap (λ b. usable_by w.more.servers b (is_failed (opening_on (terms_of fixed w) w.tale link))) in_it)
        ∙ usable

    usable_so : is_open link before ≡ true → is_to_server w.tale link ≡ true → asks k ≡ false → is_usable (terms_of fixed w) before (now_of fixed w) link ≡ true
    usable_so opened there nothing =
        let none : close_by k ≡ None = some_not (close_by k) (or_parts (is_some (close_by k)) _ nothing).0 in
        let kept : is_to_close k link ≡ false = find_none (is_to_close k) link w.tale.links (or_none _ (find (is_to_close k) w.tale.links) none) there in
        subst (λ l. is_usable (terms_of fixed w) l (now_of fixed w) link ≡ true) (log_at fixed before)
        (usable_of (is_open link w.more.log) (w.tale.wires link).quits (is_spoilt (terms_of fixed w) w.more.log (now_of fixed w) link) (was_amiss (setup_of fixed) link w.tale.story) _ kept
        (subst (λ l. is_open link l ≡ true) (sym (log_at fixed before)) opened))

    pub step_is : is_to_server w.tale link ≡ true → may_begin (setup_of fixed) link (w.tale.wires link) w.tale ≡ true
        → plan.steps link (w.tale.wires link).begun ≡ step_by k link
    step_is there begins =
        here.told.steps link (w.tale.wires link).begun (step_by k link)
        (step_told fixed w link tag bytes (is_to_server w.tale link) (may_begin (setup_of fixed) link (w.tale.wires link) w.tale) there begins (none_begun fixed w link begun))

    abbrev begins_now : Bool
    begins_now = may_begin (setup_of fixed) link (w.tale.wires link) w.tale

    -- on a link that is to be closed a QUIT is said

    parting_so : (b : Bool) → closes k link ≡ true → IsFront bytes (if b then record { tag = tags.Own; bytes = spelling 0 (text_payload Quit) } else nothing_owed).bytes
        → 0 < length bytes → b ≡ true
    parting_so true closing front some = refl
    parting_so false closing front some = no_front bytes front some

    quits_so : (step : StepText) → step ≡ Asks Quit → tag ≡ tags.Own → quits_for tag step ≡ false → {A : Type 0} → A
    quits_so step asks own apart =
        isnt (sym apart ∙ ap (λ t. quits_for t step) own ∙ ap (λ s. quits_for tags.Own s) asks)

    -- behind the entry what stands there stands in its session's hostgroup
    abbrev Stands : Type 0
    Stands = StandsRight terms there_later link (link_in (setup_of fixed) v.tale link).stage

    abbrev Right : Type 0
    Right = BeginsRight terms before there_now link tag there_later

    farewell_right : closes k link ≡ true → tag ≡ tags.Own → is_whole_step (w.tale.wires link).step (w.tale.wires link).written ≡ true → is_to_server w.tale link ≡ true → begins_now ≡ true
        → Stands → Right
    farewell_right closing own whole there begins is =
        let step : plan.steps link (w.tale.wires link).begun ≡ Asks Quit =
        step_is there begins ∙ ap (λ b. if b then Asks Quit else option_map_or wish_step (wish_on k link) (Closes 0)) closing in
        record {
          sound = λ apart. quits_so (plan.steps link (w.tale.wires link).begun) step own apart;
          closed = whole_so (w.tale.wires link).step (w.tale.wires link).written whole;
          session = subst (λ t. IsForSession t (plan.steps link (w.tale.wires link).begun)) (sym own) tt;
          group = is;
        }

    wish_right : closes k link ≡ false → (wish : Wish) → wish_on k link ≡ Some wish → tag ≡ wish_tag k wish → is_whole_step (w.tale.wires link).step (w.tale.wires link).written ≡ true
        → is_to_server w.tale link ≡ true → begins_now ≡ true → is_usable terms before there_now link ≡ true → Stands → Right
    wish_right stays wish wished tagged whole there begins usable is =
        let step : plan.steps link (w.tale.wires link).begun ≡ wish_step wish =
        step_is there begins ∙ ap (λ b. if b then Asks Quit else option_map_or wish_step (wish_on k link) (Closes 0)) stays
        ∙ ap (λ o. option_map_or wish_step o (Closes 0)) wished in
        record {
          sound = λ apart. usable;
          closed = whole_so (w.tale.wires link).step (w.tale.wires link).written whole;
          session = session_by w wish tag (plan.steps link (w.tale.wires link).begun) tagged step;
          group = is;
        }

    abbrev rest_of : Bool
    rest_of = is_quiet (link_in (setup_of fixed) w.tale link).stage && (not (is_some_of (written_in (w.tale.wires link).written).rest) && not (is_reset_step (w.tale.wires link).step))

    -- by what is owed there

    abbrev Owes : Owed → Type 0
    Owes owed = IsFront bytes owed.bytes × (tag ≡ owed.tag)

    next_right : closes k link ≡ false → (o : Option Wish) → wish_on k link ≡ o → Owes (owed_next k link o) → 0 < length bytes
        → is_whole_step (w.tale.wires link).step (w.tale.wires link).written ≡ true → is_to_server w.tale link ≡ true → begins_now ≡ true → is_usable terms before there_now link ≡ true
        → Stands → Right
    next_right stays None wished owes some whole there begins usable is = no_front bytes owes.0 some
    next_right stays (Some wish) wished owes some whole there begins usable is = wish_right stays wish wished owes.1 whole there begins usable is

    begun_right : closes k link ≡ false → (b : Bool) → is_whole_step (w.tale.wires link).step (w.tale.wires link).written ≡ b
        → Owes (if b then owed_next k link (wish_on k link) else nothing_owed) → 0 < length bytes
        → is_to_server w.tale link ≡ true → begins_now ≡ true → is_usable terms before there_now link ≡ true → Stands → Right
    begun_right stays true whole owes some there begins usable is = next_right stays (wish_on k link) refl owes some whole there begins usable is
    begun_right stays false whole owes some there begins usable is = no_front bytes owes.0 some

    rest_right : (last : Option Tag) → last_tag link w.more.log ≡ last
        → Owes (option_map_or (λ t. record { tag = t; bytes = drop (length (w.tale.wires link).written) (begun_there (w.tale.wires link).step (link_by k link).stage (link_by k link)) }) last nothing_owed)
        → 0 < length bytes → last ≡ Some tag
    rest_right None is owes some = no_front bytes owes.0 some
    rest_right (Some t) is owes some = ap (λ x. Some x) (sym owes.1)

    login_own : (b : Bool) (owed : List ℕ) → tag ≡ (if b then record { tag = tags.Own; bytes = owed } else nothing_owed).tag → tag ≡ tags.Own
    login_own true owed is = is
    login_own false owed is = is

    to_client : (found : Option Client) → Owes (owed_on_client k found) → 0 < length bytes → tag ≡ tags.Reply
    to_client None owes some = no_front bytes owes.0 some
    to_client (Some client) owes some = owes.1

    abbrev owed_by : (there c entered begins : Bool) → Owed
    owed_by there c entered begins =
        if there then (if c then farewell k link else owed_there k link entered begins)
        else owed_on_client k (find (λ (client : Client). is_link_id client.link link) w.tale.clients)

    abbrev farewell_test : Bool
    farewell_test =
        begins_now && (not (wire_now k.now link).quits && (not (was_lost k.log link) && is_whole_step (wire_now k.now link).step (wire_now k.now link).written))

    abbrev There : (begins entered : Bool) → Type 0
    There begins entered = tagging.WritesThere terms before there_now link tag begins entered there_later

    says_by : (there c entered begins : Bool) → is_to_server w.tale link ≡ there → closes k link ≡ c → (w.tale.wires link).entered ≡ entered → begins_now ≡ begins
        → Owes (owed_by there c entered begins) → 0 < length bytes → is_open link before ≡ true → (not (asks k) || closes k link) ≡ true
        → Stands → WritesTo terms before there_now link tag there there_later
    says_by false c entered begins there closing in_it begin owes some opened acted is =
        to_client (find (λ (client : Client). is_link_id client.link link) w.tale.clients) owes some
    says_by true true entered true there closing in_it begin owes some opened acted is =
        let told : farewell_test ≡ true = parting_so farewell_test closing owes.0 some in
        let own : tag ≡ tags.Own = owes.1 ∙ ap (λ b. (if b then record { tag = tags.Own; bytes = spelling 0 (text_payload Quit) } else nothing_owed).tag) told in
        let whole = right_of _ _ (right_of _ _ (right_of begins_now _ told)) in
        subst (λ b. There b (w.tale.wires link).entered) (sym begin) (farewell_right closing own whole there begin is)
    says_by true true entered false there closing in_it begin owes some opened acted is =
        isnt (sym begin ∙ left_of begins_now _ (parting_so farewell_test closing owes.0 some))
    says_by true false false begins there closing in_it begin owes some opened acted is =
        let nothing : begins_now ≡ false = ap (λ b. b && rest_of) in_it in
        subst (λ b. There b (w.tale.wires link).entered) (sym nothing) (subst (λ b. There false b) (sym in_it) (login_own _ _ owes.1))
    says_by true false true true there closing in_it begin owes some opened acted is =
        subst (λ b. There b (w.tale.wires link).entered) (sym begin)
        (begun_right closing (is_whole_step (w.tale.wires link).step (w.tale.wires link).written) refl owes some there begin
        (sound_so in_it (usable_so opened there (done_of (asks k) (closes k link) acted closing))) is)
    says_by true false true false there closing in_it begin owes some opened acted is =
        subst (λ b. There b (w.tale.wires link).entered) (sym begin) (subst (λ b. There false b) (sym in_it)
        (subst (λ l. last_tag link l ≡ Some tag) (log_at fixed before) (rest_right (last_tag link w.more.log) refl owes some)))

    pub wrote_so : Writes k link tag bytes → Stands → MayWrite before link bytes → TagsSo terms before e
    wrote_so writes is fits =
        subst (λ t. SaysBy t (now.next terms (now_at terms before) e).tale) (sym same_now) (subst (λ t. SaysBy w.tale t) (sym same_later)
        (says_by (is_to_server w.tale link) (closes k link) (w.tale.wires link).entered begins_now refl refl refl refl (writes.front, writes.tagged) fits.some fits.opened writes.acted is))

  -- what stands on links stands in its session's hostgroup
  abbrev pub StandsBy : World More → Type 0
  StandsBy v = (link : LinkId) → StandsRight (terms_of fixed v) (now_of fixed v) link (link_in (setup_of fixed) v.tale link).stage

  tag_so : (before later : Log) (e : Entry) → AreBegun fixed (world_at fixed before) → IsOurs fixed before e → Fits before e → StandsBy (next fixed (world_at fixed before) e)
      → TagsSo (final_terms fixed (before ++ e ∷ later)) before e
  tag_so before later (entry.Wrote link tag bytes) begun ours fits stands = wrote_so before later link tag bytes begun ours (stands link) fits
  tag_so before later _ begun ours fits stands = tt

  tags_from : (before later whole : Log) → before ++ later ≡ whole → AreBegun fixed (world_at fixed before) → ((j : ℕ) → StandsBy (world_at fixed (before ++ take j later)))
      → LawfulAfter (IsOurs fixed) before later → LawfulAfter Fits before later → LawfulAfter (TagsSo (final_terms fixed whole)) before later
  tags_from before [] whole is begun each ours fits = tt
  tags_from before (e ∷ later) whole is begun each ours fits = (
    subst (λ l. TagsSo (final_terms fixed l) before e) is (tag_so before later e begun ours.0 fits.0 (subst StandsBy (world_more fixed before (e ∷ [])) (each 1))),
    tags_from (before ++ e ∷ []) later whole (append_assoc before (e ∷ []) later ∙ is) (begun_then fixed before e fits.0 begun)
        (λ j. subst (λ l. StandsBy (world_at fixed l)) (sym (append_assoc before (e ∷ []) (take j later))) (each (suc j))) ours.1 fits.1,
  )

  pub tags_kept : (log : Log) → ((j : ℕ) → StandsBy (world_at fixed (take j log))) → LawfulAfter (IsOurs fixed) [] log → LawfulAfter Fits [] log
      → LawfulAfter (TagsSo (final_terms fixed log)) [] log
  tags_kept log each ours fits = tags_from [] log log refl (first_begun fixed) each ours fits
