-- The promise's `Now` along a log, by the last terms, is the world's.
use Rattle.std.specs.Prelude.{◌≡◌, ℕ, ◌+◌, Bool, true, false, not, ◌&&◌, ◌||◌, count_by, is_some, nat_eq, if◌then◌else◌, List, [], ◌∷◌, ◌++◌, Option, Some, None}
use Rattle.std.specs.Option.{option_map_or}
use Rattle.std.proofs.Common.{refl, sym, ap, ◌∙◌, subst, append_assoc, append-nil}
use Rattle.std.proofs.lemmas.Bool.{and_from}
use Rattle.mx_base.specs.declared.tag.Tag.{Tag}
use Rattle.mx_wire.specs.Log.{Log}
use Rattle.mx_wire.specs.declared.entry.Entry.{Entry}
use Rattle.mx_wire.specs.declared.entry.Entry.TheVariants as entry
use Rattle.private_model.proofs.Maps.{link_of, same_link, same_number}
use Rattle.private_model.specs.Names.{Hostgroup, LinkId, SessionName}
use Rattle.private_model.specs.Story.{Due, is_link_id, is_name, message_of}
use Rattle.private_model.specs.View.{Setup, present}
use Rattle.log_story.specs.Plan.{Plan, StepText, own_at}
use Rattle.log_story.specs.Servers.{may_begin, quits_for}
use Rattle.log_story.specs.Tale.{Client, Tale, is_to_server, link_in, view_of}
use Rattle.log_story.specs.Telling.{tale_step}
use Rattle.tale_world.specs.Decided.{Agrees, plan_of}
use Rattle.tale_world.specs.Deciding.{World}
use Rattle.tale_world.specs.World.{decided_told, with_step}
use Rattle.tale_world.proofs.Agreeing.{agrees-itself, filled-there, same_own}
use Rattle.tale_world.proofs.Following as following
use Rattle.tale_world.proofs.Following.{stepped}
use Rattle.router_promises.proofs.Saying.{now-tale}
use Rattle.router_promises.specs.Now as now
use Rattle.router_promises.specs.Now.{Now, now_at}
use Rattle.router_promises.specs.Running.{hostgroup_of}
use Rattle.router_promises.specs.Terms.{Terms, tale_at}
use Rattle.router_promises.specs.Uses.{Use, has_lapsed, is_lapse, lapses, use_after, use_by, used_by}
use Rattle.shared_router.specs.Fixed.{Fixed, IsNumbered, setup_of}
use Rattle.shared_router.specs.More.{More, now_of, terms_of, uses_of}
use Rattle.shared_router.specs.Shared.{final_terms, shared, world_at}
use Rattle.shared_router.proofs.Owing.{due_seen_at, seen_step}
use Rattle.shared_router.proofs.Parting.{even_at, fold_more, next, tale_then, world_more}
use Rattle.shared_router.proofs.Routing.{IsSame, agrees_behind, same_at}
use Rattle.shared_router.proofs.Staying.{step_stays}

-- field by field
pub record IsNow (fixed : Fixed) (terms : Terms) (log : Log) : Type 0 where
  pub clock : (now_at terms log).clock ≡ (now_of fixed (world_at fixed log)).clock
  pub tale : (now_at terms log).tale ≡ (now_of fixed (world_at fixed log)).tale
  pub servers : (now_at terms log).servers ≡ (now_of fixed (world_at fixed log)).servers
  pub flags : (now_at terms log).flags ≡ (now_of fixed (world_at fixed log)).flags
  pub since : (now_at terms log).since ≡ (now_of fixed (world_at fixed log)).since
  pub uses : (now_at terms log).uses ≡ (now_of fixed (world_at fixed log)).uses

-- so it is the same
pub now_is : (fixed : Fixed) (terms : Terms) (log : Log) → IsNow fixed terms log → now_at terms log ≡ now_of fixed (world_at fixed log)
now_is fixed terms log same =
    λ i. record { clock = same.clock i; tale = same.tale i; servers = same.servers i; flags = same.flags i; since = same.since i; uses = same.uses i }

pub some_of : {A : Type 0} (o : Option A) → is_some o ≡ true → (a : A) × (o ≡ Some a)
some_of None is = absurd (cc)
some_of (Some a) is = (a, refl)

-- How links were used, by plans that are the same in what is looked up for it.

module _ (fixed : Fixed) (v last : World More) (before after : Tale) where
  abbrev setup : Setup
  setup = setup_of fixed

  abbrev one : Plan
  one = plan_of v.decided

  abbrev other : Plan
  other = plan_of last.decided

  abbrev OwnSame : (moment : ℕ) → SessionName → Option Due → Type 0
  OwnSame moment n due = (d : Due) → due ≡ Some d → own_at one moment (message_of n d) ≡ own_at other moment (message_of n d)

  abbrev lapsed_by : Plan → SessionName → Option Due → Bool
  lapsed_by plan n due =
      option_map_or (λ (d : Due). not (is_some (own_at plan before.moment (message_of n d)))) due false
      && (not (is_name n (present (view_of setup after) n.client n.hostgroup))
      || option_map_or (λ (d : Due). is_lapse (own_at plan after.moment (message_of n d))) due false)

  lapsed_same : (n : SessionName) (due : Option Due) → OwnSame before.moment n due → OwnSame after.moment n due → lapsed_by one n due ≡ lapsed_by other n due
  lapsed_same n None early late = refl
  lapsed_same n (Some d) early late =
      let stays : Bool = not (is_name n (present (view_of setup after) n.client n.hostgroup)) in
      ap (λ o. not (is_some o) && (stays || is_lapse (own_at one after.moment (message_of n d)))) (early d refl)
      ∙ ap (λ o. not (is_some (own_at other before.moment (message_of n d))) && (stays || is_lapse o)) (late d refl)

  -- of what was due before, at both moments
  record AreOwnSame : Type 0 where
    pub early : (n : SessionName) → OwnSame before.moment n ((view_of setup before).dues n)
    pub late : (n : SessionName) → OwnSame after.moment n ((view_of setup before).dues n)

  has_same : AreOwnSame → (h : Hostgroup) (client : Client) → has_lapsed (terms_of fixed v) before after h client ≡ has_lapsed (terms_of fixed last) before after h client
  has_same own h client =
      let n = present (view_of setup before) client.number h in
      lapsed_same n ((view_of setup before).dues n) (own.early n) (own.late n)

  lapses_same : AreOwnSame → (h : Option Hostgroup) → lapses (terms_of fixed v) before after h ≡ lapses (terms_of fixed last) before after h
  lapses_same own None = refl
  lapses_same own (Some h) = ap (λ test. count_by test before.clients) (λ i client. has_same own h client i)

  abbrev StepSame : Entry → Type 0
  StepSame (entry.Wrote link tag bytes) =
      is_to_server before link ≡ true → may_begin setup link (before.wires link) before ≡ true → one.steps link (before.wires link).begun ≡ other.steps link (before.wires link).begun
  StepSame _ = Unit {0}

  module _ (clock : ℕ) (link : LinkId) (tag : Tag) (was : Use) where
    abbrev written_by : (begins : Bool) → StepText → Use
    written_by begins step =
        if begins && quits_for tag step then was
        else if begins then record (used_by tag step (link_in setup after link) was) { used = clock }
        else if (before.wires link).quits then was
        else record was { used = clock }

    written_same : (there begins : Bool) (p q : StepText) → (there ≡ true → begins ≡ true → p ≡ q)
        → (if there then written_by begins p else was) ≡ (if there then written_by begins q else was)
    written_same true true p q same = ap (written_by true) (same refl refl)
    written_same true false p q same = refl
    written_same false begins p q same = refl

    named_same : (there : Bool) (entered : LinkId) → is_link_id link entered ≡ there
        → (is_to_server before entered ≡ true → may_begin setup entered (before.wires entered) before ≡ true
        → one.steps entered (before.wires entered).begun ≡ other.steps entered (before.wires entered).begun)
        → (if there && is_to_server before link then written_by (may_begin setup link (before.wires link) before) (one.steps link (before.wires link).begun) else was)
        ≡ (if there && is_to_server before link then written_by (may_begin setup link (before.wires link) before) (other.steps link (before.wires link).begun) else was)
    named_same false entered is same = refl
    named_same true entered is same =
        written_same (is_to_server before link) (may_begin setup link (before.wires link) before) (one.steps link (before.wires link).begun) (other.steps link (before.wires link).begun)
        (subst (λ (l : LinkId). is_to_server before l ≡ true → may_begin setup l (before.wires l) before ≡ true → one.steps l (before.wires l).begun ≡ other.steps l (before.wires l).begun)
        (sym (link_of link entered is)) same)

  use_same : (clock : ℕ) (e : Entry) → StepSame e → (link : LinkId) (was : Use)
      → use_by (terms_of fixed v) clock before after e link was ≡ use_by (terms_of fixed last) clock before after e link was
  use_same clock (entry.Wrote entered tag bytes) same link was = named_same clock link tag was (is_link_id link entered) entered refl same
  use_same clock _ same link was = refl

  abbrev with_lapsed : Use → ℕ → Use
  with_lapsed was more = record was { lapsed = was.lapsed + more }

  uses_same : (clock : ℕ) (e : Entry) (uses : LinkId → Use) → AreOwnSame → StepSame e
      → use_after (terms_of fixed v) clock before after e uses ≡ use_after (terms_of fixed last) clock before after e uses
  uses_same clock e uses own same = λ i link. by_link link i where
    by_link : (link : LinkId) → use_after (terms_of fixed v) clock before after e uses link ≡ use_after (terms_of fixed last) clock before after e uses link
    by_link link =
        let h : Option Hostgroup = hostgroup_of fixed.router (after.wires link).server in
        ap (λ was. with_lapsed was (lapses (terms_of fixed v) before after h)) (use_same clock e same link (uses link))
        ∙ ap (λ more. with_lapsed (use_by (terms_of fixed last) clock before after e link (uses link)) more) (lapses_same own h)

-- Along a log.

module _ (fixed : Fixed) (numbered : IsNumbered fixed) where
  step_decided : (w : World More) (link : LinkId) (tag : Tag) (bytes : List ℕ) (there begins : Bool) → there ≡ true → begins ≡ true
      → (step : StepText) × ((if there && begins then with_step (shared fixed) w link tag bytes else w.decided).steps link (w.tale.wires link).begun ≡ Some step)
  step_decided w link tag bytes true true to_server begin =
      let step = (shared fixed).step w link tag bytes in (
        _,
        filled-there (λ n. is_link_id link link && nat_eq n (w.tale.wires link).begun) (λ n. step) (w.decided.steps link) (w.tale.wires link).begun
            (and_from _ _ (same_link link) (same_number (w.tale.wires link).begun)),
      )
  step_decided w link tag bytes true false to_server begin = absurd (cc)
  step_decided w link tag bytes false begins to_server begin = absurd (cc)

  module _ (before later : Log) (e : Entry) (log : Log) (is : before ++ e ∷ later ≡ log) where
    abbrev w : World More
    w = world_at fixed before

    abbrev v : World More
    v = next fixed w e

    abbrev final : World More
    final = world_at fixed log

    abbrev t : Terms
    t = final_terms fixed log

    agrees : Agrees v.decided v.tale.moment (plan_of final.decided)
    agrees = agrees_behind fixed numbered before later e log is

    itself : Agrees v.decided v.tale.moment (plan_of v.decided)
    itself = agrees-itself v.decided v.tale.moment

    abbrev Told : Plan → Type 0
    Told plan = following.IsStep (setup_of fixed) (shared fixed) w e plan

    mine : Told (plan_of v.decided)
    mine = stepped (setup_of fixed) (shared fixed) w e (plan_of v.decided) (even_at fixed before) itself

    last_one : Told (plan_of final.decided)
    last_one = stepped (setup_of fixed) (shared fixed) w e (plan_of final.decided) (even_at fixed before) agrees

    own_same : AreOwnSame fixed v final w.tale v.tale
    own_same = record {
      early = λ n d is_due.
          let own = some_of (w.decided.own (message_of n d)) (due_seen_at fixed before n d is_due) in
          sym (same_own w.decided w.tale.moment (plan_of v.decided) mine.before (message_of n d) own.0 own.1)
          ∙ same_own w.decided w.tale.moment (plan_of final.decided) last_one.before (message_of n d) own.0 own.1;
      late = λ n d is_due.
          let own = some_of (v.decided.own (message_of n d)) (seen_step fixed numbered w e (even_at fixed before) (message_of n d) (due_seen_at fixed before n d is_due)) in
          same_own v.decided v.tale.moment (plan_of final.decided) agrees (message_of n d) own.0 own.1;
    }

    step_same : (f : Entry) → e ≡ f → StepSame fixed v final w.tale v.tale f
    step_same (entry.Wrote link tag bytes) same = λ there begins.
        let step = step_decided w link tag bytes (is_to_server w.tale link) (may_begin (setup_of fixed) link (w.tale.wires link) w.tale) there begins in
        let told : (decided_told (setup_of fixed) (shared fixed) w e).steps link (w.tale.wires link).begun ≡ Some step.0 =
        ap (λ f. (decided_told (setup_of fixed) (shared fixed) w f).steps link (w.tale.wires link).begun) same ∙ step.1 in
        mine.told.steps link (w.tale.wires link).begun step.0 told ∙ sym (last_one.told.steps link (w.tale.wires link).begun step.0 told)
    step_same _ same = tt

    uses_here : uses_of fixed v ≡ use_after (terms_of fixed v) w.more.clock w.tale v.tale e (uses_of fixed w)
    uses_here =
        let stays = step_stays fixed w e in
        ap (λ o. option_map_or (λ f. use_after (terms_of fixed v) v.more.before.clock v.more.before.tale v.tale f v.more.before.uses) o v.more.before.uses) stays.last
        ∙ ap (λ (n : Now). use_after (terms_of fixed v) n.clock n.tale v.tale e n.uses) stays.before

    uses_later : IsNow fixed t before → (now_at t (before ++ e ∷ [])).uses ≡ uses_of fixed (world_at fixed (before ++ e ∷ []))
    uses_later same =
        ap (λ (n : Now). n.uses) (fold_more (now.next t) before (e ∷ []) (now.at_first t))
        ∙ ap (λ (n : Now). use_after t n.clock n.tale (tale_step (setup_of fixed) (plan_of final.decided) n.tale e) e n.uses) (now_is fixed t before same)
        ∙ ap (λ (x : Tale). use_after t w.more.clock w.tale x e (uses_of fixed w)) (sym last_one.same)
        ∙ sym (uses_same fixed v final w.tale v.tale w.more.clock e (uses_of fixed w) own_same (step_same e refl))
        ∙ sym uses_here
        ∙ ap (λ (x : World More). uses_of fixed x) (sym (world_more fixed before (e ∷ [])))

  -- with what is known of the other fields
  with_uses : (before later log : Log) → before ++ later ≡ log → (now_at (final_terms fixed log) before).uses ≡ uses_of fixed (world_at fixed before)
      → IsNow fixed (final_terms fixed log) before
  with_uses before later log is uses =
      let same : IsSame fixed numbered (final_terms fixed log) before = subst (λ l. IsSame fixed numbered (final_terms fixed l) before) is (same_at fixed numbered before later) in
      record {
        clock = same.clock;
        tale = now-tale (final_terms fixed log) before ∙ subst (λ l. tale_at (final_terms fixed l) before ≡ (world_at fixed before).tale) is (tale_then fixed before later);
        servers = same.servers;
        flags = same.flags;
        since = same.since;
        uses = uses;
      }

  uses_from : (before middle later log : Log) → before ++ (middle ++ later) ≡ log → (now_at (final_terms fixed log) before).uses ≡ uses_of fixed (world_at fixed before)
      → (now_at (final_terms fixed log) (before ++ middle)).uses ≡ uses_of fixed (world_at fixed (before ++ middle))
  uses_from before [] later log is uses =
      subst (λ (l : Log). (now_at (final_terms fixed log) l).uses ≡ uses_of fixed (world_at fixed l)) (sym (append-nil before)) uses
  uses_from before (e ∷ middle) later log is uses =
      subst (λ (l : Log). (now_at (final_terms fixed log) l).uses ≡ uses_of fixed (world_at fixed l)) (append_assoc before (e ∷ []) middle)
      (uses_from (before ++ e ∷ []) middle later log (append_assoc before (e ∷ []) (middle ++ later) ∙ is)
      (uses_later before (middle ++ later) e log is (with_uses before (e ∷ (middle ++ later)) log is uses)))

  pub now_same : (before later : Log) → IsNow fixed (final_terms fixed (before ++ later)) before
  now_same before later = with_uses before later (before ++ later) refl (uses_from [] before later (before ++ later) refl refl)
