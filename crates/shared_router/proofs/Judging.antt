-- What is decided as a message comes up is the verdict on it.
use Rattle.std.specs.Prelude.{ℕ, ◌≡◌, suc, Bool, true, false, nat_le, if◌then◌else◌, unwrap_or, Option, Some, None}
use Rattle.std.specs.Option.{option_map_or, option_and_then}
use Rattle.std.proofs.Common.{refl, sym, ap, ◌∙◌, subst}
use Rattle.packet_frame.specs.Packets.{Framed}
use Rattle.private_model.proofs.Maps.{same_message}
use Rattle.private_model.specs.Names.{LinkId, MessageName}
use Rattle.router_promises.specs.Terms.{Tried}
use Rattle.private_model.specs.Story.{Key, is_message}
use Rattle.log_story.specs.Owed.{name_of}
use Rattle.log_story.specs.Plan.{OwnAnswer, Plan, own_at}
use Rattle.log_story.specs.Tale.{Client}
use Rattle.tale_world.specs.Decided.{Agrees, Decided, filled, plan_of}
use Rattle.tale_world.specs.Deciding.{World}
use Rattle.tale_world.specs.World.{decided_looked, decided_next, is_looked_up, is_taken_of, next_message, with_route}
use Rattle.tale_world.proofs.Agreeing.{agrees-less, filled-there, more-refl, same_own}
use Rattle.tale_world.proofs.Following.{looked_same, since-looked}
use Rattle.tale_world.specs.Served.{SameFor}
use Rattle.log_story.specs.Tale.{view_of}
use Rattle.router_promises.specs.Verdicts.{verdict}
use Rattle.shared_router.proofs.Verdicts.{verdict_same}
use Rattle.router_promises.specs.Routed.{IsKeyed}
use Rattle.router_promises.specs.Verdicts.{Goes, Parts, Tells, Verdict}
use Rattle.shared_router.specs.Fixed.{Fixed, IsNumbered, setup_of}
use Rattle.shared_router.specs.Judged.{IsFresh, IsJudged, IsMet, with_rest}
use Rattle.shared_router.specs.More.{More, terms_of}
use Rattle.shared_router.specs.Shared.{answer_by, goes_by, judged_by, route_by, shared, starves_now, taking_in, told_by}

module _ (fixed : Fixed) (w : World More) (client : Client) (message : Framed) (bare : LinkId → Bool) (tried : ℕ → Tried) where
  abbrev name : MessageName
  name = name_of client (suc client.taken)

  abbrev looked : Decided
  looked = decided_looked (setup_of fixed) (shared fixed) w client

  abbrev after : Decided
  after = decided_next (setup_of fixed) (shared fixed) w client

  abbrev behind : Bool → Option Framed → Decided
  behind up next = if up then with_route (shared fixed) w client looked next else looked

  route-decided : IsFresh fixed w client message → after.routes name ≡ Some (route_by fixed w client message)
  route-decided fresh =
      ap (λ b. (behind b (next_message looked client)).routes name) fresh.up ∙ ap (λ o. (behind true o).routes name) fresh.next
      ∙ filled-there (λ m. is_message m name) (λ m. (shared fixed).route w client (suc client.taken) message) looked.routes name (same_message name)
      ∙ ap (λ o. Some (unwrap_or o ((shared fixed).route w client (suc client.taken) message))) fresh.route

  own-decided : IsFresh fixed w client message → after.own name ≡ Some (answer_by fixed w client message)
  own-decided fresh =
      ap (λ b. (behind b (next_message looked client)).own name) fresh.up ∙ ap (λ o. (behind true o).own name) fresh.next
      ∙ filled-there (λ m. is_message m name) (λ m. (shared fixed).answer w client (suc client.taken) message) looked.own name (same_message name)
      ∙ ap (λ o. Some (unwrap_or o ((shared fixed).answer w client (suc client.taken) message))) fresh.own

  numbered_so : IsNumbered fixed → (plan : Plan) (key : Option Key) → IsKeyed (with_rest (terms_of fixed w) plan bare tried) (option_map_or fixed.number_of key 0) key
  numbered_so numbered plan None = tt
  numbered_so numbered plan (Some key) = numbered key

  -- no answer is there by now
  unanswered_by : (plan : Plan) → Agrees after w.tale.moment plan → after.own name ≡ Some None → own_at plan w.tale.moment name ≡ None
  unanswered_by plan agrees none =
      sym (same_own after w.tale.moment plan agrees name None none)
      ∙ ap (λ o. option_and_then (λ (answer : OwnAnswer). if nat_le answer.from w.tale.moment then Some answer.payloads else None) (unwrap_or o None)) none

  judged_as : IsNumbered fixed → (plan : Plan) → Agrees after w.tale.moment plan → (verdict : Verdict) → after.routes name ≡ Some (goes_by fixed verdict) → after.own name ≡ Some (told_by verdict)
      → IsJudged (with_rest (terms_of fixed w) plan bare tried) (taking_in w client message) verdict
  judged_as numbered plan agrees Parts routed owned = record { route = agrees.routes name None routed; unanswered = unanswered_by plan agrees owned }
  judged_as numbered plan agrees (Tells payloads) routed owned = record {
    route = agrees.routes name None routed;
    own = agrees.answered name (record { from = 0; payloads = payloads }) owned;
  }
  judged_as numbered plan agrees (Goes wanted) routed owned = record {
    key = option_map_or fixed.number_of wanted.key 0;
    route = agrees.routes name _ routed;
    keyed = numbered_so numbered plan wanted.key;
    unanswered = unanswered_by plan agrees owned;
  }

  -- by whether memory is refused
  met_by : IsNumbered fixed → (plan : Plan) → Agrees after w.tale.moment plan → (b : Bool)
      → after.routes name ≡ Some (if b then None else goes_by fixed (judged_by fixed w client message))
      → after.own name ≡ Some (if b then None else told_by (judged_by fixed w client message))
      → IsMet b (with_rest (terms_of fixed w) plan bare tried) (taking_in w client message) (judged_by fixed w client message)
  met_by numbered plan agrees true routed owned = record { route = agrees.routes name None routed; unanswered = unanswered_by plan agrees owned }
  met_by numbered plan agrees false routed owned = judged_as numbered plan agrees (judged_by fixed w client message) routed owned

  pub judged_so : IsNumbered fixed → (plan : Plan) → IsFresh fixed w client message → Agrees after w.tale.moment plan
      → IsMet (starves_now fixed w client) (with_rest (terms_of fixed w) plan bare tried) (taking_in w client message) (judged_by fixed w client message)
  judged_so numbered plan fresh agrees =
      met_by numbered plan agrees (starves_now fixed w client) (route-decided fresh) (own-decided fresh)

  -- by the router's own terms then, and by those of the plan

  none_more : {K A : Type 0} (which : K → Bool) (f : K → Option (Option A)) (k : K) → unwrap_or (filled which (λ m. None) f k) None ≡ unwrap_or (f k) None
  none_more which f k = by_test (which k) where
    by_test : (b : Bool) → unwrap_or (if b then Some (unwrap_or (f k) None) else f k) None ≡ unwrap_or (f k) None
    by_test true = refl
    by_test false = refl

  looked_for_nothing : SameFor client (view_of (setup_of fixed) w.tale) w.tale.moment (plan_of w.decided) (plan_of looked)
  looked_for_nothing = record {
    service = refl;
    room = refl;
    own = λ i below. ap (λ o. option_and_then (λ (answer : OwnAnswer). if nat_le answer.from w.tale.moment then Some answer.payloads else None) o) (sym (none_more (is_taken_of client) w.decided.own (name_of client i)));
    routes = λ m has. sym (none_more (is_looked_up (view_of (setup_of fixed) w.tale) client) w.decided.routes m);
    taken = λ i below. sym (none_more (is_looked_up (view_of (setup_of fixed) w.tale) client) w.decided.routes (name_of client i));
  }

  pub same_later : (plan : Plan) → Agrees after w.tale.moment plan → SameFor client (view_of (setup_of fixed) w.tale) w.tale.moment (plan_of w.decided) plan
  same_later plan agrees =
      let first = looked_for_nothing in
      let later = looked_same (setup_of fixed) (shared fixed) w client looked plan (more-refl looked) (agrees-less looked after w.tale.moment plan (since-looked (setup_of fixed) (shared fixed) w client) agrees) in
      record {
        service = first.service ∙ later.service;
        room = first.room ∙ later.room;
        own = λ i below. first.own i below ∙ later.own i below;
        routes = λ m has. first.routes m has ∙ later.routes m has;
        taken = λ i below. first.taken i below ∙ later.taken i below;
      }

  pub judged_later : IsNumbered fixed → (plan : Plan) → IsFresh fixed w client message → Agrees after w.tale.moment plan
      → IsMet (starves_now fixed w client) (with_rest (terms_of fixed w) plan bare tried) (taking_in w client message)
      (verdict (with_rest (terms_of fixed w) plan bare tried) w.more.servers (w.more.flags client.number) (taking_in w client message))
  judged_later numbered plan fresh agrees =
      subst (IsMet (starves_now fixed w client) (with_rest (terms_of fixed w) plan bare tried) (taking_in w client message))
      (verdict_same (terms_of fixed w) (plan_of w.decided) plan bare tried w.more.servers (w.more.flags client.number) (taking_in w client message) (same_later plan agrees))
      (judged_so numbered plan fresh agrees)
