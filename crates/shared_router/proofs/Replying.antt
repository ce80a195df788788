-- A reply to a message stays at each entry, and what has one isn't given up.
use Rattle.std.specs.Prelude.{◌≡◌, ◌<◌, ◌≤◌, ℕ, suc, Bool, true, false, not, is_some, nat_le, if◌then◌else◌, slice_index_or, List, [], ◌∷◌, ◌++◌, Option, Some, None}
use Rattle.std.specs.Option.{option_and_then}
use Rattle.std.proofs.Common.{refl, sym, ap, ◌∙◌, subst, append_assoc, arith}
use Rattle.std.proofs.lemmas.Bool.{and_parts, leb-false, leb-true}
use Rattle.mx_wire.specs.Log.{Log}
use Rattle.mx_wire.specs.Moments.{AllLawful}
use Rattle.mx_wire.specs.declared.entry.Entry.{Entry}
use Rattle.mx_wire.specs.declared.entry.Entry.TheVariants as entry
use Rattle.private_model.specs.Commands.{Reply}
use Rattle.private_model.specs.Names.{MessageName}
use Rattle.private_model.specs.Story.{Happening, Heard, LoggedIn, Ran, Sent, Unprepared}
use Rattle.private_model.specs.View.{Setup}
use Rattle.log_story.specs.Owed.{name_of}
use Rattle.log_story.specs.Plan.{OwnAnswer, Plan, own_at}
use Rattle.log_story.specs.Tale.{Tale, tell, view_of}
use Rattle.log_story.specs.Telling.{tale_step, told}
use Rattle.tale_world.specs.Deciding.{World}
use Rattle.router_promises.proofs.Saying.{now-tale}
use Rattle.router_promises.specs.Now.{now_at}
use Rattle.router_promises.specs.Terms.{Terms, plan_in, setup_in, tale_at}
use Rattle.shared_router.specs.Fixed.{Fixed, IsNumbered}
use Rattle.shared_router.specs.Given.{GivenUpSo}
use Rattle.shared_router.specs.More.{More}
use Rattle.shared_router.specs.Onward.{RepliesStaySo}
use Rattle.shared_router.specs.Ours.{IsOurLog, IsOurs}
use Rattle.shared_router.specs.Shared.{final_terms, world_at}
use Rattle.shared_router.proofs.Along.{IsAt, along, lawful_there}
use Rattle.shared_router.proofs.Furthering.{tale_more}
use Rattle.run_laws.proofs.Going.{IsCalm, Keeps, step_keeps}
use Rattle.shared_router.proofs.Lonely.{Lone, Replied, more_lone, reply_stays}
use Rattle.shared_router.proofs.Parting.{even_at, tale_then, world_more}
use Rattle.shared_router.proofs.Reasons.{given_along}
use Rattle.shared_router.proofs.Since.{step-moment}
use Rattle.shared_router.proofs.Waking.{held_then}
use Rattle.shared_router.proofs.Walks.{Comes, Keeping, Says, entry_keeps, writes_keeps}

module _ (setup : Setup) (plan : Plan) (m : MessageName) (reply : Reply) where
  abbrev Has : Tale → Type 0
  Has tale = Replied setup m reply tale.story

  calm_has : (tale : Tale) (e : Happening) → IsCalm e → Has tale → Has (tell e tale)
  calm_has tale (LoggedIn link server account) calm has = absurd calm
  calm_has tale (Sent link question) calm has = absurd calm
  calm_has tale (Ran link) calm has = absurd calm
  calm_has tale (Heard link other) calm has = absurd calm
  calm_has tale (Unprepared link number) calm has = absurd calm
  calm_has tale _ calm has = has

  keeps : Keeps Has
  keeps = record { tells = calm_has; moves = λ tale client has. has; counts = λ tale has. has }

  -- An entry is told.

  abbrev replying : Keeping setup
  replying = record {
    holds = λ clients story. Lone setup story × Replied setup m reply story;
    more = λ clients past e may both. (more_lone setup past e may both.0, reply_stays setup m reply past e both.0 both.1);
    moves = λ clients past f stays both. both;
  }

  told_has : (tale : Tale) (e : Entry) → Lone setup tale.story → Has tale → Has (told setup plan tale e)
  told_has tale e lone has = (entry_keeps setup plan replying tale e (comes e) (says e) (lone, has)).1 where
    comes : (x : Entry) → Comes setup plan replying tale x
    comes (entry.Accepted port link salt) = (lone, has)
    comes _ = tt

    says : (x : Entry) → Says setup plan replying tale x
    says (entry.Wrote link for bytes) = λ there. writes_keeps setup plan replying (λ clients past both. both) link for bytes (tale.wires link) tale (lone, has)
    says _ = tt

  pub step_has : (tale : Tale) (e : Entry) → Lone setup tale.story → Has tale → Has (tale_step setup plan tale e)
  step_has tale e lone has = step_keeps setup plan Has keeps tale e (told_has tale e lone has)

-- What is answered by the router at an entry was in work before it, so that it had no reply.

abbrev own_by : Option OwnAnswer → ℕ → Option (List (List ℕ))
own_by o moment = option_and_then (λ (answer : OwnAnswer). if nat_le answer.from moment then Some answer.payloads else None) o

never : true ≡ false → ⊥
never is = absurd (cc)

pub came_then : (o : Option OwnAnswer) (moment : ℕ) → own_by o moment ≡ None → ((answer : OwnAnswer) → o ≡ Some answer → answer.from ≡ suc moment → ⊥) → own_by o (suc moment) ≡ None
came_then None moment is apart = refl
came_then (Some answer) moment is apart = by_tests (nat_le answer.from moment) (nat_le answer.from (suc moment)) refl refl is where
  by_tests : (was now : Bool) → nat_le answer.from moment ≡ was → nat_le answer.from (suc moment) ≡ now → (if was then Some answer.payloads else None) ≡ None
      → (if now then Some answer.payloads else None) ≡ None
  by_tests true now at later is = absurd (cc)
  by_tests false false at later is = refl
  by_tests false true at later is =
      let most : answer.from ≤ suc moment = leb-true answer.from (suc moment) later in
      let more : moment < answer.from = leb-false answer.from moment at in
      absurd (apart answer refl (omega (arith, most, more)))

-- Along a log of ours.

module _ (fixed : Fixed) (numbered : IsNumbered fixed) (log : Log) (our : IsOurLog fixed log) where
  abbrev t : Terms
  t = final_terms fixed log

  module _ (before later : Log) (e : Entry) (at : IsAt log before e later) where
    abbrev w : World More
    w = world_at fixed before

    abbrev old : Tale
    old = tale_at t before

    abbrev new : Tale
    new = tale_at t (before ++ e ∷ [])

    pub old_same : old ≡ w.tale
    old_same = subst (λ l. tale_at (final_terms fixed l) before ≡ w.tale) at.is (tale_then fixed before (e ∷ later))

    pub new_same : new ≡ tale_step (setup_in t) (plan_in t) old e
    new_same = tale_more t before e

    pub next_moment : new.moment ≡ suc old.moment
    next_moment =
        subst (λ l. (tale_at (final_terms fixed l) (before ++ e ∷ [])).moment ≡ suc w.tale.moment) (append_assoc before (e ∷ []) later ∙ at.is)
        (ap (λ (x : Tale). x.moment) (tale_then fixed (before ++ e ∷ []) later) ∙ ap (λ (v : World More). v.tale.moment) (world_more fixed before (e ∷ []))
        ∙ step-moment fixed w e (even_at fixed before))
        ∙ ap (λ (x : Tale). suc x.moment) (sym old_same)

    lone : Lone (setup_in t) old.story
    lone = subst (λ (x : Tale). Lone (setup_in t) x.story) (sym old_same) (held_then fixed before (e ∷ later) log at.is our).1.lone

    module _ (m : MessageName) (reply : Reply) (own : own_at (plan_in t) old.moment m ≡ None) (replied : (view_of (setup_in t) old).replies m ≡ Some reply) where
      stays : (view_of (setup_in t) new).replies m ≡ Some reply
      stays = subst (λ (x : Tale). (view_of (setup_in t) x).replies m ≡ Some reply) (sym new_same) (step_has (setup_in t) (plan_in t) m reply old e lone replied)

      not_given : (answer : OwnAnswer) → (plan_in t).own m ≡ Some answer → answer.from ≡ suc old.moment → ⊥
      not_given answer is from =
          let here : (now_at t before).tale ≡ old = now-tale t before in
          let given = lawful_there (GivenUpSo t) before later log e at.is (given_along fixed numbered log our) in
          let count : (now_at t before).tale.moment ≡ old.moment = ap (λ (x : Tale). x.moment) here in
          let up = given m answer is (omega (arith, from, count)) in
          let heard : Option Reply = (view_of (setup_in t) (now_at t before).tale).replies m in
          let has : heard ≡ Some reply = ap (λ (x : Tale). (view_of (setup_in t) x).replies m) here ∙ replied in
          let unheard : not (is_some heard) ≡ true = (and_parts (not (is_some heard)) _ (and_parts _ _ up.in_work).1).0 in
          never (sym unheard ∙ ap (λ o. not (is_some o)) has)

      unanswered : own_at (plan_in t) new.moment m ≡ None
      unanswered = subst (λ i. own_at (plan_in t) i m ≡ None) (sym next_moment) (came_then ((plan_in t).own m) old.moment own not_given)

    replies_by : IsOurs fixed before e → RepliesStaySo t before e
    replies_by ours = λ k d within i reply taken own replied.
        let m : MessageName = name_of (slice_index_or old.clients k d) (suc i) in (unanswered m reply own replied, stays m reply own replied)

  pub replies_kept : AllLawful (RepliesStaySo t) log
  replies_kept = along fixed log (RepliesStaySo t) replies_by our
