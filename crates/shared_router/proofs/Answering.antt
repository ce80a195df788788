-- The router's own answers stay as moments go on: so answers stay where replies do.
use Rattle.std.specs.Prelude.{◌≡◌, ◌≤◌, ℕ, suc, Bool, true, false, if◌then◌else◌, nat_le, slice_index_or, List, [], ◌∷◌, ◌++◌, Option, Some, None}
use Rattle.std.specs.Option.{option_and_then}
use Rattle.std.proofs.Common.{refl, ap, ◌∙◌, subst, append_assoc, arith}
use Rattle.std.proofs.lemmas.Bool.{le-leb, leb-true}
use Rattle.mx_wire.specs.Log.{Log}
use Rattle.mx_wire.specs.Moments.{LawfulAfter}
use Rattle.mx_wire.specs.declared.entry.Entry.{Entry}
use Rattle.private_model.specs.Commands.{Reply}
use Rattle.private_model.specs.Names.{MessageName}
use Rattle.log_story.specs.Owed.{name_of}
use Rattle.log_story.specs.Plan.{OwnAnswer, own_at}
use Rattle.log_story.specs.Tale.{Client, Tale, view_of}
use Rattle.tale_world.specs.Deciding.{World}
use Rattle.router_promises.specs.Terms.{Terms, plan_in, setup_in, tale_at}
use Rattle.shared_router.specs.Fixed.{Fixed}
use Rattle.shared_router.specs.More.{More}
use Rattle.shared_router.specs.Onward.{AnswerStays, AnswersStay, AnswersStaySo, RepliesStay, RepliesStaySo}
use Rattle.shared_router.specs.Shared.{final_terms, world_at}
use Rattle.shared_router.proofs.Parting.{even_at, tale_then, world_more}
use Rattle.shared_router.proofs.Since.{step-moment}

abbrev own_by : Option OwnAnswer → ℕ → Option (List (List ℕ))
own_by o moment = option_and_then (λ (answer : OwnAnswer). if nat_le answer.from moment then Some answer.payloads else None) o

own_later : (o : Option OwnAnswer) (old new : ℕ) (payloads : List (List ℕ)) → old ≤ new → own_by o old ≡ Some payloads → own_by o new ≡ Some payloads
own_later None old new payloads less is = is
own_later (Some answer) old new payloads less is = by_test (nat_le answer.from old) refl is where
  by_test : (b : Bool) → nat_le answer.from old ≡ b → (if b then Some answer.payloads else None) ≡ Some payloads → own_by (Some answer) new ≡ Some payloads
  by_test true at so =
      let early : answer.from ≤ old = leb-true answer.from old at in
      ap (λ b. if b then Some answer.payloads else None) (le-leb answer.from new (omega (arith, early, less))) ∙ so
  by_test false at so = absurd (cc)

module _ (terms : Terms) (old new : Tale) (less : old.moment ≤ new.moment) where
  stays_so : (client : Client) → RepliesStay terms old new client → AnswersStay terms old new client
  stays_so client replies i taken = by_own (own_at (plan_in terms) old.moment name) refl ((view_of (setup_in terms) old).replies name) refl where
    name : MessageName
    name = name_of client (suc i)

    by_own : (own : Option (List (List ℕ))) → own_at (plan_in terms) old.moment name ≡ own → (reply : Option Reply) → (view_of (setup_in terms) old).replies name ≡ reply
        → AnswerStays own reply (own_at (plan_in terms) new.moment name) ((view_of (setup_in terms) new).replies name)
    by_own (Some payloads) own reply read = own_later ((plan_in terms).own name) old.moment new.moment payloads less own
    by_own None own None read = tt
    by_own None own (Some reply) read = replies i reply taken own read

module _ (fixed : Fixed) where
  goes_on : (before later : Log) (e : Entry)
      → (tale_at (final_terms fixed (before ++ e ∷ later)) before).moment ≤ (tale_at (final_terms fixed (before ++ e ∷ later)) (before ++ e ∷ [])).moment
  goes_on before later e =
      let w : World More = world_at fixed before in
      let old : (tale_at (final_terms fixed (before ++ e ∷ later)) before).moment ≡ w.tale.moment = ap (λ (t : Tale). t.moment) (tale_then fixed before (e ∷ later)) in
      let new : (tale_at (final_terms fixed (before ++ e ∷ later)) (before ++ e ∷ [])).moment ≡ suc w.tale.moment =
      subst (λ l. (tale_at (final_terms fixed l) (before ++ e ∷ [])).moment ≡ suc w.tale.moment) (append_assoc before (e ∷ []) later)
      (ap (λ (t : Tale). t.moment) (tale_then fixed (before ++ e ∷ []) later) ∙ ap (λ (v : World More). v.tale.moment) (world_more fixed before (e ∷ []))
      ∙ step-moment fixed w e (even_at fixed before)) in
      omega (arith, old, new)

  pub answers_from : (before later whole : Log) → before ++ later ≡ whole → LawfulAfter (RepliesStaySo (final_terms fixed whole)) before later
      → LawfulAfter (AnswersStaySo (final_terms fixed whole)) before later
  answers_from before [] whole is stay = tt
  answers_from before (e ∷ later) whole is stay =
      let t : Terms = final_terms fixed whole in
      let less : (tale_at t before).moment ≤ (tale_at t (before ++ e ∷ [])).moment =
      subst (λ l. (tale_at (final_terms fixed l) before).moment ≤ (tale_at (final_terms fixed l) (before ++ e ∷ [])).moment) is (goes_on before later e) in (
        λ k d within. stays_so t (tale_at t before) (tale_at t (before ++ e ∷ [])) less (slice_index_or (tale_at t before).clients k d) (stay.0 k d within),
        answers_from (before ++ e ∷ []) later whole (append_assoc before (e ∷ []) later ∙ is) stay.1,
      )
