-- An answer that the router gives at an entry of the log was given by what was known as the entry was told.
use Rattle.std.specs.Prelude.{◌≡◌, ◌⊎◌, ℕ, suc, Bool, true, false, fold, if◌then◌else◌, unwrap_or, List, [], ◌∷◌, ◌++◌, Option, Some, None}
use Rattle.std.specs.Option.{option_and_then}
use Rattle.std.proofs.Common.{refl, sym, ap, ◌∙◌, arith, inl, inr}
use Rattle.mx_wire.specs.Log.{Log}
use Rattle.mx_wire.specs.declared.entry.Entry.{Entry}
use Rattle.private_model.specs.Names.{MessageName}
use Rattle.private_model.specs.View.{Setup}
use Rattle.log_story.specs.Plan.{OwnAnswer, Route}
use Rattle.log_story.specs.Tale.{view_of}
use Rattle.tale_world.specs.Decided.{plan_of}
use Rattle.tale_world.specs.Deciding.{Deciding, World}
use Rattle.tale_world.specs.World.{given_up, is_counted, is_ended, is_told}
use Rattle.tale_world.proofs.Following.{step_even}
use Rattle.router_promises.specs.GivenUp.{is_in_work}
use Rattle.router_promises.specs.Terms.{plan_in}
use Rattle.shared_router.specs.Causes.{Case, cause_of, known_before}
use Rattle.shared_router.specs.Fixed.{Fixed, setup_of}
use Rattle.shared_router.specs.Judged.{heard}
use Rattle.shared_router.specs.Known.{Known}
use Rattle.shared_router.specs.More.{More}
use Rattle.shared_router.specs.Shared.{shared, world_at}
use Rattle.shared_router.proofs.Parting as parting
use Rattle.shared_router.proofs.Parting.{even_at, next, world_more}
use Rattle.shared_router.proofs.Since.{IsWithin, all-since, freeing-since, going-on, log-since, step-moment, told-since}

pub decided_so : {A : Type 0} (o : Option (Option A)) (a : A) → unwrap_or o None ≡ Some a → o ≡ Some (Some a)
decided_so None a is = absurd (cc)
decided_so (Some o) a is = ap (λ x. Some x) is

given-so : (moment : ℕ) (payloads : Option (List (List ℕ))) (own : Option (Option OwnAnswer)) (answer : OwnAnswer) → given_up moment payloads own ≡ Some (Some answer)
    → (own ≡ Some (Some answer)) ⊎ (payloads ≡ Some answer.payloads)
given-so moment None own answer is = inl is
given-so moment (Some payloads) (Some (Some other)) answer is = inl is
given-so moment (Some payloads) (Some None) answer is = inr (let same : payloads ≡ answer.payloads = cc in ap (λ x. Some x) same)
given-so moment (Some payloads) None answer is = inr (let same : payloads ≡ answer.payloads = cc in ap (λ x. Some x) same)

-- one that was decided before, or at once
either_way : {A : Type 0} (moment from : ℕ) (B : Type 0) → from ≡ suc moment → B ⊎ ((from ≡ 0) ⊎ IsWithin 0 0 from) → (B → A) → A
either_way moment from B at (inl is) so = so is
either_way moment from B at (inr (inl none)) so = absurd (omega (arith, at, none))
either_way moment from B at (inr (inr within)) so = absurd (omega (arith, at, within.1))

-- Why it was given: what the function of causes says.
pub record IsGiven (k : Known) (c : Route → Case) (m : MessageName) (payloads : List (List ℕ)) : Type 0 where
  pub in_work : is_in_work k.terms k.now m ≡ true
  pub route : Route
  pub goes : (plan_in k.terms).routes m ≡ Some route
  pub payload : List ℕ
  pub caused : cause_of (c route) ≡ Some payload
  pub one : payloads ≡ payload ∷ []

module _ (k : Known) (c : Route → Case) (m : MessageName) (payloads : List (List ℕ)) where
  given_parts : (b : Bool) (o : Option Route) → is_in_work k.terms k.now m ≡ b → (plan_in k.terms).routes m ≡ o
      → (if b then option_and_then (λ route. option_and_then (λ payload. Some (payload ∷ [])) (cause_of (c route))) o else None) ≡ Some payloads
      → IsGiven k c m payloads
  given_parts false o in_work goes is = absurd (cc)
  given_parts true None in_work goes is = absurd (cc)
  given_parts true (Some route) in_work goes is = by_cause (cause_of (c route)) refl is where
    by_cause : (o : Option (List ℕ)) → cause_of (c route) ≡ o → option_and_then (λ payload. Some (payload ∷ [])) o ≡ Some payloads → IsGiven k c m payloads
    by_cause None caused is = absurd (cc)
    by_cause (Some payload) caused is = record {
      in_work = in_work;
      route = route;
      goes = goes;
      payload = payload;
      caused = caused;
      one = (let same : payload ∷ [] ≡ payloads = cc in sym same);
    }

module _ (fixed : Fixed) (before later : Log) (e : Entry) where
  abbrev setup : Setup
  setup = setup_of fixed

  abbrev by : Deciding More
  by = shared fixed

  abbrev w : World More
  w = world_at fixed before

  abbrev pub told_world : World More
  told_world = is_told setup by w e

  abbrev v : World More
  v = next fixed w e

  abbrev final : World More
  final = world_at fixed (before ++ e ∷ later)

  module _ (m : MessageName) (answer : OwnAnswer) (at : answer.from ≡ suc w.tale.moment) where
    -- it wasn't given before
    not_before : {A : Type 0} → told_world.decided.own m ≡ Some (Some answer) → A
    not_before is =
        either_way w.tale.moment answer.from (w.decided.own m ≡ Some (Some answer)) at ((told-since fixed 0 w e).own m answer is)
        (λ old. elim ((log-since fixed before (parting.first fixed) refl).own m answer old) [
          | inl none ↦ absurd (cc)
          | inr rest ↦ elim rest [
            | inl zero ↦ absurd (omega (arith, at, zero))
            | inr within ↦ absurd (omega (arith, at, within.1))
          ]
        ])

    by_given : (is_counted by told_world e).decided.own m ≡ Some (Some answer) → by.gives_up told_world e m ≡ Some answer.payloads
    by_given is = elim (given-so (suc told_world.tale.moment) (by.gives_up told_world e m) (told_world.decided.own m) answer is) [
      | inl old ↦ not_before old
      | inr new ↦ new
    ]

    -- nor as clients went on behind the entry
    by_step : v.decided.own m ≡ Some (Some answer) → by.gives_up told_world e m ≡ Some answer.payloads
    by_step is =
        let b : World More = is_counted by told_world e in
        let c : World More = heard fixed w e in
        let d : World More = going-on fixed w e in
        let f : World More = is_ended by d e in
        either_way w.tale.moment answer.from (f.decided.own m ≡ Some (Some answer)) at ((freeing-since fixed 0 f.tale.links f).own m answer is)
        (λ ended. either_way w.tale.moment answer.from (c.decided.own m ≡ Some (Some answer)) at ((all-since fixed 0 (view_of setup w.tale) e c.tale.clients c).own m answer ended)
        (λ freed. either_way w.tale.moment answer.from (b.decided.own m ≡ Some (Some answer)) at ((freeing-since fixed 0 b.tale.links b).own m answer freed)
        (λ counted. by_given counted)))

    by_last : (plan_of final.decided).own m ≡ Some answer → by.gives_up told_world e m ≡ Some answer.payloads
    by_last is =
        let last : (fold (next fixed) v later).decided.own m ≡ Some (Some answer) =
        ap (λ (x : World More). x.decided.own m) (sym (world_more fixed before (e ∷ later))) ∙ decided_so (final.decided.own m) answer is in
        let now : v.tale.moment ≡ suc w.tale.moment = step-moment fixed w e (even_at fixed before) in
        elim ((log-since fixed later v (step_even setup by w e)).own m answer last) [
          | inl old ↦ by_step old
          | inr rest ↦ elim rest [
            | inl zero ↦ absurd (omega (arith, at, zero))
            | inr within ↦ absurd (omega (arith, at, now, within.0))
          ]
        ]

    abbrev pub case_of : Route → Case
    case_of route = record { known = known_before fixed told_world; servers = told_world.more.servers; e = e; m = m; route = route }

    pub is_given : (plan_of final.decided).own m ≡ Some answer → IsGiven (known_before fixed told_world) case_of m answer.payloads
    is_given is =
        let k : Known = known_before fixed told_world in
        given_parts k case_of m answer.payloads (is_in_work k.terms k.now m) ((plan_in k.terms).routes m) refl refl (by_last is)
