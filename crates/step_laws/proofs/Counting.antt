-- At the next moment: what isn't given up then stays as it is.
use Rattle.std.specs.Prelude.{◌≡◌, ◌<◌, ℕ, suc, false, not, is_some, ◌&&◌, nat_eq, nat_le, if◌then◌else◌, List, Option, Some, None}
use Rattle.std.specs.Option.{option_and_then, option_map_or}
use Rattle.std.proofs.Common.{refl, sym, ap, ◌∙◌, inl, inr, arith}
use Rattle.std.proofs.lemmas.Bool.{cases_lt, eqb-false, le-leb, lt-leb}
use Rattle.private_model.specs.Names.{LinkId, MessageName, SessionName}
use Rattle.private_model.specs.Story.{Due, message_of}
use Rattle.private_model.specs.View.{Carried, Joined, Lent, Nobody, Setup, View}
use Rattle.log_story.specs.Plan.{OwnAnswer, Plan, gives_up, own_at}
use Rattle.log_story.specs.Servers.{is_done_by, is_given_up, is_left, is_quiet}
use Rattle.log_story.specs.Tale.{Tale, counted, is_reset_step, link_in, view_of}
use Rattle.step_laws.specs.Freed.{is_done_at}
use Rattle.step_laws.specs.Spared.{is_given_now}
use Rattle.step_laws.proofs.Sparing.{lent_by}

le_later : (from moment : ℕ) → nat_eq from (suc moment) ≡ false → nat_le from (suc moment) ≡ nat_le from moment
le_later from moment other = elim (cases_lt moment from) [
  | inl above ↦ lt-leb from (suc moment) (further above) ∙ sym (lt-leb from moment above)
  | inr below ↦ le-leb from (suc moment) (omega (arith, below)) ∙ sym (le-leb from moment below)
]
  where
    further : moment < from → suc moment < from
    further above = let apart : from ≡ suc moment → ⊥ = eqb-false from (suc moment) other in omega (arith, above, apart)

own_by : (moment : ℕ) (own : Option OwnAnswer) → option_map_or (λ (answer : OwnAnswer). nat_eq answer.from (suc moment)) own false ≡ false
    → option_and_then (λ (answer : OwnAnswer). if nat_le answer.from (suc moment) then Some answer.payloads else None) own
    ≡ option_and_then (λ (answer : OwnAnswer). if nat_le answer.from moment then Some answer.payloads else None) own
own_by moment None other = refl
own_by moment (Some answer) other = ap (λ b. if b then Some answer.payloads else None) (le_later answer.from moment other)

-- nothing more is answered
pub own_still : (plan : Plan) (moment : ℕ) (m : MessageName) → gives_up plan (suc moment) m ≡ false → own_at plan (suc moment) m ≡ own_at plan moment m
own_still plan moment m other = own_by moment (plan.own m) other

given_still : (plan : Plan) (moment : ℕ) (n : SessionName) (due : Option Due)
    → option_map_or (λ d. gives_up plan (suc moment) (message_of n d)) due false ≡ false → is_given_up plan (suc moment) n due ≡ is_given_up plan moment n due
given_still plan moment n None other = refl
given_still plan moment n (Some due) other = ap (λ (o : Option (List (List ℕ))). is_some o) (own_still plan moment (message_of n due) other)

done_still : (plan : Plan) (moment : ℕ) (view : View) (carried : Carried) → is_given_now plan (suc moment) view carried ≡ false
    → is_done_by plan (suc moment) view carried ≡ is_done_by plan moment view carried
done_still plan moment view Nobody other = refl
done_still plan moment view (Lent n) other =
    ap (λ given. lent_by given (is_left view n) (view.held n).pin (view.held n).id) (given_still plan moment n (view.dues n) other)
done_still plan moment view (Joined n) other = refl

pub counted_done : (setup : Setup) (plan : Plan) (tale : Tale) (link : LinkId)
    → is_given_now plan (suc tale.moment) (view_of setup tale) (link_in setup tale link).carries ≡ false
    → is_done_at setup plan (counted tale) link ≡ is_done_at setup plan tale link
counted_done setup plan tale link other =
    let known = link_in setup tale link in
    ap (λ b. known.usable && (is_quiet known.stage && (not (is_reset_step (tale.wires link).step) && b)))
    (done_still plan tale.moment (view_of setup tale) known.carries other)
