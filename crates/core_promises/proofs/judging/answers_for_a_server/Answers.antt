use Rattle.std.proofs.Common.{◌∙◌, arith, inl, inr, sym}
use Rattle.log_story.specs.Plan.{com_query}
use Rattle.std.specs.Prelude.{◌∷◌, ◌≡◌, ◌≢◌, ℕ, List, Some, true}
use Rattle.query_rules.specs.Effects.{is_first_flag}
use Rattle.query_rules.specs.Passing.{route_of}
use Rattle.query_rules.specs.declared.ask.Ask.{Ask}
use Rattle.query_rules.specs.declared.ask.Stop.TheVariants.{Ok as OkBy}
use Rattle.core_promises.specs.Judges.{Situation}
use Rattle.core_promises.specs.Wrong.{book_up}
use Rattle.core_promises.proofs.Texts.{answered-so, as-stood, stood-user}
use Rattle.core_promises.proofs.judging.answers_for_a_server.Goals as goal

pub returns : goal.returns
returns c = λ terms text info status answers unanswered.
    let none = as-stood terms (com_query ∷ text) answers.up
    (λ (situation : Situation). (ask : Ask) (said : List ℕ) → ask.text ≡ text → ask.user ≡ situation.user → ask.schema ≡ situation.place.schema
    → is_first_flag (book_up answers.up).rules ask.flag ≡ true → (route_of (book_up answers.up).rules ask).stop ≢ Some (OkBy said)) unanswered in
    elim (answered-so terms text _ answers) [
      | inl error ↦ absurd (omega (arith, error))
      | inr ruled ↦ none ruled.ask ruled.said ruled.own (ruled.login ∙ sym (stood-user terms (com_query ∷ text) answers.up)) ruled.placed ruled.flag ruled.stops
    ]
