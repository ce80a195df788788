use Rattle.std.specs.Prelude.{◌∷◌, ◌≡◌, ◌≢◌, None, true}
use Rattle.std.proofs.Common.{◌∙◌, sym}
use Rattle.log_story.specs.Plan.{com_query}
use Rattle.query_rules.specs.Effects.{is_first_flag}
use Rattle.query_rules.specs.Passing.{route_of}
use Rattle.query_rules.specs.declared.ask.Ask.{Ask}
use Rattle.core_promises.specs.Judges.{Situation}
use Rattle.core_promises.specs.Wrong.{book_up}
use Rattle.core_promises.proofs.Texts.{as-stood, stood-user, unstopped-by}
use Rattle.core_promises.proofs.judging.goes_past_a_rule.Goals as goal

pub returns : goal.returns
returns c = λ terms text route sends stops.
    unstopped-by terms text route sends
    (λ ask own login placed flag.
    as-stood terms (com_query ∷ text) sends.up
    (λ (situation : Situation). (ask : Ask) → ask.text ≡ text → ask.user ≡ situation.user → ask.schema ≡ situation.place.schema
    → is_first_flag (book_up sends.up).rules ask.flag ≡ true → (route_of (book_up sends.up).rules ask).stop ≢ None) stops
    ask own (login ∙ sym (stood-user terms (com_query ∷ text) sends.up)) placed flag)
