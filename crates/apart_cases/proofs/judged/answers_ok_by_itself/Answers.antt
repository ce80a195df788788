use Rattle.std.specs.Prelude.{◌≡◌, List, [], Option, None, refl}
use Rattle.std.proofs.Common.{subst, sym, ◌∙◌}
use Rattle.query_rules.specs.Passing.{route_of}
use Rattle.query_rules.specs.declared.ask.Ask.{Ask}
use Rattle.query_rules.specs.declared.ask.Stop.{Stop}
use Rattle.query_rules.specs.declared.rule.Rule.{Rule}
use Rattle.router_promises.proofs.Refusals.{none-some}
use Rattle.core_promises.specs.Wrong.{book_up}
use Rattle.apart_cases.proofs.judged.answers_ok_by_itself.Goals as goal

unstopped : (rules : List Rule) (ask : Ask) → rules ≡ [] → (route_of rules ask).stop ≡ None
unstopped rules ask none = subst (λ (rs : List Rule). ◌≡◌ {A = Option Stop} (route_of rs ask).stop None) (sym none) refl

pub returns : goal.returns
returns c = λ terms text info status answers none.
    c.answers_for_a_server.ensures terms text info status answers (λ taking taken ask said own login placed flag stops. none-some (sym (unstopped (book_up answers.up).rules ask none) ∙ stops))
