use Rattle.std.specs.Prelude.{◌∷◌, ◌≡◌, ℕ, List}
use Rattle.std.proofs.Common.{ap, subst, sym, ◌∙◌}
use Rattle.log_story.specs.Plan.{com_query}
use Rattle.query_rules.specs.Passing.{route_of}
use Rattle.router_promises.specs.Router.{home_of}
use Rattle.core_promises.specs.Judges.{IsClosed}
use Rattle.core_promises.specs.Wrong.{book_up, StaysIn}
use Rattle.core_promises.proofs.Homing.{goes-home}
use Rattle.core_promises.proofs.Texts.{as-stood, keys_in, route-for, stood, stood-user}
use Rattle.core_promises.proofs.judging.goes_elsewhere.Goals as goal

pub returns : goal.returns
returns c = λ terms text route sends closed stays elsewhere.
    let same = stood-user terms (com_query ∷ text) sends.up in
    elsewhere
    (goes-home (book_up sends.up) (stood terms (com_query ∷ text) sends.up) (keys_in terms) sends.up.client.number text route
    (route-for terms (com_query ∷ text) route sends)
    (as-stood terms (com_query ∷ text) sends.up IsClosed closed)
    (λ ask own login placed home flag.
    subst (λ (user : List ℕ). StaysIn (home_of terms.router user) (route_of (book_up sends.up).rules ask)) (sym same)
    (stays ask own (login ∙ same) (home ∙ ap (home_of terms.router) same) flag))
    ∙ ap (home_of terms.router) same)
