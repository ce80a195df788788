-- What becomes of a message that was taken up.
use Rattle.std.specs.Prelude.{◌≡◌, ◌≢◌, ℕ, true, ◌∷◌, List, [], Option, Some, None, drop, length, refl}
use Rattle.std.proofs.Common.{ap, subst, sym, ◌∙◌}
use Rattle.std.proofs.lemmas.Bool.{false≢true}
use Rattle.mx_base.specs.declared.names.Port.{Port}
use Rattle.mx_base.specs.declared.names.Port.TheVariants.{Traffic}
use Rattle.query_rules.specs.Effects.{is_first_flag}
use Rattle.query_rules.specs.Passing.{route_of}
use Rattle.query_rules.specs.declared.ask.Ask.{Ask}
use Rattle.query_rules.specs.declared.rule.Rule.{Rule}
use Rattle.private_model.specs.Names.{MessageName}
use Rattle.private_model.specs.Story.{Key}
use Rattle.log_story.specs.Plan.{Route, com_query}
use Rattle.router_promises.specs.Terms.{Terms, plan_in, setup_in, tale_at}
use Rattle.router_promises.specs.Verdicts.{Tells}
use Rattle.router_promises.proofs.Refusals.{at-index}
use Rattle.core_promises.specs.Asks.{IsRewritten}
use Rattle.core_promises.specs.Judges.{AreJudged, IsJudged, IsRoutedFor, IsToldAt, IsVerdictFor, Situation, rulebook_of, situation_of}
use Rattle.core_promises.specs.Wrong.{AnswersBy, AsTaken, AsksFor, SendsBy, TakesUp, book_up, taken_up, user_of}
use Rattle.core_promises.proofs.Verdicts.{AnswersSo, GoesSo, IsPassed, answers-so, goes-so}

pub judged-at : (terms : Terms) (payload : List ℕ) (up : TakesUp terms payload)
    → IsJudged (book_up up) (setup_in terms) (plan_in terms) up.log (taken_up up) payload
judged-at terms payload up =
    let judged : AreJudged (rulebook_of terms.router) up.keeps.rules (setup_in terms) (plan_in terms) up.log up.client =
    at-index (AreJudged (rulebook_of terms.router) up.keeps.rules (setup_in terms) (plan_in terms) up.log) (tale_at terms up.log).clients up.place up.client
    up.keeps.judges up.within up.is in
    subst (IsJudged (book_up up) (setup_in terms) (plan_in terms) up.log (taken_up up)) up.has
    (judged up.count up.message up.taken up.there)

-- how its client stood
abbrev pub stood : (terms : Terms) (payload : List ℕ) → TakesUp terms payload → Situation
stood terms payload up = situation_of (setup_in terms) (plan_in terms) (judged-at terms payload up).taking

-- the user with whom it logged in
pub stood-user : (terms : Terms) (payload : List ℕ) (up : TakesUp terms payload) → (stood terms payload up).user ≡ user_of up
stood-user terms payload up =
    ap (λ (name : MessageName). ((setup_in terms).accounts name.client).user) (judged-at terms payload up).taken.named

pub as-stood : (terms : Terms) (payload : List ℕ) (up : TakesUp terms payload) (fact : Situation → Type 0) → AsTaken up fact → fact (stood terms payload up)
as-stood terms payload up fact so = so (judged-at terms payload up).taking (judged-at terms payload up).taken

abbrev pub keys_in : Terms → (key : ℕ) → Option Key
keys_in terms key = Some ((setup_in terms).keys key)

-- what the verdict says of it

pub route-for : (terms : Terms) (payload : List ℕ) (route : Route) (sends : SendsBy terms payload route)
    → IsRoutedFor (book_up sends.up) (stood terms payload sends.up) (keys_in terms) sends.up.client.number payload route
route-for terms payload route sends = (judged-at terms payload sends.up).goes route sends.goes

pub sent-so : (terms : Terms) (payload : List ℕ) (route : Route) (sends : SendsBy terms payload route)
    → GoesSo (book_up sends.up).rules (user_of sends.up) (stood terms payload sends.up).place.schema payload route.text
sent-so terms payload route sends =
    subst (λ (user : List ℕ). GoesSo (book_up sends.up).rules user (stood terms payload sends.up).place.schema payload route.text) (stood-user terms payload sends.up)
    (goes-so (book_up sends.up) (stood terms payload sends.up) sends.up.client.number (keys_in terms) payload route (route-for terms payload route sends))

pub answer-for : (terms : Terms) (payload : List ℕ) (payloads : List (List ℕ)) → (answers : AnswersBy terms payload payloads)
    → IsVerdictFor (book_up answers.up) (stood terms payload answers.up) answers.up.client.number payload (Tells payloads)
answer-for terms payload payloads answers =
    subst (λ (port : Port). IsToldAt port (book_up answers.up) (stood terms payload answers.up) answers.up.client.number payload payloads)
    (as-stood terms payload answers.up (λ (situation : Situation). situation.port ≡ Traffic) answers.port)
    ((judged-at terms payload answers.up).tells payloads answers.nowhere answers.answers)

pub answered-so : (terms : Terms) (text : List ℕ) (payloads : List (List ℕ)) (answers : AnswersBy terms (com_query ∷ text) payloads)
    → AnswersSo (book_up answers.up).rules (user_of answers.up) (stood terms (com_query ∷ text) answers.up).place.schema text payloads
answered-so terms text payloads answers =
    subst (λ (user : List ℕ). AnswersSo (book_up answers.up).rules user (stood terms (com_query ∷ text) answers.up).place.schema text payloads)
    (stood-user terms (com_query ∷ text) answers.up)
    (answers-so (book_up answers.up) (stood terms (com_query ∷ text) answers.up) answers.up.client.number text payloads
    (answer-for terms (com_query ∷ text) payloads answers))

-- a query goes to a server only where some pass of the rules, for its client's user in its schema, doesn't stop it
pub unstopped-by : (terms : Terms) (text : List ℕ) (route : Route) (sends : SendsBy terms (com_query ∷ text) route)
    → ((ask : Ask) → ask.text ≡ text → ask.user ≡ user_of sends.up → ask.schema ≡ (stood terms (com_query ∷ text) sends.up).place.schema
    → is_first_flag (book_up sends.up).rules ask.flag ≡ true → (route_of (book_up sends.up).rules ask).stop ≢ None) → ⊥
unstopped-by terms text route sends stops = by route.text (sent-so terms (com_query ∷ text) route sends) where
  by : (made : Option (List ℕ))
      → GoesSo (book_up sends.up).rules (user_of sends.up) (stood terms (com_query ∷ text) sends.up).place.schema (com_query ∷ text) made → ⊥
  by None so = false≢true so
  by (Some other) so = stops so.made.ask so.made.own so.login so.placed so.flag so.unstopped

-- it goes as a text that the rules made of the message's own, and that isn't refused
pub passed-as : (terms : Terms) (payload text : List ℕ) (asks : AsksFor terms payload text)
    → IsPassed (book_up asks.sends.up).rules (user_of asks.sends.up) (stood terms payload asks.sends.up).place.schema payload text
passed-as terms payload text asks =
    subst (GoesSo (book_up asks.sends.up).rules (user_of asks.sends.up) (stood terms payload asks.sends.up).place.schema payload) asks.as_text (sent-so terms payload asks.route asks.sends)

pub rewritten-as : (terms : Terms) (payload text : List ℕ) (asks : AsksFor terms payload text) → IsRewritten (book_up asks.sends.up).rules payload text
rewritten-as terms payload text asks = (passed-as terms payload text asks).made

-- without rules it is that
unruled : (rules : List Rule) (ask : Ask) → rules ≡ [] → (route_of rules ask).text ≡ ask.text
unruled rules ask none = subst (λ (rs : List Rule). (route_of rs ask).text ≡ ask.text) (sym none) refl

pub own-text : (rules : List Rule) (payload text : List ℕ) → IsRewritten rules payload text → rules ≡ [] → text ≡ drop 1 payload
own-text rules payload text made none = made.is ∙ unruled rules made.ask none ∙ made.own
