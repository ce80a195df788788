-- The worked log of router_cases, where it waits, and what the router says there by itself.
use Rattle.std.specs.Prelude.{◌≡◌, ℕ, Bool, true, false, List, [], ◌∷◌, Option, Some, None, if◌then◌else◌, length, refl}
use Rattle.std.proofs.Common.{ap, arith, subst}
use Rattle.std.proofs.lemmas.List.Elements.{All-nil}
use Rattle.std.proofs.lemmas.List.Sorted.{IsPermutation-refl}
use Rattle.client_session.specs.Errors.{connection_refused}
use Rattle.mx_wire.specs.Moments.{AllLawful}
use Rattle.mx_base.specs.declared.names.Port.TheVariants.{Traffic}
use Rattle.query_rules.specs.Building.{IsCompiled}
use Rattle.query_rules.specs.declared.rule.Rule.{Rule}
use Rattle.private_model.specs.Names.{ClientNo, Hostgroup, MessageName}
use Rattle.private_model.specs.Story.{Key, is_message}
use Rattle.log_story.specs.Plan.{LastWord, OwnAnswer, Route, com_query}
use Rattle.own_words.specs.Own.{GivesUp, IsOwn, NoLink, SpeaksOwn}
use Rattle.core_promises.specs.Asks.{CopiesNothing}
use Rattle.core_promises.proofs.Texts.{keys_in}
use Rattle.core_promises.specs.Judges.{IsClosed, IsRoutedFor, JudgesSo, Situation, rulebook_of}
use Rattle.core_promises.specs.Waits.{WaitsSo}
use Rattle.promise_tests.proofs.Moments.{entries-so}
use Rattle.promise_tests.specs.Tests.{each_entry}
use Rattle.router_cases.proofs.OnLogs.{on_logs}
use Rattle.router_cases.specs.Worked.{Stored, anybody, group, insert, log, message, plan, route, router, terms_with}
use Rattle.router_promises.specs.Now.{at_first, now_at}
use Rattle.router_promises.specs.Router.{home_of}
use Rattle.router_promises.specs.Verdicts.{plain_route}
use Rattle.apart_cases.specs.Tests.{all_clients, all_closed, all_say, waits}
use Rattle.log_story.specs.Tale.{first_tale}
use Rattle.router_promises.specs.Terms.{setup_in}
use Rattle.core_promises.specs.Administered.{Administers, IsFirst, outcomes_at}
use Rattle.core_promises.specs.Administers.{Administered}
use Rattle.apart_cases.proofs.Quiet.{quiet-along}
use Rattle.apart_cases.proofs.Asking.{judges-so}
use Rattle.apart_cases.proofs.OnClasses.{on_classes}
use Rattle.apart_cases.proofs.Plain.{goes-as-it-is}
use Rattle.apart_cases.proofs.Waiting.{waits-so}

waited : (stored : Stored) → each_entry (terms_with stored) (waits (terms_with stored)) [] (at_first (terms_with stored)) log ≡ true
unfolding on_logs
waited stored = refl

pub waits-worked : (stored : Stored) → AllLawful (WaitsSo (terms_with stored)) log
waits-worked stored =
    entries-so (terms_with stored) (waits (terms_with stored)) (WaitsSo (terms_with stored)) log
    (λ l e so. waits-so (terms_with stored) l (now_at (terms_with stored) l) e so) (waited stored)

-- Each message is an INSERT, which goes to the one server, in its user's hostgroup.

goes-there : (keys : (key : ℕ) → Option Key) (c : ClientNo) (situation : Situation) → situation.port ≡ Traffic → situation.user ≡ anybody.user → IsClosed situation
    → IsRoutedFor (rulebook_of router) situation keys c (com_query ∷ insert) route
unfolding on_classes
goes-there keys c situation port login closed =
    subst (λ (home : Hostgroup). IsRoutedFor (rulebook_of router) situation keys c (com_query ∷ insert) (record (plain_route home) { text = Some insert }))
    (ap (home_of router) login)
    (goes-as-it-is (home_of router) (group ∷ []) situation keys c insert refl refl port refl refl closed)

said : (stored : Stored) → all_say (com_query ∷ insert) plan (now_at (terms_with stored) log) ≡ true
unfolding on_logs
said stored = refl

closed : (stored : Stored) → all_closed (terms_with stored) log ≡ true
unfolding on_logs
closed stored = refl

-- by the configuration's rules
abbrev pub rules : MessageName → List Rule
rules name = router.rules

quiet : (stored : Stored) → all_clients (setup_in (terms_with stored)) plan first_tale log ≡ true
unfolding on_logs
quiet stored = refl

-- nothing is staged at first, as there is no administrator
abbrev nothing_staged : Administered
nothing_staged = record { staged = record { servers = []; rules = [] }; rules = router.rules }

first-none : IsFirst [] nothing_staged
first-none = record {
  force = refl;
  staged = record {
    ordered = record { same = IsPermutation-refl []; ascending = λ i j d least within. absurd (omega (arith, within)) };
    compiled = All-nil IsCompiled;
  };
}

pub administers-worked : (stored : Stored)
    → Administers (outcomes_at rules plan (length log)) (setup_in (terms_with stored)) plan router.rules log
administers-worked stored = record {
  first = nothing_staged;
  began = first-none;
  last = nothing_staged;
  along = quiet-along (outcomes_at rules plan (length log)) (setup_in (terms_with stored)) plan nothing_staged (λ name. refl) first_tale log (quiet stored);
}

pub judges-worked : (stored : Stored) → JudgesSo (terms_with stored) rules log
judges-worked stored =
    judges-so (terms_with stored) log (com_query ∷ insert) route (λ m. refl) (goes-there (keys_in (terms_with stored))) (said stored) (closed stored)

one-route : (a b : Route) → ◌≡◌ {A = Option Route} (Some a) (Some b) → a ≡ b
one-route a b is = cc

pub copies-none : CopiesNothing plan
copies-none m other is = subst (λ (r : Route). r.mirror ≡ None) (one-route route other is) refl

abbrev refused : OwnAnswer
refused = record { from = 8; payloads = connection_refused ∷ [] }

one-answer : (a b : OwnAnswer) → ◌≡◌ {A = Option OwnAnswer} (Some a) (Some b) → a ≡ b
one-answer a b is = cc

no-answer : {A : Type 0} (a : OwnAnswer) → ◌≡◌ {A = Option OwnAnswer} None (Some a) → A
no-answer a is = absurd (cc)

no-word : {A : Type 0} (a : LastWord) → ◌≡◌ {A = Option LastWord} None (Some a) → A
no-word a is = absurd (cc)

answer-so : (client : ClientNo) (is_first : Bool) (answer : OwnAnswer) → ◌≡◌ {A = Option OwnAnswer} (if is_first then Some refused else None) (Some answer)
    → IsOwn router.rules client answer.payloads
answer-so client true answer is = subst (λ (a : OwnAnswer). IsOwn router.rules client a.payloads) (one-answer refused answer is) (GivesUp connection_refused NoLink)
answer-so client false answer is = no-answer answer is

pub speaks-worked : SpeaksOwn rules plan
speaks-worked = record {
  own = λ m answer is. answer-so m.client (is_message m (message 1 1)) answer is;
  words = λ c word is. no-word word is;
}
