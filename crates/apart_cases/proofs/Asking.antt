-- A log in which all clients send one message, for which the verdict is one route.
use Rattle.std.specs.Prelude.{◌≡◌, ℕ, zero, suc, ◌<◌, ◌&&◌, ◌||◌, Bool, true, false, not, All, bytes_eq, is_some, nat_eq, take, slice_get, List, [], ◌∷◌, Option, Some, None}
use Rattle.std.specs.List.{list_all, list_any}
use Rattle.std.proofs.Common.{ap, arith, refl, subst, sym, ◌∙◌}
use Rattle.std.proofs.lemmas.Bool.{and_parts, eqb-false, eqb-true}
use Rattle.mx_base.specs.declared.names.Port.{Port}
use Rattle.mx_base.specs.declared.names.Port.TheVariants.{Admin, Traffic}
use Rattle.mx_wire.specs.Log.{Log}
use Rattle.query_rules.specs.declared.rule.Rule.{Rule}
use Rattle.packet_frame.specs.Packets.{Framed}
use Rattle.log_story.specs.Owed.{messages, name_of}
use Rattle.log_story.specs.Plan.{Plan, Route}
use Rattle.log_story.specs.Tale.{Client, Tale, first_tale}
use Rattle.router_promises.specs.Now.{now_at}
use Rattle.router_promises.specs.Terms.{Terms, plan_in, setup_in}
use Rattle.router_promises.proofs.Saying.{now-tale}
use Rattle.private_model.proofs.Maps.{client_of}
use Rattle.private_model.specs.Names.{ClientNo, MessageName}
use Rattle.private_model.specs.Story.{is_client, is_message}
use Rattle.private_model.specs.View.{Setup}
use Rattle.router_promises.specs.Takings.{Taking, message_in}
use Rattle.promise_tests.proofs.Same.{all-so, same-bytes}
use Rattle.core_promises.proofs.Texts.{keys_in}
use Rattle.core_promises.specs.Judges.{AreJudged, IsClosed, IsRoutedFor, JudgesSo, Rulebook, Situation, rulebook_of, situation_of, takings_along}
use Rattle.apart_cases.proofs.Closed.{none-open}
use Rattle.apart_cases.specs.Tests.{all_closed, all_say, are_closed, is_clients, is_closed_in, opens_none, says_this}

same-some : {A : Type 0} (a b : A) → ◌≡◌ {A = Option A} (Some a) (Some b) → a ≡ b
same-some a b is = cc

none-some : {A : Type 0} {B : Type 0} (a : A) → ◌≡◌ {A = Option A} None (Some a) → B
none-some a is = absurd (cc)

get-all : {A : Type 0} (f : A → Bool) (xs : List A) (n k : ℕ) (x : A) → list_all f (take n xs) ≡ true → k < n → slice_get xs k ≡ Some x → f x ≡ true
get-all f [] n k x all less is = none-some x is
get-all f (y ∷ xs) zero k x all less is = absurd (omega (arith, less))
get-all f (y ∷ xs) (suc n) zero x all less is = subst (λ z. f z ≡ true) (same-some y x is) (and_parts _ _ all).0
get-all f (y ∷ xs) (suc n) (suc k) x all less is = get-all f xs n k x (and_parts _ _ all).1 (omega (arith, less)) is

-- a taking of the name is there, of a client, at which no transaction was open
record IsClosedIn (setup : Setup) (plan : Plan) (takings : List Taking) (name : MessageName) : Type 0 where
  taking : Taking
  place : ℕ
  there : slice_get takings place ≡ Some taking
  named : message_in taking ≡ name
  port : taking.client.port ≡ Traffic
  closed : IsClosed (situation_of setup plan taking)

pub clients-port : (port : Port) → is_clients port ≡ true → port ≡ Traffic
clients-port Traffic is = refl
clients-port Admin is = absurd (cc)

pub same-name : (a b : MessageName) → is_message a b ≡ true → a ≡ b
same-name a b is =
    let parts = and_parts (is_client a.client b.client) (nat_eq a.ordinal b.ordinal) is in
    λ i. record { client = client_of a.client b.client parts.0 i; ordinal = eqb-true a.ordinal b.ordinal parts.1 i }

closed-in : (setup : Setup) (plan : Plan) (takings : List Taking) (name : MessageName) → list_any (is_closed_in name) takings ≡ true
    → IsClosedIn setup plan takings name
closed-in setup plan [] name any = absurd (cc)
closed-in setup plan (taking ∷ takings) name any = by (is_closed_in name taking) refl any (closed-in setup plan takings name) where
  by : (b : Bool) → is_closed_in name taking ≡ b → (b || list_any (is_closed_in name) takings) ≡ true
      → (list_any (is_closed_in name) takings ≡ true → IsClosedIn setup plan takings name) → IsClosedIn setup plan (taking ∷ takings) name
  by true is some later =
      let parts =
      and_parts (is_message (message_in taking) name)
      (is_clients taking.client.port && opens_none taking.tale.story) is in
      let more = and_parts (is_clients taking.client.port) (opens_none taking.tale.story) parts.1 in
      record {
        taking = taking;
        place = 0;
        there = refl;
        named = same-name (message_in taking) name parts.0;
        port = clients-port taking.client.port more.0;
        closed = λ h. none-open setup taking.tale.story more.1 _;
      }
  by false is some later =
      let found = later some in
      record { taking = found.taking; place = suc found.place; there = found.there; named = found.named; port = found.port; closed = found.closed }

closed-at : (setup : Setup) (plan : Plan) (takings : List Taking) (client : Client) (n k : ℕ) → are_closed takings client n ≡ true → k < n
    → IsClosedIn setup plan takings (name_of client (suc k))
closed-at setup plan takings client zero k all less = absurd (omega (arith, less))
closed-at setup plan takings client (suc n) k all less = by (nat_eq k n) refl (closed-at setup plan takings client n k parts.1) where
  parts : (list_any (is_closed_in (name_of client (suc n))) takings ≡ true) × (are_closed takings client n ≡ true)
  parts = and_parts (list_any (is_closed_in (name_of client (suc n))) takings) (are_closed takings client n) all

  by : (b : Bool) → nat_eq k n ≡ b → (k < n → IsClosedIn setup plan takings (name_of client (suc k)))
      → IsClosedIn setup plan takings (name_of client (suc k))
  by true same earlier =
      subst (λ (i : ℕ). IsClosedIn setup plan takings (name_of client (suc i))) (sym (eqb-true k n same))
      (closed-in setup plan takings (name_of client (suc n)) parts.0)
  by false other earlier = earlier (let apart : k ≡ n → ⊥ = eqb-false k n other in omega (arith, less, apart))

module _ (terms : Terms) (log : Log) (payload : List ℕ) (route : Route) (goes : (m : MessageName) → (plan_in terms).routes m ≡ Some route)
    (so : (c : ClientNo) (situation : Situation) → situation.port ≡ Traffic → situation.user ≡ ((setup_in terms).accounts c).user
    → IsClosed situation → IsRoutedFor (rulebook_of terms.router) situation (keys_in terms) c payload route) where
  abbrev book : Rulebook
  book = rulebook_of terms.router

  abbrev rules : MessageName → List Rule
  rules name = terms.router.rules

  abbrev takings : List Taking
  takings = takings_along (setup_in terms) (plan_in terms) first_tale log

  client-so : (client : Client) → says_this payload (plan_in terms) client ≡ true
      → are_closed takings client client.taken ≡ true → AreJudged book rules (setup_in terms) (plan_in terms) log client
  client-so client says closed k message within there =
      let same : message.payload ≡ payload =
      same-bytes _ _ (get-all (λ (m : Framed). bytes_eq m.payload payload) (messages (plan_in terms) client) client.taken k message says within there) in
      let found = closed-at (setup_in terms) (plan_in terms) takings client client.taken k closed within in
      let situation : Situation = situation_of (setup_in terms) (plan_in terms) found.taking in
      record {
        taking = found.taking;
        taken = record { place = found.place; there = found.there; named = found.named };
        goes = λ other to.
            subst (IsRoutedFor book situation (keys_in terms) client.number message.payload) (same-some route other (sym (goes _) ∙ to))
            (subst (λ (p : List ℕ). IsRoutedFor book situation (keys_in terms) client.number p route) (sym same)
            (so client.number situation found.port (ap (λ (name : MessageName). ((setup_in terms).accounts name.client).user) found.named) found.closed));
        tells = λ own nowhere is. none-some route (sym nowhere ∙ goes _);
      }

  abbrev passes : Client → Bool
  passes client = says_this payload (plan_in terms) client && are_closed takings client client.taken

  both-so : (xs : List Client) → list_all (says_this payload (plan_in terms)) xs ≡ true
      → list_all (λ (client : Client). are_closed takings client client.taken) xs ≡ true → list_all passes xs ≡ true
  both-so [] says closed = refl
  both-so (x ∷ xs) says closed =
      let one = and_parts (says_this payload (plan_in terms) x) (list_all (says_this payload (plan_in terms)) xs) says in
      let two =
      and_parts (are_closed takings x x.taken)
      (list_all (λ (client : Client). are_closed takings client client.taken) xs) closed in
      λ i. (one.0 i && two.0 i) && both-so xs one.1 two.1 i

  pub judges-so : all_say payload (plan_in terms) (now_at terms log) ≡ true → all_closed terms log ≡ true → JudgesSo terms rules log
  judges-so says closed =
      subst (λ (t : Tale). All (AreJudged book rules (setup_in terms) (plan_in terms) log) t.clients) (now-tale terms log)
      (all-so (AreJudged book rules (setup_in terms) (plan_in terms) log) passes (now_at terms log).tale.clients
      (λ client pass.
      let parts = and_parts (says_this payload (plan_in terms) client) (are_closed takings client client.taken) pass in
      client-so client parts.0 parts.1)
      (both-so (now_at terms log).tale.clients says closed))
