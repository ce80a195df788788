-- What is decided stays, and a plan that agrees with more agrees with less.
use Rattle.std.specs.Prelude.{◌≡◌, ◌<◌, ◌≤◌, ℕ, suc, Bool, true, false, nat_eq, nat_le, if◌then◌else◌, unwrap_or, List, [], Option, Some, None}
use Rattle.std.specs.Option.{option_and_then, option_map_or}
use Rattle.std.proofs.Common.{refl, sym, ap, ◌∙◌, arith}
use Rattle.std.proofs.lemmas.Bool.{le-ltb, lt-leb, ne_eqb}
use Rattle.server_side.specs.Account.{Account}
use Rattle.private_model.specs.Names.{ClientNo, LinkId, MessageName}
use Rattle.log_story.specs.Plan.{Closes, OwnAnswer, Plan, Route, StepText, gives_up, is_before, is_now, own_at}
use Rattle.tale_world.specs.Decided.{Agrees, Decided, IsMore, filled, plan_of}

pub filled-kept : {K A : Type 0} (which : K → Bool) (value : K → A) (f : K → Option A) (k : K) (v : A) → f k ≡ Some v → filled which value f k ≡ Some v
filled-kept which value f k v is = by_test (which k) where
  by_test : (b : Bool) → (if b then Some (unwrap_or (f k) (value k)) else f k) ≡ Some v
  by_test true = ap (λ o. Some (unwrap_or o (value k))) is
  by_test false = is

pub filled-there : {K A : Type 0} (which : K → Bool) (value : K → A) (f : K → Option A) (k : K) → which k ≡ true
    → filled which value f k ≡ Some (unwrap_or (f k) (value k))
filled-there which value f k is = ap (λ b. if b then Some (unwrap_or (f k) (value k)) else f k) is

pub more-refl : (d : Decided) → IsMore d d
more-refl d = record {
  service = refl;
  room = refl;
  logins = λ l login is. is;
  routes = λ m route is. is;
  own = λ m answer is. is;
  ends = refl;
  until = refl;
  steps = λ l n step is. is;
  keys = λ k key is. is;
}

pub more-trans : (a b c : Decided) → IsMore a b → IsMore b c → IsMore a c
more-trans a b c first next = record {
  service = next.service ∙ first.service;
  room = next.room ∙ first.room;
  logins = λ l login is. next.logins l login (first.logins l login is);
  routes = λ m route is. next.routes m route (first.routes m route is);
  own = λ m answer is. next.own m answer (first.own m answer is);
  ends = next.ends ∙ first.ends;
  until = next.until ∙ first.until;
  steps = λ l n step is. next.steps l n step (first.steps l n step is);
  keys = λ k key is. next.keys k key (first.keys k key is);
}

pub agrees-less : (old new : Decided) (moment : ℕ) (plan : Plan) → IsMore old new → Agrees new moment plan → Agrees old moment plan
agrees-less old new moment plan more agrees = record {
  service = agrees.service ∙ more.service;
  room = agrees.room ∙ more.room;
  logins = λ l login is. agrees.logins l login (more.logins l login is);
  routes = λ m route is. agrees.routes m route (more.routes m route is);
  answered = λ m answer is. agrees.answered m answer (more.own m (Some answer) is);
  unanswered = λ m answer is. agrees.unanswered m answer (more.own m None is);
  ended = λ c at is. agrees.ended c at (ap (λ f. f c) more.ends ∙ is);
  going = λ c at is has. let same : new.until ≡ old.until = more.until in let later : new.until < at = agrees.going c at (ap (λ f. f c) more.ends ∙ is) has in omega arith;
  steps = λ l n step is. agrees.steps l n step (more.steps l n step is);
}

none-some : {A B : Type 0} (a : A) → None ≡ Some a → B
none-some a is = absurd (cc)

-- what was decided agrees with the plan that it is
pub agrees-itself : (d : Decided) (moment : ℕ) → Agrees d moment (plan_of d)
agrees-itself d moment = record {
  service = refl;
  room = refl;
  logins = λ l login is. ap (λ o. unwrap_or o (record { user = []; password = []; found_rows = false })) is;
  routes = λ m route is. ap (λ o. unwrap_or o None) is;
  answered = λ m answer is. ap (λ o. unwrap_or o None) is;
  unanswered = λ m answer is has. none-some answer (sym (ap (λ o. unwrap_or o None) is) ∙ has);
  ended = λ c at is. is;
  going = λ c at is has. none-some at (sym is ∙ has);
  steps = λ l n step is. ap (λ o. unwrap_or o (Closes 0)) is;
}

-- What the plan says of what was decided.

module _ (d : Decided) (moment : ℕ) (plan : Plan) (agrees : Agrees d moment plan) where
  pub same_login : (l : LinkId) (login : Account) → d.logins l ≡ Some login → (plan_of d).logins l ≡ plan.logins l
  same_login l login is = ap (λ o. unwrap_or o (record { user = []; password = []; found_rows = false })) is ∙ sym (agrees.logins l login is)

  pub same_route : (m : MessageName) (route : Option Route) → d.routes m ≡ Some route → (plan_of d).routes m ≡ plan.routes m
  same_route m route is = ap (λ o. unwrap_or o None) is ∙ sym (agrees.routes m route is)

  pub same_step : (l : LinkId) (n : ℕ) (step : StepText) → d.steps l n ≡ Some step → (plan_of d).steps l n ≡ plan.steps l n
  same_step l n step is = ap (λ o. unwrap_or o (Closes 0)) is ∙ sym (agrees.steps l n step is)

  abbrev own_by : Option OwnAnswer → Option (List (List ℕ))
  own_by own = option_and_then (λ answer. if nat_le answer.from moment then Some answer.payloads else None) own

  late : (own : Option OwnAnswer) → ((answer : OwnAnswer) → own ≡ Some answer → moment < answer.from) → own_by own ≡ None
  late None later = refl
  late (Some answer) later = ap (λ b. if b then Some answer.payloads else None) (lt-leb answer.from moment (later answer refl))

  pub same_own : (m : MessageName) (own : Option OwnAnswer) → d.own m ≡ Some own → own_at (plan_of d) moment m ≡ own_at plan moment m
  same_own m None is =
      ap (λ o. own_by (unwrap_or o None)) is ∙ sym (late (plan.own m) (λ answer has. agrees.unanswered m answer is has))
  same_own m (Some answer) is = ap (λ o. own_by (unwrap_or o None)) is ∙ sym (ap own_by (agrees.answered m answer is))

  abbrev given_now : Option OwnAnswer → Bool
  given_now own = option_map_or (λ (answer : OwnAnswer). nat_eq answer.from moment) own false

  not_given : (own : Option OwnAnswer) → ((answer : OwnAnswer) → own ≡ Some answer → moment < answer.from) → given_now own ≡ false
  not_given None later = refl
  not_given (Some answer) later = ne_eqb answer.from moment (λ is. let after : moment < answer.from = later answer refl in omega (arith, after, is))

  pub same_given : (m : MessageName) (own : Option OwnAnswer) → d.own m ≡ Some own → gives_up (plan_of d) moment m ≡ gives_up plan moment m
  same_given m None is = ap (λ o. given_now (unwrap_or o None)) is ∙ sym (not_given (plan.own m) (λ answer has. agrees.unanswered m answer is has))
  same_given m (Some answer) is = ap (λ o. given_now (unwrap_or o None)) is ∙ sym (ap given_now (agrees.answered m answer is))

  not_now : moment ≤ d.until → (at : Option ℕ) → ((n : ℕ) → at ≡ Some n → d.until < n) → is_now moment at ≡ false
  not_now closed None later = refl
  not_now closed (Some n) later = ne_eqb n moment (λ is. omega (arith, later n refl, closed))

  not_before : moment ≤ suc d.until → (at : Option ℕ) → ((n : ℕ) → at ≡ Some n → d.until < n) → is_before moment at ≡ false
  not_before closed None later = refl
  not_before closed (Some n) later = le-ltb n moment (let after : d.until < n = later n refl in omega arith)

  now_same : moment ≤ d.until → (c : ClientNo) (at : Option ℕ) → d.ends c ≡ at → is_now moment at ≡ is_now moment (plan.ends c)
  now_same closed c None is = sym (not_now closed (plan.ends c) (λ n has. agrees.going c n is has))
  now_same closed c (Some n) is = ap (is_now moment) (sym (agrees.ended c n is))

  before_same : moment ≤ suc d.until → (c : ClientNo) (at : Option ℕ) → d.ends c ≡ at → is_before moment at ≡ is_before moment (plan.ends c)
  before_same closed c None is = sym (not_before closed (plan.ends c) (λ n has. agrees.going c n is has))
  before_same closed c (Some n) is = ap (is_before moment) (sym (agrees.ended c n is))

  pub same_now : moment ≤ d.until → (c : ClientNo) → is_now moment (d.ends c) ≡ is_now moment (plan.ends c)
  same_now closed c = now_same closed c (d.ends c) refl

  pub same_before : moment ≤ suc d.until → (c : ClientNo) → is_before moment (d.ends c) ≡ is_before moment (plan.ends c)
  same_before closed c = before_same closed c (d.ends c) refl
