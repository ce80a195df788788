-- What the router decided so far, and which plans agree with it.
use Rattle.std.specs.Prelude.{◌≡◌, ◌<◌, ℕ, Bool, false, if◌then◌else◌, unwrap_or, [], Option, Some, None}
use Rattle.server_side.specs.Account.{Account}
use Rattle.client_session.specs.Setups.{Setup as Service}
use Rattle.private_model.specs.Names.{ClientNo, LinkId, MessageName}
use Rattle.private_model.specs.Story.{Key}
use Rattle.log_story.specs.Plan.{Closes, LastWord, OwnAnswer, Plan, Route, StepText}

-- By what clients log in, and how many bytes for a client are unwritten while its messages wait; and what was decided so far: who
-- logs in on a link; where a message goes, which may be to no server; whether the router answers it, which may be not by now; at which
-- entry a client was ended, of those until one, and the last word to it; which step began; and which text, and where prepared, a key is.
pub record Decided : Type 0 where
  pub service : Service
  pub room : ℕ
  pub logins : LinkId → Option Account
  pub routes : MessageName → Option (Option Route)
  pub own : MessageName → Option (Option OwnAnswer)
  pub ends : ClientNo → Option ℕ
  pub until : ℕ
  pub words : ClientNo → Option LastWord
  pub steps : LinkId → (begun : ℕ) → Option StepText
  pub keys : (key : ℕ) → Option Key

abbrev pub first_decided : Service → (room : ℕ) → Decided
first_decided service room = record {
  service = service;
  room = room;
  logins = λ l. None;
  routes = λ m. None;
  own = λ m. None;
  ends = λ c. None;
  until = 0;
  words = λ c. None;
  steps = λ l n. None;
  keys = λ key. None;
}

-- a plan of just that
abbrev pub plan_of : Decided → Plan
plan_of d = record {
  service = d.service;
  room = d.room;
  logins = λ l. unwrap_or (d.logins l) (record { user = []; password = []; found_rows = false });
  routes = λ m. unwrap_or (d.routes m) None;
  own = λ m. unwrap_or (d.own m) None;
  ends = d.ends;
  words = d.words;
  steps = λ l n. unwrap_or (d.steps l n) (Closes 0);
}

-- what wasn't decided where this test holds is decided so
abbrev pub filled : {K A : Type 0} → (which : K → Bool) → (value : K → A) → (K → Option A) → K
    → Option A
filled which value f k = if which k then Some (unwrap_or (f k) (value k)) else f k

-- A plan has what was decided until a moment; and what wasn't decided by then comes later.
pub record Agrees (d : Decided) (moment : ℕ) (plan : Plan) : Type 0 where
  pub service : plan.service ≡ d.service
  pub room : plan.room ≡ d.room
  pub logins : (l : LinkId) (login : Account) → d.logins l ≡ Some login → plan.logins l ≡ login
  pub routes : (m : MessageName) (route : Option Route) → d.routes m ≡ Some route
      → plan.routes m ≡ route
  pub answered : (m : MessageName) (answer : OwnAnswer) → d.own m ≡ Some (Some answer)
      → plan.own m ≡ Some answer
  pub unanswered : (m : MessageName) (answer : OwnAnswer) → d.own m ≡ Some None
      → plan.own m ≡ Some answer → moment < answer.from
  pub ended : (c : ClientNo) (at : ℕ) → d.ends c ≡ Some at → plan.ends c ≡ Some at
  pub going : (c : ClientNo) (at : ℕ) → d.ends c ≡ None → plan.ends c ≡ Some at → d.until < at
  pub steps : (l : LinkId) (n : ℕ) (step : StepText) → d.steps l n ≡ Some step → plan.steps l n ≡ step

-- nothing that was decided is decided otherwise, and nobody was ended
pub record IsMore (old new : Decided) : Type 0 where
  pub service : new.service ≡ old.service
  pub room : new.room ≡ old.room
  pub logins : (l : LinkId) (login : Account) → old.logins l ≡ Some login → new.logins l ≡ Some login
  pub routes : (m : MessageName) (route : Option Route) → old.routes m ≡ Some route
      → new.routes m ≡ Some route
  pub own : (m : MessageName) (answer : Option OwnAnswer) → old.own m ≡ Some answer
      → new.own m ≡ Some answer
  pub ends : new.ends ≡ old.ends
  pub until : new.until ≡ old.until
  pub steps : (l : LinkId) (n : ℕ) (step : StepText) → old.steps l n ≡ Some step
      → new.steps l n ≡ Some step
  pub keys : (k : ℕ) (key : Key) → old.keys k ≡ Some key → new.keys k ≡ Some key
