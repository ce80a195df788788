-- More is decided at an entry.
use Rattle.std.specs.Prelude.{◌≡◌, ◌⊎◌, ◌<◌, ◌≤◌, ℕ, suc, List, ◌++◌, Option, Some, None}
use Rattle.server_side.specs.Account.{Account}
use Rattle.private_model.specs.Names.{ClientNo, LinkId, MessageName}
use Rattle.private_model.specs.Story.{Key}
use Rattle.log_story.specs.Plan.{LastWord, OwnAnswer, Route, StepText}
use Rattle.log_story.specs.Tale.{Client, Tale}
use Rattle.step_laws.specs.Seats.{IsSeated}
use Rattle.tale_world.specs.Decided.{Decided}

-- What wasn't decided, or not answered by now, ended by now or said by now, is decided for later than this moment.

pub record IsAnsweredLater (moment : ℕ) (now : Option (Option OwnAnswer)) : Type 0 where
  pub answer : OwnAnswer
  pub is : now ≡ Some (Some answer)
  pub later : moment < answer.from

pub record IsEndedLater (until : ℕ) (now : Option ℕ) : Type 0 where
  pub at : ℕ
  pub is : now ≡ Some at
  pub later : until < at

pub record IsToldLater (moment : ℕ) (now : Option LastWord) : Type 0 where
  pub word : LastWord
  pub is : now ≡ Some word
  pub later : moment < word.from

pub record IsMoreBy (moment : ℕ) (old new : Decided) : Type 0 where
  pub service : new.service ≡ old.service
  pub room : new.room ≡ old.room
  pub until : old.until ≤ new.until
  pub logins : (l : LinkId) (login : Account) → old.logins l ≡ Some login → new.logins l ≡ Some login
  pub routes : (m : MessageName) (route : Option Route) → old.routes m ≡ Some route → new.routes m ≡ Some route
  pub steps : (l : LinkId) (n : ℕ) (step : StepText) → old.steps l n ≡ Some step → new.steps l n ≡ Some step
  pub keys : (k : ℕ) (key : Key) → old.keys k ≡ Some key → new.keys k ≡ Some key
  pub answered : (m : MessageName) (answer : OwnAnswer) → old.own m ≡ Some (Some answer) → new.own m ≡ Some (Some answer)
  pub unanswered : (m : MessageName) → old.own m ≡ Some None → (new.own m ≡ Some None) ⊎ IsAnsweredLater moment (new.own m)
  pub ended : (c : ClientNo) (at : ℕ) → old.ends c ≡ Some at → new.ends c ≡ Some at
  pub going : (c : ClientNo) → old.ends c ≡ None → (new.ends c ≡ None) ⊎ IsEndedLater old.until (new.ends c)
  pub told : (c : ClientNo) (word : LastWord) → old.words c ≡ Some word → new.words c ≡ Some word
  pub untold : (c : ClientNo) → old.words c ≡ None → (new.words c ≡ None) ⊎ IsToldLater moment (new.words c)

-- A client stands in a later tale as itself, of which more was read.
pub record IsHeardMore (new : Tale) (client : Client) : Type 0 where
  pub now : Client
  pub seated : IsSeated new now
  pub number : now.number ≡ client.number
  pub port : now.port ≡ client.port
  pub salt : now.salt ≡ client.salt
  pub more : List ℕ
  pub read : now.read ≡ client.read ++ more

-- What was decided until the next moment is of this one or of one before.
pub record DecidesNothing (d : Decided) (moment : ℕ) : Type 0 where
  pub until : d.until ≡ suc moment
  pub answered : (m : MessageName) (answer : OwnAnswer) → d.own m ≡ Some (Some answer) → answer.from ≤ moment
  pub ended : (c : ClientNo) (at : ℕ) → d.ends c ≡ Some at → at ≤ moment
  pub told : (c : ClientNo) (word : LastWord) → d.words c ≡ Some word → word.from ≤ moment
