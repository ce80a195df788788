-- Whose session a link carries, and what is kept of it where its client left it.
use Rattle.std.specs.Prelude.{◌≡◌, ◌<◌, ◌≤◌, Option, Some, None}
use Rattle.private_model.specs.Names.{SessionName}
use Rattle.private_model.specs.Story as story
use Rattle.private_model.specs.Story.{Due, Question}
use Rattle.private_model.specs.View.{View}
use Rattle.link_state.specs.declared.asking.Purpose.{Purpose}
use Rattle.link_state.specs.declared.asking.Purpose.TheVariants.{Statement, Prep, Sync, Own, End, Capture}
use Rattle.link_state.specs.declared.state.Carried.{Carried}
use Rattle.link_state.specs.declared.state.Carried.TheVariants.{Nobody, Lent, Joined}
use Rattle.link_state.specs.declared.state.Stage.{Stage}
use Rattle.link_state.specs.declared.state.Stage.TheVariants.{Quiet, Asked, Answered}
use Rattle.served_link.specs.declared.row.LeftSession.{LeftSession}

-- it was left, as it is kept
pub record IsLeft (view : View) (n : SessionName) (left : LeftSession) : Type 0 where
  pub earlier : n.life < view.lives n.client n.hostgroup
  pub pin : (view.held n).pin ≡ left.pin
  pub id : (view.held n).id ≡ left.id
  pub lasting : view.lasting n ≡ left.lasting

-- or it is its client's present one
abbrev pub IsHolder : View → SessionName → Option LeftSession → Type 0
IsHolder view n None = n.life ≡ view.lives n.client n.hostgroup
IsHolder view n (Some left) = IsLeft view n left

abbrev pub IsWhose : View → Carried → Option LeftSession → Type 0
IsWhose view Nobody left = left ≡ None
IsWhose view (Lent n) left = IsHolder view n left
IsWhose view (Joined n) left = IsHolder view n left

abbrev pub name_in : Carried → Option SessionName
name_in Nobody = None
name_in (Lent n) = Some n
name_in (Joined n) = Some n

-- what is asked there is asked for the session that the link carries

abbrev pub name_for : Purpose → Option SessionName
name_for (Statement name ordinal key) = Some name
name_for (Prep name ordinal key) = Some name
name_for (Sync name) = Some name
name_for Own = None
name_for (End name) = Some name
name_for (Capture name) = Some name

abbrev pub IsFor : Purpose → Carried → Type 0
IsFor purpose carries = (n : SessionName) → name_for purpose ≡ Some n → name_in carries ≡ Some n

abbrev pub IsOwn : Stage → Carried → Type 0
IsOwn Quiet carries = Unit {0}
IsOwn (Asked asking) carries = IsFor asking.purpose carries
IsOwn (Answered asking) carries = IsFor asking.purpose carries

-- Something happens that leaves what is kept of a link's session as it is: the present one stays so, and one that was left does, with its Pin,
-- its insert id and whether it lasts.

pub record IsPast (seen new : View) (n : SessionName) : Type 0 where
  pub later : seen.lives n.client n.hostgroup ≤ new.lives n.client n.hostgroup
  pub pin : (new.held n).pin ≡ (seen.held n).pin
  pub id : (new.held n).id ≡ (seen.held n).id
  pub lasting : new.lasting n ≡ seen.lasting n

abbrev pub IsUntouched : (seen new : View) → SessionName → Option LeftSession → Type 0
IsUntouched seen new n None = new.lives n.client n.hostgroup ≡ seen.lives n.client n.hostgroup
IsUntouched seen new n (Some left) = IsPast seen new n

-- what is kept of the session is what the law knows of it
pub record IsKept (seen : View) (n : SessionName) (left : LeftSession) : Type 0 where
  pub pin : (seen.held n).pin ≡ left.pin
  pub id : (seen.held n).id ≡ left.id
  pub lasting : seen.lasting n ≡ left.lasting

-- what is said of a client's statement; of any other question nothing is
abbrev pub OfStatement : Question → (SessionName → Due → Type 0) → Type 0
OfStatement (story.Statement n due) says = says n due
OfStatement _ says = Unit {0}
