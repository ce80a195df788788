-- Messages that were taken up stay so, whatever else a tale tells.
use Rattle.std.specs.Prelude.{◌≡◌, ℕ, Bool, true}
use Rattle.private_model.specs.Names.{ClientNo, SessionName}
use Rattle.private_model.specs.Story.{Story}
use Rattle.link_state.specs.declared.asking.Purpose.{Purpose}
use Rattle.link_state.specs.declared.asking.Purpose.TheVariants as purposes
use Rattle.link_state.specs.declared.state.Stage.{Stage}
use Rattle.link_state.specs.declared.state.Stage.TheVariants.{Quiet, Asked, Answered}
use Rattle.core_stands.specs.Grounds.{Ground}
use Rattle.core_stands.specs.Servers.{IsPartedAt, IsPartedFor, IsTakenUp}

-- another story and moment of a tale, and others that ended
abbrev pub with_story : Ground → Story → (moment : ℕ) → (over : ClientNo → Bool) → Ground
with_story g story moment over = record g { tale = record g.tale { story = story; moment = moment }; over = over }

module _ (g : Ground) (story : Story) (moment : ℕ) (over : ClientNo → Bool) where
  pub taken_after : (n : SessionName) (ordinal : ℕ) → IsTakenUp g n ordinal → IsTakenUp (with_story g story moment over) n ordinal
  taken_after n ordinal is = record { client = is.client; seated = is.seated; number = is.number; by_now = is.by_now }

  module _ (more : (c : ClientNo) → g.over c ≡ true → over c ≡ true) where
    parted_for : (purpose : Purpose) → IsPartedFor purpose g → IsPartedFor purpose (with_story g story moment over)
    parted_for (purposes.Statement n ordinal key) is = (more n.client is.0, taken_after n ordinal is.1)
    parted_for (purposes.Prep n ordinal key) is = tt
    parted_for (purposes.Sync n) is = tt
    parted_for purposes.Own is = tt
    parted_for (purposes.End n) is = tt
    parted_for (purposes.Capture n) is = tt

    pub parted_after : (stage : Stage) → IsPartedAt stage g → IsPartedAt stage (with_story g story moment over)
    parted_after Quiet is = tt
    parted_after (Asked asking) is = parted_for asking.purpose is
    parted_after (Answered asking) is = parted_for asking.purpose is
