-- What servers keep to.
use Rattle.std.specs.Prelude.{Bool, None, Option, [], false, true, ℕ, ◌∷◌, ◌≡◌}
use Rattle.private_model.specs.Names.{LinkId, ServerId}
use Rattle.private_model.specs.Commands.{Reply, Step, is_made, number_in, is_prepare}
use Rattle.private_model.specs.Story.{Happening, Heard, Key, Prep, Question, Ran, Statement, Story}
use Rattle.private_model.specs.View.{Answered, Asked, Link, Setup, Stage, View, view_after}
use Rattle.private_model.specs.Worlds.{Real, at_link, real_after, there_command}
use Rattle.server_rule.specs.Servers.{Tests}

-- their opening data are such as they take
abbrev pub IsAccepted : Setup → Tests → Type 0
IsAccepted setup tests = (server : ServerId) → tests.is_data (setup.stored server) ≡ true

-- what is read is what the server answered
pub record IsAnswer (link : Link) (answer reply : Reply) : Type 0 where
  pub question : Question
  pub ran : link.stage ≡ Answered question
  pub same : reply ≡ answer

abbrev pub prepares : Question → Bool
prepares (Statement n due) = is_prepare due.command
prepares (Prep n key text) = true
prepares _ = false

-- the number of a preparation is unused on its link
pub record IsFreshNumber (prepares : Bool) (reply : Reply) (table : ℕ → Option Key) : Type 0 where
  pub unused : prepares ≡ true → is_made reply ≡ true → table (number_in reply) ≡ None

-- what runs, runs on a link that its server didn't drop
pub record IsRun (step : Step) (real : Real) (link : LinkId) (live : ℕ → Option ℕ) (question : Question) (server : ServerId) : Type 0 where
  pub alive : (real.peers link).alive ≡ true
  pub fresh : IsFreshNumber (prepares question) (at_link step real link server (there_command question live (real.peers link).table)).reply (real.peers link).table

abbrev pub IsTrueRun : Step → Real → (link : LinkId) → (live : ℕ → Option ℕ) → Stage → (server : ServerId) → Type 0
IsTrueRun step real link live (Asked question) server = IsRun step real link live question server
IsTrueRun step real link live _ server = Unit {0}

abbrev pub IsTrueOf : Step → View → Real → Happening → Type 0
IsTrueOf step view real (Ran link) = IsTrueRun step real link (view.links link).live (view.links link).stage (view.links link).server
IsTrueOf step view real (Heard link reply) = IsAnswer (view.links link) (real.peers link).answer reply
IsTrueOf step view real _ = Unit {0}

abbrev pub IsHonest : Setup → Step → Story → Type 0
IsHonest setup step [] = Unit {0}
IsHonest setup step (e ∷ past) = IsHonest setup step past × IsTrueOf step (view_after setup past) (real_after setup step past) e
