-- The worked logs, computed.
use Rattle.std.specs.Prelude.{◌≡◌, refl, true, []}
use Rattle.log_story.specs.Tale.{first_tale}
use Rattle.log_cases.proofs.Tested.{log_tested, tested_so}
use Rattle.promise_tests.specs.Tests.{IsRight}
use Rattle.log_story.specs.Assumed.{AreHonest}
use Rattle.router_promises.specs.Terms.{setup_in, tale_at}
use Rattle.router_cases.proofs.Honest.{honest-so, log_plain}
use Rattle.router_cases.proofs.OnLogs.{on_logs}
use Rattle.router_cases.specs.Worked.{Stored, given, log, nothing, plan, small, story, terms_with}
use Rattle.router_cases.specs.Ended as ended
use Rattle.router_cases.specs.Executed as executed

pub worked : (stored : Stored) → IsRight (terms_with stored) log
unfolding on_logs
worked stored = record { table = given; own = λ m. refl; router = record { service = refl; room = refl }; lawful = refl; moments = refl; entries = refl }

pub worked_story : (stored : Stored) → (tale_at (terms_with stored) log).story ≡ story
unfolding on_logs
worked_story stored = refl

pub client_ended : IsRight ended.terms ended.log
unfolding on_logs
client_ended = record { table = []; own = λ m. refl; router = record { service = refl; room = refl }; lawful = refl; moments = refl; entries = refl }

pub ended_story : (tale_at ended.terms ended.log).story ≡ ended.story
unfolding on_logs
ended_story = refl

pub client_executed : IsRight executed.terms executed.log
unfolding on_logs
client_executed = record { table = executed.given; own = λ m. refl; router = record { service = refl; room = refl }; lawful = refl; moments = refl; entries = refl }

pub executed_story : (tale_at executed.terms executed.log).story ≡ executed.story
unfolding on_logs
executed_story = refl

-- The small server answers so.

pub record IsAnswered : Type 0 where
  pub honest : log_tested (setup_in (terms_with nothing)) plan small first_tale log ≡ true
  pub plain : log_plain (setup_in (terms_with nothing)) plan first_tale log ≡ true

answered : IsAnswered
unfolding on_logs
answered = record { honest = refl; plain = refl }

pub honest : AreHonest (setup_in (terms_with nothing)) plan small log
honest =
    honest-so (setup_in (terms_with nothing)) plan small first_tale log answered.plain
    (tested_so (setup_in (terms_with nothing)) plan small first_tale log answered.honest)
