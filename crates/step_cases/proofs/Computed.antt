-- The logs pass the test.
use Rattle.std.specs.Prelude.{refl, []}
use Rattle.promise_tests.specs.Tests.{IsRight}
use Rattle.router_cases.proofs.OnLogs.{on_logs}
use Rattle.step_cases.specs.Again as again
use Rattle.step_cases.specs.Evicted as evicted
use Rattle.step_cases.specs.Stepped as stepped

pub evicted_right : IsRight evicted.terms evicted.log
unfolding on_logs
evicted_right = record {
  table = [];
  own = λ m. refl;
  router = record { service = refl; room = refl };
  lawful = refl;
  moments = refl;
  entries = refl;
}

pub again_right : IsRight again.terms again.log
unfolding on_logs
again_right = record {
  table = again.given;
  own = λ m. refl;
  router = record { service = refl; room = refl };
  lawful = refl;
  moments = refl;
  entries = refl;
}

pub stepped_right : IsRight stepped.terms stepped.log
unfolding on_logs
stepped_right = record {
  table = [];
  own = λ m. refl;
  router = record { service = refl; room = refl };
  lawful = refl;
  moments = refl;
  entries = refl;
}
