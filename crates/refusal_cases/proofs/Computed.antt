-- The logs pass the test.
use Rattle.std.specs.Prelude.{refl, []}
use Rattle.promise_tests.specs.Tests.{IsRight}
use Rattle.router_promises.specs.Errors.{no_server_in, replay_refused}
use Rattle.client_session.specs.Errors.{bad_server_bytes}
use Rattle.router_cases.proofs.OnLogs.{on_logs}
use Rattle.refusal_cases.specs.Refused.{answered, full, full_log, late, late_given, late_log, nowhere, nowhere_log, refused, refused_log, spoilt, spoilt_log}

pub nowhere_right : IsRight nowhere nowhere_log
unfolding on_logs
nowhere_right = record {
  table = answered 0 (no_server_in 0);
  own = λ m. refl;
  router = record { service = refl; room = refl };
  lawful = refl;
  moments = refl;
  entries = refl;
}

pub late_right : IsRight late late_log
unfolding on_logs
late_right = record {
  table = late_given;
  own = λ m. refl;
  router = record { service = refl; room = refl };
  lawful = refl;
  moments = refl;
  entries = refl;
}

pub refused_right : IsRight refused refused_log
unfolding on_logs
refused_right = record {
  table = answered 12 (replay_refused 1231);
  own = λ m. refl;
  router = record { service = refl; room = refl };
  lawful = refl;
  moments = refl;
  entries = refl;
}

pub spoilt_right : IsRight spoilt spoilt_log
unfolding on_logs
spoilt_right = record {
  table = answered 14 (bad_server_bytes 3);
  own = λ m. refl;
  router = record { service = refl; room = refl };
  lawful = refl;
  moments = refl;
  entries = refl;
}

pub full_right : IsRight full full_log
unfolding on_logs
full_right = record {
  table = [];
  own = λ m. refl;
  router = record { service = refl; room = refl };
  lawful = refl;
  moments = refl;
  entries = refl;
}
