-- The logs pass the test.
use Rattle.std.specs.Prelude.{refl, []}
use Rattle.client_session.specs.Errors.{connection_lost, connection_refused}
use Rattle.promise_tests.specs.Tests.{IsRight}
use Rattle.router_cases.proofs.OnLogs.{on_logs}
use Rattle.loss_cases.specs.Ending.{capture_log, in_capture, in_reset, in_transaction, reset_log, transaction_log}
use Rattle.loss_cases.specs.Lost.{in_login, in_question, in_step, in_work, login_log, question_log, refused_at, step_log, work_log}

pub step_right : IsRight in_step step_log
unfolding on_logs
step_right = record {
  table = [];
  own = λ m. refl;
  router = record { service = refl; room = refl };
  lawful = refl;
  moments = refl;
  entries = refl;
}

pub work_right : IsRight in_work work_log
unfolding on_logs
work_right = record {
  table = refused_at 1 15 connection_lost;
  own = λ m. refl;
  router = record { service = refl; room = refl };
  lawful = refl;
  moments = refl;
  entries = refl;
}

pub question_right : IsRight in_question question_log
unfolding on_logs
question_right = record {
  table = refused_at 1 14 connection_lost;
  own = λ m. refl;
  router = record { service = refl; room = refl };
  lawful = refl;
  moments = refl;
  entries = refl;
}

pub login_right : IsRight in_login login_log
unfolding on_logs
login_right = record {
  table = refused_at 2 20 connection_refused;
  own = λ m. refl;
  router = record { service = refl; room = refl };
  lawful = refl;
  moments = refl;
  entries = refl;
}

pub capture_right : IsRight in_capture capture_log
unfolding on_logs
capture_right = record {
  table = [];
  own = λ m. refl;
  router = record { service = refl; room = refl };
  lawful = refl;
  moments = refl;
  entries = refl;
}

pub transaction_right : IsRight in_transaction transaction_log
unfolding on_logs
transaction_right = record {
  table = [];
  own = λ m. refl;
  router = record { service = refl; room = refl };
  lawful = refl;
  moments = refl;
  entries = refl;
}

pub reset_right : IsRight in_reset reset_log
unfolding on_logs
reset_right = record {
  table = [];
  own = λ m. refl;
  router = record { service = refl; room = refl };
  lawful = refl;
  moments = refl;
  entries = refl;
}
