-- Decided as a plan says, and so when two plans agree until a moment of a log.
use Rattle.std.specs.Prelude.{ℕ, suc, nat_eq, nat_le, if◌then◌else◌, List, Option, Some, None}
use Rattle.std.specs.Option.{option_and_then}
use Rattle.mx_wire.specs.Log.{Log}
use Rattle.private_model.specs.View.{Setup}
use Rattle.log_story.specs.Owed.{name_of}
use Rattle.log_story.specs.Plan.{OwnAnswer, Plan, is_now, word_at}
use Rattle.tale_world.specs.Decided.{Agrees}
use Rattle.tale_world.specs.Deciding.{Deciding, World}
use Rattle.tale_world.specs.World.{world_after}

abbrev pub by_now : (moment : ℕ) → Option OwnAnswer → Option OwnAnswer
by_now moment own =
    option_and_then (λ answer. if nat_le answer.from moment then Some answer else None) own

abbrev pub just_now : (moment : ℕ) → Option OwnAnswer → Option (List (List ℕ))
just_now moment own =
    option_and_then (λ answer. if nat_eq answer.from moment then Some answer.payloads else None) own

abbrev pub by_plan : Plan → Deciding (Unit {0})
by_plan plan = record {
  login = λ w link. plan.logins link;
  step = λ w link for bytes. plan.steps link (w.tale.wires link).begun;
  hears = λ w e. tt;
  gives_up = λ w e m. just_now (suc w.tale.moment) (plan.own m);
  ends = λ w e c. is_now w.tale.moment (plan.ends c);
  words = λ w e c. word_at plan w.tale.moment c;
  route = λ w client ordinal message. plan.routes (name_of client ordinal);
  answer = λ w client ordinal message. by_now w.tale.moment (plan.own (name_of client ordinal));
  takes = λ w client ordinal message. tt;
  routed = λ w m. plan.routes m;
  given = λ w m. by_now w.tale.moment (plan.own m);
  frees = λ w link. tt;
}

-- what is looked up in a plan along a log
abbrev pub looked_up : Setup → Plan → Log → World (Unit {0})
looked_up setup plan log = world_after setup (by_plan plan) plan.service plan.room tt log

-- another plan has the same there: the routes of messages that came up, the router's answers and the ends by now, who logged in on
-- links, and the steps that were begun
abbrev pub AgreesUntil : Setup → Plan → Log → Plan → Type 0
AgreesUntil setup plan log other =
    Agrees (looked_up setup plan log).decided (looked_up setup plan log).tale.moment other
