use Rattle.router_cases.proofs.Computed.{worked}
use Rattle.router_cases.specs.Worked.{decided, log, terms_with}
use Rattle.apart_cases.proofs.Giving.{ends-worked, gives-worked}
use Rattle.apart_cases.proofs.Shared.{administers-worked, copies-none, judges-worked, rules, speaks-worked, waits-worked}
use Rattle.apart_cases.proofs.worked.can_be_kept_apart.Goals as goal

pub returns : goal.returns
returns c = record {
  decided = decided;
  keeps = λ stored. c.kept_is_apart.ensures (terms_with stored) log (c.kept_by_test.ensures (terms_with stored) log (worked stored)) rules (administers-worked stored) speaks-worked (gives-worked stored) (ends-worked stored) (waits-worked stored) (judges-worked stored) copies-none;
}
