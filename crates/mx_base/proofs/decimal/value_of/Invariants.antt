use Rattle.std.proofs.Common.{◌≡◌, ◌<◌, ◌^◌, drop}
use Rattle.std.specs.Prelude.{fold}
use Rattle.mx_base.specs.Decimal.{with_digit, decimal_value}
use Rattle.mx_base.proofs.decimal.value_of.Given as goal

abbrev pub invariant-loop-digit : goal.invariant-loop-digit
invariant-loop-digit l = record {
  value : fold with_digit l.value (drop l.digit-index l.digits) ≡ decimal_value l.digits;
  below : l.value < 2 ^ 64;
}
