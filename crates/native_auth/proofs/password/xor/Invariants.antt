use Rattle.std.proofs.Common.{◌≡◌, length}
use Rattle.native_auth.specs.Native.{xor_bytes}
use Rattle.native_auth.proofs.Mixed.{mixed_to}
use Rattle.native_auth.proofs.password.xor.Given as goal

abbrev pub invariant-loop-i : goal.invariant-loop-i
invariant-loop-i l = record {
  long : length l.bytes ≡ 20;
  so_far : mixed_to l.i l.bytes l.others ≡ xor_bytes l.fn.bytes l.others;
}
