use Rattle.std.proofs.Common.{sym, ◌∙◌, arith}
use Rattle.native_auth.proofs.Mixed.{mixed_to-all}
use Rattle.native_auth.proofs.password.xor.Goals as goal

pub returns : goal.returns
returns c = sym (mixed_to-all c.loop-i.i c.loop-i.bytes c.args.others.now (omega arith)) ∙ c.loop-i.invariant.so_far
