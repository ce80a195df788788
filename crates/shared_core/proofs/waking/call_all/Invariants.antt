use Rattle.std.specs.Prelude.{◌≡◌, true}
use Rattle.mx_base.specs.declared.names.ClientNo.{ClientNo}
use Rattle.shared_core.specs.Stands.{is_roomy}
use Rattle.shared_core.proofs.waking.call_all.Given as goal

abbrev pub invariant-loop-number : goal.invariant-loop-number
invariant-loop-number l = (c : ClientNo) → is_roomy l.initial.called c ≡ true → is_roomy l.called c ≡ true
