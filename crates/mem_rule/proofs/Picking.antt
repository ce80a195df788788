-- What holds of both sides of a choice.
use Rattle.std.specs.Prelude.{Bool, true, false, if◌then◌else◌}
use Rattle.mem_rule.specs.declared.did.Did.{Did}

pub pick : (P : Did → Type 0) (b : Bool) (x y : Did) → P x → P y → P (if b then x else y)
pick P true x y px py = px
pick P false x y px py = py
