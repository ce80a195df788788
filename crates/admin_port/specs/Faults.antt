-- What a function answers, beside what there is to say.
use Rattle.std.specs.Prelude.{◌≡◌, Option, Some, None, Result, Ok, Err}
use Rattle.admin_port.specs.declared.fault.Fault.{Fault}
use Rattle.admin_port.specs.declared.fault.Fault.TheVariants.{Refused, OutOfMemory}

-- unless memory was refused, there is nothing to say
abbrev pub Refuses : {X : Type 0} → Fault → Option X → Type 0
Refuses Refused said = said ≡ None
Refuses OutOfMemory said = Unit {0}

-- unless memory was refused, the answer is what is said
abbrev pub Gives : {X : Type 0} → Result X Fault → Option X → Type 0
Gives (Ok x) said = said ≡ Some x
Gives (Err fault) said = Refuses fault said

-- unless memory was refused, what there is afterwards is what is said; a refusal leaves what there was
abbrev pub Changes : {X : Type 0} → Result (Unit {0}) Fault → (old new : X) → Option X → Type 0
Changes (Ok done) old new said = said ≡ Some new
Changes (Err fault) old new said = (new ≡ old) × Refuses fault said

-- the same where a refusal may leave something else
abbrev pub Leaves : {X : Type 0} → Result (Unit {0}) Fault → (new : X) → Option X → Type 0
Leaves (Ok done) new said = said ≡ Some new
Leaves (Err fault) new said = Refuses fault said
