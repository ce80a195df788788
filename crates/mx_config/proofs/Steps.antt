-- Steps of which each may be refused.
use Rattle.std.proofs.Common.{◌≡◌, Result, Ok, Err}
use Rattle.std.specs.Result.{IsErrAnd}
use Rattle.mx_config.specs.declared.fault.ConfigRefusal.{ConfigRefusal}
use Rattle.mx_config.specs.declared.fault.ConfigRefusal.TheVariants.{Fault, OutOfMemory}
use Rattle.mx_config.specs.Faults.{Said, ◌>>=◌, fault_of, Gives, Refuses}

-- a step that is refused refuses what stands on it
pub refused_before : {A B : Type 0} (refusal : ConfigRefusal) (said : Said A) (next : A → Said B) → Refuses refusal (fault_of said) → Refuses refusal (fault_of (said >>= next))
refused_before OutOfMemory said next h = tt
refused_before (Fault fault) (Ok x) next h = absurd (cc)
refused_before (Fault fault) (Err first) next h = h

-- the refusal of a step is handed on
pub handed_on : {A B : Type 0} (result : Result B ConfigRefusal) (refusal : ConfigRefusal) (said : Said A) (next : A → Said B)
    → IsErrAnd result (λ given. given ≡ refusal) → Refuses refusal (fault_of said) → Gives result (said >>= next)
handed_on (Ok x) refusal said next is h = absurd is
handed_on (Err given) refusal said next is h = rw is (refused_before refusal said next h)

-- a step that isn't refused leaves what is said behind it
pub passed : {A B : Type 0} (result : Result B ConfigRefusal) (said : Said A) (next : A → Said B) (x : A)
    → said ≡ Ok x → Gives result (next x) → Gives result (said >>= next)
passed result said next x is h = rw is h

-- what a function answers that takes such steps one after the other
pub ruleset steps = (handed_on, passed)
