-- Steps of which each may be refused.
use Rattle.std.proofs.Common.{◌≡◌, Option, Some, None, Result, Ok, Err, ap, refl}
use Rattle.std.specs.Prelude.{option_map}
use Rattle.std.specs.Result.{IsErrAnd}
use Rattle.mx_base.specs.Steps.{◌>>=◌}
use Rattle.admin_port.specs.declared.fault.Fault.{Fault}
use Rattle.admin_port.specs.declared.fault.Fault.TheVariants.{Refused, OutOfMemory}
use Rattle.admin_port.specs.Faults.{Changes, Gives, Refuses}

-- a step that is refused refuses what stands on it
pub refused_before : {A B : Type 0} (fault : Fault) (said : Option A) (next : A → Option B) → Refuses fault said → Refuses fault (said >>= next)
refused_before OutOfMemory said next h = tt
refused_before Refused (Some x) next h = absurd (cc)
refused_before Refused None next h = cc

-- the refusal of a step is handed on
pub handed_on : {A B : Type 0} (result : Result B Fault) (fault : Fault) (said : Option A) (next : A → Option B)
    → IsErrAnd result (λ given. given ≡ fault) → Refuses fault said → Gives result (said >>= next)
handed_on (Ok x) fault said next is h = absurd is
handed_on (Err given) fault said next is h = rw is (refused_before fault said next h)

-- a step that isn't refused leaves what is said behind it
pub passed : {A B : Type 0} (result : Result B Fault) (said : Option A) (next : A → Option B) (x : A)
    → said ≡ Some x → Gives result (next x) → Gives result (said >>= next)
passed result said next x is h = rw is h

-- a step that says nothing says nothing of what stands on it
pub ended : {A B : Type 0} (said : Option A) (next : A → Option B) → None ≡ said → (said >>= next) ≡ None
ended said next is = rw (← is) refl

-- the same of a step that is known the other way round
pub went_on : {A B : Type 0} (result : Result B Fault) (said : Option A) (next : A → Option B) (x : A)
    → Some x ≡ said → Gives result (next x) → Gives result (said >>= next)
went_on result said next x is h = rw (← is) h

-- the same of what a statement changes
pub kept_before : {A X : Type 0} (result : Result (Unit {0}) Fault) (fault : Fault) (old new : X) (said : Option A) (next : A → Option X)
    → IsErrAnd result (λ given. given ≡ fault) → new ≡ old → Refuses fault said → Changes result old new (said >>= next)
kept_before (Ok done) fault old new said next is same h = absurd is
kept_before (Err given) fault old new said next is same h = (same, rw is (refused_before fault said next h))

pub changed_on : {A X : Type 0} (result : Result (Unit {0}) Fault) (old new : X) (said : Option A) (next : A → Option X) (x : A)
    → said ≡ Some x → Changes result old new (next x) → Changes result old new (said >>= next)
changed_on result old new said next x is h = rw is h

-- what is refused is refused as a part of something else
pub refused_within : {A B : Type 0} (fault : Fault) (said : Option A) (f : A → B) → Refuses fault said → Refuses fault (option_map f said)
refused_within OutOfMemory said f h = tt
refused_within Refused (Some x) f h = absurd (cc)
refused_within Refused None f h = refl

pub kept_within : {A X : Type 0} (result : Result (Unit {0}) Fault) (fault : Fault) (old new : X) (said : Option A) (f : A → X)
    → IsErrAnd result (λ given. given ≡ fault) → new ≡ old → Refuses fault said → Changes result old new (option_map f said)
kept_within (Ok done) fault old new said f is same h = absurd is
kept_within (Err given) fault old new said f is same h = (same, rw is (refused_within fault said f h))

-- what changes a part changes the whole
pub changed_within : {X Y : Type 0} (result : Result (Unit {0}) Fault) (old new : X) (said : Option X) (f : X → Y)
    → Changes result old new said → Changes result (f old) (f new) (option_map f said)
changed_within (Ok done) old new said f h = ap (option_map f) h
changed_within (Err fault) old new said f h = (ap f h.0, refused_within fault said f h.1)

-- what a function answers that takes such steps one after the other
pub ruleset steps = (handed_on, passed, ended, went_on, kept_before, changed_on, kept_within)
