-- What is said with one statement more.
use Rattle.std.proofs.Common.{◌≡◌, ℕ, ◌+◌, suc, refl, arith}
use Rattle.generated_load.specs.Talks.{Loading, load_after, says}

pub one_more : (statements : ℕ) (load : Loading) → load_after (statements + 1) load ≡ says statements (load_after statements load)
one_more statements load = let same : statements + 1 ≡ suc statements = omega arith in rw same refl
