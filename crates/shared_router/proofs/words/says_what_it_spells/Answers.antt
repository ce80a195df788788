use Rattle.std.specs.Prelude.{◌<◌, length}
use Rattle.std.proofs.Common.{arith}
use Rattle.shared_router.proofs.Saying.{says_kept}
use Rattle.shared_router.proofs.words.says_what_it_spells.Goals as goal

pub returns : goal.returns
returns c = λ fixed log numbered our.
    let small : length log < 18446744073709551616 = omega (arith, our.bounded) in
    says_kept fixed numbered log small our.ours our.fits (c.executes_read_as_spelt.ensures fixed log numbered our)
