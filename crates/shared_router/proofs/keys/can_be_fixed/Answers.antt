use Rattle.shared_router.specs.Fixed.{Fixed}
use Rattle.shared_router.proofs.Fitting.{accounts_by, fits_so, places_by}
use Rattle.shared_router.proofs.Numbering.{key_back, key_code, key_same}
use Rattle.shared_router.proofs.keys.can_be_fixed.Goals as goal

pub returns : goal.returns
returns c = λ fixed log.
    let numbered : Fixed = record fixed { keys = key_back; number_of = key_code } in
    (key_back, key_code, accounts_by numbered log, places_by numbered log, key_same, fits_so numbered log)
