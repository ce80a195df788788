use Rattle.session_vars.proofs.Collations.{collations_tracked}
use Rattle.session_vars.proofs.Kept.{stay_tracked}
use Rattle.session_vars.proofs.laws.settings_stay_tracked.Goals as goal

pub returns : goal.returns
returns c = record { collation = collations_tracked; applied = stay_tracked }
