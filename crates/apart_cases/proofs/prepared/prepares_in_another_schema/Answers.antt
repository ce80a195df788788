use Rattle.apart_cases.proofs.Kept.{could-come}
use Rattle.apart_cases.proofs.Places.{told-key}
use Rattle.apart_cases.proofs.prepared.prepares_in_another_schema.Goals as goal

pub returns : goal.returns
returns c = λ terms past link n key text tells other. other (told-key _ n key text _ _ (could-come terms past _ tells).fits).schema
