use Rattle.shared_router.proofs.Same.{now_is, now_same}
use Rattle.shared_router.specs.Shared.{final_terms}
use Rattle.shared_router.proofs.links.knows_now.Goals as goal
use Rattle.std.specs.Prelude.{◌++◌}

pub returns : goal.returns
returns c = λ fixed before after numbered. now_is fixed (final_terms fixed (before ++ after)) before (now_same fixed numbered before after)
