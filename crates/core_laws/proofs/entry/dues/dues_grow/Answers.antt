use Rattle.core_laws.proofs.OfEntry.Growing.{due_grows, due_grows_until}
use Rattle.core_laws.proofs.OfEntry.Parting.{ends_grow, over_grows}
use Rattle.core_laws.proofs.entry.dues.dues_grow.Goals as goal

pub returns : goal.returns
returns c = record { so_far = due_grows; until = due_grows_until; ended = ends_grow; over = over_grows }
