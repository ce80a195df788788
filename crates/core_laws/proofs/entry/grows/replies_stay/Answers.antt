use Rattle.core_laws.proofs.OfEntry.Replies.{answers_on, replies_on}
use Rattle.core_laws.proofs.entry.grows.replies_stay.Goals as goal

pub returns : goal.returns
returns c = record { replies = replies_on; answers = answers_on }
