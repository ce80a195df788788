use Rattle.core_laws.proofs.OfTaking.Joining.{as_request}
use Rattle.core_laws.proofs.taking.joins.texts_are_requests.Goals as goal

pub returns : goal.returns
returns c = as_request
