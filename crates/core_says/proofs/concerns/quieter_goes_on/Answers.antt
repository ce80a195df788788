use Rattle.core_says.proofs.Concerning.{quieter_on, same_quieter}
use Rattle.core_says.proofs.concerns.quieter_goes_on.Goals as goal

pub returns : goal.returns
returns c = record {
  along = λ a b d link first next. quieter_on a b d link first next;
  same = λ a b link same. same_quieter a b link same.clients (same.numbers link) (same.links link);
}
