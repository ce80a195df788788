use Rattle.core_laws.proofs.OfEntry.Waiting.{none_ends, none_given_up, words_stay}
use Rattle.core_laws.proofs.entry.grows.decisions_wait.Goals as goal

pub returns : goal.returns
returns c = record {
  given = λ d moment plan nothing is m own was. none_given_up d moment plan nothing is m own was;
  ended = λ d moment plan nothing is number. none_ends d moment plan nothing is number;
  told = λ d moment plan nothing is number. words_stay d moment plan nothing is number;
}
