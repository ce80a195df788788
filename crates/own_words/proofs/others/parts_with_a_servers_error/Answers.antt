use Rattle.own_words.proofs.Words.{last-error}
use Rattle.own_words.proofs.others.parts_with_a_servers_error.Goals as goal

pub returns : goal.returns
returns c = λ rules plan c word code state text speaks is error other. last-error word.payloads code state text (speaks.words c word is) error other
