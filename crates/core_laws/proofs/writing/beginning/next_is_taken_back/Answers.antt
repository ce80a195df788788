use Rattle.core_laws.proofs.OfWriting.Backs.{taken_back_so}
use Rattle.core_tables.specs.Beginning.{next_back}
use Rattle.core_laws.proofs.writing.beginning.next_is_taken_back.Goals as goal

pub returns : goal.returns
returns c = λ service g t after l stands same.
    c.same_stands.ensures service g (next_back l t) after
    (taken_back_so c.rows_take_back.ensures c.taken_stands.ensures.back c.same_stands.ensures service g t l stands) same
