use Rattle.core_laws.proofs.OfWriting.Preps.{prep_so}
use Rattle.core_tables.specs.Preparing.{prep_begun}
use Rattle.core_laws.proofs.writing.beginning.preps_begin.Goals as goal

pub returns : goal.returns
returns c = λ service g t after l server n client work text stands open_so classes there in_work to same.
    c.same_stands.ensures service g (prep_begun l n text t) after
    (prep_so c.rows_take_next.ensures c.preparations_are_readied.ensures service g t l server n client work text stands open_so classes there in_work to) same
