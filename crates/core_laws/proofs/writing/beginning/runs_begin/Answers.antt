use Rattle.core_laws.proofs.OfWriting.Runs.{run_so}
use Rattle.core_tables.specs.Preparing.{run_begun}
use Rattle.core_laws.proofs.writing.beginning.runs_begin.Goals as goal

pub returns : goal.returns
returns c = λ service g t after l server n client work stands open_so there in_work unsent names named same.
    c.same_stands.ensures service g (run_begun l n t) after
    (run_so c.rows_take_next.ensures c.statements_are_readied.ensures c.taken_stands.ensures.form service g t l server n client work stands open_so there in_work
    unsent names named) same
