use Rattle.core_laws.proofs.OfWriting.Nexts.{steps_so}
use Rattle.core_tables.specs.Beginning.{step_begun}
use Rattle.core_laws.proofs.writing.beginning.step_begins.Goals as goal

pub returns : goal.returns
returns c = λ service g t after l server purpose wish command stands open_so classes step wished same.
    c.same_stands.ensures service g (step_begun l purpose wish t) after
    (steps_so c.rows_take_next.ensures service g t l server stands open_so c.steps_are_readied.ensures purpose wish command classes step wished) same
