use Rattle.core_laws.proofs.OfWriting.Texts.{text_so}
use Rattle.core_tables.specs.Beginning.{text_begun}
use Rattle.core_laws.proofs.writing.beginning.text_begins.Goals as goal

pub returns : goal.returns
returns c = λ service g t after l server n client work stands open_so there in_work unsent names named same.
    c.same_stands.ensures service g (text_begun l n t) after
    (text_so c.rows_take_next.ensures c.statements_are_readied.ensures c.taken_stands.ensures.form c.taken_stands.ensures.packets service g t l server n client work stands open_so there in_work
    unsent names named) same
