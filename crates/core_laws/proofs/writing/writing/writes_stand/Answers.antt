use Rattle.core_laws.proofs.OfWriting.Knowing.{server_at}
use Rattle.core_laws.proofs.OfWriting.Lending.{lent_so}
use Rattle.core_laws.proofs.OfWriting.Sending.{written_so}
use Rattle.core_tables.specs.Writing.{wrote_on}
use Rattle.core_laws.proofs.writing.writing.writes_stand.Goals as goal

pub returns : goal.returns
returns c = λ service g t after l server offer count now stands there lent planned some within same.
    c.same_stands.ensures service _ (wrote_on l count now t) after
    (written_so c.rows_may_begin.ensures c.rows_say.ensures c.rows_write_on.ensures c.rows_begin.ensures c.others_stay.ensures c.coming_stays.ensures c.clients_at_stay.ensures c.sent_stands.ensures
    c.lent_stands.ensures c.outlasts_as_said.ensures service g t l server offer count now stands there (server_at service g t l server stands there) some within (lent_so t l server offer there lent) planned)
    same
