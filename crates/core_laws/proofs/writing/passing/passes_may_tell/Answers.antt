use Rattle.core_laws.proofs.OfWriting.Knowing.{server_at}
use Rattle.core_laws.proofs.OfWriting.Lending.{lent_so, tells}
use Rattle.core_laws.proofs.writing.passing.passes_may_tell.Goals as goal

pub returns : goal.returns
returns c = λ service g t l server offer bytes stands there lent planned to_server begins.
    tells c.rows_may_begin.ensures service g t l server.row stands (server_at service g t l server stands there) offer (lent_so t l server offer there lent) planned begins
