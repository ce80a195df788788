use Rattle.core_laws.proofs.OfWriting.Openings.{opens}
use Rattle.core_tables.specs.Writing.{opened}
use Rattle.core_laws.proofs.writing.opening.links_open.Goals as goal

pub returns : goal.returns
returns c = λ service g t after server address l slot opening now stands new unborn apart of_server same.
    c.same_stands.ensures service _ (opened l slot opening (g.plan.logins l) now t) after
    (opens c.rows_open.ensures service g t server address l slot opening now stands new unborn apart of_server) same
