use Rattle.mx_wire.specs.declared.entry.Entry.TheVariants.{Closed, Ended, ReadFailed, WriteFailed}
use Rattle.core_tables.specs.Parting.{given_up_in, lost_in}
use Rattle.core_laws.proofs.OfLinks.Lost.{lost_as, lost_freed}
use Rattle.core_laws.proofs.links.freed.losses_stand.Goals as goal

pub returns : goal.returns
returns c = record {
  ended = λ service g t l given stands there losing gives counts.
      lost_freed service (c.freed_stands.ensures.stands service) g (given_up_in given (lost_in l t)) l (Ended l) there (lost_as g.tale l there)
      (c.lost_stands.ensures service g t l given stands losing gives counts);
  unread = λ service g t l given stands there losing gives counts.
      lost_freed service (c.freed_stands.ensures.stands service) g (given_up_in given (lost_in l t)) l (ReadFailed l) there (lost_as g.tale l there)
      (c.lost_stands.ensures service g t l given stands losing gives counts);
  unwritten = λ service g t l given stands there losing gives counts.
      lost_freed service (c.freed_stands.ensures.stands service) g (given_up_in given (lost_in l t)) l (WriteFailed l) there (lost_as g.tale l there)
      (c.lost_stands.ensures service g t l given stands losing gives counts);
  closed = λ service g t l given stands there losing gives counts.
      lost_freed service (c.freed_stands.ensures.stands service) g (given_up_in given (lost_in l t)) l (Closed l) there (lost_as g.tale l there)
      (c.lost_stands.ensures service g t l given stands losing gives counts);
}
