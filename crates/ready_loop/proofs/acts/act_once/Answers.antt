use Rattle.ready_loop.proofs.Steps.{keeps, closes}
use Rattle.ready_loop.proofs.Watching as watching
use Rattle.ready_loop.proofs.Offering.{owed-closing}
use Rattle.ready_loop.proofs.acts.act_once.Goals as goal

pub open_link-requires-clause-serves : goal.open_link-requires-clause-serves
open_link-requires-clause-serves g c = record {
  standing = keeps _ _ _ _ c.requires.serves.standing (rw c.in-Some-Open.field-0-is at c.in-Some-Open.ensures.act);
  tracks = c.requires.serves.tracks;
  watches = watching.changes _ _ _ _ _ _ c.in-Some-Open.ensures.changes c.requires.serves.watches;
}

pub returns-in-None-clause-serves : goal.returns-in-None-clause-serves
returns-in-None-clause-serves g c = record {
  standing = keeps _ _ _ _ c.requires.serves.standing c.in-None.ensures.act;
  tracks = c.requires.serves.tracks;
  watches = watching.changes _ _ _ _ _ _ c.in-None.ensures.changes c.requires.serves.watches;
}

pub returns-in-Some-Close-clause-serves : goal.returns-in-Some-Close-clause-serves
returns-in-Some-Close-clause-serves g c = record {
  standing = closes _ _ _ _ c.quiet.ensures _ _ _ _ _ _ c.requires.serves.standing (rw c.in-Some-Close.field-0-is at c.in-Some-Close.ensures.act) c.close_link.ensures.parts;
  tracks = c.close_link.ensures.tracks;
  watches = watching.closed _ _ _ _ _ _ c.close_link.ensures.marks c.close_link.ensures.queue (watching.changes _ _ _ _ _ _ c.in-Some-Close.ensures.changes c.requires.serves.watches);
}

pub close_link-requires-clause-owed : goal.close_link-requires-clause-owed
close_link-requires-clause-owed g c = owed-closing _ _ _ _ c.quiet.ensures g.M.Machine.serves_by g.M.Machine.owes c.args.core.now _ _ _ c.requires.serves.standing (rw c.in-Some-Close.field-0-is at c.in-Some-Close.ensures.owed) c.in-Some-Close.ensures.serves_by
