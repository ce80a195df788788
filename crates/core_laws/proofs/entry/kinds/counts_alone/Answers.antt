use Rattle.log_story.specs.Tale.{counted}
use Rattle.core_tables.specs.Parting.{given_up_in}
use Rattle.core_stands.specs.Grounds.{on}
use Rattle.core_laws.proofs.OfEntry.Uneventful.{given_same, nobody_given, none_counted, none_given}
use Rattle.core_laws.proofs.entry.kinds.counts_alone.Goals as goal

pub returns : goal.returns
returns c = λ service g t stands still.
    c.same_stands.ensures service (on g (counted g.tale)) (given_up_in nobody_given t) t
    (c.counted_stands.ensures service g t nobody_given stands (none_given t) (none_counted g still)) (given_same t)
