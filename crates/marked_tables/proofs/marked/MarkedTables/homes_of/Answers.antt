use Rattle.std.proofs.Common.{◌∙◌}
use Rattle.marked_tables.proofs.Rising.{or_false}
use Rattle.marked_tables.proofs.marked.MarkedTables.homes_of.Goals as goal

pub returns-clause-holds : goal.returns-clause-holds
returns-clause-holds c = λ link. (rw c.new-links.ensures.items at (c.in_ok-add_homes.ensures.holds link)) ∙ or_false _
