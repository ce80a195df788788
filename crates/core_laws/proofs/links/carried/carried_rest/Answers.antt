use Rattle.core_laws.proofs.OfLinks.Composed.{calm_behind, stands_behind}
use Rattle.core_laws.proofs.links.carried.carried_rest.Goals as goal
use Rattle.core_laws.specs.links.Parting.{first_freed}

pub returns : goal.returns
returns c = λ service g t gone now roomy room e l client ended over tale rests on_link ends theirs its spared goes stands ends_now rooms calm same.
    c.entries_of_one.ensures service g t now roomy room e over client ended (first_freed g e l) rests (c.entries_of_a_link.ensures g e l client ended on_link ends) theirs its
    spared
    (stands_behind g e l client ended over tale (c.entries_of_a_link.ensures g e l client ended on_link ends) theirs on_link.single goes service
    (c.links_are_given_back.ensures service) (c.same_stands.ensures service) gone now stands same)
    ends_now rooms
    (calm_behind g e l client ended over tale (c.entries_of_a_link.ensures g e l client ended on_link ends) theirs on_link.single goes room calm)
