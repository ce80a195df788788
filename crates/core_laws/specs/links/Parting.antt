-- Links that may be given back at the end of an entry of one link.
use Rattle.std.specs.Prelude.{Bool, List, filter}
use Rattle.mx_wire.specs.declared.entry.Entry.{Entry}
use Rattle.private_model.specs.Names.{ClientNo, LinkId}
use Rattle.log_story.specs.Servers.{freed_if_done}
use Rattle.log_story.specs.Tale.{Client, Tale}
use Rattle.step_laws.specs.Seats.{is_its}
use Rattle.step_laws.specs.Steps.{carries_parting, leave, told_then}
use Rattle.core_stands.specs.Grounds.{Ground}

-- the entry is told and counted, and its link is given back if it is done
abbrev pub first_freed : Ground → Entry → LinkId → Tale
first_freed g e l = freed_if_done g.setup g.plan (told_then g.setup g.plan g.tale e) l

-- those that carry sessions of the client, or of those who are ended
abbrev pub parting_links : Ground → Entry → LinkId → Client → List LinkId
parting_links g e l client = filter (carries_parting g.setup g.plan (is_its client) (first_freed g e l)) (first_freed g e l).links

-- a client's messages were taken up, and these are ended
abbrev pub parted : Ground → (ended : List ClientNo) → (over : ClientNo → Bool) → Tale → Ground
parted g ended over tale = record g { tale = leave ended tale; over = over }
