-- What is decided at an entry by which at most one statement is given up, and at most one client goes on.
use Rattle.std.specs.Prelude.{ℕ, List, [], ◌∷◌, Option, None, Some}
use Rattle.log_story.specs.Plan.{Behind}
use Rattle.core_laws.specs.clients.Follows.{Leaves, Parting, Stays, Tells}
use Rattle.core_laws.specs.clients.Going.{GivenUp, Going, told_to}
use Rattle.router_laws.specs.decisions.Deeds.{Deeds, Word, no_deeds, parting, taking}

-- its last word stands behind all that it was answered
abbrev pub end_of : Parting → Option (Option Word)
end_of Stays = None
end_of Leaves = Some None
end_of (Tells payload) = Some (Some (record { place = Behind; payloads = payload ∷ [] }))

abbrev pub with_going : Option Going → Deeds → Deeds
with_going None deeds = deeds
with_going (Some going) deeds = parting going.client (end_of going.parting) (taking going.client going.choices going.halt deeds)

abbrev pub deeds_of : Option GivenUp → Option Going → Deeds
deeds_of given going = record (with_going going no_deeds) { given = told_to given }
