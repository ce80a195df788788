use Rattle.std.proofs.Common.{◌≡◌, [], drop}
use Rattle.admin_port.specs.Selecting.{places_from}
use Rattle.admin_port.proofs.select.places.Given as goal

-- the names that are left decide
abbrev pub invariant-loop-name : goal.invariant-loop-name
invariant-loop-name l = places_from l.columns l.places (drop l.name-index l.names) ≡ places_from l.columns [] l.names
