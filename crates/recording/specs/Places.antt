-- The places at which the entries of each link stand in a log.
use Rattle.std.specs.Prelude.{ℕ, nat_eq, List, []}
use Rattle.std.specs.List.{filter_map, slice_get}
use Rattle.std.specs.Option.{option_map_or}
use Rattle.std.specs.HashMap.{get}
use Rattle.mx_base.specs.declared.names.LinkId.{LinkId}
use Rattle.mx_wire.specs.Log.{Log}
use Rattle.recording.specs.declared.places.Places.{Places}

abbrev pub places_of : Places → LinkId → List ℕ
places_of table link = option_map_or (λ places. places.items) (get nat_eq table.by_link link.0) []

-- the entries at these places
abbrev pub entries_at : Log → List ℕ → Log
entries_at log places = filter_map (slice_get log) places
