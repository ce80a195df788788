-- Links below a number.
use Rattle.std.specs.Prelude.{ℕ, Bool, nat_lt, List}
use Rattle.std.specs.List.{list_all}
use Rattle.mx_base.specs.declared.names.LinkId.{LinkId}

abbrev pub links_below : ℕ → List LinkId → Bool
links_below next links = list_all (λ link. nat_lt link.0 next) links
