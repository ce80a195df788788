-- Links are given back one by one, as they are named.
use Rattle.std.specs.Prelude.{fold, List}
use Rattle.private_model.specs.Names.{LinkId}
use Rattle.core_tables.specs.Parting.{freed_in}
use Rattle.core_tables.specs.Tables.{Tabled}

abbrev pub all_freed : List LinkId → Tabled → Tabled
all_freed links t = fold (λ (was : Tabled) (l : LinkId). freed_in l was) t links
