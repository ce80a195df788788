-- What the tables keep beside their rows.
use Rattle.std.specs.Prelude.{◌≡◌, ◌≤◌, Bool, List, map}
use Rattle.std.specs.declared.hash.FoldHasher.{FoldHasher}
use Rattle.std.specs.declared.hash.BuildHasherDefault.{BuildHasherDefault}
use Rattle.std.specs.HashSet.{contains, HashSet}
use Rattle.std.specs.List.{list_any}
use Rattle.hostgroups.specs.Rows.{name_of, connections_of}
use Rattle.mx_config.specs.declared.servers.ServerTable.TheInside.{Inside}

-- the set has the key of each row
abbrev pub AreKeys : {X K : Type 0} → (same : K → K → Bool) → (key_of : X → K) → List X → HashSet K (BuildHasherDefault FoldHasher) → Type 0
AreKeys {K = K} same key_of rows keys = (q : K) → contains same keys q ≡ list_any (λ row. same (key_of row) q) rows

-- each server has a number, and their connections are counted
pub record AreServers (table : Inside) : Type 0 where
  pub numbered : table.numbers ≡ map name_of table.rows.items
  pub counted : table.connections ≡ connections_of table.rows.items
  pub few : table.connections ≤ 10000
