-- How large tables are, and tables with nothing in them.
use Rattle.std.specs.Prelude.{◌≡◌, ◌+◌, ◌^◌, ◌<◌, [], replicate}
use Rattle.slots_by_age.specs.Aged.{IsNone}
use Rattle.conn_pool.specs.declared.sizes.Sizes.{Sizes}
use Rattle.conn_pool.specs.Shelves.{Shelves}
use Rattle.conn_pool.specs.Pools.{Idle, Links}

-- small enough to be counted, and something of each
pub record IsSmall (s : Sizes) : Type 0 where
  pub links : s.links + 1 < 2 ^ 32
  pub few_wait : s.waiters + 1 < 2 ^ 32
  pub waiters : s.waiters + s.keys < 2 ^ 32
  pub some_keys : 0 < s.keys
  pub some_places : 0 < s.places
  pub some_groups : 0 < s.groups
  pub some_servers : 0 < s.servers
  pub keys : s.links + s.keys < 2 ^ 32
  pub places : s.links + s.places < 2 ^ 32
  pub groups : s.links + s.groups < 2 ^ 32
  pub servers : s.links + s.servers < 2 ^ 32

pub record AreNone (l : Shelves) (s : Sizes) : Type 0 where
  pub no_link : l.order ≡ []
  pub no_moment : l.since ≡ replicate s.links 0
  pub slots_of : l.slots ≡ s.links
  pub keys_of : l.keys ≡ s.keys
  pub places_of : l.places ≡ s.places
  pub groups_of : l.groups ≡ s.groups
  pub servers_of : l.servers ≡ s.servers

pub record NoneIdle (i : Idle) (s : Sizes) : Type 0 where
  pub none_lendable : AreNone i.lendable s
  pub none_aside : IsNone i.aside s.links s.servers
  pub none_rests : IsNone i.resting s.links 1

-- a pool of these sizes, with nothing in it
pub record IsFor (s : Sizes) (p : Links) : Type 0 where
  pub no_link : IsNone p.links s.links s.servers
  pub none_enters : IsNone p.entering s.links s.keys
  pub none_idle : NoneIdle p.idle s
  pub nobody_waits : IsNone p.waiting s.waiters s.keys
