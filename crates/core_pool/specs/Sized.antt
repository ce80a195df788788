-- How large what is kept is.
use Rattle.std.specs.Prelude.{◌≡◌, ℕ}
use Rattle.slots_by_age.specs.Aged.{Aged}
use Rattle.conn_pool.specs.Pools.{Links}
use Rattle.conn_pool.specs.declared.sizes.Sizes.{Sizes}

pub record IsOf (aged : Aged) (slots kinds : ℕ) : Type 0 where
  pub slots_of : aged.slots ≡ slots
  pub kinds_of : aged.kinds ≡ kinds

pub record IsPoolOf (pool : Links) (sizes : Sizes) : Type 0 where
  pub links_of : pool.links.slots ≡ sizes.links
  pub servers_of : pool.links.kinds ≡ sizes.servers
  pub waiters_of : pool.waiting.slots ≡ sizes.waiters
  pub keys_of : pool.idle.lendable.keys ≡ sizes.keys
  pub places_of : pool.idle.lendable.places ≡ sizes.places
  pub groups_of : pool.idle.lendable.groups ≡ sizes.groups
  pub entering_of : pool.entering.kinds ≡ sizes.keys
  pub waiting_of : pool.waiting.kinds ≡ sizes.keys
  pub shelf_servers_of : pool.idle.lendable.servers ≡ sizes.servers
