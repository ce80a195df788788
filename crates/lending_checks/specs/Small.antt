-- A pool of eight links and clients, and four of all else.
use Rattle.std.specs.Prelude.{◌≡◌}
use Rattle.conn_pool.specs.Pools.{Links}

pub record IsTable (p : Links) : Type 0 where
  pub eight_links : p.links.slots ≡ 8
  pub four_servers : p.links.kinds ≡ 4
  pub four_enter : p.entering.kinds ≡ 4
  pub four_keys : p.idle.lendable.keys ≡ 4
  pub four_places : p.idle.lendable.places ≡ 4
  pub four_groups : p.idle.lendable.groups ≡ 4
  pub four_hosts : p.idle.lendable.servers ≡ 4
  pub eight_clients : p.waiting.slots ≡ 8
  pub four_wait : p.waiting.kinds ≡ 4
