-- What is chosen leaves a pool's size.
use Rattle.std.specs.Prelude.{◌≡◌, ℕ, Option, Some, None}
use Rattle.conn_pool.specs.Pools.{Idle, Links, brought_back, busy_if, put_aside}
use Rattle.lending_checks.specs.Small.{IsTable}

with_idle : (p : Links) (idle : Idle) → IsTable p → idle.lendable.keys ≡ 4 → idle.lendable.places ≡ 4 → idle.lendable.groups ≡ 4 → idle.lendable.servers ≡ 4
    → IsTable (record p { idle = idle })
with_idle p idle table keys places groups hosts = record {
  eight_links = table.eight_links;
  four_servers = table.four_servers;
  four_enter = table.four_enter;
  four_keys = keys;
  four_places = places;
  four_groups = groups;
  four_hosts = hosts;
  eight_clients = table.eight_clients;
  four_wait = table.four_wait;
}

pub table_busy : (p : Links) (link : Option ℕ) → IsTable p → IsTable (record p { idle = busy_if p.idle link })
table_busy p None t = t
table_busy p (Some link) t = with_idle p _ t t.four_keys t.four_places t.four_groups t.four_hosts

pub table_aside : (p : Links) (server moment : ℕ) (link : Option ℕ) → IsTable p → IsTable (record p { idle = put_aside p.idle server moment link })
table_aside p server moment None t = t
table_aside p server moment (Some link) t = with_idle p _ t t.four_keys t.four_places t.four_groups t.four_hosts

pub table_back : (p : Links) (moment : ℕ) (link : Option ℕ) → IsTable p → IsTable (record p { idle = brought_back p.idle moment link })
table_back p moment None t = t
table_back p moment (Some link) t = with_idle p _ t t.four_keys t.four_places t.four_groups t.four_hosts
