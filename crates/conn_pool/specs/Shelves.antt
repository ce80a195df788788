-- Links that may be lent, the newest first: of each its key, the place that it was told, its hostgroup and its server.
use Rattle.std.specs.Prelude.{◌≡◌, ℕ, ◌<◌, nat_eq, if◌then◌else◌, List, slice_get, slice_index, slice_set, Option, Some, None}
use Rattle.slot_lists.specs.Orders.{last, members, placed, without}
use Rattle.slots_by_age.specs.Aged.{Aged}
use Rattle.conn_pool.specs.declared.shelf.Shelf.{Shelf}

pub record Shelves : Type 0 where
  pub order : List ℕ
  pub since : List ℕ
  pub key_of : List ℕ
  pub place_of : List ℕ
  pub group_of : List ℕ
  pub server_of : List ℕ
  pub slots : ℕ
  pub keys : ℕ
  pub places : ℕ
  pub groups : ℕ
  pub servers : ℕ

pub record Fits (s : Shelves) (at : Shelf) : Type 0 where
  pub key : at.key < s.keys
  pub place : at.place < s.places
  pub group : at.group < s.groups
  pub server : at.server < s.servers

abbrev pub of_key : Shelves → (key : ℕ) → List ℕ
of_key s key = members s.key_of key s.order

abbrev pub of_place : Shelves → (place : ℕ) → List ℕ
of_place s place = members s.place_of place s.order

abbrev pub of_group : Shelves → (group : ℕ) → List ℕ
of_group s group = members s.group_of group s.order

abbrev pub of_server : Shelves → (server : ℕ) → List ℕ
of_server s server = members s.server_of server s.order

abbrev pub shelf_of : Shelves → (link : ℕ) → Shelf
shelf_of s link = record {
  key = slice_index s.key_of link;
  place = slice_index s.place_of link;
  group = slice_index s.group_of link;
  server = slice_index s.server_of link;
}

abbrev pub shelved : Shelves → (link : ℕ) → Shelf → (moment : ℕ) → Shelves
shelved s link at moment = record s {
  order = placed (slice_set s.since link moment) link (without link s.order);
  since = slice_set s.since link moment;
  key_of = slice_set s.key_of link at.key;
  place_of = slice_set s.place_of link at.place;
  group_of = slice_set s.group_of link at.group;
  server_of = slice_set s.server_of link at.server;
}

abbrev pub unshelved : Shelves → (link : ℕ) → Shelves
unshelved s link = record s { order = without link s.order }

-- four tables of the same links
abbrev pub shelves : (keys places groups servers : Aged) → Shelves
shelves keys places groups servers = record {
  order = keys.order;
  since = keys.since;
  key_of = keys.kind_of;
  place_of = places.kind_of;
  group_of = groups.kind_of;
  server_of = servers.kind_of;
  slots = keys.slots;
  keys = keys.kinds;
  places = places.kinds;
  groups = groups.kinds;
  servers = servers.kinds;
}

pub record IsSame (a b : Aged) : Type 0 where
  pub order : a.order ≡ b.order
  pub since : a.since ≡ b.since
  pub slots : a.slots ≡ b.slots

pub record AreSame (keys places groups servers : Aged) : Type 0 where
  pub by_place : IsSame places keys
  pub by_group : IsSame groups keys
  pub by_server : IsSame servers keys

-- Which link is lent: of those that were told the very place the newest, if it serves the key; else the newest of the key.

abbrev pub if_of_key : Shelves → (key : ℕ) → (told other : Option ℕ) → Option ℕ
if_of_key s key None other = other
if_of_key s key (Some link) other = if nat_eq (slice_index s.key_of link) key then Some link else other

abbrev pub best_for : Shelves → (key place : ℕ) → Option ℕ
best_for s key place = if_of_key s key (slice_get (of_place s place) 0) (slice_get (of_key s key) 0)

-- of a hostgroup the one that was there longest
abbrev pub longest_in : Shelves → (group : ℕ) → Option ℕ
longest_in s group = last (of_group s group)
