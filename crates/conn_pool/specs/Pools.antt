-- The pool. A link is open; it may be logging in, or have a step under way while it carries nobody; where nothing is under way there, it was
-- given back, and may be lent or stands aside while its server takes none. A client waits for a link of its key.
use Rattle.std.specs.Prelude.{◌≡◌, ℕ, ◌+◌, Bool, nat_le, nat_lt, if◌then◌else◌, length, slice_index, Option, Some, None, option_map}
use Rattle.slot_lists.specs.Orders.{last}
use Rattle.slots_by_age.specs.Aged.{Aged, of_kind, put, taken}
use Rattle.conn_pool.specs.declared.shelf.Shelf.{Shelf}
use Rattle.conn_pool.specs.Shelves.{Shelves, of_key, shelf_of, shelved, unshelved}

-- links that carry nobody
pub record Idle : Type 0 where
  pub lendable : Shelves
  pub aside : Aged  -- by server
  pub resting : Aged  -- all of them, since they were given back

pub record Links : Type 0 where
  pub links : Aged  -- open ones, by server
  pub entering : Aged  -- by key: those whose login isn't through, or that carry nobody with a step under way
  pub idle : Idle
  pub waiting : Aged  -- clients, by key

-- What changes.

abbrev pub given_back : Idle → (link : ℕ) → Shelf → (moment : ℕ) → Idle
given_back i link at moment = record { lendable = shelved i.lendable link at moment; aside = taken i.aside link; resting = put i.resting link 0 moment }

-- a link carries somebody, or is to be closed
abbrev pub busy : Idle → (link : ℕ) → Idle
busy i link = record { lendable = unshelved i.lendable link; aside = taken i.aside link; resting = taken i.resting link }

abbrev pub busy_if : Idle → Option ℕ → Idle
busy_if i None = i
busy_if i (Some link) = busy i link

abbrev pub put_aside : Idle → (server moment : ℕ) → Option ℕ → Idle
put_aside i server moment None = i
put_aside i server moment (Some link) = record { lendable = unshelved i.lendable link; aside = put i.aside link server moment; resting = i.resting }

abbrev pub brought_back : Idle → (moment : ℕ) → Option ℕ → Idle
brought_back i moment None = i
brought_back i moment (Some link) =
    record { lendable = shelved i.lendable link (shelf_of i.lendable link) moment; aside = taken i.aside link; resting = i.resting }

abbrev pub opened : Links → (link server key moment : ℕ) → Links
opened p link server key moment = record p { links = put p.links link server moment; entering = put p.entering link key moment }

abbrev pub closed : Links → (link : ℕ) → Links
closed p link = record p { links = taken p.links link; entering = taken p.entering link; idle = busy p.idle link }

-- What is chosen.

-- one that was given back so long ago
abbrev pub old_enough : Idle → (now_ms idle_ms : ℕ) → Option ℕ → Option ℕ
old_enough i now_ms idle_ms None = None
old_enough i now_ms idle_ms (Some link) = if nat_le (slice_index i.resting.since link + idle_ms) now_ms then Some link else None

abbrev pub expiring : Idle → (now_ms idle_ms : ℕ) → Option ℕ
expiring i now_ms idle_ms = old_enough i now_ms idle_ms (last i.resting.order)

-- since when the link rests that was given back longest ago
abbrev pub rests_since : Idle → Option ℕ
rests_since i = option_map (slice_index i.resting.since) (last i.resting.order)

-- how many links of a key may be lent, log in or have a step under way
abbrev pub coming : Links → (key : ℕ) → ℕ
coming p key = length (of_key p.idle.lendable key) + length (of_kind p.entering key)

-- more clients of a key wait than that
abbrev pub wants_link : Links → (key : ℕ) → Bool
wants_link p key = nat_lt (coming p key) (length (of_kind p.waiting key))

-- each table has room for the same links, keys and servers

pub record IsIdle (i : Idle) : Type 0 where
  pub aside_slots : i.aside.slots ≡ i.lendable.slots
  pub resting_slots : i.resting.slots ≡ i.lendable.slots
  pub one : i.resting.kinds ≡ 1
  pub aside_servers : i.aside.kinds ≡ i.lendable.servers

pub record AreSized (p : Links) : Type 0 where
  pub idle_slots : p.idle.lendable.slots ≡ p.links.slots
  pub entering_slots : p.entering.slots ≡ p.links.slots
  pub entering_keys : p.entering.kinds ≡ p.idle.lendable.keys
  pub waiting_keys : p.waiting.kinds ≡ p.idle.lendable.keys
  pub servers : p.idle.lendable.servers ≡ p.links.kinds
