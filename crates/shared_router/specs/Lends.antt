-- For whom links are readied: by the policy, over what the promise counts.
use Rattle.std.specs.Prelude.{ℕ, zero, suc, Bool, false, ◌&&◌, nat_eq, List, [], ◌∷◌, ◌++◌, find, length, if◌then◌else◌, Option, Some, None}
use Rattle.std.specs.List.{filter_map, list_any}
use Rattle.std.specs.Option.{option_and_then, option_map, option_map_or}
use Rattle.private_model.specs.Names.{LinkId, SessionName}
use Rattle.private_model.specs.Story.{BecameDue, Due, Story, is_link_id, is_name}
use Rattle.tale_world.specs.Policy as policy
use Rattle.tale_world.specs.Policy.{Idle, Lends, Opening, Readied, Rest, Waiter, next_lend}
use Rattle.router_promises.specs.Keys.{LinkKey, is_free, is_of_key, is_opening, is_vacant, is_waiting, key_for, key_of}
use Rattle.router_promises.specs.Now.{entry_now, wire_now}
use Rattle.shared_router.specs.Known.{Known, present_by, setup_by, view_by}

abbrev pub as_key : LinkKey → policy.Key
as_key key = record { hostgroup = key.hostgroup; account = key.account; bare = key.bare }

-- those that wait, in the order in which they became due

abbrev pub waiter_of : Known → SessionName → Due → Waiter
waiter_of k n due = record {
  name = n;
  due = due;
  key = as_key (key_for (setup_by k) k.now n.client n.hostgroup);
  since = k.now.since (record { client = n.client; ordinal = due.ordinal });
}

abbrev pub waiters_by : Known → Story → List Waiter
waiters_by k [] = []
waiters_by k (BecameDue client hostgroup ordinal at command multiplex ∷ past) =
    let n = present_by k client hostgroup in
    waiters_by k past
    ++ (if is_waiting k.terms k.now client hostgroup ordinal then option_map_or (λ due. waiter_of k n due ∷ []) ((view_by k).dues n) [] else [])
waiters_by k (e ∷ past) = waiters_by k past

-- links that can be lent, and those that log in

abbrev pub idle_at : Known → LinkId → Option Idle
idle_at k link =
    if is_free k.terms k.log k.now link
    then option_map (λ key. record { link = link; key = as_key key })
    (key_of k.terms k.now link)
    else None

abbrev pub opening_at : Known → LinkId → Option Opening
opening_at k link =
    if is_opening k.terms k.log k.now link
    then option_map (λ key. record { server = (wire_now k.now link).server; key = as_key key }) (key_of k.terms k.now link)
    else None

abbrev pub rest_of : Known → (readied : LinkId → Option Readied) → Rest
rest_of k readied = record {
  now = k.now.clock;
  waiters = waiters_by k k.now.tale.story;
  readied = readied;
  prefers = k.fixed.prefers (entry_now k.now);
  idle = filter_map (idle_at k) k.now.tale.links;
  opening = filter_map (opening_at k) k.now.tale.links;
}

-- Who still waits keeps the link that is readied for it while that carries nobody, also one whose server is shunned meanwhile; and then
-- links are lent to the others.

abbrev pub is_waiter : Readied → Waiter → Bool
is_waiter readied one = is_name one.name readied.name && nat_eq one.due.ordinal readied.due.ordinal

abbrev pub as_readied : Waiter → Readied
as_readied one = record { name = one.name; due = one.due }

abbrev pub still_waits : Rest → Readied → Option Readied
still_waits rest readied = option_map as_readied (find (is_waiter readied) rest.waiters)

-- the link is of the key of what is due of it
abbrev pub is_near : Known → LinkId → Readied → Bool
is_near k link readied = is_of_key k.terms k.now (key_for (setup_by k) k.now readied.name.client readied.name.hostgroup) link

abbrev pub if_near : Known → LinkId → Readied → Option Readied
if_near k link readied = if is_near k link readied then Some readied else None

abbrev pub kept : Known → Rest → LinkId → Option Readied
kept k rest link = option_and_then
    (λ r. if is_vacant k.terms k.log k.now link then option_and_then (if_near k link) (still_waits rest r) else None) (k.readied link)

-- a link is readied for it
abbrev pub is_readied_for : List LinkId → (LinkId → Option Readied) → SessionName → Bool
is_readied_for links readied n = list_any (λ link. option_map_or (λ (r : Readied). is_name r.name n) (readied link) false) links

abbrev pub lent : Lends → (LinkId → Option Readied) → LinkId → Option Readied
lent lends readied link = if is_link_id lends.link link then Some lends.to else readied link

abbrev pub lending : (most : ℕ) → List LinkId → Rest → Rest
lending zero links rest = rest
lending (suc most) links rest =
    option_map_or (λ lends. lending most links (record rest { readied = lent lends rest.readied }))
    (next_lend rest (is_readied_for links rest.readied) rest.waiters) rest

abbrev pub settled : Known → Rest
settled k =
    let rest = rest_of k (λ link. None) in
    lending (length rest.waiters) k.now.tale.links (record rest { readied = kept k rest })

abbrev pub readied_now : Known → LinkId → Option Readied
readied_now k = (settled k).readied
