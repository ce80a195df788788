-- Links are lent until none that waits without a link finds a free one of its key.
use Rattle.std.specs.Prelude.{◌≡◌, ◌+◌, ◌≤◌, ℕ, zero, suc, Bool, true, false, not, ◌||◌, is_some, length, if◌then◌else◌, List, [], ◌∷◌, Option, Some, None}
use Rattle.std.specs.List.{cons_option, filter_map, list_any}
use Rattle.std.specs.Option.{option_map, option_map_or}
use Rattle.std.proofs.Common.{refl, sym, ap, ◌∙◌, subst, arith, inl, inr}
use Rattle.std.proofs.lemmas.Bool.{and_from, and_parts, or_left, or_right}
use Rattle.mx_base.specs.declared.names.LinkId.{LinkId}
use Rattle.private_model.proofs.Maps.{link_of, same_link, same_name}
use Rattle.private_model.specs.Names.{SessionName}
use Rattle.private_model.specs.Story.{is_link_id, is_name}
use Rattle.log_story.specs.Tale.{is_to_server}
use Rattle.tale_world.specs.Policy as policy
use Rattle.tale_world.specs.Policy.{Idle, Lends, Readied, Rest, Waiter, best, better, is_open_to, next_lend}
use Rattle.tale_world.specs.Served.{AreLent, IsLent}
use Rattle.tale_world.proofs.Policies.{none_lent}
use Rattle.router_promises.specs.Keys.{LinkKey, is_free, key_of}
use Rattle.shared_router.specs.Known.{Known}
use Rattle.shared_router.specs.Lends.{as_key, idle_at, is_readied_for, kept, lending, lent, readied_now, rest_of, settled, waiters_by}
use Rattle.shared_router.specs.Lent.{HasLink, HaveLinks}
use Rattle.shared_router.proofs.Counting.{settled_so}

no_some : {A B : Type 0} (a : A) → None ≡ Some a → B
no_some a is = absurd (cc)

isnt : {A : Type 0} → false ≡ true → A
isnt is = absurd (cc)

none_of : {A : Type 0} (o : Option A) → not (is_some o) ≡ true → o ≡ None
none_of None is = refl
none_of (Some a) is = absurd (cc)

abbrev is_for : SessionName → Option Readied → Bool
is_for n o = option_map_or (λ (r : Readied). is_name r.name n) o false

abbrev one_unless : Bool → ℕ
one_unless true = 0
one_unless false = 1

module _ (links : List LinkId) where
  -- What is lent is a free link of the list, that is readied for nobody.

  abbrev AllIn : List Idle → Type 0
  AllIn [] = Unit {0}
  AllIn (one ∷ idle) = (list_any (is_link_id one.link) links ≡ true) × AllIn idle

  record IsOpen (readied : LinkId → Option Readied) (link : LinkId) : Type 0 where
    pub nobody : readied link ≡ None
    pub there : list_any (is_link_id link) links ≡ true

  best_open : (rest : Rest) (key : policy.Key) (idle : List Idle) (one : Idle) → AllIn idle → best rest key idle ≡ Some one → IsOpen rest.readied one.link
  best_open rest key [] one all is = no_some one is
  best_open rest key (x ∷ idle) one all is = by_open (is_open_to rest key x) refl is (best_open rest key idle) where
    its : is_open_to rest key x ≡ true → IsOpen rest.readied x.link
    its opened = record { nobody = none_of (rest.readied x.link) (and_parts (policy.is_key x.key key) _ opened).1; there = all.0 }

    named : (a : Idle) → Some a ≡ Some one → IsOpen rest.readied a.link → IsOpen rest.readied one.link
    named a same is_open = let one_is : a ≡ one = cc in subst (λ (i : Idle). IsOpen rest.readied i.link) one_is is_open

    by_better : (o : Option Idle) → best rest key idle ≡ o → ((other : Idle) → AllIn idle → best rest key idle ≡ Some other → IsOpen rest.readied other.link)
        → is_open_to rest key x ≡ true → better rest x o ≡ Some one → IsOpen rest.readied one.link
    by_better None at later opened is = named x is (its opened)
    by_better (Some other) at later opened is = by_less (rest.prefers x.link other.link) is where
      by_less : (b : Bool) → (if b then Some x else Some other) ≡ Some one → IsOpen rest.readied one.link
      by_less true is = named x is (its opened)
      by_less false is = named other is (later other all.1 at)

    by_open : (b : Bool) → is_open_to rest key x ≡ b → (if b then better rest x (best rest key idle) else best rest key idle) ≡ Some one
        → ((other : Idle) → AllIn idle → best rest key idle ≡ Some other → IsOpen rest.readied other.link) → IsOpen rest.readied one.link
    by_open true opened is later = by_better (best rest key idle) refl later opened is
    by_open false opened is later = later one all.1 is

  -- Who had one keeps it, and one more has one.

  module _ (readied : LinkId → Option Readied) (lends : Lends) (free : IsOpen readied lends.link) where
    still_for : (n : SessionName) (xs : List LinkId) → list_any (λ link. is_for n (readied link)) xs ≡ true → list_any (λ link. is_for n (lent lends readied link)) xs ≡ true
    still_for n [] has = isnt has
    still_for n (x ∷ xs) has = by_test (is_link_id lends.link x) refl (is_for n (readied x)) refl has (still_for n xs) where
      by_test : (b : Bool) → is_link_id lends.link x ≡ b → (c : Bool) → is_for n (readied x) ≡ c → (c || list_any (λ link. is_for n (readied link)) xs) ≡ true
          → (list_any (λ link. is_for n (readied link)) xs ≡ true → list_any (λ link. is_for n (lent lends readied link)) xs ≡ true)
          → (is_for n (if b then Some lends.to else readied x) || list_any (λ link. is_for n (lent lends readied link)) xs) ≡ true
      by_test true same true for_it has later =
          let none : readied x ≡ None = ap readied (sym (link_of lends.link x same)) ∙ free.nobody in
          isnt (sym (ap (is_for n) none) ∙ for_it)
      by_test true same false for_it has later = or_right (is_for n (Some lends.to)) _ (later has)
      by_test false apart true for_it has later = or_left (is_for n (readied x)) _ for_it
      by_test false apart false for_it has later = or_right (is_for n (readied x)) _ (later has)

    now_for : (xs : List LinkId) → list_any (is_link_id lends.link) xs ≡ true → list_any (λ link. is_for lends.to.name (lent lends readied link)) xs ≡ true
    now_for [] there = isnt there
    now_for (x ∷ xs) there = by_test (is_link_id lends.link x) there (now_for xs) where
      by_test : (b : Bool) → (b || list_any (is_link_id lends.link) xs) ≡ true
          → (list_any (is_link_id lends.link) xs ≡ true → list_any (λ link. is_for lends.to.name (lent lends readied link)) xs ≡ true)
          → (is_for lends.to.name (if b then Some lends.to else readied x) || list_any (λ link. is_for lends.to.name (lent lends readied link)) xs) ≡ true
      by_test true there later = or_left (is_name lends.to.name lends.to.name) _ (same_name lends.to.name)
      by_test false there later = or_right (is_for lends.to.name (readied x)) _ (later there)

  -- how many have none
  abbrev unserved : (LinkId → Option Readied) → List Waiter → ℕ
  unserved readied [] = 0
  unserved readied (w ∷ ws) = one_unless (is_readied_for links readied w.name) + unserved readied ws

  at_most_one : (b : Bool) → one_unless b ≤ 1
  at_most_one true = omega arith
  at_most_one false = omega arith

  head_less : (a b : Bool) → (a ≡ true → b ≡ true) → one_unless b ≤ one_unless a
  head_less true b more = let zero_is : one_unless b ≡ 0 = ap one_unless (more refl) in omega (arith, zero_is)
  head_less false b more = at_most_one b

  none_more : (readied : LinkId → Option Readied) (lends : Lends) (ws : List Waiter) → IsOpen readied lends.link → unserved (lent lends readied) ws ≤ unserved readied ws
  none_more readied lends [] free = omega arith
  none_more readied lends (w ∷ ws) free =
      let head = head_less (is_readied_for links readied w.name) (is_readied_for links (lent lends readied) w.name) (still_for readied lends free w.name links) in
      let rest = none_more readied lends ws free in omega (arith, head, rest)

  fewer : (rest : Rest) (ws : List Waiter) (lends : Lends) → AllIn rest.idle → next_lend rest (is_readied_for links rest.readied) ws ≡ Some lends
      → IsOpen rest.readied lends.link × (suc (unserved (lent lends rest.readied) ws) ≤ unserved rest.readied ws)
  fewer rest [] lends all is = no_some lends is
  fewer rest (w ∷ ws) lends all is = by_served (is_readied_for links rest.readied w.name) refl is (fewer rest ws lends all) where
    Found : Type 0
    Found = IsOpen rest.readied lends.link × (suc (unserved (lent lends rest.readied) ws) ≤ unserved rest.readied ws)

    onward : Found → IsOpen rest.readied lends.link × (suc (unserved (lent lends rest.readied) (w ∷ ws)) ≤ unserved rest.readied (w ∷ ws))
    onward found =
        let head = head_less (is_readied_for links rest.readied w.name) (is_readied_for links (lent lends rest.readied) w.name) (still_for rest.readied lends found.0 w.name links) in
        let tail : suc (unserved (lent lends rest.readied) ws) ≤ unserved rest.readied ws = found.1 in
        (found.0, omega (arith, head, tail))

    here : is_readied_for links rest.readied w.name ≡ false → lends.to.name ≡ w.name → IsOpen rest.readied lends.link
        → IsOpen rest.readied lends.link × (suc (unserved (lent lends rest.readied) (w ∷ ws)) ≤ unserved rest.readied (w ∷ ws))
    here unserved_yet same free =
        let served : is_readied_for links (lent lends rest.readied) w.name ≡ true =
        subst (λ n. is_readied_for links (lent lends rest.readied) n ≡ true) same (now_for rest.readied lends free links free.there) in
        let new : one_unless (is_readied_for links (lent lends rest.readied) w.name) ≡ 0 = ap one_unless served in
        let old : one_unless (is_readied_for links rest.readied w.name) ≡ 1 = ap one_unless unserved_yet in
        let tail = none_more rest.readied lends ws free in
        (free, omega (arith, new, old, tail))

    by_best : is_readied_for links rest.readied w.name ≡ false → (o : Option Idle) → best rest w.key rest.idle ≡ o
        → option_map_or (λ (one : Idle). Some (record { link = one.link; to = record { name = w.name; due = w.due } })) o (next_lend rest (is_readied_for links rest.readied) ws) ≡ Some lends
        → (next_lend rest (is_readied_for links rest.readied) ws ≡ Some lends → Found)
        → IsOpen rest.readied lends.link × (suc (unserved (lent lends rest.readied) (w ∷ ws)) ≤ unserved rest.readied (w ∷ ws))
    by_best unserved_yet None at is later = onward (later is)
    by_best unserved_yet (Some one) at is later =
        let mine : Lends = record { link = one.link; to = record { name = w.name; due = w.due } } in
        let same : mine ≡ lends = cc in
        here unserved_yet (ap (λ (l : Lends). l.to.name) (sym same))
        (subst (λ (l : Lends). IsOpen rest.readied l.link) same (best_open rest w.key rest.idle one all at))

    by_served : (b : Bool) → is_readied_for links rest.readied w.name ≡ b → (if b then next_lend rest (is_readied_for links rest.readied) ws
        else option_map_or (λ (one : Idle). Some (record { link = one.link; to = record { name = w.name; due = w.due } })) (best rest w.key rest.idle) (next_lend rest (is_readied_for links rest.readied) ws)) ≡ Some lends
        → (next_lend rest (is_readied_for links rest.readied) ws ≡ Some lends → Found)
        → IsOpen rest.readied lends.link × (suc (unserved (lent lends rest.readied) (w ∷ ws)) ≤ unserved rest.readied (w ∷ ws))
    by_served true served is later = onward (later is)
    by_served false unserved_yet is later = by_best unserved_yet (best rest w.key rest.idle) refl is later

  all_served : (rest : Rest) (ws : List Waiter) → unserved rest.readied ws ≤ 0 → AreLent rest (is_readied_for links rest.readied) ws
  all_served rest [] none = tt
  all_served rest (w ∷ ws) none = by_test (is_readied_for links rest.readied w.name) refl (all_served rest ws) none where
    by_test : (b : Bool) → is_readied_for links rest.readied w.name ≡ b → (unserved rest.readied ws ≤ 0 → AreLent rest (is_readied_for links rest.readied) ws)
        → one_unless b + unserved rest.readied ws ≤ 0 → AreLent rest (is_readied_for links rest.readied) (w ∷ ws)
    by_test true served later none = (inl served, later (omega (arith, none)))
    by_test false alone later none = absurd (omega (arith, none))

  abbrev Ends : Rest → Type 0
  Ends rest = AreLent rest (is_readied_for links rest.readied) rest.waiters

  lending_ends : (most : ℕ) (rest : Rest) → AllIn rest.idle → unserved rest.readied rest.waiters ≤ most → Ends (lending most links rest)
  lending_ends zero rest all few = all_served rest rest.waiters few
  lending_ends (suc most) rest all few = by_next (next_lend rest (is_readied_for links rest.readied) rest.waiters) refl (lending_ends most) where
    by_next : (o : Option Lends) → next_lend rest (is_readied_for links rest.readied) rest.waiters ≡ o
        → ((other : Rest) → AllIn other.idle → unserved other.readied other.waiters ≤ most → Ends (lending most links other))
        → Ends (option_map_or (λ lends. lending most links (record rest { readied = lent lends rest.readied })) o rest)
    by_next None is later = none_lent rest (is_readied_for links rest.readied) rest.waiters is
    by_next (Some lends) is later =
        let less : suc (unserved (lent lends rest.readied) rest.waiters) ≤ unserved rest.readied rest.waiters = (fewer rest rest.waiters lends all is).1 in
        later (record rest { readied = lent lends rest.readied }) all (omega (arith, less, few))

  no_more : (readied : LinkId → Option Readied) (ws : List Waiter) → unserved readied ws ≤ length ws
  no_more readied [] = omega arith
  no_more readied (w ∷ ws) =
      let head = at_most_one (is_readied_for links readied w.name) in
      let rest = no_more readied ws in omega (arith, head, rest)

-- So at each moment.

module _ (k : Known) where
  all_in : (links xs : List LinkId) → ((link : LinkId) → list_any (is_link_id link) xs ≡ true → list_any (is_link_id link) links ≡ true) → AllIn links (filter_map (idle_at k) xs)
  all_in links [] sub = tt
  all_in links (x ∷ xs) sub = by_free (is_free k.terms k.log k.now x) (key_of k.terms k.now x)
      (all_in links xs (λ link there. sub link (or_right (is_link_id link x) _ there)))
    where
      by_free : (b : Bool) (o : Option LinkKey) → AllIn links (filter_map (idle_at k) xs)
          → AllIn links (cons_option (if b then option_map (λ key. record { link = x; key = as_key key }) o else None) (filter_map (idle_at k) xs))
      by_free true None later = later
      by_free true (Some key) later = (sub x (or_left (is_link_id x x) _ (same_link x)), later)
      by_free false o later = later

  pub settled_ends : AreLent (settled k) (is_readied_for k.now.tale.links (readied_now k)) (settled k).waiters
  settled_ends =
      let rest : Rest = rest_of k (λ l. None) in
      let first : Rest = record rest { readied = kept k rest } in
      lending_ends k.now.tale.links (length rest.waiters) first (all_in k.now.tale.links k.now.tale.links (λ link there. there)) (no_more k.now.tale.links first.readied rest.waiters)

  -- a link that is free is among those that can be lent
  any_idle : (test : Idle → Bool) (link : LinkId) (one : Idle) (xs : List LinkId) → idle_at k link ≡ Some one → test one ≡ true → list_any (is_link_id link) xs ≡ true
      → list_any test (filter_map (idle_at k) xs) ≡ true
  any_idle test link one [] idle passes there = isnt there
  any_idle test link one (x ∷ xs) idle passes there = by_test (is_link_id link x) refl there (any_idle test link one xs idle passes) where
    behind : (o : Option Idle) → list_any test (filter_map (idle_at k) xs) ≡ true → list_any test (cons_option o (filter_map (idle_at k) xs)) ≡ true
    behind None later = later
    behind (Some other) later = or_right (test other) _ later

    by_test : (b : Bool) → is_link_id link x ≡ b → (b || list_any (is_link_id link) xs) ≡ true → (list_any (is_link_id link) xs ≡ true → list_any test (filter_map (idle_at k) xs) ≡ true)
        → list_any test (cons_option (idle_at k x) (filter_map (idle_at k) xs)) ≡ true
    by_test true same there later =
        let here : idle_at k x ≡ Some one = ap (idle_at k) (sym (link_of link x same)) ∙ idle in
        ap (λ o. list_any test (cons_option o (filter_map (idle_at k) xs))) here ∙ or_left (test one) _ passes
    by_test false apart there later = behind (idle_at k x) (later there)

  module _ (link : LinkId) (key : LinkKey) (there : is_to_server k.now.tale link ≡ true) (free : is_free k.terms k.log k.now link ≡ true)
      (keyed : key_of k.terms k.now link ≡ Some key) (alone : readied_now k link ≡ None) where
    abbrev idle : Idle
    idle = record { link = link; key = as_key key }

    idle_is : idle_at k link ≡ Some idle
    idle_is =
        ap (λ b. if b then option_map (λ (a : LinkKey). record { link = link; key = as_key a }) (key_of k.terms k.now link) else None) free
        ∙ ap (λ o. option_map (λ (a : LinkKey). record { link = link; key = as_key a }) o) keyed

    open_to : (w : policy.Key) → policy.is_key (as_key key) w ≡ true → is_open_to (settled k) w idle ≡ true
    open_to w is = and_from (policy.is_key (as_key key) w) _ is (ap (λ o. not (is_some o)) alone)

    has_link : (w : Waiter) → IsLent (settled k) (is_readied_for k.now.tale.links (readied_now k)) w → policy.is_key (as_key key) w.key ≡ true → HasLink k w
    has_link w lent_so is = elim lent_so [
      | inl served ↦ served
      | inr none ↦ isnt (sym none ∙ ap (λ xs. list_any (is_open_to (settled k) w.key) xs) (settled_so k).idle
          ∙ any_idle (is_open_to (settled k) w.key) link idle k.now.tale.links idle_is (open_to w.key is) there)
    ]

    have_links : (ws : List Waiter) → AreLent (settled k) (is_readied_for k.now.tale.links (readied_now k)) ws → HaveLinks k key ws
    have_links [] all = tt
    have_links (w ∷ ws) all = (has_link w all.0, have_links ws all.1)

    pub all_have : HaveLinks k key (waiters_by k k.now.tale.story)
    all_have = have_links (waiters_by k k.now.tale.story)
        (subst (AreLent (settled k) (is_readied_for k.now.tale.links (readied_now k))) (settled_so k).waiters settled_ends)
