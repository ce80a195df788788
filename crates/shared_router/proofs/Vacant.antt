-- A link that is readied is logged in and carries nobody.
use Rattle.std.specs.Prelude.{◌≡◌, ℕ, zero, suc, Bool, true, false, length, if◌then◌else◌, List, [], ◌∷◌, Option, Some, None}
use Rattle.std.specs.List.{cons_option, filter_map}
use Rattle.std.specs.Option.{option_and_then, option_map, option_map_or}
use Rattle.std.proofs.Common.{refl, subst}
use Rattle.std.proofs.lemmas.Bool.{and_parts}
use Rattle.mx_base.specs.declared.names.LinkId.{LinkId}
use Rattle.private_model.proofs.Maps.{link_of}
use Rattle.private_model.specs.Names.{SessionName}
use Rattle.private_model.specs.Story.{is_link_id}
use Rattle.tale_world.specs.Policy as policy
use Rattle.tale_world.specs.Policy.{Idle, Lends, Readied, Rest, Waiter, best, better, is_open_to, next_lend}
use Rattle.router_promises.specs.Keys.{LinkKey, is_free, is_vacant, key_of}
use Rattle.router_promises.specs.Now.{is_online, wire_now}
use Rattle.shared_router.specs.Known.{Known}
use Rattle.shared_router.specs.Lends.{as_key, idle_at, if_near, is_readied_for, kept, lending, lent, readied_now, rest_of, still_waits}

no_some : {A B : Type 0} (a : A) → None ≡ Some a → B
no_some a is = absurd (cc)

some_of : {A : Type 0} (a b : A) → Some a ≡ Some b → a ≡ b
some_of a b is = cc

module _ (k : Known) where
  abbrev Vacant : LinkId → Type 0
  Vacant link = is_vacant k.terms k.log k.now link ≡ true

  abbrev AllVacant : List Idle → Type 0
  AllVacant [] = Unit {0}
  AllVacant (one ∷ idle) = Vacant one.link × AllVacant idle

  idle_vacant : (link : LinkId) (one : Idle) → idle_at k link ≡ Some one → Vacant one.link
  idle_vacant link one is = by_free (is_free k.terms k.log k.now link) refl is where
    makes : LinkKey → Idle
    makes key = record { link = link; key = as_key key }

    by_key : Vacant link → (o : Option LinkKey) → option_map makes o ≡ Some one → Vacant one.link
    by_key vacant None is = no_some one is
    by_key vacant (Some key) is = subst (λ (x : Idle). Vacant x.link) (some_of (makes key) one is) vacant

    by_free : (b : Bool) → is_free k.terms k.log k.now link ≡ b → (if b then option_map makes (key_of k.terms k.now link) else None) ≡ Some one → Vacant one.link
    by_free true free is = by_key (and_parts (is_vacant k.terms k.log k.now link) (is_online k.now (wire_now k.now link).server) free).0 (key_of k.terms k.now link) is
    by_free false free is = no_some one is

  all_vacant : (links : List LinkId) → AllVacant (filter_map (idle_at k) links)
  all_vacant [] = tt
  all_vacant (link ∷ links) = by_idle (idle_at k link) refl (all_vacant links) where
    by_idle : (o : Option Idle) → idle_at k link ≡ o → AllVacant (filter_map (idle_at k) links) → AllVacant (cons_option o (filter_map (idle_at k) links))
    by_idle None at later = later
    by_idle (Some one) at later = (idle_vacant link one at, later)

  best_vacant : (rest : Rest) (key : policy.Key) (idle : List Idle) (one : Idle) → AllVacant idle → best rest key idle ≡ Some one → Vacant one.link
  best_vacant rest key [] one all is = no_some one is
  best_vacant rest key (x ∷ idle) one all is = by_open (is_open_to rest key x) is (best_vacant rest key idle) where
    named : (a : Idle) → Some a ≡ Some one → Vacant a.link → Vacant one.link
    named a same vacant = subst (λ (i : Idle). Vacant i.link) (some_of a one same) vacant

    by_better : (o : Option Idle) → best rest key idle ≡ o → ((other : Idle) → AllVacant idle → best rest key idle ≡ Some other → Vacant other.link)
        → better rest x o ≡ Some one → Vacant one.link
    by_better None at later is = named x is all.0
    by_better (Some other) at later is = by_less (rest.prefers x.link other.link) is where
      by_less : (b : Bool) → (if b then Some x else Some other) ≡ Some one → Vacant one.link
      by_less true is = named x is all.0
      by_less false is = named other is (later other all.1 at)

    by_open : (b : Bool) → (if b then better rest x (best rest key idle) else best rest key idle) ≡ Some one
        → ((other : Idle) → AllVacant idle → best rest key idle ≡ Some other → Vacant other.link) → Vacant one.link
    by_open true is later = by_better (best rest key idle) refl later is
    by_open false is later = later one all.1 is

  lends_vacant : (rest : Rest) (is_served : SessionName → Bool) (ws : List Waiter) (lends : Lends) → AllVacant rest.idle → next_lend rest is_served ws ≡ Some lends → Vacant lends.link
  lends_vacant rest is_served [] lends idle is = no_some lends is
  lends_vacant rest is_served (w ∷ ws) lends idle is = by_served (is_served w.name) is (lends_vacant rest is_served ws lends idle) where
    by_best : (o : Option Idle) → best rest w.key rest.idle ≡ o
        → option_map_or (λ (one : Idle). Some (record { link = one.link; to = record { name = w.name; due = w.due } })) o (next_lend rest is_served ws) ≡ Some lends
        → (next_lend rest is_served ws ≡ Some lends → Vacant lends.link) → Vacant lends.link
    by_best None at is later = later is
    by_best (Some one) at is later = subst (λ (x : Lends). Vacant x.link) (some_of _ lends is) (best_vacant rest w.key rest.idle one idle at)

    by_served : (b : Bool) → (if b then next_lend rest is_served ws
        else option_map_or (λ (one : Idle). Some (record { link = one.link; to = record { name = w.name; due = w.due } })) (best rest w.key rest.idle) (next_lend rest is_served ws)) ≡ Some lends
        → (next_lend rest is_served ws ≡ Some lends → Vacant lends.link) → Vacant lends.link
    by_served true is later = later is
    by_served false is later = by_best (best rest w.key rest.idle) refl is later

  abbrev AreVacant : (LinkId → Option Readied) → Type 0
  AreVacant readied = (link : LinkId) (r : Readied) → readied link ≡ Some r → Vacant link

  kept_vacant : (rest : Rest) → AreVacant (kept k rest)
  kept_vacant rest link r is = by_readied (k.readied link) is where
    by_vacant : (b : Bool) (was : Readied) → is_vacant k.terms k.log k.now link ≡ b
        → (if b then option_and_then (if_near k link) (still_waits rest was) else None) ≡ Some r → Vacant link
    by_vacant true was vacant is = vacant
    by_vacant false was vacant is = no_some r is

    by_readied : (o : Option Readied) → option_and_then (λ was. if is_vacant k.terms k.log k.now link then option_and_then (if_near k link) (still_waits rest was) else None) o ≡ Some r → Vacant link
    by_readied None is = no_some r is
    by_readied (Some was) is = by_vacant (is_vacant k.terms k.log k.now link) was refl is

  lent_vacant : (lends : Lends) (readied : LinkId → Option Readied) → Vacant lends.link → AreVacant readied → AreVacant (lent lends readied)
  lent_vacant lends readied vacant are link r is = by_test (is_link_id lends.link link) refl is where
    by_test : (b : Bool) → is_link_id lends.link link ≡ b → (if b then Some lends.to else readied link) ≡ Some r → Vacant link
    by_test true same is = subst Vacant (link_of lends.link link same) vacant
    by_test false same is = are link r is

  lending_vacant : (most : ℕ) (links : List LinkId) (rest : Rest) → AllVacant rest.idle → AreVacant rest.readied → AreVacant (lending most links rest).readied
  lending_vacant zero links rest idle are = are
  lending_vacant (suc most) links rest idle are = by_next (next_lend rest (is_readied_for links rest.readied) rest.waiters) refl (lending_vacant most links) where
    by_next : (o : Option Lends) → next_lend rest (is_readied_for links rest.readied) rest.waiters ≡ o
        → ((other : Rest) → AllVacant other.idle → AreVacant other.readied → AreVacant (lending most links other).readied)
        → AreVacant (option_map_or (λ lends. lending most links (record rest { readied = lent lends rest.readied })) o rest).readied
    by_next None is later = are
    by_next (Some lends) is later =
        later (record rest { readied = lent lends rest.readied }) idle
        (lent_vacant lends rest.readied (lends_vacant rest (is_readied_for links rest.readied) rest.waiters lends idle is) are)

  pub readied_vacant : (link : LinkId) (r : Readied) → readied_now k link ≡ Some r → is_vacant k.terms k.log k.now link ≡ true
  readied_vacant link r is =
      let rest : Rest = rest_of k (λ l. None) in
      lending_vacant (length rest.waiters) k.now.tale.links (record rest { readied = kept k rest }) (all_vacant k.now.tale.links) (kept_vacant rest) link r is
