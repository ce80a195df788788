-- Links are readied for statements that wait.
use Rattle.std.specs.Prelude.{◌≡◌, ℕ, zero, suc, Bool, true, false, cond, find, length, nat_eq, if◌then◌else◌, List, [], ◌∷◌, ◌++◌, Option, Some, None}
use Rattle.std.specs.List.{cons_option, filter_map}
use Rattle.std.specs.Option.{option_and_then, option_map, option_map_or}
use Rattle.std.proofs.Common.{refl, sym, ap, ◌∙◌, subst}
use Rattle.std.proofs.lemmas.Bool.{and_parts}
use Rattle.mx_base.specs.declared.names.LinkId.{LinkId}
use Rattle.private_model.proofs.Maps.{link_of, number_of}
use Rattle.private_model.specs.Names.{SessionName}
use Rattle.private_model.specs.Story.{BecameDue, Due, Story, is_link_id}
use Rattle.tale_world.specs.Policy as policy
use Rattle.tale_world.specs.Policy.{Idle, Lends, Readied, Rest, Waiter, best, better, is_open_to, next_lend}
use Rattle.router_promises.specs.Dues.{is_unsent}
use Rattle.router_promises.specs.Keys as keys
use Rattle.router_promises.specs.Keys.{LinkKey, is_free, is_vacant, is_waiting, key_for, key_of}
use Rattle.shared_router.specs.Known.{Known, present_by, setup_by, view_by}
use Rattle.shared_router.specs.Lends.{as_key, as_readied, idle_at, if_near, is_near, is_readied_for, is_waiter, kept, lending, lent, readied_now, rest_of, still_waits, waiter_of, waiters_by}
use Rattle.shared_router.specs.Waits.{Waits}
use Rattle.shared_router.proofs.Counting.{key_is}

no_some : {A B : Type 0} (a : A) → None ≡ Some a → B
no_some a is = absurd (cc)

some_of : {A : Type 0} (a b : A) → Some a ≡ Some b → a ≡ b
some_of a b is = cc

isnt : {A : Type 0} → false ≡ true → A
isnt is = absurd (cc)

module _ (k : Known) where
  abbrev pub AllReady : (Readied → Type 0) → List Waiter → Type 0
  AllReady P [] = Unit {0}
  AllReady P (one ∷ more) = P (as_readied one) × AllReady P more

  pub all_on : (P : Readied → Type 0) (a b : List Waiter) → AllReady P a → AllReady P b → AllReady P (a ++ b)
  all_on P [] b first second = second
  all_on P (one ∷ a) b first second = (first.0, all_on P a b first.1 second)

  abbrev AllWait : List Waiter → Type 0
  AllWait ws = AllReady (Waits k) ws

  due_waits : (n : SessionName) (ordinal : ℕ) (o : Option Due) → (view_by k).dues n ≡ o → present_by k n.client n.hostgroup ≡ n
      → is_waiting k.terms k.now n.client n.hostgroup ordinal ≡ true → AllWait (option_map_or (λ due. waiter_of k n due ∷ []) o [])
  due_waits n ordinal None at here waits = tt
  due_waits n ordinal (Some due) at here waits = (record { due = at; present = here; waits = same }, tt) where
    is_of : (o : Option Due) → (view_by k).dues (present_by k n.client n.hostgroup) ≡ o → option_map_or (λ (d : Due). nat_eq d.ordinal ordinal) o false ≡ true → due.ordinal ≡ ordinal
    is_of None there is = isnt is
    is_of (Some d) there is =
        let one : due ≡ d = some_of due d (sym at ∙ ap (λ m. (view_by k).dues m) (sym here) ∙ there) in
        ap (λ (x : Due). x.ordinal) one ∙ number_of d.ordinal ordinal is

    same : is_waiting k.terms k.now n.client n.hostgroup due.ordinal ≡ true
    same = ap (λ i. is_waiting k.terms k.now n.client n.hostgroup i)
        (is_of ((view_by k).dues (present_by k n.client n.hostgroup)) refl
        (and_parts (is_unsent k.terms k.now.tale (present_by k n.client n.hostgroup))
        (option_map_or (λ (d : Due). nat_eq d.ordinal ordinal) ((view_by k).dues (present_by k n.client n.hostgroup)) false) waits).1) ∙ waits

  all_wait : (story : Story) → AllWait (waiters_by k story)
  all_wait [] = tt
  all_wait (BecameDue client hostgroup ordinal at command multiplex ∷ past) =
      all_on (Waits k) (waiters_by k past) _ (all_wait past) (by_test (is_waiting k.terms k.now client hostgroup ordinal) refl)
    where
      n : SessionName
      n = present_by k client hostgroup

      by_test : (b : Bool) → is_waiting k.terms k.now client hostgroup ordinal ≡ b
          → AllWait (if b then option_map_or (λ due. waiter_of k n due ∷ []) ((view_by k).dues n) [] else [])
      by_test true waits = due_waits n ordinal ((view_by k).dues n) refl refl waits
      by_test false waits = tt
  all_wait (e ∷ past) = all_wait past

  -- What is so of all that wait is so of each for which a link is readied.

  module _ (P : Readied → Type 0) where
    abbrev AreReady : (LinkId → Option Readied) → Type 0
    AreReady readied = (link : LinkId) (r : Readied) → readied link ≡ Some r → P r

    found_so : (test : Waiter → Bool) (ws : List Waiter) (r : Readied) → AllReady P ws → option_map as_readied (find test ws) ≡ Some r → P r
    found_so test [] r all is = no_some r is
    found_so test (one ∷ ws) r all is = by_test (test one) is (found_so test ws r all.1) where
      by_test : (b : Bool) → option_map as_readied (cond b (Some one) (find test ws)) ≡ Some r → (option_map as_readied (find test ws) ≡ Some r → P r) → P r
      by_test true is later = subst (P) (some_of (as_readied one) r is) all.0
      by_test false is later = later is

    kept_so : (rest : Rest) → AllReady P rest.waiters → AreReady (kept k rest)
    kept_so rest all link r is = by_readied (k.readied link) is where
      by_near : (o : Option Readied) → ((one : Readied) → o ≡ Some one → P one) → option_and_then (if_near k link) o ≡ Some r → P r
      by_near None waits is = no_some r is
      by_near (Some one) waits is = by_test (is_near k link one) is where
        by_test : (b : Bool) → (if b then Some one else None) ≡ Some r → P r
        by_test true is = waits r is
        by_test false is = no_some r is

      by_vacant : (b : Bool) (was : Readied) → (if b then option_and_then (if_near k link) (still_waits rest was) else None) ≡ Some r → P r
      by_vacant true was is = by_near (still_waits rest was) (λ one found. found_so (is_waiter was) rest.waiters one all found) is
      by_vacant false was is = no_some r is

      by_readied : (o : Option Readied) → option_and_then (λ was. if is_vacant k.terms k.log k.now link then option_and_then (if_near k link) (still_waits rest was) else None) o ≡ Some r → P r
      by_readied None is = no_some r is
      by_readied (Some was) is = by_vacant (is_vacant k.terms k.log k.now link) was is

    lends_so : (rest : Rest) (is_served : SessionName → Bool) (ws : List Waiter) (lends : Lends) → AllReady P ws → next_lend rest is_served ws ≡ Some lends → P lends.to
    lends_so rest is_served [] lends all is = no_some lends is
    lends_so rest is_served (w ∷ ws) lends all is = by_served (is_served w.name) is (lends_so rest is_served ws lends all.1) where
      by_best : (o : Option Idle) → option_map_or (λ (one : Idle). Some (record { link = one.link; to = record { name = w.name; due = w.due } })) o (next_lend rest is_served ws) ≡ Some lends
          → (next_lend rest is_served ws ≡ Some lends → P lends.to) → P lends.to
      by_best None is later = later is
      by_best (Some one) is later = subst (λ (x : Lends). P x.to) (some_of _ lends is) all.0

      by_served : (b : Bool) → (if b then next_lend rest is_served ws
          else option_map_or (λ (one : Idle). Some (record { link = one.link; to = record { name = w.name; due = w.due } })) (best rest w.key rest.idle) (next_lend rest is_served ws)) ≡ Some lends
          → (next_lend rest is_served ws ≡ Some lends → P lends.to) → P lends.to
      by_served true is later = later is
      by_served false is later = by_best (best rest w.key rest.idle) is later

    lent_so : (lends : Lends) (readied : LinkId → Option Readied) → P lends.to → AreReady readied → AreReady (lent lends readied)
    lent_so lends readied waits are link r is = by_test (is_link_id lends.link link) is where
      by_test : (b : Bool) → (if b then Some lends.to else readied link) ≡ Some r → P r
      by_test true is = subst (P) (some_of lends.to r is) waits
      by_test false is = are link r is

    lending_so : (most : ℕ) (links : List LinkId) (rest : Rest) → AllReady P rest.waiters → AreReady rest.readied → AreReady (lending most links rest).readied
    lending_so zero links rest all are = are
    lending_so (suc most) links rest all are = by_next (next_lend rest (is_readied_for links rest.readied) rest.waiters) refl (lending_so most links) where
      by_next : (o : Option Lends) → next_lend rest (is_readied_for links rest.readied) rest.waiters ≡ o
          → ((other : Rest) → AllReady P other.waiters → AreReady other.readied → AreReady (lending most links other).readied)
          → AreReady (option_map_or (λ lends. lending most links (record rest { readied = lent lends rest.readied })) o rest).readied
      by_next None is later = are
      by_next (Some lends) is later =
          later (record rest { readied = lent lends rest.readied }) all
          (lent_so lends rest.readied (lends_so rest (is_readied_for links rest.readied) rest.waiters lends all is) are)

    pub readied_all : AllReady P (waiters_by k k.now.tale.story) → (link : LinkId) (r : Readied) → readied_now k link ≡ Some r → P r
    readied_all all link r is =
        let rest : Rest = rest_of k (λ l. None) in
        lending_so (length rest.waiters) k.now.tale.links (record rest { readied = kept k rest }) all (kept_so rest all) link r is

  pub readied_waits : (link : LinkId) (r : Readied) → readied_now k link ≡ Some r → Waits k r
  readied_waits link r is = readied_all (Waits k) (all_wait k.now.tale.story) link r is

  -- They are of the key of what is due of it.

  record IsIdle (one : Idle) : Type 0 where
    pub key : LinkKey
    pub keyed : key_of k.terms k.now one.link ≡ Some key
    pub same : one.key ≡ as_key key

  abbrev AllIdle : List Idle → Type 0
  AllIdle [] = Unit {0}
  AllIdle (one ∷ more) = IsIdle one × AllIdle more

  idle_so : (link : LinkId) (one : Idle) → idle_at k link ≡ Some one → IsIdle one
  idle_so link one is = by_free (is_free k.terms k.log k.now link) is where
    makes : LinkKey → Idle
    makes key = record { link = link; key = as_key key }

    by_key : (o : Option LinkKey) → key_of k.terms k.now link ≡ o → option_map makes o ≡ Some one → IsIdle one
    by_key None at is = no_some one is
    by_key (Some key) at is =
        let same : makes key ≡ one = some_of (makes key) one is in
        record { key = key; keyed = ap (λ (x : Idle). key_of k.terms k.now x.link) (sym same) ∙ at; same = ap (λ (x : Idle). x.key) (sym same) }

    by_free : (b : Bool) → (if b then option_map makes (key_of k.terms k.now link) else None) ≡ Some one → IsIdle one
    by_free true is = by_key (key_of k.terms k.now link) refl is
    by_free false is = no_some one is

  all_idle : (links : List LinkId) → AllIdle (filter_map (idle_at k) links)
  all_idle [] = tt
  all_idle (link ∷ links) = by_idle (idle_at k link) refl (all_idle links) where
    by_idle : (o : Option Idle) → idle_at k link ≡ o → AllIdle (filter_map (idle_at k) links) → AllIdle (cons_option o (filter_map (idle_at k) links))
    by_idle None at later = later
    by_idle (Some one) at later = (idle_so link one at, later)

  record IsBest (key : policy.Key) (one : Idle) : Type 0 where
    pub idle : IsIdle one
    pub fits : policy.is_key one.key key ≡ true

  best_so : (rest : Rest) (key : policy.Key) (idle : List Idle) (one : Idle) → AllIdle idle → best rest key idle ≡ Some one → IsBest key one
  best_so rest key [] one all is = no_some one is
  best_so rest key (x ∷ idle) one all is = by_open (is_open_to rest key x) refl is (best_so rest key idle) where
    by_better : (o : Option Idle) → best rest key idle ≡ o → ((other : Idle) → AllIdle idle → best rest key idle ≡ Some other → IsBest key other)
        → is_open_to rest key x ≡ true → better rest x o ≡ Some one → IsBest key one
    by_better None at later opened is = subst (IsBest key) (some_of x one is) (record { idle = all.0; fits = (and_parts (policy.is_key x.key key) _ opened).0 })
    by_better (Some other) at later opened is = by_less (rest.prefers x.link other.link) is where
      by_less : (b : Bool) → (if b then Some x else Some other) ≡ Some one → IsBest key one
      by_less true is = subst (IsBest key) (some_of x one is) (record { idle = all.0; fits = (and_parts (policy.is_key x.key key) _ opened).0 })
      by_less false is = subst (IsBest key) (some_of other one is) (later other all.1 at)

    by_open : (b : Bool) → is_open_to rest key x ≡ b → (if b then better rest x (best rest key idle) else best rest key idle) ≡ Some one
        → ((other : Idle) → AllIdle idle → best rest key idle ≡ Some other → IsBest key other) → IsBest key one
    by_open true opened is later = by_better (best rest key idle) refl later opened is
    by_open false opened is later = later one all.1 is

  -- a waiter's key is of what is due in its session
  abbrev IsKeyed : Waiter → Type 0
  IsKeyed w = w.key ≡ as_key (key_for (setup_by k) k.now w.name.client w.name.hostgroup)

  abbrev AllKeyed : List Waiter → Type 0
  AllKeyed [] = Unit {0}
  AllKeyed (w ∷ ws) = IsKeyed w × AllKeyed ws

  keyed_on : (a b : List Waiter) → AllKeyed a → AllKeyed b → AllKeyed (a ++ b)
  keyed_on [] b first second = second
  keyed_on (w ∷ a) b first second = (first.0, keyed_on a b first.1 second)

  all_keyed : (story : Story) → AllKeyed (waiters_by k story)
  all_keyed [] = tt
  all_keyed (BecameDue client hostgroup ordinal at command multiplex ∷ past) =
      keyed_on (waiters_by k past) _ (all_keyed past) (by_test (is_waiting k.terms k.now client hostgroup ordinal))
    where
      n : SessionName
      n = present_by k client hostgroup

      by_due : (o : Option Due) → AllKeyed (option_map_or (λ due. waiter_of k n due ∷ []) o [])
      by_due None = tt
      by_due (Some due) = (refl, tt)

      by_test : (b : Bool) → AllKeyed (if b then option_map_or (λ due. waiter_of k n due ∷ []) ((view_by k).dues n) [] else [])
      by_test true = by_due ((view_by k).dues n)
      by_test false = tt
  all_keyed (e ∷ past) = all_keyed past

  abbrev IsNear : LinkId → Readied → Type 0
  IsNear link r = is_near k link r ≡ true

  best_near : (w : Waiter) (one : Idle) → IsKeyed w → IsBest w.key one → IsNear one.link (as_readied w)
  best_near w one keyed is =
      let wanted : LinkKey = key_for (setup_by k) k.now w.name.client w.name.hostgroup in
      ap (λ (o : Option LinkKey). option_map_or (λ (key : LinkKey). keys.is_key key wanted) o false) is.idle.keyed
      ∙ sym (key_is is.idle.key (as_key wanted))
      ∙ ap (λ (x : policy.Key). policy.is_key x (as_key wanted)) (sym is.idle.same)
      ∙ ap (λ (x : policy.Key). policy.is_key one.key x) (sym keyed) ∙ is.fits

  lends_near : (rest : Rest) (is_served : SessionName → Bool) (ws : List Waiter) (lends : Lends) → AllKeyed ws → AllIdle rest.idle → next_lend rest is_served ws ≡ Some lends
      → IsNear lends.link lends.to
  lends_near rest is_served [] lends all idle is = no_some lends is
  lends_near rest is_served (w ∷ ws) lends all idle is = by_served (is_served w.name) is (lends_near rest is_served ws lends all.1 idle) where
    by_best : (o : Option Idle) → best rest w.key rest.idle ≡ o
        → option_map_or (λ (one : Idle). Some (record { link = one.link; to = record { name = w.name; due = w.due } })) o (next_lend rest is_served ws) ≡ Some lends
        → (next_lend rest is_served ws ≡ Some lends → IsNear lends.link lends.to) → IsNear lends.link lends.to
    by_best None at is later = later is
    by_best (Some one) at is later =
        subst (λ (x : Lends). IsNear x.link x.to) (some_of _ lends is) (best_near w one all.0 (best_so rest w.key rest.idle one idle at))

    by_served : (b : Bool) → (if b then next_lend rest is_served ws
        else option_map_or (λ (one : Idle). Some (record { link = one.link; to = record { name = w.name; due = w.due } })) (best rest w.key rest.idle) (next_lend rest is_served ws)) ≡ Some lends
        → (next_lend rest is_served ws ≡ Some lends → IsNear lends.link lends.to) → IsNear lends.link lends.to
    by_served true is later = later is
    by_served false is later = by_best (best rest w.key rest.idle) refl is later

  abbrev AreNear : (LinkId → Option Readied) → Type 0
  AreNear readied = (link : LinkId) (r : Readied) → readied link ≡ Some r → IsNear link r

  kept_near : (rest : Rest) → AreNear (kept k rest)
  kept_near rest link r is = by_readied (k.readied link) is where
    by_test : (one : Readied) (b : Bool) → is_near k link one ≡ b → (if b then Some one else None) ≡ Some r → IsNear link r
    by_test one true near is = subst (IsNear link) (some_of one r is) near
    by_test one false near is = no_some r is

    by_near : (o : Option Readied) → option_and_then (if_near k link) o ≡ Some r → IsNear link r
    by_near None is = no_some r is
    by_near (Some one) is = by_test one (is_near k link one) refl is

    by_vacant : (b : Bool) (was : Readied) → (if b then option_and_then (if_near k link) (still_waits rest was) else None) ≡ Some r → IsNear link r
    by_vacant true was is = by_near (still_waits rest was) is
    by_vacant false was is = no_some r is

    by_readied : (o : Option Readied) → option_and_then (λ was. if is_vacant k.terms k.log k.now link then option_and_then (if_near k link) (still_waits rest was) else None) o ≡ Some r → IsNear link r
    by_readied None is = no_some r is
    by_readied (Some was) is = by_vacant (is_vacant k.terms k.log k.now link) was is

  lent_near : (lends : Lends) (readied : LinkId → Option Readied) → IsNear lends.link lends.to → AreNear readied → AreNear (lent lends readied)
  lent_near lends readied near are link r is = by_test (is_link_id lends.link link) refl is where
    by_test : (b : Bool) → is_link_id lends.link link ≡ b → (if b then Some lends.to else readied link) ≡ Some r → IsNear link r
    by_test true same is = subst (IsNear link) (some_of lends.to r is) (subst (λ l. IsNear l lends.to) (link_of lends.link link same) near)
    by_test false same is = are link r is

  lending_near : (most : ℕ) (links : List LinkId) (rest : Rest) → AllKeyed rest.waiters → AllIdle rest.idle → AreNear rest.readied → AreNear (lending most links rest).readied
  lending_near zero links rest all idle are = are
  lending_near (suc most) links rest all idle are = by_next (next_lend rest (is_readied_for links rest.readied) rest.waiters) refl (lending_near most links) where
    by_next : (o : Option Lends) → next_lend rest (is_readied_for links rest.readied) rest.waiters ≡ o
        → ((other : Rest) → AllKeyed other.waiters → AllIdle other.idle → AreNear other.readied → AreNear (lending most links other).readied)
        → AreNear (option_map_or (λ lends. lending most links (record rest { readied = lent lends rest.readied })) o rest).readied
    by_next None is later = are
    by_next (Some lends) is later =
        later (record rest { readied = lent lends rest.readied }) all idle
        (lent_near lends rest.readied (lends_near rest (is_readied_for links rest.readied) rest.waiters lends all idle is) are)

  pub readied_near : (link : LinkId) (r : Readied) → readied_now k link ≡ Some r → is_near k link r ≡ true
  readied_near link r is =
      let rest : Rest = rest_of k (λ l. None) in
      lending_near (length rest.waiters) k.now.tale.links (record rest { readied = kept k rest }) (all_keyed k.now.tale.story) (all_idle k.now.tale.links) (kept_near rest) link r is
