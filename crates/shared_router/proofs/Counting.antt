-- What the policy counts is what the promise counts.
use Rattle.std.specs.Prelude.{◌≡◌, ◌+◌, ℕ, zero, suc, Bool, true, false, ◌&&◌, bytes_eq, cond, count_by, filter, fold, length, nat_eq, if◌then◌else◌, List, [], ◌∷◌, ◌++◌, Option, Some, None}
use Rattle.std.specs.List.{cons_option, filter_map}
use Rattle.std.specs.Option.{option_map, option_map_or}
use Rattle.std.proofs.Common.{refl, sym, ap, ◌∙◌, arith, length-append}
use Rattle.mx_base.specs.declared.names.LinkId.{LinkId}
use Rattle.private_model.specs.Names.{ClientNo, Hostgroup, MessageName, SessionName}
use Rattle.private_model.specs.Story.{BecameDue, Broke, Dropped, Due, Freed, Gone, Heard, Left, LoggedIn, Mirrored, Ran, Sent, Story, Unprepared, is_hostgroup}
use Rattle.server_rule.specs.declared.session.Capabilities.{Capabilities}
use Rattle.tale_world.specs.Policy as policy
use Rattle.tale_world.specs.Policy.{Idle, Lends, Opening, Rest, Waiter, next_lend}
use Rattle.tale_world.specs.Tests as tests
use Rattle.tale_world.specs.Tests.{is_flag}
use Rattle.router_promises.specs.Keys as keys
use Rattle.router_promises.specs.Keys.{LinkKey, how_many, is_free, is_of_key, is_opening, is_same, is_waiting, key_for, key_of, waiters_in, waiting}
use Rattle.router_promises.specs.Now.{wire_now}
use Rattle.shared_router.specs.Known.{Known, present_by, setup_by, view_by}
use Rattle.shared_router.specs.Lends.{as_key, idle_at, is_readied_for, kept, lending, lent, opening_at, rest_of, settled, waiter_of, waiters_by}
use Rattle.shared_router.proofs.Later.{adds}

abbrev pub from_key : policy.Key → LinkKey
from_key key = record { hostgroup = key.hostgroup; account = key.account; bare = key.bare }

flag_same : (a b : Bool) → is_flag a b ≡ is_same a b
flag_same true true = refl
flag_same true false = refl
flag_same false true = refl
flag_same false false = refl

flags_same : (a b : Capabilities) → tests.are_flags a b ≡ keys.are_same a b
flags_same a b =
    ap (λ t. t && (is_flag a.multi_results b.multi_results && is_flag a.ignore_space b.ignore_space)) (flag_same a.found_rows b.found_rows)
    ∙ ap (λ t. is_same a.found_rows b.found_rows && (t && is_flag a.ignore_space b.ignore_space)) (flag_same a.multi_results b.multi_results)
    ∙ ap (λ t. is_same a.found_rows b.found_rows && (is_same a.multi_results b.multi_results && t)) (flag_same a.ignore_space b.ignore_space)

pub key_is : (a : LinkKey) (key : policy.Key) → policy.is_key (as_key a) key ≡ keys.is_key a (from_key key)
key_is a key =
    let group : Bool = is_hostgroup a.hostgroup key.hostgroup in
    ap (λ t. group && ((bytes_eq a.account.user key.account.user && t) && is_flag a.bare key.bare)) (flags_same a.account.capabilities key.account.capabilities)
    ∙ ap (λ t. group && (keys.is_account a.account key.account && t)) (flag_same a.bare key.bare)

-- Lists.

len_if : {A : Type 0} (b : Bool) (x : A) (xs : List A) → length (cond b (x ∷ xs) xs) ≡ cond b 1 0 + length xs
len_if true x xs = omega arith
len_if false x xs = omega arith

len_option : {B : Type 0} (t : B → Bool) (o : Option B) (ys : List B) → length (filter t (cons_option o ys)) ≡ cond (option_map_or t o false) 1 0 + length (filter t ys)
len_option t None ys = omega arith
len_option t (Some y) ys = len_if (t y) y (filter t ys)

counts_from : {B : Type 0} (t : B → Bool) (f : LinkId → Option B) (g : LinkId → Bool) → ((x : LinkId) → option_map_or t (f x) false ≡ g x) → (xs : List LinkId) (n : ℕ)
    → n + length (filter t (filter_map f xs)) ≡ fold (adds g) n xs
counts_from t f g same [] n = omega arith
counts_from t f g same (x ∷ xs) n =
    let rest : ℕ = length (filter t (filter_map f xs)) in
    let head : length (filter t (cons_option (f x) (filter_map f xs))) ≡ cond (g x) 1 0 + rest =
    len_option t (f x) (filter_map f xs) ∙ ap (λ b. cond b 1 0 + rest) (same x) in
    let moved : n + length (filter t (cons_option (f x) (filter_map f xs))) ≡ (n + cond (g x) 1 0) + rest = omega (arith, head) in
    moved ∙ counts_from t f g same xs (n + cond (g x) 1 0)

counts_are : {B : Type 0} (t : B → Bool) (f : LinkId → Option B) (g : LinkId → Bool) → ((x : LinkId) → option_map_or t (f x) false ≡ g x) → (xs : List LinkId)
    → length (filter t (filter_map f xs)) ≡ count_by g xs
counts_are t f g same xs =
    let plus : 0 + length (filter t (filter_map f xs)) ≡ length (filter t (filter_map f xs)) = omega arith in sym plus ∙ counts_from t f g same xs 0

len_on : {A : Type 0} (t : A → Bool) (a b : List A) → length (filter t (a ++ b)) ≡ length (filter t a) + length (filter t b)
len_on t [] b = omega arith
len_on t (x ∷ a) b =
    let one = len_if (t x) x (filter t (a ++ b)) in
    let two = len_if (t x) x (filter t a) in
    let more = len_on t a b in
    let all : length (cond (t x) (x ∷ filter t (a ++ b)) (filter t (a ++ b))) ≡ length (cond (t x) (x ∷ filter t a) (filter t a)) + length (filter t b) =
    omega (arith, one, two, more) in all

and_true : (b : Bool) → b ≡ (b && true)
and_true true = refl
and_true false = refl

and_false : (b : Bool) → false ≡ (b && false)
and_false true = refl
and_false false = refl

module _ (k : Known) (key : policy.Key) where
  -- links

  of_link : {B : Type 0} (make : LinkKey → B) (of : B → policy.Key) → ((a : LinkKey) → of (make a) ≡ as_key a) → (b : Bool) (o : Option LinkKey)
      → option_map_or (λ i. policy.is_key (of i) key) (if b then option_map make o else None) false
      ≡ (option_map_or (λ a. keys.is_key a (from_key key)) o false && b)
  of_link make of is true None = refl
  of_link make of is true (Some a) = ap (λ c. policy.is_key c key) (is a) ∙ key_is a key ∙ and_true (keys.is_key a (from_key key))
  of_link make of is false None = refl
  of_link make of is false (Some a) = and_false (keys.is_key a (from_key key))

  idle_is : (link : LinkId) → option_map_or (λ (i : Idle). policy.is_key i.key key) (idle_at k link) false ≡ (is_of_key k.terms k.now (from_key key) link && is_free k.terms k.log k.now link)
  idle_is link = of_link
      (λ a. record { link = link; key = as_key a })
      (λ (i : Idle). i.key) (λ a. refl) (is_free k.terms k.log k.now link) (key_of k.terms k.now link)

  opening_is : (link : LinkId)
      → option_map_or (λ (i : Opening). policy.is_key i.key key) (opening_at k link) false ≡ (is_of_key k.terms k.now (from_key key) link && is_opening k.terms k.log k.now link)
  opening_is link = of_link (λ a. record { server = (wire_now k.now link).server; key = as_key a }) (λ (i : Opening). i.key) (λ a. refl)
      (is_opening k.terms k.log k.now link) (key_of k.terms k.now link)

  free_is : length (filter (λ (i : Idle). policy.is_key i.key key) (filter_map (idle_at k) k.now.tale.links)) ≡ how_many is_free k.terms k.log k.now (from_key key)
  free_is = counts_are (λ (i : Idle). policy.is_key i.key key) (idle_at k) (λ link. is_of_key k.terms k.now (from_key key) link && is_free k.terms k.log k.now link) idle_is k.now.tale.links

  opens_is : length (filter (λ (i : Opening). policy.is_key i.key key) (filter_map (opening_at k) k.now.tale.links)) ≡ how_many is_opening k.terms k.log k.now (from_key key)
  opens_is = counts_are (λ (i : Opening). policy.is_key i.key key) (opening_at k) (λ link. is_of_key k.terms k.now (from_key key) link && is_opening k.terms k.log k.now link) opening_is k.now.tale.links

  -- statements

  abbrev is_its : Waiter → Bool
  is_its w = policy.is_key w.key key

  len_key : {A B : Type 0} (c d : Bool) (x : A) (y : B) → c ≡ d → length (cond c (x ∷ []) []) ≡ length (if d then y ∷ [] else [])
  len_key true true x y same = refl
  len_key false false x y same = refl
  len_key true false x y same = absurd (cc)
  len_key false true x y same = absurd (cc)

  last_is : (client : ClientNo) (hostgroup : Hostgroup) (ordinal : ℕ) (b : Bool) (due : Option Due)
      → (b ≡ true → option_map_or (λ (d : Due). nat_eq d.ordinal ordinal) due false ≡ true)
      → length (filter is_its (if b then option_map_or (λ d. waiter_of k (present_by k client hostgroup) d ∷ []) due [] else []))
      ≡ length {A = MessageName} (if b && keys.is_key (key_for (setup_by k) k.now client hostgroup) (from_key key) then record { client = client; ordinal = ordinal } ∷ [] else [])
  last_is client hostgroup ordinal false due has = refl
  last_is client hostgroup ordinal true None has = absurd (let never : false ≡ true = has refl in cc)
  last_is client hostgroup ordinal true (Some due) has =
      len_key (policy.is_key (as_key (key_for (setup_by k) k.now client hostgroup)) key) (keys.is_key (key_for (setup_by k) k.now client hostgroup) (from_key key))
      (waiter_of k (present_by k client hostgroup) due) (record { client = client; ordinal = ordinal }) (key_is (key_for (setup_by k) k.now client hostgroup) key)

  waits_then : (a b : Bool) → (a && b) ≡ true → b ≡ true
  waits_then true b is = is
  waits_then false b is = absurd (cc)

  waiters_are : (story : Story) → length (filter is_its (waiters_by k story)) ≡ length (waiters_in k.terms k.now (from_key key) story)
  waiters_are [] = refl
  waiters_are (BecameDue client hostgroup ordinal at command multiplex ∷ past) =
      let n : SessionName = present_by k client hostgroup in
      let b : Bool = is_waiting k.terms k.now client hostgroup ordinal in
      let mine : List Waiter = if b then option_map_or (λ d. waiter_of k n d ∷ []) ((view_by k).dues n) [] else [] in
      let its : List MessageName = if b && keys.is_key (key_for (setup_by k) k.now client hostgroup) (from_key key) then record { client = client; ordinal = ordinal } ∷ [] else [] in
      let one : length (filter is_its (waiters_by k past ++ mine)) ≡ length (filter is_its (waiters_by k past)) + length (filter is_its mine) = len_on is_its (waiters_by k past) mine in
      let two : length (waiters_in k.terms k.now (from_key key) past ++ its) ≡ length (waiters_in k.terms k.now (from_key key) past) + length its = length-append (waiters_in k.terms k.now (from_key key) past) its in
      let before : length (filter is_its (waiters_by k past)) ≡ length (waiters_in k.terms k.now (from_key key) past) = waiters_are past in
      let last : length (filter is_its mine) ≡ length its = last_is client hostgroup ordinal b ((view_by k).dues n) (λ is. waits_then _ _ is) in
      one ∙ ap (λ m. m + length (filter is_its mine)) before ∙ ap (λ m. length (waiters_in k.terms k.now (from_key key) past) + m) last ∙ sym two
  waiters_are (LoggedIn link server account ∷ past) = waiters_are past
  waiters_are (Sent link question ∷ past) = waiters_are past
  waiters_are (Ran link ∷ past) = waiters_are past
  waiters_are (Heard link reply ∷ past) = waiters_are past
  waiters_are (Freed link ∷ past) = waiters_are past
  waiters_are (Unprepared link number ∷ past) = waiters_are past
  waiters_are (Dropped link ∷ past) = waiters_are past
  waiters_are (Gone link ∷ past) = waiters_are past
  waiters_are (Left client ∷ past) = waiters_are past
  waiters_are (Broke ∷ past) = waiters_are past
  waiters_are (Mirrored client job ∷ past) = waiters_are past

-- Lending changes for whom links are readied, and nothing else.

pub record IsLending (old new : Rest) : Type 0 where
  pub waiters : new.waiters ≡ old.waiters
  pub idle : new.idle ≡ old.idle
  pub opening : new.opening ≡ old.opening

lending_so : (most : ℕ) (links : List LinkId) (rest : Rest) → IsLending rest (lending most links rest)
lending_so zero links rest = record { waiters = refl; idle = refl; opening = refl }
lending_so (suc most) links rest = by_lends (next_lend rest (is_readied_for links rest.readied) rest.waiters) (lending_so most links) where
  by_lends : (found : Option Lends) → ((r : Rest) → IsLending r (lending most links r))
      → IsLending rest (option_map_or (λ lends. lending most links (record rest { readied = lent lends rest.readied })) found rest)
  by_lends None others = record { waiters = refl; idle = refl; opening = refl }
  by_lends (Some lends) others =
      let on = others (record rest { readied = lent lends rest.readied }) in record { waiters = on.waiters; idle = on.idle; opening = on.opening }

module _ (k : Known) where
  abbrev first_rest : Rest
  first_rest = let rest = rest_of k (λ link. None) in record rest { readied = kept k rest }

  pub settled_so : IsLending first_rest (settled k)
  settled_so = lending_so (length first_rest.waiters) k.now.tale.links first_rest

  pub settled_free : (key : policy.Key) → policy.free (settled k) key ≡ how_many is_free k.terms k.log k.now (from_key key)
  settled_free key = ap (λ xs. length (filter (λ (i : Idle). policy.is_key i.key key) xs)) settled_so.idle ∙ free_is k key

  pub settled_opening : (key : policy.Key) → policy.opening (settled k) key ≡ how_many is_opening k.terms k.log k.now (from_key key)
  settled_opening key = ap (λ xs. length (filter (λ (i : Opening). policy.is_key i.key key) xs)) settled_so.opening ∙ opens_is k key

  pub settled_unsent : (key : policy.Key) → policy.unsent (settled k) key ≡ waiting k.terms k.now (from_key key)
  settled_unsent key = ap (λ xs. length (filter (λ (w : Waiter). policy.is_key w.key key) xs)) settled_so.waiters ∙ waiters_are k key k.now.tale.story
