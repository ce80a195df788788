-- Who waits for a link of a key is served by one that is stepping, each by another: where each readied link is asked for something.
use Rattle.std.specs.Prelude.{◌≡◌, ◌≢◌, ◌+◌, ◌<◌, ◌≤◌, ℕ, Bool, true, false, not, ◌&&◌, ◌||◌, cond, fold, if◌then◌else◌, is_some, nat_eq, List, [], ◌∷◌, ◌++◌, Option, Some, None}
use Rattle.std.specs.List.{list_any}
use Rattle.std.specs.Option.{option_map_or}
use Rattle.std.proofs.Common.{refl, sym, ap, ◌∙◌, subst, arith, inl}
use Rattle.std.proofs.lemmas.Bool.{and_from, and_parts, eqb-true, or_left, or_right}
use Rattle.mx_base.specs.declared.names.LinkId.{LinkId}
use Rattle.mx_wire.specs.Log.{is_open}
use Rattle.private_model.proofs.Maps as maps
use Rattle.private_model.proofs.Maps.{message_is, name_of, same_link, same_message}
use Rattle.private_model.specs.Names.{ClientNo, Hostgroup, MessageName, SessionName}
use Rattle.private_model.specs.Story.{BecameDue, Broke, Dropped, Due, Freed, Gone, Heard, Left, LoggedIn, Mirrored, Ran, Sent, Story, Unprepared, is_link_id, is_message, is_name, message_of}
use Rattle.log_story.specs.Tale.{is_to_server}
use Rattle.tale_world.specs.Policy as policy
use Rattle.tale_world.specs.Policy.{Readied, Waiter}
use Rattle.router_promises.specs.Dues.{is_due, is_unsent}
use Rattle.router_promises.specs.Keys as keys
use Rattle.router_promises.specs.Keys.{LinkKey, how_many, is_at_work, is_free, is_idle, is_key, is_of_key, is_stepping, is_vacant, is_waiting, key_for, key_of, waiters_in, waiting}
use Rattle.router_promises.specs.Now.{Now, is_here, was_lost, wire_now}
use Rattle.router_promises.specs.Terms.{Terms, setup_in}
use Rattle.shared_router.specs.Known.{Known, present_by, setup_by, view_by}
use Rattle.shared_router.specs.Lends.{as_key, is_readied_for, readied_now, waiter_of, waiters_by}
use Rattle.shared_router.specs.Lent.{HaveLinks}
use Rattle.shared_router.specs.Waited.{AsksForWhom, WorksOn}
use Rattle.shared_router.specs.Waits as waits
use Rattle.shared_router.proofs.Counted.{AreApart, IsServed, served_fewer}
use Rattle.shared_router.proofs.Counting.{from_key, key_is}
use Rattle.shared_router.proofs.Dues.{AllDue}
use Rattle.shared_router.proofs.Lastly.{AreRising}
use Rattle.shared_router.proofs.Later.{adds}
use Rattle.shared_router.proofs.Lending.{all_have}
use Rattle.shared_router.proofs.Looked.{Each}
use Rattle.shared_router.proofs.Readying.{readied_near, readied_waits}
use Rattle.shared_router.proofs.Room.{key_is_one}
use Rattle.shared_router.proofs.Vacant.{readied_vacant}

isnt : {A : Type 0} → false ≡ true → A
isnt is = absurd (cc)

no_some : {A B : Type 0} (a : A) → None ≡ Some a → B
no_some a is = absurd (cc)

some_of : {A : Type 0} (a b : A) → Some a ≡ Some b → a ≡ b
some_of a b is = cc

-- Lists.

each_on : {A : Type 0} (P : A → Type 0) (xs ys : List A) → Each P xs → Each P ys → Each P (xs ++ ys)
each_on P [] ys first second = second
each_on P (x ∷ xs) ys first second = (first.0, each_on P xs ys first.1 second)

-- one behind those that it is apart from
apart_last : (ms : List MessageName) (m : MessageName) → AreApart ms → Each (λ other. other ≢ m) ms → AreApart (ms ++ m ∷ [])
apart_last [] m apart each = (tt, tt)
apart_last (n ∷ ms) m apart each =
    (each_on (λ other. other ≢ n) ms (m ∷ []) apart.0 ((λ same. each.0 (sym same)), tt), apart_last ms m apart.1 each.1)

found : (f : LinkId → Bool) (xs : List LinkId) → list_any f xs ≡ true → (x : LinkId) × ((list_any (is_link_id x) xs ≡ true) × (f x ≡ true))
found f [] is = isnt is
found f (x ∷ xs) is = by_test (f x) refl is (found f xs) where
  by_test : (b : Bool) → f x ≡ b → (b || list_any f xs) ≡ true
      → (list_any f xs ≡ true → (y : LinkId) × ((list_any (is_link_id y) xs ≡ true) × (f y ≡ true)))
      → (y : LinkId) × ((list_any (is_link_id y) (x ∷ xs) ≡ true) × (f y ≡ true))
  by_test true at is later = (x, (or_left (is_link_id x x) _ (same_link x), at))
  by_test false at is later = (let rest = later is in (rest.0, (or_right (is_link_id rest.0 x) _ rest.1.0, rest.1.1)))

pub any_of : (f : LinkId → Bool) (xs : List LinkId) (x : LinkId) → list_any (is_link_id x) xs ≡ true → f x ≡ true → list_any f xs ≡ true
any_of f [] x there is = isnt there
any_of f (y ∷ xs) x there is = by_test (is_link_id x y) refl there (any_of f xs x) where
  by_test : (b : Bool) → is_link_id x y ≡ b → (b || list_any (is_link_id x) xs) ≡ true → (list_any (is_link_id x) xs ≡ true → f x ≡ true → list_any f xs ≡ true)
      → list_any f (y ∷ xs) ≡ true
  by_test true same there later = or_left (f y) _ (ap f (sym (maps.link_of x y same)) ∙ is)
  by_test false other there later = or_right (f y) _ (later there is)

some_counted : (f : LinkId → Bool) (xs : List LinkId) (n : ℕ) → n < fold (adds f) n xs → (x : LinkId) × ((list_any (is_link_id x) xs ≡ true) × (f x ≡ true))
some_counted f [] n more = absurd (omega (arith, more))
some_counted f (x ∷ xs) n more = by_test (f x) refl more (some_counted f xs (n + 0)) where
  by_test : (b : Bool) → f x ≡ b → n < fold (adds f) (n + cond b 1 0) xs
      → (n + 0 < fold (adds f) (n + 0) xs → (y : LinkId) × ((list_any (is_link_id y) xs ≡ true) × (f y ≡ true)))
      → (y : LinkId) × ((list_any (is_link_id y) (x ∷ xs) ≡ true) × (f y ≡ true))
  by_test true at more later = (x, (or_left (is_link_id x x) _ (same_link x), at))
  by_test false at more later = (let rest = later (omega (arith, more)) in (rest.0, (or_right (is_link_id rest.0 x) _ rest.1.0, rest.1.1)))

-- Who waits became due, each once.

module _ (terms : Terms) (now : Now) (key : LinkKey) where
  abbrev its : ClientNo → Hostgroup → (ordinal : ℕ) → Bool
  its client hostgroup ordinal = is_waiting terms now client hostgroup ordinal && is_key (key_for (setup_in terms) now client hostgroup) key

  abbrev one_if : Bool → MessageName → List MessageName
  one_if b m = if b then m ∷ [] else []

  each_one : (P : MessageName → Type 0) (b : Bool) (m : MessageName) → P m → Each P (one_if b m)
  each_one P true m is = (is, tt)
  each_one P false m is = tt

  pub each_waiter : (P : MessageName → Type 0) (story : Story) → AllDue P story → Each P (waiters_in terms now key story)
  each_waiter P [] all = tt
  each_waiter P (BecameDue client hostgroup ordinal at command multiplex ∷ past) all =
      each_on P (waiters_in terms now key past) (one_if (its client hostgroup ordinal) (record { client = client; ordinal = ordinal })) (each_waiter P past all.1)
      (each_one P (its client hostgroup ordinal) (record { client = client; ordinal = ordinal }) all.0)
  each_waiter P (LoggedIn link server account ∷ past) all = each_waiter P past all
  each_waiter P (Sent link question ∷ past) all = each_waiter P past all
  each_waiter P (Ran link ∷ past) all = each_waiter P past all
  each_waiter P (Heard link reply ∷ past) all = each_waiter P past all
  each_waiter P (Freed link ∷ past) all = each_waiter P past all
  each_waiter P (Unprepared link number ∷ past) all = each_waiter P past all
  each_waiter P (Dropped link ∷ past) all = each_waiter P past all
  each_waiter P (Gone link ∷ past) all = each_waiter P past all
  each_waiter P (Left client ∷ past) all = each_waiter P past all
  each_waiter P (Broke ∷ past) all = each_waiter P past all
  each_waiter P (Mirrored client job ∷ past) all = each_waiter P past all

  with_one : (b : Bool) (ms : List MessageName) (m : MessageName) → AreApart ms → Each (λ other. other ≢ m) ms → AreApart (ms ++ one_if b m)
  with_one true ms m apart each = apart_last ms m apart each
  with_one false ms m apart each = subst AreApart (sym (on_none ms)) apart where
    on_none : (xs : List MessageName) → xs ++ [] ≡ xs
    on_none [] = refl
    on_none (x ∷ xs) = ap (λ ys. x ∷ ys) (on_none xs)

  pub waiters_apart : (story : Story) → AreRising story → AreApart (waiters_in terms now key story)
  waiters_apart [] rising = tt
  waiters_apart (BecameDue client hostgroup ordinal at command multiplex ∷ past) rising =
      with_one (its client hostgroup ordinal) (waiters_in terms now key past) (record { client = client; ordinal = ordinal }) (waiters_apart past rising.1)
      (each_so_apart (waiters_in terms now key past) (each_waiter (λ m. m.client ≡ client → m.ordinal < ordinal) past rising.0))
    where
      differs : (m : MessageName) → (m.client ≡ client → m.ordinal < ordinal) → m ≢ record { client = client; ordinal = ordinal }
      differs m less same =
          let few = less (ap (λ (k : MessageName). k.client) same) in
          let is : m.ordinal ≡ ordinal = ap (λ (k : MessageName). k.ordinal) same in omega (arith, few, is)

      each_so_apart : (ms : List MessageName) → Each (λ m. m.client ≡ client → m.ordinal < ordinal) ms → Each (λ m. m ≢ record { client = client; ordinal = ordinal }) ms
      each_so_apart [] all = tt
      each_so_apart (m ∷ ms) all = (differs m all.0, each_so_apart ms all.1)
  waiters_apart (LoggedIn link server account ∷ past) rising = waiters_apart past rising
  waiters_apart (Sent link question ∷ past) rising = waiters_apart past rising
  waiters_apart (Ran link ∷ past) rising = waiters_apart past rising
  waiters_apart (Heard link reply ∷ past) rising = waiters_apart past rising
  waiters_apart (Freed link ∷ past) rising = waiters_apart past rising
  waiters_apart (Unprepared link number ∷ past) rising = waiters_apart past rising
  waiters_apart (Dropped link ∷ past) rising = waiters_apart past rising
  waiters_apart (Gone link ∷ past) rising = waiters_apart past rising
  waiters_apart (Left client ∷ past) rising = waiters_apart past rising
  waiters_apart (Broke ∷ past) rising = waiters_apart past rising
  waiters_apart (Mirrored client job ∷ past) rising = waiters_apart past rising

-- For whom a link is readied.

module _ (k : Known) where
  abbrev pub serves : MessageName → LinkId → Bool
  serves m link = option_map_or (λ (r : Readied). is_message m (message_of r.name r.due)) (readied_now k link) false

  pub serves_one : (m other : MessageName) (link : LinkId) → serves m link ≡ true → serves other link ≡ true → other ≡ m
  serves_one m other link first second = by_readied (readied_now k link) first second where
    by_readied : (o : Option Readied) → option_map_or (λ (r : Readied). is_message m (message_of r.name r.due)) o false ≡ true
        → option_map_or (λ (r : Readied). is_message other (message_of r.name r.due)) o false ≡ true → other ≡ m
    by_readied None first second = isnt first
    by_readied (Some r) first second = message_is other (message_of r.name r.due) second ∙ sym (message_is m (message_of r.name r.due) first)

  -- a readied link is stepping, where it is asked for something
  module _ (works : WorksOn k) (asks : AsksForWhom k) where
    pub ready_steps : (link : LinkId) → is_to_server k.now.tale link ≡ true → (r : Readied) → readied_now k link ≡ Some r → is_stepping k.terms k.log k.now link ≡ true
    ready_steps link there r is = and_from (is_vacant k.terms k.log k.now link) (is_at_work k.terms k.log k.now link) vacant (by_test (is_at_work k.terms k.log k.now link) refl) where
      vacant : is_vacant k.terms k.log k.now link ≡ true
      vacant = readied_vacant k link r is

      waits_so : waits.Waits k r
      waits_so = readied_waits k link r is

      opened : is_open link k.log ≡ true
      opened =
          (and_parts (is_open link k.log) (not (was_lost k.log link))
          (and_parts (is_here k.log link) (wire_now k.now link).entered (and_parts (is_here k.log link && (wire_now k.now link).entered) _ vacant).0).0).0

      due : is_due k.terms k.now.tale r.name ≡ true
      due =
          subst (λ (n : SessionName). is_due k.terms k.now.tale n ≡ true) waits_so.present
          (and_parts (is_due k.terms k.now.tale (present_by k r.name.client r.name.hostgroup)) (not (is_some ((view_by k).held (present_by k r.name.client r.name.hostgroup)).home))
          (and_parts (is_unsent k.terms k.now.tale (present_by k r.name.client r.name.hostgroup))
          (option_map_or (λ (d : Due). nat_eq d.ordinal r.due.ordinal) ((view_by k).dues (present_by k r.name.client r.name.hostgroup)) false) waits_so.waits).0).0

      by_test : (b : Bool) → is_at_work k.terms k.log k.now link ≡ b → is_at_work k.terms k.log k.now link ≡ true
      by_test true at = at
      by_test false at = works link there vacant (asks link r.name there opened (inl (r, is, refl)) waits_so.present due at)

    -- Where a link is readied for each of a key, each is served by one that is stepping.
    module _ (key : LinkKey) where
      abbrev pub stepping : LinkId → Bool
      stepping link = is_of_key k.terms k.now key link && is_stepping k.terms k.log k.now link

      abbrev Served : MessageName → Type 0
      Served m = IsServed serves serves_one stepping k.now.tale.links m

      key_so : (client : ClientNo) (hostgroup : Hostgroup) → is_key (key_for (setup_by k) k.now client hostgroup) key ≡ true → key_for (setup_by k) k.now client hostgroup ≡ key
      key_so client hostgroup is =
          ap from_key (key_is_one (as_key (key_for (setup_by k) k.now client hostgroup)) (as_key key) (key_is (key_for (setup_by k) k.now client hostgroup) (as_key key) ∙ is))

      -- who has a link that is readied
      pub served_by : (client : ClientNo) (hostgroup : Hostgroup) (ordinal : ℕ) → is_waiting k.terms k.now client hostgroup ordinal ≡ true
          → is_key (key_for (setup_by k) k.now client hostgroup) key ≡ true
          → is_readied_for k.now.tale.links (readied_now k) (present_by k client hostgroup) ≡ true → Served (record { client = client; ordinal = ordinal })
      served_by client hostgroup ordinal its_turn its_key readied =
          let there = found (λ link. option_map_or (λ (r : Readied). is_name r.name n) (readied_now k link) false) k.now.tale.links readied in
          by_readied there.0 there.1.0 (readied_now k there.0) refl there.1.1
        where
          n : SessionName
          n = present_by k client hostgroup

          m : MessageName
          m = record { client = client; ordinal = ordinal }

          by_readied : (link : LinkId) → list_any (is_link_id link) k.now.tale.links ≡ true → (o : Option Readied) → readied_now k link ≡ o
              → option_map_or (λ (r : Readied). is_name r.name n) o false ≡ true → Served m
          by_readied link there None is named = isnt named
          by_readied link there (Some r) is named =
              any_of (λ x. stepping x && serves m x) k.now.tale.links link there
              (and_from (stepping link) (serves m link)
              (and_from (is_of_key k.terms k.now key link) (is_stepping k.terms k.log k.now link) of_key (ready_steps link there r is))
              (ap (λ (o : Option Readied). option_map_or (λ (q : Readied). is_message m (message_of q.name q.due)) o false) is ∙ its_message))
            where
              same : r.name ≡ n
              same = name_of r.name n named

              of_key : is_of_key k.terms k.now key link ≡ true
              of_key =
                  subst (λ (x : LinkKey). is_of_key k.terms k.now x link ≡ true) (key_so client hostgroup its_key)
                  (subst (λ (s : SessionName). is_of_key k.terms k.now (key_for (setup_by k) k.now s.client s.hostgroup) link ≡ true) same (readied_near k link r is))

              due_there : (o : Option Due) → (view_by k).dues n ≡ o → option_map_or (λ (d : Due). nat_eq d.ordinal ordinal) o false ≡ true → r.due.ordinal ≡ ordinal
              due_there None at none = isnt none
              due_there (Some due) at one_number =
                  let waits_so = readied_waits k link r is in
                  let one : r.due ≡ due = some_of r.due due (sym waits_so.due ∙ ap (view_by k).dues same ∙ at) in
                  ap (λ (d : Due). d.ordinal) one ∙ eqb-true due.ordinal ordinal one_number

              ordinal_so : option_map_or (λ (d : Due). nat_eq d.ordinal ordinal) ((view_by k).dues n) false ≡ true
              ordinal_so =
                  (and_parts (is_unsent k.terms k.now.tale n) (option_map_or (λ (d : Due). nat_eq d.ordinal ordinal) ((view_by k).dues n) false) its_turn).1

              its_message : is_message m (message_of r.name r.due) ≡ true
              its_message =
                  let named_so : message_of r.name r.due ≡ m =
                  ap (λ (s : SessionName). message_of s r.due) same ∙ ap (λ i. record { client = client; ordinal = i }) (due_there ((view_by k).dues n) refl ordinal_so) in
                  subst (λ (x : MessageName). is_message m x ≡ true) (sym named_so) (same_message m)

      have_parts : (a b : List Waiter) → HaveLinks k key (a ++ b) → HaveLinks k key a × HaveLinks k key b
      have_parts [] b have = (tt, have)
      have_parts (w ∷ a) b have = (let rest = have_parts a b have.1 in ((have.0, rest.0), rest.1))

      served_all : (story : Story) → HaveLinks k key (waiters_by k story) → Each Served (waiters_in k.terms k.now key story)
      served_all [] have = tt
      served_all (BecameDue client hostgroup ordinal at command multiplex ∷ past) have =
          let n : SessionName = present_by k client hostgroup in
          let parts = have_parts (waiters_by k past)
          (if is_waiting k.terms k.now client hostgroup ordinal then option_map_or (λ due. waiter_of k n due ∷ []) ((view_by k).dues n) [] else []) have in
          each_on Served (waiters_in k.terms k.now key past) (one_if k.terms k.now key (its k.terms k.now key client hostgroup ordinal) (record { client = client; ordinal = ordinal }))
          (served_all past parts.0)
          (by_tests (is_waiting k.terms k.now client hostgroup ordinal) (is_key (key_for (setup_by k) k.now client hostgroup) key) refl refl parts.1)
        where
          by_tests : (turn keyed : Bool) → is_waiting k.terms k.now client hostgroup ordinal ≡ turn → is_key (key_for (setup_by k) k.now client hostgroup) key ≡ keyed
              → HaveLinks k key (if turn then option_map_or (λ due. waiter_of k (present_by k client hostgroup) due ∷ []) ((view_by k).dues (present_by k client hostgroup)) [] else [])
              → Each Served (one_if k.terms k.now key (turn && keyed) (record { client = client; ordinal = ordinal }))
          by_tests false keyed turn_is keyed_is have = tt
          by_tests true false turn_is keyed_is have = tt
          by_tests true true turn_is keyed_is have = (served_by client hostgroup ordinal turn_is keyed_is (by_due ((view_by k).dues (present_by k client hostgroup)) refl have), tt) where
            key_back : policy.is_key (as_key key) (as_key (key_for (setup_by k) k.now client hostgroup)) ≡ true
            key_back =
                let same : key_for (setup_by k) k.now client hostgroup ≡ key = key_so client hostgroup keyed_is in
                subst (λ (x : LinkKey). policy.is_key (as_key key) (as_key x) ≡ true) (sym same)
                (subst (λ (x : LinkKey). policy.is_key (as_key x) (as_key key) ≡ true) same (key_is (key_for (setup_by k) k.now client hostgroup) (as_key key) ∙ keyed_is))

            by_due : (o : Option Due) → (view_by k).dues (present_by k client hostgroup) ≡ o
                → HaveLinks k key (option_map_or (λ due. waiter_of k (present_by k client hostgroup) due ∷ []) o [])
                → is_readied_for k.now.tale.links (readied_now k) (present_by k client hostgroup) ≡ true
            by_due None none have =
                isnt (sym (ap (λ (o : Option Due). option_map_or (λ (d : Due). nat_eq d.ordinal ordinal) o false) none)
                ∙ (and_parts (is_unsent k.terms k.now.tale (present_by k client hostgroup))
                (option_map_or (λ (d : Due). nat_eq d.ordinal ordinal) ((view_by k).dues (present_by k client hostgroup)) false) turn_is).1)
            by_due (Some due) is have = have.0 key_back
      served_all (LoggedIn link server account ∷ past) have = served_all past have
      served_all (Sent link question ∷ past) have = served_all past have
      served_all (Ran link ∷ past) have = served_all past have
      served_all (Heard link reply ∷ past) have = served_all past have
      served_all (Freed link ∷ past) have = served_all past have
      served_all (Unprepared link number ∷ past) have = served_all past have
      served_all (Dropped link ∷ past) have = served_all past have
      served_all (Gone link ∷ past) have = served_all past have
      served_all (Left client ∷ past) have = served_all past have
      served_all (Broke ∷ past) have = served_all past have
      served_all (Mirrored client job ∷ past) have = served_all past have

      key_at : (link : LinkId) (o : Option LinkKey) → key_of k.terms k.now link ≡ o → option_map_or (λ other. keys.is_key other key) o false ≡ true → key_of k.terms k.now link ≡ Some key
      key_at link None at is = isnt is
      key_at link (Some other) at is = at ∙ ap (λ (x : LinkKey). Some x) (ap from_key (key_is_one (as_key other) (as_key key) (key_is other (as_key key) ∙ is)))

      -- once a link of it is idle
      pub serves_all : AreRising k.now.tale.story → 0 < how_many is_idle k.terms k.log k.now key → waiting k.terms k.now key ≤ how_many is_stepping k.terms k.log k.now key
      serves_all rising idle =
          let free_one = some_counted (λ link. is_of_key k.terms k.now key link && is_idle k.terms k.log k.now link) k.now.tale.links 0 idle in
          let parts = and_parts (is_of_key k.terms k.now key free_one.0) (is_idle k.terms k.log k.now free_one.0) free_one.1.1 in
          let free = and_parts (is_free k.terms k.log k.now free_one.0) (not (is_at_work k.terms k.log k.now free_one.0)) parts.1 in
          served_fewer serves serves_one stepping k.now.tale.links (waiters_in k.terms k.now key k.now.tale.story) (waiters_apart k.terms k.now key k.now.tale.story rising)
          (served_all k.now.tale.story
          (all_have k free_one.0 key free_one.1.0 free.0 (key_at free_one.0 (key_of k.terms k.now free_one.0) refl parts.0) (alone free_one.0 free_one.1.0 free.1)))
        where
          alone : (link : LinkId) → is_to_server k.now.tale link ≡ true → not (is_at_work k.terms k.log k.now link) ≡ true → readied_now k link ≡ None
          alone link there rests = by_readied (readied_now k link) refl where
            by_readied : (o : Option Readied) → readied_now k link ≡ o → readied_now k link ≡ None
            by_readied None is = is
            by_readied (Some r) is =
                isnt (sym (ap not (and_parts (is_vacant k.terms k.log k.now link) (is_at_work k.terms k.log k.now link) (ready_steps link there r is)).1) ∙ rests)
