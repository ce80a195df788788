-- Clients by their numbers, and which messages are old: those that were taken up.
use Rattle.std.specs.Prelude.{◌≡◌, ◌⊎◌, ◌+◌, ◌≤◌, ◌<◌, ℕ, suc, Bool, true, false, not, ◌&&◌, ◌||◌, nat_le, if◌then◌else◌, length, map, List, [], ◌∷◌, ◌++◌}
use Rattle.std.specs.List.{list_all, list_any}
use Rattle.std.proofs.Common.{refl, sym, ap, ◌∙◌, arith, inl, inr}
use Rattle.std.proofs.lemmas.Bool.{and_from, and_parts, leb-true, ne_eqb, or_left, or_right, le-leb}
use Rattle.private_model.proofs.Maps.{client_of, same_number}
use Rattle.private_model.specs.Names.{ClientNo, MessageName}
use Rattle.private_model.specs.Story.{is_client}
use Rattle.log_story.specs.Owed.{name_of}
use Rattle.log_story.specs.Tale.{Client}
use Rattle.tale_world.specs.World.{next_of}
use Rattle.shared_router.proofs.Walks.{Stays}

abbrev pub has_taken : MessageName → Client → Bool
has_taken m client = is_client client.number m.client && nat_le m.ordinal client.taken

abbrev pub IsOld : List Client → MessageName → Type 0
IsOld clients m = list_any (has_taken m) clients ≡ true

-- clients have these numbers, from this one on
abbrev pub AreNumbered : (from : ℕ) → List Client → Type 0
AreNumbered from [] = Unit {0}
AreNumbered from (client ∷ clients) = (client.number.0 ≡ from) × AreNumbered (suc from) clients

-- no client of this number took up more than this
abbrev pub is_behind : Client → Client → Bool
is_behind client other = not (is_client other.number client.number) || nat_le other.taken client.taken

abbrev pub IsLatest : Client → List Client → Type 0
IsLatest client clients = list_all (is_behind client) clients ≡ true

isnt : {A : Type 0} → false ≡ true → A
isnt is = absurd (cc)

-- What stays.

old_map : (f : Client → Client) → Stays f → (m : MessageName) (clients : List Client) → list_any (has_taken m) (map f clients) ≡ list_any (has_taken m) clients
old_map f stays m [] = refl
old_map f stays m (client ∷ clients) =
    ap (λ n. (is_client n m.client && nat_le m.ordinal (f client).taken) || list_any (has_taken m) (map f clients)) (stays.number client)
    ∙ ap (λ n. (is_client client.number m.client && nat_le m.ordinal n) || list_any (has_taken m) (map f clients)) (stays.taken client)
    ∙ ap (λ b. has_taken m client || b) (old_map f stays m clients)

pub old_moves : (f : Client → Client) → Stays f → (m : MessageName) (clients : List Client) → IsOld clients m → IsOld (map f clients) m
old_moves f stays m clients old = old_map f stays m clients ∙ old

pub old_comes : (m : MessageName) (clients more : List Client) → IsOld clients m → IsOld (clients ++ more) m
old_comes m [] more old = isnt old
old_comes m (client ∷ clients) more old = by_test (has_taken m client) old (old_comes m clients more) where
  by_test : (b : Bool) → (b || list_any (has_taken m) clients) ≡ true → (list_any (has_taken m) clients ≡ true → list_any (has_taken m) (clients ++ more) ≡ true)
      → (b || list_any (has_taken m) (clients ++ more)) ≡ true
  by_test true old later = refl
  by_test false old later = later old

pub numbered_moves : (f : Client → Client) → Stays f → (from : ℕ) (clients : List Client) → AreNumbered from clients → AreNumbered from (map f clients)
numbered_moves f stays from [] are = tt
numbered_moves f stays from (client ∷ clients) are = (ap (λ (n : ClientNo). n.0) (stays.number client) ∙ are.0, numbered_moves f stays (suc from) clients are.1)

pub numbered_comes : (from : ℕ) (clients : List Client) (one : Client) → AreNumbered from clients → one.number.0 ≡ from + length clients → AreNumbered from (clients ++ one ∷ [])
numbered_comes from [] one are is = (is ∙ omega arith, tt)
numbered_comes from (client ∷ clients) one are is = (are.0, numbered_comes (suc from) clients one are.1 (is ∙ omega arith))

-- A client takes up one more.

abbrev pub replaced : Client → Client → Client
replaced client other = if is_client other.number client.number then client else other

or_more : (a b c d : Bool) → (a ≡ true → c ≡ true) → (b ≡ true → d ≡ true) → (a || b) ≡ true → (c || d) ≡ true
or_more true b c d first second is = or_left c d (first refl)
or_more false b c d first second is = or_right c d (second is)

-- it is the same client, which took up no less
grown : (m : MessageName) (client other : Client) → is_behind client other ≡ true → has_taken m other ≡ true → has_taken m (replaced (next_of client) other) ≡ true
grown m client other behind took = by_test (is_client other.number client.number) refl behind where
  most : (a b c : ℕ) → nat_le a b ≡ true → nat_le b c ≡ true → nat_le a (suc c) ≡ true
  most a b c first second = le-leb a (suc c) (omega (arith, leb-true a b first, leb-true b c second))

  by_test : (b : Bool) → is_client other.number client.number ≡ b → (not b || nat_le other.taken client.taken) ≡ true → has_taken m (if b then next_of client else other) ≡ true
  by_test true same behind =
      let parts = and_parts (is_client other.number m.client) (nat_le m.ordinal other.taken) took in
      and_from _ _ (ap (λ n. is_client n m.client) (sym (client_of other.number client.number same)) ∙ parts.0) (most m.ordinal other.taken client.taken parts.1 behind)
  by_test false same behind = took

pub old_taken : (m : MessageName) (client : Client) (clients : List Client) → IsLatest client clients → IsOld clients m → IsOld (map (replaced (next_of client)) clients) m
old_taken m client [] latest old = isnt old
old_taken m client (other ∷ clients) latest old =
    let parts = and_parts (is_behind client other) (list_all (is_behind client) clients) latest in
    or_more (has_taken m other) (list_any (has_taken m) clients) _ _ (grown m client other parts.0) (old_taken m client clients parts.1) old

pub numbered_taken : (client : Client) (from : ℕ) (clients : List Client) → AreNumbered from clients → AreNumbered from (map (replaced client) clients)
numbered_taken client from [] are = tt
numbered_taken client from (other ∷ clients) are = (by_test (is_client other.number client.number) refl, numbered_taken client (suc from) clients are.1) where
  by_test : (b : Bool) → is_client other.number client.number ≡ b → (if b then client else other).number.0 ≡ from
  by_test true same = ap (λ (n : ClientNo). n.0) (sym (client_of other.number client.number same)) ∙ are.0
  by_test false same = are.0

-- it is there, and took up as much
abbrev pub IsThere : Client → List Client → Type 0
IsThere client clients = IsOld clients (name_of client client.taken)

same_order : (n : ℕ) → nat_le n n ≡ true
same_order n = le-leb n n (omega arith)

-- what it takes up is old then
pub taken_old : (client : Client) (clients : List Client) → IsThere client clients → IsOld (map (replaced (next_of client)) clients) (name_of client (suc client.taken))
taken_old client [] there = isnt there
taken_old client (other ∷ clients) there = by_test (is_client other.number client.number) there (taken_old client clients) where
  m : MessageName
  m = name_of client (suc client.taken)

  by_test : (b : Bool) → ((b && nat_le client.taken other.taken) || list_any (has_taken (name_of client client.taken)) clients) ≡ true
      → (IsThere client clients → IsOld (map (replaced (next_of client)) clients) m)
      → (has_taken m (if b then next_of client else other) || list_any (has_taken m) (map (replaced (next_of client)) clients)) ≡ true
  by_test true there later = or_left _ _ (and_from _ _ (same_number client.number.0) (same_order (suc client.taken)))
  by_test false there later = or_right _ _ (later there)

-- and what it took up before
pub lower_old : (client : Client) (m : MessageName) (clients : List Client) → is_client m.client client.number ≡ true → nat_le m.ordinal client.taken ≡ true
    → IsThere client clients → IsOld clients m
lower_old client m [] same below there = isnt there
lower_old client m (other ∷ clients) same below there =
    or_more (has_taken (name_of client client.taken) other) _ (has_taken m other) _
    (λ took. let parts = and_parts (is_client other.number client.number) (nat_le client.taken other.taken) took in
    and_from _ _ (ap (is_client other.number) (client_of m.client client.number same) ∙ parts.0) (most m.ordinal client.taken other.taken below parts.1))
    (lower_old client m clients same below) there
  where
    most : (a b c : ℕ) → nat_le a b ≡ true → nat_le b c ≡ true → nat_le a c ≡ true
    most a b c first second = le-leb a c (omega (arith, leb-true a b first, leb-true b c second))

-- a client that is there has one of the numbers
pub number_within : (from : ℕ) (client : Client) (clients : List Client) → AreNumbered from clients → IsThere client clients → client.number.0 < from + length clients
number_within from client [] are there = isnt there
number_within from client (other ∷ clients) are there =
    by_test (is_client other.number client.number) refl there (number_within (suc from) client clients are.1) where
      by_test : (b : Bool) → is_client other.number client.number ≡ b → ((b && nat_le client.taken other.taken) || list_any (has_taken (name_of client client.taken)) clients) ≡ true
          → (IsThere client clients → client.number.0 < suc from + length clients) → client.number.0 < from + suc (length clients)
      by_test true same there later =
          let is : other.number.0 ≡ client.number.0 = ap (λ (n : ClientNo). n.0) (client_of other.number client.number same) in
          let at : other.number.0 ≡ from = are.0 in omega (arith, is, at)
      by_test false same there later = let more : client.number.0 < suc from + length clients = later there in omega (arith, more)

-- what comes next isn't old
pub next_new : {A : Type 0} (client : Client) (clients : List Client) → IsLatest client clients → IsOld clients (name_of client (suc client.taken)) → A
next_new client [] latest old = isnt old
next_new client (other ∷ clients) latest old =
    let parts = and_parts (is_behind client other) (list_all (is_behind client) clients) latest in
    by_test (is_client other.number client.number) parts.0 old (next_new client clients parts.1) where
      by_test : {A : Type 0} (b : Bool) → (not b || nat_le other.taken client.taken) ≡ true
          → ((b && nat_le (suc client.taken) other.taken) || list_any (has_taken (name_of client (suc client.taken))) clients) ≡ true
          → (IsOld clients (name_of client (suc client.taken)) → A) → A
      by_test true behind old later = by_order (nat_le (suc client.taken) other.taken) refl old later where
        by_order : {A : Type 0} (c : Bool) → nat_le (suc client.taken) other.taken ≡ c → (c || list_any (has_taken (name_of client (suc client.taken))) clients) ≡ true
            → (IsOld clients (name_of client (suc client.taken)) → A) → A
        by_order true more old later = absurd (omega (arith, leb-true (suc client.taken) other.taken more, leb-true other.taken client.taken behind))
        by_order false more old later = later old
      by_test false behind old later = later old

-- Each client of a numbered list is the latest of its number.

abbrev pub IsIn : Client → List Client → Type 0
IsIn client [] = ⊥
IsIn client (other ∷ clients) = (client ≡ other) ⊎ IsIn client clients

differs : (client other : Client) → client.number.0 < other.number.0 ⊎ other.number.0 < client.number.0 → is_client other.number client.number ≡ false
differs client other (inl less) = ne_eqb other.number.0 client.number.0 (λ same. omega (arith, same, less))
differs client other (inr more) = ne_eqb other.number.0 client.number.0 (λ same. omega (arith, same, more))

behind_by : (client other : Client) → is_client other.number client.number ≡ false → is_behind client other ≡ true
behind_by client other apart = ap (λ b. not b || nat_le other.taken client.taken) apart

latest_before : (client : Client) (from : ℕ) (clients : List Client) → AreNumbered from clients → client.number.0 < from → IsLatest client clients
latest_before client from [] are less = refl
latest_before client from (other ∷ clients) are less =
    and_from _ _ (behind_by client other (differs client other (inl (let is : other.number.0 ≡ from = are.0 in omega arith))))
    (latest_before client (suc from) clients are.1 (omega arith))

in_from : (client : Client) (from : ℕ) (clients : List Client) → AreNumbered from clients → IsIn client clients → from ≤ client.number.0
in_from client from [] are there = absurd there
in_from client from (other ∷ clients) are (inl same) =
    let is : client.number.0 ≡ from = ap (λ (c : Client). c.number.0) same ∙ are.0 in omega arith
in_from client from (other ∷ clients) are (inr there) = let later : suc from ≤ client.number.0 = in_from client (suc from) clients are.1 there in omega arith

pub latest_in : (client : Client) (from : ℕ) (clients : List Client) → AreNumbered from clients → IsIn client clients → IsLatest client clients
latest_in client from [] are there = absurd there
latest_in client from (other ∷ clients) are (inl same) =
    let is : client.number.0 ≡ from = ap (λ (c : Client). c.number.0) same ∙ are.0 in
    and_from _ _ (or_right (not (is_client other.number client.number)) _ (le-leb other.taken client.taken (let taken : client.taken ≡ other.taken = ap (λ (c : Client). c.taken) same in omega arith)))
    (latest_before client (suc from) clients are.1 (omega arith))
latest_in client from (other ∷ clients) are (inr there) =
    let later : suc from ≤ client.number.0 = in_from client (suc from) clients are.1 there in
    and_from _ _ (behind_by client other (differs client other (inr (let is : other.number.0 ≡ from = are.0 in omega arith))))
    (latest_in client (suc from) clients are.1 there)

pub there_in : (client : Client) (clients : List Client) → IsIn client clients → IsThere client clients
there_in client [] there = absurd there
there_in client (other ∷ clients) (inl same) =
    or_left _ _ (and_from _ _ (ap (λ (c : Client). is_client c.number client.number) (sym same) ∙ same_number client.number.0)
    (ap (λ (c : Client). nat_le client.taken c.taken) (sym same) ∙ same_order client.taken))
there_in client (other ∷ clients) (inr there) = or_right _ _ (there_in client clients there)

-- as another takes up messages it stays so

pub record IsReady (client : Client) (clients : List Client) : Type 0 where
  pub latest : IsLatest client clients
  pub there : IsThere client clients

and_more : (a b c d : Bool) → (a ≡ true → c ≡ true) → (b ≡ true → d ≡ true) → (a && b) ≡ true → (c && d) ≡ true
and_more a b c d first second is = let parts = and_parts a b is in and_from c d (first parts.0) (second parts.1)

latest_apart : (client one : Client) → is_client one.number client.number ≡ false → (clients : List Client) → IsLatest client clients
    → IsLatest client (map (replaced one) clients)
latest_apart client one apart [] latest = refl
latest_apart client one apart (other ∷ clients) latest =
    and_more (is_behind client other) _ (is_behind client (replaced one other)) _ (λ is. by_test (is_client other.number one.number) is)
    (latest_apart client one apart clients) latest
  where
    by_test : (b : Bool) → is_behind client other ≡ true → is_behind client (if b then one else other) ≡ true
    by_test true is = behind_by client one apart
    by_test false is = is

there_apart : (client one : Client) → is_client one.number client.number ≡ false → (clients : List Client) → IsThere client clients
    → IsThere client (map (replaced one) clients)
there_apart client one apart [] there = isnt there
there_apart client one apart (other ∷ clients) there =
    or_more (has_taken m other) _ (has_taken m (replaced one other)) _ (λ is. by_test (is_client other.number one.number) refl is)
    (there_apart client one apart clients) there
  where
    m : MessageName
    m = name_of client client.taken

    by_test : (b : Bool) → is_client other.number one.number ≡ b → has_taken m other ≡ true → has_taken m (if b then one else other) ≡ true
    by_test true same is =
        isnt (sym apart ∙ ap (λ n. is_client n client.number) (sym (client_of other.number one.number same)) ∙ (and_parts (is_client other.number client.number) _ is).0)
    by_test false same is = is

pub ready_apart : (client one : Client) → is_client one.number client.number ≡ false → (clients : List Client) → IsReady client clients
    → IsReady client (map (replaced one) clients)
ready_apart client one apart clients ready = record { latest = latest_apart client one apart clients ready.latest; there = there_apart client one apart clients ready.there }

-- and behind its own
latest_next : (client : Client) (clients : List Client) → IsLatest client clients → IsLatest (next_of client) (map (replaced (next_of client)) clients)
latest_next client [] latest = refl
latest_next client (other ∷ clients) latest =
    and_more (is_behind client other) _ (is_behind (next_of client) (replaced (next_of client) other)) _ (λ is. by_test (is_client other.number client.number) refl is)
    (latest_next client clients) latest
  where
    by_test : (b : Bool) → is_client other.number client.number ≡ b → is_behind client other ≡ true → is_behind (next_of client) (if b then next_of client else other) ≡ true
    by_test true same is = or_right (not (is_client client.number client.number)) _ (le-leb (suc client.taken) (suc client.taken) (omega arith))
    by_test false same is = behind_by (next_of client) other same

pub ready_next : (client : Client) (clients : List Client) → IsReady client clients → IsReady (next_of client) (map (replaced (next_of client)) clients)
ready_next client clients ready = record { latest = latest_next client clients ready.latest; there = taken_old client clients ready.there }
