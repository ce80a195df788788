-- The numbers of clients that are called, in their order.
use Rattle.std.specs.Prelude.{◌≡◌, ◌<◌, ◌||◌, ℕ, Bool, true, false, All, nat_eq, not, if◌then◌else◌, List, [], ◌∷◌, ◌++◌, Option, Some, None}
use Rattle.std.specs.BTreeSet.{insert_key, keys}
use Rattle.std.specs.List.{AllByRecursion, list_any}
use Rattle.std.specs.List.Sorted.{IsStrictlySortedBy}
use Rattle.std.specs.Ordering.{MatchOrdering, match_ordering, nat_cmp}
use Rattle.std.specs.declared.cmp.Ordering.{Ordering}
use Rattle.std.specs.declared.cmp.Ordering.TheVariants.{Less, Equal, Greater}
use Rattle.std.proofs.Common.{refl, sym, ap, ◌∙◌, subst, append-nil}
use Rattle.std.proofs.lemmas.Bool.{eq-eqb, true≢false}
use Rattle.std.proofs.lemmas.Cmp.{ranked}
use Rattle.std.proofs.lemmas.List.{append_assoc}
use Rattle.std.proofs.lemmas.List.Elements.{All-cons, All-nil}
use Rattle.std.proofs.lemmas.Map.Keys.{sorted_head, sorted_tail}
use Rattle.private_model.proofs.Maps.{client_of}
use Rattle.private_model.specs.Names.{ClientNo}
use Rattle.client_seat.specs.Seats.{is_ended}
use Rattle.core_tables.specs.Tables.{Tabled}
use Rattle.core_tables.specs.declared.client.Client.{Client}
use Rattle.core_laws.specs.clients.Going.{is_going}
use Rattle.router_laws.specs.wakes.Calling.{IsThere}
use Rattle.shared_core.specs.Follows.{AreRising, is_of}
use Rattle.shared_core.specs.Stands.{is_roomy}
use Rattle.shared_core.specs.Wakes.{AreCalled, going_in, going_more}
use Rattle.shared_core.specs.declared.roomy.Roomy.{Roomy}
use Rattle.shared_core.proofs.Rooming.{any_more, or_true}

pub or_first : (a b : Bool) → a ≡ true → (a || b) ≡ true
or_first true b is = refl
or_first false b is = absurd (true≢false (sym is))

pub or_by : {A : Type 0} (a b : Bool) → (a || b) ≡ true → (a ≡ true → A) → (b ≡ true → A) → A
or_by true b is left right = left refl
or_by false b is left right = right is

not_false : (b : Bool) → not b ≡ true → b ≡ false
not_false true is = absurd (true≢false (sym is))
not_false false is = refl

-- One who goes on is there.

pub there_by : (t : Tabled) (c : ClientNo) (found : Option Client) → t.clients c ≡ found → is_going found ≡ true → IsThere t c
there_by t c (Some row) there going = record { row = row; there = there; going = not_false (is_ended row.desk.seat.phase) going }
there_by t c None there going = absurd (true≢false (sym going))

-- Those of some numbers who go on.

above : (P : ClientNo → Type 0) (t : Tabled) (ns : List ℕ) → AllByRecursion (λ (n : ℕ). P (record { 0 = n })) ns → All P (going_in t ns)
above P t [] all = All-nil P
above P t (n ∷ ns) all = by (is_going (t.clients (record { 0 = n }))) (above P t ns all.1) where
  by : (b : Bool) → All P (going_in t ns) → All P (if b then record { 0 = n } ∷ going_in t ns else going_in t ns)
  by true later = All-cons P (record { 0 = n }) (going_in t ns) all.0 later
  by false later = later

below : (n m : ℕ) → nat_cmp n m ≡ Less → n < m
below n m is = let P : Ordering → Type 0 = λ o. MatchOrdering o (n < m) (n ≡ m) (m < n) in subst P is (ranked n m (nat_cmp n m) refl)

all_below : (n : ℕ) (ns : List ℕ) → AllByRecursion (λ (m : ℕ). nat_cmp n m ≡ Less) ns → AllByRecursion (λ (m : ℕ). n < m) ns
all_below n [] all = tt
all_below n (m ∷ ns) all = (below n m all.0, all_below n ns all.1)

going_rises : (t : Tabled) (ns : List ℕ) → IsStrictlySortedBy nat_cmp ns → AreRising (going_in t ns)
going_rises t [] sorted = tt
going_rises t (n ∷ ns) sorted = by (is_going (t.clients (record { 0 = n }))) (going_rises t ns (sorted_tail nat_cmp n ns sorted)) where
  by : (b : Bool) → AreRising (going_in t ns) → AreRising (if b then record { 0 = n } ∷ going_in t ns else going_in t ns)
  by true later = (above (λ (c : ClientNo). n < c.0) t ns (all_below n ns (sorted_head nat_cmp n ns sorted)), later)
  by false later = later

pub going_rise : (t : Tabled) (ns left : List ℕ) (clients : List ClientNo) → left ≡ [] → clients ++ going_in t left ≡ going_in t ns
    → IsStrictlySortedBy nat_cmp ns → AreRising clients
going_rise t ns left clients none is sorted =
    let all : going_in t ns ≡ clients = sym is ∙ (ap (λ (ks : List ℕ). clients ++ going_in t ks) none ∙ append-nil clients) in
    subst AreRising all (going_rises t ns sorted)

pub going_goes_on : (t : Tabled) (n : ℕ) (before left : List ℕ) (clients now all : List ClientNo) → before ≡ n ∷ left
    → now ≡ going_more t (record { 0 = n }) clients → clients ++ going_in t before ≡ all → now ++ going_in t left ≡ all
going_goes_on t n before left clients now all next kept was =
    ap (λ (cs : List ClientNo). cs ++ going_in t left) kept ∙ (by (is_going (t.clients (record { 0 = n })))
    ∙ (ap (λ (ns : List ℕ). clients ++ going_in t ns) (sym next) ∙ was)) where
      by : (b : Bool) → (if b then clients ++ record { 0 = n } ∷ [] else clients) ++ going_in t left
          ≡ clients ++ (if b then record { 0 = n } ∷ going_in t left else going_in t left)
      by true = append_assoc clients (record { 0 = n } ∷ []) (going_in t left)
      by false = refl

going_there : (t : Tabled) (ns : List ℕ) → All (λ (c : ClientNo). IsThere t c) (going_in t ns)
going_there t [] = All-nil _
going_there t (n ∷ ns) = by (is_going (t.clients (record { 0 = n }))) refl (going_there t ns) where
  by : (b : Bool) → is_going (t.clients (record { 0 = n })) ≡ b → All (λ (c : ClientNo). IsThere t c) (going_in t ns)
      → All (λ (c : ClientNo). IsThere t c) (if b then record { 0 = n } ∷ going_in t ns else going_in t ns)
  by true is later =
      All-cons (λ (c : ClientNo). IsThere t c) (record { 0 = n }) (going_in t ns) (there_by t (record { 0 = n }) (t.clients (record { 0 = n })) refl is) later
  by false is later = later

going_among : (t : Tabled) (c : ClientNo) (ns : List ℕ) → list_any (nat_eq c.0) ns ≡ true → is_going (t.clients c) ≡ true
    → is_of (going_in t ns) c ≡ true
going_among t c [] is going = absurd (true≢false (sym is))
going_among t c (n ∷ ns) is going = by (is_going (t.clients (record { 0 = n }))) refl (λ some. going_among t c ns some going) where
  by : (b : Bool) → is_going (t.clients (record { 0 = n })) ≡ b → (list_any (nat_eq c.0) ns ≡ true → is_of (going_in t ns) c ≡ true)
      → is_of (if b then record { 0 = n } ∷ going_in t ns else going_in t ns) c ≡ true
  by true goes later =
      or_by (nat_eq c.0 n) (list_any (nat_eq c.0) ns) is (λ e. or_first (nat_eq c.0 n) (is_of (going_in t ns) c) e)
      (λ e. or_true (nat_eq c.0 n) (is_of (going_in t ns) c) (later e))
  by false gone later =
      or_by (nat_eq c.0 n) (list_any (nat_eq c.0) ns) is
      (λ e. absurd (true≢false (sym going ∙ (ap (λ (k : ClientNo). is_going (t.clients k)) (client_of c (record { 0 = n }) e) ∙ gone)))) later

-- They are all who are called.
pub called_so : (called : Roomy) (t : Tabled) (ns : List ℕ) (clients : List ClientNo) → clients ≡ going_in t ns → AreRising clients
    → ((c : ClientNo) → is_roomy called c ≡ true → is_going (t.clients c) ≡ true → list_any (nat_eq c.0) ns ≡ true) → AreCalled called clients t
called_so called t ns clients is rising all = record {
  rising = rising;
  there = let P : List ClientNo → Type 0 = λ cs. All (λ (c : ClientNo). IsThere t c) cs in subst P (sym is) (going_there t ns);
  all = λ c calls going. ap (λ (cs : List ClientNo). is_of cs c) is ∙ going_among t c ns (all c calls going) going;
}

pub some_called : (called : Roomy) (c : ClientNo) → called.all ≡ false → is_roomy called c ≡ true → list_any (nat_eq c.0) (keys called.some) ≡ true
some_called called c few calls = ap (λ (b : Bool). b || list_any (nat_eq c.0) (keys called.some)) (sym few) ∙ calls

-- Numbers are put into a set one by one.

any_inserted : (k : ℕ) (ks : List ℕ) → list_any (nat_eq k) (insert_key nat_cmp ks k) ≡ true
any_inserted k [] = or_first (nat_eq k k) false (eq-eqb k k refl)
any_inserted k (x ∷ xs) = by (nat_cmp k x) (ranked k x (nat_cmp k x) refl) (any_inserted k xs) where
  by : (o : Ordering) → MatchOrdering o (k < x) (k ≡ x) (x < k) → list_any (nat_eq k) (insert_key nat_cmp xs k) ≡ true
      → list_any (nat_eq k) (match_ordering o (k ∷ x ∷ xs) (x ∷ xs) (x ∷ insert_key nat_cmp xs k)) ≡ true
  by Less is later = or_first (nat_eq k k) (list_any (nat_eq k) (x ∷ xs)) (eq-eqb k k refl)
  by Equal is later = or_first (nat_eq k x) (list_any (nat_eq k) xs) (eq-eqb k x is)
  by Greater is later = or_true (nat_eq k x) (list_any (nat_eq k) (insert_key nat_cmp xs k)) later

pub noted_next : (q x : ℕ) (before now left rest : List ℕ) → left ≡ x ∷ rest → now ≡ insert_key nat_cmp before x
    → (list_any (nat_eq q) before || list_any (nat_eq q) left) ≡ true → (list_any (nat_eq q) now || list_any (nat_eq q) rest) ≡ true
noted_next q x before now left rest first put is =
    ap (λ (ks : List ℕ). list_any (nat_eq q) ks || list_any (nat_eq q) rest) put
    ∙ or_by (list_any (nat_eq q) before) (list_any (nat_eq q) left) is
    (λ e. or_first (list_any (nat_eq q) (insert_key nat_cmp before x)) (list_any (nat_eq q) rest) (any_more (nat_eq q) x before e))
    (λ e. or_by (nat_eq q x) (list_any (nat_eq q) rest) (sym (ap (list_any (nat_eq q)) first) ∙ e)
    (λ same. or_first (list_any (nat_eq q) (insert_key nat_cmp before x)) (list_any (nat_eq q) rest) (here same))
    (λ later. or_true (list_any (nat_eq q) (insert_key nat_cmp before x)) (list_any (nat_eq q) rest) later)) where
      here : nat_eq q x ≡ true → list_any (nat_eq q) (insert_key nat_cmp before x) ≡ true
      here same =
          let its : record { 0 = q } ≡ record { 0 = x } = client_of (record { 0 = q }) (record { 0 = x }) same in
          ap (λ (c : ClientNo). list_any (nat_eq c.0) (insert_key nat_cmp before x)) its ∙ any_inserted x before
