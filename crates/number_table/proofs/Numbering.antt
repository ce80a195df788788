-- What a table of numbers says of its keys.
use Rattle.std.proofs.Common.{◌≡◌, ◌≢◌, ◌<◌, ◌≤◌, ℕ, ◌+◌, Bool, true, List, [], ◌∷◌, ◌++◌, length, length-append, max, refl, sym, ap, subst, ◌∙◌, inl, inr, arith}
use Rattle.std.specs.Prelude.{Result, Ok, Err, IfOk, OnOk, OnErr, Option, Some, None, slice_get, slice_index, nat_lt}
use Rattle.std.specs.Option.{option_map}
use Rattle.std.specs.List.{IsDistinct}
use Rattle.std.specs.Map.{keys_of, lookup}
use Rattle.std.specs.Cmp.{IsEquivalence}
use Rattle.std.proofs.lemmas.Map.Entries.{place_from_lookup, lookup_from_place}
use Rattle.std.proofs.lemmas.Option.{slice_get_within}
use Rattle.std.proofs.lemmas.Bool.{cases_Bool, cases_eq, ltb-false}
use Rattle.std.proofs.Math.Nat.{le-max_left, le-max_right}
use Rattle.std.proofs.Math.ListN.{get_or-append}
use Rattle.std.proofs.Math.Seq.{get_or-append_seam}
use Rattle.indexmap.specs.IndexMap.{IndexMap, get, insert_entry}
use Rattle.indexmap.proofs.CallerLemmas.{insert_entry-new}
use Rattle.number_table.specs.declared.held.Held.{Held}
use Rattle.number_table.specs.Numbers.{AreNumbered, IsFree, IsTable, number_of, numbers_of}
use Rattle.number_table.specs.Orders.{IsPermuted, grown}
use Rattle.number_table.proofs.Lists.{length-insert_entry, length-numbers_of, lookup-equal, number_there, numbers_of-insert_entry, numbers_of-push}

-- what has a number that is known
pub held_of : (found : Option Held) (number : ℕ) → option_map number_of found ≡ Some number → (held : Held) × (found ≡ Some held) × (held.number ≡ number)
held_of None number h = cc
held_of (Some held) number h = (held, refl, cc)

key_or : {K : Type 0} → K → Option (K × Held) → K
key_or key None = key
key_or key (Some e) = e.0

pub length-grown : (order : List ℕ) (taken : ℕ) → (length order ≤ length (grown order taken)) × (length (grown order taken) ≤ max (length order) (taken + 1))
length-grown order taken = elim (cases_Bool (nat_lt taken (length order))) [
  | inl some ↦ rw some (omega arith, le-max_left (length order) (taken + 1))
  | inr none ↦ rw none (
    omega (arith, length-append order (length order ∷ [])),
    omega (arith, length-append order (length order ∷ []), ltb-false taken (length order) none, le-max_right (length order) (taken + 1)),
  )
]

-- numbers stay where they are
pub grown_there : (order : List ℕ) (taken place : ℕ) → place < length order → slice_index (grown order taken) place ≡ slice_index order place
grown_there order taken place within = elim (cases_Bool (nat_lt taken (length order))) [
  | inl some ↦ rw some refl
  | inr none ↦ rw none (get_or-append order (length order ∷ []) 0 place within)
]

pub if_ok_map : {A E : Type 0} {P Q : A → Type 0} (r : Result A E) → IfOk r P → ((x : A) → P x → Q x) → IfOk r Q
if_ok_map (Ok x) h f = f x h
if_ok_map (Err e) h f = tt

module _ {K : Type 0} {eq : K → K → Bool} (laws : IsEquivalence eq) where
  -- where a key stands that has a number
  pub record Stands (entries : List (K × Held)) (order : List ℕ) (key : K) (number : ℕ) : Type 0 where
    pub place : ℕ
    pub stored : K
    pub held : Held
    pub found : lookup (eq key) entries ≡ Some held
    pub there : slice_get entries place ≡ Some (stored, held)
    pub equal : eq key stored ≡ true
    pub within : place < length entries
    pub numbered : held.number ≡ number
    pub ordered : slice_index order place ≡ number

  pub stands : {entries : List (K × Held)} {order : List ℕ} {most : ℕ} → IsTable eq entries order most → (key : K) (number : ℕ)
      → option_map number_of (lookup (eq key) entries) ≡ Some number → Stands entries order key number
  stands {entries} {order} t key number h =
      let at = held_of (lookup (eq key) entries) number h in
      let p = place_from_lookup (eq key) entries at.0 at.1 in
      let within : p.0 < length entries = slice_get_within entries p.0 (p.1, at.0) p.2 in
      record {
        place = p.0;
        stored = p.1;
        held = at.0;
        found = at.1;
        there = p.2;
        equal = p.3;
        within = within;
        numbered = at.2;
        ordered = sym (t.first p.0 within) ∙ number_there entries p.0 p.1 at.0 p.2 ∙ at.2;
      }

  -- the key that stands at a place has the number there
  pub number_by_place : {entries : List (K × Held)} {order : List ℕ} {most : ℕ} → IsTable eq entries order most → (place : ℕ) (key : K) (held : Held)
      → slice_get entries place ≡ Some (key, held) → option_map number_of (lookup (eq key) entries) ≡ Some (slice_index order place)
  number_by_place {entries} t place key held there =
      ap (option_map number_of) (lookup_from_place laws entries place key held t.unique there)
      ∙ ap Some (sym (number_there entries place key held there) ∙ t.first place (slice_get_within entries place (key, held) there))

  pub are_numbered : {entries : List (K × Held)} {order : List ℕ} {most : ℕ} → IsTable eq entries order most → IsPermuted order
      → AreNumbered eq (record { entries = entries; slots = length order; most = most })
  unfolding stands key_or
  are_numbered {entries} {order} t p = record {
    equal = λ a b same. lookup-equal eq laws a b same entries;
    apart = λ a b number at_a at_b.
        let x = stands t a number at_a in
        let y = stands t b number at_b in
        let one : x.place ≡ y.place = p.apart x.place y.place (omega (arith, t.room, x.within)) (omega (arith, t.room, y.within)) (x.ordered ∙ sym y.ordered) in
        let both : slice_get entries x.place ≡ Some (y.stored, y.held) = ap (slice_get entries) one ∙ y.there in
        let stored : x.stored ≡ y.stored = ap (key_or x.stored) (sym x.there ∙ both) in
        laws.congr a x.stored b x.equal ∙ ap (λ (k : K). eq k b) stored ∙ laws.symm y.stored b ∙ y.equal;
    within = λ key number h.
        let x = stands t key number h in
        subst (λ (n : ℕ). n < length order) x.ordered (p.within x.place (omega (arith, t.room, x.within)));
    few = t.few;
  }

  -- no place has a number, so no key has it
  pub free_of : {entries : List (K × Held)} {order : List ℕ} {most : ℕ} → IsTable eq entries order most → (number : ℕ)
      → ((place : ℕ) → place < length entries → slice_index order place ≢ number)
      → IsFree eq (record { entries = entries; slots = length order; most = most }) number
  free_of t number none key h = let x = stands t key number h in none x.place x.within x.ordered

  -- one holds it more
  pub more_table : {entries : List (K × Held)} {order : List ℕ} {most : ℕ} → IsTable eq entries order most → (key : K) (old new : Held)
      → lookup (eq key) entries ≡ Some old → new.number ≡ old.number → IsDistinct eq (keys_of (insert_entry eq entries key new))
      → IsTable eq (insert_entry eq entries key new) order most
  more_table {entries} t key old new found same unique = record {
    unique = unique;
    room = rw (length-insert_entry eq entries key old new found) t.room;
    few = t.few;
    first = λ place within. rw (numbers_of-insert_entry eq entries key old new found same)
        (t.first place (rw (length-insert_entry eq entries key old new found) at within));
  }

  -- there is a number for one key more
  pub grown_table : {entries : List (K × Held)} {order : List ℕ} {most : ℕ} → IsTable eq entries order most
      → length (grown order (length entries)) ≤ most → IsTable eq entries (grown order (length entries)) most
  grown_table {entries} {order} t few = record {
    unique = t.unique;
    room = omega (arith, t.room, length-grown order (length entries));
    few = few;
    first = λ place within. t.first place within ∙ sym (grown_there order (length entries) place (omega (arith, t.room, within)));
  }

  -- a key that has it
  pub added_table : {entries : List (K × Held)} {order : List ℕ} {most : ℕ} → IsTable eq entries order most → (key : K) (new : Held)
      → length entries < length order → new.number ≡ slice_index order (length entries) → IsDistinct eq (keys_of (entries ++ (key, new) ∷ []))
      → IsTable eq (entries ++ (key, new) ∷ []) order most
  added_table {entries} {order} t key new room is unique = record {
    unique = unique;
    room = omega (arith, length-append entries ((key, new) ∷ []), room);
    few = t.few;
    first = λ place within. rw (numbers_of-push entries key new) (elim (cases_eq place (length entries)) [
      | inl last ↦ rw (last, ← length-numbers_of entries) (get_or-append_seam (numbers_of entries) new.number [] 0 ∙ is ∙ ap (slice_index order) (sym (length-numbers_of entries)))
      | inr before ↦
          let below : place < length entries = omega (arith, length-append entries ((key, new) ∷ []), within, before) in
          get_or-append (numbers_of entries) (new.number ∷ []) 0 place (rw (length-numbers_of entries) below) ∙ t.first place below
    ]);
  }

  -- a key that is kept, or wasn't for want of memory
  pub put_more : {E : Type 0} {entries changed : List (K × Held)} {order : List ℕ} {most : ℕ} → IsTable eq entries order most → (key : K) (old new : Held)
      → lookup (eq key) entries ≡ Some old → new.number ≡ old.number → (r : Result ℕ E) → OnOk r (changed ≡ insert_entry eq entries key new)
      → OnErr r (changed ≡ entries) → IsDistinct eq (keys_of changed) → IsTable eq changed order most
  put_more {order = order} {most = most} t key old new found same (Ok number) ok err unique =
      subst (λ (es : List (K × Held)). IsTable eq es order most) (sym ok)
      (more_table t key old new found same (subst (λ (es : List (K × Held)). IsDistinct eq (keys_of es)) ok unique))
  put_more {order = order} {most = most} t key old new found same (Err fault) ok err unique =
      subst (λ (es : List (K × Held)). IsTable eq es order most) (sym err) t

  pub put_added : {E S : Type 0} (m : IndexMap K Held S) {changed : List (K × Held)} {order : List ℕ} {most : ℕ} → IsTable eq m.entries order most
      → (key : K) (new : Held) → get eq m key ≡ None → length m.entries < length order → new.number ≡ slice_index order (length m.entries)
      → (r : Result ℕ E) → OnOk r (changed ≡ insert_entry eq m.entries key new) → OnErr r (changed ≡ m.entries) → IsDistinct eq (keys_of changed)
      → IsTable eq changed order most
  put_added m {order = order} {most = most} t key new none room is (Ok number) ok err unique =
      let added = ok ∙ insert_entry-new eq m key new none in
      subst (λ (es : List (K × Held)). IsTable eq es order most) (sym added)
      (added_table t key new room is (subst (λ (es : List (K × Held)). IsDistinct eq (keys_of es)) added unique))
  put_added m {order = order} {most = most} t key new none room is (Err fault) ok err unique =
      subst (λ (es : List (K × Held)). IsTable eq es order most) (sym err) t

  -- nobody has the number behind those of the keys
  pub next_free : {entries : List (K × Held)} {order : List ℕ} {most : ℕ} → IsTable eq entries order most → IsPermuted order
      → length entries < length order → IsFree eq (record { entries = entries; slots = length order; most = most }) (slice_index order (length entries))
  next_free {entries} {order} t p room =
      free_of t (slice_index order (length entries)) (λ place within same.
      let here : place ≡ length entries = p.apart place (length entries) (omega (arith, t.room, within)) room same in
      absurd (omega (arith, here, within)))

  -- the order as it was grown for one key more
  pub grown_for : {entries : List (K × Held)} {order new : List ℕ} {most : ℕ} → IsTable eq entries order most → (taken : ℕ) → taken ≡ length entries
      → new ≡ grown order taken → (length order ≤ most → length new ≤ most) → IsTable eq entries new most
  grown_for {entries} {order} {new} {most} t taken all is few =
      let whole : new ≡ grown order (length entries) = is ∙ ap (grown order) all in
      subst (λ (o : List ℕ). IsTable eq entries o most) (sym whole) (grown_table t (rw (← whole) (few t.few)))
