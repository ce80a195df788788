-- Texts that come, and are forgotten.
use Rattle.std.specs.Prelude.{◌≡◌, ◌⊎◌, ◌+◌, ◌<◌, ◌≤◌, ℕ, Bool, true, false, bytes_eq, nat_eq, if◌then◌else◌, List, Some, None}
use Rattle.std.proofs.Common.{refl, sym, ap, ◌∙◌, inl, inr, arith}
use Rattle.std.proofs.lemmas.Bool.{ne_eqb, true≢false}
use Rattle.std.proofs.lemmas.Slice.Eq.{bytes_eq-Decides}
use Rattle.mx_base.specs.declared.names.ClientNo.{ClientNo}
use Rattle.session_vars.specs.Settings.{AreSettings}
use Rattle.session_vars.specs.declared.change.SlotValue.{SlotValue}
use Rattle.session_state.specs.declared.place.Place.{Place}
use Rattle.place_keys.specs.Keys.{place_key}
use Rattle.private_model.proofs.Maps.{number_of}
use Rattle.private_model.specs.Story.{Key}
use Rattle.core_texts.specs.Texts.{AreLess, AreMore, key_at, noted_at}
use Rattle.core_texts.specs.declared.noted.Noted.{Noted}
use Rattle.core_texts.specs.declared.texts.Texts.{Texts}

pub same_more : (old new : Texts) → new.last ≡ old.last → new.since ≡ old.since → ((c : ClientNo) → noted_at new c ≡ noted_at old c)
    → ((n : ℕ) → key_at new n ≡ key_at old n) → AreMore old new
same_more old new last since noted same = record {
  last = omega (arith, last);
  since = since;
  noted = noted;
  kept = λ n key at. same n ∙ at;
  fresh = λ n key at. inl (sym (same n) ∙ at);
}

pub itself_more : (t : Texts) → AreMore t t
itself_more t = record { last = omega arith; since = refl; noted = λ c. refl; kept = λ n key at. at; fresh = λ n key at. inl at }

pub more_on : (a b d : Texts) → AreMore a b → AreMore b d → AreMore a d
more_on a b d one more = record {
  last = (let first : a.last ≤ b.last = one.last in let next : b.last ≤ d.last = more.last in omega (arith, first, next));
  since = more.since ∙ one.since;
  noted = λ c. more.noted c ∙ one.noted c;
  kept = λ n key at. more.kept n key (one.kept n key at);
  fresh = λ n key at. later n key (more.fresh n key at);
} where
  before : (n : ℕ) (key : Key) → (key_at a n ≡ Some key) ⊎ ((a.last < n) × (n ≤ b.last)) → (key_at a n ≡ Some key) ⊎ ((a.last < n) × (n ≤ d.last))
  before n key (inl was) = inl was
  before n key (inr fresh) =
      let within : n ≤ b.last = fresh.1 in let next : b.last ≤ d.last = more.last in inr (fresh.0, omega (arith, within, next))

  later : (n : ℕ) (key : Key) → (key_at b n ≡ Some key) ⊎ ((b.last < n) × (n ≤ d.last)) → (key_at a n ≡ Some key) ⊎ ((a.last < n) × (n ≤ d.last))
  later n key (inl at) = before n key (one.fresh n key at)
  later n key (inr fresh) =
      let above : b.last < n = fresh.0 in let first : a.last ≤ b.last = one.last in inr (omega (arith, above, first), fresh.1)

-- the next comes

other_number : (old : Texts) (n : ℕ) → n ≤ old.last → nat_eq (old.last + 1) n ≡ false
other_number old n below = ne_eqb (old.last + 1) n (λ e. omega (arith, e, below))

pub added_more : (old new : Texts) → new.last ≡ old.last + 1 → new.since ≡ old.since → ((c : ClientNo) → noted_at new c ≡ noted_at old c)
    → ((n : ℕ) → nat_eq (old.last + 1) n ≡ false → key_at new n ≡ key_at old n) → AreMore old new
added_more old new last since noted others = record {
  last = omega (arith, last);
  since = since;
  noted = noted;
  kept = λ n key at. others n (other_number old n (old.counted n key at)) ∙ at;
  fresh = λ n key at. by n key at (nat_eq (old.last + 1) n) refl;
} where
  by : (n : ℕ) (key : Key) → key_at new n ≡ Some key → (b : Bool) → nat_eq (old.last + 1) n ≡ b
      → (key_at old n ≡ Some key) ⊎ ((old.last < n) × (n ≤ new.last))
  by n key at true e =
      let one : old.last + 1 ≡ n = number_of (old.last + 1) n e in
      inr (omega (arith, one), omega (arith, one, last))
  by n key at false e = inl (sym (others n e) ∙ at)

-- it is forgotten
pub gone_less : (old new : Texts) (number : ℕ) → new.last ≡ old.last → ((c : ClientNo) → noted_at new c ≡ noted_at old c)
    → ((n : ℕ) → key_at new n ≡ (if nat_eq number n then None else key_at old n)) → AreLess old new
gone_less old new number last noted removed = record {
  last = last;
  noted = λ c one at. sym (noted c) ∙ at;
  there = λ n key at. by n key at (nat_eq number n) refl;
} where
  by : (n : ℕ) (key : Key) → key_at new n ≡ Some key → (b : Bool) → nat_eq number n ≡ b → key_at old n ≡ Some key
  by n key at true e =
      absurd (let none : key_at new n ≡ None = removed n ∙ ap (λ (b : Bool). if b then None else key_at old n) e in
      let clash : None ≡ Some key = sym none ∙ at in cc)
  by n key at false e = sym (removed n ∙ ap (λ (b : Bool). if b then None else key_at old n) e) ∙ at

pub itself_less : (t : Texts) → AreLess t t
itself_less t = record { last = refl; noted = λ c one at. at; there = λ n key at. at }

pub less_on : (a b d : Texts) → AreLess a b → AreLess b d → AreLess a d
less_on a b d one more = record {
  last = more.last ∙ one.last;
  noted = λ c x at. one.noted c x (more.noted c x at);
  there = λ n key at. one.there n key (more.there n key at);
}

-- nothing is noted of a client any more
pub dropped_less : (old new : Texts) (client : ℕ) → new.last ≡ old.last → ((n : ℕ) → key_at new n ≡ key_at old n)
    → ((c : ClientNo) → noted_at new c ≡ (if nat_eq client c.0 then None else noted_at old c)) → AreLess old new
dropped_less old new client last same dropped = record {
  last = last;
  noted = λ c one at. by c one at (nat_eq client c.0) refl;
  there = λ n key at. sym (same n) ∙ at;
} where
  by : (c : ClientNo) (one : Noted) → noted_at new c ≡ Some one → (b : Bool) → nat_eq client c.0 ≡ b → noted_at old c ≡ Some one
  by c one at true e =
      absurd (let none : noted_at new c ≡ None = dropped c ∙ ap (λ (b : Bool). if b then None else noted_at old c) e in
      let clash : None ≡ Some one = sym none ∙ at in cc)
  by c one at false e = sym (dropped c ∙ ap (λ (b : Bool). if b then None else noted_at old c) e) ∙ at

-- one that nobody needs is forgotten
pub needed_kept : (has : ℕ → Bool) (old mid new : Texts) (number : ℕ) → has number ≡ false
    → ((n : ℕ) → nat_eq number n ≡ false → key_at new n ≡ key_at mid n) → ((n : ℕ) → has n ≡ true → key_at mid n ≡ key_at old n)
    → (n : ℕ) → has n ≡ true → key_at new n ≡ key_at old n
needed_kept has old mid new number needless others before n needs = by (nat_eq number n) refl where
  by : (b : Bool) → nat_eq number n ≡ b → key_at new n ≡ key_at old n
  by true same = absurd (true≢false (sym needs ∙ ap has (sym (number_of number n same)) ∙ needless))
  by false other = others n other ∙ before n needs

-- the same place

pub same_bytes : (a b : List ℕ) → bytes_eq a b ≡ true → a ≡ b
same_bytes a b is = (bytes_eq-Decides a b).0 is

pub place_same : ((schema other : List ℕ) (a b : List SlotValue) → AreSettings a → AreSettings b → place_key schema a ≡ place_key other b
    → (schema ≡ other) × (a ≡ b)) → (x y : Place) → AreSettings x.settings → AreSettings y.settings
    → place_key x.schema x.settings ≡ place_key y.schema y.settings → x ≡ y
place_same apart x y one other same =
    let parts = apart x.schema y.schema x.settings y.settings one other same in
    λ i. record { schema = parts.0 i; settings = parts.1 i }
