-- The first line of a text, by where its line feed is.
use Rattle.std.proofs.Common.{◌≡◌, ◌≢◌, ℕ, zero, suc, ◌<◌, true, false, eqb, List, [], ◌∷◌, length, take, drop, get_or, refl, inl, inr, arith}
use Rattle.std.proofs.lemmas.Bool.{cases_Bool}
use Rattle.audit_report.specs.Lines.{lines_of}

-- no line feed below this place
abbrev pub NoFeed : List ℕ → ℕ → Type 0
NoFeed text n = (k : ℕ) → k < n → eqb (get_or text k 0) 10 ≡ false

feedless-tail : (b : ℕ) (text : List ℕ) (n : ℕ) → NoFeed (b ∷ text) (suc n) → NoFeed text n
feedless-tail b text n none k below = none (suc k) (omega arith)

-- a line feed at a place
pub line-to : (text : List ℕ) (at : ℕ) → at < length text → NoFeed text at → eqb (get_or text at 0) 10 ≡ true → lines_of text ≡ take at text ∷ lines_of (drop (suc at) text)
line-to [] at below none here = absurd (omega arith)
line-to (b ∷ text) zero below none here = rw here refl
line-to (b ∷ text) (suc at) below none here =
    let first : eqb b 10 ≡ false = none 0 (omega arith) in
    let rest = line-to text at (omega arith) (feedless-tail b text at none) here in
    rw (first, rest) refl

-- none
pub line-whole : (b : ℕ) (text : List ℕ) → NoFeed (b ∷ text) (length (b ∷ text)) → lines_of (b ∷ text) ≡ (b ∷ text) ∷ []
line-whole b [] none = let first : eqb b 10 ≡ false = none 0 (omega arith) in rw first refl
line-whole b (c ∷ text) none =
    let first : eqb b 10 ≡ false = none 0 (omega arith) in
    let rest = line-whole c text (feedless-tail b (c ∷ text) (length (c ∷ text)) none) in
    rw (first, rest) refl

pub not-feed : (b : ℕ) → (eqb b 10 ≡ true → ⊥) → eqb b 10 ≡ false
not-feed b never = elim (cases_Bool (eqb b 10)) [
  | inl feed ↦ absurd (never feed)
  | inr other ↦ other
]

pub line-alone : (text : List ℕ) → text ≢ [] → NoFeed text (length text) → lines_of text ≡ text ∷ []
line-alone [] some none = absurd (some refl)
line-alone (b ∷ text) some none = line-whole b text none
