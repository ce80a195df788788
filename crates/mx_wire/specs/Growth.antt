-- What one more entry changes of what is said of a log, and what it leaves.
use Rattle.std.specs.Prelude.{◌≡◌, ◌⊎◌, ℕ, Bool, true, false, nat_eq, List, [], ◌∷◌, ◌++◌, fold, refl}
use Rattle.std.specs.List.{flat_map}
use Rattle.std.proofs.Common.{◌∙◌, ap, append-nil, inl, inr, arith}
use Rattle.std.proofs.lemmas.List.Elements.{filter-append}
use Rattle.std.proofs.lemmas.List.Sums.{fold-append}
use Rattle.std.proofs.lemmas.Grind.{flat_map-append}
use Rattle.mx_base.specs.declared.names.LinkId.{LinkId}
use Rattle.mx_wire.specs.Log.{Log, link_of, is_link, of_link, moment_step, moment_of}
use Rattle.mx_wire.specs.declared.entry.Entry.{Entry}

pub bool_cases : (b : Bool) → (b ≡ true) ⊎ (b ≡ false)
bool_cases true = inl refl
bool_cases false = inr refl

pub same_number : (n : ℕ) → nat_eq n n ≡ true
same_number n = search arith

pub nat_eq-sym : (a b : ℕ) → nat_eq a b ≡ false → nat_eq b a ≡ false
nat_eq-sym a b apart = grind arith

-- the entries of a link, with one more of it or of another
pub of_link-same : (link : LinkId) (log : Log) (e : Entry) → is_link link (link_of e) ≡ true → of_link link (log ++ e ∷ []) ≡ of_link link log ++ e ∷ []
of_link-same link log e here = rw (filter-append, here)

pub of_link-other : (link : LinkId) (log : Log) (e : Entry) → is_link link (link_of e) ≡ false → of_link link (log ++ e ∷ []) ≡ of_link link log
of_link-other link log e other = rw (filter-append, other) (append-nil (of_link link log))

-- the bytes of a link, with one more entry of it, of another, or without such bytes
pub bytes-same : (f : Entry → List ℕ) (link : LinkId) (log : Log) (e : Entry) → is_link link (link_of e) ≡ true → flat_map f (of_link link (log ++ e ∷ [])) ≡ flat_map f (of_link link log) ++ f e
bytes-same f link log e here =
    let one : f e ++ [] ≡ f e = append-nil (f e) in
    ap (flat_map f) (of_link-same link log e here) ∙ flat_map-append f (of_link link log) (e ∷ []) ∙ ap (λ xs. flat_map f (of_link link log) ++ xs) one

pub bytes-other : (f : Entry → List ℕ) (link : LinkId) (log : Log) (e : Entry) → is_link link (link_of e) ≡ false → flat_map f (of_link link (log ++ e ∷ [])) ≡ flat_map f (of_link link log)
bytes-other f link log e other = ap (flat_map f) (of_link-other link log e other)

pub bytes-idle : (f : Entry → List ℕ) (link : LinkId) (log : Log) (e : Entry) → f e ≡ [] → flat_map f (of_link link (log ++ e ∷ [])) ≡ flat_map f (of_link link log)
bytes-idle f link log e idle = elim (bool_cases (is_link link (link_of e))) [
  | inl here ↦ bytes-same f link log e here ∙ ap (λ xs. flat_map f (of_link link log) ++ xs) idle ∙ append-nil (flat_map f (of_link link log))
  | inr other ↦ bytes-other f link log e other
]

-- a fold over the entries of a link
pub step-same : {S : Type 0} (step : S → Entry → S) (start : S) (link : LinkId) (log : Log) (e : Entry) → is_link link (link_of e) ≡ true → fold step start (of_link link (log ++ e ∷ [])) ≡ step (fold step start (of_link link log)) e
step-same step start link log e here = rw (filter-append, here, fold-append) refl

pub step-other : {S : Type 0} (step : S → Entry → S) (start : S) (link : LinkId) (log : Log) (e : Entry) → is_link link (link_of e) ≡ false → fold step start (of_link link (log ++ e ∷ [])) ≡ fold step start (of_link link log)
step-other step start link log e other = rw (filter-append, other) (ap (fold step start) (append-nil (of_link link log)))

pub moment_of-more : (log : Log) (e : Entry) → moment_of (log ++ e ∷ []) ≡ moment_step (moment_of log) e
moment_of-more log e = fold-append moment_step 0 log (e ∷ [])
