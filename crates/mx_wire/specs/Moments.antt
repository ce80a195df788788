-- Facts of each moment of a log, and rules on each of its entries.
use Rattle.std.specs.Prelude.{◌≡◌, ◌⊎◌, ℕ, ◌+◌, ◌<◌, ◌≤◌, [], ◌∷◌, ◌++◌, length, take}
use Rattle.std.proofs.Common.{subst, sym, append_assoc, append-nil, inl, inr, arith, length-append}
use Rattle.std.proofs.lemmas.List.{take-append-le, take_all}
use Rattle.mx_wire.specs.Log.{Log}
use Rattle.mx_wire.specs.declared.entry.Entry.{Entry}

-- it holds at each moment, which is a beginning of the log
abbrev pub AtEachMoment : (Log → Type 0) → Log → Type 0
AtEachMoment P log = (n : ℕ) → P (take n log)

abbrev pub LawfulAfter : (Log → Entry → Type 0) → Log → Log → Type 0
LawfulAfter Rule before [] = Unit {0}
LawfulAfter Rule before (e ∷ later) = Rule before e × LawfulAfter Rule (before ++ e ∷ []) later

-- each entry of the log kept the rule as it was added
abbrev pub AllLawful : (Log → Entry → Type 0) → Log → Type 0
AllLawful Rule log = LawfulAfter Rule [] log

le_or : (n k : ℕ) → (n ≤ k) ⊎ (k < n)
le_or n k = search arith

-- what held at each moment of a log, and holds now, holds at each moment of the longer log
pub moment-more : (P : Log → Type 0) (log : Log) (e : Entry) → AtEachMoment P log → P (log ++ e ∷ []) → AtEachMoment P (log ++ e ∷ [])
moment-more P log e before now n = elim (le_or n (length log)) [
  | inl early ↦ subst P (sym (take-append-le n log (e ∷ []) early)) (before n)
  | inr late ↦ subst P (sym (take_all n (log ++ e ∷ []) (let long : length (log ++ e ∷ []) ≡ length log + 1 = length-append log (e ∷ []) in omega arith))) now
]

-- what holds at each moment holds of the whole log
pub moment-last : (P : Log → Type 0) (log : Log) → AtEachMoment P log → P log
moment-last P log each = subst P (take_all (length log) log (omega arith)) (each (length log))

lawful-from : (Rule : Log → Entry → Type 0) (before log : Log) (e : Entry) → LawfulAfter Rule before log → Rule (before ++ log) e → LawfulAfter Rule before (log ++ e ∷ [])
lawful-from Rule before [] e all now = (subst (λ (l : Log). Rule l e) (append-nil before) now, tt)
lawful-from Rule before (x ∷ log) e all now = (all.0, lawful-from Rule (before ++ x ∷ []) log e all.1 (subst (λ (l : Log). Rule l e) (sym (append_assoc before (x ∷ []) log)) now))

pub lawful-more : (Rule : Log → Entry → Type 0) (log : Log) (e : Entry) → AllLawful Rule log → Rule log e → AllLawful Rule (log ++ e ∷ [])
lawful-more Rule log e all now = lawful-from Rule [] log e all now

lawful-parts : (Rule : Log → Entry → Type 0) (before log : Log) (e : Entry) → LawfulAfter Rule before (log ++ e ∷ []) → LawfulAfter Rule before log × Rule (before ++ log) e
lawful-parts Rule before [] e all = (tt, subst (λ (l : Log). Rule l e) (sym (append-nil before)) all.0)
lawful-parts Rule before (x ∷ log) e all =
    let parts = lawful-parts Rule (before ++ x ∷ []) log e all.1 in
    ((all.0, parts.0), subst (λ (l : Log). Rule l e) (append_assoc before (x ∷ []) log) parts.1)

-- the entries before the last kept the rule, and so did the last
pub lawful-last : (Rule : Log → Entry → Type 0) (log : Log) (e : Entry) → AllLawful Rule (log ++ e ∷ []) → AllLawful Rule log × Rule log e
lawful-last Rule log e all = lawful-parts Rule [] log e all

after-each : (Rule : Log → Entry → Type 0) (P : Log → Type 0) (before log : Log) → ((l : Log) (e : Entry) → Rule l e → P l → P (l ++ e ∷ [])) → P before → LawfulAfter Rule before log → P (before ++ log)
after-each Rule P before [] more start all = subst P (sym (append-nil before)) start
after-each Rule P before (e ∷ log) more start all = subst P (append_assoc before (e ∷ []) log) (after-each Rule P (before ++ e ∷ []) log more (more before e all.0 start) all.1)

-- what each entry that keeps the rule leaves so is so of the log
pub lawful-each : (Rule : Log → Entry → Type 0) (P : Log → Type 0) (log : Log) → ((l : Log) (e : Entry) → Rule l e → P l → P (l ++ e ∷ [])) → P [] → AllLawful Rule log → P log
lawful-each Rule P log more start all = after-each Rule P [] log more start all
