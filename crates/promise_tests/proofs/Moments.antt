-- What tests show that pass at each moment, and at each entry, of a log.
use Rattle.std.specs.Prelude.{◌≡◌, ℕ, zero, suc, Bool, true, ◌&&◌, [], ◌∷◌, ◌++◌, take}
use Rattle.std.proofs.Common.{subst, sym, append_assoc, append-nil}
use Rattle.std.proofs.lemmas.Bool.{and_parts}
use Rattle.std.proofs.lemmas.List.Sums.{fold-append}
use Rattle.mx_wire.specs.Log.{Log}
use Rattle.mx_wire.specs.Moments.{AllLawful, AtEachMoment, LawfulAfter}
use Rattle.mx_wire.specs.declared.entry.Entry.{Entry}
use Rattle.router_promises.specs.Now.{Now, next, now_at}
use Rattle.router_promises.specs.Terms.{Terms}
use Rattle.promise_tests.specs.Tests.{each_entry, each_moment}

pub now-more : (terms : Terms) (log : Log) (e : Entry) → now_at terms (log ++ e ∷ []) ≡ next terms (now_at terms log) e
now-more terms log e = fold-append (next terms) _ log (e ∷ [])

moment-from : (terms : Terms) (test : Log → Now → Bool) (before log : Log) → each_moment terms test before (now_at terms before) log ≡ true → (n : ℕ) → test (before ++ take n log) (now_at terms (before ++ take n log)) ≡ true
moment-from terms test before [] so zero = subst (λ (l : Log). test l (now_at terms l) ≡ true) (sym (append-nil before)) so
moment-from terms test before [] so (suc n) = subst (λ (l : Log). test l (now_at terms l) ≡ true) (sym (append-nil before)) so
moment-from terms test before (e ∷ log) so zero = subst (λ (l : Log). test l (now_at terms l) ≡ true) (sym (append-nil before)) (and_parts _ _ so).0
moment-from terms test before (e ∷ log) so (suc n) =
    let rest : each_moment terms test (before ++ e ∷ []) (now_at terms (before ++ e ∷ [])) log ≡ true =
    subst (λ (now : Now). each_moment terms test (before ++ e ∷ []) now log ≡ true) (sym (now-more terms before e)) (and_parts _ _ so).1 in
    subst (λ (l : Log). test l (now_at terms l) ≡ true) (append_assoc before (e ∷ []) (take n log)) (moment-from terms test (before ++ e ∷ []) log rest n)

-- what a test shows that is so of each moment
pub moments-so : (terms : Terms) (test : Log → Now → Bool) (P : Log → Type 0) (log : Log) → ((l : Log) → test l (now_at terms l) ≡ true → P l) → each_moment terms test [] (now_at terms []) log ≡ true → AtEachMoment P log
moments-so terms test P log sound so n = sound (take n log) (moment-from terms test [] log so n)

entry-from : (terms : Terms) (test : Log → Now → Entry → Bool) (Rule : Log → Entry → Type 0) (before log : Log) → ((l : Log) (e : Entry) → test l (now_at terms l) e ≡ true → Rule l e) → each_entry terms test before (now_at terms before) log ≡ true → LawfulAfter Rule before log
entry-from terms test Rule before [] sound so = tt
entry-from terms test Rule before (e ∷ log) sound so =
    let rest : each_entry terms test (before ++ e ∷ []) (now_at terms (before ++ e ∷ [])) log ≡ true =
    subst (λ (now : Now). each_entry terms test (before ++ e ∷ []) now log ≡ true) (sym (now-more terms before e)) (and_parts _ _ so).1 in
    (sound before e (and_parts _ _ so).0, entry-from terms test Rule (before ++ e ∷ []) log sound rest)

-- what a test shows that is so of each entry
pub entries-so : (terms : Terms) (test : Log → Now → Entry → Bool) (Rule : Log → Entry → Type 0) (log : Log) → ((l : Log) (e : Entry) → test l (now_at terms l) e ≡ true → Rule l e) → each_entry terms test [] (now_at terms []) log ≡ true → AllLawful Rule log
entries-so terms test Rule log sound so = entry-from terms test Rule [] log sound so
