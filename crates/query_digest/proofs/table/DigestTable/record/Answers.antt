use Rattle.std.proofs.Common.{◌≡◌, ◌≢◌, ℕ, ◌+◌, ◌-◌, ◌^◌, min, List, length, Some, None, sym, ap, ◌∙◌}
use Rattle.std.specs.Map.{lookup}
use Rattle.indexmap.specs.IndexMap.{insert_entry}
use Rattle.query_digest.specs.Table.{counted, same_key}
use Rattle.query_digest.specs.declared.table.DigestKey.{DigestKey}
use Rattle.query_digest.specs.declared.table.Counted.{Counted}
use Rattle.query_digest.specs.declared.table.Counted.TheVariants.{Added, First, Full}
use Rattle.query_digest.proofs.Counting.{counted-seen, counted-full, counted-new, nothing_found, only_new}
use Rattle.query_digest.proofs.table.DigestTable.record.Goals as goal

pub returns-in-Some-clause-ok : goal.returns-in-Some-clause-ok
returns-in-Some-clause-ok c =
    let key = c.args.key in
    let table : List (DigestKey × ℕ) = c.self.inside.counts.entries in
    let found : lookup (same_key key) table ≡ Some c.in-Some.seen.now = sym c.in-Some.ensures.value in
    let after : c.insert.new.self.entries ≡ insert_entry same_key table key (min (c.in-Some.seen.now + 1) (2 ^ 64 - 1)) = c.in_ok-insert.ensures.entries ∙ ap (insert_entry same_key table key) c.saturating_add-more.ensures in
    ap (λ (entries : List (DigestKey × ℕ)). (Added, entries)) after ∙ sym (counted-seen table key c.in-Some.seen.now found) ∙ ap (λ (entries : List (DigestKey × ℕ)). counted entries key) c.self.view_is

pub returns-then-len-eq-MOST_KEYS-clause-ok : goal.returns-then-len-eq-MOST_KEYS-clause-ok
returns-then-len-eq-MOST_KEYS-clause-ok c =
    let key = c.args.key in
    let table : List (DigestKey × ℕ) = c.self.inside.counts.entries in
    let none : lookup (same_key key) table ≡ None = nothing_found c.get.result _ c.get.ensures.value c.in_default.not-Some in
    let full : length table ≡ 10000 = sym c.len.ensures.len ∙ c.if-len-eq-MOST_KEYS.true in
    let same : (entries : List (DigestKey × ℕ)) → Counted × List (DigestKey × ℕ) = λ entries. (Full, entries) in
    ap same (sym c.self.view_is) ∙ sym (counted-full table key none full) ∙ ap (λ (entries : List (DigestKey × ℕ)). counted entries key) c.self.view_is

pub returns-clause-ok : goal.returns-clause-ok
returns-clause-ok c =
    let key = c.args.key in
    let table : List (DigestKey × ℕ) = c.self.inside.counts.entries in
    let none : lookup (same_key key) table ≡ None = nothing_found c.get.result _ c.get.ensures.value c.in_default.not-Some in
    let room : length table ≢ 10000 = λ is. c.if-len-eq-MOST_KEYS.false (c.len.ensures.len ∙ is) in
    let after : c.insert-2.new.self.entries ≡ insert_entry same_key table key 1 = c.in_ok-insert-2.ensures.entries in
    ap (λ (entries : List (DigestKey × ℕ)). (First, entries)) after ∙ sym (counted-new table key none room) ∙ ap (λ (entries : List (DigestKey × ℕ)). counted entries key) c.self.view_is

pub returns-in_err-insert-2-clause-only_new : goal.returns-in_err-insert-2-clause-only_new
returns-in_err-insert-2-clause-only_new c =
    let key = c.args.key in
    let table : List (DigestKey × ℕ) = c.self.inside.counts.entries in
    let none : lookup (same_key key) table ≡ None = nothing_found c.get.result _ c.get.ensures.value c.in_default.not-Some in
    let room : length table ≢ 10000 = λ is. c.if-len-eq-MOST_KEYS.false (c.len.ensures.len ∙ is) in
    rw (← c.self.view_is) (only_new table key c.from_residual-in_err-insert-2.result none c.self.invariant room)
