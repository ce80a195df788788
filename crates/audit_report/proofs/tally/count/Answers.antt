use Rattle.std.proofs.Common.{cond, Some, refl, sym, ap, ◌∙◌}
use Rattle.std.specs.Option.{is_some}
use Rattle.indexmap.specs.IndexMap.{get}
use Rattle.audit_report.specs.Keys.{same_key}
use Rattle.audit_report.specs.declared.key.Key.{Key}
use Rattle.audit_report.specs.declared.tally.Tally.{Tally}
use Rattle.audit_report.proofs.Counting.{count-found, count-new, nothing-found}
use Rattle.audit_report.proofs.tally.count.Goals as goal

pub returns-in-Some : goal.returns-in-Some
returns-in-Some c =
    let key : Key = c.args.key in
    let tally : Tally = c.in-Some.tally.now in
    let last : Tally = record { count = c.saturating_add-tally.result; first = tally.first } in
    let found = sym c.in-Some.ensures.value in
    let updates = (c.get_mut.follows.holds last).3 (ap is_some found) in
    count-found (λ q. get same_key c.args.tallies.now q) (λ q. get same_key (c.get_mut.follows.lender last) q) key c.args.later tally found
    (λ q. updates.0 q ∙ ap (λ n. let more : Tally = record { count = n; first = tally.first } in cond (same_key key q) (Some more) (get same_key c.args.tallies.now q)) c.saturating_add-tally.ensures)

pub returns : goal.returns
returns c =
    let key : Key = c.args.key in
    count-new (λ q. get same_key c.args.tallies.now q) (λ q. get same_key c.insert.new.self q) key c.args.later (nothing-found c.get_mut.result _ c.get_mut.ensures.value c.in_default.not-Some)
    (λ q. c.in_ok-insert.ensures.updates.0 q ∙ rw (c.get_mut.follows.holds-at-none) refl)
