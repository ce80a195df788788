use Rattle.std.proofs.Common.{◌≡◌, ◌<◌, ◌++◌, [], List, map, length, Some, sym, refl, ap, subst, ◌∙◌, append-nil}
use Rattle.std.specs.List.{AllByRecursion}
use Rattle.std.specs.Map.{keys_of, lookup}
use Rattle.query_rules.specs.Passing.{rules_of}
use Rattle.audit_report.specs.Keys.{same_key}
use Rattle.audit_report.specs.Tallies.{row_at}
use Rattle.audit_report.specs.declared.key.Key.{Key}
use Rattle.audit_report.specs.declared.row.ReportRow.{ReportRow}
use Rattle.audit_report.specs.declared.tally.Tally.{Tally}
use Rattle.audit_report.proofs.Counting.{all-there, rising}
use Rattle.audit_report.proofs.Reported.{reported}
use Rattle.audit_report.proofs.Tallying.{first-there}
use Rattle.audit_report.proofs.audit.rows_of.Goals as goal

pub loop-key-init : goal.loop-key-init
loop-key-init c =
    let sorted = c.in_ok-sort_keys.ensures in
    let es : List (Key × Tally) = c.sort_keys.new.self.entries in
    let same : c.into_iter-key-iterator.result ≡ es = c.into_iter-key-iterator.ensures.into_iter_gives.0 in
    let found : (q : Key) (tally : Tally) → lookup (same_key q) es ≡ Some tally → tally.first < length c.args.lines.now = λ q tally is. first-there q c.args.lines.now tally (sym (c.requires.tallies q) ∙ sym (sorted.reordered.2 q) ∙ is) in
    record {
      rows = rw (c.in_ok-rows.ensures.items) refl;
      there = subst (AllByRecursion (λ (e : Key × Tally). e.1.first < length c.args.lines.now)) (sym same) (all-there (length c.args.lines.now) es sorted.unique found);
    }

pub returns : goal.returns
returns c =
    let sorted = c.in_ok-sort_keys.ensures in
    let es : List (Key × Tally) = c.sort_keys.new.self.entries in
    let same : c.into_iter-key-iterator.result ≡ es = c.into_iter-key-iterator.ensures.into_iter_gives.0 in
    let left : c.loop-key.key-iterator ≡ [] = c.in-None.ensures.steps.0 in
    let row : Key × Tally → ReportRow = λ e. row_at (rules_of c.args.rules.now) c.args.ask.now c.args.lines.now e.0 e.1 in
    let rows : c.loop-key.rows.items ≡ map row es = sym (append-nil c.loop-key.rows.items) ∙ ap (λ (left : List (Key × Tally)). c.loop-key.rows.items ++ map row left) (sym left) ∙ c.loop-key.invariant.rows ∙ ap (map row) same in
    rows ∙ reported (rules_of c.args.rules.now) c.args.ask.now c.args.lines.now es c.requires.few (rising (keys_of es) sorted.sorted sorted.unique) (λ q. sorted.reordered.2 q ∙ c.requires.tallies q)
