-- The digests of a report are those of its lines.
use Rattle.std.proofs.Common.{◌≡◌, ℕ, Bool, true, false, ◌||◌, List, [], ◌∷◌, Ordering, sym, refl, ap, ◌∙◌}
use Rattle.std.specs.declared.cmp.Ordering.TheVariants.{Less, Equal, Greater}
use Rattle.std.specs.Ordering.{match_ordering}
use Rattle.std.specs.List.{fold, list_any}
use Rattle.query_digest.specs.Digest.{digest_of}
use Rattle.query_rules.specs.declared.rule.Rule.{Rule}
use Rattle.audit_report.specs.Report.{count_in, one_more, report_of, row_cmp, row_of}
use Rattle.audit_report.specs.declared.ask.AuditAsk.{AuditAsk}
use Rattle.audit_report.specs.declared.key.Key.{Key}
use Rattle.audit_report.specs.declared.row.ReportRow.{ReportRow}
use Rattle.audit_report.proofs.KeyOrder.{key-exact, row_key, rows-cmp}

nothing-more : (a : Bool) → a ≡ (a || false)
nothing-more true = refl
nothing-more false = refl

or-twice : (a b : Bool) → (a || b) ≡ (a || (a || b))
or-twice true b = refl
or-twice false b = refl

or-turned : (a b c : Bool) → (a || (b || c)) ≡ (b || (a || c))
or-turned true true c = refl
or-turned true false c = refl
or-turned false true c = refl
or-turned false false c = refl

or-grouped : (a b c : Bool) → ((a || b) || c) ≡ (b || (a || c))
or-grouped true true c = refl
or-grouped true false c = refl
or-grouped false true c = refl
or-grouped false false c = refl

module _ (test : List ℕ → Bool) where
  abbrev any-row : List ReportRow → Bool
  any-row rows = list_any (λ (row : ReportRow). test row.digest) rows

  any-put : (new row : ReportRow) (rows : List ReportRow) (r : Ordering) → row_cmp new row ≡ r → any-row (count_in new rows) ≡ (test new.digest || any-row rows)
      → any-row (match_ordering r (new ∷ row ∷ rows) (one_more row ∷ rows) (row ∷ count_in new rows)) ≡ (test new.digest || any-row (row ∷ rows))
  any-put new row rows Less is rest = refl
  any-put new row rows Equal is rest =
      let same : test row.digest ≡ test new.digest = ap (λ (k : Key). test k.digest) (sym (key-exact (row_key new) (row_key row) (sym (rows-cmp new row) ∙ is))) in
      rw same (or-twice (test new.digest) (any-row rows))
  any-put new row rows Greater is rest = ap (λ b. test row.digest || b) rest ∙ or-turned (test row.digest) (test new.digest) (any-row rows)

  any-counted : (new : ReportRow) (rows : List ReportRow) → any-row (count_in new rows) ≡ (test new.digest || any-row rows)
  any-counted new [] = refl
  any-counted new (row ∷ rows) = any-put new row rows (row_cmp new row) refl (any-counted new rows)

  any-folded : (rules : List Rule) (ask : AuditAsk) (lines : List (List ℕ)) (rows : List ReportRow)
      → any-row (fold (λ rows line. count_in (row_of rules ask line) rows) rows lines) ≡ (any-row rows || list_any (λ line. test (digest_of line)) lines)
  any-folded rules ask [] rows = nothing-more (any-row rows)
  any-folded rules ask (line ∷ lines) rows =
      any-folded rules ask lines (count_in (row_of rules ask line) rows)
      ∙ ap (λ b. b || list_any (λ line. test (digest_of line)) lines) (any-counted (row_of rules ask line) rows)
      ∙ or-grouped (test (digest_of line)) (any-row rows) (list_any (λ line. test (digest_of line)) lines)

-- a test finds a digest among the rows where it finds one among the lines
pub digests-stay : (test : List ℕ → Bool) (rules : List Rule) (ask : AuditAsk) (lines : List (List ℕ)) → list_any (λ (row : ReportRow). test row.digest) (report_of rules ask lines) ≡ list_any (λ line. test (digest_of line)) lines
digests-stay test rules ask lines = any-folded test rules ask lines []
