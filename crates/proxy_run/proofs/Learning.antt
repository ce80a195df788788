-- What is put of a report is what is wanted of its lines.
use Rattle.std.proofs.Common.{◌≡◌, ℕ, Bool, ◌||◌, eqb, List, [], ◌∷◌, map, Result, Ok, Err, IfOk, sym, refl, ap, ◌∙◌, subst}
use Rattle.std.specs.List.{list_any}
use Rattle.mx_base.specs.declared.memory.OutOfMemory.{OutOfMemory}
use Rattle.mx_config.specs.declared.config.Config.{Config}
use Rattle.query_digest.specs.Digest.{digest_of}
use Rattle.query_digest.specs.Hash.{hash_of}
use Rattle.query_rules.specs.declared.rule.Rule.{Rule}
use Rattle.audit_report.proofs.Digests as digests
use Rattle.audit_report.specs.Report.{report_of}
use Rattle.audit_report.specs.declared.ask.AuditAsk.{AuditAsk}
use Rattle.audit_report.specs.declared.row.ReportRow.{ReportRow}
use Rattle.proxy_run.specs.Reports.{IsLearned, IsPrintedOf, IsReportBy, IsWanted}
use Rattle.proxy_run.specs.declared.report_words.ReportKind.{ReportKind}
use Rattle.proxy_run.specs.declared.report_words.ReportKind.TheVariants.{Audit, Learn}

any-mapped : {X : Type 0} (test : List ℕ → Bool) (f : X → List ℕ) (xs : List X) → list_any test (map f xs) ≡ list_any (λ x. test (f x)) xs
any-mapped test f [] = refl
any-mapped test f (x ∷ xs) = ap (λ b. test (f x) || b) (any-mapped test f xs)

learned-of : (rules : List Rule) (ask : AuditAsk) (lines : List (List ℕ)) (text : List ℕ) → IsLearned (map (λ (row : ReportRow). row.digest) (report_of rules ask lines)) text → IsLearned (map digest_of lines) text
learned-of rules ask lines text learned = record {
  hashes = learned.hashes;
  are = record {
    ascend = learned.are.ascend;
    same = λ hash.
        let test : List ℕ → Bool = λ digest. eqb (hash_of digest) hash in
        learned.are.same hash ∙ any-mapped test (λ (row : ReportRow). row.digest) (report_of rules ask lines) ∙ digests.digests-stay test rules ask lines ∙ sym (any-mapped test digest_of lines);
  };
  is = learned.is;
}

pub wanted : (kind : ReportKind) (config : Config) (lines : List (List ℕ)) (rows : List ReportRow) (text : List ℕ) → IsReportBy config lines rows → IsPrintedOf kind rows text → IsWanted kind config lines text
wanted Audit config lines rows text by is = record { rows = rows; by = by; is = is }
wanted Learn config lines rows text by is = learned-of _ by.ask lines text (subst (λ (rows : List ReportRow). IsLearned (map (λ (row : ReportRow). row.digest) rows) text) by.is is)

pub if-ok : {P Q : List ℕ → Type 0} (r : Result (List ℕ) OutOfMemory) → ((text : List ℕ) → P text → Q text) → IfOk r P → IfOk r Q
if-ok (Ok text) more held = more text held
if-ok (Err refused) more held = tt
