use Rattle.std.proofs.Common.{◌≡◌, ◌∷◌, ◌+◌, ℕ, suc, List, take, drop, subst, arith}
use Rattle.std.proofs.lemmas.List.{take_rest}
use Rattle.audit_report.specs.Lines.{lines_of}
use Rattle.audit_report.proofs.LineSteps.{line-alone, line-to, not-feed}
use Rattle.audit_report.proofs.lines.first_line.Goals as goal

pub returns-in-Some-clause-lines : goal.returns-in-Some-clause-lines
returns-in-Some-clause-lines c =
    let text : List ℕ = c.args.text.now in
    let at = c.in-Some.at in
    let found = c.in-Some.ensures in
    let step : lines_of text ≡ take at text ∷ lines_of (drop (suc at) text) = line-to text at found.0.high (λ k below. not-feed _ (found.0.before k (omega arith) below)) found.1 in
    let next : suc at ≡ at + 1 = omega arith in
    let there : lines_of text ≡ take at text ∷ lines_of (drop (at + 1) text) = subst (λ n. lines_of text ≡ take at text ∷ lines_of (drop n text)) next step in
    rw (take_rest text (at + 1)) there

pub returns-in-None-clause-lines : goal.returns-in-None-clause-lines
returns-in-None-clause-lines c = line-alone c.args.text.now c.requires (λ k below. not-feed _ (c.in-None.ensures k (omega arith) below))
