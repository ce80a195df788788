use Rattle.std.proofs.Common.{◌≡◌, inr}
use Rattle.query_rules.specs.declared.pattern.PatternFault.TheVariants.{Refused}
use Rattle.query_rules.proofs.pattern.compile.Goals as goal

pub returns-in-Err : goal.returns-in-Err
returns-in-Err c =
    let same = c.in-Ok.ensures.cases.0 in
    let said = c.in-Err.ensures in record {
      ok = tt;
      refused = λ h. let is : c.fault_of.result ≡ Refused = (cc) in
          inr (c.in-Err.error, c.fault_of.ensures is, (rw same at said.refused, rw same at said.kind, rw same at said.span));
    }
