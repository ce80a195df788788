use Rattle.std.proofs.Common.{Err, refl, ap, ◌∙◌}
use Rattle.query_rules.proofs.pattern.compile_field.Goals as goal

pub returns-in-Err-Refused-clause-refused : goal.returns-in-Err-Refused-clause-refused
returns-in-Err-Refused-clause-refused c =
    let refused = c.compile.ensures.refused (c.in-Err-Refused.is ∙ ap Err c.in-Err-Refused.field-0-is) in
    (refl, rw c.in-Some.is (rw c.as_slice.ensures at refused))
