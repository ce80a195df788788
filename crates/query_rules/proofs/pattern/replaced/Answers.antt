use Rattle.std.proofs.Common.{◌∙◌}
use Rattle.query_rules.proofs.pattern.replaced.Goals as goal

pub returns : goal.returns
returns c =
    let written = c.in_ok-replace_all.ensures.written.read _ _ c.in_ok-template.ensures.read in
    c.from_vec.ensures ∙ rw (c.capture_names.ensures, c.in_ok-matcher.ensures.pattern) at written
