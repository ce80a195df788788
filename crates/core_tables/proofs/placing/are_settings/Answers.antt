use Rattle.std.proofs.Common.{◌∙◌}
use Rattle.core_tables.proofs.Settled.{all_same}
use Rattle.core_tables.proofs.placing.are_settings.Goals as goal

pub returns : goal.returns
returns c = c.same_values.ensures ∙ all_same c.args.a.now c.args.b.now c.value-first.ensures.settings c.value-other.ensures.settings
