use Rattle.std.proofs.Common.{◌∙◌}
use Rattle.mx_config.proofs.Keys.{is_known-map}
use Rattle.mx_config.proofs.row.is_listed.Goals as goal

pub returns : goal.returns
returns c = c.contains.ensures.value ∙ is_known-map c.args.known.now c.args.key.now
