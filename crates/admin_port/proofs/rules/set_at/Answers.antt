use Rattle.admin_port.proofs.Replaced.{rule_set_in}
use Rattle.admin_port.proofs.rules.set_at.Goals as goal

pub returns : goal.returns
returns c =
    rule_set_in c.args.patterned c.args.rows.now.items c.args.pairs.now c.args.at c.index.result.now c.in_ok-new.new c.requires c.index.ensures c.in_ok-new.ensures
