use Rattle.proxy_run.proofs.Learning.{if-ok, wanted}
use Rattle.proxy_run.proofs.reports.text_of.Goals as goal

pub returns : goal.returns
returns g c = if-ok c.printed.result (λ text is. wanted c.args.asked.kind c.args.config.now c.args.lines.now c.in_ok-rows.rows.items text c.in_ok-rows.ensures is) c.printed.ensures
