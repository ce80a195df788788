use Rattle.admin_port.proofs.Replaced.{put_back, refused_at}
use Rattle.admin_port.proofs.servers.set_at.Goals as goal

pub returns-in-Err-clause-said : goal.returns-in-Err-clause-said
returns-in-Err-clause-said c = (
  put_back c.args.rows.now.items c.args.at c.in_ok-new.new c.index-old.result.now c.index-old.ensures,
  refused_at c.args.patterned c.args.rows.now.items c.deref.result.now c.args.pairs.now c.args.at c.index.result.now c.in_ok-new.new c.in-Err.fault
      c.requires.place c.index.ensures c.in_ok-new.ensures.said c.deref.ensures.value c.in-Err.ensures.1,
)
