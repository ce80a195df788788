use Rattle.std.proofs.Common.{length, refl, arith}
use Rattle.std.proofs.lemmas.Grind.{common_steps}
use Rattle.scripted_wire.proofs.Hosting.{found}
use Rattle.scripted_wire.proofs.Serving.{serves-more}
use Rattle.scripted_wire.proofs.Sound.{one_mark}
use Rattle.scripted_wire.proofs.stage.Stage.serve.Goals as goal

pub loop-at-preserved : goal.loop-at-preserved
loop-at-preserved g c = record {
  served = serves-more g.R.TameServer.step c.loop-at.at c.args.self.now c.args.hosts.now c.args.told.now c.loop-at.worked c.loop-at.self c.loop-at.hosts c.loop-at.told c.index_mut.result.now c.serve.new.self
      c.serve.new.hosts c.in_ok-did.did c.mark.result c.add_mark.new.told _ c.is_work.result c.either-worked.result c.loop-at.invariant.served (found c.loop-at.self.links.items c.loop-at.at c.index_mut.result.now (omega arith) c.index_mut.ensures.value)
      c.in_ok-did.ensures refl refl c.mark.ensures c.add_mark.ensures c.is_work.ensures c.either-worked.ensures;
  marks = one_mark (length c.args.self.now.links.items) c.args.told.now c.loop-at.told c.add_mark.new.told (record { 0 = c.loop-at.at }) c.in_ok-did.did c.mark.result c.loop-at.invariant.marks c.mark.ensures (omega arith) c.add_mark.ensures;
  moment = c.loop-at.invariant.moment;
  size = grind (arith, common_steps);
}
