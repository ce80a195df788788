use Rattle.shared_core.proofs.Settles.{settles_more}
use Rattle.shared_core.proofs.router.Router.settle.Goals as goal

pub deeds-preserved : goal.deeds-preserved
deeds-preserved c =
    let settles = c.in_ok-does-in-Some.ensures.settles in
    let moves = c.in_ok-does-in-Some.ensures.moves in
    settles_more c.args.self.now c.deeds.self c.does.new.self c.deeds.invariant
    (record { settles = settles.settles; roomy = settles.roomy; came = settles.came; texts = settles.texts; work = settles.work })
    (record { goes = moves.goes; client = moves.client; link = moves.link })
