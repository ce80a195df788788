use Rattle.std.proofs.Common.{sym}
use Rattle.shared_core.specs.Stands.{tables}
use Rattle.shared_core.proofs.ClientCloses.{client_closes, numbered_as}
use Rattle.shared_core.proofs.router.Router.closes_client.Goals as goal

pub returns-clause-acts : goal.returns-clause-acts
returns-clause-acts c =
    client_closes (record {
      writes = c.client_writes_router.ensures;
      quiet = c.quiets_router.ensures;
      again = c.leaves_again_router.ensures;
      marks = c.marks_router.ensures;
      parts = c.parts_router.ensures;
      linked = c.routers_are_linked.ensures;
    }) c.args.self.now c.args.link c.args.client c.in_ok-row.row.now c.requires.closed
    (numbered_as (tables c.args.self.now) c.args.link c.in_ok-on.on c.args.client c.in_ok-on.ensures c.if-on-client.false) (sym c.in_ok-row.ensures)
    (c.may_part.ensures c.if-not-may_part.false)
