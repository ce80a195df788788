use Rattle.std.proofs.Common.{refl, sym}
use Rattle.marked_tables.proofs.Going.{still_goes}
use Rattle.shared_core.proofs.Writings.{client_carried, few_of, no_server, none_sent}
use Rattle.shared_core.proofs.router.Router.wrote.Goals as goal

pub wrote_to-requires : goal.wrote_to-requires
wrote_to-requires c =
    few_of c.args.self.now.marked c.args.link c.in-Some.client (no_server c.server.result _ c.server.ensures c.if-is_some.ensures) (sym c.in-Some.ensures)
    c.args.n c.requires

pub returns-in-Some-clause-carries : goal.returns-in-Some-clause-carries
returns-in-Some-clause-carries c = λ service sent is.
    client_carried c.client_writes_router.ensures service c.args.self.now c.wrote_to.new.self c.args.link c.in-Some.client c.args.n
    (no_server c.server.result _ c.server.ensures c.if-is_some.ensures) (sym c.in-Some.ensures) c.requires c.wrote_to.ensures.is c.wrote_to.ensures.roomy
    c.wrote_to.ensures.came c.wrote_to.ensures.texts c.wrote_to.ensures.work sent is

pub returns-in_default-clause-carries : goal.returns-in_default-clause-carries
returns-in_default-clause-carries c = λ service sent is.
    absurd (none_sent c.args.self.now.marked c.args.link (no_server c.server.result _ c.server.ensures c.if-is_some.ensures) (sym c.in_default.ensures) sent is)

pub returns-in_default-clause-moves : goal.returns-in_default-clause-moves
returns-in_default-clause-moves c = record { goes = still_goes c.args.self.now.marked; client = refl; link = refl }
