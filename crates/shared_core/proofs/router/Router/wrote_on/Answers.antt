use Rattle.std.specs.Prelude.{take}
use Rattle.std.proofs.Common.{refl, ◌∙◌}
use Rattle.mx_wire.specs.declared.entry.Entry.TheVariants as entry
use Rattle.marked_tables.proofs.Going.{goes_along}
use Rattle.shared_core.proofs.Carrying.{carries_along}
use Rattle.shared_core.proofs.LinkWrites.{is_writable, settles_stands, wrote_carries}
use Rattle.shared_core.proofs.router.Router.wrote_on.Goals as goal

pub wrote_on-began-requires : goal.wrote_on-began-requires
wrote_on-began-requires c = is_writable c.args.self.now.marked c.args.link c.args.n c.requires.there c.requires.may

pub returns-clause-carries : goal.returns-clause-carries
returns-clause-carries c = λ service sent is.
    carries_along service (entry.Wrote c.args.link sent.tag (take c.args.n sent.bytes)) c.args.self.now
    (record c.args.self.now { marked = c.wrote_on-began.new.self }) c.went_out.new.self
    (wrote_carries c.writes_router.ensures service c.args.link c.args.n c.args.self.now (record c.args.self.now { marked = c.wrote_on-began.new.self })
    refl refl refl refl c.requires.there c.requires.may c.args.self.now.came.clock c.wrote_on-began.ensures.is sent is)
    (settles_stands c.settling_stands.ensures.router service (record c.args.self.now { marked = c.wrote_on-began.new.self }) c.went_out.new.self
    c.went_out.ensures.settles)

pub returns-clause-moves : goal.returns-clause-moves
returns-clause-moves c = record {
  goes = goes_along c.args.self.now.marked c.wrote_on-began.new.self c.went_out.new.self.marked c.wrote_on-began.ensures.goes c.went_out.ensures.moves.goes;
  client = c.went_out.ensures.moves.client;
  link = c.went_out.ensures.moves.link;
}
