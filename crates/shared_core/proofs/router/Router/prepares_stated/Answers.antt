use Rattle.std.proofs.Common.{refl, subst}
use Rattle.session_state.specs.declared.place.Place.{Place}
use Rattle.core_tables.specs.Tables.{IsSame}
use Rattle.router_laws.specs.wakes.Settling.{Prepares, settled}
use Rattle.shared_core.specs.Rows.{IsToldPlace}
use Rattle.shared_core.specs.Stands.{SettlesSo, tables}
use Rattle.shared_core.proofs.Needs.{may_prepare}
use Rattle.shared_core.proofs.Settles.{if_ok, settles_so}
use Rattle.shared_core.proofs.router.Router.prepares_stated.Goals as goal

pub returns-then-branch-clause-settles : goal.returns-then-branch-clause-settles
returns-then-branch-clause-settles c =
    if_ok c.begin_prep.result (IsSame (tables (record c.args.self.now { marked = c.begin_prep.new.self })) (settled (Prepares c.args.link c.args.name c.text.result.now) (tables c.args.self.now)))
    (SettlesSo c.args.self.now (record c.args.self.now { marked = c.begin_prep.new.self }))
    (λ is. settles_so (Prepares c.args.link c.args.name c.text.result.now) c.args.self.now (record c.args.self.now { marked = c.begin_prep.new.self })
    (may_prepare c.args.self.now.texts c.args.link c.args.name c.text.result.now (tables c.args.self.now) c.in-Some.kept.now c.requires c.in-Some.ensures c.text.ensures
    (λ server there. subst (λ (place : Place). IsToldPlace place server.row.link.state.told) c.place.ensures (c.in_ok-wants_prepared.ensures c.if-branch.true server there))) is refl refl refl refl) c.begin_prep.ensures.is
