use Rattle.std.specs.Prelude.{true}
use Rattle.std.specs.Option.{is_some}
use Rattle.std.proofs.Common.{ap, refl, subst, sym}
use Rattle.core_tables.specs.Tables.{tables_of}
use Rattle.core_tables.specs.Taking.{IsUpOr, answers}
use Rattle.core_tables.specs.declared.client.Client.{Client}
use Rattle.core_tables.proofs.Passing.{on_both, taken_so}
use Rattle.core_tables.proofs.tables.Tables.answer.Goals as goal

pub returns-in-Some : goal.returns-in-Some
returns-in-Some c =
    let new : Client = c.answer.new.self in
    let found = sym c.in-Some.ensures.value in
    let updates = (c.get_mut.follows.holds new).3 (ap is_some found) in
    on_both c.answer.result
    (λ is noted. taken_so true c.args.self.now (record c.args.self.now { clients = c.get_mut.follows.lender new }) c.args.client (answers c.args.flag c.args.packets.now)
    c.in-Some.row.now new new.desk.seat.statements found is noted (λ k. updates.0 k) (λ k. refl) (λ k. refl)) c.answer.ensures.is c.answer.ensures.noted

pub returns-in-None : goal.returns-in-None
unfolding tables_of
returns-in-None c = absurd (subst IsUpOr (sym c.in-None.ensures.value) c.requires)
