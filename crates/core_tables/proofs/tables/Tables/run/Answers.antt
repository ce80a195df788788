use Rattle.std.specs.Option.{is_some}
use Rattle.std.proofs.Common.{ap, refl, sym}
use Rattle.std.proofs.lemmas.Result.{IfOk-weaker}
use Rattle.core_tables.specs.Taking.{with_args}
use Rattle.core_tables.specs.declared.client.Client.{Client}
use Rattle.core_tables.proofs.Passing.{run_so}
use Rattle.core_tables.proofs.tables.Tables.run.Goals as goal

pub returns-in-Some : goal.returns-in-Some
returns-in-Some c =
    let new : Client = c.run.new.self in
    let found = sym c.in-Some.ensures.value in
    let updates = (c.get_mut.follows.holds new).3 (ap is_some found) in
    IfOk-weaker c.run.result _ _ (λ is_due runs is. run_so c.args.self.now (record c.args.self.now { clients = c.get_mut.follows.lender new }) c.args.client c.args.flag
    (with_args c.args.work) c.in-Some.row.now new found (runs is)
    (λ k. updates.0 k) (λ k. refl) (λ k. refl)) c.run.ensures.runs
