use Rattle.std.specs.Option.{is_some, option_copied}
use Rattle.std.proofs.Common.{ap, refl, sym}
use Rattle.std.proofs.lemmas.Result.{IfOk-weaker}
use Rattle.core_tables.specs.Taking.{with_packets}
use Rattle.core_tables.specs.declared.client.Client.{Client}
use Rattle.core_tables.proofs.Passing.{due_so}
use Rattle.core_tables.proofs.tables.Tables.due_as.Goals as goal

pub returns-in-Some : goal.returns-in-Some
returns-in-Some c =
    let new : Client = c.send.new.self in
    let found = sym c.in-Some.ensures.value in
    let updates = (c.get_mut.follows.holds new).3 (ap is_some found) in
    IfOk-weaker c.send.result _ _ (λ is_due sent is. due_so c.args.self.now (record c.args.self.now { clients = c.get_mut.follows.lender new }) c.args.client c.args.flag
    (option_copied c.args.text) (with_packets c.args.work) c.in-Some.row.now new found (sent is)
    (λ k. updates.0 k) (λ k. refl) (λ k. refl)) c.send.ensures.sent
