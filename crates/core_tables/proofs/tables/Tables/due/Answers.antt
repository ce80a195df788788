use Rattle.std.specs.Prelude.{Bool}
use Rattle.std.specs.Option.{is_some, option_copied}
use Rattle.std.proofs.Common.{ap, refl, subst, sym}
use Rattle.std.proofs.lemmas.Result.{IfOk-weaker}
use Rattle.link_state.specs.declared.wish.Command.TheVariants.{Plain}
use Rattle.core_tables.specs.Taking.{IsSentAs, bare_work, text_work, with_packets}
use Rattle.core_tables.specs.declared.client.Client.{Client}
use Rattle.core_tables.proofs.Passing.{due_so}
use Rattle.core_tables.proofs.tables.Tables.due.Goals as goal

pub returns-in-Some : goal.returns-in-Some
returns-in-Some c =
    let new : Client = c.send.new.self in
    let found = sym c.in-Some.ensures.value in
    let updates = (c.get_mut.follows.holds new).3 (ap is_some found) in
    IfOk-weaker c.send.result _ _ (λ is_due sent is. due_so c.args.self.now (record c.args.self.now { clients = c.get_mut.follows.lender new }) c.args.client c.args.flag
    (option_copied c.args.text) (text_work c.args.ordinal c.args.hostgroup c.args.since_ms c.args.multiplex c.args.form) c.in-Some.row.now new found
    (subst (λ (m : Bool). IsSentAs c.args.flag (option_copied c.args.text)
    (with_packets (record (bare_work c.args.ordinal c.args.hostgroup c.args.since_ms c.args.multiplex 0 Plain c.args.form) { marks = m })) c.in-Some.row.now new)
    c.marks-marks.ensures (sent is))
    (λ k. updates.0 k) (λ k. refl) (λ k. refl)) c.send.ensures.sent
