use Rattle.std.proofs.Common.{◌≤◌, ◌∙◌, ap, length, sym, subst, take}
use Rattle.client_seat.specs.Outgoing.{Outgoing, went}
use Rattle.client_seat.proofs.Sending.{cut-went, still-cut}
use Rattle.client_seat.proofs.outbox.Outbox.advance.Goals as goal

pub invariant_of-self : goal.invariant_of-self
invariant_of-self c = still-cut c.args.n c.self.inside.due c.self.inside.queue c.rest.new.self (c.rest.ensures ∙ c.advance.ensures) c.self.invariant

pub returns : goal.returns
returns c =
    let within : c.args.n ≤ length (take c.self.inside.due c.self.inside.queue) =
    subst (λ (o : Outgoing). c.args.n ≤ length o.due) (sym c.self.view_is) c.requires in
    cut-went c.args.n c.self.inside.due c.self.inside.queue c.rest.new.self (c.rest.ensures ∙ c.advance.ensures) c.self.invariant within
    ∙ ap (went c.args.n) c.self.view_is
