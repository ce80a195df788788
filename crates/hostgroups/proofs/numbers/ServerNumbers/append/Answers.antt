use Rattle.std.proofs.Common.{◌≡◌, true, is_some, ap, sym, ◌∙◌}
use Rattle.hostgroups.specs.Keys.{named}
use Rattle.hostgroups.specs.Rows.{number_of}
use Rattle.hostgroups.proofs.Numbering.{number_of-known}
use Rattle.hostgroups.proofs.numbers.ServerNumbers.append.Goals as goal

pub invariant_of-self-in-Some : goal.invariant_of-self-in-Some
invariant_of-self-in-Some c =
    let known : is_some (number_of c.self.inside.names.items c.args.name) ≡ true =
    rw (← c.self.view_is) at (ap is_some (sym c.in-Some.ensures)) in
    λ q. c.self.invariant q ∙ rw c.in_ok-push-in-Some.ensures.items (number_of-known c.self.inside.names.items c.args.name (named q) known)
