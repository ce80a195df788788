use Rattle.std.proofs.Common.{◌≡◌, refl}
use Rattle.hostgroups.specs.Servers.{changed}
use Rattle.hostgroups.specs.Statuses.{once_failed}
use Rattle.hostgroups.proofs.Changes.{changed_so, same-changed, unchanged}
use Rattle.hostgroups.proofs.Fairness.{holds_same_rows}
use Rattle.hostgroups.proofs.servers.Servers.open_failed.Goals as goal

pub invariant_of-self : goal.invariant_of-self
invariant_of-self c =
    rw c.set_status.ensures.servers (holds_same_rows c.self.inside.servers _ c.self.inside.rounds
    (same-changed c.self.inside.servers c.args.server.0 (λ _. c.once_failed.result)) c.self.invariant)

pub returns-in-Some : goal.returns-in-Some
returns-in-Some c =
    let some = rw (← c.self.view_is) at c.in-Some.ensures in
    let so : changed c.self.inside.servers c.args.server.0 (λ _. once_failed c.args.now_ms c.in-Some.status) ≡ changed
    c.self.inside.servers c.args.server.0 (once_failed c.args.now_ms) =
    changed_so c.self.inside.servers c.args.server.0 c.in-Some.status (once_failed c.args.now_ms) some in
    rw (← c.self.view_is, c.set_status.ensures.servers, c.once_failed.ensures, so) refl

pub returns-in-None : goal.returns-in-None
returns-in-None c =
    let none = rw (← c.self.view_is) at c.in-None.ensures in
    let same : changed c.self.inside.servers c.args.server.0 (once_failed c.args.now_ms) ≡ c.self.inside.servers = unchanged
    c.self.inside.servers c.args.server.0 (once_failed c.args.now_ms) none in
    rw (← c.self.view_is, same) refl
