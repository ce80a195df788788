use Rattle.std.proofs.Common.{sym, ◌∙◌}
use Rattle.hostgroups.specs.Picks.{is_online_at}
use Rattle.hostgroups.proofs.Fairness.{any_online, online_any}
use Rattle.hostgroups.proofs.servers.Servers.online.Goals as goal

pub returns : goal.returns
returns c =
    rw (← c.self.view_is) (
      λ is.
          let one = any_online (record { servers = c.self.inside.servers; rounds = c.self.inside.rounds }) c.args.hostgroup
          (is_online_at c.self.inside.servers) c.self.invariant
          (rw c.as_slice.ensures at (sym c.has_online.ensures ∙ is)) in
          (one.0, one.1.0, one.1.1),
      λ one.
          c.has_online.ensures
          ∙ rw c.as_slice.ensures (online_any (record { servers = c.self.inside.servers; rounds = c.self.inside.rounds }) c.args.hostgroup
          (is_online_at c.self.inside.servers) c.self.invariant one.0 one.1 one.2),
    )
