use Rattle.std.proofs.Common.{◌<◌, length, refl, sym, ap, ◌∙◌, arith}
use Rattle.hostgroups.proofs.Changes.{known, names_of-changed, unknown, unnumbered}
use Rattle.hostgroups.proofs.numbered.NumberedServers.set_status.Goals as goal
use Rattle.hostgroups.proofs.numbered.NumberedServers.set_status.Goals.{then-server-eq0-via-then-server-eq0, then-server-eq0-via-else-server-eq0+then-from-len}

pub returns-then-server-eq0-clause-servers : goal.returns-then-server-eq0-clause-servers
returns-then-server-eq0-clause-servers c =
    elim c.then-server-eq0.branch [
      | then-server-eq0-via-then-server-eq0 w ↦ unnumbered c.args.self.now c.args.server.0 (λ _. c.args.status) w.if-server-eq0.true
      | then-server-eq0-via-else-server-eq0+then-from-len w ↦
          let past : length c.args.self.now < c.args.server.0 = omega (arith, ap length c.self.view_is, c.self.inside.servers.ok.0) in
          sym (unknown c.args.self.now c.args.server.0 (λ _. c.args.status) past).1
    ]

pub invariant_of-self : goal.invariant_of-self
invariant_of-self c =
    let put = known c.self.inside.servers.items c.from-at.result c.index_mut.result.now c.args.status (omega arith)
    (omega (arith, c.self.inside.servers.ok.0)) c.index_mut.ensures.value in
    c.self.invariant ∙ sym (rw put.1 (names_of-changed c.self.inside.servers.items c.from-at.result (λ _. c.args.status)))

pub returns-clause-known : goal.returns-clause-known
returns-clause-known c =
    let put = known c.self.inside.servers.items c.from-at.result c.index_mut.result.now c.args.status (omega arith)
    (omega (arith, c.self.inside.servers.ok.0)) c.index_mut.ensures.value in
    rw (c.from-at.ensures, c.self.view_is) at (sym put.0)

pub returns-clause-servers : goal.returns-clause-servers
returns-clause-servers c =
    let put = known c.self.inside.servers.items c.from-at.result c.index_mut.result.now c.args.status (omega arith)
    (omega (arith, c.self.inside.servers.ok.0)) c.index_mut.ensures.value in
    put.1 ∙ rw (c.from-at.ensures, c.self.view_is) refl
