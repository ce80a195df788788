use Rattle.std.proofs.Common.{◌≡◌, ◌+◌, ◌-◌, ◌^◌, ◌∙◌, sym, ap, arith}
use Rattle.scripted_wire.specs.declared.server_link.ServerLink.{ServerLink}
use Rattle.toy_server.specs.Talks.{Stand, served_on}
use Rattle.toy_server.proofs.Turns.{works, rests, stops}
use Rattle.toy_server.proofs.hearing.hear.Goals as goal

pub loop-turn-init : goal.loop-turn-init
loop-turn-init g c =
    ap (λ (link : ServerLink). served_on g.R.TameServer.step (2 ^ 64 - 1) (record { link = link; hosted = c.args.hosts.now })) (sym c.in_ok-hear.ensures)

pub loop-turn-preserved : goal.loop-turn-preserved
loop-turn-preserved g c =
    c.loop-turn.invariant
    ∙ works g.R.TameServer.step (2 ^ 64 - 1 - c.loop-turn._turn) (2 ^ 64 - 1 - (c.loop-turn._turn + 1)) (record { link = c.loop-turn.link; hosted = c.loop-turn.hosts })
    (record { link = c.serve.new.self; hosted = c.serve.new.hosts }) c.in_ok-did.did (omega arith) c.in_ok-did.ensures (sym c.is_work.ensures ∙ c.if-not-is_work.false)

pub returns-then-not-is_work : goal.returns-then-not-is_work
returns-then-not-is_work g c =
    sym (c.loop-turn.invariant
    ∙ rests g.R.TameServer.step (2 ^ 64 - 1 - c.loop-turn._turn) (2 ^ 64 - 1 - (c.loop-turn._turn + 1)) (record { link = c.loop-turn.link; hosted = c.loop-turn.hosts })
    (record { link = c.serve.new.self; hosted = c.serve.new.hosts }) c.in_ok-did.did (omega arith) c.in_ok-did.ensures (sym c.is_work.ensures ∙ c.if-not-is_work.true))

pub returns : goal.returns
returns g c =
    let at : Stand = record { link = c.loop-turn.link; hosted = c.loop-turn.hosts } in
    let none : 2 ^ 64 - 1 - c.loop-turn._turn ≡ 0 = omega arith in
    sym (c.loop-turn.invariant ∙ ap (λ n. served_on g.R.TameServer.step n at) none ∙ stops g.R.TameServer.step at)
