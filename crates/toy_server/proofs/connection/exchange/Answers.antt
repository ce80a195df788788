use Rattle.std.proofs.Common.{subst, take}
use Rattle.std.specs.Prelude.{OnOk, Result, Ok, Err}
use Rattle.std.specs.Io.KnownBytes.{Consumes}
use Rattle.toy_server.specs.Talks.{Talk, begun}
use Rattle.toy_server.proofs.Turns.{begins, ends, hears, says}
use Rattle.toy_server.proofs.connection.exchange.Goals as goal

both : {A B C : Type 0} {E : Type 0} (r : Result (Unit {0}) E) → (A → B → C) → OnOk r A → OnOk r B → OnOk r C
both (Ok done) more one other = more one other
both (Err given) more one other = tt

pub loop-turn-init : goal.loop-turn-init
loop-turn-init g c = begins g.R.TameServer.step (g.I.Read.remaining c.args.input.now) (g.O.Write.contents c.args.output.now) c.args.link.now c.args.hosts.now

pub loop-turn-preserved : goal.loop-turn-preserved
loop-turn-preserved g c =
    let step = g.R.TameServer.step in
    let begin : Talk = begun c.args.link.now c.args.hosts.now in
    let unread = g.I.Read.remaining c.args.input.now in
    let before = g.I.Read.remaining c.loop-turn.input in
    let written = g.O.Write.contents c.args.output.now in
    hears step begin (take c.in_ok-count.count c.read.new.buf) unread before (g.I.Read.remaining c.read.new.self) written (g.O.Write.contents c.say.new.output) c.say.new.link c.tell.new.link c.loop-turn.hosts c.tell.new.hosts
    (says step begin unread before written (g.O.Write.contents c.loop-turn.output) (g.O.Write.contents c.say.new.output) c.loop-turn.link c.say.new.link c.loop-turn.hosts c.loop-turn.invariant c.in_ok-say.ensures.said c.in_ok-say.ensures.link)
    c.in_ok-count.ensures.bytes.0 c.in_ok-tell.ensures

pub returns-then-link : goal.returns-then-link
returns-then-link g c =
    let begin : Talk = begun c.args.link.now c.args.hosts.now in
    says g.R.TameServer.step begin (g.I.Read.remaining c.args.input.now) (g.I.Read.remaining c.loop-turn.input) (g.O.Write.contents c.args.output.now) (g.O.Write.contents c.loop-turn.output) (g.O.Write.contents c.say.new.output)
    c.loop-turn.link c.say.new.link c.loop-turn.hosts c.loop-turn.invariant c.in_ok-say.ensures.said c.in_ok-say.ensures.link

pub returns-then-count-eq0 : goal.returns-then-count-eq0
returns-then-count-eq0 g c =
    let step = g.R.TameServer.step in
    let begin : Talk = begun c.args.link.now c.args.hosts.now in
    let unread = g.I.Read.remaining c.args.input.now in
    let before = g.I.Read.remaining c.loop-turn.input in
    let after = g.I.Read.remaining c.read.new.self in
    let written = g.O.Write.contents c.args.output.now in
    let nothing : Consumes before after (take 0 c.read.new.buf) = subst (λ n. Consumes before after (take n c.read.new.buf)) c.if-count-eq0.true c.in_ok-count.ensures.bytes.0 in
    ends step begin unread before after written (g.O.Write.contents c.say.new.output) c.say.new.link c.loop-turn.hosts
    (says step begin unread before written (g.O.Write.contents c.loop-turn.output) (g.O.Write.contents c.say.new.output) c.loop-turn.link c.say.new.link c.loop-turn.hosts c.loop-turn.invariant c.in_ok-say.ensures.said c.in_ok-say.ensures.link)
    nothing

pub returns : goal.returns
returns g c =
    let begin : Talk = begun c.args.link.now c.args.hosts.now in
    both c.say-2.result
    (λ empty more. says g.R.TameServer.step begin (g.I.Read.remaining c.args.input.now) (g.I.Read.remaining c.loop-turn.input) (g.O.Write.contents c.args.output.now) (g.O.Write.contents c.loop-turn.output) (g.O.Write.contents c.say-2.new.output)
    c.loop-turn.link c.say-2.new.link c.loop-turn.hosts c.loop-turn.invariant more empty) c.say-2.ensures.link c.say-2.ensures.said
