use Rattle.std.proofs.lemmas.Result.{on_ok_weaker}
use Rattle.ready_loop.specs.declared.machines.Event.TheVariants as event
use Rattle.shared_core.proofs.Machining.{accepted_tells, broken_tells, ended_tells, failed_tells, got_tells, opened_tells, tells_as, woke_tells}
use Rattle.shared_core.proofs.router.Router.told.Goals as goal

pub returns-in-Woke-clause-tells : goal.returns-in-Woke-clause-tells
returns-in-Woke-clause-tells c =
    on_ok_weaker c.woke.result
    (λ is. tells_as c.args.service.now c.args.event (event.Woke c.in-Woke.now_ms) c.args.bytes.now c.args.self.now c.woke.new.self c.in-Woke.is
    (woke_tells c.args.service.now c.args.bytes.now c.args.self.now c.woke.new.self c.in-Woke.now_ms is)) c.woke.ensures.carries

pub returns-in-Accepted-clause-tells : goal.returns-in-Accepted-clause-tells
returns-in-Accepted-clause-tells c =
    on_ok_weaker c.accepted.result
    (λ is. tells_as c.args.service.now c.args.event (event.Accepted c.in-Accepted.port c.in-Accepted.link c.in-Accepted.salt) c.args.bytes.now c.args.self.now c.accepted.new.self c.in-Accepted.is
    (accepted_tells c.args.service.now c.args.bytes.now c.args.self.now c.accepted.new.self c.in-Accepted.port c.in-Accepted.link c.in-Accepted.salt is)) c.accepted.ensures.carries

pub returns-in-Opened-clause-tells : goal.returns-in-Opened-clause-tells
returns-in-Opened-clause-tells c =
    on_ok_weaker c.opened.result
    (λ is. tells_as c.args.service.now c.args.event (event.Opened c.in-Opened.server c.in-Opened.link) c.args.bytes.now c.args.self.now c.opened.new.self c.in-Opened.is
    (opened_tells c.args.service.now c.args.bytes.now c.args.self.now c.opened.new.self c.in-Opened.server c.in-Opened.link is)) c.opened.ensures.carries

pub returns-in-OpenFailed-clause-tells : goal.returns-in-OpenFailed-clause-tells
returns-in-OpenFailed-clause-tells c =
    on_ok_weaker c.open_failed.result
    (λ is. tells_as c.args.service.now c.args.event (event.OpenFailed c.in-OpenFailed.server) c.args.bytes.now c.args.self.now c.open_failed.new.self c.in-OpenFailed.is
    (failed_tells c.args.service.now c.args.bytes.now c.args.self.now c.open_failed.new.self c.in-OpenFailed.server is)) c.open_failed.ensures.carries

pub returns-in-Got-clause-tells : goal.returns-in-Got-clause-tells
returns-in-Got-clause-tells c =
    on_ok_weaker c.got.result
    (λ is. tells_as c.args.service.now c.args.event (event.Got c.in-Got.link) c.args.bytes.now c.args.self.now c.got.new.self c.in-Got.is
    (got_tells c.args.service.now c.args.bytes.now c.args.self.now c.got.new.self c.in-Got.link is)) c.got.ensures.carries

pub returns-in-Ended-clause-tells : goal.returns-in-Ended-clause-tells
returns-in-Ended-clause-tells c =
    on_ok_weaker c.lost.result
    (λ is. tells_as c.args.service.now c.args.event (event.Ended c.in-Ended.link) c.args.bytes.now c.args.self.now c.lost.new.self c.in-Ended.is
    (ended_tells c.args.service.now c.args.bytes.now c.args.self.now c.lost.new.self c.in-Ended.link is)) c.lost.ensures.loses

pub returns-in-Failed-clause-tells : goal.returns-in-Failed-clause-tells
returns-in-Failed-clause-tells c =
    on_ok_weaker c.lost-in-Failed.result
    (λ is. tells_as c.args.service.now c.args.event (event.Failed c.in-Failed.link) c.args.bytes.now c.args.self.now c.lost-in-Failed.new.self c.in-Failed.is
    (broken_tells c.args.service.now c.args.bytes.now c.args.self.now c.lost-in-Failed.new.self c.in-Failed.link is)) c.lost-in-Failed.ensures.loses
