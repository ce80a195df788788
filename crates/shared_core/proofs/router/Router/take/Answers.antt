use Rattle.shared_core.proofs.LinkWrites.{settles_stands}
use Rattle.shared_core.proofs.Keeping.{chosen_still}
use Rattle.shared_core.proofs.Machining.{moves_along, moves_forgot, tells_along, tells_forgot, tells_noted}
use Rattle.shared_core.proofs.router.Router.take.Goals as goal

pub returns-clause-tells : goal.returns-clause-tells
returns-clause-tells c =
    tells_forgot c.args.service.now c.args.event c.args.bytes.now c.args.self.now c.begins.new.self c.turns.new.self c.in_ok-begins.ensures.less
    c.in_ok-begins.ensures.kept c.in_ok-begins.ensures.same
    (tells_along (settles_stands c.settling_stands.ensures.router) c.args.service.now c.args.event c.args.bytes.now c.begins.new.self c.notes.new.self
    c.settle.new.self c.turns.new.self
    (tells_noted c.args.service.now c.args.event c.args.bytes.now c.begins.new.self c.told.new.self c.notes.new.self c.in_ok-told.ensures.tells
    c.in_ok-notes.ensures) c.in_ok-settle.ensures.settles c.turns.ensures)

pub returns-clause-moves : goal.returns-clause-moves
returns-clause-moves c =
    moves_forgot c.args.self.now c.begins.new.self c.turns.new.self c.in_ok-begins.ensures.same
    (moves_along c.begins.new.self c.notes.new.self c.settle.new.self c.turns.new.self
    (moves_along c.begins.new.self c.told.new.self c.notes.new.self c.notes.new.self c.in_ok-told.ensures.moves c.in_ok-notes.ensures.moves
    (chosen_still c.notes.new.self)) c.in_ok-settle.ensures.moves c.turns.ensures)
