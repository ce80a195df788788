use Rattle.std.proofs.Common.{◌≡◌, subst}
use Rattle.std.specs.Prelude.{◌||◌}
use Rattle.link_marks.specs.Marks.{Marked, is_link, is_marked}
use Rattle.link_marks.proofs.Marking.{come_is}
use Rattle.link_marks.proofs.marks.Marks.comes.Goals as goal

pub returns-clause-marked : goal.returns-clause-marked
returns-clause-marked c = λ other.
    let old : Marked = record { names = c.self.inside.names; marked = c.self.inside.marked } in
    let new : Marked = record { names = c.take.new.self; marked = c.put.new.self } in
    subst (λ (m : Marked). is_marked new other ≡ (is_link c.args.link other || is_marked m other)) c.self.view_is
    (come_is old c.take.new.self c.numbered.ensures c.args.link other c.in-Ok.slot _ c.put.new.self c.in-Ok.ensures.taken c.in-Ok.ensures.number c.put.ensures)
