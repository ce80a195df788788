use Rattle.std.proofs.Common.{◌≡◌, subst}
use Rattle.std.specs.Prelude.{◌&&◌, ◌||◌, nat_eq, Some}
use Rattle.number_table.specs.Numbers.{number_at}
use Rattle.link_marks.specs.Marks.{Marked, is_known, is_link, is_marked}
use Rattle.link_marks.proofs.Marking.{mark_is}
use Rattle.link_marks.proofs.marks.Marks.mark.Goals as goal

pub returns-in-Some-clause-marked : goal.returns-in-Some-clause-marked
returns-in-Some-clause-marked c = λ other.
    let old : Marked = record { names = c.self.inside.names; marked = c.self.inside.marked } in
    let new : Marked = record { names = c.self.inside.names; marked = c.keep.new.marked } in
    let at : number_at nat_eq c.self.inside.names c.args.link.0 ≡ Some c.in-Some.slot = let e = c.find.ensures in let i = c.in-Some.is in cc in
    subst (λ (m : Marked). is_marked new other ≡ ((is_link c.args.link other && is_known m c.args.link) || is_marked m other)) c.self.view_is
    (mark_is old c.numbered.ensures c.args.link other c.in-Some.slot c.keep.new.marked at c.keep.ensures.kept)
