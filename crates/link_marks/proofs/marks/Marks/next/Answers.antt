use Rattle.std.proofs.Common.{◌≡◌, ◌<◌, ◌⊎◌, subst}
use Rattle.std.specs.Prelude.{false, length, Some, None}
use Rattle.mx_base.specs.declared.names.LinkId.{LinkId}
use Rattle.slot_lists.specs.Orders.{last}
use Rattle.link_marks.specs.Marks.{Marked, is_marked, number_of}
use Rattle.link_marks.proofs.Marking.{fewer_is, named_is, none_marked}
use Rattle.link_marks.proofs.marks.Marks.next.Goals as goal

pub returns-in_default-clause-named : goal.returns-in_default-clause-named
returns-in_default-clause-named c = λ link.
    let none : last c.self.inside.marked.order ≡ None = let e = c.oldest_of_all.ensures.is in let i = c.in_default.is in cc in
    subst (λ (m : Marked). is_marked m link ≡ false) c.self.view_is (none_marked c.self.inside.names c.self.inside.marked.order none link.0)

pub returns-in_default-clause-none : goal.returns-in_default-clause-none
returns-in_default-clause-none c = λ link.
    let none : last c.self.inside.marked.order ≡ None = let e = c.oldest_of_all.ensures.is in let i = c.in_default.is in cc in
    subst (λ (m : Marked). is_marked m link ≡ false) c.self.view_is (none_marked c.self.inside.names c.self.inside.marked.order none link.0)

pub returns-clause-named : goal.returns-clause-named
returns-clause-named c = λ link none.
    let old : Marked = record { names = c.self.inside.names; marked = c.self.inside.marked } in
    let only : number_of old link ≡ Some c.in-Some.number → c.name-link.result ≡ link =
    λ h. c.name-link.ensures link (subst (λ (m : Marked). number_of m link ≡ Some c.in-Some.number) c.self.view_is h) in
    subst (λ (m : Marked). (is_marked m link ≡ false) ⊎ (link ≡ c.name-link.result)) c.self.view_is
    (named_is old c.name-link.result link c.in-Some.number c.take.new.self c.take.ensures only none)

pub returns-clause-fewer : goal.returns-clause-fewer
returns-clause-fewer c = λ some.
    let at : last c.self.inside.marked.order ≡ Some c.in-Some.number = let e = c.oldest_of_all.ensures.is in let i = c.in-Some.is in cc in
    subst (λ (m : Marked). length c.take.new.self.order < length m.marked.order) c.self.view_is
    (fewer_is c.self.inside.marked c.in-Some.number c.take.new.self c.take.ensures at)
