use Rattle.std.proofs.Common.{◌<◌, ◌-◌, length, take, drop, refl, ap, arith, sym, ◌∙◌}
use Rattle.std.proofs.lemmas.List.{take_rest}
use Rattle.mx_wire.specs.declared.entry.Entry.TheVariants as entry
use Rattle.mem_wire.specs.Adds.{late_entries}
use Rattle.mem_wire.proofs.Telling.{tells, goes_on}
use Rattle.mem_wire.proofs.Courses.{within-moves, within-wakes}
use Rattle.mem_wire.proofs.Links.{late_are}
use Rattle.mem_wire.proofs.Following.{wake-marks, wake-later, wake-calls, marks_are}
use Rattle.mem_wire.proofs.CutLaws.{over-is}
use Rattle.mem_wire.proofs.Entries.{tape-stays}
use Rattle.mem_wire.proofs.Arrivals.{follows-woken}
use Rattle.mem_wire.proofs.Playable.{first-some, wake-end}
use Rattle.mem_wire.proofs.Results.{on_ok}
use Rattle.mem_wire.proofs.tape.TapeWire.wait.Goals as goal

pub invariant_of-self : goal.invariant_of-self
invariant_of-self c =
    let s = c.self.inside.stage in
    tape-stays _ s _ c.self.inside.told _ entry.Over c.self.invariant
    (within-moves _ s _ c.self.invariant.within refl) (record { frame = refl; late = c.clear.ensures })
    c.add_call.ensures (λ log is follows. refl) (λ m. refl)
    (record { woke = refl; accepted = λ port. refl; opened = refl; known = λ recording log. refl; named = λ links. refl; got = refl; open_is = λ was. refl; told = λ was. refl; blocked = λ was. refl; wrote = refl }) (record { call = record { unmarked = refl; judge = λ log call. call }; due = λ log. refl }) refl
    (λ log follows stands. over-is _ (take (length c.deref.result.now - s.cut) (drop s.cut c.deref.result.now)) s.cut _ stands.cut (take_rest c.deref.result.now s.cut ∙ ap (drop s.cut) c.deref.ensures.value) (sym c.first_moment.ensures ∙ c.in_default.is))
    (λ log follows. follows.turns)

pub returns-in_default-clause-told : goal.returns-in_default-clause-told
returns-in_default-clause-told c =
    let late = c.self.inside.stage.late in
    rw (← c.self.view_is) (tells c.self.inside.told (late_entries late) _ _ c.add_call.ensures (late_are late) (λ log is. tt))

pub invariant_of-self-else-is_err : goal.invariant_of-self-else-is_err
invariant_of-self-else-is_err c =
    let s = c.self.inside.stage in
    let count = c.lines_of_moment.result in
    let wakes = on_ok c.wake.result _ (sym c.is_err.ensures.value ∙ c.if-is_err.false) c.wake.ensures.ok in
    let rest = take (length c.deref.result.now - s.cut) (drop s.cut c.deref.result.now) in
    let is = take_rest c.deref.result.now s.cut ∙ ap (drop s.cut) c.deref.ensures.value in
    let some : 0 < count = c.lines_of_moment.ensures.some (first-some rest c.in-Some.now_ms (sym c.first_moment.ensures ∙ c.in-Some.is)) in
    goes_on _ s c.wake.new.stage c.self.inside.told _ (wake-marks s (take count rest)) (entry.Woke c.args.until_ms c.in-Some.now_ms) c.self.invariant
    (within-wakes _ _ _ s c.wake.new.stage c.self.invariant.within wakes (omega arith) (wake-end s.cut count rest c.self.inside.entries.items is c.self.invariant.within.cut))
    (wake-calls c.self.inside.told _ _ _ s (take count rest) c.deref-2.result.now _ c.deref-2.ensures.value c.add_marks.ensures c.put_marks.ensures c.add.ensures.adds c.add.ensures.bounded)
    (λ log told_is follows. follows-woken _ s c.wake.new.stage c.in-Some.now_ms count c.args.until_ms rest log c.self.invariant.within follows is (sym c.first_moment.ensures ∙ c.in-Some.is) some c.lines_of_moment.ensures.end (wake-end s.cut count rest c.self.inside.entries.items is c.self.invariant.within.cut) c.lines_of_moment.ensures.none c.lines_of_moment.ensures.at wakes)

pub returns-else-is_err-clause-told : goal.returns-else-is_err-clause-told
returns-else-is_err-clause-told c =
    let s = c.self.inside.stage in
    let told = c.self.inside.told in
    let count = c.lines_of_moment.result in
    let rest = take (length c.deref.result.now - s.cut) (drop s.cut c.deref.result.now) in
    let is = take_rest c.deref.result.now s.cut ∙ ap (drop s.cut) c.deref.ensures.value in
    let some : 0 < count = c.lines_of_moment.ensures.some (first-some rest c.in-Some.now_ms (sym c.first_moment.ensures ∙ c.in-Some.is)) in
    rw (← c.self.view_is) (tells told (wake-marks s (take count rest)) (entry.Woke c.args.until_ms c.in-Some.now_ms) _
    (wake-calls told _ _ _ s (take count rest) c.deref-2.result.now _ c.deref-2.ensures.value c.add_marks.ensures c.put_marks.ensures c.add.ensures.adds c.add.ensures.bounded)
    (marks_are s (take count rest))
    (λ log told_is. wake-later _ s (take count rest) c.in-Some.now_ms count c.args.until_ms rest log (c.self.invariant.follows log told_is) is (sym c.first_moment.ensures ∙ c.in-Some.is) some c.lines_of_moment.ensures.none))
