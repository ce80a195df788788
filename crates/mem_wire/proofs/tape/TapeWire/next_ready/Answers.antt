use Rattle.std.proofs.Common.{◌++◌, Option, refl, subst}
use Rattle.mx_wire.specs.declared.entry.Entry.TheVariants as entry
use Rattle.mem_wire.specs.Adds.{late_entries}
use Rattle.mem_wire.specs.Turns.{Searches}
use Rattle.mem_wire.specs.declared.naming.ToName.{ToName}
use Rattle.mem_wire.proofs.Telling.{tells, goes_on, calls_after}
use Rattle.mem_wire.proofs.Courses.{within-search, within-moves, moved-name}
use Rattle.mem_wire.proofs.Links.{late_are}
use Rattle.mem_wire.proofs.Nameable.{names-none}
use Rattle.mem_wire.proofs.InTurn.{in-search}
use Rattle.mem_wire.proofs.Entries.{tape-stays, follows-named, stays-search}
use Rattle.mem_wire.proofs.tape.TapeWire.next_ready.Goals as goal

pub invariant_of-self : goal.invariant_of-self
invariant_of-self c =
    let s = c.self.inside.stage in
    let mid = c.next_to_name.new.stage in
    let looks = c.next_to_name.ensures in
    tape-stays _ s _ c.self.inside.told _ entry.NoneNamed c.self.invariant
    (within-moves _ mid _ (within-search _ c.next_to_name.result s mid c.self.invariant.within looks) refl)
    (stays-search c.next_to_name.result s mid _ looks refl (c.clear.ensures))
    (calls_after _ _ _ (late_entries s.late) entry.NoneNamed c.add_marks.ensures c.add.ensures.adds c.add.ensures.bounded) (λ log is follows. refl) (λ m. refl)
    (record { woke = refl; accepted = λ port. refl; opened = refl; known = λ recording log. refl; named = λ links. refl; got = refl; open_is = λ was. refl; told = λ was. refl; blocked = λ was. refl; wrote = refl }) (record { call = record { unmarked = refl; judge = λ log call. call }; due = λ log. refl }) refl
    (λ log follows stands. names-none _ s mid (log ++ late_entries s.late) stands c.self.invariant.within follows.sound.linked follows.turns (subst (λ (f : Option ToName). Searches f s mid) c.in-None.is looks))
    (λ log follows. in-search _ c.next_to_name.result s mid follows.turns looks)

pub invariant_of-self-in-Some : goal.invariant_of-self-in-Some
invariant_of-self-in-Some c =
    let s = c.self.inside.stage in
    let mid = c.next_to_name.new.stage in
    let looks = c.next_to_name.ensures in
    let some = subst (λ (f : Option ToName). Searches f s mid) c.in-Some.is looks in
    goes_on _ s c.name.new.stage c.self.inside.told _ (late_entries s.late) (entry.Named c.in-Some.found.link) c.self.invariant
    (within-moves _ mid _ (within-search _ c.next_to_name.result s mid c.self.invariant.within looks) c.name.ensures.frame)
    (calls_after _ _ _ (late_entries s.late) (entry.Named c.in-Some.found.link) c.add_marks.ensures c.add-in-Some.ensures.adds c.add-in-Some.ensures.bounded)
    (λ log is follows. follows-named _ s mid c.name.new.stage log c.in-Some.found c.self.invariant.within follows some c.name.ensures
    (moved-name c.next_to_name.result s mid _ looks c.name.ensures.frame c.name.ensures.late c.name.ensures.links))

pub returns-in-None-clause-told : goal.returns-in-None-clause-told
returns-in-None-clause-told c =
    let late = c.self.inside.stage.late in
    rw (← c.self.view_is) (tells c.self.inside.told (late_entries late) _ _ (calls_after _ _ _ (late_entries late) _ c.add_marks.ensures c.add.ensures.adds c.add.ensures.bounded) (late_are late) (λ log is. tt))

pub returns-in-Some-clause-told : goal.returns-in-Some-clause-told
returns-in-Some-clause-told c =
    let late = c.self.inside.stage.late in
    rw (← c.self.view_is) (tells c.self.inside.told (late_entries late) _ _ (calls_after _ _ _ (late_entries late) _ c.add_marks.ensures c.add-in-Some.ensures.adds c.add-in-Some.ensures.bounded) (late_are late) (λ log is. tt))
