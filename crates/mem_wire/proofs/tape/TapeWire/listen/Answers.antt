use Rattle.std.proofs.Common.{refl}
use Rattle.mx_wire.specs.declared.entry.Entry.TheVariants as entry
use Rattle.mem_wire.specs.Adds.{late_entries}
use Rattle.mem_wire.proofs.Telling.{tells}
use Rattle.mem_wire.proofs.Courses.{within-moves}
use Rattle.mem_wire.proofs.Links.{late_are}
use Rattle.mem_wire.proofs.Entries.{tape-stays}
use Rattle.mem_wire.proofs.tape.TapeWire.listen.Goals as goal

pub invariant_of-self : goal.invariant_of-self
invariant_of-self c =
    let s = c.self.inside.stage in
    tape-stays _ s _ c.self.inside.told _ (entry.Listening c.args.port c.args.address) c.self.invariant
    (within-moves _ s _ c.self.invariant.within refl) (record { frame = refl; late = c.clear.ensures })
    c.add_call.ensures (λ log is follows. refl) (λ m. refl)
    (record { woke = refl; accepted = λ port. refl; opened = refl; known = λ recording log. refl; named = λ links. refl; got = refl; open_is = λ was. refl; told = λ was. refl; blocked = λ was. refl; wrote = refl }) (record { call = record { unmarked = refl; judge = λ log call. call }; due = λ log. refl }) refl (λ log follows stands. tt) (λ log follows. follows.turns)

pub returns-clause-told : goal.returns-clause-told
returns-clause-told c =
    rw (← c.self.view_is)
    (tells c.self.inside.told (late_entries c.self.inside.stage.late) _ _ c.add_call.ensures (late_are c.self.inside.stage.late) (λ log is. tt))
