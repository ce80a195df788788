use Rattle.std.proofs.Common.{ap}
use Rattle.mx_wire.specs.declared.entry.Entry.TheVariants as entry
use Rattle.mem_wire.specs.Adds.{late_entries}
use Rattle.mem_wire.proofs.Telling.{tells, goes_on}
use Rattle.mem_wire.proofs.Courses.{within-moves}
use Rattle.mem_wire.proofs.Links.{late_are}
use Rattle.mem_wire.proofs.Following.{open-if-open}
use Rattle.mem_wire.proofs.Entries.{follows-closed, open-in}
use Rattle.mem_wire.proofs.tape.TapeWire.close.Goals as goal

pub invariant_of-self : goal.invariant_of-self
invariant_of-self c =
    let s = c.self.inside.stage in
    let told = c.self.inside.told in
    goes_on _ s c.close.new.stage told _ (late_entries s.late) (entry.Closed c.args.link) c.self.invariant
    (within-moves _ s _ c.self.invariant.within c.close.ensures.frame) c.add_call.ensures
    (λ log is follows. follows-closed _ s c.close.new.stage log c.args.link follows (open-in told _ c.args.link log (ap (λ v. v.told) c.self.view_is) c.requires.open is) c.close.ensures)

pub returns-clause-told : goal.returns-clause-told
returns-clause-told c =
    let s = c.self.inside.stage in
    let told = c.self.inside.told in
    rw (← c.self.view_is)
    (tells told (late_entries s.late) (entry.Closed c.args.link) _ c.add_call.ensures (late_are s.late)
    (λ log is. open-if-open told _ c.args.link s.late (ap (λ v. v.told) c.self.view_is) c.requires.open log is))
