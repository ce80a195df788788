use Rattle.std.proofs.Common.{◌++◌, ap, sym, subst}
use Rattle.mx_wire.specs.Answers.{took_entry}
use Rattle.mem_wire.specs.Adds.{late_entries}
use Rattle.mx_wire.specs.Log.{Log}
use Rattle.mx_wire.specs.declared.entry.Entry.TheVariants as entry
use Rattle.mem_wire.specs.Fitting.{takes}
use Rattle.mem_wire.proofs.Telling.{tells_if, goes_on_if, calls_after_if, told-if}
use Rattle.mem_wire.proofs.Courses.{within-moves}
use Rattle.mem_wire.proofs.Links.{late_are}
use Rattle.mem_wire.proofs.Following.{open-if-open}
use Rattle.mem_wire.proofs.Entries.{follows-wrote, wrote-fitting, open-in, write-fits}
use Rattle.mem_wire.proofs.tape.TapeWire.write.Goals as goal

pub invariant_of-self : goal.invariant_of-self
invariant_of-self c =
    let s = c.self.inside.stage in
    let told = c.self.inside.told in
    let took = c.write-took.result in
    let piece = c.args.piece.now in
    goes_on_if _ s c.write-took.new.stage told _ (late_entries s.late) c.write_entry.result (took_entry c.args.link c.args.tag piece took) c.self.invariant
    (within-moves _ s _ c.self.invariant.within c.write-took.ensures.moves.frame)
    (calls_after_if _ _ _ (late_entries s.late) c.write_entry.result c.add_marks.ensures c.add_if.ensures) c.write_entry.ensures
    (λ log is follows. follows-wrote _ s c.write-took.new.stage log c.args.link c.args.tag piece took c.self.invariant.within follows
    (open-in told _ c.args.link log (ap (λ v. v.told) c.self.view_is) c.requires.open is) c.write-took.ensures.moves c.write-took.ensures.writes)

pub returns-clause-told : goal.returns-clause-told
returns-clause-told c =
    let s = c.self.inside.stage in
    let told = c.self.inside.told in
    let took = c.write-took.result in
    let piece = c.args.piece.now in
    rw (← c.self.view_is)
    (tells_if told (late_entries s.late) c.write_entry.result (took_entry c.args.link c.args.tag piece took) _
    (calls_after_if _ _ _ (late_entries s.late) c.write_entry.result c.add_marks.ensures c.add_if.ensures) c.write_entry.ensures (late_are s.late)
    (λ log is. write-fits (log ++ late_entries s.late) c.args.link c.args.tag piece took c.write-took.ensures.bound
    (open-if-open told _ c.args.link s.late (ap (λ v. v.told) c.self.view_is) c.requires.open log is)))

pub returns-clause-takes : goal.returns-clause-takes
returns-clause-takes c =
    let s = c.self.inside.stage in
    let told = c.self.inside.told in
    let took = c.write-took.result in
    let piece = c.args.piece.now in
    rw (← c.self.view_is) (record {
      taken = λ before tag bytes is.
          let of = told-if told (late_entries s.late) c.write_entry.result (took_entry c.args.link c.args.tag piece took) _ before (entry.Wrote c.args.link tag bytes) (calls_after_if _ _ _ (late_entries s.late) c.write_entry.result c.add_marks.ensures c.add_if.ensures) c.write_entry.ensures is in
          subst (λ (l : Log). takes c.self.inside.entries.items l c.args.link piece bytes) (sym of.front)
          (wrote-fitting _ s of.log c.args.link c.args.tag tag piece took bytes c.self.invariant.within (c.self.invariant.follows of.log of.told)
          (open-in told _ c.args.link of.log (ap (λ v. v.told) c.self.view_is) c.requires.open of.told) c.write-took.ensures.writes of.same);
    })
