use Rattle.std.proofs.Common.{◌≡◌, ◌++◌, length, ap, sym, subst, arith}
use Rattle.std.specs.Prelude.{ℕ}
use Rattle.mx_wire.specs.Answers.{ReadsAtMost, got_entry}
use Rattle.mem_wire.specs.Adds.{late_entries}
use Rattle.mem_wire.proofs.Telling.{tells_if, goes_on_if, calls_after_if}
use Rattle.mem_wire.proofs.Courses.{within-moves}
use Rattle.mem_wire.proofs.Links.{late_are}
use Rattle.mem_wire.proofs.Following.{open-if-open}
use Rattle.mem_wire.proofs.Entries.{follows-read, open-in, read-fits}
use Rattle.mem_wire.proofs.tape.TapeWire.read.Goals as goal

pub invariant_of-self : goal.invariant_of-self
invariant_of-self c =
    let s = c.self.inside.stage in
    let told = c.self.inside.told in
    let got = c.read-got.result in
    let into = c.read-got.new.into in
    let same : length into ≡ length c.args.into.now = c.read-got.auto.into in
    goes_on_if _ s c.read-got.new.stage told _ (late_entries s.late) c.read_entry.result (got_entry c.args.link into got) c.self.invariant
    (within-moves _ s _ c.self.invariant.within c.read-got.ensures.moves.frame)
    (calls_after_if _ _ _ (late_entries s.late) c.read_entry.result c.add_marks.ensures c.add_if.ensures) c.read_entry.ensures
    (λ log is follows. follows-read _ s c.read-got.new.stage log c.args.link c.args.into.now into got c.self.invariant.within follows
    (open-in told _ c.args.link log (ap (λ v. v.told) c.self.view_is) c.requires.open is) c.read-got.ensures.moves c.requires.room (subst (λ (k : ℕ). ReadsAtMost k got) (sym same) c.read-got.ensures.bound) c.read-got.ensures.reads)

pub returns-clause-told : goal.returns-clause-told
returns-clause-told c =
    let s = c.self.inside.stage in
    let told = c.self.inside.told in
    let got = c.read-got.result in
    let into = c.read-got.new.into in
    let same : length into ≡ length c.args.into.now = c.read-got.auto.into in
    rw (← c.self.view_is)
    (tells_if told (late_entries s.late) c.read_entry.result (got_entry c.args.link into got) _
    (calls_after_if _ _ _ (late_entries s.late) c.read_entry.result c.add_marks.ensures c.add_if.ensures) c.read_entry.ensures (late_are s.late)
    (λ log is. read-fits (log ++ late_entries s.late) c.args.link into got (subst (λ (k : ℕ). ReadsAtMost k got) (sym same) c.read-got.ensures.bound) (omega (arith, same, c.requires.room))
    (open-if-open told _ c.args.link s.late (ap (λ v. v.told) c.self.view_is) c.requires.open log is)))
