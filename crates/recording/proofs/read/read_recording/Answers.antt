use Rattle.recording.specs.Ended.{standing_of}
use Rattle.std.proofs.Common.{length, sym, ◌∙◌, arith, rules}
use Rattle.recording.proofs.LineSteps.{begins, ends, reading, taken_line, refused_line, unended_line, behind_size}
use Rattle.recording.proofs.PlayableLines.{playable}
use Rattle.recording.specs.Recording.{Reading}
use Rattle.recording.proofs.read.read_recording.Goals as goal

pub loop-rest-init : goal.loop-rest-init
loop-rest-init c = record {
  bounds = omega arith;
  size = omega arith;
  said = rw (c.new-progress.ensures, c.new-entries.ensures.items) (begins c.args.bytes.now);
}

pub returns-in_default-clause-fault : goal.returns-in_default-clause-fault
returns-in_default-clause-fault c = rw c.refusal_at.ensures (unended_line (reading c.loop-rest.lines (length c.args.bytes.now) (standing_of c.loop-rest.progress) c.loop-rest.entries.items c.loop-rest.rest.now) c.loop-rest.rest.now _ (search rules) c.in_default.ensures c.loop-rest.invariant.said)

pub returns-in-Err-clause-fault : goal.returns-in-Err-clause-fault
returns-in-Err-clause-fault c = rw c.refusal_at-in-Err.ensures (refused_line c.loop-rest.lines (length c.args.bytes.now) (standing_of c.loop-rest.progress) c.loop-rest.entries.items c.loop-rest.rest.now c.in-Some.at _ c.in-Err.refusal c.in-Some.ensures c.loop-rest.invariant.size c.in-Err.ensures.err c.loop-rest.invariant.said)

pub loop-rest-preserved : goal.loop-rest-preserved
loop-rest-preserved c = record {
  bounds = c.in_default-take_line.ensures.bounds;
  size = behind_size (length c.args.bytes.now) c.in-Some.at c.loop-rest.rest.now c.loop-rest.invariant.size;
  said = taken_line c.loop-rest.lines (length c.args.bytes.now) (standing_of c.loop-rest.progress) _ c.loop-rest.entries.items _ c.loop-rest.rest.now c.in-Some.at _ c.in-Some.ensures c.loop-rest.invariant.size c.in_default-take_line.ensures.ok c.loop-rest.invariant.said;
}

pub returns-clause-playable : goal.returns-clause-playable
returns-clause-playable c =
    let read : Reading = reading c.loop-rest.lines (length c.args.bytes.now) (standing_of c.loop-rest.progress) c.loop-rest.entries.items c.loop-rest.rest.now in
    playable c.args.bytes.now c.loop-rest.entries.items (sym c.loop-rest.invariant.said ∙ ends read c.loop-rest.rest.now (search rules))
