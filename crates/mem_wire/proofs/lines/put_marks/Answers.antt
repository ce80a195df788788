use Rattle.std.proofs.Common.{◌≡◌, ◌+◌, ◌++◌, [], take, ◌∙◌, ap, sym, append-nil}
use Rattle.std.specs.List.{filter_map, cons_option}
use Rattle.mem_wire.specs.Play.{mark_at}
use Rattle.mem_wire.proofs.Growth.{filter_map-next}
use Rattle.mx_wire.specs.Adds.{adds-append}
use Rattle.mem_wire.proofs.lines.put_marks.Goals as goal
use Rattle.mem_wire.proofs.lines.put_marks.Goals.{in-Some, in_default}

pub loop-line-preserved : goal.loop-line-preserved
loop-line-preserved c =
    let lines = c.args.lines.now in
    let i = c.loop-line.line-index in
    let f = mark_at c.args.opened.now in
    let grown : filter_map f (take (i + 1) lines) ≡ filter_map f (take i lines) ++ cons_option c.mark_in.result [] =
    filter_map-next f lines i c.line-item.result c.mark_in.result c.loop-line-test.true
    (ap f (sym c.line-item.is) ∙ sym c.mark_in.ensures) in
    elim c.match-mark_in.branch [
      | in-Some w ↦ rw (w.told-is, grown, w.in-Some.is) (adds-append _ _ _ _ _ c.loop-line.invariant w.add.ensures.adds)
      | in_default w ↦ rw (w.told-is, grown, w.in_default.is, append-nil) c.loop-line.invariant
    ]
