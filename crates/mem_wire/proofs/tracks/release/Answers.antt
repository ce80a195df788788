use Rattle.std.proofs.Common.{List, [], ◌∷◌, take, get_or, sym, subst}
use Rattle.std.proofs.lemmas.List.{take_more}
use Rattle.recording.specs.declared.entry.RecordEntry.{RecordEntry}
use Rattle.mem_wire.specs.Tracks.{Released}
use Rattle.mem_wire.proofs.LineLaws.{released-append}
use Rattle.mem_wire.proofs.tracks.release.Goals as goal

pub loop-line-preserved : goal.loop-line-preserved
loop-line-preserved c =
    let lines = c.args.lines.now in
    let i = c.loop-line.line-index in
    let line = c.line-item.result in
    let first = c.args.tracks.now.items in
    let old = c.loop-line.tracks.items in
    let new = c.release_line.new.tracks.items in
    subst (λ (ls : List RecordEntry). Released c.args.wake ls first new) (sym (take_more lines i line c.loop-line-test.true))
    (released-append c.args.wake (take i lines) (get_or lines i line ∷ []) first old new c.loop-line.invariant
    (subst (λ (l : RecordEntry). Released c.args.wake (l ∷ []) old new) c.line-item.is c.in_ok-release_line.ensures))
