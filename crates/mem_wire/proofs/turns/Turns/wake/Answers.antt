use Rattle.std.proofs.Common.{◌≡◌, ℕ, ◌+◌, List, length, take, get_or, refl, sym, ap, subst, arith}
use Rattle.std.proofs.lemmas.List.{take_more, length-take-le}
use Rattle.recording.specs.declared.entry.RecordEntry.{RecordEntry}
use Rattle.mem_wire.specs.Turns.{Sees, Seen}
use Rattle.mem_wire.proofs.InTurn.{none-in, seen-none, seen-more}
use Rattle.mem_wire.proofs.turns.Turns.wake.Goals as goal

pub loop-i-init : goal.loop-i-init
loop-i-init c = seen-none _ _ c.args.self.now _ (λ n had. had) (record {
  firsts = λ at. none-in c.new.result at c.new.ensures.empty;
  lines = λ line. none-in c.new-2.result line c.new-2.ensures.empty;
  link = refl;
})

pub loop-i-preserved : goal.loop-i-preserved
loop-i-preserved c =
    let tracks = c.args.tracks.now in
    let from = c.args.from in
    let lines = c.args.lines.now in
    let i = c.loop-i.i in
    let line = c.index-lines-i.result in
    let first = c.args.self.now in
    let old = c.loop-i.self in
    let new = c.see.new.self in
    let size : length (take i lines) ≡ i = length-take-le i lines (omega arith) in
    subst (λ (ls : List RecordEntry). Seen tracks from ls first new) (sym (take_more lines i line c.loop-i-test.true))
    (seen-more tracks from (take i lines) (get_or lines i line) (from + i) first old new (ap (λ (n : ℕ). from + n) (sym size)) c.loop-i.invariant
    (subst (λ (l : RecordEntry). Sees tracks l (from + i) old new) c.index-lines-i.is c.in_ok-see.ensures))
