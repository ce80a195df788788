use Rattle.std.proofs.Common.{◌≡◌, ◌+◌, ◌++◌, [], take, ◌∙◌, ap, sym, arith, append_assoc, append-nil}
use Rattle.std.specs.List.{cons_option}
use Rattle.mem_wire.specs.Lines.{waiting_at, clients_at}
use Rattle.mem_wire.proofs.Growth.{filter_map-next}
use Rattle.mem_wire.proofs.lines.arrive.Goals as goal
use Rattle.mem_wire.proofs.lines.arrive.Goals.{in-Some+in_ok-push, in_default}

pub loop-line-preserved : goal.loop-line-preserved
loop-line-preserved c =
    let lines = c.args.lines.now in
    let i = c.loop-line.line-index in
    let grown : clients_at c.args.port (take (i + 1) lines) ≡ clients_at c.args.port (take i lines) ++ cons_option c.waiting_in.result [] =
    filter_map-next (waiting_at c.args.port) lines i c.line-item.result c.waiting_in.result c.loop-line-test.true
    (ap (waiting_at c.args.port) (sym c.line-item.is) ∙ sym c.waiting_in.ensures) in
    elim c.match-waiting_in.branch [
      | in-Some+in_ok-push w ↦ rw grown (grind (arith, append_assoc))
      | in_default w ↦ rw grown (grind (arith, append-nil))
    ]
