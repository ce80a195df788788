use Rattle.std.proofs.Common.{sym, ◌∙◌}
use Rattle.mem_wire.proofs.InTurn.{passes-line}
use Rattle.mem_wire.proofs.naming.search_lines.Goals as goal

pub loop-line-preserved : goal.loop-line-preserved
loop-line-preserved c =
    passes-line c.args.wake c.args.tracks.now c.args.turns.now c.loop-line.turns c.remove.new.self c.in-Some.line c.in-Some.at c.loop-line.invariant
    c.in-Some.ensures.some.has (sym c.link_to_name.ensures ∙ c.in_default-link_to_name.is) c.remove.ensures.updates.0
