use Rattle.std.proofs.Common.{sym, ◌∙◌}
use Rattle.mem_wire.proofs.InTurn.{found-in-lines, found-in-links}
use Rattle.mem_wire.proofs.naming.next_to_name.Goals as goal

pub returns-then-is_some : goal.returns-then-is_some
returns-then-is_some c =
    let lines = c.search_lines-of_lines in
    found-in-lines lines.result c.args.stage.now _ lines.new.turns c.deref.ensures.value lines.ensures.passes lines.ensures.some (sym c.is_some.ensures ∙ c.if-is_some.true)

pub returns : goal.returns
returns c =
    let lines = c.search_lines-of_lines in
    let links = c.search_links in
    found-in-links lines.result links.result c.args.stage.now _ _ _ lines.new.turns links.new.turns c.deref.ensures.value c.deref-2.ensures.value c.deref-3.ensures.value (sym c.is_some.ensures ∙ c.if-is_some.false)
    lines.ensures.passes lines.ensures.none links.ensures.passes links.ensures.some links.ensures.none
