use Rattle.std.proofs.Common.{sym, ◌∙◌}
use Rattle.shared_core.proofs.Needs.{told_place}
use Rattle.shared_core.proofs.needing.is_to_prepare.Goals as goal

pub returns : goal.returns
returns c = λ is. record {
  of_key = c.has_names-of_text.ensures.settings;
  of_link = c.has_names-of_link.ensures.settings;
  is_there = told_place c.args.server.now.row.link.state c.wanted-wanted.result c.args.row.now.desk.seat.place c.args.of_key.now c.args.server.now.row.long
      (sym c.in_ok-wish.ensures ∙ c.is_prepare.ensures is);
}
