use Rattle.std.proofs.Common.{◌≡◌, drop}
use Rattle.toml.specs.View.{items_view}
use Rattle.mx_config.specs.Lists.{are_texts}
use Rattle.mx_config.proofs.lists.are_texts.Given as goal

-- the entries that are left decide
abbrev pub invariant-loop-item : goal.invariant-loop-item
invariant-loop-item l = are_texts (items_view (drop l.item-index l.items)) ≡ are_texts (items_view l.items)
