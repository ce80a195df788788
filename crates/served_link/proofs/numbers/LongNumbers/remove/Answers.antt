use Rattle.std.proofs.Common.{ℕ, List, rules, ap, ◌∙◌}
use Rattle.std.proofs.lemmas.Fn.{filter_same}
use Rattle.served_link.specs.Numbers.{without}
use Rattle.served_link.proofs.numbers.LongNumbers.remove.Goals as goal

pub returns : goal.returns
returns c =
    filter_same _ _ _ (λ x b f' k. search rules) _ _ c.retain.ensures.filtered ∙ ap (λ (ns : List ℕ). without c.args.number ns) c.self.view_is
