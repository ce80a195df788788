use Rattle.std.proofs.Common.{◌∙◌}
use Rattle.link_state.proofs.Settling.{calms, names_stay}
use Rattle.link_state.proofs.place.calm.Goals as goal

pub returns-clause-is : goal.returns-clause-is
returns-clause-is c =
    calms c.args.settings.now c.args.told.now c.in_ok-all.all c.apply.new.self c.in_ok-value.value (c.in_ok-value.ensures ∙ c.value.ensures.value)
    c.in_ok-all.ensures.copy c.in_ok-apply.ensures.ok

pub returns-clause-names : goal.returns-clause-names
returns-clause-names c =
    names_stay c.args.settings.now c.in_ok-all.all c.apply.new.self c.in_ok-value.value c.in_ok-all.ensures.copy c.in_ok-apply.ensures.ok c.requires
