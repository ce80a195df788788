use Rattle.std.proofs.Common.{ap, ◌∙◌}
use Rattle.std.specs.List.{list_any}
use Rattle.hostgroups.specs.Picks.{is_online_at}
use Rattle.hostgroups.specs.Rounds.{Coming}
use Rattle.hostgroups.proofs.Turning.{any-from_turn}
use Rattle.hostgroups.proofs.round.Round.has_online.Goals as goal

pub returns : goal.returns
returns c =
    c.any_online.ensures
    ∙ rw c.as_slice.ensures.value (any-from_turn (is_online_at c.args.servers.now) c.self.inside.place c.self.inside.turns.items)
    ∙ ap (λ (round : Coming). list_any (is_online_at c.args.servers.now) round.turns) c.self.view_is
