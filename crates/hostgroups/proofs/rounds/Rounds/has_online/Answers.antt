use Rattle.std.proofs.Common.{◌≡◌, ◌<◌, List, [], length, refl, sym, ap, ◌∙◌, arith}
use Rattle.std.specs.List.{list_any}
use Rattle.mx_base.specs.declared.names.ServerId.{ServerId}
use Rattle.hostgroups.specs.Picks.{is_online_at}
use Rattle.hostgroups.specs.Rounds.{turns_of}
use Rattle.hostgroups.proofs.Lookups.{absent, found, within}
use Rattle.hostgroups.proofs.rounds.Rounds.has_online.Goals as goal

pub index-requires : goal.index-requires
index-requires c =
    let here : c.in-Some.place < length c.self.inside.rounds.items = within c.self.inside.rounds.items _ c.args.hostgroup c.in-Some.place
    c.self.view_is c.in-Some.ensures in
    omega (arith, here, c.self.inside.rounds.ok.0)

pub returns-in-Some : goal.returns-in-Some
returns-in-Some c =
    let here = found _ _ c.args.hostgroup c.in-Some.place c.index.result.now c.self.view_is c.in-Some.ensures c.index.ensures in
    c.has_online.ensures ∙ ap (λ (turns : List ServerId). list_any (is_online_at c.args.servers.now) turns) (sym here.turns)

pub returns-in-None : goal.returns-in-None
returns-in-None c =
    let none : turns_of c.args.self.now c.args.hostgroup ≡ [] = (absent c.args.self.now c.args.hostgroup [] (sym c.in-None.ensures)).0 in
    rw none refl
