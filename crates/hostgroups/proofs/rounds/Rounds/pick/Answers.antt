use Rattle.std.proofs.Common.{◌≡◌, ◌<◌, List, [], length, refl, sym, ap, ◌∙◌, arith}
use Rattle.std.specs.List.{find}
use Rattle.mx_base.specs.declared.names.ServerId.{ServerId}
use Rattle.hostgroups.specs.Picks.{is_ready}
use Rattle.hostgroups.specs.Rounds.{turns_of}
use Rattle.hostgroups.specs.Turns.{behind}
use Rattle.hostgroups.proofs.Lookups.{absent, found, place_of-with_turns, within}
use Rattle.hostgroups.proofs.rounds.Rounds.pick.Goals as goal

pub index_mut-requires : goal.index_mut-requires
index_mut-requires c =
    let here : c.in-Some.place < length c.self.inside.rounds.items = within c.self.inside.rounds.items _ c.args.hostgroup c.in-Some.place
    c.self.view_is c.in-Some.ensures in
    omega (arith, here, c.self.inside.rounds.ok.0)

pub invariant_of-self : goal.invariant_of-self
invariant_of-self c = λ q.
    let here = found _ _ c.args.hostgroup c.in-Some.place c.index_mut.result.now c.self.view_is c.in-Some.ensures c.index_mut.ensures.value
    in
    let written = sym (here.with (behind (is_ready c.args.servers.now c.args.counts.now) c.index_mut.result.now.turns)) in
    let kept = place_of-with_turns c.args.self.now c.args.hostgroup
    (behind (is_ready c.args.servers.now c.args.counts.now) c.index_mut.result.now.turns) q in
    rw (c.pick.ensures.behind, c.self.view_is, written, kept) (rw c.self.view_is at (c.self.invariant q))

pub returns-in-Some-clause-picked : goal.returns-in-Some-clause-picked
returns-in-Some-clause-picked c =
    let here = found _ _ c.args.hostgroup c.in-Some.place c.index_mut.result.now c.self.view_is c.in-Some.ensures c.index_mut.ensures.value
    in
    c.pick.ensures.picked ∙ ap (λ (turns : List ServerId). find (is_ready c.args.servers.now c.args.counts.now) turns) (sym here.turns)

pub returns-in-Some-clause-behind : goal.returns-in-Some-clause-behind
returns-in-Some-clause-behind c =
    let here = found _ _ c.args.hostgroup c.in-Some.place c.index_mut.result.now c.self.view_is c.in-Some.ensures c.index_mut.ensures.value
    in
    let turns = here.turns in
    rw (c.pick.ensures.behind, c.self.view_is, turns) (sym (here.with
    (behind (is_ready c.args.servers.now c.args.counts.now) c.index_mut.result.now.turns)))

pub returns-in-None-clause-picked : goal.returns-in-None-clause-picked
returns-in-None-clause-picked c =
    let none : turns_of c.args.self.now c.args.hostgroup ≡ [] = (absent c.args.self.now c.args.hostgroup [] (sym c.in-None.ensures)).0 in
    rw none refl

pub returns-in-None-clause-behind : goal.returns-in-None-clause-behind
returns-in-None-clause-behind c =
    sym (absent c.args.self.now c.args.hostgroup (behind (is_ready c.args.servers.now c.args.counts.now)
    (turns_of c.args.self.now c.args.hostgroup)) (sym c.in-None.ensures)).1
