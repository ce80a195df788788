use Rattle.router_laws.proofs.OfLinks.EndedRouted.{ended_routed}
use Rattle.router_laws.proofs.links.losing.loses_ended_router.Goals as goal

pub returns : goal.returns
returns c = λ service texts admin log t now roomy l how n links router may so.
    ended_routed (record {
      loses = c.lost_stands.ensures;
      leaves = c.left_stands.ensures.ends;
      same = c.same_stands.ensures;
      tests = c.freed_stands.ensures.test;
      homed = c.lawful_homes.ensures;
      frees = c.links_are_given_back.ensures;
    }) service log t now roomy l how n links router may so c.carried_homes.ensures.row
