use Rattle.router_laws.proofs.OfLinks.Farewells.{farewell}
use Rattle.router_laws.proofs.links.farewell.farewells_router.Goals as goal

pub returns : goal.returns
returns c = λ service texts admin log marks e t roomy room l lent router only rooms may says lends is follow last.
    farewell (record {
      marks = c.marks_router.ensures;
      quiet = c.quiets_router.ensures;
      writes = c.writes_router.ensures;
      loses = c.loses_router.ensures;
      closes = c.closes_router.ensures;
    }) service log marks t roomy room l lent router only rooms may says lends e is follow last
