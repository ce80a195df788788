use Rattle.std.specs.Prelude.{◌++◌, ◌+◌, ◌<◌, length}
use Rattle.std.proofs.Common.{arith}
use Rattle.router_laws.proofs.quiet.quiet.routers_append.Goals as goal

pub returns : goal.returns
returns c = record {
  stands = λ service texts admin old new e t roomy router appends.
      c.marks_router.ensures service texts admin old appends.marks t roomy router appends.only_marks
      (let few : length (old ++ appends.marks) + 1 < 281474976710656 = appends.lawful.bounded in omega (arith, few));
  is = λ old new e appends. appends.is;
}
