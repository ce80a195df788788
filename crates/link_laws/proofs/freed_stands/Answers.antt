use Rattle.std.proofs.Common.{refl}
use Rattle.link_laws.proofs.freed_stands.Goals as goal

pub returns : goal.returns
returns c = λ reads codes state link stands. record {
  told = stands.told;
  id = stands.id;
  live = stands.live;
  once = stands.once;
  carries = refl;
  marked = refl;
  stage = stands.stage;
}
