use Rattle.place_keys.proofs.Apart.{places}
use Rattle.place_keys.proofs.laws.places_apart.Goals as goal

pub returns : goal.returns
returns c = places
