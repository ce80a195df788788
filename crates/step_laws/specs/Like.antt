-- Two tales that are the same but for the order in which their stories tell it.
use Rattle.std.specs.Prelude.{◌≡◌}
use Rattle.private_model.specs.View.{Setup}
use Rattle.log_story.specs.Tale.{Tale, view_of}

pub record IsLike (setup : Setup) (old new : Tale) : Type 0 where
  pub moment : new.moment ≡ old.moment
  pub view : view_of setup new ≡ view_of setup old
  pub clients : new.clients ≡ old.clients
  pub links : new.links ≡ old.links
  pub wires : new.wires ≡ old.wires
