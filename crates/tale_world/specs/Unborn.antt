-- Lives of sessions that are to come.
use Rattle.std.specs.Prelude.{◌≡◌, ◌<◌, Some, None}
use Rattle.mx_base.specs.declared.names.LinkId.{LinkId}
use Rattle.private_model.specs.Names.{SessionName}
use Rattle.private_model.specs.View.{View, first_held, session_in}
use Rattle.log_story.proofs.Frames.{IsBorn, asker_at}

-- No session that is to come was touched.
pub record AreUnborn (view : View) : Type 0 where
  pub held : (n : SessionName) → view.lives n.client n.hostgroup < n.life → view.held n ≡ first_held
  pub dues : (n : SessionName) → view.lives n.client n.hostgroup < n.life → view.dues n ≡ None
  pub carried : (l : LinkId) (n : SessionName) → session_in (view.links l).carries ≡ Some n
      → IsBorn view n
  pub asked : (l : LinkId) (n : SessionName) → asker_at (view.links l).stage ≡ Some n → IsBorn view n
