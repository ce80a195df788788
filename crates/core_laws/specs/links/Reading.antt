-- Bytes are read on a link to a server for the client whose session that carries.
use Rattle.std.specs.Prelude.{◌≡◌, suc, true, false, Some}
use Rattle.private_model.specs.Names.{LinkId, MessageName, SessionName}
use Rattle.private_model.specs.Story.{is_link_id}
use Rattle.private_model.specs.View.{session_in}
use Rattle.log_story.specs.Plan.{gives_up}
use Rattle.log_story.specs.Tale.{Client, is_to_server, link_in}
use Rattle.step_laws.specs.Seats.{IsSeated, is_its}
use Rattle.step_laws.specs.Spared.{is_given_now}
use Rattle.step_laws.specs.Taken.{AreSingle}
use Rattle.core_stands.specs.Grounds.{Ground, view_on}

-- Of others the plan gives nothing up now, and nothing for which another link is lent.
pub record IsReadFor (g : Ground) (l : LinkId) (client : Client) : Type 0 where
  pub to_server : is_to_server g.tale l ≡ true
  pub session : SessionName
  pub carries : session_in (link_in g.setup g.tale l).carries ≡ Some session
  pub number : session.client ≡ client.number
  pub seated : IsSeated g.tale client
  pub single : AreSingle g.plan (is_its client)
  pub keeps : (m : MessageName) → is_its client m.client ≡ false → gives_up g.plan (suc g.tale.moment) m ≡ false
  pub unlent : (other : LinkId) → is_link_id other l ≡ false
      → is_given_now g.plan (suc g.tale.moment) (view_on g) (link_in g.setup g.tale other).carries ≡ false
