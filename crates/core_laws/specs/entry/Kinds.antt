-- Entries of one kind or another.
use Rattle.std.specs.Prelude.{◌≡◌, suc, true, false, All}
use Rattle.mx_wire.specs.declared.entry.Entry.{Entry}
use Rattle.private_model.specs.Names.{ClientNo, LinkId}
use Rattle.private_model.specs.Story.{is_link_id}
use Rattle.private_model.specs.View.{Nobody}
use Rattle.log_story.specs.Clients.{is_event_of}
use Rattle.log_story.specs.Plan.{word_at}
use Rattle.log_story.specs.Tale.{Client, counted, is_to_server, link_in}
use Rattle.log_story.specs.Telling.{told}
use Rattle.step_laws.specs.Seats.{IsSeated, is_its}
use Rattle.step_laws.specs.Freed.{NoneDone, NoneDoneBut}
use Rattle.step_laws.specs.Steps.{ends_now, told_then}
use Rattle.step_laws.specs.Taken.{AreSingle, GivesUpNone, is_called}
use Rattle.core_stands.specs.Grounds.{Ground, view_on}
use Rattle.core_laws.specs.entry.Calms.{IsAside}
use Rattle.core_laws.specs.entry.Entries.{TellsOf}

-- At the next moment none of a client's messages is given up that were taken up; nor is it told a word, if it ended before.
pub record IsStill (g : Ground) (client : Client) : Type 0 where
  pub keeps : GivesUpNone g.plan (suc g.tale.moment) client
  pub word : g.over client.number ≡ true → word_at g.plan (suc g.tale.moment) client.number ≡ word_at g.plan g.tale.moment client.number

-- at the next moment nothing is given up, nobody is ended, and none of those who ended is told a word
pub record IsUneventful (g : Ground) : Type 0 where
  pub still : All (IsStill g) g.tale.clients
  pub endless : (c : ClientNo) → ends_now g.plan (suc g.tale.moment) c ≡ false

-- an entry that tells nothing, and is no client's event
pub record IsQuiet (g : Ground) (e : Entry) : Type 0 where
  pub told_same : told g.setup g.plan g.tale e ≡ g.tale
  pub uncalled : (client : Client) → is_event_of (view_on g) client e ≡ false
  pub aside : (c : ClientNo) → IsAside g.setup g.tale e c
  pub of_none : TellsOf (λ c. false) g.tale e

-- Bytes come on the link of a client that goes on; nothing else is decided of others.
pub record IsSpeaking (g : Ground) (link : LinkId) (client : Client) : Type 0 where
  pub seated : IsSeated g.tale client
  pub its_link : client.link ≡ link
  pub aside : is_to_server g.tale link ≡ false
  pub alone : All (λ (other : Client). is_link_id other.link link ≡ true → other.number ≡ client.number) g.tale.clients
  pub nobody : (link_in g.setup g.tale link).carries ≡ Nobody
  pub going : g.over client.number ≡ false
  pub still : All (IsStill g) g.tale.clients
  pub rested : NoneDone g.setup g.plan (counted g.tale)
  pub single : AreSingle g.plan (is_its client)

-- An entry of a link to a server: of the links that one alone may be given back as it is told, and this client alone is called.
pub record IsOnLink (g : Ground) (e : Entry) (l : LinkId) (client : Client) : Type 0 where
  pub to_server : is_to_server (told_then g.setup g.plan g.tale e) l ≡ true
  pub alone : NoneDoneBut g.setup g.plan (λ other. is_link_id other l) (told_then g.setup g.plan g.tale e)
  pub seated : IsSeated (told_then g.setup g.plan g.tale e) client
  pub single : AreSingle g.plan (is_its client)
  pub others : All (λ (c : Client). is_its client c.number ≡ false
      → is_called g.plan (told_then g.setup g.plan g.tale e).moment (view_on g) e c ≡ false) (told_then g.setup g.plan g.tale e).clients
