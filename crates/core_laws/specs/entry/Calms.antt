-- Of which clients an entry leaves what they may take up next.
use Rattle.std.specs.Prelude.{◌≡◌, suc, Bool, true, false, ◌||◌, All}
use Rattle.std.specs.Option.{option_map_or}
use Rattle.mx_base.specs.declared.tag.Tag.{Tag}
use Rattle.mx_base.specs.declared.tag.Tag.TheVariants as tags
use Rattle.mx_wire.specs.declared.entry.Entry.{Entry}
use Rattle.mx_wire.specs.declared.entry.Entry.TheVariants.{Closed, Ended, Got, ReadFailed, WriteFailed, Wrote}
use Rattle.private_model.specs.Names.{ClientNo, LinkId}
use Rattle.private_model.specs.Story.{is_client, is_link_id}
use Rattle.private_model.specs.View.{Answered, Asked, Quiet, Setup, Stage}
use Rattle.log_story.specs.Plan.{Plan}
use Rattle.log_story.specs.Servers.{may_begin}
use Rattle.log_story.specs.Tale.{Client, Tale, is_to_server, link_in}
use Rattle.log_story.proofs.Frames.{asker}
use Rattle.step_laws.specs.Spared.{carries_of}
use Rattle.step_laws.specs.Steps.{ends_now}
use Rattle.step_laws.specs.Taken.{GivesUpNone, IsIdle}
use Rattle.core_stands.specs.Grounds.{Ground}

-- what stands there is asked for a session of this client
abbrev pub is_asked_of : Stage → ClientNo → Bool
is_asked_of Quiet c = false
is_asked_of (Asked question) c = option_map_or (λ m. is_client c m.client) (asker question) false
is_asked_of (Answered question) c = option_map_or (λ m. is_client c m.client) (asker question) false

-- a copy of a statement, which touches a client as it begins
abbrev pub is_copy : Tag → Bool
is_copy (tags.Mirror client ordinal) = true
is_copy _ = false

-- a link is lost: it carries no session of the client; or those leave whose link it is, of which it is none
pub record IsLostOf (setup : Setup) (tale : Tale) (link : LinkId) (c : ClientNo) : Type 0 where
  pub carried : is_to_server tale link ≡ true → carries_of (λ m. is_client c m.client) (link_in setup tale link).carries ≡ false
  pub theirs : All (λ (other : Client). is_link_id other.link link ≡ true → is_client c other.number ≡ false) tale.clients

-- as the entry is told
abbrev pub IsAside : Setup → Tale → Entry → ClientNo → Type 0
IsAside setup tale (Got link bytes) c = is_to_server tale link ≡ true → is_asked_of (link_in setup tale link).stage c ≡ false
IsAside setup tale (Wrote link tag bytes) c =
    is_to_server tale link ≡ true → may_begin setup link (tale.wires link) tale ≡ true → is_copy tag ≡ false
IsAside setup tale (Ended link) c = IsLostOf setup tale link c
IsAside setup tale (ReadFailed link) c = IsLostOf setup tale link c
IsAside setup tale (WriteFailed link) c = IsLostOf setup tale link c
IsAside setup tale (Closed link) c = IsLostOf setup tale link c
IsAside setup tale _ c = Unit {0}

-- nothing is told of it, nor is it given up: it has nothing to take up behind the entry if it had nothing before
pub record IsLeftCalm (setup : Setup) (plan : Plan) (tale : Tale) (e : Entry) (client : Client) : Type 0 where
  pub aside : IsAside setup tale e client.number
  pub keeps : GivesUpNone plan (suc tale.moment) client
  pub idle : IsIdle setup plan tale client

-- at an entry these are ended, beside those who ended before
abbrev pub EndNow : Ground → Ground → Type 0
EndNow old new = (c : ClientNo) → new.over c ≡ (old.over c || ends_now old.plan (suc old.tale.moment) c)
