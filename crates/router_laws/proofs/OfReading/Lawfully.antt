-- What is read on a link to a server: the router logs in, or what stands there runs, and an answer is read.
use Rattle.std.specs.Prelude.{◌≡◌, ◌||◌, ℕ, Bool, true, false, not, if◌then◌else◌, map, List, ◌∷◌, Option, Some, None}
use Rattle.std.proofs.Common.{refl, sym, ap, ◌∙◌, subst}
use Rattle.std.proofs.lemmas.Option.{none-some}
use Rattle.client_session.specs.Setups.{Setup as Service}
use Rattle.mx_wire.specs.declared.entry.Entry.TheVariants as entry
use Rattle.reply_track.specs.Runs.{Ending}
use Rattle.reply_track.specs.Runs.Ending.{Going, Ended, Failed}
use Rattle.reply_track.specs.declared.reply.ReplyKind.TheVariants as kind
use Rattle.private_model.specs.Commands.{Account, Reply}
use Rattle.server_side.specs.Login.{Opening, Goes, LogsIn, Fails, opening}
use Rattle.private_model.specs.Lawful.{IsLawful}
use Rattle.private_model.specs.Names.{LinkId, MessageName, ServerId}
use Rattle.private_model.specs.Story.{Capture, End, Heard, LoggedIn, Own, Prep, Question, Ran, Statement, Story, Sync, command_of, is_message, message_of, put}
use Rattle.private_model.specs.View.{Answered, Asked, Quiet, Setup, Stage, View, no_link, view_after, view_heard}
use Rattle.log_story.specs.Servers.{entered_by, heard_by, hears, kind_by, read_as, reset_by, runs_first, with_run}
use Rattle.log_story.specs.Tale.{Tale, Wire, client_hears, is_reset_step, is_to_server, link_in}
use Rattle.log_story.specs.Telling.{server_says, told, wire_with}
use Rattle.row_laws.specs.Rows.{IsRowBy}
use Rattle.core_tables.specs.Tables.{Tabled}
use Rattle.core_tables.specs.declared.server.Server.{Server}
use Rattle.core_stands.specs.Grounds.{Ground, view_on}
use Rattle.core_stands.specs.Stands.{Stands}
use Rattle.core_laws.proofs.OfParting.Forgetting.{server_there}

-- What each of these leaves so is so of the story.
module _ (g : Ground) (l : LinkId) (bytes : List ℕ) (P : Story → Type 0) (here : P g.tale.story)
    (enters : (server : ServerId) (account : Account) → (g.tale.wires l).entered ≡ false → P (LoggedIn l server account ∷ g.tale.story))
    (runs : (story : Story) → P story → P (Ran l ∷ story)) (hearing : (reply : Reply) (story : Story) → P story → P (Heard l reply ∷ story)) where
  abbrev wire : Wire
  wire = wire_with g.tale l bytes

  abbrev Keeps : Tale → Type 0
  Keeps tale = P tale.story

  entered_keeps : (g.tale.wires l).entered ≡ false → (at : Opening) → Keeps (entered_by g.plan l wire at g.tale)
  entered_keeps out (LogsIn said rest) = enters _ _ out
  entered_keeps out (Goes said) = here
  entered_keeps out (Fails said fault) = here

  reset_keeps : (ending : Ending) → Keeps (reset_by l wire ending g.tale)
  reset_keeps (Ended end rest) = here
  reset_keeps (Going state) = here
  reset_keeps (Failed rest) = here

  runs_keep : (stage : Stage) → Keeps (runs_first stage l g.tale)
  runs_keep Quiet = here
  runs_keep (Asked question) = runs g.tale.story here
  runs_keep (Answered question) = here

  heard_keeps : (question : Question) (ending : Ending) (tale : Tale) → Keeps tale → Keeps (heard_by l question wire ending tale)
  heard_keeps question (Ended end rest) tale so = hearing _ tale.story so
  heard_keeps question (Going state) tale so = so
  heard_keeps question (Failed rest) tale so = so

  hears_keep : (stage : Stage) (tale : Tale) → Keeps tale → Keeps (hears l wire stage tale)
  hears_keep Quiet tale so = so
  hears_keep (Asked question) tale so = so
  hears_keep (Answered question) tale so = heard_keeps question (read_as (kind_by (command_of question)) wire) tale so

  either : (b : Bool) (x y : Tale) → (b ≡ true → Keeps x) → Keeps y → Keeps (if b then x else y)
  either true x y first second = first refl
  either false x y first second = second

  out_of : (b : Bool) → not b ≡ true → b ≡ false
  out_of false is = refl
  out_of true is = absurd (let no : false ≡ true = is in cc)

  says_keep : Keeps (server_says g.setup g.plan l bytes g.tale)
  says_keep =
      either (not (g.tale.wires l).entered) _ _
      (λ out. entered_keeps (out_of (g.tale.wires l).entered out) (opening (g.plan.logins l) wire.unread))
      (either (is_reset_step (g.tale.wires l).step) _ _ (λ is. reset_keeps (read_as kind.Command wire))
      (hears_keep (link_in g.setup (with_run g.setup l g.tale) l).stage (with_run g.setup l g.tale) (runs_keep (link_in g.setup g.tale l).stage)))

  pub told_keeps : is_to_server g.tale l ≡ true → P (told g.setup g.plan g.tale (entry.Got l bytes)).story
  told_keeps there =
      subst (λ (b : Bool). P (if b then server_says g.setup g.plan l bytes g.tale
      else record g.tale { clients = map (client_hears l bytes) g.tale.clients }).story) (sym there)
      says_keep

-- It happens lawfully: the router logs in once.
unborn_by : (g : Ground) (l : LinkId) (server : Server) (b : Bool) → b ≡ false
    → IsRowBy b g.setup.reads g.codes (g.plan.logins l) (view_on g) server.row (g.tale.wires l) ((view_on g).links l)
    → (view_on g).links l ≡ no_link
unborn_by g l server false out is = is.unborn
unborn_by g l server true out is = absurd (let no : true ≡ false = out in cc)

pub told_lawful : (service : Service) (g : Ground) (t : Tabled) (l : LinkId) (server : Server) (bytes : List ℕ) → Stands service g t
    → is_to_server g.tale l ≡ true → t.links l ≡ Some server → IsLawful g.setup (told g.setup g.plan g.tale (entry.Got l bytes)).story
told_lawful service g t l server bytes stands there at =
    told_keeps g l bytes (IsLawful g.setup) stands.lawful
    (λ s account out. (stands.lawful, unborn_by g l server (g.tale.wires l).entered out (server_there service g t l server stands at).row.is))
    (λ story so. (so, tt)) (λ reply story so. (so, tt)) there

-- A message to which no reply was read then had none.

put_none : (replies : MessageName → Option Reply) (key : MessageName) (reply : Reply) (m : MessageName) (b : Bool) → is_message m key ≡ b
    → (if b then Some reply else replies m) ≡ None → replies m ≡ None
put_none replies key reply m true is none = absurd (none-some reply (sym none))
put_none replies key reply m false is none = none

heard_none : (setup : Setup) (view : View) (l : LinkId) (reply : Reply) (stage : Stage) (m : MessageName)
    → (view_heard setup view l reply stage).replies m ≡ None → view.replies m ≡ None
heard_none setup view l reply Quiet m none = none
heard_none setup view l reply (Asked question) m none = none
heard_none setup view l reply (Answered (Statement n due)) m none =
    put_none view.replies (message_of n due) reply m (is_message m (message_of n due)) refl none
heard_none setup view l reply (Answered (Prep n key text)) m none = none
heard_none setup view l reply (Answered (Sync n command)) m none = none
heard_none setup view l reply (Answered (Own command)) m none = none
heard_none setup view l reply (Answered (End n)) m none = none
heard_none setup view l reply (Answered (Capture n)) m none = none

pub told_none : (g : Ground) (l : LinkId) (bytes : List ℕ) → is_to_server g.tale l ≡ true → (m : MessageName)
    → (view_after g.setup (told g.setup g.plan g.tale (entry.Got l bytes)).story).replies m ≡ None → (view_on g).replies m ≡ None
told_none g l bytes there m =
    told_keeps g l bytes (λ (story : Story). (view_after g.setup story).replies m ≡ None → (view_on g).replies m ≡ None) (λ none. none)
    (λ server account out none. none) (λ story so none. so none)
    (λ reply story so none.
    so (heard_none g.setup (view_after g.setup story) l reply ((view_after g.setup story).links l).stage m none)) there
