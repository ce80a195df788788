-- The tags of what is written, and the links on which questions begin.
use Rattle.std.specs.Prelude.{◌≡◌, Bool, true, false, fold, Option, Some, None}
use Rattle.mx_base.specs.declared.tag.Tag.{Tag}
use Rattle.mx_base.specs.declared.tag.Tag.TheVariants as tags
use Rattle.mx_wire.specs.Log.{Log, of_link}
use Rattle.mx_wire.specs.declared.entry.Entry.{Entry}
use Rattle.mx_wire.specs.declared.entry.Entry.TheVariants.{Wrote}
use Rattle.private_model.specs.Names.{Hostgroup, LinkId}
use Rattle.private_model.specs.Story.{Capture, End, Own, Prep, Question, Statement, Sync}
use Rattle.private_model.specs.View.{Asked, Stage}
use Rattle.log_story.specs.Honest.{IsStep}
use Rattle.log_story.specs.Plan.{Asks, StepText}
use Rattle.log_story.specs.Servers.{may_begin, quits_for}
use Rattle.log_story.specs.Tale.{is_to_server}
use Rattle.router_promises.specs.Closes.{is_usable}
use Rattle.router_promises.specs.Now.{Now, link_now, next, now_at, wire_now}
use Rattle.router_promises.specs.Running.{hostgroup_of}
use Rattle.router_promises.specs.Terms.{Terms, plan_in, setup_in}

-- the tag of the last bytes on a link
abbrev pub tag_step : Option Tag → Entry → Option Tag
tag_step last (Wrote link tag bytes) = Some tag
tag_step last _ = last

abbrev pub last_tag : LinkId → Log → Option Tag
last_tag link log = fold tag_step None (of_link link log)

-- a question of a session stands on a link of its hostgroup
abbrev pub hostgroup_asked : Question → Option Hostgroup
hostgroup_asked (Statement n due) = Some n.hostgroup
hostgroup_asked (Prep n key text) = Some n.hostgroup
hostgroup_asked (Sync n command) = Some n.hostgroup
hostgroup_asked (Own command) = None
hostgroup_asked (End n) = Some n.hostgroup
hostgroup_asked (Capture n) = Some n.hostgroup

abbrev pub StandsIn : (of_link of_question : Option Hostgroup) → Type 0
StandsIn of_link None = Unit {0}
StandsIn of_link (Some hostgroup) = of_link ≡ Some hostgroup

abbrev pub StandsRight : Terms → Now → LinkId → Stage → Type 0
StandsRight terms now link (Asked question) = StandsIn (hostgroup_of terms.router (wire_now now link).server) (hostgroup_asked question)
StandsRight terms now link _ = Unit {0}

-- a step in a client's session asks something; it closes and resets no statement
abbrev pub IsForSession : Tag → StepText → Type 0
IsForSession (tags.Sync client hostgroup) (Asks command) = Unit {0}
IsForSession (tags.Sync client hostgroup) _ = ⊥
IsForSession tags.Reply step = ⊥
IsForSession _ step = Unit {0}

-- What begins on a link stands in its session's hostgroup, once what stood there before is whole; and but for a QUIT the link can
-- be used.
pub record BeginsRight (terms : Terms) (log : Log) (now : Now) (link : LinkId) (tag : Tag) (later : Now) : Type 0 where
  pub sound : quits_for tag ((plan_in terms).steps link (wire_now now link).begun) ≡ false → is_usable terms log now link ≡ true
  pub closed : IsStep (wire_now now link).step (wire_now now link).written
  pub session : IsForSession tag ((plan_in terms).steps link (wire_now now link).begun)
  pub group : StandsRight terms later link (link_now (setup_in terms) later link).stage

-- what goes on has the tag with which it began, and a login is the router's own
abbrev pub WritesThere : Terms → Log → Now → LinkId → Tag → (begins entered : Bool) → Now → Type 0
WritesThere terms log now link tag true entered later = BeginsRight terms log now link tag later
WritesThere terms log now link tag false true later = last_tag link log ≡ Some tag
WritesThere terms log now link tag false false later = tag ≡ tags.Own

-- to a client replies are written
abbrev pub WritesTo : Terms → Log → Now → LinkId → Tag → (is_server : Bool) → Now → Type 0
WritesTo terms log now link tag true later =
    WritesThere terms log now link tag (may_begin (setup_in terms) link (wire_now now link) now.tale) (wire_now now link).entered later
WritesTo terms log now link tag false later = tag ≡ tags.Reply

abbrev pub TagsBy : Terms → Log → Now → Entry → Type 0
TagsBy terms log now (Wrote link tag bytes) =
    WritesTo terms log now link tag (is_to_server now.tale link) (next terms now (Wrote link tag bytes))
TagsBy terms log now _ = Unit {0}

abbrev pub TagsSo : Terms → Log → Entry → Type 0
TagsSo terms log e = TagsBy terms log (now_at terms log) e
