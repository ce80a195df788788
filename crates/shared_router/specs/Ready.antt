-- What is to be so of a statement that waits and of the link that is readied for it, beside that it waits, so that the link is asked for it.
use Rattle.std.specs.Prelude.{◌≡◌, true, false, is_some, None}
use Rattle.session_state.specs.Pins.{is_pinned}
use Rattle.private_model.specs.Commands.{class_of}
use Rattle.private_model.specs.Lawful.{is_statement}
use Rattle.private_model.specs.Names.{LinkId}
use Rattle.private_model.specs.Story.{message_of}
use Rattle.log_story.specs.Servers.{is_quiet}
use Rattle.tale_world.specs.Policy.{Readied, numbered}
use Rattle.tale_world.specs.Tests.{is_account, is_blind}
use Rattle.tale_world.specs.Waits.{AreRead, is_of_key}
use Rattle.router_promises.specs.Closes.{has_bytes}
use Rattle.router_promises.specs.Now.{wire_now}
use Rattle.shared_router.specs.Known.{Known, held_by, link_by, setup_by, view_by}
use Rattle.shared_router.specs.Wishes.{texts}

pub record IsReadyFor (k : Known) (link : LinkId) (r : Readied) : Type 0 where
  -- the link is of use, of its client's account, and nothing stands or lies there
  pub usable : (link_by k link).usable ≡ true
  pub quiet : is_quiet (link_by k link).stage ≡ true
  pub unread : has_bytes (wire_now k.now link).unread ≡ false
  pub account : is_account (link_by k link).account ((setup_by k).accounts r.name.client) ≡ true
  -- the statement is one of its key, wasn't sent, and reads nothing of earlier ones
  pub statement : is_statement r.due.command ≡ true
  pub of_key : is_of_key (setup_by k) r.due r.due.command ≡ true
  pub unsent : (view_by k).carriers (message_of r.name r.due) ≡ None
  pub blind : is_blind (class_of (setup_by k).reads r.due.command) ≡ true
  pub anew : r.due.anew ≡ true
  -- its session has no Pin, and its insert id is known
  pub unpinned : is_pinned (held_by k r.name).pin ≡ false
  pub known : is_some (held_by k r.name).id ≡ true
  pub in_bits : is_some (numbered (held_by k r.name).id k.fixed.ids) ≡ true
  -- what leads to its place is read as it is meant
  pub read : AreRead (setup_by k) texts r.due (link_by k link).told
