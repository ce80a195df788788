-- Whether something may begin on a link, and whether it is to be given back.
use Rattle.std.specs.Prelude.{Bool, true, false, not, ◌&&◌, ◌||◌, is_some, Option, Some, None}
use Rattle.link_state.specs.Dones.{is_done_by, is_quiet}
use Rattle.link_state.specs.Writes.{is_whole}
use Rattle.link_state.specs.declared.wish.Session.{Session}
use Rattle.link_state.specs.declared.writing.Writing.{Writing}
use Rattle.lent_link.specs.Links.{is_in}
use Rattle.lent_link.specs.declared.link.LentLink.{LentLink}
use Rattle.lent_link.specs.declared.link.Step.{Step}
use Rattle.lent_link.specs.declared.link.Step.TheVariants.{Resets}

-- a STMT_RESET stands there, which is answered
abbrev pub is_resetting : Step → Bool
is_resetting (Resets number) = true
is_resetting _ = false

abbrev pub is_whole_or_none : Option Writing → Bool
is_whole_or_none None = true
is_whole_or_none (Some writing) = is_whole writing

-- no command is written in part
abbrev pub is_written : LentLink → Bool
is_written link = is_some link.next || is_whole_or_none link.writing

abbrev pub may_begin : LentLink → Bool
may_begin link = is_in link.login.stage && (is_quiet link.state.stage && (is_written link && not (is_resetting link.step)))

abbrev pub is_done : LentLink → Session → (given_up : Bool) → Bool
is_done link session given_up =
    is_in link.login.stage && (is_quiet link.state.stage && (not (is_resetting link.step) && is_done_by link.state.carries session given_up))
