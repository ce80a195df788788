-- What a link stands at.
use Rattle.std.specs.Prelude.{ℕ, Bool, true, false, not, ◌&&◌, ◌||◌, List, [], ◌∷◌, Option, Some, None}
use Rattle.link_state.specs.Dones.{is_quiet}
use Rattle.link_state.specs.declared.wish.Session.{Session}
use Rattle.lent_link.specs.Links.{is_in}
use Rattle.lent_link.specs.Rests as rests
use Rattle.lent_link.specs.declared.link.Step.{Step}
use Rattle.lent_link.specs.declared.link.Step.TheVariants.{Resets}
use Rattle.served_link.specs.Closes.{is_unlent}
use Rattle.served_link.specs.Wants.{session_of}
use Rattle.served_link.specs.declared.row.Row.{Row}

-- its login isn't through
abbrev pub is_entering : Row → Bool
is_entering row = not row.lost && (not (is_in row.link.login.stage) && not row.link.spoilt)

-- logged in, and it carries nobody
abbrev pub is_vacant : Row → Bool
is_vacant row = not row.lost && (not row.link.quits && is_unlent row)

abbrev pub is_resetting : Step → Bool
is_resetting (Resets number) = true
is_resetting _ = false

-- what stands there is unanswered, or the link takes no more
abbrev pub is_at_work : Row → (dry : Bool) → Bool
is_at_work row dry = not (is_quiet row.link.state.stage) || (is_resetting row.link.step || dry)

abbrev pub is_stepping : Row → (dry : Bool) → Bool
is_stepping row dry = is_vacant row && is_at_work row dry

abbrev pub is_resting : Row → (dry : Bool) → Bool
is_resting row dry = is_vacant row && not (is_at_work row dry)

-- a QUIT may begin there, or something else

abbrev pub may_part : Row → Bool
may_part row = not row.lost && (not row.link.quits && rests.may_begin row.link)

abbrev pub may_take : Row → Bool
may_take row = not row.link.spoilt && may_part row

-- it is given back, by the session that it carries
abbrev pub is_done : Row → (at_desk : Session) → (given_up : Bool) → Bool
is_done row at_desk given_up = not row.lost && rests.is_done row.link (session_of row at_desk) given_up

-- it was told no schema

abbrev pub is_plain : Option (List ℕ) → Bool
is_plain (Some []) = true
is_plain (Some (byte ∷ bytes)) = false
is_plain None = false

-- of those that are told none
abbrev pub is_bare : Row → Bool
is_bare row = row.bare && (not (is_in row.link.login.stage) || is_plain row.link.state.told.schema)
