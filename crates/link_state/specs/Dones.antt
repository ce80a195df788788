-- When a link is given back.
use Rattle.std.specs.Prelude.{Bool, true, false, not, ◌&&◌, ◌||◌, is_some}
use Rattle.session_state.specs.Pins.{is_pinned, needs_reset}
use Rattle.link_state.specs.declared.state.Carried.{Carried}
use Rattle.link_state.specs.declared.state.Carried.TheVariants.{Nobody, Lent, Joined}
use Rattle.link_state.specs.declared.state.Stage.{Stage}
use Rattle.link_state.specs.declared.state.Stage.TheVariants.{Quiet}
use Rattle.link_state.specs.declared.wish.Session.{Session}

abbrev pub is_quiet : Stage → Bool
is_quiet Quiet = true
is_quiet _ = false

-- it is unpinned, and its insert id is known
abbrev pub is_settled : Session → Bool
is_settled s = not (is_pinned s.pin) && is_some s.id

abbrev pub is_done_by : Carried → Session → (given_up : Bool) → Bool
is_done_by Nobody s given_up = false
is_done_by (Lent name) s given_up = not (needs_reset s.pin) && ((is_settled s && given_up) || not s.present)
is_done_by (Joined name) s given_up = not (needs_reset s.pin) && (is_settled s || not s.present)
