-- Why a link to a server is closed, as far as the link alone tells.
use Rattle.std.specs.Prelude.{◌+◌, Bool, true, false, ◌&&◌, ◌||◌, not, nat_le, Option, Some, None}
use Rattle.link_state.specs.Dones.{is_quiet}
use Rattle.link_state.specs.declared.state.Carried.{Carried}
use Rattle.link_state.specs.declared.state.Carried.TheVariants.{Nobody, Joined}
use Rattle.lent_link.specs.Links.{is_in}
use Rattle.served_link.specs.declared.closing.Outside.{Outside}
use Rattle.served_link.specs.declared.row.LeftSession.{LeftSession}
use Rattle.served_link.specs.declared.row.Row.{Row}

abbrev pub is_joined : Carried → Bool
is_joined (Joined name) = true
is_joined _ = false

abbrev pub is_nobodys : Carried → Bool
is_nobodys Nobody = true
is_nobodys _ = false

abbrev pub is_spoilt : Row → (off : Bool) → Bool
is_spoilt row off = row.lost || (row.link.spoilt || off)

abbrev pub is_refused : Row → Bool
is_refused row = row.refused && not (is_joined row.link.state.carries)

abbrev pub is_lasting : Option LeftSession → Bool
is_lasting None = false
is_lasting (Some left) = left.lasting

abbrev pub is_past_reset : Row → Bool
is_past_reset row = is_joined row.link.state.carries && is_lasting row.left

abbrev pub is_unlent : Row → Bool
is_unlent row = is_in row.link.login.stage && is_nobodys row.link.state.carries

abbrev pub is_idle_long : Row → Outside → Bool
is_idle_long row outside = nat_le (row.used + outside.idle_ms) outside.now

abbrev pub is_let_go : Row → Outside → Bool
is_let_go row outside = is_unlent row && (outside.soft || (is_idle_long row outside || outside.crowded))

-- what stands there is answered first
abbrev pub is_over : Row → Bool
is_over row = is_quiet row.link.state.stage && (is_refused row || is_past_reset row)

abbrev pub is_to_quit : Row → Outside → Bool
is_to_quit row outside = is_spoilt row outside.off || (row.amiss || (is_over row || is_let_go row outside))

abbrev pub is_to_close : Row → Outside → Bool
is_to_close row outside = row.link.quits || is_to_quit row outside
