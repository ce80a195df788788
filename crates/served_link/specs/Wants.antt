-- For whom something goes to a link next.
use Rattle.std.specs.Prelude.{false, Option, Some, None}
use Rattle.link_state.specs.Wants.{task_of}
use Rattle.link_state.specs.declared.wish.Session.{Session}
use Rattle.link_state.specs.declared.wish.Task.{Task}
use Rattle.served_link.specs.declared.row.LeftSession.{LeftSession}
use Rattle.served_link.specs.declared.row.Row.{Row}

abbrev pub session_in : Option LeftSession → (at_desk : Session) → Session
session_in None at_desk = at_desk
session_in (Some left) at_desk = record { present = false; pin = left.pin; id = left.id; lasting = left.lasting }

-- the session that it carries
abbrev pub session_of : Row → (at_desk : Session) → Session
session_of row at_desk = session_in row.left at_desk

abbrev pub task_for : Row → (at_desk : Session) → Task
task_for row at_desk = task_of row.link.state.carries (session_of row at_desk)
