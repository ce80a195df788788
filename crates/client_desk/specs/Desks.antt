-- A client's desk: its seat, its sessions and its statement in work.
use Rattle.std.specs.Prelude.{ℕ, Bool, true, false, not, ◌&&◌, List, [], ◌∷◌, map, Option, Some, None}
use Rattle.std.specs.Option.{option_map}
use Rattle.mx_base.specs.declared.names.Hostgroup.{Hostgroup}
use Rattle.mx_base.specs.declared.names.LinkId.{LinkId}
use Rattle.session_state.specs.Pins.{is_pinned}
use Rattle.session_state.specs.declared.names.SessionName.{SessionName}
use Rattle.session_state.specs.declared.reply_end.ReplyEnd.{ReplyEnd}
use Rattle.link_state.specs.declared.asking.Asking.{Asking}
use Rattle.link_state.specs.declared.asking.Form.{Form}
use Rattle.link_state.specs.declared.asking.Form.TheVariants as forms
use Rattle.link_state.specs.declared.wish.Session as links
use Rattle.client_seat.specs.Answers.{answered, moved, replied}
use Rattle.client_seat.specs.declared.seat.Seat.{Seat}
use Rattle.client_desk.specs.Answers.{heard}
use Rattle.client_desk.specs.Sessions.{first_session, homed, next_life, next_session, next_sessions, put_in, session_in, stated, unhomed, with_row}
use Rattle.client_desk.specs.Works.{gone_out}
use Rattle.client_desk.specs.declared.desk.Desk.{Desk}
use Rattle.client_desk.specs.declared.session.Session.{Session}
use Rattle.client_desk.specs.declared.work.Work.{Work}

abbrev pub new_desk : Seat → Desk
new_desk seat = record { seat = seat; lefts = 0; sessions = []; work = None }

-- its present session in a hostgroup, and the name of that
abbrev pub session_of : Desk → Hostgroup → Session
session_of desk h = session_in desk.lefts desk.sessions h

abbrev pub name_of : Desk → Hostgroup → SessionName
name_of desk h = record { client = desk.seat.client.number; hostgroup = h; life = (session_of desk h).life }

-- a transaction is open in a session that is the one of its hostgroup
abbrev pub has_open : Desk → Session → Bool
has_open desk row = row.pin.tx && (session_of desk row.hostgroup).pin.tx

-- as a link sees it that carries it
abbrev pub carried_of : Desk → Hostgroup → links.Session
carried_of desk h =
    let s = session_of desk h in
    record { present = true; pin = s.pin; id = s.id; lasting = s.lasting }

abbrev pub changed : (Session → Session) → Hostgroup → Desk → Desk
changed by h desk = record desk { sessions = put_in desk.sessions (by (session_of desk h)) }

-- A statement becomes due, goes out, and is answered.

abbrev pub anew_in : Desk → Hostgroup → Bool
anew_in desk h = not (is_pinned (session_of desk h).pin)

abbrev pub taken_on : Work → Desk → Desk
taken_on work desk = record desk {
  sessions = with_row desk.lefts work.hostgroup desk.sessions;
  work = Some (record work { anew = anew_in desk work.hostgroup; sent = false });
}

abbrev pub lent : Hostgroup → LinkId → Desk → Desk
lent h link desk = changed (homed link) h desk

abbrev pub sent : Hostgroup → LinkId → (outlasts : Bool) → Desk → Desk
sent h link outlasts desk = record (changed (stated link outlasts) h desk) { work = option_map gone_out desk.work }

abbrev pub heard_in : Hostgroup → Asking → (multiplex : Option Bool) → ReplyEnd → (number : Option ℕ) → Desk → Desk
heard_in h asking multiplex end number desk = changed (heard asking multiplex end number) h desk

-- where the client stands behind a statement of this form
abbrev pub moved_by : Form → (ok : Bool) → Seat → Seat
moved_by (forms.Text class) ok seat = moved class ok seat
moved_by _ ok seat = seat

abbrev pub done : Desk → Desk
done desk = record desk { seat = replied desk.seat; work = None }

abbrev pub gave_up : (payload : List ℕ) → Desk → Desk
gave_up payload desk = record desk { seat = answered (payload ∷ []) desk.seat; work = None }

-- A link is given back or lost, and the client leaves its sessions.

abbrev pub freed : Hostgroup → Desk → Desk
freed h desk = changed unhomed h desk

abbrev pub gone : Hostgroup → Desk → Desk
gone h desk = changed next_session h desk

abbrev pub left : Desk → Desk
left desk = record desk { lefts = next_life desk.lefts; sessions = next_sessions desk.sessions; work = None }
