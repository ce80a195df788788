-- A client's present sessions, one in each hostgroup. One of which there is no row is the first in its life.
use Rattle.std.specs.Prelude.{ℕ, ◌+◌, ◌%◌, ◌^◌, Bool, false, ◌||◌, nat_eq, if◌then◌else◌, is_some, List, [], ◌∷◌, ◌++◌, find, map, unwrap_or, Option, Some, None}
use Rattle.mx_base.specs.declared.names.Hostgroup.{Hostgroup}
use Rattle.mx_base.specs.declared.names.LinkId.{LinkId}
use Rattle.session_state.specs.Pins.{no_pin}
use Rattle.client_desk.specs.declared.session.Parted.{Parted}
use Rattle.client_desk.specs.declared.session.Session.{Session}

abbrev pub first_session : Hostgroup → (life : ℕ) → Session
first_session h life = record { hostgroup = h; life = life; pin = no_pin; id = Some 0; home = None; lasting = false }

abbrev pub is_in : Hostgroup → Session → Bool
is_in h s = nat_eq s.hostgroup.0 h.0

abbrev pub session_in : (lefts : ℕ) → List Session → Hostgroup → Session
session_in lefts rows h = unwrap_or (find (is_in h) rows) (first_session h lefts)

-- a row for a hostgroup, where there is none
abbrev pub with_row : (lefts : ℕ) → Hostgroup → List Session → List Session
with_row lefts h rows = if is_some (find (is_in h) rows) then rows else rows ++ first_session h lefts ∷ []

-- in place of the row of its hostgroup, where there is one
abbrev pub put_in : List Session → Session → List Session
put_in [] s = []
put_in (row ∷ rows) s = if is_in s.hostgroup row then s ∷ rows else row ∷ put_in rows s

-- a transaction is open in it
abbrev pub is_open : Session → Bool
is_open s = s.pin.tx

-- What happens to a session.

-- a link carries it
abbrev pub homed : LinkId → Session → Session
homed link s = record s { home = Some link }

-- a statement of it went out, of which a reset may take nothing back
abbrev pub stated : LinkId → (outlasts : Bool) → Session → Session
stated link outlasts s = record s { home = Some link; lasting = s.lasting || outlasts }

-- no link carries it any more
abbrev pub unhomed : Session → Session
unhomed s = record s { home = None }

-- it is left, and the next begins
abbrev pub next_life : ℕ → ℕ
next_life life = (life + 1) % 2 ^ 64

abbrev pub next_session : Session → Session
next_session s = first_session s.hostgroup (next_life s.life)

abbrev pub next_sessions : List Session → List Session
next_sessions rows = map next_session rows

-- what a link keeps of a session that is left
abbrev pub parted_by : Session → Option LinkId → Option Parted
parted_by s None = None
parted_by s (Some link) =
    Some (record { hostgroup = s.hostgroup; life = s.life; link = link; pin = s.pin; id = s.id; lasting = s.lasting })

abbrev pub parted_of : Session → Option Parted
parted_of s = parted_by s s.home
