-- A session that a link carries has a row.
use Rattle.std.specs.Prelude.{◌≡◌, ℕ, find, is_some, unwrap_or, List, Option, Some, None}
use Rattle.std.proofs.Common.{refl, ap}
use Rattle.private_model.specs.Names.{Hostgroup, LinkId}
use Rattle.client_desk.specs.Sessions.{first_session, is_in, session_in}
use Rattle.client_desk.specs.declared.session.Session.{Session}
use Rattle.desk_laws.specs.Stands.{HasRow}

home_row_by : (lefts : ℕ) (rows : List Session) (h : Hostgroup) (link : LinkId) (found : Option Session) → find (is_in h) rows ≡ found
    → (unwrap_or found (first_session h lefts)).home ≡ Some link → HasRow rows h
home_row_by lefts rows h link (Some row) is home = ap is_some is
home_row_by lefts rows h link None is home = absurd (cc)

pub home_row : (lefts : ℕ) (rows : List Session) (h : Hostgroup) (link : LinkId) → (session_in lefts rows h).home ≡ Some link → HasRow rows h
home_row lefts rows h link home = home_row_by lefts rows h link (find (is_in h) rows) refl home
