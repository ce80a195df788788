-- Rows of sessions: what is found behind a change.
use Rattle.std.specs.Prelude.{◌≡◌, ℕ, Bool, true, false, if◌then◌else◌, nat_eq, is_some, find, unwrap_or, List, [], ◌∷◌, ◌++◌, Option, Some, None}
use Rattle.std.specs.Option.{option_map}
use Rattle.std.proofs.Common.{refl, ap, sym, ◌∙◌, arith, subst}
use Rattle.private_model.specs.Names.{Hostgroup, LinkId}
use Rattle.private_model.specs.Story.{is_hostgroup}
use Rattle.client_desk.specs.Sessions.{first_session, is_in, next_life, next_session, next_sessions, put_in, session_in, unhomed, with_row}
use Rattle.client_desk.specs.declared.session.Session.{Session}
use Rattle.desk_laws.specs.Stands.{AreDistinct, HasRow}
use Rattle.desk_laws.proofs.Names.{hostgroup_of, same_number}

flip : (a b : ℕ) → nat_eq a b ≡ false → nat_eq b a ≡ false
flip a b apart = grind arith

-- What is found is of its hostgroup.

found_in : (h : Hostgroup) (rows : List Session) (s : Session) → find (is_in h) rows ≡ Some s → is_in h s ≡ true
found_in h [] s found = absurd (cc)
found_in h (row ∷ rows) s found = by (is_in h row) refl (found_in h rows s) where
  by : (here : Bool) → is_in h row ≡ here → (find (is_in h) rows ≡ Some s → is_in h s ≡ true) → is_in h s ≡ true
  by true e later =
      let some : Some row ≡ Some s = rw e at found in
      let same : row ≡ s = cc in
      subst (λ (x : Session). is_in h x ≡ true) same e
  by false e later = let rest : find (is_in h) rows ≡ Some s = rw e at found in later rest

session_of_found : (lefts : ℕ) (rows : List Session) (h : Hostgroup) (found : Option Session) → find (is_in h) rows ≡ found
    → (unwrap_or found (first_session h lefts)).hostgroup ≡ h
session_of_found lefts rows h None is = refl
session_of_found lefts rows h (Some s) is = hostgroup_of s.hostgroup h (found_in h rows s is)

pub session_hostgroup : (lefts : ℕ) (rows : List Session) (h : Hostgroup) → (session_in lefts rows h).hostgroup ≡ h
session_hostgroup lefts rows h = session_of_found lefts rows h (find (is_in h) rows) refl

-- A row that is put.

pub put_found : (rows : List Session) (s : Session) → HasRow rows s.hostgroup → find (is_in s.hostgroup) (put_in rows s) ≡ Some s
put_found [] s there = absurd (cc)
put_found (row ∷ rows) s there = by (is_in s.hostgroup row) refl (put_found rows s) where
  by : (here : Bool) → is_in s.hostgroup row ≡ here → (HasRow rows s.hostgroup → find (is_in s.hostgroup) (put_in rows s) ≡ Some s)
      → find (is_in s.hostgroup) (put_in (row ∷ rows) s) ≡ Some s
  by true e later = rw (e, same_number s.hostgroup.0) refl
  by false e later =
      let rest : HasRow rows s.hostgroup = rw e at there in
      rw (e, e) (later rest)

pub put_elsewhere : (rows : List Session) (s : Session) (h : Hostgroup) → is_hostgroup h s.hostgroup ≡ false
    → find (is_in h) (put_in rows s) ≡ find (is_in h) rows
put_elsewhere [] s h apart = refl
put_elsewhere (row ∷ rows) s h apart = by (is_in s.hostgroup row) refl (put_elsewhere rows s h apart) where
  by : (here : Bool) → is_in s.hostgroup row ≡ here → find (is_in h) (put_in rows s) ≡ find (is_in h) rows
      → find (is_in h) (put_in (row ∷ rows) s) ≡ find (is_in h) (row ∷ rows)
  by true e later =
      let not_s : is_in h s ≡ false = flip h.0 s.hostgroup.0 apart in
      let same : s.hostgroup ≡ row.hostgroup = sym (hostgroup_of row.hostgroup s.hostgroup e) in
      let not_row : is_in h row ≡ false = subst (λ (g : Hostgroup). nat_eq g.0 h.0 ≡ false) same not_s in
      rw (e, not_s, not_row) refl
  by false e later = rw e (ap (λ (found : Option Session). if is_in h row then Some row else found) later)

pub put_nowhere : (rows : List Session) (s : Session) → find (is_in s.hostgroup) rows ≡ None → put_in rows s ≡ rows
put_nowhere [] s none = refl
put_nowhere (row ∷ rows) s none = by (is_in s.hostgroup row) refl (put_nowhere rows s) where
  by : (here : Bool) → is_in s.hostgroup row ≡ here → (find (is_in s.hostgroup) rows ≡ None → put_in rows s ≡ rows) → put_in (row ∷ rows) s ≡ row ∷ rows
  by true e later = let no : Some row ≡ None = rw e at none in absurd (cc)
  by false e later =
      let rest : find (is_in s.hostgroup) rows ≡ None = rw e at none in
      rw e (ap (λ (xs : List Session). row ∷ xs) (later rest))

pub session_put : (lefts : ℕ) (rows : List Session) (s : Session) (h : Hostgroup) → s.hostgroup ≡ h → HasRow rows h → session_in lefts (put_in rows s) h ≡ s
session_put lefts rows s h same there =
    subst (λ (g : Hostgroup). HasRow rows g → session_in lefts (put_in rows s) g ≡ s) same
    (λ at. ap (λ (found : Option Session). unwrap_or found (first_session s.hostgroup lefts)) (put_found rows s at)) there

-- where there is none, nothing is put, and a session that no link carries stays as it is
session_unhomed_by : (lefts : ℕ) (rows : List Session) (h : Hostgroup) (found : Option Session) → find (is_in h) rows ≡ found
    → session_in lefts (put_in rows (unhomed (unwrap_or found (first_session h lefts)))) h ≡ unhomed (unwrap_or found (first_session h lefts))
session_unhomed_by lefts rows h (Some row) is = session_put lefts rows (unhomed row) h (hostgroup_of row.hostgroup h (found_in h rows row is)) (ap is_some is)
session_unhomed_by lefts rows h None is =
    ap (λ (xs : List Session). session_in lefts xs h) (put_nowhere rows (first_session h lefts) is)
    ∙ ap (λ (x : Option Session). unwrap_or x (first_session h lefts)) is

pub session_unhomed : (lefts : ℕ) (rows : List Session) (h : Hostgroup)
    → session_in lefts (put_in rows (unhomed (session_in lefts rows h))) h ≡ unhomed (session_in lefts rows h)
session_unhomed lefts rows h = session_unhomed_by lefts rows h (find (is_in h) rows) refl

pub session_elsewhere : (lefts : ℕ) (rows : List Session) (s : Session) (h : Hostgroup) → is_hostgroup h s.hostgroup ≡ false
    → session_in lefts (put_in rows s) h ≡ session_in lefts rows h
session_elsewhere lefts rows s h apart = ap (λ (found : Option Session). unwrap_or found (first_session h lefts)) (put_elsewhere rows s h apart)

-- A row is there for a hostgroup.

find_behind : (h : Hostgroup) (rows : List Session) (s : Session) → find (is_in h) rows ≡ None → find (is_in h) (rows ++ s ∷ []) ≡ (if is_in h s then Some s else None)
find_behind h [] s none = refl
find_behind h (row ∷ rows) s none = by (is_in h row) refl (find_behind h rows s) where
  by : (here : Bool) → is_in h row ≡ here
      → (find (is_in h) rows ≡ None → find (is_in h) (rows ++ s ∷ []) ≡ (if is_in h s then Some s else None))
      → find (is_in h) ((row ∷ rows) ++ s ∷ []) ≡ (if is_in h s then Some s else None)
  by true e later = let no : Some row ≡ None = rw e at none in absurd (cc)
  by false e later = let rest : find (is_in h) rows ≡ None = rw e at none in rw e (later rest)

find_before : (h : Hostgroup) (rows : List Session) (s row : Session) → find (is_in h) rows ≡ Some row → find (is_in h) (rows ++ s ∷ []) ≡ Some row
find_before h [] s row found = absurd (cc)
find_before h (first ∷ rows) s row found = by (is_in h first) refl (find_before h rows s row) where
  by : (here : Bool) → is_in h first ≡ here → (find (is_in h) rows ≡ Some row → find (is_in h) (rows ++ s ∷ []) ≡ Some row)
      → find (is_in h) ((first ∷ rows) ++ s ∷ []) ≡ Some row
  by true e later = let some : Some first ≡ Some row = rw e at found in rw e some
  by false e later = let rest : find (is_in h) rows ≡ Some row = rw e at found in rw e (later rest)

behind_session : (lefts : ℕ) (h g : Hostgroup) (rows : List Session) (found : Option Session) → find (is_in g) rows ≡ found
    → session_in lefts (rows ++ first_session h lefts ∷ []) g ≡ session_in lefts rows g
behind_session lefts h g rows (Some row) is =
    ap (λ (x : Option Session). unwrap_or x (first_session g lefts)) (find_before g rows (first_session h lefts) row is ∙ sym is)
behind_session lefts h g rows None is =
    ap (λ (x : Option Session). unwrap_or x (first_session g lefts)) (find_behind g rows (first_session h lefts) is)
    ∙ by (nat_eq h.0 g.0) refl
    ∙ ap (λ (x : Option Session). unwrap_or x (first_session g lefts)) (sym is) where
      by : (same : Bool) → nat_eq h.0 g.0 ≡ same
          → unwrap_or (if nat_eq h.0 g.0 then Some (first_session h lefts) else None) (first_session g lefts) ≡ first_session g lefts
      by true e = rw e (ap (λ (k : Hostgroup). first_session k lefts) (hostgroup_of h g e))
      by false e = rw e refl

with_row_by : (lefts : ℕ) (h g : Hostgroup) (rows : List Session) (there : Bool) → session_in lefts (if there then rows else rows ++ first_session h lefts ∷ []) g ≡ session_in lefts rows g
with_row_by lefts h g rows true = refl
with_row_by lefts h g rows false = behind_session lefts h g rows (find (is_in g) rows) refl

pub session_with_row : (lefts : ℕ) (h g : Hostgroup) (rows : List Session) → session_in lefts (with_row lefts h rows) g ≡ session_in lefts rows g
session_with_row lefts h g rows = with_row_by lefts h g rows (is_some (find (is_in h) rows))

row_by : (lefts : ℕ) (h : Hostgroup) (rows : List Session) (found : Option Session) → find (is_in h) rows ≡ found
    → HasRow (if is_some found then rows else rows ++ first_session h lefts ∷ []) h
row_by lefts h rows (Some row) is = ap is_some is
row_by lefts h rows None is =
    ap is_some (find_behind h rows (first_session h lefts) is) ∙ (rw (same_number h.0) refl)

pub has_row : (lefts : ℕ) (h : Hostgroup) (rows : List Session) → HasRow (with_row lefts h rows) h
has_row lefts h rows = row_by lefts h rows (find (is_in h) rows) refl

-- a row stays where another, or itself, is put
row_put_by : (rows : List Session) (s : Session) (h : Hostgroup) (here : Bool) → is_hostgroup h s.hostgroup ≡ here → HasRow rows h → HasRow (put_in rows s) h
row_put_by rows s h true e there =
    let same : h ≡ s.hostgroup = hostgroup_of h s.hostgroup e in
    subst (λ (g : Hostgroup). HasRow (put_in rows s) g) (sym same)
    (ap is_some (put_found rows s (subst (λ (g : Hostgroup). HasRow rows g) same there)))
row_put_by rows s h false e there = ap is_some (put_elsewhere rows s h e) ∙ there

pub row_put : (rows : List Session) (s : Session) (h : Hostgroup) → HasRow rows h → HasRow (put_in rows s) h
row_put rows s h there = row_put_by rows s h (is_hostgroup h s.hostgroup) refl there

-- a session that a link carries has one
home_row_by : (lefts : ℕ) (rows : List Session) (h : Hostgroup) (link : LinkId) (found : Option Session) → find (is_in h) rows ≡ found
    → (unwrap_or found (first_session h lefts)).home ≡ Some link → HasRow rows h
home_row_by lefts rows h link (Some row) is home = ap is_some is
home_row_by lefts rows h link None is home = absurd (cc)

pub home_row : (lefts : ℕ) (rows : List Session) (h : Hostgroup) (link : LinkId) → (session_in lefts rows h).home ≡ Some link → HasRow rows h
home_row lefts rows h link home = home_row_by lefts rows h link (find (is_in h) rows) refl home

-- All of them are left.

find_next : (h : Hostgroup) (rows : List Session) → find (is_in h) (next_sessions rows) ≡ option_map next_session (find (is_in h) rows)
find_next h [] = refl
find_next h (row ∷ rows) = by (is_in h row) refl (find_next h rows) where
  by : (here : Bool) → is_in h row ≡ here → find (is_in h) (next_sessions rows) ≡ option_map next_session (find (is_in h) rows)
      → find (is_in h) (next_sessions (row ∷ rows)) ≡ option_map next_session (find (is_in h) (row ∷ rows))
  by true e later = rw e refl
  by false e later = rw e later

next_by : (lefts : ℕ) (h : Hostgroup) (found : Option Session)
    → unwrap_or (option_map next_session found) (first_session h (next_life lefts)) ≡ next_session (unwrap_or found (first_session h lefts))
next_by lefts h (Some row) = refl
next_by lefts h None = refl

pub session_next : (lefts : ℕ) (rows : List Session) (h : Hostgroup) → session_in (next_life lefts) (next_sessions rows) h ≡ next_session (session_in lefts rows h)
session_next lefts rows h =
    ap (λ (x : Option Session). unwrap_or x (first_session h (next_life lefts))) (find_next h rows) ∙ next_by lefts h (find (is_in h) rows)

-- No hostgroup has two rows.

pub distinct_put : (rows : List Session) (s : Session) → AreDistinct rows → AreDistinct (put_in rows s)
distinct_put [] s are = tt
distinct_put (row ∷ rows) s are = by (is_in s.hostgroup row) refl (distinct_put rows s are.1) where
  by : (here : Bool) → is_in s.hostgroup row ≡ here → AreDistinct (put_in rows s)
      → AreDistinct (if is_in s.hostgroup row then s ∷ rows else row ∷ put_in rows s)
  by true e later =
      let none : find (is_in s.hostgroup) rows ≡ None = subst (λ (g : Hostgroup). find (is_in g) rows ≡ None) (hostgroup_of row.hostgroup s.hostgroup e) are.0 in
      subst (λ (b : Bool). AreDistinct (if b then s ∷ rows else row ∷ put_in rows s)) (sym e) (none, are.1)
  by false e later =
      let none : find (is_in row.hostgroup) (put_in rows s) ≡ None = put_elsewhere rows s row.hostgroup e ∙ are.0 in
      subst (λ (b : Bool). AreDistinct (if b then s ∷ rows else row ∷ put_in rows s)) (sym e) (none, later)

distinct_behind : (rows : List Session) (s : Session) → AreDistinct rows → find (is_in s.hostgroup) rows ≡ None → AreDistinct (rows ++ s ∷ [])
distinct_behind [] s are none = (refl, tt)
distinct_behind (row ∷ rows) s are none = by (is_in s.hostgroup row) refl (distinct_behind rows s are.1) where
  by : (here : Bool) → is_in s.hostgroup row ≡ here → (find (is_in s.hostgroup) rows ≡ None → AreDistinct (rows ++ s ∷ []))
      → AreDistinct (row ∷ (rows ++ s ∷ []))
  by true e later = let no : Some row ≡ None = rw e at none in absurd (cc)
  by false e later =
      let rest : find (is_in s.hostgroup) rows ≡ None = rw e at none in
      let apart : is_in row.hostgroup s ≡ false = flip row.hostgroup.0 s.hostgroup.0 e in
      (find_behind row.hostgroup rows s are.0 ∙ (rw apart refl), later rest)

distinct_by : (lefts : ℕ) (h : Hostgroup) (rows : List Session) (found : Option Session) → find (is_in h) rows ≡ found → AreDistinct rows
    → AreDistinct (if is_some found then rows else rows ++ first_session h lefts ∷ [])
distinct_by lefts h rows (Some row) is are = are
distinct_by lefts h rows None is are = distinct_behind rows (first_session h lefts) are is

pub distinct_with_row : (lefts : ℕ) (h : Hostgroup) (rows : List Session) → AreDistinct rows → AreDistinct (with_row lefts h rows)
distinct_with_row lefts h rows are = distinct_by lefts h rows (find (is_in h) rows) refl are

pub distinct_next : (rows : List Session) → AreDistinct rows → AreDistinct (next_sessions rows)
distinct_next [] are = tt
distinct_next (row ∷ rows) are = (find_next row.hostgroup rows ∙ ap (option_map next_session) are.0, distinct_next rows are.1)
