-- A row is put in the place of that of its hostgroup.
use Rattle.std.specs.Prelude.{◌≡◌, ◌<◌, ℕ, zero, suc, ◌+◌, Bool, true, false, if◌then◌else◌, nat_lt, List, [], ◌∷◌, ◌++◌, drop, length, position, slice_set, take, Option, Some, None}
use Rattle.std.specs.List.{position_or_len}
use Rattle.std.proofs.Common.{get_or, refl, ap, sym, ◌∙◌, arith}
use Rattle.std.proofs.lemmas.List.Edits.{map_over_more}
use Rattle.client_desk.specs.Sessions.{is_in, next_session, next_sessions, put_in}
use Rattle.client_desk.specs.declared.session.Session.{Session}

set_behind : (row : Session) (rows : List Session) (n : ℕ) (s : Session) → slice_set (row ∷ rows) (1 + n) s ≡ row ∷ slice_set rows n s
set_behind row rows n s = let one : 1 + n ≡ suc n = omega arith in rw one refl

put_so : (rows : List Session) (s : Session) → slice_set rows (position_or_len (is_in s.hostgroup) rows) s ≡ put_in rows s
put_so [] s = refl
put_so (row ∷ rows) s = by (is_in s.hostgroup row) refl (put_so rows s) where
  by : (here : Bool) → is_in s.hostgroup row ≡ here → slice_set rows (position_or_len (is_in s.hostgroup) rows) s ≡ put_in rows s
      → slice_set (row ∷ rows) (position_or_len (is_in s.hostgroup) (row ∷ rows)) s ≡ put_in (row ∷ rows) s
  by true e later = rw e refl
  by false e later = rw e (set_behind row rows (position_or_len (is_in s.hostgroup) rows) s ∙ ap (λ (xs : List Session). row ∷ xs) later)

past : (rows : List Session) (s : Session) → nat_lt (position_or_len (is_in s.hostgroup) rows) (length rows) ≡ false → put_in rows s ≡ rows
past [] s none = refl
past (row ∷ rows) s none = by (is_in s.hostgroup row) refl (past rows s) where
  by : (here : Bool) → is_in s.hostgroup row ≡ here
      → (nat_lt (position_or_len (is_in s.hostgroup) rows) (length rows) ≡ false → put_in rows s ≡ rows) → put_in (row ∷ rows) s ≡ row ∷ rows
  by true e later =
      let size : length (row ∷ rows) ≡ suc (length rows) = refl in
      let no : nat_lt 0 (length (row ∷ rows)) ≡ false = rw e at none in
      absurd (grind arith)
  by false e later =
      let rest : nat_lt (1 + position_or_len (is_in s.hostgroup) rows) (suc (length rows)) ≡ false = rw e at none in
      rw e (ap (λ (xs : List Session). row ∷ xs) (later (grind arith)))

pub put_there : (rows : List Session) (s : Session) (place : ℕ) → position (is_in s.hostgroup) rows ≡ Some place → slice_set rows place s ≡ put_in rows s
put_there rows s place there = by (nat_lt (position_or_len (is_in s.hostgroup) rows) (length rows)) refl where
  by : (found : Bool) → nat_lt (position_or_len (is_in s.hostgroup) rows) (length rows) ≡ found → slice_set rows place s ≡ put_in rows s
  by true e =
      let some : Some (position_or_len (is_in s.hostgroup) rows) ≡ Some place = rw e at there in
      let same : position_or_len (is_in s.hostgroup) rows ≡ place = cc in
      ap (λ (n : ℕ). slice_set rows n s) (sym same) ∙ put_so rows s
  by false e = let no : None ≡ Some place = rw e at there in absurd (cc)

pub put_nowhere : (rows : List Session) (s : Session) → position (is_in s.hostgroup) rows ≡ None → put_in rows s ≡ rows
put_nowhere rows s nowhere = by (nat_lt (position_or_len (is_in s.hostgroup) rows) (length rows)) refl where
  by : (found : Bool) → nat_lt (position_or_len (is_in s.hostgroup) rows) (length rows) ≡ found → put_in rows s ≡ rows
  by true e = let no : Some (position_or_len (is_in s.hostgroup) rows) ≡ None = rw e at nowhere in absurd (cc)
  by false e = past rows s e

-- One row more is left.

any_default : (rows : List Session) (i : ℕ) (d e : Session) → i < length rows → get_or rows i d ≡ get_or rows i e
any_default [] i d e h = absurd (omega arith)
any_default (first ∷ rows) zero d e h = refl
any_default (first ∷ rows) (suc i) d e h = any_default rows i d e (omega arith)

pub next_more : (xs ys : List Session) (i : ℕ) (d new : Session) → i < length xs → i < length ys → ys ≡ next_sessions (take i xs) ++ drop i xs
    → new ≡ next_session (get_or ys i d) → slice_set ys i new ≡ next_sessions (take (i + 1) xs) ++ drop (i + 1) xs
next_more xs ys i d new h within so_far is =
    rw is (map_over_more next_session xs ys i (get_or ys i d) h so_far (any_default ys i d (get_or ys i d) within))
