-- Where no session has a transaction open, no hostgroup has one.
use Rattle.std.specs.Prelude.{◌≡◌, Bool, true, false, find, if◌then◌else◌, unwrap_or, ◌&&◌, ◌||◌, List, [], ◌∷◌, ℕ, Option, Some, None}
use Rattle.std.specs.List.{list_any}
use Rattle.std.proofs.Common.{refl, sym, ap, subst, ◌∙◌}
use Rattle.std.proofs.lemmas.Bool.{eqb-true, or_parts}
use Rattle.mx_base.specs.declared.names.Hostgroup.{Hostgroup}
use Rattle.client_desk.specs.Desks.{has_open, session_of}
use Rattle.client_desk.specs.declared.desk.Desk.{Desk}
use Rattle.client_desk.specs.Sessions.{first_session, is_in, is_open, session_in}
use Rattle.client_desk.specs.declared.session.Session.{Session}

closed-in : (lefts : ℕ) (rows : List Session) (h : Hostgroup) → list_any is_open rows ≡ false → is_open (session_in lefts rows h) ≡ false
closed-in lefts [] h none = refl
closed-in lefts (row ∷ rows) h none = by (is_in h row) parts.0 (closed-in lefts rows h parts.1) where
  parts : (is_open row ≡ false) × (list_any is_open rows ≡ false)
  parts = or_parts (is_open row) (list_any is_open rows) none

  by : (b : Bool) → is_open row ≡ false → is_open (session_in lefts rows h) ≡ false
      → is_open (unwrap_or (if b then Some row else find (is_in h) rows) (first_session h lefts)) ≡ false
  by true here others = here
  by false here others = others

pub none-open : (lefts : ℕ) (rows : List Session) (hostgroups : List Hostgroup) → list_any is_open rows ≡ false
    → None ≡ find (λ h. is_open (session_in lefts rows h)) hostgroups
none-open lefts rows [] none = refl
none-open lefts rows (h ∷ hostgroups) none =
    none-open lefts rows hostgroups none
    ∙ (λ i. if sym (closed-in lefts rows h none) i then Some h else find (λ g. is_open (session_in lefts rows g)) hostgroups)

-- One that has one open, in a search of all.

found-none : (b : Bool) (row : Session) (rest : Option Session) → (if b then Some row else rest) ≡ None → (b ≡ false) × (rest ≡ None)
found-none true row rest is = absurd (cc)
found-none false row rest is = (refl, is)

pub open-found : (desk : Desk) (rows : List Session) (row : Session) → find (has_open desk) rows ≡ Some row → has_open desk row ≡ true
open-found desk [] row is = absurd (cc)
open-found desk (first ∷ rows) row is = by (has_open desk first) refl is (open-found desk rows row) where
  by : (b : Bool) → has_open desk first ≡ b → (if b then Some first else find (has_open desk) rows) ≡ Some row
      → (find (has_open desk) rows ≡ Some row → has_open desk row ≡ true) → has_open desk row ≡ true
  by true its there later = let same : first ≡ row = cc in subst (λ (s : Session). has_open desk s ≡ true) same its
  by false other there later = later there

twice : (b : Bool) → (b && b) ≡ false → b ≡ false
twice true is = is
twice false is = refl

closed-from : (desk : Desk) (rows : List Session) (h : Hostgroup) → find (has_open desk) rows ≡ None → find (is_in h) rows ≡ find (is_in h) desk.sessions
    → is_open (session_of desk h) ≡ false
closed-from desk [] h none same = ap (λ (found : Option Session). is_open (unwrap_or found (first_session h desk.lefts))) (sym same)
closed-from desk (row ∷ rows) h none same = by (is_in h row) refl same (closed-from desk rows h parts.1) where
  parts : (has_open desk row ≡ false) × (find (has_open desk) rows ≡ None)
  parts = found-none (has_open desk row) row (find (has_open desk) rows) none

  by : (b : Bool) → is_in h row ≡ b → (if b then Some row else find (is_in h) rows) ≡ find (is_in h) desk.sessions
      → (find (is_in h) rows ≡ find (is_in h) desk.sessions → is_open (session_of desk h) ≡ false) → is_open (session_of desk h) ≡ false
  by true its there later =
      let session : session_of desk h ≡ row = ap (λ (found : Option Session). unwrap_or found (first_session h desk.lefts)) (sym there) in
      let own : row.hostgroup ≡ h = (λ i. record { 0 = eqb-true row.hostgroup.0 h.0 its i }) in
      ap is_open session
      ∙ twice row.pin.tx (subst (λ (s : Session). (row.pin.tx && s.pin.tx) ≡ false) (ap (session_of desk) own ∙ session) parts.0)
  by false other there later = later there

-- and where there is none
pub closed-all : (desk : Desk) (h : Hostgroup) → find (has_open desk) desk.sessions ≡ None → is_open (session_of desk h) ≡ false
closed-all desk h none = closed-from desk desk.sessions h none refl
