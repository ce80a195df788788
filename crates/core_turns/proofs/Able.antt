-- A client whose next message, and whose next lives, have numbers.
use Rattle.std.specs.Prelude.{◌≡◌, ◌<◌, ◌^◌, ℕ, suc, nat_lt, Bool, true, false, ◌&&◌, find, unwrap_or, List, [], ◌∷◌, Option, Some, None}
use Rattle.std.specs.List.{list_all}
use Rattle.std.proofs.Common.{refl, subst, arith}
use Rattle.std.proofs.lemmas.Bool.{ltb-true}
use Rattle.mx_base.specs.declared.names.Hostgroup.{Hostgroup}
use Rattle.client_desk.specs.Sessions.{first_session, is_in}
use Rattle.client_desk.specs.declared.session.Session.{Session}
use Rattle.core_tables.specs.declared.client.Client.{Client}
use Rattle.core_turns.specs.Turned.{IsAble, has_life, is_able}

left-of : (a b : Bool) → (a && b) ≡ true → a ≡ true
left-of true b is = refl
left-of false b is = absurd (let e = is in cc)

right-of : (a b : Bool) → (a && b) ≡ true → b ≡ true
right-of true b is = is
right-of false b is = absurd (let e = is in cc)

found-passes : (p q : Session → Bool) (xs : List Session) (x : Session) → list_all p xs ≡ true → find q xs ≡ Some x → p x ≡ true
found-passes p q [] x all found = absurd (let e = found in cc)
found-passes p q (y ∷ ys) x all found = by (q y) refl (found-passes p q ys x (right-of (p y) (list_all p ys) all)) where
  by : (here : Bool) → q y ≡ here → (find q ys ≡ Some x → p x ≡ true) → p x ≡ true
  by true is later =
      let at : Some y ≡ Some x = rw is at found in
      let same : y ≡ x = cc in
      subst (λ (s : Session). p s ≡ true) same (left-of (p y) (list_all p ys) all)
  by false is later =
      let rest : find q ys ≡ Some x = rw is at found in
      later rest

lives-of : (lefts : ℕ) (xs : List Session) (h : Hostgroup) → nat_lt lefts 18446744073709551615 ≡ true → list_all has_life xs ≡ true
    → (found : Option Session) → find (is_in h) xs ≡ found → suc (unwrap_or found (first_session h lefts)).life < 2 ^ 64
lives-of lefts xs h few all None at =
    let below : lefts < 18446744073709551615 = ltb-true lefts 18446744073709551615 few in
    omega arith
lives-of lefts xs h few all (Some s) at =
    let one : has_life s ≡ true = found-passes has_life (is_in h) xs s all at in
    let below : s.life < 18446744073709551615 = ltb-true s.life 18446744073709551615 one in
    omega arith

pub able-so : (row : Client) → is_able row ≡ true → IsAble row
able-so row is =
    let seat : Bool = nat_lt row.desk.seat.client.arrived 18446744073709551615 in
    let lefts : Bool = nat_lt row.desk.lefts 18446744073709551615 in
    let lives : Bool = list_all has_life row.desk.sessions in
    let first : (seat && lefts) ≡ true = left-of (seat && lefts) lives is in
    let arrived : row.desk.seat.client.arrived < 18446744073709551615 =
    ltb-true row.desk.seat.client.arrived 18446744073709551615 (left-of seat lefts first) in
    record {
      few = omega arith;
      lives = λ h. lives-of row.desk.lefts row.desk.sessions h (right-of seat lefts first) (right-of (seat && lefts) lives is)
          (find (is_in h) row.desk.sessions) refl;
    }
