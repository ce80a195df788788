-- What is tested of clients and of links, and what that says.
use Rattle.std.specs.Prelude.{◌≡◌, ◌<◌, ◌^◌, ℕ, suc, nat_eq, nat_lt, Bool, true, false, not, ◌&&◌, find, unwrap_or, List, [], ◌∷◌, Option, Some, None}
use Rattle.std.specs.List.{list_all}
use Rattle.std.specs.Option.{option_and_then, option_map_or}
use Rattle.std.proofs.Common.{refl, sym, subst, arith, ◌∙◌}
use Rattle.std.proofs.lemmas.Bool.{ltb-true}
use Rattle.mx_base.specs.declared.names.ClientNo.{ClientNo}
use Rattle.mx_base.specs.declared.names.Hostgroup.{Hostgroup}
use Rattle.mx_base.specs.declared.names.LinkId.{LinkId}
use Rattle.private_model.proofs.Maps.{name_of as name_of_session}
use Rattle.session_state.specs.declared.names.SessionName.{SessionName}
use Rattle.client_desk.specs.Desks.{name_of, session_of}
use Rattle.client_desk.specs.Sessions.{first_session, is_in}
use Rattle.client_desk.specs.declared.desk.Desk.{Desk}
use Rattle.client_desk.specs.declared.session.Session.{Session}
use Rattle.client_desk.specs.declared.work.Work.{Work}
use Rattle.core_tables.specs.Tables.{Tabled}
use Rattle.core_tables.specs.declared.client.Client.{Client}
use Rattle.core_tables.specs.declared.server.Server.{Server}
use Rattle.core_laws.specs.parting.Partings.{is_sound}
use Rattle.router_laws.specs.wakes.Settling.{MayBegin, MayState}
use Rattle.shared_core.specs.Rows.{HasLives, WorkIsBroken, WorkIsUnsent, has_two_lives, home_at, home_in, is_stated, is_unsound_in, same_name, work_at}

left-of : (a b : Bool) → (a && b) ≡ true → a ≡ true
left-of true b is = refl
left-of false b is = absurd (let e = is in cc)

right-of : (a b : Bool) → (a && b) ≡ true → b ≡ true
right-of true b is = is
right-of false b is = absurd (let e = is in cc)

not-true : (a : Bool) → not a ≡ true → a ≡ false
not-true true is = absurd (let e = is in cc)
not-true false is = refl

-- there are lives

found-passes : (p q : Session → Bool) (xs : List Session) (x : Session) → list_all p xs ≡ true → find q xs ≡ Some x → p x ≡ true
found-passes p q [] x all found = absurd (let e = found in cc)
found-passes p q (y ∷ ys) x all found = by (q y) refl (found-passes p q ys x (right-of (p y) (list_all p ys) all)) where
  by : (here : Bool) → q y ≡ here → (find q ys ≡ Some x → p x ≡ true) → p x ≡ true
  by true is later =
      let at : Some y ≡ Some x = rw is at found in
      let same : y ≡ x = cc in
      subst (λ (s : Session). p s ≡ true) same (left-of (p y) (list_all p ys) all)
  by false is later =
      let rest : find q ys ≡ Some x = rw is at found in
      later rest

lives-of : (lefts : ℕ) (xs : List Session) (h : Hostgroup) → lefts < 18446744073709551614 → list_all has_two_lives xs ≡ true
    → (found : Option Session) → find (is_in h) xs ≡ found → suc (suc (unwrap_or found (first_session h lefts)).life) < 2 ^ 64
lives-of lefts xs h few all None at = omega arith
lives-of lefts xs h few all (Some s) at =
    let one : has_two_lives s ≡ true = found-passes has_two_lives (is_in h) xs s all at in
    let below : s.life < 18446744073709551614 = ltb-true s.life 18446744073709551614 one in
    omega arith

pub lives-so : (desk : Desk) → list_all has_two_lives desk.sessions ≡ true → nat_lt desk.lefts 18446744073709551614 ≡ true → HasLives desk
lives-so desk all few h =
    lives-of desk.lefts desk.sessions h (ltb-true desk.lefts 18446744073709551614 few) all (find (is_in h) desk.sessions) refl

-- a statement in work

pub unsent-so : (c : ClientNo) (t : Tabled) (work : Work) → Some work ≡ work_at c t → not work.sent ≡ true → WorkIsUnsent c t
unsent-so c t work at unsent = by (t.clients c) refl (sym at) where
  by : (found : Option Client) → t.clients c ≡ found → option_and_then (λ (row : Client). row.desk.work) found ≡ Some work → WorkIsUnsent c t
  by None there is = absurd (let e = is in cc)
  by (Some row) there is =
      record { row = row; work = work; at_work = record { there = there; in_work = is }; unsent = not-true work.sent unsent }

unsound-there : (l : LinkId) (t : Tabled) → is_unsound_in l t ≡ true → (found : Option Server) → t.links l ≡ found
    → (server : Server) × (t.links l ≡ Some server) × (is_sound server.row ≡ false)
unsound-there l t is None there = absurd (let e : false ≡ true = rw there at is in cc)
unsound-there l t is (Some server) there = (server, there, not-true (is_sound server.row) (rw there at is))

pub broken-so : (c : ClientNo) (t : Tabled) (l : LinkId) → Some l ≡ home_at c t → is_unsound_in l t ≡ true → WorkIsBroken c t
broken-so c t l at unsound = by (t.clients c) refl (sym at) where
  by : (found : Option Client) → t.clients c ≡ found → option_and_then home_in found ≡ Some l → WorkIsBroken c t
  by None there is = absurd (let e = is in cc)
  by (Some row) there is = in_it row.desk.work refl is where
    in_it : (work : Option Work) → row.desk.work ≡ work → option_and_then (λ (w : Work). (session_of row.desk w.hostgroup).home) work ≡ Some l
        → WorkIsBroken c t
    in_it None none home = absurd (let e = home in cc)
    in_it (Some work) some home =
        let on = unsound-there l t unsound (t.links l) refl in
        record {
          row = row;
          work = work;
          at_work = record { there = there; in_work = some };
          broken = record { link = l; home = home; server = on.0; there = on.1; unsound = on.2 };
        }

-- a session's name

pub named-so : (a b : SessionName) → same_name a b ≡ true → a ≡ b
named-so a b is = name_of_session a b is

pub stated-so : (name : SessionName) (t : Tabled) (row : Client) → Some row ≡ t.clients name.client → is_stated name row ≡ true
    → (link : LinkId) → MayBegin link t → MayState link name t
stated-so name t row at is link begins = by row.desk.work refl is where
  by : (work : Option Work) → row.desk.work ≡ work
      → option_map_or (λ (w : Work). not w.sent && same_name name (name_of row.desk w.hostgroup)) work false ≡ true → MayState link name t
  by None none stated = absurd (let e = stated in cc)
  by (Some work) some stated = record {
    begins = begins;
    client = row;
    there = sym at;
    work = work;
    in_work = some;
    unsent = not-true work.sent (left-of (not work.sent) (same_name name (name_of row.desk work.hostgroup)) stated);
    named = named-so name (name_of row.desk work.hostgroup) (right-of (not work.sent) (same_name name (name_of row.desk work.hostgroup)) stated);
  }
