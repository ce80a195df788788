-- What links keep of the sessions that a client leaves.
use Rattle.std.specs.Prelude.{◌≡◌, Bool, true, false, nat_eq, if◌then◌else◌, find, List, [], ◌∷◌, Option, Some, None}
use Rattle.std.specs.Option.{option_or}
use Rattle.std.proofs.Common.{refl, sym, ap, ◌∙◌}
use Rattle.std.proofs.lemmas.Option.{none-some}
use Rattle.private_model.proofs.Maps.{hostgroup_of, link_of, same_number}
use Rattle.private_model.specs.Names.{Hostgroup, LinkId}
use Rattle.served_link.specs.declared.row.LeftSession.{LeftSession}
use Rattle.client_desk.specs.Sessions.{is_in}
use Rattle.client_desk.specs.declared.session.Session.{Session}
use Rattle.desk_laws.specs.Stands.{AreDistinct}
use Rattle.core_tables.specs.Parting.{kept_at, kept_by, kept_of}
use Rattle.core_laws.proofs.OfParting.Reading.{some_is}

-- what is kept is that of the session whose home it is

pub record IsKeptOf (at : LinkId) (ss : List Session) (kept : LeftSession) : Type 0 where
  pub s : Session
  pub found : find (is_in s.hostgroup) ss ≡ Some s
  pub home : s.home ≡ Some at
  pub is : kept ≡ kept_of s

kept_home : (at : LinkId) (s : Session) (kept : LeftSession) (home : Option LinkId) → kept_by at home s ≡ Some kept → (home ≡ Some at) × (kept ≡ kept_of s)
kept_home at s kept None is = absurd (none-some kept is)
kept_home at s kept (Some l) is = by (nat_eq l.0 at.0) refl is where
  by : (b : Bool) → nat_eq l.0 at.0 ≡ b → (if b then Some (kept_of s) else None) ≡ Some kept → (Some l ≡ Some at) × (kept ≡ kept_of s)
  by true same there = (ap (λ (k : LinkId). Some k) (link_of l at same), sym (some_is (kept_of s) kept there))
  by false apart there = absurd (none-some kept there)

pub kept_so : (at : LinkId) (ss : List Session) (kept : LeftSession) → AreDistinct ss → kept_at at ss ≡ Some kept → IsKeptOf at ss kept
kept_so at [] kept are is = absurd (none-some kept is)
kept_so at (s ∷ ss) kept are is = by (kept_at at ss) refl (kept_so at ss kept are.1) is where
  by : (later : Option LeftSession) → kept_at at ss ≡ later → (kept_at at ss ≡ Some kept → IsKeptOf at ss kept) → option_or later (kept_by at s.home s) ≡ Some kept
      → IsKeptOf at (s ∷ ss) kept
  by None none rest there =
      let home = kept_home at s kept s.home there in
      record {
        s = s;
        found = ap (λ (b : Bool). if b then Some s else find (is_in s.hostgroup) ss) (same_number s.hostgroup.0);
        home = home.0;
        is = home.1;
      }
  by (Some other) some rest there =
      let one = rest (some ∙ there) in
      record { s = one.s; found = at_once one (is_in one.s.hostgroup s) refl; home = one.home; is = one.is } where
        at_once : (one : IsKeptOf at ss kept) (b : Bool) → is_in one.s.hostgroup s ≡ b → (if is_in one.s.hostgroup s then Some s else find (is_in one.s.hostgroup) ss) ≡ Some one.s
        at_once one false apart = rw apart one.found
        at_once one true same =
            let of : s.hostgroup ≡ one.s.hostgroup = hostgroup_of s.hostgroup one.s.hostgroup same in
            absurd (none-some one.s (sym are.0 ∙ ap (λ (h : Hostgroup). find (is_in h) ss) of ∙ one.found))

pub none_kept_at : (at : LinkId) (h : Hostgroup) (ss : List Session) (s : Session) → kept_at at ss ≡ None → find (is_in h) ss ≡ Some s → s.home ≡ Some at → ⊥
none_kept_at at h [] s none found home = none-some s found
none_kept_at at h (first ∷ ss) s none found home =
    by (kept_at at ss) refl (λ no_later there. none_kept_at at h ss s no_later there home) none (is_in h first) found where
      here : (x : Option LinkId) → x ≡ Some at → kept_by at x first ≡ None → ⊥
      here None is not_kept = none-some at is
      here (Some l) is not_kept =
          let same : nat_eq l.0 at.0 ≡ true = ap (λ (k : LinkId). nat_eq k.0 at.0) (some_is l at is) ∙ same_number at.0 in
          none-some (kept_of first) (sym not_kept ∙ ap (λ (b : Bool). if b then Some (kept_of first) else None) same)

      by : (later : Option LeftSession) → kept_at at ss ≡ later → (kept_at at ss ≡ None → find (is_in h) ss ≡ Some s → ⊥) → option_or later (kept_by at first.home first) ≡ None → (b : Bool)
          → (if b then Some first else find (is_in h) ss) ≡ Some s → ⊥
      by (Some kept) some rest not_kept b there = none-some kept (sym not_kept)
      by None no_later rest not_kept true there = here first.home (ap (λ (x : Session). x.home) (some_is first s there) ∙ home) not_kept
      by None no_later rest not_kept false there = rest no_later there
