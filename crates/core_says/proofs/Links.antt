-- Marks at a client's links.
use Rattle.std.specs.Prelude.{◌≡◌, ◌&&◌, ◌||◌, Bool, true, false, List, [], ◌∷◌, nat_eq, Option, Some, None}
use Rattle.std.proofs.Common.{◌∙◌, ◌<◌, ◌≤◌, ◌+◌, ℕ, drop, get_or, length, refl, sym, ap, subst, inl, inr}
use Rattle.std.proofs.lemmas.List.{drop_all, drop_more}
use Rattle.std.proofs.lemmas.Bool.{cases_Bool}
use Rattle.mx_base.specs.{declared.names.Hostgroup.Hostgroup, declared.names.LinkId.LinkId}
use Rattle.private_model.proofs.Maps.{link_of}
use Rattle.link_marks.specs.Marks.{Marked, is_known, is_link, is_marked}
use Rattle.client_desk.specs.Sessions.{is_in, session_in}
use Rattle.client_desk.specs.declared.session.Session.{Session}
use Rattle.core_tables.specs.declared.client.Client.{Client}
use Rattle.core_says.specs.Marking.{AreAway, AreMarked, IsClearOf, IsMarkedAt, IsMarkedFor, IsMore}
use Rattle.core_says.specs.Says.{IsNoneOf, is_at}

or_left : (a b : Bool) → (a || b) ≡ false → a ≡ false
or_left true b none = cc
or_left false b none = refl

or_right : (a b : Bool) → (a || b) ≡ false → b ≡ false
or_right true b none = cc
or_right false b none = none

pub more_none : (old : Marked) → IsMore old old
more_none old = record { known = λ link. refl; kept = λ link off. off }

pub more_on : (a b c : Marked) → IsMore a b → IsMore b c → IsMore a c
more_on a b c first next = record {
  known = λ link. next.known link ∙ first.known link;
  kept = λ link off. first.kept link (next.kept link off);
}

pub marked_none : (old : Marked) → IsMarkedAt None old old
marked_none old = record { more = more_none old; away = λ link known off. refl }

away_one : (l link : LinkId) (old new : Marked) → is_known old link ≡ true
    → (is_marked new link ≡ ((is_link l link && is_known old l) || is_marked old link)) → is_marked new link ≡ false → nat_eq l.0 link.0 ≡ false
away_one l link old new known is off = elim (cases_Bool (nat_eq l.0 link.0)) [
  | inl on ↦
      let there : is_known old l ≡ true = ap (is_known old) (link_of l link on) ∙ known in
      let bad : true ≡ false = ap (λ (b : Bool). b || is_marked old link) (sym (ap (λ (b : Bool). b && is_known old l) on ∙ there)) ∙ (sym is ∙ off) in
      absurd cc
  | inr none ↦ none
]

pub marked_some : (l : LinkId) (old new : Marked) → ((other : LinkId) → is_known new other ≡ is_known old other)
    → ((other : LinkId) → is_marked new other ≡ ((is_link l other && is_known old l) || is_marked old other)) → IsMarkedAt (Some l) old new
marked_some l old new known marked = record {
  more = record {
    known = known;
    kept = λ link off. or_right (is_link l link && is_known old l) _ (sym (marked link) ∙ off);
  };
  away = λ link there off. away_one l link old new there (marked link) off;
}

pub marked_none_yet : (all : List Session) (old : Marked) → AreMarked all all old old
marked_none_yet all old = record { more = more_none old; away = λ link known off away. away }

pub marked_next : (session : Session) (left all : List Session) (old mid new : Marked) → AreMarked (session ∷ left) all old mid
    → IsMarkedAt session.home mid new → AreMarked left all old new
marked_next session left all old mid new before next = record {
  more = more_on old mid new before.more next.more;
  away = λ link known off away.
      before.away link known (next.more.kept link off) (next.away link (before.more.known link ∙ known) off, away);
}

-- over a list, from a place on
pub marked_at_next : (d : Session) (all : List Session) (i : ℕ) (old mid new : Marked) → i < length all → AreMarked (drop i all) all old mid
    → IsMarkedAt (get_or all i d).home mid new → AreMarked (drop (i + 1) all) all old new
marked_at_next d all i old mid new within before next =
    marked_next (get_or all i d) (drop (i + 1) all) all old mid new
    (subst (λ (left : List Session). AreMarked left all old mid) (drop_more all i d within) before) next

pub marked_all : (all : List Session) (i : ℕ) (old new : Marked) → length all ≤ i → AreMarked (drop i all) all old new → AreMarked [] all old new
marked_all all i old new end marked = subst (λ (left : List Session). AreMarked left all old new) (drop_all i all end) marked

-- a session of which there is no row has no link
pub home_away : (lefts : ℕ) (rows : List Session) (h : Hostgroup) (link : LinkId) → AreAway link rows → is_at link (session_in lefts rows h).home ≡ false
home_away lefts [] h link away = refl
home_away lefts (s ∷ rows) h link away = elim (cases_Bool (is_in h s)) [
  | inl on ↦ rw on (away.0)
  | inr off ↦ rw off (home_away lefts rows h link away.1)
]

-- a row that has nothing to do with a link
pub clear_none : (row : Option Client) (link : LinkId) → IsClearOf link row → IsNoneOf link row
clear_none None link clear = record { own = refl; unnamed = λ h. refl }
clear_none (Some row) link clear = record {
  own = clear.own;
  unnamed = λ h. rw clear.readied (home_away row.desk.lefts row.desk.sessions h link clear.away);
}

pub marked_for : (row : Client) (a b c d : Marked) → IsMarkedAt (Some row.desk.seat.link) a b → IsMarkedAt row.note.readied b c
    → AreMarked [] row.desk.sessions c d → IsMarkedFor row a d
marked_for row a b c d own readied homes = record {
  more = more_on a b d own.more (more_on b c d readied.more homes.more);
  clear = λ link known off.
      let at_c : is_marked c link ≡ false = homes.more.kept link off in
      let at_b : is_marked b link ≡ false = readied.more.kept link at_c in
      let in_b : is_known b link ≡ true = own.more.known link ∙ known in
      let in_c : is_known c link ≡ true = readied.more.known link ∙ in_b in
      record { own = own.away link known at_b; readied = readied.away link in_b at_c; away = homes.away link in_c off tt };
}
