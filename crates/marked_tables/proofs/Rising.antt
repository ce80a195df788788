-- Lists of links that rise, and what is put in.
use Rattle.std.specs.Prelude.{◌≡◌, ◌<◌, ◌≤◌, ◌+◌, ℕ, Bool, true, false, ◌||◌, All, get_or, length, nat_eq, take, drop, List, [], ◌∷◌, ◌++◌}
use Rattle.std.proofs.Common.{◌∙◌, arith, ap, inl, inr, refl, subst, sym, suc, zero}
use Rattle.std.proofs.lemmas.Bool.{cases_Bool, eq-eqb, eqb-true}
use Rattle.std.proofs.lemmas.List.{drop_all, drop_more}
use Rattle.std.proofs.lemmas.List.Elements.{All-cons, All-head, All-nil, All-tail}
use Rattle.mx_base.specs.declared.names.LinkId.{LinkId}
use Rattle.private_model.proofs.Maps.{link_of}
use Rattle.client_desk.specs.declared.session.Session.{Session}
use Rattle.core_says.specs.Says.{is_at}
use Rattle.marked_tables.specs.Homes.{Gains, IsPlace, Rise, is_among, is_home_of}

or_true : (a b : Bool) → b ≡ true → (a || b) ≡ true
or_true true b is = refl
or_true false b is = is

or_swap : (a b c : Bool) → (a || (b || c)) ≡ (b || (a || c))
or_swap true true c = refl
or_swap true false c = refl
or_swap false b c = refl

or_move : (a b c : Bool) → ((a || b) || c) ≡ (b || (a || c))
or_move true true c = refl
or_move true false c = refl
or_move false b c = refl

or_same : (a b : Bool) → (a ≡ true → b ≡ true) → (a || b) ≡ b
or_same true b so = sym (so refl)
or_same false b so = refl

pub or_false : (a : Bool) → (a || false) ≡ a
or_false true = refl
or_false false = refl

-- one that stands at a place is among them
pub among_at : (links : List LinkId) (place : ℕ) (other link : LinkId) → place < length links → link.0 ≡ (get_or links place other).0
    → is_among link links ≡ true
among_at [] place other link within same = absurd (omega (arith, within))
among_at (x ∷ xs) zero other link within same = ap (λ (b : Bool). b || is_among link xs) (eq-eqb x.0 link.0 (sym same))
among_at (x ∷ xs) (suc place) other link within same =
    or_true (nat_eq x.0 link.0) _ (among_at xs place other link (omega (arith, within)) same)

-- and so is each link of its id
among_same : (links : List LinkId) (link other : LinkId) → is_among link links ≡ true → nat_eq link.0 other.0 ≡ true → is_among other links ≡ true
among_same links link other is same = subst (λ (l : LinkId). is_among l links ≡ true) (link_of link other same) is

-- What is put in at a place.

below_one : (k place : ℕ) → k < place + 1 → nat_eq k place ≡ false → k < place
below_one k place less off = grind (arith, less, off)

pub among_gains : (links : List LinkId) (link : LinkId) → Rise links → is_among link links ≡ true
    → Gains (λ (other : LinkId). nat_eq link.0 other.0) links links
among_gains links link rise is = record {
  rises = rise;
  holds = λ other. sym (or_same (nat_eq link.0 other.0) (is_among other links) (λ same. among_same links link other is same));
}

-- What is put in at a place.

-- those before a place are below
pub record IsBelow (link : LinkId) (links : List LinkId) (place : ℕ) : Type 0 where
  pub within : place ≤ length links
  pub below : (other : LinkId) (k : ℕ) → k < place → (get_or links k other).0 < link.0

pub below_none : (link : LinkId) (links : List LinkId) → IsBelow link links 0
below_none link links = record { within = omega arith; below = λ other k less. absurd (omega (arith, less)) }

pub below_next : (link : LinkId) (links : List LinkId) (place : ℕ) → IsBelow link links place → place < length links
    → ((other : LinkId) → (get_or links place other).0 < link.0) → IsBelow link links (place + 1)
below_next link links place before within less = record {
  within = omega (arith, within);
  below = λ other k at. elim (cases_Bool (nat_eq k place)) [
    | inl on ↦ let one : k ≡ place = eqb-true k place on in rw one (less other)
    | inr off ↦ before.below other k (below_one k place at off)
  ];
}

all_put : (P : LinkId → Type 0) (links : List LinkId) (link : LinkId) (place : ℕ) → All P links → P link
    → All P (take place links ++ link ∷ drop place links)
all_put P [] link zero all one = All-cons P link [] one (All-nil P)
all_put P [] link (suc place) all one = All-cons P link [] one (All-nil P)
all_put P (x ∷ xs) link zero all one = All-cons P link (x ∷ xs) one all
all_put P (x ∷ xs) link (suc place) all one =
    All-cons P x _ (All-head P x xs all) (all_put P xs link place (All-tail P x xs all) one)

above_all : (x link : LinkId) (xs : List LinkId) → link.0 < x.0 → All (λ (y : LinkId). x.0 < y.0) xs → All (λ (y : LinkId). link.0 < y.0) xs
above_all x link xs less all = λ k d within. let more : x.0 < (get_or xs k d).0 = all k d within in omega (arith, less, more)

rise_put : (links : List LinkId) (link : LinkId) (place : ℕ) → Rise links
    → ((other : LinkId) (k : ℕ) → k < place → (get_or links k other).0 < link.0)
    → ((other : LinkId) → place < length links → link.0 < (get_or links place other).0) → Rise (take place links ++ link ∷ drop place links)
rise_put [] link zero rise below above = (All-nil _, tt)
rise_put [] link (suc place) rise below above = (All-nil _, tt)
rise_put (x ∷ xs) link zero rise below above =
    let head : link.0 < x.0 = above link (omega arith) in
    (All-cons (λ (y : LinkId). link.0 < y.0) x xs head (above_all x link xs head rise.0), rise)
rise_put (x ∷ xs) link (suc place) rise below above = (
  all_put (λ (y : LinkId). x.0 < y.0) xs link place rise.0 (below link 0 (omega arith)),
  rise_put xs link place rise.1 (λ other k less. below other (suc k) (omega (arith, less))) (λ other less. above other (omega (arith, less))),
)

among_put : (links : List LinkId) (link : LinkId) (place : ℕ) (other : LinkId)
    → is_among other (take place links ++ link ∷ drop place links) ≡ (nat_eq link.0 other.0 || is_among other links)
among_put [] link zero other = refl
among_put [] link (suc place) other = refl
among_put (x ∷ xs) link zero other = refl
among_put (x ∷ xs) link (suc place) other =
    ap (λ (b : Bool). nat_eq x.0 other.0 || b) (among_put xs link place other)
    ∙ or_swap (nat_eq x.0 other.0) (nat_eq link.0 other.0) (is_among other xs)

pub put_gains : (links new : List LinkId) (link : LinkId) (place : ℕ) → Rise links → IsPlace link links place
    → new ≡ (take place links ++ link ∷ drop place links) → Gains (λ (other : LinkId). nat_eq link.0 other.0) links new
put_gains links new link place rise at is = record {
  rises = subst (λ (xs : List LinkId). Rise xs) (sym is)
      (rise_put links link place rise at.below at.above);
  holds = λ other. ap (is_among other) is ∙ among_put links link place other;
}

-- Homes, from a session on.

pub gains_none : (links : List LinkId) → Rise links → Gains (λ (other : LinkId). false) links links
gains_none links rise = record { rises = rise; holds = λ other. refl }

pub record GainsFrom (left all : List Session) (old new : List LinkId) : Type 0 where
  pub rises : Rise new
  pub holds : (other : LinkId) → (is_home_of other left || is_among other new) ≡ (is_home_of other all || is_among other old)

pub gains_first : (all : List Session) (links : List LinkId) → Rise links → GainsFrom all all links links
gains_first all links rise = record { rises = rise; holds = λ other. refl }

gains_next : (session : Session) (left all : List Session) (old mid new : List LinkId) → GainsFrom (session ∷ left) all old mid
    → Gains (λ (other : LinkId). is_at other session.home) mid new → GainsFrom left all old new
gains_next session left all old mid new before one = record {
  rises = one.rises;
  holds = λ other.
      ap (λ (b : Bool). is_home_of other left || b) (one.holds other)
      ∙ (sym (or_move (is_at other session.home) (is_home_of other left) (is_among other mid)) ∙ before.holds other);
}

pub gains_at_next : (d : Session) (all : List Session) (i : ℕ) (old mid new : List LinkId) → i < length all → GainsFrom (drop i all) all old mid
    → Gains (λ (other : LinkId). is_at other (get_or all i d).home) mid new → GainsFrom (drop (i + 1) all) all old new
gains_at_next d all i old mid new within before one =
    gains_next (get_or all i d) (drop (i + 1) all) all old mid new
    (subst (λ (left : List Session). GainsFrom left all old mid) (drop_more all i d within) before) one

pub gains_all : (all : List Session) (i : ℕ) (old new : List LinkId) → length all ≤ i → GainsFrom (drop i all) all old new
    → Gains (λ (other : LinkId). is_home_of other all) old new
gains_all all i old new end gains =
    let last : GainsFrom [] all old new = subst (λ (left : List Session). GainsFrom left all old new) (drop_all i all end) gains in
    record { rises = last.rises; holds = λ other. last.holds other }
