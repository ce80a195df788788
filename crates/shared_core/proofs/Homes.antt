-- The links that carry sessions of clients.
use Rattle.std.specs.Prelude.{◌≡◌, ◌<◌, ◌≤◌, ◌+◌, ℕ, Bool, true, false, ◌||◌, All, find, unwrap_or, get_or, is_some, if◌then◌else◌, length, nat_eq, take, List, [], ◌∷◌, ◌++◌, Option, Some, None}
use Rattle.std.proofs.Common.{◌∙◌, ap, refl, subst, sym}
use Rattle.std.proofs.lemmas.List.{take_all, take_more}
use Rattle.std.proofs.lemmas.List.Elements.{All-cons, All-head, All-nil, All-tail}
use Rattle.mx_base.specs.declared.names.ClientNo.{ClientNo}
use Rattle.mx_base.specs.declared.names.Hostgroup.{Hostgroup}
use Rattle.mx_base.specs.declared.names.LinkId.{LinkId}
use Rattle.private_model.proofs.Maps.{client_of, link_of, same_number}
use Rattle.private_model.specs.Story.{is_client, is_link_id}
use Rattle.client_desk.specs.Desks.{session_of}
use Rattle.client_desk.specs.Sessions.{first_session, is_in}
use Rattle.client_desk.specs.declared.session.Session.{Session}
use Rattle.core_tables.specs.Tables.{Tabled}
use Rattle.core_tables.specs.declared.client.Client.{Client}
use Rattle.marked_tables.specs.Homes.{Gains, Rise, is_among, is_home_in, is_home_of}
use Rattle.step_laws.specs.Freed as freed
use Rattle.router_laws.specs.wakes.Calling.{AreHomesOf}
use Rattle.shared_core.specs.Follows.{AreAllHomes, is_of, known_in, known_more}

or-cases : {A : Type 0} (a b : Bool) → (a || b) ≡ true → (a ≡ true → A) → (b ≡ true → A) → A
or-cases true b is left right = left refl
or-cases false b is left right = right is

or-second : (a b : Bool) → b ≡ true → (a || b) ≡ true
or-second true b is = refl
or-second false b is = is

or-first : (a b : Bool) → a ≡ true → (a || b) ≡ true
or-first true b is = refl
or-first false b is = absurd (let e = is in cc)

-- The homes of one client more.

of-next : {A : Type 0} (xs : List ClientNo) (x c : ClientNo) → is_of (xs ++ x ∷ []) c ≡ true → (is_of xs c ≡ true → A) → (is_client c x ≡ true → A) → A
of-next [] x c is before last = or-cases (is_client c x) false is last (λ e. absurd (let n = e in cc))
of-next (y ∷ xs) x c is before last =
    or-cases (is_client c y) (is_of (xs ++ x ∷ []) c) is (λ e. before (or-first (is_client c y) (is_of xs c) e))
    (λ e. of-next xs x c e (λ in_them. before (or-second (is_client c y) (is_of xs c) in_them)) last)

pub no-homes : (t : Tabled) → AreAllHomes [] [] t
no-homes t = record { rises = tt; homes = λ c l is. absurd (let e = is in cc) }

homes-more : (xs : List ClientNo) (x : ClientNo) (old new : List LinkId) (t : Tabled) → AreAllHomes xs old t
    → Gains (λ (other : LinkId). is_home_in other (t.clients x)) old new → AreAllHomes (xs ++ x ∷ []) new t
homes-more xs x old new t before gains = record {
  rises = gains.rises;
  homes = λ c l is home.
      gains.holds l
      ∙ of-next xs x c is (λ in_them. or-second (is_home_in l (t.clients x)) (is_among l old) (before.homes c l in_them home))
      (λ last. or-first (is_home_in l (t.clients x)) (is_among l old)
      (let P : ClientNo → Type 0 = λ n. is_home_in l (t.clients n) ≡ true in subst P (client_of c x last) home));
}

pub homes-next : (d : ClientNo) (clients : List ClientNo) (i : ℕ) (old new : List LinkId) (t : Tabled) → i < length clients
    → AreAllHomes (take i clients) old t → Gains (λ (other : LinkId). is_home_in other (t.clients (get_or clients i d))) old new
    → AreAllHomes (take (i + 1) clients) new t
homes-next d clients i old new t within before gains =
    let P : List ClientNo → Type 0 = λ cs. AreAllHomes cs new t in
    subst P (sym (take_more clients i d within)) (homes-more (take i clients) (get_or clients i d) old new t before gains)

pub homes-all : (clients : List ClientNo) (i : ℕ) (links : List LinkId) (t : Tabled) → length clients ≤ i → AreAllHomes (take i clients) links t
    → AreAllHomes clients links t
homes-all clients i links t end is =
    let P : List ClientNo → Type 0 = λ cs. AreAllHomes cs links t in
    subst P (take_all i clients end) is

-- Those that are links to servers.

known-along : (t : Tabled) (xs ys : List LinkId) → known_in t (xs ++ ys) ≡ known_in t xs ++ known_in t ys
known-along t [] ys = refl
known-along t (x ∷ xs) ys = by (is_some (t.links x)) (known-along t xs ys) where
  by : (b : Bool) → known_in t (xs ++ ys) ≡ known_in t xs ++ known_in t ys
      → (if b then x ∷ known_in t (xs ++ ys) else known_in t (xs ++ ys)) ≡ (if b then x ∷ known_in t xs else known_in t xs) ++ known_in t ys
  by true later = ap (λ (ls : List LinkId). x ∷ ls) later
  by false later = later

nothing-more : (xs : List LinkId) → xs ++ [] ≡ xs
nothing-more [] = refl
nothing-more (x ∷ xs) = ap (λ (ls : List LinkId). x ∷ ls) (nothing-more xs)

more-known : (t : Tabled) (x : LinkId) (known : List LinkId) → known_more t x known ≡ known ++ known_in t (x ∷ [])
more-known t x known = by (is_some (t.links x)) where
  by : (b : Bool) → (if b then known ++ x ∷ [] else known) ≡ known ++ (if b then x ∷ [] else [])
  by true = refl
  by false = sym (nothing-more known)

pub known-next : (d : LinkId) (t : Tabled) (links : List LinkId) (i : ℕ) (known new : List LinkId) → i < length links
    → known ≡ known_in t (take i links) → new ≡ known_more t (get_or links i d) known → new ≡ known_in t (take (i + 1) links)
known-next d t links i known new within before is =
    is
    ∙ (more-known t (get_or links i d) known
    ∙ (ap (λ (ls : List LinkId). ls ++ known_in t (get_or links i d ∷ [])) before
    ∙ (sym (known-along t (take i links) (get_or links i d ∷ [])) ∙ sym (ap (known_in t) (take_more links i d within)))))

pub known-all : (t : Tabled) (links : List LinkId) (i : ℕ) (known : List LinkId) → length links ≤ i → known ≡ known_in t (take i links)
    → known ≡ known_in t links
known-all t links i known end is = is ∙ ap (known_in t) (take_all i links end)

all-known : (P : LinkId → Type 0) (t : Tabled) (links : List LinkId) → All P links → All P (known_in t links)
all-known P t [] all = All-nil P
all-known P t (x ∷ xs) all = by (is_some (t.links x)) (all-known P t xs (All-tail P x xs all)) where
  by : (b : Bool) → All P (known_in t xs) → All P (if b then x ∷ known_in t xs else known_in t xs)
  by true later = All-cons P x (known_in t xs) (All-head P x xs all) later
  by false later = later

known-rises : (t : Tabled) (links : List LinkId) → Rise links → Rise (known_in t links)
known-rises t [] rise = tt
known-rises t (x ∷ xs) rise = by (is_some (t.links x)) (known-rises t xs rise.1) where
  by : (b : Bool) → Rise (known_in t xs) → Rise (if b then x ∷ known_in t xs else known_in t xs)
  by true later = (all-known (λ (y : LinkId). x.0 < y.0) t xs rise.0, later)
  by false later = later

known-there : (t : Tabled) (links : List LinkId) → All (λ (l : LinkId). is_some (t.links l) ≡ true) (known_in t links)
known-there t [] = All-nil _
known-there t (x ∷ xs) = by (is_some (t.links x)) refl (known-there t xs) where
  by : (b : Bool) → is_some (t.links x) ≡ b → All (λ (l : LinkId). is_some (t.links l) ≡ true) (known_in t xs)
      → All (λ (l : LinkId). is_some (t.links l) ≡ true) (if b then x ∷ known_in t xs else known_in t xs)
  by true is later = All-cons (λ (l : LinkId). is_some (t.links l) ≡ true) x (known_in t xs) is later
  by false is later = later

off-on : (b : Bool) → b ≡ false → b ≡ true → ⊥
off-on true off on = let e = off in cc
off-on false off on = let e = on in cc

known-among : (t : Tabled) (links : List LinkId) (l : LinkId) → is_among l links ≡ true → is_some (t.links l) ≡ true
    → freed.is_among (known_in t links) l ≡ true
known-among t [] l is there = absurd (let e = is in cc)
known-among t (x ∷ xs) l is there = by (is_some (t.links x)) refl (λ among. known-among t xs l among there) where
  by : (b : Bool) → is_some (t.links x) ≡ b → (is_among l xs ≡ true → freed.is_among (known_in t xs) l ≡ true)
      → freed.is_among (if b then x ∷ known_in t xs else known_in t xs) l ≡ true
  by true some later =
      or-cases (nat_eq x.0 l.0) (is_among l xs) is
      (λ e. or-first (is_link_id l x) (freed.is_among (known_in t xs) l)
      (let P : LinkId → Type 0 = λ n. is_link_id n x ≡ true in subst P (link_of x l e) (same_number x.0)))
      (λ e. or-second (is_link_id l x) (freed.is_among (known_in t xs) l) (later e))
  by false none later =
      or-cases (nat_eq x.0 l.0) (is_among l xs) is
      (λ e. absurd (let P : LinkId → Type 0 = λ n. is_some (t.links n) ≡ false in off-on _ (subst P (link_of x l e) none) there)) later

-- a present session's home

home-among : (h : Hostgroup) (s : Session) (l : LinkId) → s.home ≡ Some l → (ss : List Session) → find (is_in h) ss ≡ Some s
    → is_home_of l ss ≡ true
home-among h s l home [] none = absurd (let e = none in cc)
home-among h s l home (y ∷ ys) is = by (is_in h y) refl (home-among h s l home ys) where
  by : (b : Bool) → is_in h y ≡ b → (find (is_in h) ys ≡ Some s → is_home_of l ys ≡ true) → is_home_of l (y ∷ ys) ≡ true
  by true here later =
      let first : Some y ≡ Some s = rw here at is in
      let same : y ≡ s = cc in
      let its : y.home ≡ Some l = ap (λ (one : Session). one.home) same ∙ home in
      rw its (or-first (nat_eq l.0 l.0) (is_home_of l ys) (same_number l.0))
  by false other later =
      let rest : find (is_in h) ys ≡ Some s = rw other at is in
      or-second _ (is_home_of l ys) (later rest)

home-found : (h : Hostgroup) (xs : List Session) (lefts : ℕ) (l : LinkId) (found : Option Session) → find (is_in h) xs ≡ found
    → (unwrap_or found (first_session h lefts)).home ≡ Some l → is_home_of l xs ≡ true
home-found h xs lefts l None at home = absurd (let e = home in cc)
home-found h xs lefts l (Some s) at home = home-among h s l home xs at

pub homes-of : (clients : List ClientNo) (links known : List LinkId) (t : Tabled) → AreAllHomes clients links t → known ≡ known_in t links
    → AreHomesOf (is_of clients) known t
homes-of clients links known t all is =
    let P : List LinkId → Type 0 = λ ls. AreHomesOf (is_of clients) ls t in
    subst P (sym is) (record {
      homes = λ c row h l whose at home there.
          let here : is_home_of l row.desk.sessions ≡ true = home-found h row.desk.sessions row.desk.lefts l (find (is_in h) row.desk.sessions) refl home in
          let its : is_home_in l (t.clients c) ≡ true = rw at here in
          known-among t links l (all.homes c l whose its) there;
      known = known-there t links;
      rising = known-rises t links all.rises;
    })
