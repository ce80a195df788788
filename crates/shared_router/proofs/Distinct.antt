-- No two clients have one link.
use Rattle.std.specs.Prelude.{◌≡◌, ◌+◌, Bool, true, false, find, length, map, if◌then◌else◌, List, [], ◌∷◌, ◌++◌, Some}
use Rattle.std.proofs.Common.{refl, sym, ap, ◌∙◌, subst, append_assoc, append-nil}
use Rattle.mx_base.specs.declared.names.LinkId.{LinkId}
use Rattle.mx_wire.specs.Log.{Log}
use Rattle.mx_wire.specs.Moments.{LawfulAfter}
use Rattle.mx_wire.specs.Tells.{Fits, IsNew}
use Rattle.mx_wire.specs.declared.entry.Entry.{Entry}
use Rattle.mx_wire.specs.declared.entry.Entry.TheVariants as entry
use Rattle.private_model.proofs.Maps as maps
use Rattle.private_model.proofs.Maps.{same_link}
use Rattle.private_model.specs.Story.{is_link_id}
use Rattle.log_story.specs.Plan.{Plan}
use Rattle.log_story.specs.Tale.{Client, Tale, client_gets, client_hears, is_to_server, new_client}
use Rattle.shared_router.specs.Fixed.{Fixed, setup_of}
use Rattle.shared_router.specs.Shared.{world_at}
use Rattle.shared_router.proofs.Coming.{IsNamed, named_at, named_new}
use Rattle.shared_router.proofs.Growing.{numbered_at, tale_so}
use Rattle.shared_router.proofs.Looked.{Each, each-so}
use Rattle.shared_router.proofs.Seated.{AreLike, clients_by, step_like, told_clients}

isnt : {A : Type 0} → true ≡ false → A
isnt is = absurd (cc)

abbrev pub IsApart : LinkId → Client → Type 0
IsApart link client = is_link_id client.link link ≡ false

abbrev pub Distinct : List Client → Type 0
Distinct [] = Unit {0}
Distinct (x ∷ xs) = Each (IsApart x.link) xs × Distinct xs

-- by their links alone

apart-like : (link : LinkId) (xs ys : List Client) → AreLike xs ys → Each (IsApart link) xs → Each (IsApart link) ys
apart-like link [] [] like all = tt
apart-like link [] (y ∷ ys) like all = absurd like
apart-like link (x ∷ xs) [] like all = absurd like
apart-like link (x ∷ xs) (y ∷ ys) like all = (ap (λ l. is_link_id l link) like.0.link ∙ all.0, apart-like link xs ys like.1 all.1)

distinct-like : (xs ys : List Client) → AreLike xs ys → Distinct xs → Distinct ys
distinct-like [] [] like all = tt
distinct-like [] (y ∷ ys) like all = absurd like
distinct-like (x ∷ xs) [] like all = absurd like
distinct-like (x ∷ xs) (y ∷ ys) like all =
    (apart-like y.link xs ys like.1 (subst (λ l. Each (IsApart l) xs) (sym like.0.link) all.0), distinct-like xs ys like.1 all.1)

module _ (f : Client → Client) (same : (c : Client) → (f c).link ≡ c.link) where
  apart-map : (link : LinkId) (xs : List Client) → Each (IsApart link) xs → Each (IsApart link) (map f xs)
  apart-map link [] all = tt
  apart-map link (x ∷ xs) all = (ap (λ l. is_link_id l link) (same x) ∙ all.0, apart-map link xs all.1)

  distinct-map : (xs : List Client) → Distinct xs → Distinct (map f xs)
  distinct-map [] all = tt
  distinct-map (x ∷ xs) all = (apart-map (f x).link xs (subst (λ l. Each (IsApart l) xs) (sym (same x)) all.0), distinct-map xs all.1)

each-on : (P : Client → Type 0) (xs : List Client) (y : Client) → Each P xs → P y → Each P (xs ++ y ∷ [])
each-on P [] y all last = (last, tt)
each-on P (x ∷ xs) y all last = (all.0, each-on P xs y all.1 last)

distinct-last : (xs : List Client) (y : Client) → Distinct xs → Each (λ (x : Client). IsApart x.link y) xs → Distinct (xs ++ y ∷ [])
distinct-last [] y all apart = (tt, tt)
distinct-last (x ∷ xs) y all apart = (each-on (IsApart x.link) xs y all.0 apart.0, distinct-last xs y all.1 apart.1)

if-distinct : (b : Bool) (xs ys : List Client) → Distinct xs → Distinct ys → Distinct (if b then xs else ys)
if-distinct true xs ys one other = one
if-distinct false xs ys one other = other

if-link : (b : Bool) (x y : Client) (link : LinkId) → x.link ≡ link → y.link ≡ link → (if b then x else y).link ≡ link
if-link true x y link one other = one
if-link false x y link one other = other

new-apart : (log : Log) (link : LinkId) (y : Client) → IsNew link log → y.link ≡ link
    → (x : Client) → IsNamed log x → IsApart x.link y
new-apart log link y new is x named = by_test (is_link_id y.link x.link) refl where
  by_test : (b : Bool) → is_link_id y.link x.link ≡ b → b ≡ false
  by_test false at = refl
  by_test true at = named_new log link x new (sym is ∙ maps.link_of y.link x.link at) named

module _ (fixed : Fixed) where
  distinct-told : (plan : Plan) (log : Log) (e : Entry) → Fits log e → (tale : Tale) → Each (IsNamed log) tale.clients → Distinct tale.clients → Distinct (clients_by (setup_of fixed) plan tale e)
  distinct-told plan log (entry.Accepted port link salt) fits tale named all =
      let y : Client = new_client (length tale.clients + 1) port link salt in
      distinct-last tale.clients y all (each-so (IsNamed log) (λ (x : Client). IsApart x.link y) tale.clients (new-apart log link y fits.fresh refl) named)
  distinct-told plan log (entry.Got link bytes) fits tale named all =
      if-distinct (is_to_server tale link) tale.clients (map (client_hears link bytes) tale.clients) all
      (distinct-map (client_hears link bytes) (λ c. if-link (is_link_id c.link link) (record c { read = c.read ++ bytes }) c c.link refl refl) tale.clients all)
  distinct-told plan log (entry.Wrote link tag bytes) fits tale named all =
      if-distinct (is_to_server tale link) tale.clients (map (client_gets link (length bytes)) tale.clients) all
      (distinct-map (client_gets link (length bytes)) (λ c. if-link (is_link_id c.link link) (record c { written = c.written + length bytes }) c c.link refl refl) tale.clients all)
  distinct-told plan log _ fits tale named all = all

  distinct-step : (log : Log) (e : Entry) → Fits log e → Distinct (world_at fixed log).tale.clients → Distinct (world_at fixed (log ++ e ∷ [])).tale.clients
  distinct-step log e fits all =
      let tale : Tale = (world_at fixed log).tale in
      let step = tale_so fixed log e in
      subst (λ (t : Tale). Distinct t.clients) (sym step.1)
      (distinct-like _ _ (step_like (setup_of fixed) step.0 tale e (numbered_at fixed log))
      (subst Distinct (sym (told_clients (setup_of fixed) step.0 tale e)) (distinct-told step.0 log e fits tale (named_at fixed log) all)))

  distinct-from : (before later : Log) → LawfulAfter Fits before later → Distinct (world_at fixed before).tale.clients → Distinct (world_at fixed (before ++ later)).tale.clients
  distinct-from before [] fits all = subst (λ l. Distinct (world_at fixed l).tale.clients) (sym (append-nil before)) all
  distinct-from before (e ∷ later) fits all =
      subst (λ l. Distinct (world_at fixed l).tale.clients) (append_assoc before (e ∷ []) later)
      (distinct-from (before ++ e ∷ []) later fits.1 (distinct-step before e fits.0 all))

  pub distinct_at : (log : Log) → LawfulAfter Fits [] log → Distinct (world_at fixed log).tale.clients
  distinct_at log fits = distinct-from [] log fits tt

-- so the one that is found is the only one of its link

module _ (test : Client → Bool) (one : Client) where
  pub only : (xs : List Client) → Distinct xs → find test xs ≡ Some one → Each (λ (c : Client). c.link ≡ one.link → c ≡ one) xs
  only [] all found = tt
  only (x ∷ xs) all found = by_test (test x) found (only xs all.1) where
    tail : x ≡ one → Each (λ (c : Client). c.link ≡ one.link → c ≡ one) xs
    tail same = each-so (IsApart x.link) (λ (c : Client). c.link ≡ one.link → c ≡ one) xs
        (λ c apart is. isnt (sym (same_link x.link) ∙ ap (λ l. is_link_id l x.link) (ap (λ (y : Client). y.link) same ∙ sym is) ∙ apart)) all.0

    apart-found : (ys : List Client) → Each (IsApart x.link) ys → find test ys ≡ Some one → IsApart x.link one
    apart-found [] apart is = absurd (cc)
    apart-found (y ∷ ys) apart is = by_first (test y) is (apart-found ys apart.1) where
      by_first : (b : Bool) → (if b then Some y else find test ys) ≡ Some one → (find test ys ≡ Some one → IsApart x.link one) → IsApart x.link one
      by_first true so later = (let at : y ≡ one = cc in subst (IsApart x.link) at apart.0)
      by_first false so later = later so

    by_test : (b : Bool) → (if b then Some x else find test xs) ≡ Some one → (find test xs ≡ Some one → Each (λ (c : Client). c.link ≡ one.link → c ≡ one) xs)
        → Each (λ (c : Client). c.link ≡ one.link → c ≡ one) (x ∷ xs)
    by_test true so later = (let at : x ≡ one = cc in ((λ is. at), tail at))
    by_test false so later =
        ((λ is. isnt (sym (same_link x.link) ∙ ap (λ l. is_link_id l x.link) is ∙ apart-found xs all.0 so)), later so)
