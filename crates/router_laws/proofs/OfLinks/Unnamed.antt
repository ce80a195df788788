-- A link that no entry of a log names is none of its tale.
use Rattle.std.specs.List.{list_any}
use Rattle.std.specs.Prelude.{◌≡◌, ◌+◌, ℕ, Bool, true, false, ◌||◌, All, fold, length, map, nat_eq, if◌then◌else◌, List, [], ◌∷◌, ◌++◌, Option, Some, None}
use Rattle.std.proofs.Common.{refl, sym, ap, ◌∙◌, subst}
use Rattle.std.proofs.lemmas.Bool.{cases_Bool, true≢false}
use Rattle.std.proofs.Common.{arith, inl, inr}
use Rattle.std.proofs.lemmas.List.Elements.{All-cons, All-head, All-nil, All-tail}
use Rattle.mx_wire.specs.Log.{Log, is_link, link_of, of_link, opened_links}
use Rattle.mx_wire.specs.declared.entry.Entry.{Entry}
use Rattle.mx_wire.specs.declared.entry.Entry.TheVariants as entry
use Rattle.private_model.proofs.Maps as maps
use Rattle.private_model.specs.Names.{LinkId}
use Rattle.private_model.specs.Story.{BecameDue, Broke, Dropped, Freed, Gone, Happening, Left, Mirrored, Ran, is_link_id, put}
use Rattle.private_model.specs.View.{Link, Setup, freed, no_link}
use Rattle.log_story.specs.Plan.{Plan}
use Rattle.log_story.specs.Tale.{Client, Tale, Wire, client_gets, client_hears, first_tale, is_to_server, link_in, new_client, tell, view_of, with_client}
use Rattle.log_story.specs.Clients.{client_leaves}
use Rattle.log_story.specs.Servers.{writes}
use Rattle.log_story.specs.Telling.{is_lost_or_left, server_says, tale_step, told}
use Rattle.step_laws.proofs.Telling.{told_spares}
use Rattle.tale_world.proofs.Links.{log_links}
use Rattle.core_laws.proofs.OfEntry.Remaining.{is_remaining, rest_keeps}
use Rattle.shared_router.proofs.Numbered.{AreNumbered}
use Rattle.shared_router.proofs.Seated.{AreLike, clients_by, numbered_step, step_like, told_clients}

-- Its entries, one by one.

abbrev none_first : Entry → (here : Bool) → (rest : Log) → Log
none_first e here rest = if here then e ∷ rest else rest

first_other : (e : Entry) (rest : Log) (here : Bool) → none_first e here rest ≡ [] → (here ≡ false) × (rest ≡ [])
first_other e rest false none = (refl, none)
first_other e rest true none = absurd (cc)

pub unnamed : (l : LinkId) (e : Entry) (log : Log) → of_link l (e ∷ log) ≡ [] → (is_link l (link_of e) ≡ false) × (of_link l log ≡ [])
unnamed l e log none = first_other e (of_link l log) (is_link l (link_of e)) none

module _ (setup : Setup) (plan : Plan) (l : LinkId) where
  -- the law knows of none

  abbrev IsNone : Tale → Type 0
  IsNone tale = link_in setup tale l ≡ no_link

  freed_none : (links : LinkId → Link) (link : LinkId) → links l ≡ no_link → put is_link_id links link (freed (links link)) l ≡ no_link
  freed_none links link none = elim (cases_Bool (is_link_id l link)) [
    | inl here ↦ ap (λ (b : Bool). if b then freed (links link) else links l) here ∙ ap (λ k. freed (links k)) (sym (maps.link_of l link here)) ∙ ap freed none
    | inr other ↦ ap (λ (b : Bool). if b then freed (links link) else links l) other ∙ none
  ]

  tells_none : (h : Happening) (tale : Tale) → is_remaining h ≡ true → IsNone tale → IsNone (tell h tale)
  tells_none (Freed link) tale remains none = freed_none (view_of setup tale).links link none
  tells_none (BecameDue client hostgroup ordinal key command multiplex) tale remains none = none
  tells_none (Left client) tale remains none = none
  tells_none (Mirrored client job) tale remains none = none
  tells_none Broke tale remains none = none
  tells_none _ tale remains none = absurd (cc)

  step_none : (tale : Tale) (e : Entry) → is_link l (link_of e) ≡ false → IsNone tale → IsNone (tale_step setup plan tale e)
  step_none tale e aside none =
      rest_keeps setup plan IsNone tells_none (λ client t is. is) tale e ((told_spares setup plan tale e).view.link l aside ∙ none)

  log_none : (log : Log) (tale : Tale) → of_link l log ≡ [] → IsNone tale → IsNone (fold (tale_step setup plan) tale log)
  log_none [] tale new none = none
  log_none (e ∷ log) tale new none =
      let first = unnamed l e log new in log_none log (tale_step setup plan tale e) first.1 (step_none tale e first.0 none)

  pub none_there : (log : Log) → of_link l log ≡ [] → link_in setup (fold (tale_step setup plan) first_tale log) l ≡ no_link
  none_there log new = log_none log first_tale new refl

  -- it is no client's

  abbrev IsAway : Client → Type 0
  IsAway client = is_link_id client.link l ≡ false

  flipped : (a b : LinkId) → nat_eq a.0 b.0 ≡ false → is_link_id b a ≡ false
  flipped a b apart = grind arith

  away_last : (xs : List Client) (client : Client) → All IsAway xs → IsAway client → All IsAway (xs ++ client ∷ [])
  away_last [] client all one = All-cons IsAway client [] one (All-nil IsAway)
  away_last (x ∷ xs) client all one =
      All-cons IsAway x (xs ++ client ∷ []) (All-head IsAway x xs all) (away_last xs client (All-tail IsAway x xs all) one)

  away_map : (f : Client → Client) → ((x : Client) → (f x).link ≡ x.link) → (xs : List Client) → All IsAway xs → All IsAway (map f xs)
  away_map f same [] all = All-nil IsAway
  away_map f same (x ∷ xs) all =
      All-cons IsAway (f x) (map f xs) (ap (λ (k : LinkId). is_link_id k l) (same x) ∙ All-head IsAway x xs all) (away_map f same xs (All-tail IsAway x xs all))

  away_if : (b : Bool) (xs ys : List Client) → All IsAway xs → All IsAway ys → All IsAway (if b then xs else ys)
  away_if true xs ys first second = first
  away_if false xs ys first second = second

  either_link : (b : Bool) (x y : Client) (link : LinkId) → x.link ≡ link → y.link ≡ link → (if b then x else y).link ≡ link
  either_link true x y link first second = first
  either_link false x y link first second = second

  away_told : (tale : Tale) (e : Entry) → is_link l (link_of e) ≡ false → All IsAway tale.clients → All IsAway (clients_by setup plan tale e)
  away_told tale (entry.Accepted port link salt) aside all =
      away_last tale.clients (new_client (length tale.clients + 1) port link salt) all (flipped l link aside)
  away_told tale (entry.Got link bytes) aside all =
      away_if (is_to_server tale link) tale.clients (map (client_hears link bytes) tale.clients) all
      (away_map (client_hears link bytes) (λ x. either_link (is_link_id x.link link) _ x x.link refl refl) tale.clients all)
  away_told tale (entry.Wrote link tag bytes) aside all =
      away_if (is_to_server tale link) tale.clients (map (client_gets link (length bytes)) tale.clients) all
      (away_map (client_gets link (length bytes)) (λ x. either_link (is_link_id x.link link) _ x x.link refl refl) tale.clients all)
  away_told tale _ aside all = all

  away_like : (xs ys : List Client) → AreLike xs ys → All IsAway xs → All IsAway ys
  away_like [] [] like all = All-nil IsAway
  away_like [] (y ∷ ys) like all = absurd like
  away_like (x ∷ xs) [] like all = absurd like
  away_like (x ∷ xs) (y ∷ ys) like all =
      All-cons IsAway y ys (ap (λ (k : LinkId). is_link_id k l) like.0.link ∙ All-head IsAway x xs all) (away_like xs ys like.1 (All-tail IsAway x xs all))

  away_step : (tale : Tale) (e : Entry) → AreNumbered 1 tale.clients → is_link l (link_of e) ≡ false → All IsAway tale.clients
      → All IsAway (tale_step setup plan tale e).clients
  away_step tale e numbered aside all =
      away_like (told setup plan tale e).clients (tale_step setup plan tale e).clients (step_like setup plan tale e numbered)
      (subst (All IsAway) (sym (told_clients setup plan tale e)) (away_told tale e aside all))

  away_log : (log : Log) (tale : Tale) → of_link l log ≡ [] → AreNumbered 1 tale.clients → All IsAway tale.clients
      → All IsAway (fold (tale_step setup plan) tale log).clients
  away_log [] tale new numbered all = all
  away_log (e ∷ log) tale new numbered all =
      let first = unnamed l e log new in
      away_log log (tale_step setup plan tale e) first.1 (numbered_step setup plan tale e numbered) (away_step tale e numbered first.0 all)

  pub no_clients : (log : Log) → of_link l log ≡ [] → All IsAway (fold (tale_step setup plan) first_tale log).clients
  no_clients log new = away_log log first_tale new tt (All-nil IsAway)
