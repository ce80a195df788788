-- Who clients are can be said before a log: what is read of them hangs on no decision, so accounts and places are read off it.
use Rattle.std.specs.Prelude.{◌≡◌, ◌+◌, ◌≤◌, All, ℕ, suc, Bool, true, false, cond, find, fold, length, map, if◌then◌else◌, List, [], ◌∷◌, ◌++◌, Option, Some}
use Rattle.std.specs.List.{list_any}
use Rattle.std.specs.Option.{option_map_or}
use Rattle.std.proofs.Common.{refl, sym, ap, ◌∙◌, subst, append_assoc, append-nil, arith, inl, inr}
use Rattle.std.proofs.lemmas.Bool.{ne_eqb}
use Rattle.client_session.specs.Answers.{account, opening_of}
use Rattle.client_session.specs.Setups.{Setup as Service}
use Rattle.client_side.specs.Login.{Fails, Opening, Says, Waits}
use Rattle.mx_base.specs.declared.names.LinkId.{LinkId}
use Rattle.mx_wire.specs.Log.{Log, opened_links}
use Rattle.mx_wire.specs.declared.entry.Entry.{Entry}
use Rattle.mx_wire.specs.declared.entry.Entry.TheVariants as entry
use Rattle.private_model.proofs.Maps.{same_number}
use Rattle.private_model.specs.Commands.{Account}
use Rattle.private_model.specs.Names.{ClientNo}
use Rattle.private_model.specs.Story.{is_client, is_link_id}
use Rattle.private_model.specs.View.{Setup}
use Rattle.server_side.specs.Account.{Account as Login}
use Rattle.session_state.specs.declared.place.Place.{Place}
use Rattle.log_story.specs.Owed.{talk_of}
use Rattle.log_story.specs.Plan.{Plan}
use Rattle.log_story.specs.Tale.{Client, Tale, client_gets, client_hears, first_tale, is_to_server, new_client}
use Rattle.log_story.specs.Telling.{tale_step, told}
use Rattle.tale_world.specs.Decided.{first_decided, plan_of}
use Rattle.router_promises.specs.Router.{first_place, service_of}
use Rattle.router_promises.specs.Terms.{AreWhoTheySay, IsWhoItSays, Terms, login_as, plan_in, tale_at}
use Rattle.shared_router.specs.Fixed.{Fixed, setup_of}
use Rattle.shared_router.specs.Shared.{final_terms, world_at}
use Rattle.shared_router.proofs.Growing.{IsWho, all_from, numbered_at, tale_so, who_earlier}
use Rattle.shared_router.proofs.Lasting.{links_at}
use Rattle.shared_router.proofs.Numbered.{AreNumbered, IsIn}
use Rattle.shared_router.proofs.Parting.{service_kept, tale_then}
use Rattle.shared_router.proofs.Seated.{AllOf, AreLike, IsLike, clients_by, step_like, told_clients}
use Rattle.shared_router.proofs.Users.{talk_by}

like_on : (xs ys zs : List Client) → AreLike xs ys → AreLike ys zs → AreLike xs zs
like_on [] [] [] one two = tt
like_on [] [] (z ∷ zs) one two = absurd two
like_on [] (y ∷ ys) zs one two = absurd one
like_on (x ∷ xs) [] zs one two = absurd one
like_on (x ∷ xs) (y ∷ ys) [] one two = absurd two
like_on (x ∷ xs) (y ∷ ys) (z ∷ zs) one two = (
  record {
    number = two.0.number ∙ one.0.number;
    link = two.0.link ∙ one.0.link;
    port = two.0.port ∙ one.0.port;
    salt = two.0.salt ∙ one.0.salt;
    read = two.0.read ∙ one.0.read;
  },
  like_on xs ys zs one.1 two.1,
)

like_length : (xs ys : List Client) → AreLike xs ys → length ys ≡ length xs
like_length [] [] like = refl
like_length [] (y ∷ ys) like = absurd like
like_length (x ∷ xs) [] like = absurd like
like_length (x ∷ xs) (y ∷ ys) like = let rest : length ys ≡ length xs = like_length xs ys like.1 in omega (arith, rest)

back_numbered : (from : ℕ) (xs ys : List Client) → AreLike xs ys → AreNumbered from ys → AreNumbered from xs
back_numbered from [] ys like are = tt
back_numbered from (x ∷ xs) [] like are = absurd like
back_numbered from (x ∷ xs) (y ∷ ys) like are = (ap (λ (n : ClientNo). n.0) (sym like.0.number) ∙ are.0, back_numbered (suc from) xs ys like.1 are.1)

like_comes : (xs ys : List Client) (one two : Client) → IsLike one two → AreLike xs ys → AreLike (xs ++ one ∷ []) (ys ++ two ∷ [])
like_comes [] [] one two last like = (last, tt)
like_comes [] (y ∷ ys) one two last like = absurd like
like_comes (x ∷ xs) [] one two last like = absurd like
like_comes (x ∷ xs) (y ∷ ys) one two last like = (like.0, like_comes xs ys one two last like.1)

like_map : (f : Client → Client) → ((x y : Client) → IsLike x y → IsLike (f x) (f y)) → (xs ys : List Client) → AreLike xs ys → AreLike (map f xs) (map f ys)
like_map f keeps [] [] like = tt
like_map f keeps [] (y ∷ ys) like = absurd like
like_map f keeps (x ∷ xs) [] like = absurd like
like_map f keeps (x ∷ xs) (y ∷ ys) like = (keeps x y like.0, like_map f keeps xs ys like.1)

hears_like : (link : LinkId) (bytes : List ℕ) (x y : Client) → IsLike x y → IsLike (client_hears link bytes x) (client_hears link bytes y)
hears_like link bytes x y like =
    subst (λ l. IsLike (client_hears link bytes x) (if is_link_id l link then record y { read = y.read ++ bytes } else y)) (sym like.link) (by_test (is_link_id x.link link)) where
      by_test : (b : Bool) → IsLike (if b then record x { read = x.read ++ bytes } else x) (if b then record y { read = y.read ++ bytes } else y)
      by_test true = record { number = like.number; link = like.link; port = like.port; salt = like.salt; read = ap (λ r. r ++ bytes) like.read }
      by_test false = like

gets_like : (link : LinkId) (count : ℕ) (x y : Client) → IsLike x y → IsLike (client_gets link count x) (client_gets link count y)
gets_like link count x y like =
    subst (λ l. IsLike (client_gets link count x) (if is_link_id l link then record y { written = y.written + count } else y)) (sym like.link) (by_test (is_link_id x.link link)) where
      by_test : (b : Bool) → IsLike (if b then record x { written = x.written + count } else x) (if b then record y { written = y.written + count } else y)
      by_test true = record { number = like.number; link = like.link; port = like.port; salt = like.salt; read = like.read }
      by_test false = like

-- The links and the clients of a log, by no plan.

module _ (setup : Setup) (plan : Plan) where
  abbrev bare_step : Tale → Entry → Tale
  bare_step tale e = record tale { clients = clients_by setup plan tale e; links = tale.links ++ opened_links (e ∷ []) }

  like_by : (bare tale : Tale) (e : Entry) → tale.links ≡ bare.links → AreLike bare.clients tale.clients
      → AreLike (clients_by setup plan bare e) (clients_by setup plan tale e)
  like_by bare tale (entry.Accepted port link salt) links like =
      like_comes bare.clients tale.clients (new_client (length bare.clients + 1) port link salt) (new_client (length tale.clients + 1) port link salt)
      (record { number = ap (λ n. record { 0 = n + 1 }) (like_length bare.clients tale.clients like); link = refl; port = refl; salt = refl; read = refl }) like
  like_by bare tale (entry.Got link bytes) links like =
      subst (λ ls. AreLike (clients_by setup plan bare (entry.Got link bytes)) (if list_any (is_link_id link) ls then tale.clients else map (client_hears link bytes) tale.clients)) (sym links)
      (by_test (is_to_server bare link)) where
        by_test : (b : Bool) → AreLike (if b then bare.clients else map (client_hears link bytes) bare.clients) (if b then tale.clients else map (client_hears link bytes) tale.clients)
        by_test true = like
        by_test false = like_map (client_hears link bytes) (hears_like link bytes) bare.clients tale.clients like
  like_by bare tale (entry.Wrote link tag bytes) links like =
      subst (λ ls. AreLike (clients_by setup plan bare (entry.Wrote link tag bytes)) (if list_any (is_link_id link) ls then tale.clients else map (client_gets link (length bytes)) tale.clients))
      (sym links) (by_test (is_to_server bare link)) where
        by_test : (b : Bool) → AreLike (if b then bare.clients else map (client_gets link (length bytes)) bare.clients) (if b then tale.clients else map (client_gets link (length bytes)) tale.clients)
        by_test true = like
        by_test false = like_map (client_gets link (length bytes)) (gets_like link (length bytes)) bare.clients tale.clients like
  like_by bare tale _ links like = like

abbrev any_plan : Fixed → Plan
any_plan fixed = plan_of (first_decided (service_of fixed.router) 1048576)

abbrev bare_next : Fixed → Tale → Entry → Tale
bare_next fixed = bare_step (setup_of fixed) (any_plan fixed)

abbrev bare_at : Fixed → Log → Tale
bare_at fixed log = fold (bare_next fixed) first_tale log

-- by whatever router, the tale has them
module _ (of other : Fixed) where
  record IsBare (bare : Tale) (log : Log) : Type 0 where
    pub links : (world_at other log).tale.links ≡ bare.links
    pub clients : AreLike bare.clients (world_at other log).tale.clients

  bare_one : (bare : Tale) (log : Log) (e : Entry) → IsBare bare log → IsBare (bare_next of bare e) (log ++ e ∷ [])
  bare_one bare log e was =
      let step = tale_so other log e in
      let w : Tale = (world_at other log).tale in
      record {
        links = links_at other log e ∙ ap (λ (l : List LinkId). l ++ opened_links (e ∷ [])) was.links;
        clients = subst (λ (t : Tale). AreLike (clients_by (setup_of of) (any_plan of) bare e) t.clients) (sym step.1)
            (like_on (clients_by (setup_of of) (any_plan of) bare e) (told (setup_of other) step.0 w e).clients (tale_step (setup_of other) step.0 w e).clients
            (subst (AreLike (clients_by (setup_of of) (any_plan of) bare e)) (sym (told_clients (setup_of other) step.0 w e)) (like_by (setup_of of) (any_plan of) bare w e was.links was.clients))
            (step_like (setup_of other) step.0 w e (numbered_at other log)));
      }

  bare_from : (bare : Tale) (before later : Log) → IsBare bare before → IsBare (fold (bare_next of) bare later) (before ++ later)
  bare_from bare before [] was = subst (IsBare bare) (sym (append-nil before)) was
  bare_from bare before (e ∷ later) was =
      subst (IsBare (fold (bare_next of) (bare_next of bare e) later)) (append_assoc before (e ∷ []) later)
      (bare_from (bare_next of bare e) (before ++ e ∷ []) later (bare_one bare before e was))

  bare_so : (log : Log) → IsBare (bare_at of log) log
  bare_so log = bare_from first_tale [] log (record { links = refl; clients = tt })

-- Accounts and places by the clients of a log.

module _ (fixed : Fixed) (log : Log) where
  abbrev seats : List Client
  seats = (bare_at fixed log).clients

  abbrev seat : ClientNo → Option Client
  seat c = find (λ (x : Client). is_client x.number c) seats

  abbrev service : Service
  service = service_of fixed.router

  abbrev place_by : Place → Opening → Place
  place_by other (Says switched response id rest) = first_place fixed.router response
  place_by other _ = other

  abbrev account_for : Account → Option Client → Account
  account_for other found = option_map_or (λ (x : Client). option_map_or (λ (login : Login). login_as login) (account (talk_by fixed service x)) other) found other

  abbrev place_for : Place → Option Client → Place
  place_for other found = option_map_or (λ (x : Client). place_by other (opening_of (talk_by fixed service x))) found other

  abbrev pub accounts_by : ClientNo → Account
  accounts_by c = account_for (fixed.accounts c) (seat c)

  abbrev pub places_by : ClientNo → Place
  places_by c = place_for (fixed.places c) (seat c)

  abbrev pub fitted : Fixed
  fitted = record fixed { accounts = accounts_by; places = places_by }

  number_from : (from : ℕ) (xs : List Client) (y : Client) → AreNumbered from xs → IsIn y xs → from ≤ y.number.0
  number_from from [] y are there = absurd there
  number_from from (x ∷ xs) y are (inl same) = let is : y.number.0 ≡ from = ap (λ (c : Client). c.number.0) same ∙ are.0 in omega arith
  number_from from (x ∷ xs) y are (inr there) = let later : suc from ≤ y.number.0 = number_from (suc from) xs y are.1 there in omega arith

  differs : (from : ℕ) (x : Client) (xs : List Client) (y : Client) → AreNumbered from (x ∷ xs) → IsIn y xs → is_client x.number y.number ≡ false
  differs from x xs y are there =
      let first : x.number.0 ≡ from = are.0 in
      let later : suc from ≤ y.number.0 = number_from (suc from) xs y are.1 there in
      ne_eqb x.number.0 y.number.0 (λ same. omega (arith, same, first, later))

  -- a client is found by its number
  find_later : (from : ℕ) (xs : List Client) (y : Client) → AreNumbered from xs → IsIn y xs → find (λ (x : Client). is_client x.number y.number) xs ≡ Some y
  find_later from [] y are there = absurd there
  find_later from (x ∷ xs) y are (inl same) =
      ap (λ b. cond b (Some x) (find (λ (c : Client). is_client c.number y.number) xs)) (ap (λ (c : Client). is_client x.number c.number) same ∙ same_number x.number.0) ∙ ap (λ c. Some c) (sym same)
  find_later from (x ∷ xs) y are (inr there) =
      ap (λ b. cond b (Some x) (find (λ (c : Client). is_client c.number y.number) xs)) (differs from x xs y are there) ∙ find_later (suc from) xs y are.1 there

  module _ (t : Terms) (accounts : t.decided.accounts ≡ accounts_by) (places : t.decided.places ≡ places_by) (same : (plan_in t).service ≡ service) (router : t.router ≡ fixed.router) where
    who_sits : (x : Client) → seat x.number ≡ Some x → (o : Opening) → opening_of (talk_of (plan_in t) x) ≡ o → IsWhoItSays t x o
    who_sits x found (Waits switched) is = tt
    who_sits x found (Fails switched fault id) is = tt
    who_sits x found (Says switched response id rest) is = λ login says. (
      ap (λ (f : ClientNo → Account). f x.number) accounts
          ∙ ap (account_for (fixed.accounts x.number)) found
          ∙ ap (λ a. option_map_or (λ (l : Login). login_as l) a (fixed.accounts x.number)) (ap (λ s. account (talk_by fixed s x)) (sym same) ∙ says),
      ap (λ (f : ClientNo → Place). f x.number) places
          ∙ ap (place_for (fixed.places x.number)) found
          ∙ ap (place_by (fixed.places x.number)) (ap (λ s. opening_of (talk_by fixed s x)) (sym same) ∙ is)
          ∙ ap (λ r. first_place r response) (sym router),
    )

  -- so clients are who they say

  each_like : (t : Terms) (xs ys : List Client) → AreLike xs ys → ((x : Client) → IsIn x xs → IsWho t x) → AllOf (IsWho t) ys
  each_like t [] [] like who = tt
  each_like t [] (y ∷ ys) like who = absurd like
  each_like t (x ∷ xs) [] like who = absurd like
  each_like t (x ∷ xs) (y ∷ ys) like who = (
    who_earlier t y x (record { number = sym like.0.number; port = sym like.0.port; salt = sym like.0.salt; more = []; read = sym like.0.read ∙ sym (append-nil y.read) }) (who x (inl refl)),
    each_like t xs ys like.1 (λ z there. who z (inr there)),
  )

  pub fits_so : AreWhoTheySay (final_terms fitted log) log
  fits_so =
      let t : Terms = final_terms fitted log in
      let bare : AreLike seats (world_at fitted log).tale.clients = (bare_so fixed fitted log).clients in
      let numbered : AreNumbered 1 seats = back_numbered 1 seats (world_at fitted log).tale.clients bare (numbered_at fitted log) in
      let whole : tale_at t log ≡ (world_at fitted log).tale =
      subst (λ l. tale_at (final_terms fitted l) log ≡ (world_at fitted log).tale) (append-nil log) (tale_then fitted log []) in
      subst (λ (x : Tale). All (IsWho t) x.clients) (sym whole)
      (all_from (IsWho t) (world_at fitted log).tale.clients
      (each_like t seats (world_at fitted log).tale.clients bare
      (λ x there. who_sits t refl refl (service_kept fitted log).0 refl x (find_later 1 seats x numbered there) (opening_of (talk_of (plan_in t) x)) refl)))
