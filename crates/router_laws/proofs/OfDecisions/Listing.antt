-- A log's tale has its entries, its links to servers in their order, and its clients.
use Rattle.std.specs.Prelude.{◌≡◌, ◌<◌, ◌+◌, ◌&&◌, ℕ, zero, suc, Bool, true, false, All, cond, fold, if◌then◌else◌, length, map, nat_lt, slice_get, List, [], ◌∷◌, ◌++◌, Option, Some, None}
use Rattle.std.specs.Option.{option_map_or}
use Rattle.std.proofs.Common.{refl, sym, ap, ◌∙◌, subst, arith, append-nil, length-append}
use Rattle.std.proofs.lemmas.Bool.{ltb-true}
use Rattle.std.proofs.lemmas.List.{length-map}
use Rattle.std.proofs.lemmas.List.Elements.{All-cons, All-head, All-nil, All-tail, All-weaker, filter-append, filter_map-append}
use Rattle.std.proofs.lemmas.List.Folds.{list_any_none}
use Rattle.std.proofs.lemmas.List.Sums.{fold-append}
use Rattle.mx_base.specs.declared.names.LinkId.{LinkId}
use Rattle.mx_wire.specs.Log.{Log, accepted_link, accepted_links, is_link, is_open, link_of, of_link, open_step, opened_link, opened_links}
use Rattle.mx_wire.specs.Moments.{AllLawful, lawful-each}
use Rattle.mx_wire.specs.Tells.{Fits, MayFollow, all_below, link_below}
use Rattle.mx_wire.specs.declared.entry.Entry.{Entry}
use Rattle.mx_wire.specs.declared.entry.Entry.TheVariants as entry
use Rattle.private_model.specs.Story.{Dropped, Gone, Left, Ran, is_link_id}
use Rattle.private_model.specs.View.{Setup, View}
use Rattle.log_story.proofs.Moving.{says-moved, writes-moved}
use Rattle.log_story.specs.Clients.{client_goes_on, client_leaves, clients_are_ended, clients_go_on, ended_if_now, taken_up}
use Rattle.log_story.specs.Headline.{tale_of}
use Rattle.log_story.specs.Owed.{messages}
use Rattle.log_story.specs.Plan.{Plan, is_now}
use Rattle.log_story.specs.Servers.{links_are_freed, writes}
use Rattle.log_story.specs.Tale.{Client, Tale, client_gets, client_hears, first_tale, is_to_server, new_client, tell, view_of, with_client}
use Rattle.log_story.specs.Telling.{is_lost_or_left, server_says, tale_step, told}
use Rattle.step_laws.proofs.Giving.{kept_in}
use Rattle.step_laws.proofs.Seating.{log_counted}
use Rattle.step_laws.proofs.Taking.{once_seats}
use Rattle.step_laws.specs.Freed.{Ascend}
use Rattle.step_laws.specs.Seats.{AreCounted}
use Rattle.step_laws.specs.Steps.{told_then}
use Rattle.step_laws.specs.Taken.{gone_on, is_called, next_made, next_of}
use Rattle.tale_world.proofs.Links.{log_links, step_of}
use Rattle.tale_world.proofs.Telling.{told_moment}
use Rattle.router_laws.proofs.OfDecisions.Fates.{false_true}
use Rattle.router_laws.specs.decisions.Deeds.{is_opened}
use Rattle.router_laws.specs.decisions.Links.{IsTaleOf, Rises}

-- How many clients there are.

module _ (setup : Setup) (plan : Plan) where
  abbrev Has : ℕ → Tale → Type 0
  Has size tale = length tale.clients ≡ size

  has_if : (size : ℕ) (b : Bool) (x y : Tale) → Has size x → Has size y → Has size (if b then x else y)
  has_if size true x y one other = one
  has_if size false x y one other = other

  has_same : (size : ℕ) (old new : Tale) → new.clients ≡ old.clients → Has size old → Has size new
  has_same size old new same has = ap (λ (xs : List Client). length xs) same ∙ has

  leaving_has : (link : LinkId) (size : ℕ) (xs : List Client) (tale : Tale) → Has size tale → Has size (fold (client_leaves link) tale xs)
  leaving_has link size [] tale has = has
  leaving_has link size (x ∷ xs) tale has =
      leaving_has link size xs (client_leaves link tale x) (has_if size (is_link_id x.link link) (tell (Left x.number) tale) tale has has)

  lost_has : (link : LinkId) (size : ℕ) (tale : Tale) → Has size tale → Has size (is_lost_or_left link tale)
  lost_has link size tale has =
      has_if size (is_to_server tale link) (tell (Gone link) tale) (fold (client_leaves link) tale tale.clients) has (leaving_has link size tale.clients tale has)

  mapped_has : (size : ℕ) (f : Client → Client) (tale : Tale) → Has size tale → Has size (record tale { clients = map f tale.clients })
  mapped_has size f tale has = length-map tale.clients f ∙ has

  told_has : (tale : Tale) (e : Entry) → Has (length tale.clients + length (accepted_links (e ∷ []))) (told setup plan tale e)
  told_has tale (entry.Accepted port link salt) = length-append tale.clients (new_client (length tale.clients + 1) port link salt ∷ [])
  told_has tale (entry.Got link bytes) =
      let size : ℕ = length tale.clients + 0 in
      let has : Has size tale = omega arith in
      has_if size (is_to_server tale link) (server_says setup plan link bytes tale) (record tale { clients = map (client_hears link bytes) tale.clients })
      (has_same size tale (server_says setup plan link bytes tale) (says-moved setup plan link bytes tale).clients has)
      (mapped_has size (client_hears link bytes) tale has)
  told_has tale (entry.Wrote link for bytes) =
      let size : ℕ = length tale.clients + 0 in
      let has : Has size tale = omega arith in
      has_if size (is_to_server tale link) (writes setup plan link for bytes (tale.wires link) tale) (record tale { clients = map (client_gets link (length bytes)) tale.clients })
      (has_same size tale (writes setup plan link for bytes (tale.wires link) tale) (writes-moved setup plan link for bytes tale).clients has)
      (mapped_has size (client_gets link (length bytes)) tale has)
  told_has tale (entry.Exec link) =
      let size : ℕ = length tale.clients + 0 in
      let has : Has size tale = omega arith in
      has_if size (tale.wires link).entered (tell (if (tale.wires link).quits then Dropped link else Ran link) tale) tale has has
  told_has tale (entry.Ended link) = lost_has link (length tale.clients + 0) tale (omega arith)
  told_has tale (entry.ReadFailed link) = lost_has link (length tale.clients + 0) tale (omega arith)
  told_has tale (entry.WriteFailed link) = lost_has link (length tale.clients + 0) tale (omega arith)
  told_has tale (entry.Closed link) = lost_has link (length tale.clients + 0) tale (omega arith)
  told_has tale _ = omega arith

  next_has : (size : ℕ) (client : Client) (tale : Tale) (found : Option Tale) → next_made setup plan client tale ≡ found → Has size tale
      → (others : Tale → Tale) → ((t : Tale) → Has size t → Has size (others t))
      → Has size (option_map_or (λ other. others (with_client (next_of client) other)) found tale)
  next_has size client tale None is has others goes = has
  next_has size client tale (Some other) is has others goes =
      goes (with_client (next_of client) other)
      (length-map other.clients _
      ∙ has_same size tale other (once_seats setup plan client (slice_get (messages plan client) client.taken) tale other is) has)

  taken_has : (size most : ℕ) (client : Client) (tale : Tale) → Has size tale → Has size (taken_up most setup plan client tale)
  taken_has size zero client tale has = has
  taken_has size (suc most) client tale has =
      next_has size client tale (next_made setup plan client tale) refl has (taken_up most setup plan (next_of client)) (taken_has size most (next_of client))

  going_has : (size : ℕ) (view : View) (e : Entry) (xs : List Client) (tale : Tale) → Has size tale → Has size (gone_on setup plan view e xs tale)
  going_has size view e [] tale has = has
  going_has size view e (x ∷ xs) tale has =
      going_has size view e xs (client_goes_on setup plan view e tale x)
      (has_if size (is_called plan tale.moment view e x) (taken_up (length (messages plan x)) setup plan x tale) tale
      (taken_has size (length (messages plan x)) x tale has) has)

  ending_has : (size : ℕ) (xs : List Client) (tale : Tale) → Has size tale → Has size (fold (ended_if_now plan) tale xs)
  ending_has size [] tale has = has
  ending_has size (x ∷ xs) tale has =
      ending_has size xs (ended_if_now plan tale x) (has_if size (is_now tale.moment (plan.ends x.number)) (tell (Left x.number) tale) tale has has)

  freed_has : (size : ℕ) (tale : Tale) → Has size tale → Has size (links_are_freed setup plan tale)
  freed_has size tale has =
      has_same size tale (links_are_freed setup plan tale) (kept_in setup plan (λ (t : Tale). t.clients) (λ story t. refl) tale.links tale) has

  step_has : (tale : Tale) (e : Entry) → Has (length tale.clients + length (accepted_links (e ∷ []))) (tale_step setup plan tale e)
  step_has tale e =
      let size : ℕ = length tale.clients + length (accepted_links (e ∷ [])) in
      let heard : Tale = told_then setup plan tale e in
      let freed : Tale = links_are_freed setup plan heard in
      let gone : Tale = clients_go_on setup plan (view_of setup tale) e freed in
      freed_has size (clients_are_ended plan gone) (ending_has size gone.clients gone
      (going_has size (view_of setup tale) e freed.clients freed (freed_has size heard (told_has tale e))))

  accepted_more : (e : Entry) (log : Log) → length (accepted_links (e ∷ log)) ≡ length (accepted_links (e ∷ [])) + length (accepted_links log)
  accepted_more e log =
      ap (λ (xs : List LinkId). length xs) (filter_map-append accepted_link (e ∷ []) log) ∙ length-append (accepted_links (e ∷ [])) (accepted_links log)

  log_has : (log : Log) (tale : Tale) → Has (length tale.clients + length (accepted_links log)) (fold (tale_step setup plan) tale log)
  log_has [] tale = omega arith
  log_has (e ∷ log) tale =
      let now : length (tale_step setup plan tale e).clients ≡ length tale.clients + length (accepted_links (e ∷ [])) = step_has tale e in
      let all : length (accepted_links (e ∷ log)) ≡ length (accepted_links (e ∷ [])) + length (accepted_links log) = accepted_more e log in
      log_has log (tale_step setup plan tale e) ∙ omega (arith, now, all)

  log_moment : (log : Log) (tale : Tale) → (fold (tale_step setup plan) tale log).moment ≡ tale.moment + length log
  log_moment [] tale = omega arith
  log_moment (e ∷ log) tale =
      let one : (tale_step setup plan tale e).moment ≡ suc (told setup plan tale e).moment =
      step_of (λ (t : Tale). t.moment) (λ story t. refl) (λ clients t. refl) setup plan tale e in
      let same : (told setup plan tale e).moment ≡ tale.moment = told_moment setup plan tale e in
      log_moment log (tale_step setup plan tale e) ∙ omega (arith, one, same)

  pub is_tale_of : (log : Log) → IsTaleOf log (tale_of setup plan log)
  is_tale_of log = record {
    moment = (let size : (tale_of setup plan log).moment ≡ 0 + length log = log_moment log first_tale in omega (arith, size));
    links = log_links setup plan log first_tale;
    clients = (let size : length (tale_of setup plan log).clients ≡ 0 + length (accepted_links log) = log_has log first_tale in omega (arith, size));
    counted = log_counted setup plan log first_tale tt;
  }

-- Links that are opened rise.

and_first : (a b : Bool) → (a && b) ≡ true → a ≡ true
and_first true b e = refl
and_first false b e = e

and_second : (a b : Bool) → (a && b) ≡ true → b ≡ true
and_second true b e = e
and_second false b e = false_true false refl e

abbrev Below : LinkId → LinkId → Type 0
Below x y = y.0 < x.0

abbrev pub rising : List LinkId → Type 0
rising xs = Ascend (λ (l : LinkId). l.0) xs

all_last : (P : LinkId → Type 0) (xs : List LinkId) (x : LinkId) → All P xs → P x → All P (xs ++ x ∷ [])
all_last P [] x all is = All-cons P x [] is (All-nil P)
all_last P (y ∷ ys) x all is = All-cons P y (ys ++ x ∷ []) (All-head P y ys all) (all_last P ys x (All-tail P y ys all) is)

ascend_last : (xs : List LinkId) (x : LinkId) → All (Below x) xs → rising xs → rising (xs ++ x ∷ [])
ascend_last [] x below rises = (All-nil (λ (y : LinkId). x.0 < y.0), tt)
ascend_last (y ∷ ys) x below rises = (
  all_last (λ (z : LinkId). y.0 < z.0) ys x rises.0 (All-head (Below x) y ys below),
  ascend_last ys x (All-tail (Below x) y ys below) rises.1,
)

pub opened_below : (log : Log) (x : LinkId) → all_below x.0 log ≡ true → All (Below x) (opened_links log)
opened_below [] x all = All-nil (Below x)
opened_below (entry.Opened server address link ∷ log) x all =
    All-cons (Below x) link (opened_links log) (ltb-true link.0 x.0 (and_first (nat_lt link.0 x.0) (all_below x.0 log) all))
    (opened_below log x (and_second (nat_lt link.0 x.0) (all_below x.0 log) all))
opened_below (e ∷ log) x all = opened_below log x (and_second (link_below x.0 (link_of e)) (all_below x.0 log) all)

pub opened_new : (log : Log) (x : LinkId) → all_below x.0 log ≡ true → is_opened x log ≡ false
opened_new log x all =
    list_any_none (is_link_id x) (opened_links log)
    (All-weaker (Below x) (λ (y : LinkId). is_link_id x y ≡ false) (λ y less. grind arith) (opened_links log) (opened_below log x all))

rises_by : (log : Log) (e : Entry) → Fits log e → Rises log → rising (opened_links log ++ opened_links (e ∷ []))
rises_by log (entry.Opened server address link) fits rises = ascend_last (opened_links log) link (opened_below log link fits.above) rises
rises_by log e fits rises = subst rising (sym (append-nil (opened_links log))) rises

rises_more : (log : Log) (e : Entry) → MayFollow log e → Rises log → Rises (log ++ e ∷ [])
rises_more log e may rises = subst rising (sym (filter_map-append opened_link log (e ∷ []))) (rises_by log e may.fits rises)

pub all_rise : (log : Log) → AllLawful MayFollow log → Rises log
all_rise log all = lawful-each MayFollow Rises log rises_more tt all

-- Clients' numbers are their places.
pub counted_below : (from : ℕ) (xs : List Client) → AreCounted from (map (λ (c : Client). c.number) xs)
    → All (λ (c : Client). c.number.0 < from + length xs) xs
counted_below from [] are = All-nil (λ (c : Client). c.number.0 < from + 0)
counted_below from (x ∷ xs) are =
    let first : x.number.0 ≡ from = are.0 in
    All-cons (λ (c : Client). c.number.0 < from + length (x ∷ xs)) x xs (omega (arith, first))
    (All-weaker (λ (c : Client). c.number.0 < suc from + length xs) (λ (c : Client). c.number.0 < from + length (x ∷ xs)) (λ c less. omega (arith, less)) xs
    (counted_below (suc from) xs are.1))

-- Which links are open.
pub open_with : (log : Log) (e : Entry) (l : LinkId)
    → is_open l (log ++ e ∷ []) ≡ (if is_link l (link_of e) then open_step (is_open l log) e else is_open l log)
open_with log e l =
    ap (fold open_step false) (filter-append (λ (x : Entry). is_link l (link_of x)) log (e ∷ []))
    ∙ fold-append open_step false (of_link l log) (of_link l (e ∷ []))
    ∙ by (is_link l (link_of e)) where
      by : (b : Bool) → fold open_step (is_open l log) (cond b (e ∷ []) []) ≡ (if b then open_step (is_open l log) e else is_open l log)
      by true = refl
      by false = refl
