-- Each client of a tale stands behind any entry as itself.
use Rattle.std.specs.Prelude.{◌≡◌, ◌⊎◌, ◌≤◌, ◌<◌, ◌+◌, ℕ, zero, suc, Bool, true, false, not, ◌&&◌, ◌||◌, All, fold, if◌then◌else◌, length, map, nat_eq, slice_get, slice_index_or, List, [], ◌∷◌, ◌++◌, Option, Some, None}
use Rattle.std.specs.List.{flat_map}
use Rattle.std.specs.Option.{option_map_or}
use Rattle.std.proofs.Common.{refl, sym, ap, ◌∙◌, subst, arith, append-nil, inl, inr}
use Rattle.std.proofs.lemmas.Bool.{false≢true, true≢false}
use Rattle.std.proofs.lemmas.List.Elements.{All-cons, All-head, All-nil, All-tail, All-weaker}
use Rattle.mx_base.specs.declared.names.LinkId.{LinkId}
use Rattle.mx_base.specs.declared.tag.Tag.{Tag}
use Rattle.mx_wire.specs.Log.{is_link, link_of, wrote_bytes}
use Rattle.mx_wire.specs.declared.entry.Entry.{Entry}
use Rattle.mx_wire.specs.declared.entry.Entry.TheVariants as entry
use Rattle.packet_frame.specs.Packets.{Framed}
use Rattle.private_model.proofs.Maps.{client_of, link_of as link_of_id}
use Rattle.private_model.specs.Commands.{Command}
use Rattle.private_model.specs.Names.{ClientNo, Hostgroup, MessageName}
use Rattle.private_model.specs.Story.{Dropped, Gone, Left, Ran, is_client, is_link_id}
use Rattle.private_model.specs.View.{Setup, View}
use Rattle.log_story.proofs.Moving.{says-moved, writes-moved}
use Rattle.log_story.specs.Clients.{client_goes_on, client_leaves, clients_are_ended, clients_go_on, copied, due_by, ended_if_now, is_event_of, is_up, next_taken, taken_by, taken_up}
use Rattle.log_story.specs.Executes.{Request, requested}
use Rattle.log_story.specs.Owed.{messages, name_of}
use Rattle.log_story.specs.Plan.{Plan, Route, com_reset, gives_up, is_before, is_now}
use Rattle.log_story.specs.Servers.{links_are_freed, writes}
use Rattle.log_story.specs.Tale.{Client, Tale, client_gets, client_hears, counted, is_to_server, new_client, tell, view_of, with_client}
use Rattle.log_story.specs.Telling.{is_lost_or_left, server_says, tale_step, told}
use Rattle.step_laws.proofs.Giving.{kept_in}
use Rattle.step_laws.proofs.Seating.{counted_seats, step_counted, told_counted}
use Rattle.step_laws.proofs.Taking.{once_seats}
use Rattle.step_laws.proofs.Telling.{told_spares}
use Rattle.step_laws.specs.Seats.{AreCounted, IsSeated, numbers}
use Rattle.step_laws.specs.Steps.{told_then}
use Rattle.core_laws.specs.entry.Dues.{written_by}
use Rattle.router_laws.specs.clients.Continues.{HasCome, IsContinued, IsThere, WasThere}

-- Lists of clients in which each stands for one of another list.

abbrev pub Pairs : (R : Client → Client → Type 0) → List Client → List Client → Type 0
Pairs R [] [] = Unit {0}
Pairs R [] (y ∷ ys) = ⊥
Pairs R (x ∷ xs) [] = ⊥
Pairs R (x ∷ xs) (y ∷ ys) = R x y × Pairs R xs ys

-- and some came behind them
abbrev pub Grow : (R : Client → Client → Type 0) → (N : Client → Type 0) → List Client → List Client → Type 0
Grow R N [] ys = All N ys
Grow R N (x ∷ xs) [] = ⊥
Grow R N (x ∷ xs) (y ∷ ys) = R x y × Grow R N xs ys

abbrev IsIn : Client → List Client → Type 0
IsIn y [] = ⊥
IsIn y (x ∷ xs) = (y ≡ x) ⊎ IsIn y xs

abbrev AllOf : (Client → Type 0) → List Client → Type 0
AllOf Q [] = Unit {0}
AllOf Q (x ∷ xs) = Q x × AllOf Q xs

all_in : (Q : Client → Type 0) (xs : List Client) → ((y : Client) → IsIn y xs → Q y) → AllOf Q xs
all_in Q [] each = tt
all_in Q (x ∷ xs) each = (each x (inl refl), all_in Q xs (λ y there. each y (inr there)))

abbrev all_numbers : List Client → List ClientNo
all_numbers xs = map (λ (c : Client). c.number) xs

number_from : (from : ℕ) (xs : List Client) (y : Client) → AreCounted from (all_numbers xs) → IsIn y xs → from ≤ y.number.0
number_from from [] y are there = absurd there
number_from from (x ∷ xs) y are (inl same) = let is : y.number.0 ≡ from = ap (λ (c : Client). c.number.0) same ∙ are.0 in omega (arith, is)
number_from from (x ∷ xs) y are (inr there) = let later : suc from ≤ y.number.0 = number_from (suc from) xs y are.1 there in omega (arith, later)

-- each of these is there, and each of those was, or came

module _ (R : Client → Client → Type 0) (N P Q : Client → Type 0) where
  pub grown_now : (xs ys : List Client) → Grow R N xs ys → All Q ys → All (λ (x : Client). (y : Client) × Q y × R x y) xs
  grown_now [] ys grows all = All-nil (λ (x : Client). (y : Client) × Q y × R x y)
  grown_now (x ∷ xs) [] grows all = absurd grows
  grown_now (x ∷ xs) (y ∷ ys) grows all =
      All-cons (λ (x : Client). (y : Client) × Q y × R x y) x xs (y, All-head Q y ys all, grows.0) (grown_now xs ys grows.1 (All-tail Q y ys all))

  came_all : (ys : List Client) → All N ys → All (λ (y : Client). ((x : Client) × P x × R x y) ⊎ N y) ys
  came_all ys all = λ k d within. inr (all k d within)

  pub grown_was : (xs ys : List Client) → Grow R N xs ys → All P xs → All (λ (y : Client). ((x : Client) × P x × R x y) ⊎ N y) ys
  grown_was [] ys grows all = came_all ys grows
  grown_was (x ∷ xs) [] grows all = absurd grows
  grown_was (x ∷ xs) (y ∷ ys) grows all =
      All-cons (λ (y : Client). ((x : Client) × P x × R x y) ⊎ N y) y ys (inl (x, All-head P x xs all, grows.0))
      (grown_was xs ys grows.1 (All-tail P x xs all))

-- Behind what an entry tells.

module _ (setup : Setup) (plan : Plan) (m : ℕ) where
  pub record IsLater (x y : Client) : Type 0 where
    pub number : y.number ≡ x.number
    pub link : y.link ≡ x.link
    pub port : y.port ≡ x.port
    pub salt : y.salt ≡ x.salt
    pub read : y.read ≡ x.read
    pub written : y.written ≡ x.written
    pub taken : x.taken ≤ y.taken
    pub over : is_before m (plan.ends x.number) ≡ true → y.taken ≡ x.taken

  later_itself : (x : Client) → IsLater x x
  later_itself x = record { number = refl; link = refl; port = refl; salt = refl; read = refl; written = refl; taken = omega arith; over = λ before. refl }

  abbrev Later : List Client → List Client → Type 0
  Later xs ys = Pairs IsLater xs ys

  later_all : (xs : List Client) → Later xs xs
  later_all [] = tt
  later_all (x ∷ xs) = (later_itself x, later_all xs)

  -- a client is later than each of its number
  abbrev Covers : Client → List Client → Type 0
  Covers client [] = Unit {0}
  Covers client (x ∷ xs) = (is_client x.number client.number ≡ true → IsLater x client) × Covers client xs

  covers_beyond : (from : ℕ) (xs : List Client) (y : Client) → AreCounted from (all_numbers xs) → y.number.0 < from → Covers y xs
  covers_beyond from [] y are less = tt
  covers_beyond from (x ∷ xs) y are less = (
    λ is. absurd (let same : x.number.0 ≡ y.number.0 = ap (λ (n : ClientNo). n.0) (client_of x.number y.number is) in
        let first : x.number.0 ≡ from = are.0 in omega (arith, same, first, less)),
    covers_beyond (suc from) xs y are.1 (omega (arith, less)),
  )

  covers_in : (from : ℕ) (xs : List Client) (y : Client) → AreCounted from (all_numbers xs) → IsIn y xs → Covers y xs
  covers_in from [] y are there = absurd there
  covers_in from (x ∷ xs) y are (inl same) = (
    λ is. subst (IsLater x) (sym same) (later_itself x),
    covers_beyond (suc from) xs y are.1 (let is : y.number.0 ≡ from = ap (λ (c : Client). c.number.0) same ∙ are.0 in omega (arith, is)),
  )
  covers_in from (x ∷ xs) y are (inr there) = (
    λ is. absurd (let same : x.number.0 ≡ y.number.0 = ap (λ (n : ClientNo). n.0) (client_of x.number y.number is) in
        let first : x.number.0 ≡ from = are.0 in
        let later : suc from ≤ y.number.0 = number_from (suc from) xs y are.1 there in omega (arith, same, first, later)),
    covers_in (suc from) xs y are.1 there,
  )

  abbrev onward : Client → Client
  onward client = record client { taken = suc client.taken }

  covers_next : (xs : List Client) (client : Client) → is_before m (plan.ends client.number) ≡ false → Covers client xs → Covers (onward client) xs
  covers_next [] client going covers = tt
  covers_next (x ∷ xs) client going covers = (
    λ is. let later : IsLater x client = covers.0 is in record {
      number = later.number;
      link = later.link;
      port = later.port;
      salt = later.salt;
      read = later.read;
      written = later.written;
      taken = let before : x.taken ≤ client.taken = later.taken in omega (arith, before);
      over = λ before. absurd (true≢false (sym before ∙ ap (λ n. is_before m (plan.ends n)) (sym later.number) ∙ going));
    },
    covers_next xs client going covers.1,
  )

  with_later : (xs ys : List Client) (client : Client) → Later xs ys → Covers client xs
      → Later xs (map (λ (other : Client). if is_client other.number client.number then client else other) ys)
  with_later [] [] client later covers = tt
  with_later [] (y ∷ ys) client later covers = absurd later
  with_later (x ∷ xs) [] client later covers = absurd later
  with_later (x ∷ xs) (y ∷ ys) client later covers = (by (is_client y.number client.number) refl, with_later xs ys client later.1 covers.1) where
    by : (b : Bool) → is_client y.number client.number ≡ b → IsLater x (if b then client else y)
    by true is = covers.0 (ap (λ n. is_client n client.number) (sym later.0.number) ∙ is)
    by false is = later.0

  -- the moment stays as messages are taken up

  either_moment : (b : Bool) (x y : Tale) (n : ℕ) → x.moment ≡ n → y.moment ≡ n → (if b then x else y).moment ≡ n
  either_moment true x y n one two = one
  either_moment false x y n one two = two

  copied_moment : (message : MessageName) (command : Command) (mirror : Option Hostgroup) (tale : Tale) → (copied message command mirror tale).moment ≡ tale.moment
  copied_moment message command None tale = refl
  copied_moment message command (Some hostgroup) tale = refl

  due_moment : (client : Client) (i : ℕ) (route : Route) (request : Option Request) (tale : Tale) → (due_by client i route request tale).moment ≡ tale.moment
  due_moment client i route None tale = refl
  due_moment client i route (Some request) tale = copied_moment (name_of client i) request.command route.mirror _

  taken_moment : (client : Client) (i : ℕ) (message : Framed) (route : Option Route) (tale : Tale) → (taken_by setup plan client i message route tale).moment ≡ tale.moment
  taken_moment client i message None tale =
      either_moment (nat_eq (slice_index_or message.payload 0 0) com_reset) (tell (Left client.number) tale) tale tale.moment refl refl
  taken_moment client i message (Some route) tale = due_moment client i route (requested setup (view_of setup tale) plan client i route message.payload) tale

  module _ (whole : List Client) where
    abbrev Has : Tale → Type 0
    Has tale = Later whole tale.clients × (tale.moment ≡ m)

    abbrev HasIn : Option Tale → Type 0
    HasIn None = Unit {0}
    HasIn (Some tale) = Has tale

    either_in : (b : Bool) (x y : Option Tale) → HasIn x → HasIn y → HasIn (if b then x else y)
    either_in true x y one two = one
    either_in false x y one two = two

    either_has : (b : Bool) (x y : Tale) → Has x → Has y → Has (if b then x else y)
    either_has true x y one two = one
    either_has false x y one two = two

    next_has : (client : Client) (found : Option Framed) (tale other : Tale) → next_taken setup plan client found tale ≡ Some other → Has tale → Has other
    next_has client found tale other is has = (
      subst (Later whole) (sym (once_seats setup plan client found tale other is)) has.0,
      moment_by found is ∙ has.1,
    ) where
      moment_in : Option Tale → Type 0
      moment_in None = Unit {0}
      moment_in (Some t) = t.moment ≡ tale.moment

      in_moment : (found : Option Framed) → moment_in (next_taken setup plan client found tale)
      in_moment None = tt
      in_moment (Some message) = by (is_up setup plan client tale) where
        by : (b : Bool) → moment_in (if b then Some (taken_by setup plan client (suc client.taken) message (plan.routes (name_of client (suc client.taken))) tale) else None)
        by true = taken_moment client (suc client.taken) message (plan.routes (name_of client (suc client.taken))) tale
        by false = tt

      moment_by : (found : Option Framed) → next_taken setup plan client found tale ≡ Some other → other.moment ≡ tale.moment
      moment_by found is = subst moment_in is (in_moment found)

    up_has : (most : ℕ) (client : Client) (tale : Tale) → is_before m (plan.ends client.number) ≡ false → Covers client whole → Has tale
        → Has (taken_up most setup plan client tale)
    up_has zero client tale going covers has = has
    up_has (suc most) client tale going covers has =
        by (next_taken setup plan client (slice_get (messages plan client) client.taken) tale) refl
        (λ other in_it. up_has most (onward client) (with_client (onward client) other) going (covers_next whole client going covers) in_it) where
          by : (found : Option Tale) → next_taken setup plan client (slice_get (messages plan client) client.taken) tale ≡ found
              → ((other : Tale) → Has (with_client (onward client) other) → Has (taken_up most setup plan (onward client) (with_client (onward client) other)))
              → Has (option_map_or (λ other. taken_up most setup plan (onward client) (with_client (onward client) other)) found tale)
          by None is later = has
          by (Some other) is later =
              let in_it : Has other = next_has client (slice_get (messages plan client) client.taken) tale other is has in
              later other (with_later whole other.clients (onward client) in_it.0 (covers_next whole client going covers), in_it.1)

    going_has : (view : View) (e : Entry) (xs : List Client) (tale : Tale) → AllOf (λ (x : Client). Covers x whole) xs → Has tale
        → Has (fold (client_goes_on setup plan view e) tale xs)
    going_has view e [] tale all has = has
    going_has view e (x ∷ xs) tale all has = going_has view e xs (client_goes_on setup plan view e tale x) all.1 (by (is_before m (plan.ends x.number)) refl) where
      passed : (called : Bool) → Has (if called && false then taken_up (length (messages plan x)) setup plan x tale else tale)
      passed true = has
      passed false = has

      by : (b : Bool) → is_before m (plan.ends x.number) ≡ b → Has (client_goes_on setup plan view e tale x)
      by true before =
          subst (λ (t : Bool). Has (if (is_event_of view x e || gives_up plan tale.moment (name_of x x.taken)) && not t then taken_up (length (messages plan x)) setup plan x tale else tale))
          (sym (ap (λ n. is_before n (plan.ends x.number)) has.1 ∙ before))
          (passed (is_event_of view x e || gives_up plan tale.moment (name_of x x.taken)))
      by false going =
          either_has ((is_event_of view x e || gives_up plan tale.moment (name_of x x.taken)) && not (is_before tale.moment (plan.ends x.number)))
          (taken_up (length (messages plan x)) setup plan x tale) tale
          (up_has (length (messages plan x)) x tale going all.0 has) has

-- By an entry.

module _ (setup : Setup) (plan : Plan) where
  ending_clients : (xs : List Client) (tale : Tale) → (fold (ended_if_now plan) tale xs).clients ≡ tale.clients
  ending_clients [] tale = refl
  ending_clients (x ∷ xs) tale = ending_clients xs (ended_if_now plan tale x) ∙ by (is_now tale.moment (plan.ends x.number)) where
    by : (b : Bool) → (if b then tell (Left x.number) tale else tale).clients ≡ tale.clients
    by true = refl
    by false = refl

  freeing_clients : (tale : Tale) → (links_are_freed setup plan tale).clients ≡ tale.clients
  freeing_clients tale = kept_in setup plan (λ (t : Tale). t.clients) (λ story t. refl) tale.links tale

  module _ (tale : Tale) (e : Entry) (are : AreCounted 1 (numbers tale)) where
    abbrev heard : Tale
    heard = told setup plan tale e

    abbrev freed : Tale
    freed = links_are_freed setup plan (counted heard)

    abbrev gone : Tale
    gone = clients_go_on setup plan (view_of setup tale) e freed

    moment_so : freed.moment ≡ suc tale.moment
    moment_so =
        kept_in setup plan (λ (t : Tale). t.moment) (λ story t. refl) (counted heard).links (counted heard)
        ∙ ap suc (told_spares setup plan tale e).moment

    pub step_later : Pairs (IsLater setup plan (suc tale.moment)) heard.clients (tale_step setup plan tale e).clients
    step_later =
        let xs : List Client = heard.clients in
        let all : AllOf (λ (x : Client). Covers setup plan (suc tale.moment) x xs) xs =
        all_in (λ (x : Client). Covers setup plan (suc tale.moment) x xs) xs
        (λ y there. covers_in setup plan (suc tale.moment) 1 xs y (told_counted setup plan tale e are) there) in
        let ended : Tale = clients_are_ended plan gone in
        subst (Pairs (IsLater setup plan (suc tale.moment)) xs) (sym (freeing_clients ended ∙ ending_clients gone.clients gone))
        (going_has setup plan (suc tale.moment) xs (view_of setup tale) e freed.clients freed
        (subst (AllOf (λ (x : Client). Covers setup plan (suc tale.moment) x xs)) (sym (freeing_clients (counted heard))) all) (
          subst (Pairs (IsLater setup plan (suc tale.moment)) xs) (sym (freeing_clients (counted heard))) (later_all setup plan (suc tale.moment) xs),
          moment_so,
        )).0

  -- As it is told.

  abbrev pub by_entry : Tale → Entry → Client → Client
  by_entry tale (entry.Got link bytes) x = if is_to_server tale link then x else client_hears link bytes x
  by_entry tale (entry.Wrote link tag bytes) x = if is_to_server tale link then x else client_gets link (length bytes) x
  by_entry tale _ x = x

  abbrev pub newcomers : Tale → Entry → List Client
  newcomers tale (entry.Accepted port link salt) = new_client (length tale.clients + 1) port link salt ∷ []
  newcomers tale _ = []

  map_same : (f : Client → Client) → ((x : Client) → f x ≡ x) → (xs : List Client) → map f xs ≡ xs
  map_same f same [] = refl
  map_same f same (x ∷ xs) = λ i. same x i ∷ map_same f same xs i

  plain : (xs ys : List Client) → ys ≡ xs → ys ≡ map (λ (x : Client). x) xs ++ []
  plain xs ys same = same ∙ sym (map_same (λ (x : Client). x) (λ x. refl) xs) ∙ sym (append-nil (map (λ (x : Client). x) xs))

  same_clients : (b : Bool) (x y : Tale) (a : List Client) → x.clients ≡ a → y.clients ≡ a → (if b then x else y).clients ≡ a
  same_clients true x y a one two = one
  same_clients false x y a one two = two

  leaving_clients : (link : LinkId) (xs : List Client) (tale : Tale) → (fold (client_leaves link) tale xs).clients ≡ tale.clients
  leaving_clients link [] tale = refl
  leaving_clients link (x ∷ xs) tale =
      leaving_clients link xs (client_leaves link tale x)
      ∙ same_clients (is_link_id x.link link) (tell (Left x.number) tale) tale tale.clients refl refl

  losing : (link : LinkId) (tale : Tale) → (is_lost_or_left link tale).clients ≡ map (λ (x : Client). x) tale.clients ++ []
  losing link tale =
      plain tale.clients (is_lost_or_left link tale).clients
      (same_clients (is_to_server tale link) (tell (Gone link) tale) (fold (client_leaves link) tale tale.clients) tale.clients refl
      (leaving_clients link tale.clients tale))

  by_server : (f : Client → Client) (b : Bool) (x y : Tale) (xs : List Client) → x.clients ≡ xs → y.clients ≡ map f xs
      → (if b then x else y).clients ≡ map (λ (c : Client). if b then c else f c) xs ++ []
  by_server f true x y xs one two = plain xs x.clients one
  by_server f false x y xs one two = two ∙ sym (append-nil (map f xs))

  pub told_is : (tale : Tale) (e : Entry) → (told setup plan tale e).clients ≡ map (by_entry tale e) tale.clients ++ newcomers tale e
  told_is tale (entry.Accepted port link salt) =
      ap (λ (xs : List Client). xs ++ new_client (length tale.clients + 1) port link salt ∷ []) (sym (map_same (λ (x : Client). x) (λ x. refl) tale.clients))
  told_is tale (entry.Got link bytes) =
      by_server (client_hears link bytes) (is_to_server tale link) (server_says setup plan link bytes tale)
      (record tale { clients = map (client_hears link bytes) tale.clients }) tale.clients (says-moved setup plan link bytes tale).clients refl
  told_is tale (entry.Wrote link tag bytes) =
      by_server (client_gets link (length bytes)) (is_to_server tale link) (writes setup plan link tag bytes (tale.wires link) tale)
      (record tale { clients = map (client_gets link (length bytes)) tale.clients }) tale.clients (writes-moved setup plan link tag bytes tale).clients refl
  told_is tale (entry.Exec link) =
      plain tale.clients (told setup plan tale (entry.Exec link)).clients
      (same_clients (tale.wires link).entered (tell (if (tale.wires link).quits then Dropped link else Ran link) tale) tale tale.clients refl refl)
  told_is tale (entry.Ended link) = losing link tale
  told_is tale (entry.ReadFailed link) = losing link tale
  told_is tale (entry.WriteFailed link) = losing link tale
  told_is tale (entry.Closed link) = losing link tale
  told_is tale _ = plain tale.clients tale.clients refl

  -- what the entry writes on a client's link

  none_by : (e : Entry) → wrote_bytes e ≡ [] → (b : Bool) → flat_map wrote_bytes (if b then e ∷ [] else []) ≡ []
  none_by e none true = ap (λ (xs : List ℕ). xs ++ []) none
  none_by e none false = refl

  count_none : (e : Entry) (l : LinkId) (n : ℕ) → written_by l e ≡ [] → n ≡ n + length (written_by l e)
  count_none e l n none = let size : length (written_by l e) ≡ 0 = ap (λ (xs : List ℕ). length xs) none in omega (arith, size)

  module _ (tale : Tale) (e : Entry) (x z : Client) where
    plainly : IsLater setup plan (suc tale.moment) x z → (is_to_server tale x.link ≡ false → written_by x.link e ≡ []) → IsContinued plan tale e x z
    plainly later none = record {
      number = later.number;
      link = later.link;
      port = later.port;
      salt = later.salt;
      more = [];
      read = later.read ∙ sym (append-nil x.read);
      kept = λ unread. later.read;
      taken = later.taken;
      over = later.over;
      written = λ aside. later.written ∙ count_none e x.link x.written (none aside);
    }

    plainly_of : wrote_bytes e ≡ [] → IsLater setup plan (suc tale.moment) x z → IsContinued plan tale e x z
    plainly_of none later = plainly later (λ aside. none_by e none (is_link x.link (link_of e)))

  hears_on : (tale : Tale) (link : LinkId) (bytes : List ℕ) (x z : Client)
      → IsLater setup plan (suc tale.moment) (by_entry tale (entry.Got link bytes) x) z → IsContinued plan tale (entry.Got link bytes) x z
  hears_on tale link bytes x z = by (is_to_server tale link) (is_link_id x.link link) refl where
    by : (a b : Bool) → is_link_id x.link link ≡ b
        → IsLater setup plan (suc tale.moment) (if a then x else (if b then record x { read = x.read ++ bytes } else x)) z
        → IsContinued plan tale (entry.Got link bytes) x z
    by true b its later = plainly_of tale (entry.Got link bytes) x z refl later
    by false false its later = plainly_of tale (entry.Got link bytes) x z refl later
    by false true its later = record {
      number = later.number;
      link = later.link;
      port = later.port;
      salt = later.salt;
      more = bytes;
      read = later.read;
      kept = λ unread. absurd (true≢false (sym its ∙ unread));
      taken = later.taken;
      over = later.over;
      written = λ aside. later.written
          ∙ count_none (entry.Got link bytes) x.link x.written (none_by (entry.Got link bytes) refl (is_link x.link (Some link)));
    }

  gets_on : (tale : Tale) (link : LinkId) (tag : Tag) (bytes : List ℕ) (x z : Client)
      → IsLater setup plan (suc tale.moment) (by_entry tale (entry.Wrote link tag bytes) x) z → IsContinued plan tale (entry.Wrote link tag bytes) x z
  gets_on tale link tag bytes x z = by (is_to_server tale link) refl (is_link_id x.link link) refl where
    aside_none : is_link_id x.link link ≡ false → written_by x.link (entry.Wrote link tag bytes) ≡ []
    aside_none aside = ap (λ (b : Bool). flat_map wrote_bytes (if b then entry.Wrote link tag bytes ∷ [] else [])) aside

    by : (a : Bool) → is_to_server tale link ≡ a → (b : Bool) → is_link_id x.link link ≡ b
        → IsLater setup plan (suc tale.moment) (if a then x else (if b then record x { written = x.written + length bytes } else x)) z
        → IsContinued plan tale (entry.Wrote link tag bytes) x z
    by true server false its later = plainly tale (entry.Wrote link tag bytes) x z later (λ aside. aside_none its)
    by true server true its later =
        plainly tale (entry.Wrote link tag bytes) x z later
        (λ aside. absurd (true≢false (sym server ∙ ap (is_to_server tale) (sym (link_of_id x.link link its)) ∙ aside)))
    by false client false its later = plainly tale (entry.Wrote link tag bytes) x z later (λ aside. aside_none its)
    by false client true its later = record {
      number = later.number;
      link = later.link;
      port = later.port;
      salt = later.salt;
      more = [];
      read = later.read ∙ sym (append-nil x.read);
      kept = λ unread. later.read;
      taken = later.taken;
      over = later.over;
      written = λ aside. later.written
          ∙ ap (λ (xs : List ℕ). x.written + length xs)
          (sym (ap (λ (b : Bool). flat_map wrote_bytes (if b then entry.Wrote link tag bytes ∷ [] else [])) its ∙ append-nil bytes));
    }

  continued : (tale : Tale) (e : Entry) (x z : Client) → IsLater setup plan (suc tale.moment) (by_entry tale e x) z → IsContinued plan tale e x z
  continued tale (entry.Got link bytes) x z later = hears_on tale link bytes x z later
  continued tale (entry.Wrote link tag bytes) x z later = gets_on tale link tag bytes x z later
  continued tale e x z later = plainly_of tale e x z refl later

  -- and who came

  come_all : (tale : Tale) (e : Entry) (ws : List Client) → Pairs (IsLater setup plan (suc tale.moment)) (newcomers tale e) ws → All (HasCome tale e) ws
  come_all tale (entry.Accepted port link salt) [] later = absurd later
  come_all tale (entry.Accepted port link salt) (w ∷ []) later =
      All-cons (HasCome tale (entry.Accepted port link salt)) w []
      (record { number = later.0.number; link = later.0.link; written = later.0.written }) (All-nil (HasCome tale (entry.Accepted port link salt)))
  come_all tale (entry.Accepted port link salt) (w ∷ v ∷ ws) later = absurd later.1
  come_all tale e [] later = All-nil (HasCome tale e)
  come_all tale e (w ∷ ws) later = absurd later

  module _ (tale : Tale) (e : Entry) (are : AreCounted 1 (numbers tale)) where
    abbrev new : Tale
    new = tale_step setup plan tale e

    grow : (xs zs : List Client) → Pairs (IsLater setup plan (suc tale.moment)) (map (by_entry tale e) xs ++ newcomers tale e) zs
        → Grow (IsContinued plan tale e) (HasCome tale e) xs zs
    grow [] zs later = come_all tale e zs later
    grow (x ∷ xs) [] later = absurd later
    grow (x ∷ xs) (z ∷ zs) later = (continued tale e x z later.0, grow xs zs later.1)

    grows : Grow (IsContinued plan tale e) (HasCome tale e) tale.clients new.clients
    grows =
        grow tale.clients new.clients
        (subst (λ (xs : List Client). Pairs (IsLater setup plan (suc tale.moment)) xs new.clients) (told_is tale e) (step_later tale e are))

    pub all_there : All (IsThere plan tale e new) tale.clients
    all_there =
        All-weaker (λ (x : Client). (z : Client) × IsSeated new z × IsContinued plan tale e x z) (IsThere plan tale e new)
        (λ x found. record { now = found.0; seated = found.1; continued = found.2 }) tale.clients
        (grown_now (IsContinued plan tale e) (HasCome tale e) (IsSeated tale) (IsSeated new) tale.clients new.clients grows
        (counted_seats new (step_counted setup plan tale e are)))

    pub all_were : All (λ (z : Client). WasThere plan tale e z ⊎ HasCome tale e z) new.clients
    all_were =
        All-weaker (λ (z : Client). ((x : Client) × IsSeated tale x × IsContinued plan tale e x z) ⊎ HasCome tale e z)
        (λ (z : Client). WasThere plan tale e z ⊎ HasCome tale e z) was new.clients
        (grown_was (IsContinued plan tale e) (HasCome tale e) (IsSeated tale) (IsSeated new) tale.clients new.clients grows (counted_seats tale are)) where
          was : (z : Client) → ((x : Client) × IsSeated tale x × IsContinued plan tale e x z) ⊎ HasCome tale e z → WasThere plan tale e z ⊎ HasCome tale e z
          was z (inl found) = inl (record { was = found.0; seated = found.1; continued = found.2 })
          was z (inr come) = inr come
