-- Of each client of the tale it is decided where its messages so far went, and whether the router answered them.
use Rattle.std.specs.Prelude.{◌≡◌, ◌+◌, ◌≤◌, ℕ, zero, suc, Bool, true, false, ◌&&◌, fold, is_some, length, map, slice_get, if◌then◌else◌, All, List, [], ◌∷◌, ◌++◌, Option, Some, None}
use Rattle.std.specs.Option.{option_map_or}
use Rattle.std.proofs.Common.{refl, sym, ap, ◌∙◌, subst, arith, inl, inr}
use Rattle.std.proofs.lemmas.Bool.{cases_eq}
use Rattle.mx_base.specs.declared.names.LinkId.{LinkId}
use Rattle.mx_base.specs.declared.tag.Tag.{Tag}
use Rattle.mx_wire.specs.Log.{Log}
use Rattle.mx_wire.specs.declared.entry.Entry.{Entry}
use Rattle.mx_wire.specs.declared.entry.Entry.TheVariants as entry
use Rattle.packet_frame.specs.Packets.{Framed}
use Rattle.private_model.proofs.Maps.{same_message}
use Rattle.private_model.specs.Names.{MessageName}
use Rattle.private_model.specs.Story.{Dropped, Freed, Gone, Left, Ran, is_client, is_link_id, is_message}
use Rattle.private_model.specs.View.{Setup, View}
use Rattle.log_story.proofs.Moving.{says-moved, taken-moved, writes-moved}
use Rattle.log_story.specs.Clients.{client_leaves, ended_if_now, next_taken, taken_by}
use Rattle.log_story.specs.Clients as clients
use Rattle.log_story.specs.Owed.{messages, name_of}
use Rattle.log_story.specs.Plan.{OwnAnswer, Plan, is_now}
use Rattle.log_story.specs.Servers.{is_done, writes}
use Rattle.log_story.specs.Tale.{Client, Tale, client_gets, client_hears, is_to_server, link_in, new_client, tell, view_of, with_client}
use Rattle.log_story.specs.Telling.{server_says, told}
use Rattle.tale_world.specs.Decided.{Decided, IsMore, plan_of}
use Rattle.tale_world.specs.Deciding.{Deciding, World}
use Rattle.tale_world.specs.Served.{SameFor}
use Rattle.tale_world.specs.World.{are_freed, are_taken, decided_by_now, decided_freed, decided_last, decided_looked, decided_next, freed_there, given_up, go_on, goes_on}
use Rattle.tale_world.specs.World.{is_called, is_counted, is_ended, is_told, is_up, next_message, next_of, taken_once, with_route, with_taken, world_step}
use Rattle.tale_world.proofs.Agreeing.{agrees-itself, agrees-less, filled-kept, filled-there, more-refl}
use Rattle.tale_world.proofs.Following.{are_freed_follows, goes_on_follows, looked_same, next-more, since-looked, step_even, told-more}
use Rattle.tale_world.proofs.Looking.{same_messages, same_up}
use Rattle.shared_router.specs.Fixed.{Fixed, setup_of}
use Rattle.shared_router.specs.Judged.{heard}
use Rattle.shared_router.specs.More.{More}
use Rattle.shared_router.specs.Shared.{shared, world_at}
use Rattle.shared_router.proofs.Parting as parting
use Rattle.shared_router.proofs.Parting.{next}
use Rattle.shared_router.proofs.Since.{heard-closed}
use Rattle.mx_base.specs.declared.names.Port.{Port}

-- P of each, by recursion

abbrev pub Each : {A : Type 0} → (A → Type 0) → List A → Type 0
Each P [] = Unit {0}
Each P (x ∷ xs) = P x × Each P xs

pub each-all : {A : Type 0} (P : A → Type 0) (xs : List A) → Each P xs → All P xs
each-all P [] each k d within = absurd (omega (arith, within))
each-all P (x ∷ xs) each zero d within = each.0
each-all P (x ∷ xs) each (suc k) d within = each-all P xs each.1 k d (omega (arith, within))

pub each-so : {A : Type 0} (P Q : A → Type 0) (xs : List A) → ((x : A) → P x → Q x) → Each P xs → Each Q xs
each-so P Q [] so each = tt
each-so P Q (x ∷ xs) so each = (so x each.0, each-so P Q xs so each.1)

pub each-map : {A : Type 0} (P Q : A → Type 0) (f : A → A) (xs : List A) → ((x : A) → P x → Q (f x)) → Each P xs → Each Q (map f xs)
each-map P Q f [] so each = tt
each-map P Q f (x ∷ xs) so each = (so x each.0, each-map P Q f xs so each.1)

pub each-last : {A : Type 0} (P : A → Type 0) (xs : List A) (y : A) → Each P xs → P y → Each P (xs ++ y ∷ [])
each-last P [] y each last = (last, tt)
each-last P (x ∷ xs) y each last = (each.0, each-last P xs y each.1 last)

abbrev pub Has : {A : Type 0} → Option A → Type 0
Has {A} o = (x : A) × (o ≡ Some x)

pub record IsLooked (d : Decided) (client : Client) : Type 0 where
  pub own : (i : ℕ) → suc i ≤ client.taken → Has (d.own (name_of client (suc i)))
  pub routes : (i : ℕ) → suc i ≤ client.taken → Has (d.routes (name_of client (suc i)))

abbrev pub AreLooked : Decided → List Client → Type 0
AreLooked d clients = Each (IsLooked d) clients

looked-more : (old new : Decided) → IsMore old new → (client : Client) → IsLooked old client → IsLooked new client
looked-more old new more client looked = record {
  own = λ i below. let was = looked.own i below in (was.0, more.own (name_of client (suc i)) was.0 was.1);
  routes = λ i below. let was = looked.routes i below in (was.0, more.routes (name_of client (suc i)) was.0 was.1);
}

are-more : (old new : Decided) → IsMore old new → (xs : List Client) → AreLooked old xs → AreLooked new xs
are-more old new more xs looked = each-so (IsLooked old) (IsLooked new) xs (looked-more old new more) looked

-- who is new has asked nothing
new-looked : (d : Decided) (number : ℕ) (port : Port) (link : LinkId) (salt : List ℕ) → IsLooked d (new_client number port link salt)
new-looked d number port link salt = record {
  own = λ i below. absurd (omega (arith, below));
  routes = λ i below. absurd (omega (arith, below));
}

either-looked : (d : Decided) (b : Bool) (x y : Client) → IsLooked d x → IsLooked d y → IsLooked d (if b then x else y)
either-looked d true x y one other = one
either-looked d false x y one other = other

-- What an entry tells of clients.

either-clients : (b : Bool) (x y : Tale) (cs : List Client) → x.clients ≡ cs → y.clients ≡ cs → (if b then x else y).clients ≡ cs
either-clients true x y cs one other = one
either-clients false x y cs one other = other

leaves-clients : (link : LinkId) (xs : List Client) (tale : Tale) → (fold (client_leaves link) tale xs).clients ≡ tale.clients
leaves-clients link [] tale = refl
leaves-clients link (x ∷ xs) tale =
    leaves-clients link xs (client_leaves link tale x) ∙ either-clients (is_link_id x.link link) (tell (Left x.number) tale) tale tale.clients refl refl

lost-clients : (link : LinkId) (tale : Tale) (b : Bool) → (if b then tell (Gone link) tale else fold (client_leaves link) tale tale.clients).clients ≡ tale.clients
lost-clients link tale true = refl
lost-clients link tale false = leaves-clients link tale.clients tale

-- a fact of the clients of a tale that new ones, bytes of them and bytes to them keep
pub record Seats (Comes : LinkId → Type 0) (P : List Client → Type 0) : Type 0 where
  pub comes : (cs : List Client) (port : Port) (link : LinkId) (salt : List ℕ) → Comes link → P cs → P (cs ++ new_client (length cs + 1) port link salt ∷ [])
  pub hears : (cs : List Client) (link : LinkId) (bytes : List ℕ) → P cs → P (map (client_hears link bytes) cs)
  pub gets : (cs : List Client) (link : LinkId) (count : ℕ) → P cs → P (map (client_gets link count) cs)

-- any may come
abbrev pub anybody : LinkId → Type 0
anybody link = Unit {0}

abbrev pub IfComes : (LinkId → Type 0) → Entry → Type 0
IfComes Comes (entry.Accepted port link salt) = Comes link
IfComes Comes _ = Unit {0}

pub if-anybody : (e : Entry) → IfComes anybody e
if-anybody (entry.Accepted port link salt) = tt
if-anybody _ = tt

module _ (Comes : LinkId → Type 0) (P : List Client → Type 0) (seats : Seats Comes P) (setup : Setup) (p : Plan) where
  got-told : (tale : Tale) (link : LinkId) (bytes : List ℕ) (b : Bool) → P tale.clients
      → P (if b then server_says setup p link bytes tale else record tale { clients = map (client_hears link bytes) tale.clients }).clients
  got-told tale link bytes true holds = subst P (sym (says-moved setup p link bytes tale).clients) holds
  got-told tale link bytes false holds = seats.hears tale.clients link bytes holds

  wrote-told : (tale : Tale) (link : LinkId) (for : Tag) (bytes : List ℕ) (b : Bool) → P tale.clients
      → P (if b then writes setup p link for bytes (tale.wires link) tale else record tale { clients = map (client_gets link (length bytes)) tale.clients }).clients
  wrote-told tale link for bytes true holds = subst P (sym (writes-moved setup p link for bytes tale).clients) holds
  wrote-told tale link for bytes false holds = seats.gets tale.clients link (length bytes) holds

  pub told-seats : (tale : Tale) (e : Entry) → IfComes Comes e → P tale.clients → P (told setup p tale e).clients
  told-seats tale (entry.Accepted port link salt) comes holds = seats.comes tale.clients port link salt comes holds
  told-seats tale (entry.Got link bytes) comes holds = got-told tale link bytes (is_to_server tale link) holds
  told-seats tale (entry.Wrote link for bytes) comes holds = wrote-told tale link for bytes (is_to_server tale link) holds
  told-seats tale (entry.Exec link) comes holds =
      subst P (sym (either-clients (tale.wires link).entered (tell (if (tale.wires link).quits then Dropped link else Ran link) tale) tale tale.clients refl refl)) holds
  told-seats tale (entry.Ended link) comes holds = subst P (sym (lost-clients link tale (is_to_server tale link))) holds
  told-seats tale (entry.ReadFailed link) comes holds = subst P (sym (lost-clients link tale (is_to_server tale link))) holds
  told-seats tale (entry.WriteFailed link) comes holds = subst P (sym (lost-clients link tale (is_to_server tale link))) holds
  told-seats tale (entry.Closed link) comes holds = subst P (sym (lost-clients link tale (is_to_server tale link))) holds
  told-seats tale _ comes holds = holds

heard-looked : (d : Decided) (link : LinkId) (bytes : List ℕ) (client : Client) → IsLooked d client → IsLooked d (client_hears link bytes client)
heard-looked d link bytes client looked =
    either-looked d (is_link_id client.link link) (record client { read = client.read ++ bytes }) client (record { own = looked.own; routes = looked.routes }) looked

got-looked : (d : Decided) (link : LinkId) (count : ℕ) (client : Client) → IsLooked d client → IsLooked d (client_gets link count client)
got-looked d link count client looked =
    either-looked d (is_link_id client.link link) (record client { written = client.written + count }) client (record { own = looked.own; routes = looked.routes }) looked

looked-seats : (d : Decided) → Seats anybody (AreLooked d)
looked-seats d = record {
  comes = λ cs port link salt comes all. each-last (IsLooked d) cs (new_client (length cs + 1) port link salt) all (new-looked d (length cs + 1) port link salt);
  hears = λ cs link bytes all. each-map (IsLooked d) (IsLooked d) (client_hears link bytes) cs (heard-looked d link bytes) all;
  gets = λ cs link count all. each-map (IsLooked d) (IsLooked d) (client_gets link count) cs (got-looked d link count) all;
}

given-has : (moment : ℕ) (payloads : Option (List (List ℕ))) (own : Option (Option OwnAnswer)) → Has own → Has (given_up moment payloads own)
given-has moment None own has = has
given-has moment (Some payloads) None has = absurd (cc (has.1))
given-has moment (Some payloads) (Some None) has = (_, refl)
given-has moment (Some payloads) (Some (Some answer)) has = (_, refl)

pub ending-clients : (p : Plan) (xs : List Client) (tale : Tale) → (fold (ended_if_now p) tale xs).clients ≡ tale.clients
ending-clients p [] tale = refl
ending-clients p (x ∷ xs) tale =
    ending-clients p xs (ended_if_now p tale x) ∙ either-clients (is_now tale.moment (p.ends x.number)) (tell (Left x.number) tale) tale tale.clients refl refl

-- what is taken up leaves the clients

some-same : {A : Type 0} (a b : A) → Some a ≡ Some b → a ≡ b
some-same a b is = cc

pub taken-clients : (setup : Setup) (p : Plan) (client : Client) (found : Option Framed) (tale other : Tale) → next_taken setup p client found tale ≡ Some other
    → (other.clients ≡ tale.clients) × ((is_some found && clients.is_up setup p client tale) ≡ true)
taken-clients setup p client None tale other is = absurd (cc)
taken-clients setup p client (Some message) tale other is = by_test (clients.is_up setup p client tale) is where
  takes : Tale
  takes = taken_by setup p client (suc client.taken) message (p.routes (name_of client (suc client.taken))) tale

  by_test : (b : Bool) → (if b then Some takes else None) ≡ Some other → (other.clients ≡ tale.clients) × ((true && b) ≡ true)
  by_test true same = (
    ap (λ (t : Tale). t.clients) (sym (some-same takes other same))
        ∙ (taken-moved setup p client (suc client.taken) message (p.routes (name_of client (suc client.taken))) tale).clients,
    refl,
  )
  by_test false same = absurd (cc)

module _ (fixed : Fixed) where
  abbrev setup : Setup
  setup = setup_of fixed

  abbrev by : Deciding More
  by = shared fixed

  -- A message that is taken up.

  filled-up : (w : World More) (client : Client) (b : Bool) (d : Decided) (found : Option Framed) → (is_some found && b) ≡ true
      → Has ((if b then with_route by w client d found else d).own (name_of client (suc client.taken)))
      × Has ((if b then with_route by w client d found else d).routes (name_of client (suc client.taken)))
  filled-up w client true d (Some message) is =
      let which = λ (m : MessageName). is_message m (name_of client (suc client.taken)) in
      let there = same_message (name_of client (suc client.taken)) in (
        (_, filled-there which (λ m. by.answer w client (suc client.taken) message) d.own (name_of client (suc client.taken)) there),
        (_, filled-there which (λ m. by.route w client (suc client.taken) message) d.routes (name_of client (suc client.taken)) there),
      )
  filled-up w client true d None is = absurd (cc)
  filled-up w client false d (Some message) is = absurd (cc)
  filled-up w client false d None is = absurd (cc)

  taken-filled : (w : World More) (client : Client) (tale : Tale) → taken_once setup by w client ≡ Some tale
      → Has ((decided_next setup by w client).own (name_of client (suc client.taken))) × Has ((decided_next setup by w client).routes (name_of client (suc client.taken)))
  taken-filled w client tale is =
      let m = w.tale.moment in
      let first : Decided = decided_looked setup by w client in
      let last : Decided = decided_next setup by w client in
      let itself : SameFor client (view_of setup w.tale) m (plan_of first) (plan_of last) =
      looked_same setup by w client first (plan_of last) (more-refl first) (agrees-less first last m (plan_of last) (since-looked setup by w client) (agrees-itself last m)) in
      let up : is_up setup first w.tale client ≡ is_up setup last w.tale client = same_up client (view_of setup w.tale) m (plan_of first) (plan_of last) itself setup w.tale refl refl in
      let said : messages (plan_of first) client ≡ messages (plan_of last) client = same_messages client (view_of setup w.tale) m (plan_of first) (plan_of last) itself in
      let came = taken-clients setup (plan_of last) client (slice_get (messages (plan_of last) client) client.taken) w.tale tale is in
      filled-up w client (is_up setup first w.tale client) first (next_message first client)
      (ap (λ b. is_some (next_message first client) && b) up ∙ ap (λ (ms : List Framed). is_some (slice_get ms client.taken) && is_up setup last w.tale client) said ∙ came.1)

  next-looked : (w : World More) (client : Client) (tale : Tale) → taken_once setup by w client ≡ Some tale → IsLooked w.decided client
      → IsLooked (decided_next setup by w client) (next_of client)
  next-looked w client tale is looked =
      let d : Decided = decided_next setup by w client in
      let old = looked-more w.decided d (next-more setup by w client) client looked in
      let new = taken-filled w client tale is in
      record {
        own = λ i below. elim (cases_eq i client.taken) [
          | inl same ↦ subst (λ k. Has (d.own (name_of client (suc k)))) (sym same) new.0
          | inr apart ↦ old.own i (omega (arith, below, apart))
        ];
        routes = λ i below. elim (cases_eq i client.taken) [
          | inl same ↦ subst (λ k. Has (d.routes (name_of client (suc k)))) (sym same) new.1
          | inr apart ↦ old.routes i (omega (arith, below, apart))
        ];
      }

  taken-looked : (w : World More) (client : Client) (tale : Tale) → taken_once setup by w client ≡ Some tale → IsLooked w.decided client → AreLooked w.decided w.tale.clients
      → AreLooked (decided_next setup by w client) (with_client (next_of client) tale).clients
  taken-looked w client tale is looked all =
      let d : Decided = decided_next setup by w client in
      let came = taken-clients setup (plan_of d) client (slice_get (messages (plan_of d) client) client.taken) w.tale tale is in
      let mine : IsLooked d (next_of client) = next-looked w client tale is looked in
      each-map (IsLooked d) (IsLooked d) (λ (other : Client). if is_client other.number client.number then next_of client else other) tale.clients
      (λ other there. either-looked d (is_client other.number client.number) (next_of client) other mine there)
      (subst (AreLooked d) (sym came.0) (are-more w.decided d (next-more setup by w client) w.tale.clients all))

  taking-looked : (most : ℕ) (client : Client) (w : World More) → IsLooked w.decided client → AreLooked w.decided w.tale.clients
      → AreLooked (are_taken most setup by client w).decided (are_taken most setup by client w).tale.clients
  taking-looked zero client w looked all = all
  taking-looked (suc most) client w looked all = by_found (taken_once setup by w client) refl (taking-looked most (next_of client)) where
    goes : Option Tale → World More
    goes found = option_map_or (λ tale. are_taken most setup by (next_of client) (with_taken setup by w client tale)) found (record w { decided = decided_next setup by w client })

    by_found : (found : Option Tale) → taken_once setup by w client ≡ found
        → ((v : World More) → IsLooked v.decided (next_of client) → AreLooked v.decided v.tale.clients
        → AreLooked (are_taken most setup by (next_of client) v).decided (are_taken most setup by (next_of client) v).tale.clients)
        → AreLooked (goes found).decided (goes found).tale.clients
    by_found None is others = are-more w.decided (decided_next setup by w client) (next-more setup by w client) w.tale.clients all
    by_found (Some tale) is others =
        others (with_taken setup by w client tale) (next-looked w client tale is looked) (taken-looked w client tale is looked all)

  last-more : (w : World More) (client : Client) → IsMore w.decided (decided_last by w client)
  last-more w client = record {
    service = refl;
    room = refl;
    logins = λ l login is. is;
    routes = λ m route is. is;
    own = λ m answer is. filled-kept (λ m. is_message m (name_of client client.taken)) (by.given w) w.decided.own m answer is;
    ends = refl;
    until = refl;
    steps = λ l n step is. is;
    keys = λ k key is. is;
  }

  goes-looked : (view : View) (e : Entry) (w : World More) (client : Client) → IsLooked w.decided client → AreLooked w.decided w.tale.clients
      → AreLooked (goes_on setup by view e w client).decided (goes_on setup by view e w client).tale.clients
  goes-looked view e w client looked all = by_test (is_called v.decided w.tale.moment view e client) where
    v : World More
    v = record w { decided = decided_last by w client }

    there : AreLooked v.decided w.tale.clients
    there = are-more w.decided v.decided (last-more w client) w.tale.clients all

    after : Bool → World More
    after b = if b then are_taken (length (messages (plan_of v.decided) client)) setup by client v else v

    by_test : (b : Bool) → AreLooked (after b).decided (after b).tale.clients
    by_test true = taking-looked (length (messages (plan_of v.decided) client)) client v (looked-more w.decided v.decided (last-more w client) client looked) there
    by_test false = there

  going-looked : (moment : ℕ) (view : View) (e : Entry) (xs : List Client) (w : World More) → w.tale.moment ≡ moment → moment ≤ suc w.decided.until
      → AreLooked w.decided xs → AreLooked w.decided w.tale.clients
      → AreLooked (fold (goes_on setup by view e) w xs).decided (fold (goes_on setup by view e) w xs).tale.clients
  going-looked moment view e [] w now closed each all = all
  going-looked moment view e (x ∷ xs) w now closed each all =
      let v : World More = goes_on setup by view e w x in
      let one = goes_on_follows setup by moment view e w x now closed in
      let until : v.decided.until ≡ w.decided.until = one.more.until in
      going-looked moment view e xs v one.now (omega (arith, until, closed)) (are-more w.decided v.decided one.more xs each.1) (goes-looked view e w x each.0 all)

  pub freeing-clients : (xs : List LinkId) (w : World More) → (fold (freed_there setup by) w xs).tale.clients ≡ w.tale.clients
  freeing-clients [] w = refl
  freeing-clients (x ∷ xs) w =
      freeing-clients xs (freed_there setup by w x)
      ∙ either-clients (is_done (plan_of (decided_freed setup by w x)) w.tale.moment (view_of setup w.tale) (w.tale.wires x) (link_in setup w.tale x)) (tell (Freed x) w.tale) w.tale w.tale.clients refl refl

  freed-looked : (w : World More) → AreLooked w.decided w.tale.clients → AreLooked (are_freed setup by w).decided (are_freed setup by w).tale.clients
  freed-looked w all =
      subst (AreLooked (are_freed setup by w).decided) (sym (freeing-clients w.tale.links w))
      (are-more w.decided (are_freed setup by w).decided (are_freed_follows setup by w.tale.moment w refl).more w.tale.clients all)

  -- As clients go on, and behind each entry.

  given-looked : (w : World More) (e : Entry) (client : Client) → IsLooked w.decided client → IsLooked (decided_by_now by w e) client
  given-looked w e client looked = record {
    own = λ i below. given-has (suc w.tale.moment) (by.gives_up w e (name_of client (suc i))) (w.decided.own (name_of client (suc i))) (looked.own i below);
    routes = looked.routes;
  }

  pub heard-looks : (w : World More) (e : Entry) → AreLooked w.decided w.tale.clients → AreLooked (heard fixed w e).decided (heard fixed w e).tale.clients
  heard-looks w e all =
      let a : World More = is_told setup by w e in
      let b : World More = is_counted by a e in
      freed-looked b (each-so (IsLooked a.decided) (IsLooked b.decided) a.tale.clients (given-looked a e)
      (told-seats anybody (AreLooked a.decided) (looked-seats a.decided) setup (plan_of a.decided) w.tale e (if-anybody e) (are-more w.decided a.decided (told-more setup by w e) w.tale.clients all)))

  pub going-looks : (w : World More) (e : Entry) → w.decided.until ≡ w.tale.moment → AreLooked w.decided w.tale.clients
      → AreLooked (go_on setup by (view_of setup w.tale) e (heard fixed w e)).decided (go_on setup by (view_of setup w.tale) e (heard fixed w e)).tale.clients
  going-looks w e even all =
      let c : World More = heard fixed w e in
      let there = heard-looks w e all in
      going-looked c.tale.moment (view_of setup w.tale) e c.tale.clients c refl (heard-closed fixed w e even) there there

  step-looks : (w : World More) (e : Entry) → w.decided.until ≡ w.tale.moment → AreLooked w.decided w.tale.clients → AreLooked (world_step setup by w e).decided (world_step setup by w e).tale.clients
  step-looks w e even all =
      let d : World More = go_on setup by (view_of setup w.tale) e (heard fixed w e) in
      let f : World More = is_ended by d e in
      freed-looked f (subst (AreLooked f.decided) (sym (ending-clients (plan_of f.decided) d.tale.clients d.tale))
      (each-so (IsLooked d.decided) (IsLooked f.decided) d.tale.clients (λ client looked. record { own = looked.own; routes = looked.routes }) (going-looks w e even all)))

  log-looks : (log : Log) (w : World More) → w.decided.until ≡ w.tale.moment → AreLooked w.decided w.tale.clients → AreLooked (fold (next fixed) w log).decided (fold (next fixed) w log).tale.clients
  log-looks [] w even all = all
  log-looks (e ∷ log) w even all = log-looks log (next fixed w e) (step_even setup by w e) (step-looks w e even all)

  pub looks_at : (log : Log) → AreLooked (world_at fixed log).decided (world_at fixed log).tale.clients
  looks_at log = log-looks log (parting.first fixed) refl tt
