-- The tables behind an entry rest for its tale.
use Rattle.std.specs.Prelude.{◌≡◌, ℕ, suc, ◌+◌, Bool, true, false, ◌||◌, All, filter, fold, if◌then◌else◌, length, map, List, [], ◌∷◌, ◌++◌, Option, Some, None}
use Rattle.std.proofs.Common.{refl, sym, ap, ◌∙◌, subst, append-nil, arith}
use Rattle.std.proofs.lemmas.Bool.{false≢true}
use Rattle.std.proofs.lemmas.List.Elements.{All-head, All-tail, All-weaker, filter-append}
use Rattle.mx_base.specs.declared.tag.Tag.{Tag}
use Rattle.mx_wire.specs.declared.entry.Entry.{Entry}
use Rattle.mx_wire.specs.declared.entry.Entry.TheVariants as entry
use Rattle.client_session.specs.Setups.{Setup as Service}
use Rattle.private_model.proofs.Maps.{client_of, same_number}
use Rattle.private_model.specs.Names.{ClientNo, LinkId}
use Rattle.private_model.specs.Story.{Dropped, Gone, Left, Ran, is_client, is_link_id}
use Rattle.private_model.specs.View.{Setup}
use Rattle.log_story.proofs.Happens.{or_left}
use Rattle.log_story.proofs.Moving.{says-moved, writes-moved}
use Rattle.log_story.specs.Clients.{client_goes_on, client_leaves, clients_are_ended, clients_go_on}
use Rattle.log_story.specs.Plan.{Plan, is_by_now, is_now}
use Rattle.log_story.specs.Servers.{links_are_freed, writes}
use Rattle.log_story.specs.Tale.{Client, Tale, client_gets, client_hears, is_to_server, new_client, tell, view_of}
use Rattle.log_story.specs.Telling.{is_lost_or_left, server_says, tale_step, told}
use Rattle.step_laws.proofs.Giving.{kept_in, none_left}
use Rattle.step_laws.proofs.Seating.{counted_seats}
use Rattle.step_laws.proofs.Stepping.{step_none, step_one}
use Rattle.step_laws.proofs.Taking.{goes_spares}
use Rattle.step_laws.proofs.Telling.{told_spares}
use Rattle.step_laws.specs.Seats.{IsSeated, is_its, seats}
use Rattle.step_laws.specs.Steps.{IsOfNone, IsOfOne, ends_now, leave, told_then}
use Rattle.step_laws.specs.Taken.{SparesOthers}
use Rattle.tale_world.proofs.Links.{step_of}
use Rattle.core_tables.specs.Tables.{Tabled}
use Rattle.core_stands.specs.Grounds.{AreOver, Ground}
use Rattle.core_stands.specs.Stands.{IsCalm, Rests, Stands}
use Rattle.core_laws.proofs.OfEntry.Lists.{seated_of}
use Rattle.core_laws.specs.entry.Calms.{EndNow}
use Rattle.core_laws.specs.entry.Entries.{AreCalmToo, KeepsIdle, KeepsSeats, OfItsLink, TellsOf, behind}

-- Seats.

module _ (whose : ClientNo → Bool) where
  -- who isn't of the link isn't changed
  module _ (by : Client → Client) (link : LinkId) (number : (x : Client) → (by x).number ≡ x.number)
      (same : (x : Client) → is_link_id x.link link ≡ false → by x ≡ x) (n : ClientNo) (other : whose n ≡ false) where
    -- whoever has another number is another

    there : (x : Client) → (is_link_id x.link link ≡ true → whose x.number ≡ true) → is_client x.number n ≡ true → by x ≡ x
    there x its mine = at (is_link_id x.link link) refl where
      at : (b : Bool) → is_link_id x.link link ≡ b → by x ≡ x
      at false aside = same x aside
      at true of = absurd (false≢true (sym other ∙ ap whose (sym (client_of x.number n mine)) ∙ its of))

    here : (x : Client) (front behind : List Client) → (is_link_id x.link link ≡ true → whose x.number ≡ true) → front ≡ behind → (b : Bool)
        → is_client x.number n ≡ b → (if b then by x ∷ front else front) ≡ (if b then x ∷ behind else behind)
    here x front behind its later true mine = λ i. there x its mine i ∷ later i
    here x front behind its later false aside = later

    changed_seats : (xs : List Client) → All (λ (x : Client). is_link_id x.link link ≡ true → whose x.number ≡ true) xs
        → filter (λ (x : Client). is_client x.number n) (map by xs) ≡ filter (λ (x : Client). is_client x.number n) xs
    changed_seats [] its = refl
    changed_seats (x ∷ xs) its =
        let front : List Client = filter (λ (y : Client). is_client y.number n) (map by xs) in
        let behind : List Client = filter (λ (y : Client). is_client y.number n) xs in
        ap (λ (c : ClientNo). if is_client c n then by x ∷ front else front) (number x)
        ∙ here x front behind (All-head (λ (y : Client). is_link_id y.link link ≡ true → whose y.number ≡ true) x xs its)
        (changed_seats xs (All-tail (λ (y : Client). is_link_id y.link link ≡ true → whose y.number ≡ true) x xs its)) (is_client x.number n) refl

  come_seats : (new : Client) (xs : List Client) → whose new.number ≡ true → (n : ClientNo) → whose n ≡ false
      → filter (λ (x : Client). is_client x.number n) (xs ++ new ∷ []) ≡ filter (λ (x : Client). is_client x.number n) xs
  come_seats new xs its n other =
      filter-append (λ (x : Client). is_client x.number n) xs (new ∷ [])
      ∙ ap (λ (more : List Client). filter (λ (x : Client). is_client x.number n) xs ++ more) (by (is_client new.number n) refl)
      ∙ append-nil (filter (λ (x : Client). is_client x.number n) xs) where
        by : (b : Bool) → is_client new.number n ≡ b → (if b then new ∷ [] else []) ≡ []
        by false aside = refl
        by true mine = absurd (false≢true (sym other ∙ ap whose (sym (client_of new.number n mine)) ∙ its))

module _ (setup : Setup) (plan : Plan) (whose : ClientNo → Bool) where
  hears_same : (link : LinkId) (bytes : List ℕ) (x : Client) → is_link_id x.link link ≡ false → client_hears link bytes x ≡ x
  hears_same link bytes x aside = ap (λ (b : Bool). if b then record x { read = x.read ++ bytes } else x) aside

  gets_same : (link : LinkId) (count : ℕ) (x : Client) → is_link_id x.link link ≡ false → client_gets link count x ≡ x
  gets_same link count x aside = ap (λ (b : Bool). if b then record x { written = x.written + count } else x) aside

  either_number : (b : Bool) (x y : Client) (n : ClientNo) → x.number ≡ n → y.number ≡ n → (if b then x else y).number ≡ n
  either_number true x y n first second = first
  either_number false x y n first second = second

  got_seats : (tale : Tale) (link : LinkId) (bytes : List ℕ) → OfItsLink whose link tale → KeepsSeats whose tale (told setup plan tale (entry.Got link bytes))
  got_seats tale link bytes its n other = by (is_to_server tale link) where
    by : (b : Bool) → seats (if b then server_says setup plan link bytes tale else record tale { clients = map (client_hears link bytes) tale.clients }) n ≡ seats tale n
    by true = ap (λ (xs : List Client). filter (λ (x : Client). is_client x.number n) xs) (says-moved setup plan link bytes tale).clients
    by false =
        changed_seats whose (client_hears link bytes) link (λ x. either_number (is_link_id x.link link) (record x { read = x.read ++ bytes }) x x.number refl refl) (hears_same link bytes) n other
        tale.clients its

  wrote_seats : (tale : Tale) (link : LinkId) (tag : Tag) (bytes : List ℕ) → OfItsLink whose link tale
      → KeepsSeats whose tale (told setup plan tale (entry.Wrote link tag bytes))
  wrote_seats tale link tag bytes its n other = by (is_to_server tale link) where
    by : (b : Bool) → seats (if b then writes setup plan link tag bytes (tale.wires link) tale
        else record tale { clients = map (client_gets link (length bytes)) tale.clients }) n ≡ seats tale n
    by true = ap (λ (xs : List Client). filter (λ (x : Client). is_client x.number n) xs) (writes-moved setup plan link tag bytes tale).clients
    by false =
        changed_seats whose (client_gets link (length bytes)) link (λ x. either_number (is_link_id x.link link) (record x { written = x.written + length bytes }) x x.number refl refl) (gets_same link (length bytes)) n other
        tale.clients its

  -- nothing is told of who is among the clients

  abbrev Kept : Tale → Tale → Type 0
  Kept old new = KeepsSeats whose old new

  same_clients : (old new : Tale) → new.clients ≡ old.clients → Kept old new
  same_clients old new same n other = ap (λ (xs : List Client). filter (λ (x : Client). is_client x.number n) xs) same

  seats_on : (old mid new : Tale) → Kept old mid → Kept mid new → Kept old new
  seats_on old mid new first next n other = next n other ∙ first n other

  if_clients : (b : Bool) (x y : Tale) (xs : List Client) → x.clients ≡ xs → y.clients ≡ xs → (if b then x else y).clients ≡ xs
  if_clients true x y xs first second = first
  if_clients false x y xs first second = second

  leaving_clients : (link : LinkId) (xs : List Client) (tale : Tale) → (fold (client_leaves link) tale xs).clients ≡ tale.clients
  leaving_clients link [] tale = refl
  leaving_clients link (x ∷ xs) tale =
      leaving_clients link xs (client_leaves link tale x)
      ∙ if_clients (is_link_id x.link link) (tell (Left x.number) tale) tale tale.clients refl refl

  lost_seats : (link : LinkId) (tale : Tale) → Kept tale (is_lost_or_left link tale)
  lost_seats link tale =
      same_clients tale (is_lost_or_left link tale)
      (if_clients (is_to_server tale link) (tell (Gone link) tale) (fold (client_leaves link) tale tale.clients) tale.clients refl
      (leaving_clients link tale.clients tale))

  exec_seats : (link : LinkId) (tale : Tale) → Kept tale (told setup plan tale (entry.Exec link))
  exec_seats link tale =
      same_clients tale (told setup plan tale (entry.Exec link))
      (if_clients (tale.wires link).entered (tell (if (tale.wires link).quits then Dropped link else Ran link) tale) tale tale.clients refl refl)

  pub told_seats : (tale : Tale) (e : Entry) → TellsOf whose tale e → Kept tale (told setup plan tale e)
  told_seats tale (entry.Accepted port link salt) its =
      λ n other. come_seats whose (new_client (length tale.clients + 1) port link salt) tale.clients its n other
  told_seats tale (entry.Opened server address link) its = same_clients tale (told setup plan tale (entry.Opened server address link)) refl
  told_seats tale (entry.Got link bytes) its = got_seats tale link bytes its
  told_seats tale (entry.Wrote link tag bytes) its = wrote_seats tale link tag bytes its
  told_seats tale (entry.Exec link) its = exec_seats link tale
  told_seats tale (entry.Ended link) its = lost_seats link tale
  told_seats tale (entry.ReadFailed link) its = lost_seats link tale
  told_seats tale (entry.WriteFailed link) its = lost_seats link tale
  told_seats tale (entry.Closed link) its = lost_seats link tale
  told_seats tale _ its = same_clients tale tale refl

  freed_seats : (tale : Tale) → Kept tale (links_are_freed setup plan tale)
  freed_seats tale =
      same_clients tale (links_are_freed setup plan tale) (kept_in setup plan (λ (t : Tale). t.clients) (λ story t. refl) tale.links tale)

  leave_seats : (cs : List ClientNo) (tale : Tale) → (leave cs tale).clients ≡ tale.clients
  leave_seats [] tale = refl
  leave_seats (c ∷ cs) tale = leave_seats cs (tell (Left c) tale)

  -- until links are given back as the entry was told
  first_seats : (tale : Tale) (e : Entry) → TellsOf whose tale e → Kept tale (links_are_freed setup plan (told_then setup plan tale e))
  first_seats tale e its =
      seats_on tale (told_then setup plan tale e) (links_are_freed setup plan (told_then setup plan tale e)) (told_seats tale e its)
      (freed_seats (told_then setup plan tale e))

  pub none_seats : (tale : Tale) (e : Entry) (ended : List ClientNo) (freed : Tale) → IsOfNone setup plan tale e ended freed
      → TellsOf whose tale e → Kept tale (tale_step setup plan tale e)
  none_seats tale e ended freed is its =
      let left : Tale = leave ended freed in
      subst (Kept tale) (sym (step_none setup plan tale e ended freed (links_are_freed setup plan left) is refl))
      (seats_on tale left (links_are_freed setup plan left)
      (seats_on tale freed left (subst (Kept tale) is.first (first_seats tale e its)) (same_clients freed left (leave_seats ended freed)))
      (freed_seats left))

pub one_seats : (setup : Setup) (plan : Plan) (client : Client) (tale : Tale) (e : Entry) (ended : List ClientNo) (freed : Tale)
    → IsOfOne setup plan tale e client ended freed → All (λ (c : ClientNo). is_its client c ≡ true) ended → TellsOf (is_its client) tale e
    → KeepsSeats (is_its client) tale (tale_step setup plan tale e)
one_seats setup plan client tale e ended freed is theirs its =
    let gone : Tale = client_goes_on setup plan (view_of setup tale) e freed client in
    let left : Tale = leave ended gone in
    let spares : SparesOthers setup (is_its client) freed gone =
    goes_spares setup (is_its client) plan is.single (view_of setup tale) e client freed (same_number client.number.0) in
    subst (KeepsSeats (is_its client) tale) (sym (step_one setup plan tale e client ended freed (links_are_freed setup plan left) is refl))
    (seats_on setup plan (is_its client) tale left (links_are_freed setup plan left)
    (seats_on setup plan (is_its client) tale gone left
    (seats_on setup plan (is_its client) tale freed gone
    (subst (KeepsSeats (is_its client) tale) is.first (first_seats setup plan (is_its client) tale e its)) spares.seat)
    (same_clients setup plan (is_its client) gone left (leave_seats setup plan (is_its client) ended gone)))
    (freed_seats setup plan (is_its client) left))

-- Who ended.

by_now_more : (moment : ℕ) (at : Option ℕ) → is_by_now (suc moment) at ≡ (is_by_now moment at || is_now (suc moment) at)
by_now_more moment None = refl
by_now_more moment (Some n) = grind arith

pub over_more : (old new : Ground) → new.plan ≡ old.plan → new.tale.moment ≡ suc old.tale.moment → AreOver old → EndNow old new → AreOver new
over_more old new plan moment over ends c =
    ends c
    ∙ ap (λ (b : Bool). b || ends_now old.plan (suc old.tale.moment) c) (over c)
    ∙ sym (by_now_more old.tale.moment (old.plan.ends c))
    ∙ (λ i. is_by_now (sym moment i) ((sym plan i).ends c))

-- The moment behind an entry.
moment_more : (setup : Setup) (plan : Plan) (tale : Tale) (e : Entry) → (tale_step setup plan tale e).moment ≡ suc tale.moment
moment_more setup plan tale e =
    step_of (λ (t : Tale). t.moment) (λ story t. refl) (λ clients t. refl) setup plan tale e
    ∙ ap suc (told_spares setup plan tale e).moment

module _ (service : Service) (g : Ground) (t now : Tabled) (roomy room : ClientNo → Bool) (e : Entry) (over whose : ClientNo → Bool)
    (rests : Rests service g t roomy) (stands : Stands service (behind g e over) now) (ends : EndNow g (behind g e over))
    (seated : KeepsSeats whose g.tale (behind g e over).tale) (idle : KeepsIdle whose g.setup g.plan g.tale (behind g e over).tale)
    (rooms : (c : ClientNo) → whose c ≡ false → room c ≡ false → roomy c ≡ false) (own : AreCalmToo whose (behind g e over) room) where
  abbrev new : Ground
  new = behind g e over

  calm_of : (client : Client) → IsSeated new.tale client → IsCalm new room client
  calm_of client there = by (whose client.number) refl where
    by : (b : Bool) → whose client.number ≡ b → IsCalm new room client
    by true its = own client there its
    by false other =
        λ going full.
        let was : IsSeated g.tale client = sym (seated client.number other) ∙ there in
        idle client was other
        (seated_of (IsCalm g roomy) g.tale client was rests.calm
        (or_left (g.over client.number) (ends_now g.plan (suc g.tale.moment) client.number) (sym (ends client.number) ∙ going))
        (rooms client.number other full))

  -- the tale as links are given back last
  abbrev last : Tale
  last =
      clients_are_ended g.plan (clients_go_on g.setup g.plan (view_of g.setup g.tale) e
      (links_are_freed g.setup g.plan (told_then g.setup g.plan g.tale e)))

  pub entry_rests : Rests service new now room
  entry_rests = record {
    stands = stands;
    over = over_more g new refl (moment_more g.setup g.plan g.tale e) rests.over ends;
    looked = rests.looked;
    rested = none_left g.setup g.plan last;
    calm = All-weaker (IsSeated new.tale) (IsCalm new room) calm_of new.tale.clients (counted_seats new.tale stands.clients.counted);
  }
