-- Messages of some clients are taken up: what that leaves of others, and that others may be passed over.
use Rattle.std.specs.Prelude.{◌≡◌, ◌≤◌, ℕ, zero, suc, Bool, true, false, not, ◌&&◌, ◌||◌, All, cond, filter, fold, if◌then◌else◌, length, map, nat_eq, slice_get, slice_index_or}
use Rattle.std.specs.Prelude.{List, [], ◌∷◌, Option, Some, None}
use Rattle.std.specs.Option.{option_map_or}
use Rattle.std.proofs.Common.{refl, sym, ap, ◌∙◌, subst, inl, inr}
use Rattle.std.proofs.lemmas.Bool.{and_left, cases_Bool, or_from}
use Rattle.std.proofs.lemmas.List.Elements.{All-head, All-tail, All-weaker}
use Rattle.std.proofs.lemmas.Option.{slice_get_past}
use Rattle.mx_wire.specs.Log.{link_of}
use Rattle.mx_wire.specs.declared.entry.Entry.{Entry}
use Rattle.mx_wire.specs.declared.entry.Entry.TheVariants as entry
use Rattle.packet_frame.specs.Packets.{Framed}
use Rattle.private_model.proofs.Maps.{client_of, same_number}
use Rattle.private_model.specs.Commands.{Command}
use Rattle.private_model.specs.Names.{ClientNo, Hostgroup, LinkId, MessageName}
use Rattle.private_model.specs.Story.{BecameDue, Broke, Left, is_client, is_hostgroup}
use Rattle.private_model.specs.View.{Setup, View, due_of, present}
use Rattle.log_story.specs.Clients.{client_goes_on, clients_go_on, concerns, copied, due_by, is_event_of, is_up, next_taken, taken_by, taken_up}
use Rattle.log_story.specs.Executes.{Request, requested}
use Rattle.log_story.specs.Owed.{messages, name_of}
use Rattle.log_story.specs.Plan.{Plan, Route, com_reset, gives_up, is_before}
use Rattle.log_story.specs.Tale.{Client, Tale, tell, view_of, with_client}
use Rattle.step_laws.specs.Seats.{IsSeated, clients_of, is_its, seats}
use Rattle.step_laws.specs.Taken.{ArePassedBut, AreSingle, IsIdle, IsPassed, IsSingle, SparesOthers, gone_on, is_called, taken_to, wakes}
use Rattle.step_laws.proofs.Giving.{isnt}
use Rattle.step_laws.proofs.Others.{idle_alike, spared_alike}

-- Numbers.

-- one passes a test that another doesn't
apart : (whose : ClientNo → Bool) (a c : ClientNo) → whose a ≡ false → whose c ≡ true → is_client a c ≡ false
apart whose a c other its = elim (cases_Bool (is_client a c)) [
  | inl same ↦ isnt (sym other ∙ ap whose (client_of a c same) ∙ its)
  | inr different ↦ different
]

abbrev with_new : Client → Client → Client
with_new client other = if is_client other.number client.number then client else other

new_number : (client x : Client) (b : Bool) → is_client x.number client.number ≡ b → (if b then client else x).number ≡ x.number
new_number client x true is = sym (client_of x.number client.number is)
new_number client x false is = refl

pub numbers_new : (client : Client) (xs : List Client) → map (λ (c : Client). c.number) (map (with_new client) xs) ≡ map (λ (c : Client). c.number) xs
numbers_new client [] = refl
numbers_new client (x ∷ xs) = λ i. new_number client x (is_client x.number client.number) refl i ∷ numbers_new client xs i

-- those of another number are as they were
seat_test : (client x : Client) (c : ClientNo) (b : Bool) (before after : List Client) → is_client x.number client.number ≡ b → is_client client.number c ≡ false
    → after ≡ before
    → cond (is_client (if b then client else x).number c) ((if b then client else x) ∷ after) after ≡ cond (is_client x.number c) (x ∷ before) before
seat_test client x c true before after is other same =
    ap (λ t. cond t (client ∷ after) after) other ∙ same
    ∙ ap (λ t. cond t (x ∷ before) before) (sym (ap (λ n. is_client n c) (client_of x.number client.number is) ∙ other))
seat_test client x c false before after is other same = ap (λ ys. cond (is_client x.number c) (x ∷ ys) ys) same

seats_new : (client : Client) (c : ClientNo) → is_client client.number c ≡ false → (xs : List Client)
    → filter (λ (x : Client). is_client x.number c) (map (with_new client) xs) ≡ filter (λ (x : Client). is_client x.number c) xs
seats_new client c other [] = refl
seats_new client c other (x ∷ xs) =
    seat_test client x c (is_client x.number client.number) (filter (λ (y : Client). is_client y.number c) xs)
    (filter (λ (y : Client). is_client y.number c) (map (with_new client) xs)) refl other (seats_new client c other xs)

-- of its own number it stands wherever one stood
own_test : (client x : Client) (b : Bool) (before after : List Client) → is_client x.number client.number ≡ b → after ≡ map (λ (y : Client). client) before
    → cond (is_client (if b then client else x).number client.number) ((if b then client else x) ∷ after) after
    ≡ map (λ (y : Client). client) (cond b (x ∷ before) before)
own_test client x true before after is same =
    ap (λ t. cond t (client ∷ after) after) (ap (λ n. is_client n client.number) (sym (client_of x.number client.number is)) ∙ is) ∙ ap (λ ys. client ∷ ys) same
own_test client x false before after is same = ap (λ t. cond t (x ∷ after) after) is ∙ same

own_new : (client : Client) (xs : List Client)
    → filter (λ (x : Client). is_client x.number client.number) (map (with_new client) xs)
    ≡ map (λ (y : Client). client) (filter (λ (x : Client). is_client x.number client.number) xs)
own_new client [] = refl
own_new client (x ∷ xs) =
    own_test client x (is_client x.number client.number) (filter (λ (y : Client). is_client y.number client.number) xs)
    (filter (λ (y : Client). is_client y.number client.number) (map (with_new client) xs)) refl (own_new client xs)

-- What is spared.

module _ (setup : Setup) (whose : ClientNo → Bool) where
  abbrev Spare : Tale → Tale → Type 0
  Spare old new = SparesOthers setup whose old new

  abbrev SparesAny : Tale → Option Tale → Type 0
  SparesAny old None = Unit {0}
  SparesAny old (Some new) = Spare old new

  pub others_itself : (tale : Tale) → Spare tale tale
  others_itself tale = record {
    moment = refl;
    to_servers = refl;
    wires = refl;
    links = refl;
    held = refl;
    carriers = refl;
    lasting = refl;
    replies = refl;
    due = λ n other. refl;
    life = λ c h other. refl;
    place = λ c other. refl;
    numbered = refl;
    seat = λ c other. refl;
  }

  pub others_along : (old mid new : Tale) → Spare old mid → Spare mid new → Spare old new
  others_along old mid new first next = record {
    moment = next.moment ∙ first.moment;
    to_servers = next.to_servers ∙ first.to_servers;
    wires = next.wires ∙ first.wires;
    links = next.links ∙ first.links;
    held = next.held ∙ first.held;
    carriers = next.carriers ∙ first.carriers;
    lasting = next.lasting ∙ first.lasting;
    replies = next.replies ∙ first.replies;
    due = λ n other. next.due n other ∙ first.due n other;
    life = λ c h other. next.life c h other ∙ first.life c h other;
    place = λ c other. next.place c other ∙ first.place c other;
    numbered = next.numbered ∙ first.numbered;
    seat = λ c other. next.seat c other ∙ first.seat c other;
  }

  pub left_spares : (client : ClientNo) (tale : Tale) → whose client ≡ true → Spare tale (tell (Left client) tale)
  left_spares client tale its = record {
    moment = refl;
    to_servers = refl;
    wires = refl;
    links = refl;
    held = refl;
    carriers = refl;
    lasting = refl;
    replies = refl;
    due = λ n other. refl;
    life = λ c h other. ap (λ b. if b then suc ((view_of setup tale).lives c h) else (view_of setup tale).lives c h) (apart whose c client other its);
    place = λ c other. ap (λ b. if b then record ((view_of setup tale).places client) { settings = (setup.places client).settings } else (view_of setup tale).places c)
        (apart whose c client other its);
    numbered = refl;
    seat = λ c other. refl;
  }

  broke_spares : (tale : Tale) → Spare tale (tell Broke tale)
  broke_spares tale = record {
    moment = refl;
    to_servers = refl;
    wires = refl;
    links = refl;
    held = refl;
    carriers = refl;
    lasting = refl;
    replies = refl;
    due = λ n other. refl;
    life = λ c h other. refl;
    place = λ c other. refl;
    numbered = refl;
    seat = λ c other. refl;
  }

  due_spares : (client : ClientNo) (hostgroup : Hostgroup) (ordinal key : ℕ) (command : Command) (multiplex : Option Bool) (tale : Tale) → whose client ≡ true
      → Spare tale (tell (BecameDue client hostgroup ordinal key command multiplex) tale)
  due_spares client hostgroup ordinal key command multiplex tale its =
      let view = view_of setup tale in
      let n = present view client hostgroup in
      record {
        moment = refl;
        to_servers = refl;
        wires = refl;
        links = refl;
        held = refl;
        carriers = refl;
        lasting = refl;
        replies = refl;
        due = λ m other. ap (λ b. if b && (is_hostgroup m.hostgroup hostgroup && nat_eq m.life (view.lives client hostgroup)) then Some (due_of view n ordinal key command multiplex)
            else view.dues m) (apart whose m.client client other its);
        life = λ c h other. refl;
        place = λ c other. refl;
        numbered = refl;
        seat = λ c other. refl;
      }

  pub with_spares : (client : Client) (tale : Tale) → whose client.number ≡ true → Spare tale (with_client client tale)
  with_spares client tale its = record {
    moment = refl;
    to_servers = refl;
    wires = refl;
    links = refl;
    held = refl;
    carriers = refl;
    lasting = refl;
    replies = refl;
    due = λ n other. refl;
    life = λ c h other. refl;
    place = λ c other. refl;
    numbered = numbers_new client tale.clients;
    seat = λ c other. seats_new client c (flipped c (apart whose c client.number other its)) tale.clients;
  }
    where
      flipped : (c : ClientNo) → is_client c client.number ≡ false → is_client client.number c ≡ false
      flipped c different = elim (cases_Bool (is_client client.number c)) [
        | inl same ↦ isnt (sym different ∙ ap (λ n. is_client n client.number) (sym (client_of client.number c same)) ∙ same_number client.number.0)
        | inr is ↦ is
      ]

  -- A message is taken up of which no copy is made.

  copied_spares : (message : MessageName) (command : Command) (mirror : Option Hostgroup) (tale : Tale) → mirror ≡ None → Spare tale (copied message command mirror tale)
  copied_spares message command mirror tale none = subst (λ m. Spare tale (copied message command m tale)) (sym none) (others_itself tale)

  asked_spares : (client : Client) (ordinal : ℕ) (route : Route) (request : Option Request) (tale : Tale) → whose client.number ≡ true → route.mirror ≡ None
      → Spare tale (due_by client ordinal route request tale)
  asked_spares client ordinal route None tale its none = broke_spares tale
  asked_spares client ordinal route (Some request) tale its none =
      let due = tell (BecameDue client.number route.hostgroup ordinal request.key request.command route.multiplex) tale in
      others_along tale due (copied (name_of client ordinal) request.command route.mirror due)
      (due_spares client.number route.hostgroup ordinal request.key request.command route.multiplex tale its)
      (copied_spares (name_of client ordinal) request.command route.mirror due none)

  if_spares : (b : Bool) (x y old : Tale) → Spare old x → Spare old y → Spare old (if b then x else y)
  if_spares true x y old one other = one
  if_spares false x y old one other = other

  module _ (plan : Plan) where
    taken_spares : (client : Client) (ordinal : ℕ) (message : Framed) (route : Option Route) (tale : Tale) → whose client.number ≡ true
        → ((r : Route) → route ≡ Some r → r.mirror ≡ None) → Spare tale (taken_by setup plan client ordinal message route tale)
    taken_spares client ordinal message None tale its none =
        if_spares (nat_eq (slice_index_or message.payload 0 0) com_reset) (tell (Left client.number) tale) tale tale (left_spares client.number tale its) (others_itself tale)
    taken_spares client ordinal message (Some route) tale its none =
        asked_spares client ordinal route (requested setup (view_of setup tale) plan client ordinal route message.payload) tale its (none route refl)

    up_spares : (b : Bool) (x old : Tale) → Spare old x → SparesAny old (if b then Some x else None)
    up_spares true x old spares = spares
    up_spares false x old spares = tt

    next_spares : (client : Client) (message : Option Framed) (tale : Tale) → whose client.number ≡ true → IsSingle plan client
        → SparesAny tale (next_taken setup plan client message tale)
    next_spares client None tale its none = tt
    next_spares client (Some message) tale its none =
        let route = plan.routes (name_of client (suc client.taken)) in
        up_spares (is_up setup plan client tale) (taken_by setup plan client (suc client.taken) message route tale) tale
        (taken_spares client (suc client.taken) message route tale its none)

    pub once_spares : (client : Client) (message : Option Framed) (tale other : Tale) → whose client.number ≡ true → IsSingle plan client
        → next_taken setup plan client message tale ≡ Some other → Spare tale other
    once_spares client message tale other its none is = subst (SparesAny tale) is (next_spares client message tale its none)

  module _ (plan : Plan) (single : AreSingle plan whose) where
    found_spares : (client : Client) (others : Tale → Tale) (found : Option Tale) (old : Tale) → ((t : Tale) → Spare t (others t)) → SparesAny old found
        → Spare old (option_map_or others found old)
    found_spares client others None old each spares = others_itself old
    found_spares client others (Some t) old each spares = others_along old t (others t) spares (each t)

    pub taken_up_spares : (most : ℕ) (client : Client) (tale : Tale) → whose client.number ≡ true → Spare tale (taken_up most setup plan client tale)
    taken_up_spares zero client tale its = others_itself tale
    taken_up_spares (suc most) client tale its =
        let next : Client = record client { taken = suc client.taken } in
        let message : Option Framed = slice_get (messages plan client) client.taken in
        found_spares client (λ other. taken_up most setup plan next (with_client next other)) (next_taken setup plan client message tale) tale
        (λ t. others_along t (with_client next t) (taken_up most setup plan next (with_client next t)) (with_spares next t its)
        (taken_up_spares most next (with_client next t) its))
        (next_spares plan client message tale its (λ r is. single (name_of client (suc client.taken)) r its is))

    pub goes_spares : (view : View) (e : Entry) (client : Client) (tale : Tale) → whose client.number ≡ true → Spare tale (client_goes_on setup plan view e tale client)
    goes_spares view e client tale its =
        if_spares (is_called plan tale.moment view e client) (taken_up (length (messages plan client)) setup plan client tale) tale tale
        (taken_up_spares (length (messages plan client)) client tale its) (others_itself tale)

    pub all_spare : (view : View) (e : Entry) (xs : List Client) (tale : Tale) → All (λ (c : Client). whose c.number ≡ true) xs
        → Spare tale (gone_on setup plan view e xs tale)
    all_spare view e [] tale its = others_itself tale
    all_spare view e (x ∷ xs) tale its =
        let next = client_goes_on setup plan view e tale x in
        others_along tale next (gone_on setup plan view e xs next)
        (goes_spares view e x tale (All-head (λ (c : Client). whose c.number ≡ true) x xs its))
        (all_spare view e xs next (All-tail (λ (c : Client). whose c.number ≡ true) x xs its))

-- Who is called.

no_event : (view : View) (e : Entry) (client : Client) → wakes e ≡ false → ((link : LinkId) → link_of e ≡ Some link → concerns view client link ≡ false)
    → is_event_of view client e ≡ false
no_event view (entry.Woke until_ms now_ms) client sleeps apart = isnt (sym sleeps)
no_event view (entry.Got link bytes) client sleeps apart = apart link refl
no_event view (entry.Ended link) client sleeps apart = apart link refl
no_event view (entry.ReadFailed link) client sleeps apart = apart link refl
no_event view (entry.WriteFailed link) client sleeps apart = apart link refl
no_event view _ client sleeps apart = refl

pub uncalled : (plan : Plan) (moment : ℕ) (view : View) (e : Entry) (client : Client) → wakes e ≡ false
    → ((link : LinkId) → link_of e ≡ Some link → concerns view client link ≡ false) → gives_up plan moment (name_of client client.taken) ≡ false
    → is_called plan moment view e client ≡ false
uncalled plan moment view e client sleeps apart none =
    and_left (is_event_of view client e || gives_up plan moment (name_of client client.taken)) (not (is_before moment (plan.ends client.number)))
    (or_from (is_event_of view client e) (gives_up plan moment (name_of client client.taken)) (no_event view e client sleeps apart) none)

-- Who isn't called, or is idle, takes up nothing.

pub none_of : (xs : List Client) → filter (λ (c : Client). false) xs ≡ []
none_of [] = refl
none_of (x ∷ xs) = none_of xs

pub single_none : (plan : Plan) → AreSingle plan (λ c. false)
single_none plan m route its is = isnt its

module _ (setup : Setup) (plan : Plan) where
  pub idle_takes : (most : ℕ) (client : Client) (tale : Tale) → IsIdle setup plan tale client → taken_up most setup plan client tale ≡ tale
  idle_takes zero client tale none = refl
  idle_takes (suc most) client tale none =
      let next : Client = record client { taken = suc client.taken } in
      ap (λ o. option_map_or (λ other. taken_up most setup plan next (with_client next other)) o tale) none

  pub next_takes : (most : ℕ) (client : Client) (tale other : Tale) → next_taken setup plan client (slice_get (messages plan client) client.taken) tale ≡ Some other
      → taken_up (suc most) setup plan client tale
      ≡ taken_up most setup plan (record client { taken = suc client.taken }) (with_client (record client { taken = suc client.taken }) other)
  next_takes most client tale other is =
      let next : Client = record client { taken = suc client.taken } in
      ap (λ o. option_map_or (λ t. taken_up most setup plan next (with_client next t)) o tale) is

  pub past_idle : (client : Client) (tale : Tale) → length (messages plan client) ≤ client.taken → IsIdle setup plan tale client
  past_idle client tale past =
      ap (λ (m : Option Framed). next_taken setup plan client m tale) (slice_get_past (messages plan client) client.taken past)

module _ (setup : Setup) (plan : Plan) (view : View) (e : Entry) where
  abbrev goes : Tale → Client → Tale
  goes tale client = client_goes_on setup plan view e tale client

  pub passed : (tale : Tale) (client : Client) → IsPassed setup plan view e tale client → goes tale client ≡ tale
  passed tale client (inl uncalled) = ap (λ b. if b then taken_up (length (messages plan client)) setup plan client tale else tale) uncalled
  passed tale client (inr idle) =
      ap (λ t. if is_called plan tale.moment view e client then t else tale) (idle_takes setup plan (length (messages plan client)) client tale idle)
      ∙ same_both (is_called plan tale.moment view e client) tale
    where
      same_both : (b : Bool) (t : Tale) → (if b then t else t) ≡ t
      same_both true t = refl
      same_both false t = refl

  pub called : (tale : Tale) (client : Client) → is_called plan tale.moment view e client ≡ true
      → goes tale client ≡ taken_up (length (messages plan client)) setup plan client tale
  called tale client is = ap (λ b. if b then taken_up (length (messages plan client)) setup plan client tale else tale) is

  module _ (whose : ClientNo → Bool) (single : AreSingle plan whose) where
    abbrev Passes : Tale → Client → Type 0
    Passes tale client = whose client.number ≡ false → IsPassed setup plan view e tale client

    -- as others take up theirs
    passed_on : (x : Client) (tale : Tale) → whose x.number ≡ true → (client : Client) → Passes tale client → Passes (goes tale x) client
    passed_on x tale its client passes other = by (passes other) where
      spares : SparesOthers setup whose tale (goes tale x)
      spares = goes_spares setup whose plan single view e x tale its

      by : IsPassed setup plan view e tale client → IsPassed setup plan view e (goes tale x) client
      by (inl uncalled) = inl (ap (λ m. is_called plan m view e client) spares.moment ∙ uncalled)
      by (inr idle) = inr (idle_alike setup plan client tale (goes tale x) (spared_alike setup plan whose tale (goes tale x) spares client other) idle)

    among_test : (x : Client) (xs : List Client) (tale : Tale) (b : Bool) → whose x.number ≡ b → All (Passes tale) (x ∷ xs)
        → ((t : Tale) → All (Passes t) xs → fold goes t xs ≡ fold goes t (filter (λ (c : Client). whose c.number) xs))
        → fold goes (goes tale x) xs ≡ fold goes tale (cond b (x ∷ filter (λ (c : Client). whose c.number) xs) (filter (λ (c : Client). whose c.number) xs))
    among_test x xs tale true is passes each =
        each (goes tale x)
        (All-weaker (Passes tale) (Passes (goes tale x)) (λ client one. passed_on x tale is client one) xs (All-tail (Passes tale) x xs passes))
    among_test x xs tale false is passes each =
        ap (λ t. fold goes t xs) (passed tale x (All-head (Passes tale) x xs passes is)) ∙ each tale (All-tail (Passes tale) x xs passes)

    goes_among : (xs : List Client) (tale : Tale) → All (Passes tale) xs → fold goes tale xs ≡ fold goes tale (filter (λ (c : Client). whose c.number) xs)
    goes_among [] tale passes = refl
    goes_among (x ∷ xs) tale passes = among_test x xs tale (whose x.number) refl passes (goes_among xs)

    pub all_among : (tale : Tale) → ArePassedBut setup plan view e whose tale
        → clients_go_on setup plan view e tale ≡ gone_on setup plan view e (clients_of whose tale) tale
    all_among tale passes = goes_among tale.clients tale passes

  pub none_go : (tale : Tale) → ArePassedBut setup plan view e (λ c. false) tale → clients_go_on setup plan view e tale ≡ tale
  none_go tale passes =
      all_among (λ c. false) (single_none plan) tale passes ∙ ap (λ xs. gone_on setup plan view e xs tale) (none_of tale.clients)

  pub one_goes : (client : Client) (tale : Tale) → IsSeated tale client → AreSingle plan (is_its client)
      → ArePassedBut setup plan view e (is_its client) tale → clients_go_on setup plan view e tale ≡ goes tale client
  one_goes client tale seated single passes =
      all_among (is_its client) single tale passes ∙ ap (λ xs. gone_on setup plan view e xs tale) seated

-- Where it stands then.

module _ (setup : Setup) (plan : Plan) where
  abbrev SameClients : Tale → Option Tale → Type 0
  SameClients old None = Unit {0}
  SameClients old (Some new) = new.clients ≡ old.clients

  copied_seats : (message : MessageName) (command : Command) (mirror : Option Hostgroup) (tale : Tale) → (copied message command mirror tale).clients ≡ tale.clients
  copied_seats message command None tale = refl
  copied_seats message command (Some hostgroup) tale = refl

  asked_seats : (client : Client) (ordinal : ℕ) (route : Route) (request : Option Request) (tale : Tale) → (due_by client ordinal route request tale).clients ≡ tale.clients
  asked_seats client ordinal route None tale = refl
  asked_seats client ordinal route (Some request) tale =
      copied_seats (name_of client ordinal) request.command route.mirror
      (tell (BecameDue client.number route.hostgroup ordinal request.key request.command route.multiplex) tale)

  if_seats : (b : Bool) (x y : Tale) (cs : List Client) → x.clients ≡ cs → y.clients ≡ cs → (if b then x else y).clients ≡ cs
  if_seats true x y cs one other = one
  if_seats false x y cs one other = other

  taken_seats : (client : Client) (ordinal : ℕ) (message : Framed) (route : Option Route) (tale : Tale)
      → (taken_by setup plan client ordinal message route tale).clients ≡ tale.clients
  taken_seats client ordinal message None tale =
      if_seats (nat_eq (slice_index_or message.payload 0 0) com_reset) (tell (Left client.number) tale) tale tale.clients refl refl
  taken_seats client ordinal message (Some route) tale =
      asked_seats client ordinal route (requested setup (view_of setup tale) plan client ordinal route message.payload) tale

  up_seats : (b : Bool) (x old : Tale) → x.clients ≡ old.clients → SameClients old (if b then Some x else None)
  up_seats true x old same = same
  up_seats false x old same = tt

  next_seats : (client : Client) (message : Option Framed) (tale : Tale) → SameClients tale (next_taken setup plan client message tale)
  next_seats client None tale = tt
  next_seats client (Some message) tale =
      let route = plan.routes (name_of client (suc client.taken)) in
      up_seats (is_up setup plan client tale) (taken_by setup plan client (suc client.taken) message route tale) tale
      (taken_seats client (suc client.taken) message route tale)

  pub once_seats : (client : Client) (message : Option Framed) (tale other : Tale) → next_taken setup plan client message tale ≡ Some other → other.clients ≡ tale.clients
  once_seats client message tale other is = subst (SameClients tale) is (next_seats client message tale)

  pub seated_next : (client next : Client) (tale other : Tale) → next.number ≡ client.number → other.clients ≡ tale.clients → IsSeated tale client
      → IsSeated (with_client next other) next
  seated_next client next tale other number same seated =
      own_new next other.clients
      ∙ ap (map (λ (y : Client). next)) (ap (λ cs. filter (λ (x : Client). is_client x.number next.number) cs) same
      ∙ ap (λ n. seats tale n) number ∙ seated)

  found_seats : (most : ℕ) (client : Client) (tale : Tale) (found : Option Tale) → SameClients tale found → IsSeated tale client
      → ((t : Tale) → IsSeated t (record client { taken = suc client.taken })
      → seats (taken_up most setup plan (record client { taken = suc client.taken }) t) client.number
      ≡ taken_to most setup plan (record client { taken = suc client.taken }) t ∷ [])
      → seats (option_map_or (λ other. taken_up most setup plan (record client { taken = suc client.taken }) (with_client (record client { taken = suc client.taken }) other)) found tale)
      client.number
      ≡ option_map_or (λ other. taken_to most setup plan (record client { taken = suc client.taken }) (with_client (record client { taken = suc client.taken }) other)) found client ∷ []
  found_seats most client tale None same seated each = seated
  found_seats most client tale (Some other) same seated each =
      let next : Client = record client { taken = suc client.taken } in
      each (with_client next other) (seated_next client next tale other refl same seated)

  pub taken_to_seats : (most : ℕ) (client : Client) (tale : Tale) → IsSeated tale client
      → seats (taken_up most setup plan client tale) client.number ≡ taken_to most setup plan client tale ∷ []
  taken_to_seats zero client tale seated = seated
  taken_to_seats (suc most) client tale seated =
      found_seats most client tale (next_taken setup plan client (slice_get (messages plan client) client.taken) tale)
      (next_seats client (slice_get (messages plan client) client.taken) tale) seated
      (taken_to_seats most (record client { taken = suc client.taken }))
