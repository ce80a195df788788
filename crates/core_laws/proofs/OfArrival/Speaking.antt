-- Bytes come of a client.
use Rattle.std.specs.Prelude.{◌≡◌, ◌≤◌, ◌<◌, ◌+◌, ◌-◌, ℕ, zero, suc, not, slice_get, Bool, true, false, ◌||◌, if◌then◌else◌, is_some, length, slice_index_or, take, map, List, [], ◌∷◌, ◌++◌, Option, Some, None}
use Rattle.std.proofs.Common.{◌∙◌, refl, sym, ap, subst, arith, append-nil, length-append, inl}
use Rattle.std.proofs.lemmas.List.{take-append-le}
use Rattle.mx_base.specs.declared.names.LinkId.{LinkId}
use Rattle.mx_wire.specs.declared.entry.Entry.TheVariants.{Got}
use Rattle.packet_frame.specs.Laws.{split-grown}
use Rattle.packet_frame.specs.Packets.{Framed, Split, grown, split}
use Rattle.packet_frame.specs.declared.fault.FrameFault.{FrameFault}
use Rattle.server_side.specs.Account.{Account}
use Rattle.client_side.specs.Client.{fed}
use Rattle.client_session.specs.Answers.{commands, front}
use Rattle.client_session.specs.Setups.{Setup as Service}
use Rattle.client_seat.proofs.Hearing.{GoesOn, goes-on}
use Rattle.client_seat.specs.Seats.{got, got_in, is_ended}
use Rattle.client_seat.specs.Stands.{IsHeard, IsHeardIn, IsServed}
use Rattle.client_seat.specs.declared.phase.Phase.{Phase}
use Rattle.client_seat.specs.declared.phase.Phase.TheVariants as phase
use Rattle.client_seat.specs.declared.seat.Seat.{Seat}
use Rattle.private_model.specs.Names.{ClientNo}
use Rattle.private_model.specs.Story.{is_client, is_link_id}
use Rattle.private_model.specs.View.{present}
use Rattle.log_story.specs.Clients.{is_answered}
use Rattle.log_story.specs.Owed.{messages, name_of, talk_of}
use Rattle.log_story.specs.Plan.{Plan, own_at}
use Rattle.log_story.specs.Tale as tales
use Rattle.log_story.specs.Tale.{Tale, client_hears, is_to_server}
use Rattle.log_story.specs.Telling.{server_says, told}
use Rattle.core_tables.specs.Arrivals.{spoke}
use Rattle.core_tables.specs.Tables.{IsSame, Tabled}
use Rattle.core_tables.specs.declared.client.Client.{Client}
use Rattle.core_stands.specs.Clients.{IsClient, IsClientOr, IsGoing, IsOwing, IsPhase}
use Rattle.core_stands.specs.Grounds.{Ground, freshened, on, view_on}
use Rattle.core_stands.specs.Stands.{IsAt, IsKnown, Stands}
use Rattle.core_laws.proofs.OfArrival.Changing.{InWork, IsChange, RowsStay, changed-so, each-by, put-other, reseat, stands-by, stands-told}
use Rattle.core_laws.proofs.OfArrival.Finding.{at-known, client-same, false-true, isnt-true, link-same, link-true, none-some, one-link}
use Rattle.core_laws.proofs.OfArrival.Grounding.{Aside, regrounded}
use Rattle.core_laws.proofs.OfArrival.Liking.{IsLike, client-before, going-like, so-far-like}
use Rattle.core_laws.proofs.OfPrepared.Mapping.{HasMore, hears_more}

-- What the entry makes of the tale.

pub heard-tale : (g : Ground) (link : LinkId) (bytes : List ℕ) → is_to_server g.tale link ≡ false
    → told g.setup g.plan g.tale (Got link bytes) ≡ record g.tale { clients = map (client_hears link bytes) g.tale.clients }
heard-tale g link bytes aside =
    ap (λ (b : Bool). if b then server_says g.setup g.plan link bytes g.tale else record g.tale { clients = map (client_hears link bytes) g.tale.clients }) aside

abbrev pub more : List ℕ → tales.Client → tales.Client
more bytes x = record x { read = x.read ++ bytes }

pub hears-here : (link : LinkId) (bytes : List ℕ) (x : tales.Client) → is_link_id x.link link ≡ true → client_hears link bytes x ≡ more bytes x
hears-here link bytes x is = ap (λ (b : Bool). if b then more bytes x else x) is

pub hears-not : (link : LinkId) (bytes : List ℕ) (x : tales.Client) → is_link_id x.link link ≡ false → client_hears link bytes x ≡ x
hears-not link bytes x is = ap (λ (b : Bool). if b then more bytes x else x) is

pub hears-number : (link : LinkId) (bytes : List ℕ) (x : tales.Client) → (client_hears link bytes x).number ≡ x.number
hears-number link bytes x = by (is_link_id x.link link) where
  by : (b : Bool) → (if b then more bytes x else x).number ≡ x.number
  by true = refl
  by false = refl

pub hears-taken : (link : LinkId) (bytes : List ℕ) (x : tales.Client) → (client_hears link bytes x).taken ≡ x.taken
hears-taken link bytes x = by (is_link_id x.link link) where
  by : (b : Bool) → (if b then more bytes x else x).taken ≡ x.taken
  by true = refl
  by false = refl

pub hears-link : (link : LinkId) (bytes : List ℕ) (x : tales.Client) → (client_hears link bytes x).link ≡ x.link
hears-link link bytes x = by (is_link_id x.link link) where
  by : (b : Bool) → (if b then more bytes x else x).link ≡ x.link
  by true = refl
  by false = refl

-- The seat keeps them.

abbrev pub keeping : List ℕ → Seat → Seat
keeping bytes seat = record seat { client = fed seat.client bytes }

pub got-so : (bytes : List ℕ) (seat : Seat) → is_ended seat.phase ≡ false → got bytes seat ≡ keeping bytes seat
got-so bytes seat unended = by seat.phase unended where
  by : (at : Phase) → is_ended at ≡ false → got_in at bytes seat ≡ keeping bytes seat
  by phase.LoggingIn unended = refl
  by (phase.Serving account) unended = refl
  by phase.Ended unended = false-true true unended refl

pub get-taken : (n k : ℕ) (xs : List Framed) → k < n → slice_get (take n xs) k ≡ slice_get xs k
get-taken zero k xs below = absurd (omega arith)
get-taken (suc n) k [] below = refl
get-taken (suc n) zero (x ∷ xs) below = refl
get-taken (suc n) (suc k) (x ∷ xs) below = get-taken n k xs (omega arith)

-- What was due to a client that is served stays so.

grown-so : (limit first : ℕ) (sent : List Framed) (rest : List ℕ) (fault : Option FrameFault) (bytes : List ℕ)
    → (later : List Framed) × ((grown limit first sent rest fault bytes).messages ≡ sent ++ later)
grown-so limit first sent rest None bytes = ((split limit first (rest ++ bytes)).messages, refl)
grown-so limit first sent rest (Some fault) bytes = ([], sym (append-nil sent))

sent-same : (plan : Plan) (client : tales.Client) (bytes : List ℕ) (seat : Seat) (account : Account) → IsServed plan client seat account
    → GoesOn (talk_of plan client) bytes account → take client.taken (messages plan (more bytes client)) ≡ take client.taken (messages plan client)
sent-same plan client bytes seat account served on =
    let whole = split plan.service.limit 0 (commands (talk_of plan client)) in
    let so = grown-so plan.service.limit 0 whole.messages whole.rest whole.fault bytes in
    let all : messages plan (more bytes client) ≡ messages plan client ++ so.0 =
    ap (λ (read : List ℕ). (split plan.service.limit 0 read).messages) on.commands
    ∙ ap (λ (s : Split). s.messages) (split-grown plan.service.limit 0 (commands (talk_of plan client)) bytes) ∙ so.1 in
    let size : length (messages plan client) ≡ length served.gone + length (split plan.service.limit 0 seat.client.framer.kept).messages =
    ap (λ (s : Split). length s.messages) served.rest ∙ length-append served.gone (split plan.service.limit 0 seat.client.framer.kept).messages in
    let within : client.taken ≤ length (messages plan client) = omega (arith, size, served.size) in
    ap (take client.taken) all ∙ take-append-le client.taken (messages plan client) so.0 within

module _ (g : Ground) (by : Aside) (bytes : List ℕ) (client : tales.Client) (row : Client) (moment : by.moment ≡ g.tale.moment)
    (over : by.over client.number ≡ g.over client.number) (fresh : by.fresh client.number ≡ true) where
  abbrev after : Ground
  after = regrounded by g

  abbrev seat : Seat
  seat = row.desk.seat

  like : IsLike g by client (more bytes client)
  like = record {
    number = refl;
    taken = refl;
    own = λ ordinal below. ap (λ (m : ℕ). own_at g.plan m (name_of client ordinal)) moment;
  }

  owed-in : (at : Phase) (flag : Bool) → by.fresh client.number ≡ flag → IsHeardIn at g.plan client seat → IsOwing at (g.fresh client.number) g client seat
      → is_ended at ≡ false → IsOwing at flag after (more bytes client) (keeping bytes seat)
  owed-in phase.LoggingIn true is heard owed unended = tt
  owed-in phase.LoggingIn false is heard owed unended = false-true (by.fresh client.number) is fresh
  owed-in (phase.Serving account) flag is heard owed unended =
      let on = goes-on (talk_of g.plan client) bytes account heard.known in
      record {
        written = owed.written;
        size = owed.size;
        all = so-far-like g by client (more bytes client) like on.front (sent-same g.plan client bytes seat account heard on) ∙ owed.all;
      }
  owed-in phase.Ended flag is heard owed unended = false-true true unended refl

  -- its last message, where that isn't answered

  said-in : (at : Phase) → IsHeardIn at g.plan client seat → is_ended at ≡ false → (IsGoing g client row) → is_some row.desk.work ≡ true
      → (message : Framed) → slice_get (messages g.plan (more bytes client)) (client.taken - 1) ≡ Some message
      → slice_get (messages g.plan client) (client.taken - 1) ≡ Some message
  said-in phase.LoggingIn heard unended going busy message is =
      let answered : seat.answered ≡ true = going.answered ∙ ap (is_answered g.plan g.tale (view_on g) client) heard.untaken in
      false-true (is_some row.desk.work) (going.busy ∙ ap not answered) busy
  said-in (phase.Serving account) heard unended going busy message is =
      by-taken client.taken refl where
        on : GoesOn (talk_of g.plan client) bytes account
        on = goes-on (talk_of g.plan client) bytes account heard.known

        same : take client.taken (messages g.plan (more bytes client)) ≡ take client.taken (messages g.plan client)
        same = sent-same g.plan client bytes seat account heard on

        by-taken : (n : ℕ) → client.taken ≡ n → slice_get (messages g.plan client) (client.taken - 1) ≡ Some message
        by-taken zero none =
            false-true (is_some row.desk.work)
            (going.busy ∙ ap not (going.answered ∙ ap (is_answered g.plan g.tale (view_on g) client) none)) busy
        by-taken (suc n) some =
            let below : client.taken - 1 < client.taken = omega (arith, some) in
            sym (get-taken client.taken (client.taken - 1) (messages g.plan client) below)
            ∙ ap (λ (xs : List Framed). slice_get xs (client.taken - 1)) (sym same)
            ∙ get-taken client.taken (client.taken - 1) (messages g.plan (more bytes client)) below ∙ is
  said-in phase.Ended heard unended going busy message is = false-true true unended refl

  phase-in : (ended : Bool) → ended ≡ false → is_ended seat.phase ≡ false → IsHeard g.plan client seat → IsPhase ended g client row
      → IsPhase ended after (more bytes client) (reseat (keeping bytes seat) row)
  phase-in true isnt unended heard is = false-true true isnt refl
  phase-in false isnt unended heard is =
      going-like g by client (more bytes client) like row (keeping bytes seat) (over ∙ is.going) refl refl (λ busy. (refl, refl))
      (said-in seat.phase heard unended is) is.account is.collation is.unmoved is

  pub spoken : ((plan : Plan) (x : tales.Client) (s : Seat) (other : List ℕ) → IsHeard plan x s → IsHeard plan (more other x) (got other s))
      → is_ended seat.phase ≡ false → IsClient g client row → IsClient after (more bytes client) (reseat (keeping bytes seat) row)
  spoken hears unended is = record {
    who = record { link = is.who.link; number = is.who.number; port = is.who.port; salt = is.who.salt; drained = is.who.drained };
    heard = subst (λ (s : Seat). IsHeard g.plan (more bytes client) s) (got-so bytes seat unended) (hears g.plan client seat bytes is.heard);
    owed = owed-in seat.phase (by.fresh client.number) refl is.heard is.owed unended;
    desk = record { number = is.desk.number; sessions = is.desk.sessions; place = is.desk.place; work = is.desk.work; row = is.desk.row };
    coming = is.coming;
    phase = phase-in (is_ended seat.phase) unended unended is.heard is.phase;
  }

-- The tables stand for the tale then.

abbrev Hears : Type 0
Hears = (plan : Plan) (x : tales.Client) (s : Seat) (other : List ℕ) → IsHeard plan x s → IsHeard plan (more other x) (got other s)

module _ (in_work : InWork) (stay : RowsStay) (hears : Hears) (service : Service) (g : Ground) (t now : Tabled) (link : LinkId) (bytes : List ℕ) where
  abbrev f : tales.Client → tales.Client
  f = client_hears link bytes

  abbrev spoken_by : ClientNo → Aside
  spoken_by c = record { moment = g.tale.moment; clients = map f g.tale.clients; over = g.over; fresh = λ other. is_client c other || g.fresh other }

  change : (c : ClientNo) (row : Client) → t.clients c ≡ Some row → is_ended row.desk.seat.phase ≡ false → IsSame now (spoke c bytes t)
      → IsChange g (spoken_by c) t now c f row (keeping bytes row.desk.seat)
  change c row there unended same = record {
    clients = refl;
    moment = refl;
    number = hears-number link bytes;
    link = hears-link link bytes;
    taken = hears-taken link bytes;
    more = hears_more g.plan link bytes;
    ends = λ n is. is;
    there = there;
    changed = changed-so (got bytes) c t now row there same ∙ ap (λ (s : Seat). Some (reseat s row)) (got-so bytes row.desk.seat unended);
    others = λ other apart. same.clients other ∙ put-other c other _ t apart;
    numbers = same.numbers;
    links = same.links;
  }

  other-so : (c : ClientNo) (client x : tales.Client) → Stands service g t → IsKnown g c client → client.link ≡ link → IsAt g t x → is_client c x.number ≡ false
      → (b : Bool) → is_link_id x.link link ≡ b → IsClientOr (regrounded (spoken_by c) g) (f x) (t.clients x.number)
  other-so c client x was known has at apart true is = false-true (is_client c x.number) apart (one-link g t c client x link known has at is)
  other-so c client x was known has at apart false is =
      subst (λ (y : tales.Client). IsClientOr (regrounded (spoken_by c) g) y (t.clients x.number)) (sym (hears-not link bytes x is))
      (client-before g (spoken_by c) x (record {
        own = λ ordinal below. refl;
        word = λ over. refl;
        over = refl;
        fresh = ap (λ (b : Bool). b || g.fresh x.number) apart;
      }) (t.clients x.number) at.row)

  own-so : (c : ClientNo) (client : tales.Client) (row : Client) → Stands service g t → IsKnown g c client → client.link ≡ link → t.clients c ≡ Some row
      → is_ended row.desk.seat.phase ≡ false → IsClient (regrounded (spoken_by c) g) (f client) (reseat (keeping bytes row.desk.seat) row)
  own-so c client row was known has there unended =
      let at = at-known g t c client was.clients known in
      let stood : IsClient g client row = subst (λ (r : Option Client). IsClientOr g client r) (ap t.clients known.number ∙ there) at.row in
      subst (λ (y : tales.Client). IsClient (regrounded (spoken_by c) g) y (reseat (keeping bytes row.desk.seat) row))
      (sym (hears-here link bytes client (link-same client.link link has)))
      (spoken g (spoken_by c) bytes client row refl refl (ap (λ (b : Bool). b || g.fresh client.number) (client-same c client.number (sym known.number))) hears unended stood)

  pub speaks-so : (c : ClientNo) (row : Client) → Stands service g t → t.numbers link ≡ Some c → t.clients c ≡ Some row → is_ended row.desk.seat.phase ≡ false
      → IsSame now (spoke c bytes t) → Stands service (freshened c (on g (told g.setup g.plan g.tale (Got link bytes)))) now
  speaks-so c row was number there unended same =
      let named = was.clients.named link c number in
      let client = named.0 in
      let at = at-known g t c client was.clients named.1 in
      let aside : is_to_server g.tale link ≡ false = ap (is_to_server g.tale) (sym named.2) ∙ at.aside in
      let changes = change c row there unended same in
      subst (λ (tale : Tale). Stands service (freshened c (on g tale)) now) (sym (heard-tale g link bytes aside))
      (stands-by g (spoken_by c) t now c f row (keeping bytes row.desk.seat) changes in_work stay service was
      (λ on. record { going = unended; statements = refl; answered = refl }) (inl refl)
      (each-by g (spoken_by c) t now c f row (keeping bytes row.desk.seat) changes client named.1 was.clients
      (own-so c client row was named.1 named.2 there unended)
      (λ x here apart. other-so c client x was named.1 named.2 here apart (is_link_id x.link link) refl)))

-- Of a link that no row has nothing is kept.

module _ (service : Service) (g : Ground) (t : Tabled) (link : LinkId) (f : tales.Client → tales.Client)
    (number : (x : tales.Client) → (f x).number ≡ x.number) (linked : (x : tales.Client) → (f x).link ≡ x.link)
    (took : (x : tales.Client) → (f x).taken ≡ x.taken) (further : (x : tales.Client) → HasMore g.plan x (f x))
    (apart : (x : tales.Client) → is_link_id x.link link ≡ false → f x ≡ x) where
  abbrev lost_by : Aside
  lost_by = record { moment = g.tale.moment; clients = map f g.tale.clients; over = g.over; fresh = g.fresh }

  gone-so : (x : tales.Client) (row : Option Client) → is_some row ≡ false → IsClientOr g x row → IsClientOr (regrounded lost_by g) (f x) row
  gone-so x None none is = record {
    over = ap g.over (number x) ∙ is.over;
    homeless = λ h. ap (λ (n : ClientNo). ((view_on g).held (present (view_on g) n h)).home) (number x) ∙ is.homeless h;
  }
  gone-so x (Some row) none is = false-true true none refl

  lost-by : (x : tales.Client) → t.numbers link ≡ None → IsAt g t x → (b : Bool) → is_link_id x.link link ≡ b
      → IsClientOr (regrounded lost_by g) (f x) (t.clients x.number)
  lost-by x none at true is =
      gone-so x (t.clients x.number)
      (isnt-true (is_some (t.clients x.number)) (λ some. none-some (t.numbers link) x.number none (ap t.numbers (sym (link-true x.link link is)) ∙ at.found some))) at.row
  lost-by x none at false is =
      subst (λ (y : tales.Client). IsClientOr (regrounded lost_by g) y (t.clients x.number)) (sym (apart x is))
      (client-before g lost_by x (record { own = λ ordinal below. refl; word = λ over. refl; over = refl; fresh = refl }) (t.clients x.number) at.row)

  pub lost-so : Stands service g t → t.numbers link ≡ None → Stands service (regrounded lost_by g) t
  lost-so was none =
      stands-told g lost_by t f (record { clients = refl; moment = refl; number = number; link = linked; taken = took; more = further; ends = λ n is. is; kept = λ n. refl; numbers = λ l. refl }) service was
      (λ k d below. let x = slice_index_or g.tale.clients k d in lost-by x none (was.clients.each k d below) (is_link_id x.link link) refl)

pub unheard-so : (service : Service) (g : Ground) (t : Tabled) (link : LinkId) (bytes : List ℕ) → Stands service g t → is_to_server g.tale link ≡ false
    → t.numbers link ≡ None → Stands service (on g (told g.setup g.plan g.tale (Got link bytes))) t
unheard-so service g t link bytes was aside none =
    subst (λ (tale : Tale). Stands service (on g tale) t) (sym (heard-tale g link bytes aside))
    (lost-so service g t link (client_hears link bytes) (hears-number link bytes) (hears-link link bytes) (hears-taken link bytes) (hears_more g.plan link bytes)
    (hears-not link bytes) was none)
