-- Bytes are written to a client.
use Rattle.std.specs.Prelude.{◌≡◌, ◌≤◌, ◌+◌, ℕ, Bool, true, false, if◌then◌else◌, drop, length, take, map, List, ◌++◌, Option, Some, None}
use Rattle.std.proofs.Common.{◌∙◌, refl, sym, ap, subst, arith, append_assoc, length-append, inl}
use Rattle.mx_base.specs.declared.names.LinkId.{LinkId}
use Rattle.mx_base.specs.declared.tag.Tag.{Tag}
use Rattle.mx_wire.specs.declared.entry.Entry.TheVariants.{Wrote}
use Rattle.client_side.specs.Reading.{IsLoggingIn}
use Rattle.client_session.specs.Setups.{Setup as Service}
use Rattle.client_seat.proofs.Sending.{front_length, parts}
use Rattle.client_seat.specs.Seats.{is_ended, wrote}
use Rattle.client_seat.specs.Stands.{IsHeardIn, IsWrittenOf}
use Rattle.client_seat.specs.declared.phase.Phase.{Phase}
use Rattle.client_seat.specs.declared.phase.Phase.TheVariants as phase
use Rattle.client_seat.specs.declared.seat.Seat.{Seat}
use Rattle.private_model.specs.Names.{ClientNo}
use Rattle.private_model.specs.Story.{is_client, is_link_id}
use Rattle.log_story.specs.Owed.{name_of}
use Rattle.log_story.specs.Plan.{own_at, word_at}
use Rattle.log_story.specs.Servers.{writes}
use Rattle.log_story.specs.Tale as tales
use Rattle.log_story.specs.Tale.{Tale, client_gets, is_to_server}
use Rattle.log_story.specs.Telling.{told}
use Rattle.core_tables.specs.Arrivals.{written_to}
use Rattle.core_tables.specs.Tables.{IsSame, Tabled}
use Rattle.core_tables.specs.declared.client.Client.{Client}
use Rattle.core_stands.specs.Clients.{IsClient, IsClientOr, IsFrontOf, IsOwing, IsPhase}
use Rattle.core_stands.specs.Grounds.{Ground, on}
use Rattle.core_stands.specs.Stands.{IsAt, IsKnown, Stands}
use Rattle.core_laws.proofs.OfArrival.Changing.{InWork, IsChange, RowsStay, changed-so, each-by, put-other, reseat, stands-by}
use Rattle.core_laws.proofs.OfArrival.Finding.{at-known, false-true, link-same, one-link}
use Rattle.core_laws.proofs.OfArrival.Grounding.{Aside, regrounded}
use Rattle.core_laws.proofs.OfArrival.Liking.{IsLike, client-before, going-like, over-like, owing-like}
use Rattle.core_laws.proofs.OfArrival.Speaking.{lost-so}
use Rattle.core_laws.proofs.OfPrepared.Mapping.{gets_more}

pub written-tale : (g : Ground) (link : LinkId) (tag : Tag) (bytes : List ℕ) → is_to_server g.tale link ≡ false
    → told g.setup g.plan g.tale (Wrote link tag bytes) ≡ record g.tale { clients = map (client_gets link (length bytes)) g.tale.clients }
written-tale g link tag bytes aside =
    ap (λ (b : Bool). if b then writes g.setup g.plan link tag bytes (g.tale.wires link) g.tale
    else record g.tale { clients = map (client_gets link (length bytes)) g.tale.clients }) aside

abbrev pub fuller : ℕ → tales.Client → tales.Client
fuller n x = record x { written = x.written + n }

gets-here : (link : LinkId) (n : ℕ) (x : tales.Client) → is_link_id x.link link ≡ true → client_gets link n x ≡ fuller n x
gets-here link n x is = ap (λ (b : Bool). if b then fuller n x else x) is

gets-not : (link : LinkId) (n : ℕ) (x : tales.Client) → is_link_id x.link link ≡ false → client_gets link n x ≡ x
gets-not link n x is = ap (λ (b : Bool). if b then fuller n x else x) is

gets-number : (link : LinkId) (n : ℕ) (x : tales.Client) → (client_gets link n x).number ≡ x.number
gets-number link n x = by (is_link_id x.link link) where
  by : (b : Bool) → (if b then fuller n x else x).number ≡ x.number
  by true = refl
  by false = refl

gets-link : (link : LinkId) (n : ℕ) (x : tales.Client) → (client_gets link n x).link ≡ x.link
gets-link link n x = by (is_link_id x.link link) where
  by : (b : Bool) → (if b then fuller n x else x).link ≡ x.link
  by true = refl
  by false = refl

gets-taken : (link : LinkId) (n : ℕ) (x : tales.Client) → (client_gets link n x).taken ≡ x.taken
gets-taken link n x = by (is_link_id x.link link) where
  by : (b : Bool) → (if b then fuller n x else x).taken ≡ x.taken
  by true = refl
  by false = refl

-- What was written, with these.

sent-so : (before due : List ℕ) (n : ℕ) → (before ++ take n due) ++ drop n due ≡ before ++ due
sent-so before due n = append_assoc before (take n due) (drop n due) ∙ ap (λ (all : List ℕ). before ++ all) (parts n due)

size-so : (before due : List ℕ) (n count : ℕ) → n ≤ length due → length before ≡ count → length (before ++ take n due) ≡ count + n
size-so before due n count within is = omega (arith, length-append before (take n due), is, front_length n due within)

module _ (g : Ground) (by : Aside) (n : ℕ) (client : tales.Client) (row : Client) (moment : by.moment ≡ g.tale.moment)
    (over : by.over client.number ≡ g.over client.number) (within : n ≤ length row.desk.seat.outbox.due) where
  abbrev after : Ground
  after = regrounded by g

  abbrev seat : Seat
  seat = row.desk.seat

  like : IsLike g by client (fuller n client)
  like = record {
    number = refl;
    taken = refl;
    own = λ ordinal below. ap (λ (m : ℕ). own_at g.plan m (name_of client ordinal)) moment;
  }

  heard-in : (at : Phase) → IsHeardIn at g.plan client seat → IsHeardIn at g.plan (fuller n client) (wrote n seat)
  heard-in phase.LoggingIn is = record {
    limit = is.limit;
    untaken = is.untaken;
    arrived = is.arrived;
    written = is.written ++ take n seat.outbox.due;
    size = size-so is.written seat.outbox.due n client.written within is.size;
    login = subst (λ (said : List ℕ). IsLoggingIn seat.client.stage seat.client g.plan.service.version client.read said)
        (sym (sent-so is.written seat.outbox.due n)) is.login;
  }
  heard-in (phase.Serving account) is = record {
    limit = is.limit;
    known = is.known;
    logged_in = is.logged_in;
    faultless = is.faultless;
    arrived = is.arrived;
    gone = is.gone;
    size = is.size;
    rest = is.rest;
  }
  heard-in phase.Ended is = tt

  written-so : (due : List ℕ) → IsWrittenOf client seat due → IsWrittenOf (fuller n client) (wrote n seat) due
  written-so due is = record {
    written = is.written ++ take n seat.outbox.due;
    size = size-so is.written seat.outbox.due n client.written within is.size;
    all = is.all ∙ sym (sent-so is.written seat.outbox.due n);
  }

  front-so : (due : List ℕ) → IsFrontOf client seat due → IsFrontOf (fuller n client) (wrote n seat) due
  front-so due is = record {
    written = is.written ++ take n seat.outbox.due;
    size = size-so is.written seat.outbox.due n client.written within is.size;
    front = record { rest = is.front.rest; is = ap (λ (all : List ℕ). all ++ is.front.rest) (sent-so is.written seat.outbox.due n) ∙ is.front.is };
  }

  phase-in : (ended : Bool) → IsPhase ended g client row → IsPhase ended after (fuller n client) (reseat (wrote n seat) row)
  phase-in true is =
      over-like g by client (fuller n client) like row (wrote n seat) (over ∙ is.over)
      (ap (λ (m : ℕ). word_at g.plan m client.number) moment) is
  phase-in false is =
      going-like g by client (fuller n client) like row (wrote n seat) (over ∙ is.going) refl refl (λ busy. (refl, refl)) (λ busy message at. at)
      is.account is.collation is.unmoved is

  got-so : by.fresh client.number ≡ g.fresh client.number → IsClient g client row → IsClient after (fuller n client) (reseat (wrote n seat) row)
  got-so fresh is = record {
    who = record { link = is.who.link; number = is.who.number; port = is.who.port; salt = is.who.salt; drained = is.who.drained };
    heard = heard-in seat.phase is.heard;
    owed =
        subst (λ (flag : Bool). IsOwing seat.phase flag after (fuller n client) (wrote n seat)) (sym fresh)
        (owing-like g by client (fuller n client) like seat.phase (g.fresh client.number) seat (wrote n seat) refl
        (λ ended. ap (λ (m : ℕ). word_at g.plan m client.number) moment) written-so front-so is.owed);
    desk = record { number = is.desk.number; sessions = is.desk.sessions; place = is.desk.place; work = is.desk.work; row = is.desk.row };
    coming = is.coming;
    phase = phase-in (is_ended seat.phase) is.phase;
  }

-- The tables stand for the tale then.

module _ (in_work : InWork) (stay : RowsStay) (service : Service) (g : Ground) (t now : Tabled) (link : LinkId) (tag : Tag) (bytes : List ℕ) where
  abbrev f : tales.Client → tales.Client
  f = client_gets link (length bytes)

  abbrev gets_by : Aside
  gets_by = record { moment = g.tale.moment; clients = map f g.tale.clients; over = g.over; fresh = g.fresh }

  change : (c : ClientNo) (row : Client) → t.clients c ≡ Some row → IsSame now (written_to c (length bytes) t)
      → IsChange g gets_by t now c f row (wrote (length bytes) row.desk.seat)
  change c row there same = record {
    clients = refl;
    moment = refl;
    number = gets-number link (length bytes);
    link = gets-link link (length bytes);
    taken = gets-taken link (length bytes);
    more = gets_more g.plan link (length bytes);
    ends = λ n is. is;
    there = there;
    changed = changed-so (wrote (length bytes)) c t now row there same;
    others = λ other apart. same.clients other ∙ put-other c other _ t apart;
    numbers = same.numbers;
    links = same.links;
  }

  other-so : (c : ClientNo) (client x : tales.Client) → IsKnown g c client → client.link ≡ link → IsAt g t x → is_client c x.number ≡ false
      → (b : Bool) → is_link_id x.link link ≡ b → IsClientOr (regrounded gets_by g) (f x) (t.clients x.number)
  other-so c client x known has at apart true is = false-true (is_client c x.number) apart (one-link g t c client x link known has at is)
  other-so c client x known has at apart false is =
      subst (λ (y : tales.Client). IsClientOr (regrounded gets_by g) y (t.clients x.number)) (sym (gets-not link (length bytes) x is))
      (client-before g gets_by x (record { own = λ ordinal below. refl; word = λ over. refl; over = refl; fresh = refl }) (t.clients x.number) at.row)

  own-so : (c : ClientNo) (client : tales.Client) (row : Client) → Stands service g t → IsKnown g c client → client.link ≡ link → t.clients c ≡ Some row
      → length bytes ≤ length row.desk.seat.outbox.due → IsClient (regrounded gets_by g) (f client) (reseat (wrote (length bytes) row.desk.seat) row)
  own-so c client row was known has there within =
      let at = at-known g t c client was.clients known in
      let stood : IsClient g client row = subst (λ (r : Option Client). IsClientOr g client r) (ap t.clients known.number ∙ there) at.row in
      subst (λ (y : tales.Client). IsClient (regrounded gets_by g) y (reseat (wrote (length bytes) row.desk.seat) row))
      (sym (gets-here link (length bytes) client (link-same client.link link has)))
      (got-so g gets_by (length bytes) client row refl refl within refl stood)

  pub gets-so : (c : ClientNo) (row : Client) → Stands service g t → t.numbers link ≡ Some c → t.clients c ≡ Some row
      → length bytes ≤ length row.desk.seat.outbox.due → IsSame now (written_to c (length bytes) t)
      → Stands service (on g (told g.setup g.plan g.tale (Wrote link tag bytes))) now
  gets-so c row was number there within same =
      let named = was.clients.named link c number in
      let client = named.0 in
      let at = at-known g t c client was.clients named.1 in
      let aside : is_to_server g.tale link ≡ false = ap (is_to_server g.tale) (sym named.2) ∙ at.aside in
      let changes = change c row there same in
      subst (λ (tale : Tale). Stands service (on g tale) now) (sym (written-tale g link tag bytes aside))
      (stands-by g gets_by t now c f row (wrote (length bytes) row.desk.seat) changes in_work stay service was
      (λ on. record { going = on; statements = refl; answered = refl }) (inl refl)
      (each-by g gets_by t now c f row (wrote (length bytes) row.desk.seat) changes client named.1 was.clients
      (own-so c client row was named.1 named.2 there within)
      (λ x here apart. other-so c client x named.1 named.2 here apart (is_link_id x.link link) refl)))

pub ungot-so : (service : Service) (g : Ground) (t : Tabled) (link : LinkId) (tag : Tag) (bytes : List ℕ) → Stands service g t
    → is_to_server g.tale link ≡ false → t.numbers link ≡ None → Stands service (on g (told g.setup g.plan g.tale (Wrote link tag bytes))) t
ungot-so service g t link tag bytes was aside none =
    subst (λ (tale : Tale). Stands service (on g tale) t) (sym (written-tale g link tag bytes aside))
    (lost-so service g t link (client_gets link (length bytes)) (gets-number link (length bytes)) (gets-link link (length bytes))
    (gets-taken link (length bytes)) (gets_more g.plan link (length bytes)) (gets-not link (length bytes)) was none)
