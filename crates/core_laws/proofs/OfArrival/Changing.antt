-- A client's seat is another one, and so may be what was read of it and written to it.
use Rattle.std.specs.Prelude.{◌≡◌, ◌⊎◌, ℕ, Bool, true, false, All, filter, map, is_some, slice_index_or, if◌then◌else◌, List, Option, Some, None}
use Rattle.std.specs.Option.{option_map}
use Rattle.std.proofs.Common.{◌∙◌, refl, sym, ap, subst, inl, inr, arith}
use Rattle.std.proofs.lemmas.List.Elements.{All-map}
use Rattle.mx_base.specs.declared.names.Hostgroup.{Hostgroup}
use Rattle.private_model.proofs.Maps.{same_number}
use Rattle.private_model.specs.Names.{ClientNo, LinkId, SessionName}
use Rattle.private_model.specs.Story.{is_client, is_link_id}
use Rattle.client_session.specs.Setups.{Setup as Service}
use Rattle.log_story.specs.Tale as tales
use Rattle.log_story.specs.Tale.{is_to_server}
use Rattle.step_laws.specs.Seats.{AreCounted}
use Rattle.client_seat.specs.declared.seat.Seat.{Seat}
use Rattle.link_state.specs.declared.asking.Purpose.{Purpose}
use Rattle.link_state.specs.declared.asking.Purpose.TheVariants as purposes
use Rattle.lent_link.specs.declared.link.Begins.{Begins}
use Rattle.lent_link.specs.declared.link.Begins.TheVariants as begins
use Rattle.served_link.specs.declared.row.Row.{Row}
use Rattle.client_desk.specs.Desks.{session_of}
use Rattle.client_desk.specs.declared.session.Session.{Session}
use Rattle.client_desk.specs.declared.work.Work.{Work}
use Rattle.core_tables.specs.Tables.{IsSame, Tabled, client_changed, client_put, number_put}
use Rattle.core_tables.specs.declared.client.Client.{Client}
use Rattle.core_tables.specs.declared.server.Server.{Server}
use Rattle.core_stands.specs.Clients.{IsClient, IsClientOr}
use Rattle.core_stands.specs.Grounds.{Ground}
use Rattle.core_stands.specs.Servers.{IsServer, IsServerBy, IsServerOr}
use Rattle.core_stands.specs.Stands.{AreClients, AreHomes, IsAt, IsHome, IsKnown, Stands}
use Rattle.core_laws.specs.parting.Frames.{IsGlanced, IsStated, Keeps, KeepsNext, KeepsNextFor, KeepsOr, client_at, glance}
use Rattle.core_laws.proofs.OfArrival.Finding.{client-true, none-some, numbers-by, of-some, only-passes, same-some, seated-by}
use Rattle.core_laws.proofs.OfArrival.Grounding.{Aside, GoOn, regrounded, servers-so}
use Rattle.core_laws.proofs.OfPrepared.Mapping.{HasMore, told_prepared}
use Rattle.core_laws.proofs.OfPrepared.Rows.{KeepsPrepared, RowOf, row_itself, row_kept, rows_same}
use Rattle.client_seat.specs.Seats.{is_ended}

-- Rows that are put.

pub put-same : (c : ClientNo) (row : Option Client) (t : Tabled) → (client_put c row t).clients c ≡ row
put-same c row t = ap (λ b. if b then row else t.clients c) (same_number c.0)

pub put-other : (c other : ClientNo) (row : Option Client) (t : Tabled) → is_client c other ≡ false → (client_put c row t).clients other ≡ t.clients other
put-other c other row t isnt = ap (λ b. if b then row else t.clients other) isnt

pub number-same : (l : LinkId) (c : Option ClientNo) (t : Tabled) → (number_put l c t).numbers l ≡ c
number-same l c t = ap (λ b. if b then c else t.numbers l) (same_number l.0)

pub number-other : (l other : LinkId) (c : Option ClientNo) (t : Tabled) → is_link_id l other ≡ false → (number_put l c t).numbers other ≡ t.numbers other
number-other l other c t isnt = ap (λ b. if b then c else t.numbers other) isnt

-- What rows of links read of clients stays where those that are read otherwise have nothing in work.

pub record AreIdle (t now : Tabled) (c : ClientNo) : Type 0 where
  pub was : (row : Client) → t.clients c ≡ Some row → row.desk.work ≡ None
  pub is : (row : Client) → now.clients c ≡ Some row → row.desk.work ≡ None

abbrev pub AreRead : (t now : Tabled) → Type 0
AreRead t now = (c : ClientNo) → IsGlanced t now c ⊎ AreIdle t now c

abbrev pub InWork : Type 0
InWork = (g : Ground) (t : Tabled) (l : LinkId) (row : Row) (c : ClientNo) → IsServer g t l row → row.link.spoilt ≡ false → row.lost ≡ false
    → row.left ≡ None → client_at row.link.state.stage ≡ Some c → (client : Client) × (work : Work) × IsStated t c client work

abbrev pub RowsStay : Type 0
RowsStay = (g : Ground) (t other : Tabled) (l : LinkId) (row : Option Server) → IsServerOr g t l row → KeepsOr t other row → IsServerOr g other l row

module _ (in_work : InWork) (g : Ground) (t now : Tabled) (read : AreRead t now) where
  next-for : (purpose : Purpose) → KeepsNextFor t now purpose
  next-for (purposes.Statement n ordinal key) = by (read n.client) where
    by : IsGlanced t now n.client ⊎ AreIdle t now n.client → KeepsNextFor t now (purposes.Statement n ordinal key)
    by (inl same) = inl same
    by (inr idle) = inr (λ row work there busy. none-some row.desk.work work (idle.is row there) busy)
  next-for (purposes.Prep n ordinal key) = tt
  next-for (purposes.Sync n) = tt
  next-for purposes.Own = tt
  next-for (purposes.End n) = tt
  next-for (purposes.Capture n) = tt

  next-kept : (next : Option Begins) → KeepsNext t now next
  next-kept None = tt
  next-kept (Some (begins.Asks asking)) = next-for asking.purpose
  next-kept (Some (begins.Closes number)) = tt
  next-kept (Some (begins.Resets number)) = tt
  next-kept (Some begins.Quits) = tt

  glanced : (c : ClientNo) (client : Client) (work : Work) → IsStated t c client work → IsGlanced t now c ⊎ AreIdle t now c → IsGlanced t now c
  glanced c client work stated (inl same) = same
  glanced c client work stated (inr idle) = none-some client.desk.work work (idle.was client stated.there) stated.in_work

  keeps : (l : LinkId) (row : Row) → IsServer g t l row → Keeps t now row
  keeps l row is = record {
    next = next-kept row.link.next;
    there = λ sound kept present c at.
        let busy = in_work g t l row c is sound kept present at in
        glanced c busy.0 busy.1 busy.2 (read c);
  }

  keeps-by : (l : LinkId) (to_server : Bool) (row : Option Server) → IsServerBy to_server g t l row → KeepsOr t now row
  keeps-by l to_server None is = tt
  keeps-by l true (Some server) is = keeps l server.row is
  keeps-by l false (Some server) is = none-some (Some server) server is refl

  pub servers-read : RowsStay → (l : LinkId) (row : Option Server) → IsServerOr g t l row → IsServerOr g now l row
  servers-read stay l row is = stay g t now l row is (keeps-by l (is_to_server g.tale l) row is)

-- Clients of the tale are others, with their numbers and links; and the tables have rows for the same of them.

pub record IsTold (g : Ground) (by : Aside) (t now : Tabled) (f : tales.Client → tales.Client) : Type 0 where
  pub clients : by.clients ≡ map f g.tale.clients
  pub moment : by.moment ≡ g.tale.moment
  pub number : (x : tales.Client) → (f x).number ≡ x.number
  pub link : (x : tales.Client) → (f x).link ≡ x.link
  pub taken : (x : tales.Client) → (f x).taken ≡ x.taken
  pub more : (x : tales.Client) → HasMore g.plan x (f x)
  pub ends : (n : ClientNo) → g.over n ≡ true → by.over n ≡ true
  pub kept : (n : ClientNo) → is_some (now.clients n) ≡ is_some (t.clients n)
  pub numbers : (l : LinkId) → now.numbers l ≡ t.numbers l

module _ (g : Ground) (by : Aside) (t now : Tabled) (f : tales.Client → tales.Client) (told : IsTold g by t now f) where
  abbrev later : Ground
  later = regrounded by g

  alone-by : (x : tales.Client) → IsAt g t x → All (λ (other : tales.Client). is_link_id other.link (f x).link ≡ true → other.number ≡ (f x).number) by.clients
  alone-by x was =
      subst (λ (xs : List tales.Client). All (λ (other : tales.Client). is_link_id other.link (f x).link ≡ true → other.number ≡ (f x).number) xs) (sym told.clients)
      (All-map (λ (other : tales.Client). is_link_id other.link (f x).link ≡ true → other.number ≡ (f x).number) f g.tale.clients
      (λ k d below. let y = slice_index_or g.tale.clients k d in λ same.
      told.number y ∙ was.alone k d below (sym (λ i. is_link_id (told.link y i) (told.link x i)) ∙ same) ∙ sym (told.number x)))

  at-by : (x : tales.Client) → IsAt g t x → IsClientOr later (f x) (now.clients x.number) → IsAt later now (f x)
  at-by x was is = record {
    row = subst (λ (n : ClientNo). IsClientOr later (f x) (now.clients n)) (sym (told.number x)) is;
    found = λ some.
        told.numbers (f x).link ∙ ap t.numbers (told.link x)
        ∙ was.found (sym (told.kept x.number) ∙ ap (λ (n : ClientNo). is_some (now.clients n)) (sym (told.number x)) ∙ some)
        ∙ ap (λ (n : ClientNo). Some n) (sym (told.number x));
    aside = ap (is_to_server g.tale) (told.link x) ∙ was.aside;
    alone = alone-by x was;
  }

  known-by : (n : ClientNo) (x : tales.Client) → IsKnown g n x → IsKnown later n (f x)
  known-by n x is = record {
    seated = ap (λ (xs : List tales.Client). filter (λ (y : tales.Client). is_client y.number (f x).number) xs) told.clients
        ∙ seated-by f told.number g.tale.clients x is.seated;
    number = told.number x ∙ is.number;
  }

  pub go-on : GoOn g.tale later.tale
  go-on x seated =
      let same : x.taken ≡ (f x).taken = sym (told.taken x) in (
        f x,
        record {
          seated = (known-by x.number x (record { seated = seated; number = refl })).seated;
          number = told.number x;
          taken = omega (arith, same);
        },
      )

  some-kept : (n : ClientNo) (r : Client) → now.clients n ≡ Some r → (old : Client) × (t.clients n ≡ Some old)
  some-kept n r is = of-some (t.clients n) (sym (told.kept n) ∙ ap is_some is)

  pub are-clients : AreClients g t → All (λ (x : tales.Client). IsClientOr later (f x) (now.clients x.number)) g.tale.clients → AreClients later now
  are-clients are each = record {
    counted = subst (AreCounted 1) (sym (ap (map (λ (x : tales.Client). x.number)) told.clients ∙ numbers-by f told.number g.tale.clients)) are.counted;
    each = subst (λ (xs : List tales.Client). All (IsAt later now) xs) (sym told.clients)
        (All-map (IsAt later now) f g.tale.clients
        (λ k d below. at-by (slice_index_or g.tale.clients k d) (are.each k d below) (each k d below)));
    known = λ n r is.
        let old = some-kept n r is in
        let found = are.known n old.0 old.1 in
        (f found.0, known-by n found.0 found.1);
    named = λ l n is.
        let found = are.named l n (sym (told.numbers l) ∙ is) in
        (f found.0, known-by n found.0 found.1, told.link found.0 ∙ found.2, told.kept n ∙ found.3);
  }

-- where the tables are the same
pub stands-told : (g : Ground) (by : Aside) (t : Tabled) (f : tales.Client → tales.Client) → IsTold g by t t f → (service : Service) → Stands service g t
    → All (λ (x : tales.Client). IsClientOr (regrounded by g) (f x) (t.clients x.number)) g.tale.clients → Stands service (regrounded by g) t
stands-told g by t f told service was each = record {
  service_is = was.service_is;
  room_is = was.room_is;
  clients = are-clients g by t t f told was.clients each;
  servers = λ l. servers-so by g t (go-on g by t t f told) told.ends l (t.links l) (was.servers l);
  homes = record { carried = was.homes.carried; home = was.homes.home };
  lawful = was.lawful;
  prepared = told_prepared g (regrounded by g).tale by.over by.fresh t t f told.clients told.number told.taken told.more told.moment was.clients was.prepared
      (rows_same t t (λ c. refl));
  duly = was.duly;
}

-- The seat of one is another.

abbrev pub reseat : Seat → Client → Client
reseat seat row = record row { desk = record row.desk { seat = seat } }

pub record IsChange (g : Ground) (by : Aside) (t now : Tabled) (c : ClientNo) (f : tales.Client → tales.Client) (row : Client) (seat : Seat) : Type 0 where
  pub clients : by.clients ≡ map f g.tale.clients
  pub moment : by.moment ≡ g.tale.moment
  pub number : (x : tales.Client) → (f x).number ≡ x.number
  pub link : (x : tales.Client) → (f x).link ≡ x.link
  pub taken : (x : tales.Client) → (f x).taken ≡ x.taken
  pub more : (x : tales.Client) → HasMore g.plan x (f x)
  pub ends : (n : ClientNo) → g.over n ≡ true → by.over n ≡ true
  pub there : t.clients c ≡ Some row
  pub changed : now.clients c ≡ Some (reseat seat row)
  pub others : (other : ClientNo) → is_client c other ≡ false → now.clients other ≡ t.clients other
  pub numbers : (l : LinkId) → now.numbers l ≡ t.numbers l
  pub links : (l : LinkId) → now.links l ≡ t.links l

-- a row with the sessions of another
pub record IsWith (t : Tabled) (c : ClientNo) (row other : Client) : Type 0 where
  pub there : t.clients c ≡ Some other
  pub sessions : (h : Hostgroup) → session_of other.desk h ≡ session_of row.desk h

module _ (g : Ground) (by : Aside) (t now : Tabled) (c : ClientNo) (f : tales.Client → tales.Client) (row : Client) (seat : Seat)
    (change : IsChange g by t now c f row seat) where
  abbrev after : Ground
  after = regrounded by g

  pub kept-by : (n : ClientNo) (b : Bool) → is_client c n ≡ b → is_some (now.clients n) ≡ is_some (t.clients n)
  kept-by n true is =
      subst (λ (m : ClientNo). is_some (now.clients m) ≡ is_some (t.clients m)) (client-true c n is)
      (ap is_some change.changed ∙ sym (ap is_some change.there))
  kept-by n false is = ap is_some (change.others n is)

  told-so : IsTold g by t now f
  told-so = record {
    clients = change.clients;
    moment = change.moment;
    number = change.number;
    link = change.link;
    taken = change.taken;
    more = change.more;
    ends = change.ends;
    kept = λ n. kept-by n (is_client c n) refl;
    numbers = change.numbers;
  }

  abbrev IsStood : tales.Client → Type 0
  IsStood x = IsClientOr after (f x) (now.clients x.number)

  -- homes

  had-by : (n : ClientNo) (r : Client) (b : Bool) → is_client c n ≡ b → now.clients n ≡ Some r → (old : Client) × IsWith t n r old
  had-by n r true is there =
      let same = client-true c n is in
      let r_is : reseat seat row ≡ r = same-some (now.clients n) (reseat seat row) r (ap now.clients (sym same) ∙ change.changed) there in
      (row, record { there = ap t.clients (sym same) ∙ change.there; sessions = λ h. ap (λ (x : Client). session_of x.desk h) r_is })
  had-by n r false is there = (r, record { there = sym (change.others n is) ∙ there; sessions = λ h. refl })

  has-by : (n : ClientNo) (old : Client) (b : Bool) → is_client c n ≡ b → t.clients n ≡ Some old → (r : Client) × IsWith now n old r
  has-by n old true is there =
      let same = client-true c n is in
      let old_is : row ≡ old = same-some (t.clients n) row old (ap t.clients (sym same) ∙ change.there) there in
      (reseat seat row, record { there = ap now.clients (sym same) ∙ change.changed; sessions = λ h. ap (λ (x : Client). session_of x.desk h) old_is })
  has-by n old false is there = (old, record { there = change.others n is ∙ there; sessions = λ h. refl })

  home-so : (l : LinkId) (n : SessionName) (server : Server) → IsHome t l n server → IsHome now l n server
  home-so l n server is = record { there = change.links l ∙ is.there; carries = is.carries; present = is.present; whole = is.whole }

  pub are-homes : AreHomes g t → AreHomes after now
  are-homes are = record {
    carried = λ n r h l there home.
        let old = had-by n r (is_client c n) refl there in
        let same = old.1.sessions h in
        let was = are.carried n old.0 h l old.1.there (ap (λ (s : Session). s.home) same ∙ home) in
        (was.0, subst (λ (life : ℕ). IsHome now l (record { client = n; hostgroup = h; life = life }) was.0) (ap (λ (s : Session). s.life) same) (home-so l _ was.0 was.1));
    home = λ l server n there carries present whole.
        let was = are.home l server n (sym (change.links l) ∙ there) carries present whole in
        let new = has-by n.client was.0 (is_client c n.client) refl was.1 in
        let same = new.1.sessions n.hostgroup in
        (new.0, new.1.there, ap (λ (s : Session). s.home) same ∙ was.2, ap (λ (s : Session). s.life) same ∙ was.3);
  }

  -- what links read

  pub read-by : (glance (reseat seat row) ≡ glance row) ⊎ (row.desk.work ≡ None) → (n : ClientNo) (b : Bool) → is_client c n ≡ b → IsGlanced t now n ⊎ AreIdle t now n
  read-by (inl same) n true is =
      inl (subst (λ (m : ClientNo). IsGlanced t now m) (client-true c n is)
      (ap (option_map glance) change.changed ∙ ap (λ seen. Some seen) same ∙ sym (ap (option_map glance) change.there)))
  read-by (inr idle) n true is =
      inr (subst (λ (m : ClientNo). AreIdle t now m) (client-true c n is)
      (record {
        was = λ old there. ap (λ (x : Client). x.desk.work) (same-some (t.clients c) old row there change.there) ∙ idle;
        is = λ new there. ap (λ (x : Client). x.desk.work) (same-some (now.clients c) new (reseat seat row) there change.changed) ∙ idle;
      }))
  read-by same n false is = inl (ap (option_map glance) (change.others n is))

  row-before : (is_ended seat.phase ≡ false → KeepsPrepared row.desk.seat seat) → (n : ClientNo) (r : Client) → now.clients n ≡ Some r
      → is_ended r.desk.seat.phase ≡ false → (b : Bool) → is_client c n ≡ b → RowOf t n r
  row-before keeps n r there going true is =
      let same = client-true c n is in
      let r_is : reseat seat row ≡ r = same-some (now.clients n) (reseat seat row) r (ap now.clients (sym same) ∙ change.changed) there in
      row_kept t n row r (ap t.clients (sym same) ∙ change.there)
      (subst (λ (x : Client). KeepsPrepared row.desk.seat x.desk.seat) r_is (keeps (ap (λ (x : Client). is_ended x.desk.seat.phase) r_is ∙ going)))
  row-before keeps n r there going false is = row_itself t n r (sym (change.others n is) ∙ there) going

  pub stands-by : InWork → RowsStay → (service : Service) → Stands service g t → (is_ended seat.phase ≡ false → KeepsPrepared row.desk.seat seat)
      → (glance (reseat seat row) ≡ glance row) ⊎ (row.desk.work ≡ None) → All IsStood g.tale.clients → Stands service after now
  stands-by in_work stay service was keeps same each = record {
    service_is = was.service_is;
    room_is = was.room_is;
    clients = are-clients g by t now f told-so was.clients each;
    servers = λ l. subst (λ (r : Option Server). IsServerOr after now l r) (sym (change.links l))
        (servers-so by g now (go-on g by t now f told-so) change.ends l (t.links l)
        (servers-read in_work g t now (λ n. read-by same n (is_client c n) refl) stay l (t.links l) (was.servers l)));
    homes = are-homes was.homes;
    lawful = was.lawful;
    prepared = told_prepared g after.tale by.over by.fresh t now f change.clients change.number change.taken change.more change.moment was.clients was.prepared
        (λ n r there going. row-before keeps n r there going (is_client c n) refl);
    duly = was.duly;
  }

  -- the client itself, and the others

  pub each-by : (client : tales.Client) → IsKnown g c client → AreClients g t → IsClient after (f client) (reseat seat row)
      → ((x : tales.Client) → IsAt g t x → is_client c x.number ≡ false → IsClientOr after (f x) (t.clients x.number))
      → All IsStood g.tale.clients
  each-by client known are own others = λ k d below.
      let x = slice_index_or g.tale.clients k d in
      let passes = only-passes (λ (y : tales.Client). is_client y.number client.number) g.tale.clients client known.seated k d below in
      stood x (are.each k d below) passes (is_client c x.number) refl where
        turned-round : (a b : ClientNo) → a ≡ b → is_client b a ≡ true
        turned-round a b is = ap (is_client b) is ∙ same_number b.0

        stood : (x : tales.Client) → IsAt g t x → (is_client x.number client.number ≡ true → x ≡ client) → (b : Bool) → is_client c x.number ≡ b → IsStood x
        stood x was passes true is =
            let same : x ≡ client = passes (turned-round client.number x.number (known.number ∙ client-true c x.number is)) in
            subst IsStood (sym same) (subst (λ (r : Option Client). IsClientOr after (f client) r) (sym (ap now.clients known.number ∙ change.changed)) own)
        stood x was passes false is = subst (λ (r : Option Client). IsClientOr after (f x) r) (sym (change.others x.number is)) (others x was is)

-- so a seat changes by what is said of the tables
pub changed-so : (by : Seat → Seat) (c : ClientNo) (t now : Tabled) (row : Client) → t.clients c ≡ Some row
    → IsSame now (client_changed c (λ (r : Client). reseat (by r.desk.seat) r) t) → now.clients c ≡ Some (reseat (by row.desk.seat) row)
changed-so by c t now row there same =
    same.clients c ∙ put-same c (option_map (λ (r : Client). reseat (by r.desk.seat) r) (t.clients c)) t
    ∙ ap (option_map (λ (r : Client). reseat (by r.desk.seat) r)) there
