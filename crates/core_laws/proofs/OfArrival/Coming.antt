-- A client comes.
use Rattle.std.specs.Prelude.{◌≡◌, ◌⊎◌, ◌<◌, ◌≤◌, ◌+◌, ℕ, suc, Bool, true, false, All, cond, is_some, length, map, slice_index_or, if◌then◌else◌, List, [], ◌∷◌, ◌++◌, Option, Some, None, filter}
use Rattle.std.specs.Option.{option_map}
use Rattle.std.proofs.Common.{◌∙◌, refl, sym, ap, subst, arith, inl, inr, length-append, append-nil}
use Rattle.std.proofs.Math.Seq.{get_or-append_seam}
use Rattle.std.proofs.lemmas.Bool.{ne_eqb}
use Rattle.std.proofs.lemmas.List.Elements.{All-cons, All-nil, All-push, All-weaker, filter-append}
use Rattle.mx_base.specs.declared.names.Hostgroup.{Hostgroup}
use Rattle.mx_base.specs.declared.names.LinkId.{LinkId}
use Rattle.mx_base.specs.declared.names.Port.{Port}
use Rattle.mx_wire.specs.declared.entry.Entry.{Entry}
use Rattle.mx_wire.specs.declared.entry.Entry.TheVariants.{Accepted}
use Rattle.private_model.proofs.Maps.{same_number}
use Rattle.private_model.specs.Names.{ClientNo}
use Rattle.private_model.specs.Story.{is_client, is_link_id}
use Rattle.private_model.specs.View.{Setup}
use Rattle.log_story.specs.Plan.{Plan}
use Rattle.log_story.specs.Tale as tales
use Rattle.log_story.specs.Tale.{Tale}
use Rattle.step_laws.specs.Seats.{AreCounted, IsSeated, numbers, seats as seats_of}
use Rattle.step_laws.specs.Steps.{told_then}
use Rattle.client_session.specs.Setups.{Setup as Service}
use Rattle.client_seat.specs.declared.seat.Seat.{Seat}
use Rattle.client_desk.specs.Desks.{session_of}
use Rattle.core_tables.specs.Arrivals.{came, newcomer}
use Rattle.core_tables.specs.Tables.{IsSame, Tabled}
use Rattle.core_tables.specs.declared.client.Client.{Client}
use Rattle.core_tables.specs.declared.client.ClientNote.{ClientNote}
use Rattle.core_tables.specs.declared.server.Server.{Server}
use Rattle.core_stands.specs.Clients.{IsClient, IsClientOr}
use Rattle.core_stands.specs.Grounds.{Ground, view_on}
use Rattle.core_stands.specs.Servers.{IsServerOr}
use Rattle.core_stands.specs.Stands.{AreClients, AreHomes, IsAt, IsHome, IsKnown, Stands, ArePrepared, IsPrepared}
use Rattle.core_laws.specs.parting.Frames.{IsGlanced, glance}
use Rattle.core_laws.specs.parting.Partings.{IsCounted}
use Rattle.core_laws.specs.arrival.Comes.{IsComing, newest}
use Rattle.core_laws.proofs.OfArrival.Changing.{AreIdle, InWork, RowsStay, put-other, put-same, servers-read}
use Rattle.core_laws.proofs.OfPrepared.Knowing.{knows_none}
use Rattle.core_laws.proofs.OfArrival.Finding.{client-same, client-true, false-true, link-same, link-true, none-some, of-known, same-some}
use Rattle.core_laws.proofs.OfArrival.Forgetting.{home-links}
use Rattle.core_laws.proofs.OfArrival.Grounding.{Aside, GoOn, regrounded, servers-so}
use Rattle.core_laws.proofs.OfArrival.Liking.{IsAsBefore, client-before}
use Rattle.client_seat.specs.Numbers.{number_in}
use Rattle.client_seat.specs.Seats.{is_ended}
use Rattle.core_laws.proofs.OfPrepared.Rows.{OwnsStay, prepared_by_row, row_itself}

-- Numbers go up to how many there are.

counted-below : (from : ℕ) (xs : List tales.Client) → AreCounted from (map (λ (x : tales.Client). x.number) xs)
    → All (λ (x : tales.Client). x.number.0 < from + length xs) xs
counted-below from [] are = All-nil (λ (x : tales.Client). x.number.0 < from + 0)
counted-below from (x ∷ xs) are =
    let first : x.number.0 ≡ from = are.0 in
    All-cons (λ (y : tales.Client). y.number.0 < from + length (x ∷ xs)) x xs (omega (arith, first))
    (All-weaker (λ (y : tales.Client). y.number.0 < suc from + length xs) (λ (y : tales.Client). y.number.0 < from + length (x ∷ xs)) (λ y below. omega (arith, below)) xs
    (counted-below (suc from) xs are.1))

last-of : {X : Type 0} (P : X → Type 0) (xs : List X) (x : X) → All P (xs ++ x ∷ []) → P x
last-of P xs x all =
    let below : length xs < length (xs ++ x ∷ []) = omega (arith, length-append xs (x ∷ [])) in
    subst P (get_or-append_seam xs x [] x) (all (length xs) x below)

abbrev pub CountsOn : Type 0
CountsOn = (setup : Setup) (plan : Plan) (tale : Tale) (e : Entry) → AreCounted 1 (numbers tale) → AreCounted 1 (numbers (told_then setup plan tale e))

abbrev pub AreSeated : Type 0
AreSeated = (tale : Tale) → AreCounted 1 (numbers tale) → All (IsSeated tale) tale.clients

module _ (counts : CountsOn) (seats : AreSeated) (in_work : InWork) (stay : RowsStay) (service : Service) (g : Ground) (t now : Tabled) (port : Port)
    (link : LinkId) (salt : List ℕ) (seat : Seat) (note : ClientNote) (over : ClientNo → Bool) (was : Stands service g t) (comes : IsComing g port link salt)
    (same : IsSame now (came (newest g port link salt).number link seat note t))
    (kept : (x : tales.Client) → is_client (newest g port link salt).number x.number ≡ false → over x.number ≡ g.over x.number)
    (ends : (n : ClientNo) → g.over n ≡ true → over n ≡ true) where
  abbrev new : tales.Client
  new = newest g port link salt

  abbrev c : ClientNo
  c = new.number

  abbrev row : Client
  row = newcomer seat note

  abbrev by : Aside
  by = record { moment = suc g.tale.moment; clients = g.tale.clients ++ new ∷ []; over = over; fresh = g.fresh }

  abbrev after : Ground
  after = regrounded by g

  -- who is there already

  below : All (λ (x : tales.Client). x.number.0 < 1 + length g.tale.clients) g.tale.clients
  below = counted-below 1 g.tale.clients was.clients.counted

  apart-by : (x : tales.Client) → x.number.0 < 1 + length g.tale.clients → is_client c x.number ≡ false
  apart-by x less = ne_eqb c.0 x.number.0 (λ is. omega (arith, is, less))

  apart-known : (n : ClientNo) (x : tales.Client) → IsKnown g n x → is_client c x.number ≡ false
  apart-known n x known = apart-by x (of-known (λ (y : tales.Client). y.number.0 < 1 + length g.tale.clients) g n x known below)

  absent : t.clients c ≡ None
  absent = absent-by (t.clients c) refl where
    absent-by : (found : Option Client) → t.clients c ≡ found → t.clients c ≡ None
    absent-by None is = is
    absent-by (Some old) is =
        let who = was.clients.known c old is in
        false-true (is_client c who.0.number) (apart-known c who.0 who.1) (client-same c who.0.number (sym who.1.number))

  row-new : (n : ClientNo) → is_client c n ≡ true → now.clients n ≡ Some row
  row-new n is = ap now.clients (sym (client-true c n is)) ∙ same.clients c ∙ put-same c (Some row) t

  row-stays : (n : ClientNo) → is_client c n ≡ false → now.clients n ≡ t.clients n
  row-stays n is = same.clients n ∙ put-other c n (Some row) t is

  number-new : (l : LinkId) → is_link_id link l ≡ true → now.numbers l ≡ Some c
  number-new l is = same.numbers l ∙ ap (λ (b : Bool). if b then Some c else t.numbers l) is

  number-stays : (l : LinkId) → is_link_id link l ≡ false → now.numbers l ≡ t.numbers l
  number-stays l is = same.numbers l ∙ ap (λ (b : Bool). if b then Some c else t.numbers l) is

  turned-round : (a b : LinkId) (x : Bool) → is_link_id a b ≡ x → is_link_id b a ≡ false → x ≡ false
  turned-round a b true is isnt = false-true (is_link_id b a) isnt (link-same b a (sym (link-true a b is)))
  turned-round a b false is isnt = refl

  -- clients

  as-before : (x : tales.Client) → is_client c x.number ≡ false → IsCounted g None x → IsAsBefore g by x
  as-before x apart still = record {
    own = λ ordinal within. still.own ordinal within refl;
    word = still.word;
    over = kept x apart;
    fresh = refl;
  }

  at-old : (x : tales.Client) → x.number.0 < 1 + length g.tale.clients → IsCounted g None x
      → is_link_id x.link link ≡ false → IsAt g t x → IsAt after now x
  at-old x less still other at =
      let apart = apart-by x less in
      let elsewhere : is_link_id link x.link ≡ false = turned-round link x.link (is_link_id link x.link) refl other in
      record {
        row = subst (λ (r : Option Client). IsClientOr after x r) (sym (row-stays x.number apart))
            (client-before g by x (as-before x apart still) (t.clients x.number) at.row);
        found = λ some. number-stays x.link elsewhere ∙ at.found (sym (ap is_some (row-stays x.number apart)) ∙ some);
        aside = at.aside;
        alone = All-push (λ (y : tales.Client). is_link_id y.link x.link ≡ true → y.number ≡ x.number) g.tale.clients new at.alone
            (λ is. false-true (is_link_id link x.link) elsewhere is);
      }

  at-new : IsClient after new row → IsAt after now new
  at-new own = record {
    row = subst (λ (r : Option Client). IsClientOr after new r) (sym (row-new c (same_number c.0))) own;
    found = λ some. number-new link (same_number link.0);
    aside = comes.link_is.aside;
    alone = All-push (λ (y : tales.Client). is_link_id y.link link ≡ true → y.number ≡ c) g.tale.clients new
        (λ k d less is. false-true (is_link_id (slice_index_or g.tale.clients k d).link link) (comes.link_is.alone k d less) is)
        (λ is. refl);
  }

  counted : AreCounted 1 (numbers after.tale)
  counted = counts g.setup g.plan g.tale (Accepted port link salt) was.clients.counted

  known-new : (n : ClientNo) → is_client c n ≡ true → IsKnown after n new
  known-new n is = record { seated = last-of (IsSeated after.tale) g.tale.clients new (seats after.tale counted); number = client-true c n is }

  known-still : (n : ClientNo) (x : tales.Client) → IsKnown g n x → IsKnown after n x
  known-still n x known = record {
    seated =
        filter-append (λ (y : tales.Client). is_client y.number x.number) g.tale.clients (new ∷ [])
        ∙ (λ i. known.seated i ++ cond (apart-known n x known i) (new ∷ []) []);
    number = known.number;
  }

  had-number : (l : LinkId) (n : ClientNo) (b : Bool) → is_link_id link l ≡ b → now.numbers l ≡ Some n
      → (client : tales.Client) × IsKnown after n client × (client.link ≡ l) × (is_some (now.clients n) ≡ true)
  had-number l n true is at =
      let mine : c ≡ n = same-some (now.numbers l) c n (number-new l is) at in
      (new, known-new n (client-same c n mine), link-true link l is, ap is_some (row-new n (client-same c n mine)))
  had-number l n false is at =
      let who = was.clients.named l n (sym (number-stays l is) ∙ at) in
      let apart : is_client c n ≡ false = ap (is_client c) (sym who.1.number) ∙ apart-known n who.0 who.1 in
      (who.0, known-still n who.0 who.1, who.2, ap is_some (row-stays n apart) ∙ who.3)

  had-row : (n : ClientNo) (r : Client) (b : Bool) → is_client c n ≡ b → now.clients n ≡ Some r → (client : tales.Client) × IsKnown after n client
  had-row n r true is at = (new, known-new n is)
  had-row n r false is at =
      let who = was.clients.known n r (sym (row-stays n is) ∙ at) in
      (who.0, known-still n who.0 who.1)

  clients-so : IsClient after new row → AreClients after now
  clients-so own = record {
    counted = counted;
    each = All-push (IsAt after now) g.tale.clients new
        (λ k d less. at-old (slice_index_or g.tale.clients k d) (below k d less) (comes.still k d less) (comes.link_is.alone k d less) (was.clients.each k d less))
        (at-new own);
    known = λ n r at. had-row n r (is_client c n) refl at;
    named = λ l n at. had-number l n (is_link_id link l) refl at;
  }

  -- links

  go-on : GoOn g.tale after.tale
  go-on x seated = (
    x,
    record {
      seated = (known-still x.number x (record { seated = seated; number = refl })).seated;
      number = refl;
      taken = omega arith;
    },
  )

  read-so : (n : ClientNo) (b : Bool) → is_client c n ≡ b → IsGlanced t now n ⊎ AreIdle t now n
  read-so n true is =
      inr (record {
        was = λ old at. none-some (t.clients c) old absent (ap t.clients (client-true c n is) ∙ at);
        is = λ found at. ap (λ (x : Client). x.desk.work) (same-some (now.clients n) found row at (row-new n is));
      })
  read-so n false is = inl (ap (option_map glance) (row-stays n is))

  carried-so : (n : ClientNo) (r : Client) (h : Hostgroup) (l : LinkId) (b : Bool) → is_client c n ≡ b → now.clients n ≡ Some r
      → (session_of r.desk h).home ≡ Some l
      → (server : Server) × IsHome now l (record { client = n; hostgroup = h; life = (session_of r.desk h).life }) server
  carried-so n r h l true is at home =
      none-some (session_of r.desk h).home l (ap (λ (x : Client). (session_of x.desk h).home) (same-some (now.clients n) r row at (row-new n is))) home
  carried-so n r h l false is at home =
      let old = was.homes.carried n r h l (sym (row-stays n is) ∙ at) home in
      (old.0, home-links t now same.links l (record { client = n; hostgroup = h; life = (session_of r.desk h).life }) old.0 old.1)

  still-there : (n : ClientNo) (r : Client) (b : Bool) → is_client c n ≡ b → t.clients n ≡ Some r → now.clients n ≡ Some r
  still-there n r true is at = none-some (t.clients c) r absent (ap t.clients (client-true c n is) ∙ at)
  still-there n r false is at = row-stays n is ∙ at

  homes-so : AreHomes after now
  homes-so = record {
    carried = λ n r h l at home. carried-so n r h l (is_client c n) refl at home;
    home = λ l server n at carries present whole.
        let old = was.homes.home l server n (sym (same.links l) ∙ at) carries present whole in
        (old.0, still-there n.client old.0 (is_client c n.client) refl old.1, old.2, old.3);
  }

  -- what is prepared: nothing of it

  its-prepared : ((number : ℕ) → number_in seat.statements number ≡ None) → IsPrepared after new row
  its-prepared none = record {
    each = λ number one at. none-some (number_in seat.statements number) one (none number) at;
    unused = λ number greater. refl;
    kept = λ answered number greater. refl;
    known = knows_none (view_on after) after.plan new row.desk.seat.statements;
    stands = λ answered. knows_none (view_on after) after.plan new row.desk.seat.statements;
    unserved = λ k some below own. let none : k ≤ 0 = below in absurd (omega (arith, some, none));
  }

  sat-before : (x : tales.Client) → is_client c x.number ≡ false → IsSeated after.tale x → IsSeated g.tale x
  sat-before x apart seated =
      sym (append-nil (filter (λ (y : tales.Client). is_client y.number x.number) g.tale.clients))
      ∙ (λ i. filter (λ (y : tales.Client). is_client y.number x.number) g.tale.clients ++ cond (sym apart i) (new ∷ []) [])
      ∙ sym (filter-append (λ (y : tales.Client). is_client y.number x.number) g.tale.clients (new ∷ [])) ∙ seated

  -- nor is anything else answered

  owns-so : OwnsStay g after.tale
  owns-so = record {
    each = λ client seated k below own.
        let still = of-known (λ (x : tales.Client). IsCounted g None x) g client.number client (record { seated = seated; number = refl }) comes.still in
        inl (ap is_some (sym (still.own k below refl)) ∙ own);
  }

  prepared-so : (is_ended seat.phase ≡ false → (number : ℕ) → number_in seat.statements number ≡ None) → ArePrepared after now
  prepared-so none x seated r there going = by (is_client c x.number) refl where
    by : (b : Bool) → is_client c x.number ≡ b → IsPrepared after x r
    by false apart =
        prepared_by_row g after.tale over g.fresh t now was.clients (λ m. refl) owns-so was.prepared x (sat-before x apart seated) r
        (row_itself t x.number r (sym (row-stays x.number apart) ∙ there) going)
    by true it =
        let both : new ∷ [] ≡ x ∷ [] =
        sym (known-new c (same_number c.0)).seated ∙ ap (seats_of after.tale) (client-true c x.number it) ∙ seated in
        let one : new ≡ x = cc in
        let made : row ≡ r = same-some (now.clients x.number) row r (row-new x.number it) there in
        subst (λ (y : tales.Client). IsPrepared after y r) one
        (subst (IsPrepared after new) made (its-prepared (none (ap (λ (z : Client). is_ended z.desk.seat.phase) made ∙ going))))

  pub comes-so : (is_ended seat.phase ≡ false → (number : ℕ) → number_in seat.statements number ≡ None) → IsClient after new row
      → Stands service after now
  comes-so none own = record {
    service_is = was.service_is;
    room_is = was.room_is;
    clients = clients-so own;
    servers = λ l. subst (λ (r : Option Server). IsServerOr after now l r) (sym (same.links l))
        (servers-so by g now go-on ends l (t.links l)
        (servers-read in_work g t now (λ n. read-so n (is_client c n) refl) stay l (t.links l) (was.servers l)));
    homes = homes-so;
    lawful = was.lawful;
    prepared = prepared-so none;
    duly = was.duly;
  }
