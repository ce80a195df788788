-- Clients as something is written on a link, and as a question begins there.
use Rattle.std.specs.Prelude.{◌≡◌, ◌⊎◌, ◌<◌, ◌≤◌, ℕ, suc, Bool, true, false, not, ◌&&◌, if◌then◌else◌, is_some, nat_eq, All, filter, map, List, [], ◌∷◌, Option, Some, None}
use Rattle.std.specs.Option.{option_map}
use Rattle.std.proofs.Common.{refl, sym, ap, ◌∙◌, subst, arith, inl, inr}
use Rattle.std.proofs.lemmas.Bool.{false≢true, true≢false}
use Rattle.std.proofs.lemmas.List.Elements.{All-weaker}
use Rattle.std.proofs.lemmas.Option.{none-some, same_Some}
use Rattle.session_state.specs.declared.place.Place.{Place}
use Rattle.server_rule.specs.Classes.{Reads}
use Rattle.private_model.specs.Commands.{Reply}
use Rattle.private_model.specs.Names.{ClientNo, Hostgroup, LinkId, MessageName, SessionName}
use Rattle.private_model.specs.Story.{Capture, Due, End, Happening, Own, Prep, Question, Sent, Statement, Sync, is_client, is_hostgroup, is_message, is_name, message_of, put}
use Rattle.private_model.specs.View.{Held, Setup, View, present, view_step}
use Rattle.log_story.specs.Owed.{name_of as message_named}
use Rattle.log_story.specs.Tale as tales
use Rattle.log_story.specs.Tale.{Tale, Wire, is_to_server, tell, view_of, with_wire}
use Rattle.client_seat.specs.Seats.{is_ended}
use Rattle.client_desk.specs.Desks.{session_of}
use Rattle.client_desk.specs.Desks as desks
use Rattle.client_desk.specs.Works.{gone_out}
use Rattle.client_desk.specs.declared.desk.Desk.{Desk}
use Rattle.client_desk.specs.declared.work.Work.{Work}
use Rattle.client_desk.specs.declared.session.Session.{Session}
use Rattle.client_seat.specs.declared.phase.Phase.{Phase}
use Rattle.client_seat.specs.declared.seat.Seat.{Seat}
use Rattle.client_seat.specs.declared.phase.Phase.TheVariants as phase
use Rattle.desk_laws.specs.Spares.{SparesAsked, SparesToCome, touches}
use Rattle.desk_laws.specs.Stands.{AreDueEarlier, AreToCome, IsDesk, IsPlaced, IsSentOrNot, IsSession, IsWork, IsWorkOr, message_at, name_at}
use Rattle.step_laws.specs.Seats.{AreCounted, IsSeated, numbers}
use Rattle.core_tables.specs.Tables.{Tabled}
use Rattle.core_tables.specs.Writing.{client_sent}
use Rattle.core_tables.specs.declared.client.Client.{Client}
use Rattle.core_stands.specs.Clients.{IsClient, IsClientOr, IsForgotten, IsGoing, IsOver, IsOwing, IsPhase, IsWorking, IsWorkingOr}
use Rattle.core_stands.specs.Grounds.{Ground, on, view_on}
use Rattle.core_stands.specs.Stands.{AreClients, IsAt, IsKnown}
use Rattle.core_laws.proofs.OfWriting.Begun.{IsStep}

other_name : (c : ClientNo) (h : Hostgroup) (life : ℕ) (n : SessionName) → is_client c n.client ≡ false → is_name (name_at c h life) n ≡ false
other_name c h life n apart = ap (λ (b : Bool). b && (is_hostgroup h n.hostgroup && nat_eq life n.life)) apart

put_apart : {K A : Type 0} (is : K → K → Bool) (f : K → A) (k : K) (x : A) (j : K) → is j k ≡ false → put is f k x j ≡ f j
put_apart is f k x j apart = ap (λ (b : Bool). if b then x else f j) apart

-- Views that differ in links alone.

pub record Alike (view after : View) : Type 0 where
  pub lives : after.lives ≡ view.lives
  pub held : after.held ≡ view.held
  pub lasting : after.lasting ≡ view.lasting
  pub dues : after.dues ≡ view.dues
  pub carriers : after.carriers ≡ view.carriers
  pub replies : after.replies ≡ view.replies
  pub places : after.places ≡ view.places

module _ (reads : Reads) (view after : View) (alike : Alike view after) (c : ClientNo) where
  session_alike : (h : Hostgroup) (s : Session) → IsSession view c h s → IsSession after c h s
  session_alike h s is = record {
    life = ap (λ (f : ClientNo → Hostgroup → ℕ). f c h) alike.lives ∙ is.life;
    held = ap (λ (f : SessionName → Held). f (name_at c h s.life)) alike.held ∙ is.held;
    lasting = ap (λ (f : SessionName → Bool). f (name_at c h s.life)) alike.lasting ∙ is.lasting;
    unborn = λ life above.
        let unborn = is.unborn life above in
        record {
          held = ap (λ (f : SessionName → Held). f (name_at c h life)) alike.held ∙ unborn.held;
          due = ap (λ (f : SessionName → Option Due). f (name_at c h life)) alike.dues ∙ unborn.due;
          lasting = ap (λ (f : SessionName → Bool). f (name_at c h life)) alike.lasting ∙ unborn.lasting;
        };
  }

  work_alike : (place : Place) (work : Work) → IsWork reads view c place work → IsWork reads after c place work
  work_alike place work is = record {
    sent_or_not = by work.sent is.sent_or_not;
    unanswered = ap (λ (f : MessageName → Option Reply). f (message_at c work.ordinal)) alike.replies ∙ is.unanswered;
  } where
    by : (sent : Bool) → IsSentOrNot sent reads view c place work → IsSentOrNot sent reads after c place work
    by true out = record { link = out.link; carrier = ap (λ (f : MessageName → Option LinkId). f (message_at c work.ordinal)) alike.carriers ∙ out.carrier }
    by false waits = record {
      due = waits.due;
      is_due = (λ i. alike.dues i (record { client = c; hostgroup = work.hostgroup; life = alike.lives i c work.hostgroup })) ∙ waits.is_due;
      as_due = waits.as_due;
      unsent = ap (λ (f : MessageName → Option LinkId). f (message_at c work.ordinal)) alike.carriers ∙ waits.unsent;
    }

  works_alike : (place : Place) (work : Option Work) → IsWorkOr reads view c place work → IsWorkOr reads after c place work
  works_alike place None is = tt
  works_alike place (Some work) is = work_alike place work is

  places_alike : (at : Phase) (place : Place) → IsPlaced at view c place → IsPlaced at after c place
  places_alike phase.LoggingIn place is = tt
  places_alike (phase.Serving account) place is = ap (λ (f : ClientNo → Place). f c) alike.places ∙ is
  places_alike phase.Ended place is = tt

  desk_alike : (desk : Desk) → IsDesk reads view c desk → IsDesk reads after c desk
  desk_alike desk is = record {
    number = is.number;
    sessions = record { each = λ h. session_alike h (session_of desk h) (is.sessions.each h); distinct = is.sessions.distinct };
    place = places_alike desk.seat.phase desk.seat.place is.place;
    work = works_alike desk.seat.place desk.work is.work;
    row = is.row;
  }

  coming_alike : (from : ℕ) → AreToCome view c from → AreToCome after c from
  coming_alike from is = record {
    unsent = λ ordinal above. ap (λ (f : MessageName → Option LinkId). f (message_at c ordinal)) alike.carriers ∙ is.unsent ordinal above;
    unanswered = λ ordinal above. ap (λ (f : MessageName → Option Reply). f (message_at c ordinal)) alike.replies ∙ is.unanswered ordinal above;
    due = subst (λ (dues : SessionName → Option Due). AreDueEarlier dues after.carriers c from) (sym alike.dues)
        (subst (λ (carriers : MessageName → Option LinkId). AreDueEarlier view.dues carriers c from) (sym alike.carriers) is.due);
  }

pub step_alike : (setup : Setup) (view : View) (l : LinkId) (q : Question) → IsStep q → Alike view (view_step setup view (Sent l q))
step_alike setup view l (Statement n due) step = absurd step
step_alike setup view l (Prep n key text) step = absurd step
step_alike setup view l (Sync n command) step =
    record { lives = refl; held = refl; lasting = refl; dues = refl; carriers = refl; replies = refl; places = refl }
step_alike setup view l (Own command) step =
    record { lives = refl; held = refl; lasting = refl; dues = refl; carriers = refl; replies = refl; places = refl }
step_alike setup view l (End n) step =
    record { lives = refl; held = refl; lasting = refl; dues = refl; carriers = refl; replies = refl; places = refl }
step_alike setup view l (Capture n) step =
    record { lives = refl; held = refl; lasting = refl; dues = refl; carriers = refl; replies = refl; places = refl }

-- desk_laws' others_stay and coming_stays

abbrev pub OthersStay : Type 0
OthersStay = (setup : Setup) (view : View) (c : ClientNo) (desk : Desk) (e : Happening) → IsDesk setup.reads view c desk
    → touches view e c ≡ false → IsDesk setup.reads (view_step setup view e) c desk

abbrev pub ComingStays : Type 0
ComingStays = (setup : Setup) (view : View) (c : ClientNo) (from : ℕ) (e : Happening) → AreToCome view c from → SparesToCome view c from e
    → AreToCome (view_step setup view e) c from

-- parting's clients_at_stay
abbrev pub ClientsAtStay : Type 0
ClientsAtStay = (g : Ground) (t other : Tabled) (client : tales.Client) (e : Happening) → IsAt g t client
    → touches (view_on g) e client.number ≡ false → other.clients client.number ≡ t.clients client.number
    → other.numbers client.link ≡ t.numbers client.link → IsAt (on g (tell e g.tale)) other client

-- Clients are those of the tale still.

module _ (g : Ground) (tale : Tale) (t now : Tabled) (clients : tale.clients ≡ g.tale.clients) (numbers_same : (l : LinkId) → now.numbers l ≡ t.numbers l)
    (there_same : (c : ClientNo) → is_some (now.clients c) ≡ is_some (t.clients c)) where
  seated_on : (client : tales.Client) → IsSeated g.tale client → IsSeated tale client
  seated_on client seated =
      subst (λ (xs : List tales.Client). filter (λ (x : tales.Client). is_client x.number client.number) xs ≡ client ∷ []) (sym clients) seated

  known_on : (c : ClientNo) (client : tales.Client) → IsKnown g c client → IsKnown (on g tale) c client
  known_on c client is = record { seated = seated_on client is.seated; number = is.number }

  some_row : (found : Option Client) → is_some found ≡ true → (row : Client) × (found ≡ Some row)
  some_row None is = absurd (false≢true is)
  some_row (Some row) is = (row, refl)

  pub clients_made : All (IsAt (on g tale) now) tale.clients → AreClients g t → AreClients (on g tale) now
  clients_made each are = record {
    counted = subst (λ (xs : List tales.Client). AreCounted 1 (map (λ (x : tales.Client). x.number) xs)) (sym clients) are.counted;
    each = each;
    known = λ c row there.
        let was = some_row (t.clients c) (sym (there_same c) ∙ ap is_some there) in
        let known = are.known c was.0 was.1 in
        (known.0, known_on c known.0 known.1);
    named = λ l c there.
        let named = are.named l c (sym (numbers_same l) ∙ there) in
        (named.0, known_on c named.0 named.1, named.2, there_same c ∙ named.3);
  }

-- Nothing is told.

module _ (g : Ground) (l : LinkId) (wire : Wire) where
  abbrev pub still : Tale
  still = with_wire l wire g.tale

  working_still : (client : tales.Client) (row : Client) (work : Option Work) → IsWorkingOr g client row work → IsWorkingOr (on g still) client row work
  working_still client row None is = is
  working_still client row (Some work) is =
      record { last = is.last; went = is.went; number = is.number; only = is.only; prepares = is.prepares; keyed = is.keyed; first = is.first; unsent = is.unsent; there = is.there }

  owing_still : (client : tales.Client) (seat : Seat) (at : Phase) (fresh : Bool) → IsOwing at fresh g client seat → IsOwing at fresh (on g still) client seat
  owing_still client seat phase.LoggingIn true is = tt
  owing_still client seat phase.LoggingIn false is = is
  owing_still client seat (phase.Serving login) fresh is = is
  owing_still client seat phase.Ended fresh is = is

  phase_still : (client : tales.Client) (row : Client) (ended : Bool) → IsPhase ended g client row → IsPhase ended (on g still) client row
  phase_still client row true is = record { over = is.over; idle = is.idle; told = is.told; homeless = is.homeless }
  phase_still client row false is = record {
    going = is.going;
    earlier = is.earlier;
    answered = is.answered;
    went = is.went;
    busy = is.busy;
    working = working_still client row row.desk.work is.working;
    unmoved = is.unmoved;
    collation = is.collation;
    account = is.account;
  }

  client_still : (client : tales.Client) (row : Option Client) → IsClientOr g client row → IsClientOr (on g still) client row
  client_still client None is = record { over = is.over; homeless = is.homeless }
  client_still client (Some row) is = record {
    who = is.who;
    heard = is.heard;
    owed = owing_still client row.desk.seat row.desk.seat.phase (g.fresh client.number) is.owed;
    desk = is.desk;
    coming = is.coming;
    phase = phase_still client row (is_ended row.desk.seat.phase) is.phase;
  }

  at_still : (t now : Tabled) → ((c : ClientNo) → now.clients c ≡ t.clients c) → ((k : LinkId) → now.numbers k ≡ t.numbers k) → (client : tales.Client)
      → IsAt g t client → IsAt (on g still) now client
  at_still t now same numbers_same client is = record {
    row = subst (λ (x : Option Client). IsClientOr (on g still) client x) (sym (same client.number)) (client_still client (t.clients client.number) is.row);
    found = λ there. numbers_same client.link ∙ is.found (ap is_some (sym (same client.number)) ∙ there);
    aside = is.aside;
    alone = is.alone;
  }

  pub clients_still : (t now : Tabled) → ((c : ClientNo) → now.clients c ≡ t.clients c) → ((k : LinkId) → now.numbers k ≡ t.numbers k)
      → AreClients g t → AreClients (on g still) now
  clients_still t now same numbers_same are =
      clients_made g still t now refl numbers_same (λ c. ap is_some (same c))
      (All-weaker (IsAt g t) (IsAt (on g still) now) (at_still t now same numbers_same) g.tale.clients are.each) are

  -- A question is told.

  module _ (q : Question) where
    abbrev pub sent : Tale
    sent = tell (Sent l q) still

    owing_sent : (client : tales.Client) (seat : Seat) (at : Phase) (fresh : Bool) → IsOwing at fresh g client seat → IsOwing at fresh (on g sent) client seat
    owing_sent client seat phase.LoggingIn true is = tt
    owing_sent client seat phase.LoggingIn false is = is
    owing_sent client seat (phase.Serving login) fresh is = is
    owing_sent client seat phase.Ended fresh is = is

    module _ (client : tales.Client)
        (carriers : (ordinal : ℕ) → (view_of g.setup sent).carriers (message_named client ordinal) ≡ (view_on g).carriers (message_named client ordinal)) where
      working_sent : (row : Client) (work : Option Work) → IsWorkingOr g client row work → IsWorkingOr (on g sent) client row work
      working_sent row None is = is
      working_sent row (Some work) is = record {
        last = is.last;
        went = is.went;
        number = is.number;
        only = is.only;
        prepares = is.prepares;
        keyed = is.keyed;
        first = is.first;
        unsent = is.unsent;
        there = λ out. is.there out ∙ sym (carriers work.ordinal);
      }

      phase_sent : (row : Client) (ended : Bool) → IsPhase ended g client row → IsPhase ended (on g sent) client row
      phase_sent row true is = record { over = is.over; idle = is.idle; told = is.told; homeless = is.homeless }
      phase_sent row false is = record {
        going = is.going;
        earlier = is.earlier;
        answered = is.answered;
        went = is.went;
        busy = is.busy;
        working = working_sent row row.desk.work is.working;
        unmoved = is.unmoved;
        collation = is.collation;
        account = is.account;
      }

      client_sent_on : (row : Client) → IsDesk g.setup.reads (view_of g.setup sent) client.number row.desk
          → AreToCome (view_of g.setup sent) client.number (suc client.taken) → IsClient g client row → IsClient (on g sent) client row
      client_sent_on row desk coming is = record {
        who = is.who;
        heard = is.heard;
        owed = owing_sent client row.desk.seat row.desk.seat.phase (g.fresh client.number) is.owed;
        desk = desk;
        coming = coming;
        phase = phase_sent row (is_ended row.desk.seat.phase) is.phase;
      }

    -- of a step

    module _ (step : IsStep q) where
      client_step : (client : tales.Client) (row : Option Client) → IsClientOr g client row → IsClientOr (on g sent) client row
      client_step client None is = record {
        over = is.over;
        homeless = λ h.
            ap (λ (held : SessionName → Held). (held (present (view_on g) client.number h)).home) (step_alike g.setup (view_on g) l q step).held ∙ is.homeless h;
      }
      client_step client (Some row) is =
          let alike = step_alike g.setup (view_on g) l q step in
          client_sent_on client (λ ordinal. ap (λ (f : MessageName → Option LinkId). f (message_named client ordinal)) alike.carriers) row (desk_alike g.setup.reads (view_on g) (view_of g.setup sent) alike client.number row.desk is.desk)
          (coming_alike g.setup.reads (view_on g) (view_of g.setup sent) alike client.number (suc client.taken) is.coming) is

      at_step : (t now : Tabled) → ((c : ClientNo) → now.clients c ≡ t.clients c) → ((k : LinkId) → now.numbers k ≡ t.numbers k) → (client : tales.Client)
          → IsAt g t client → IsAt (on g sent) now client
      at_step t now same numbers_same client is = record {
        row = subst (λ (x : Option Client). IsClientOr (on g sent) client x) (sym (same client.number)) (client_step client (t.clients client.number) is.row);
        found = λ there. numbers_same client.link ∙ is.found (ap is_some (sym (same client.number)) ∙ there);
        aside = is.aside;
        alone = is.alone;
      }

      pub clients_step : (t now : Tabled) → ((c : ClientNo) → now.clients c ≡ t.clients c) → ((k : LinkId) → now.numbers k ≡ t.numbers k)
          → AreClients g t → AreClients (on g sent) now
      clients_step t now same numbers_same are =
          clients_made g sent t now refl numbers_same (λ c. ap is_some (same c))
          (All-weaker (IsAt g t) (IsAt (on g sent) now) (at_step t now same numbers_same) g.tale.clients are.each) are

  -- of another client's statement

  module _ (n : SessionName) (due : Due) (others : OthersStay) (coming : ComingStays) where
    pub client_apart_sent : (client : tales.Client) (row : Option Client) → is_client client.number n.client ≡ false → IsClientOr g client row
        → IsClientOr (on g (sent (Statement n due))) client row
    client_apart_sent client None apart is = record {
      over = is.over;
      homeless = λ h.
          ap (λ (held : Held). held.home)
          (put_apart is_name (view_on g).held n (record ((view_on g).held n) { home = Some l }) (present (view_on g) client.number h)
          (other_name client.number h ((view_on g).lives client.number h) n apart)) ∙ is.homeless h;
    }
    client_apart_sent client (Some row) apart is =
        client_sent_on (Statement n due) client
        (λ ordinal. put_apart is_message (view_on g).carriers (message_of n due) (Some l) (message_named client ordinal)
        (ap (λ (b : Bool). b && nat_eq ordinal due.ordinal) apart)) row (others g.setup (view_on g) client.number row.desk (Sent l (Statement n due)) is.desk apart)
        (coming g.setup (view_on g) client.number (suc client.taken) (Sent l (Statement n due)) is.coming (inl apart)) is

    -- and of this one's, in work

    pub client_here_sent : (client : tales.Client) (row : Client) (work : Work) (lasting : Bool) → row.desk.work ≡ Some work
        → IsGoing g client row → IsWorking g client row work → is_ended row.desk.seat.phase ≡ false
        → IsDesk g.setup.reads (view_of g.setup (sent (Statement n due))) client.number (desks.sent n.hostgroup l lasting row.desk)
        → due.ordinal < suc client.taken → (view_on g).dues n ≡ Some due
        → (session_of (desks.sent n.hostgroup l lasting row.desk) work.hostgroup).home ≡ (view_of g.setup (sent (Statement n due))).carriers (message_named client work.ordinal)
        → IsClient g client row
        → IsClient (on g (sent (Statement n due))) client (client_sent n.hostgroup l lasting row)
    client_here_sent client row work lasting in_work goes works present_is desk below dues home is = record {
      who = is.who;
      heard = is.heard;
      owed = owing_sent (Statement n due) client row.desk.seat row.desk.seat.phase (g.fresh client.number) is.owed;
      desk = desk;
      coming = coming g.setup (view_on g) client.number (suc client.taken) (Sent l (Statement n due)) is.coming (inr (below, dues));
      phase = subst (λ (ended : Bool). IsPhase ended (on g (sent (Statement n due))) client (client_sent n.hostgroup l lasting row)) (sym present_is) (record {
        going = goes.going;
        earlier = goes.earlier;
        answered = goes.answered;
        went = goes.went;
        busy = ap (λ (w : Option Work). is_some (option_map gone_out w)) in_work ∙ ap is_some (sym in_work) ∙ goes.busy;
        working = subst (λ (w : Option Work). IsWorkingOr (on g (sent (Statement n due))) client (client_sent n.hostgroup l lasting row) (option_map gone_out w)) (sym in_work)
            (record {
              last = works.last;
              went = works.went;
              number = works.number;
              only = works.only;
              prepares = works.prepares;
              keyed = works.keyed;
              first = works.first;
              unsent = λ waits. absurd (true≢false waits);
              there = λ out. home;
            });
        unmoved = goes.unmoved;
        collation = goes.collation;
        account = goes.account;
      });
    }
