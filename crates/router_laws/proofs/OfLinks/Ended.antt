-- A link is lost, and the client of the present session that it carries ends, whose statement is in work there: the tables stand for both
-- together. Between them they don't: so they are taken by a plan that gives that statement up, of which nothing is left once the client ended.
use Rattle.std.specs.Prelude.{◌≡◌, ◌⊎◌, ◌≤◌, ◌<◌, ◌^◌, ℕ, zero, suc, Bool, true, false, ◌&&◌, ◌||◌, not, All, is_some, nat_eq, if◌then◌else◌, List, [], ◌∷◌, Option, Some, None}
use Rattle.std.specs.Option.{option_map, option_map_or}
use Rattle.std.proofs.Common.{refl, sym, ap, ◌∙◌, subst, arith, inl, inr}
use Rattle.std.proofs.lemmas.Bool.{true≢false}
use Rattle.std.proofs.lemmas.Option.{none-some, same_Some}
use Rattle.packet_frame.specs.Packets.{Framed, next_id}
use Rattle.client_session.specs.Setups.{Setup as Service}
use Rattle.private_model.proofs.Maps.{client_of, hostgroup_of, message_is, same_number}
use Rattle.private_model.specs.Commands.{Reply}
use Rattle.private_model.specs.Lawful.{IsLawful}
use Rattle.private_model.specs.Names.{ClientNo, LinkId, MessageName, SessionName}
use Rattle.private_model.specs.Story.{Gone, Left, Story, is_client, is_link_id, is_message}
use Rattle.private_model.specs.View.{Setup, view_after}
use Rattle.log_story.specs.Clients.{is_answered}
use Rattle.log_story.specs.Owed.{due_bytes, name_of, number_of}
use Rattle.log_story.specs.Plan.{own_at, word_at}
use Rattle.log_story.specs.Tale as tales
use Rattle.log_story.specs.Tale.{Tale, counted, is_to_server, link_in, tell, view_of}
use Rattle.client_seat.specs.Seats.{ended, is_ended}
use Rattle.client_seat.specs.Stands.{Known, answer_by, answer_to}
use Rattle.client_seat.specs.declared.seat.Seat.{Seat}
use Rattle.client_desk.specs.Desks.{session_of}
use Rattle.client_desk.specs.declared.session.Session.{Session}
use Rattle.client_desk.specs.declared.work.Work.{Work}
use Rattle.step_laws.proofs.Counting.{own_still}
use Rattle.step_laws.proofs.Seating.{counted_seats}
use Rattle.step_laws.specs.Freed.{AreAll, NoneDone}
use Rattle.step_laws.specs.Seats.{IsSeated, seats}
use Rattle.core_tables.specs.Parting.{given_row, given_up_in, gone_row, left_in, left_row, lost_in, parted_in, present_in}
use Rattle.core_tables.specs.Tables.{IsSame, Tabled, client_put}
use Rattle.core_tables.specs.declared.client.Client.{Client}
use Rattle.core_stands.specs.Clients.{IsClient, IsClientOr, IsFrontOf, IsGoing, IsOver, IsPhase}
use Rattle.core_stands.specs.Grounds.{Ground, ending, known_on, on, view_on}
use Rattle.core_stands.specs.Stands.{IsAt, Rests, Stands}
use Rattle.core_laws.specs.parting.Frames.{AreHomed}
use Rattle.core_laws.specs.parting.Partings.{AreCounted, AreGivenUp, IsCounted, IsEnding, IsLeaving, IsLosing}
use Rattle.core_laws.proofs.OfEntry.Lists.{seated_of}
use Rattle.core_laws.proofs.OfEntry.Uneventful.{Testing}
use Rattle.core_laws.proofs.OfParting.Counting.{sessions_so}
use Rattle.core_laws.proofs.OfParting.Freeing.{ChangedFrom, changed_from}
use Rattle.core_laws.proofs.OfParting.Moving.{all_with}
use Rattle.core_laws.specs.entry.Kinds.{IsStill}
use Rattle.core_laws.proofs.OfClients.Facts.{has_lives, its_row}
use Rattle.core_laws.specs.clients.Follows.{AreHomesOf}
use Rattle.core_laws.specs.clients.Going.{GivenUp, told_to}
use Rattle.core_laws.specs.clients.Turns.{MayLeave}
use Rattle.router_laws.proofs.OfClients.Departing.{left_there}
use Rattle.router_laws.proofs.OfClients.Leaving.{all_theirs, left_but, theirs}
use Rattle.router_laws.proofs.OfClients.Losing.{Alike, Ends, Frees}
use Rattle.router_laws.proofs.OfLinks.Answering.{answering, done_less, front_then, now_alike, own, then_alike, then_answered, then_more}
use Rattle.router_laws.proofs.OfLinks.Closings.{gone_tale}
use Rattle.router_laws.proofs.OfLinks.Giving.{given_aside, given_up_with}
use Rattle.router_laws.proofs.OfLinks.Leaving.{losing_so, present_row}
use Rattle.router_laws.proofs.OfLinks.Rowing.{gone_undone}
use Rattle.router_laws.proofs.OfLinks.Supposing.{OwnsAlike, row_alike, stands_alike}
use Rattle.router_laws.specs.clients.Speaks.{IsLinkOf}
use Rattle.router_laws.proofs.OfReading.Unsound.{lent_there}
use Rattle.router_laws.specs.links.Loses.{GoesWithIt, IsGivenUpWith, LosesEnded}

-- The laws by which it goes.
pub record Laws : Type 0 where
  pub loses : (service : Service) (g : Ground) (t : Tabled) (l : LinkId) (given : ClientNo → Option (List ℕ)) → Stands service g t
      → IsLosing g t l given → AreGivenUp given (λ other. is_link_id other l) t → AreCounted g given
      → Stands service (on g (counted (tell (Gone l) g.tale))) (given_up_in given (lost_in l t))
  pub leaves : Ends
  pub same : Alike
  pub tests : (service : Service) → Testing service
  pub homed : (setup : Setup) (story : Story) → IsLawful setup story → AreHomed (view_after setup story).links (view_after setup story).held
  pub frees : Frees

-- Small facts.

neither : {A B : Type 0} (a : Option A) (b : Option B) → (is_some a || is_some b) ≡ false → (a ≡ None) × (b ≡ None)
neither None None is = (refl, refl)
neither None (Some b) is = absurd (true≢false is)
neither (Some a) b is = absurd (true≢false is)

flip_client : (a b : ClientNo) → is_client a b ≡ false → is_client b a ≡ false
flip_client a b apart = grind arith

may_given : (q : Option (List ℕ)) (row : Client) → MayLeave row → MayLeave (given_row q row)
may_given None row may = may
may_given (Some payload) row may = may

left_given : (q : Option (List ℕ)) (row : Client) → left_row (λ (seat : Seat). ended row.desk.seat) (given_row q row) ≡ left_row ended row
left_given None row = refl
left_given (Some payload) row = refl

given_none : (found : Option Client) → found ≡ option_map (given_row None) found
given_none None = refl
given_none (Some row) = refl

given_sessions : (q : Option (List ℕ)) (row : Client) → (given_row q row).desk.sessions ≡ row.desk.sessions
given_sessions None row = refl
given_sessions (Some payload) row = refl

going_of : (g : Ground) (client : tales.Client) (row : Client) (work : Work) → row.desk.work ≡ Some work → (b : Bool) → IsPhase b g client row
    → IsGoing g client row
going_of g client row work works true is = absurd (none-some work (sym is.idle ∙ works))
going_of g client row work works false is = is

module _ (laws : Laws) (service : Service) (g : Ground) (t now : Tabled) (roomy : ClientNo → Bool) (rests : Rests service g t roomy) (l : LinkId)
    (client : tales.Client) (seated : IsSeated g.tale client) (links : List LinkId) (so : LosesEnded l client.number links t now)
    (still : All (IsStill g) g.tale.clients) (wordless : word_at g.plan (suc g.tale.moment) client.number ≡ None) where
  abbrev c : ClientNo
  c = client.number

  abbrev moment : ℕ
  moment = suc g.tale.moment

  abbrev pub later : Tale
  later = gone_tale g.tale l

  its_still : IsStill g client
  its_still = seated_of (IsStill g) g.tale client seated still

  row_is : IsClient g client so.row
  row_is = its_row service g t client so.row rests.stands seated so.at_work.there

  going_is : IsGoing g client so.row
  going_is = going_of g client so.row so.work so.at_work.in_work (is_ended so.row.desk.seat.phase) row_is.phase

  -- its last message isn't answered

  pub opened : is_answered g.plan g.tale (view_on g) client client.taken ≡ false
  opened = by so.row.desk.seat.answered going_is.answered (sym (ap is_some so.at_work.in_work) ∙ going_is.busy) where
    by : (b : Bool) → b ≡ is_answered g.plan g.tale (view_on g) client client.taken → true ≡ not b
        → is_answered g.plan g.tale (view_on g) client client.taken ≡ false
    by true is busy = absurd (true≢false busy)
    by false is busy = sym is

  abbrev m : MessageName
  m = name_of client client.taken

  record IsUnheard : Type 0 where
    unowned : own_at g.plan g.tale.moment m ≡ None
    unreplied : (view_on g).replies m ≡ None

  unheard_by : (n : ℕ) → client.taken ≡ n → is_answered g.plan g.tale (view_on g) client n ≡ false → IsUnheard
  unheard_by zero at is = absurd (true≢false is)
  unheard_by (suc n) at is =
      let none = neither (own_at g.plan g.tale.moment (name_of client (suc n))) ((view_on g).replies (name_of client (suc n))) is in
      record {
        unowned = ap (λ (k : ℕ). own_at g.plan g.tale.moment (name_of client k)) at ∙ none.0;
        unreplied = ap (λ (k : ℕ). (view_on g).replies (name_of client k)) at ∙ none.1;
      }

  unheard : IsUnheard
  unheard = unheard_by client.taken refl opened

  -- By the plan that answers it.

  abbrev h : Ground
  h = answering g m

  now_same : (n : MessageName) → own_at h.plan g.tale.moment n ≡ own_at g.plan g.tale.moment n
  now_same = now_alike g m unheard.unowned

  stands_h : Stands service h t
  stands_h =
      stands_alike g (own g m) service t rests.stands (λ x at row there going ordinal below. now_same (name_of x ordinal))
      (λ x at was. row_alike g (own g m) x (λ ordinal below. now_same (name_of x ordinal)) (t.clients x.number) was)

  abbrev up : GivenUp
  up = record { client = c; payload = [] }

  abbrev given : ClientNo → Option (List ℕ)
  given = told_to (Some up)

  its_given : given c ≡ Some []
  its_given = ap (λ (b : Bool). if b then Some [] else None) (same_number c.0)

  at_home : (session_of so.row.desk so.work.hostgroup).home ≡ Some l
  at_home =
      let its = present_row service g t l rests.stands so.name so.carries in
      let row : its.0 ≡ so.row = same_Some its.0 so.row (sym its.1 ∙ ap t.clients so.its ∙ so.at_work.there) in
      let hostgroup : so.work.hostgroup ≡ so.name.hostgroup = hostgroup_of so.work.hostgroup so.name.hostgroup so.there in
      (λ i. (session_of (sym row i).desk (hostgroup i)).home) ∙ its.2

  may : IsGivenUpWith l c t
  may = record {
    row = so.row;
    work = so.work;
    at_work = so.at_work;
    aside = inr at_home;
    lent = lent_there l t so.row so.work at_home;
  }

  name_so : (n : SessionName) → present_in l t ≡ Some n → n ≡ so.name
  name_so n at = same_Some n so.name (sym at ∙ so.carries)

  goes : GoesWithIt l (λ (d : ClientNo). is_some (given d)) t
  goes = record {
    lives = λ n at. subst (λ (x : SessionName). suc x.life < 2 ^ 64) (sym (name_so n at)) so.lives;
    work = λ n row at there. inr (ap (λ (x : SessionName). is_some (given x.client)) (name_so n at) ∙ ap (λ (d : ClientNo). is_some (given d)) so.its ∙ ap is_some its_given);
  }

  losing : IsLosing h t l given
  losing = let was : IsLosing g t l given = losing_so service g t l rests.stands given goes in record { lives = was.lives; work = was.work }

  -- who has that number is that client
  it_alone : (x : tales.Client) → IsSeated g.tale x → is_client c x.number ≡ true → x ≡ client
  it_alone x at same =
      let both : x ∷ [] ≡ client ∷ [] = sym at ∙ ap (seats g.tale) (sym (client_of c x.number same)) ∙ seated in cc

  other_message : (x : tales.Client) (ordinal : ℕ) → is_client c x.number ≡ false → is_message (name_of x ordinal) m ≡ false
  other_message x ordinal apart = ap (λ (b : Bool). b && nat_eq ordinal client.taken) (flip_client c x.number apart)

  other_ordinal : (x : tales.Client) (ordinal : ℕ) → nat_eq ordinal client.taken ≡ false → is_message (name_of x ordinal) m ≡ false
  other_ordinal x ordinal apart = by (is_client x.number c) where
    by : (b : Bool) → (b && nat_eq ordinal client.taken) ≡ false
    by true = apart
    by false = refl

  -- another message is answered as it was
  kept : (x : tales.Client) → IsStill g x → (ordinal : ℕ) → ordinal ≤ x.taken → is_message (name_of x ordinal) m ≡ false
      → own_at h.plan moment (name_of x ordinal) ≡ own_at h.plan g.tale.moment (name_of x ordinal)
  kept x is ordinal below other =
      then_alike g m (name_of x ordinal) other ∙ own_still g.plan g.tale.moment (name_of x ordinal) (is.keeps ordinal below)
      ∙ sym (now_same (name_of x ordinal))

  counted_by : (x : tales.Client) → IsSeated g.tale x → IsStill g x → (b : Bool) → nat_eq c.0 x.number.0 ≡ b
      → IsCounted h (if b then Some [] else None) x
  counted_by x at is true same =
      let one : x ≡ client = it_alone x at same in
      record {
        own = λ ordinal below apart. kept x is ordinal below (other_ordinal x ordinal (ap (λ (y : tales.Client). nat_eq ordinal y.taken) (sym one) ∙ apart));
        given_up = λ payload some.
            ap (λ (y : tales.Client). own_at h.plan moment (name_of y y.taken)) one ∙ then_answered g m
            ∙ ap (λ (p : List ℕ). Some (p ∷ [])) (same_Some [] payload some);
        word = is.word;
      }
  counted_by x at is false apart = record {
    own = λ ordinal below open_still. kept x is ordinal below (other_message x ordinal apart);
    given_up = λ payload some. absurd (none-some payload some);
    word = is.word;
  }

  counted_all : AreCounted h given
  counted_all =
      all_with (IsSeated g.tale) (IsStill g) (λ (x : tales.Client). IsCounted h (given x.number) x)
      (λ x at is. counted_by x at is (nat_eq c.0 x.number.0) refl) g.tale.clients (counted_seats g.tale rests.stands.clients.counted) still

  abbrev mid : Tabled
  mid = given_up_in given (lost_in l t)

  lost_h : Stands service (on h later) mid
  lost_h = laws.loses service h t l given stands_h losing (given_up_with service g t l (Some up) rests.stands may) counted_all

  -- No link is given back then.

  undone_h : NoneDone h.setup h.plan later
  undone_h x there =
      laws.tests service (on h later) mid x lost_h there
      ∙ gone_undone service g t l given rests.stands (given_aside l (Some up) t may) x (sym (laws.tests service g t x rests.stands there) ∙ rests.rested x there)

  pub undone : NoneDone g.setup g.plan later
  undone x there =
      done_less g.plan h.plan moment (then_more g m) (view_of g.setup later) (later.wires x) (link_in g.setup later x) (undone_h x there)

  -- Its row.

  abbrev gone : Client
  gone = so.parts.row

  same_seat : gone.desk.seat ≡ so.row.desk.seat
  same_seat = by from.how where
    from : ChangedFrom gone_row (present_in l t) c (t.clients c) gone
    from = changed_from gone_row (present_in l t) c (t.clients c) gone so.parts.there

    old : from.old ≡ so.row
    old = same_Some from.old so.row (sym from.there ∙ so.at_work.there)

    by : (gone ≡ from.old) ⊎ ((name : SessionName) × (present_in l t ≡ Some name) × (name.client ≡ c) × (gone ≡ gone_row name.hostgroup from.old))
        → gone.desk.seat ≡ so.row.desk.seat
    by (inl same) = ap (λ (r : Client). r.desk.seat) (same ∙ old)
    by (inr its) = ap (λ (r : Client). r.desk.seat) its.3 ∙ ap (λ (r : Client). r.desk.seat) old

  abbrev row_then : Client
  row_then = given_row (given c) gone

  there_then : mid.clients c ≡ Some row_then
  there_then = ap (option_map (given_row (given c))) so.parts.there

  -- What it was owed is a front of what it is owed then, by either plan.

  abbrev then_by : Ground → Known
  then_by k = record { plan = k.plan; view = view_on g; moment = moment }

  abbrev answered : (ordinal : ℕ) → Framed → Option (List (List ℕ)) → Option Reply → Option (List ℕ)
  answered ordinal message o reply = answer_by o reply (number_of g.plan (name_of client ordinal)) (next_id message.last)

  stays : (ordinal : ℕ) (message : Framed) (bytes : List ℕ) → ordinal ≤ client.taken → answer_to (known_on g) client ordinal message ≡ Some bytes
      → answer_to (then_by g) client ordinal message ≡ Some bytes
  stays ordinal message bytes below is =
      ap (λ (o : Option (List (List ℕ))). answered ordinal message o ((view_on g).replies (name_of client ordinal)))
      (own_still g.plan g.tale.moment (name_of client ordinal) (its_still.keeps ordinal below)) ∙ is

  stays_h : (ordinal : ℕ) (message : Framed) (bytes : List ℕ) → ordinal ≤ client.taken → answer_to (known_on h) client ordinal message ≡ Some bytes
      → answer_to (then_by h) client ordinal message ≡ Some bytes
  stays_h ordinal message bytes below is = by (is_message (name_of client ordinal) m) refl where
    by : (b : Bool) → is_message (name_of client ordinal) m ≡ b → answer_to (then_by h) client ordinal message ≡ Some bytes
    by true same =
        let name : name_of client ordinal ≡ m = message_is (name_of client ordinal) m same in
        let none : answer_to (known_on h) client ordinal message ≡ None =
        (λ i. answered ordinal message (now_same (name_of client ordinal) i) ((view_on g).replies (name_of client ordinal)))
        ∙ (λ i. answered ordinal message (own_at g.plan g.tale.moment (name i)) ((view_on g).replies (name i)))
        ∙ (λ i. answered ordinal message (unheard.unowned i) (unheard.unreplied i)) in
        absurd (none-some bytes (sym none ∙ is))
    by false other =
        ap (λ (o : Option (List (List ℕ))). answered ordinal message o ((view_on g).replies (name_of client ordinal)))
        (kept client its_still ordinal below other) ∙ is

  front : IsFrontOf client (ended so.row.desk.seat) (due_bytes (view_on g).replies g.plan moment client)
  front = front_then g client so.row row_is going_is.going (rests.looked c) wordless stays

  front_h : IsFrontOf client (ended so.row.desk.seat) (due_bytes (view_on g).replies h.plan moment client)
  front_h =
      front_then h client so.row (its_row service h t client so.row stands_h seated so.at_work.there) going_is.going (rests.looked c) wordless stays_h

  -- It leaves.

  abbrev left : Tale
  left = tell (Left c) later

  abbrev by_seat : Seat → Seat
  by_seat seat = ended gone.desk.seat

  leaving : IsLeaving (on h left) client (ended so.row.desk.seat)
  leaving = record {
    who = record { link = row_is.who.link; number = row_is.who.number; port = row_is.who.port; salt = row_is.who.salt; drained = row_is.who.drained };
    heard = tt;
    owed = front_h;
    placed = tt;
  }

  leaves : IsEnding (on h left) client (ended so.row.desk.seat)
  leaves = record { ended = refl; told = λ worded. absurd (true≢false (sym worded ∙ ap is_some wordless)) }

  left_h : Stands service (ending c (on h left)) (left_in c by_seat mid)
  left_h =
      laws.leaves service (on h later) mid client row_then by_seat lost_h seated there_then
      (has_lives service (on h later) mid client row_then lost_h seated there_then (may_given (given c) gone so.parts.lives))
      (subst (λ (seat : Seat). IsLeaving (on h left) client (ended seat)) (sym same_seat) leaving)
      (subst (λ (seat : Seat). IsEnding (on h left) client (ended seat)) (sym same_seat) leaves)

  left_same : IsSame (left_in c ended (lost_in l t)) (left_in c by_seat mid)
  left_same =
      subst (λ (found : Option Client). IsSame
      (option_map_or (λ (r : Client). client_put c (Some (left_row ended r)) (parted_in r.desk.sessions (lost_in l t))) found (lost_in l t))
      (option_map_or (λ (r : Client). client_put c (Some (left_row by_seat r)) (parted_in r.desk.sessions mid)) (option_map (given_row (given c)) found) mid))
      (sym so.parts.there) (record {
        clients = λ d. clients_by d (nat_eq c.0 d.0) refl;
        numbers = λ k. refl;
        links = λ k. ap (λ (ss : List Session). (parted_in ss (lost_in l t)).links k) (sym (given_sessions (given c) gone));
      }) where
        clients_by : (d : ClientNo) (b : Bool) → nat_eq c.0 d.0 ≡ b
            → (if b then Some (left_row ended gone) else (lost_in l t).clients d)
            ≡ (if b then Some (left_row by_seat row_then) else option_map (given_row (given d)) ((lost_in l t).clients d))
        clients_by d true same = ap (λ (r : Client). Some r) (sym (left_given (given c) gone))
        clients_by d false apart =
            given_none ((lost_in l t).clients d)
            ∙ ap (λ (b : Bool). option_map (given_row (if b then Some [] else None)) ((lost_in l t).clients d)) (sym apart)

  parted_h : Stands service (ending c (on h left)) so.parted
  parted_h =
      laws.same service (ending c (on h left)) (left_in c ended (lost_in l t)) so.parted
      (laws.same service (ending c (on h left)) (left_in c by_seat mid) (left_in c ended (lost_in l t)) left_h left_same) so.parts.same

  -- So it is by the plan that there is: of its answers nothing is asked.

  abbrev row_last : Client
  row_last = left_row ended gone

  pub there_last : so.parted.clients c ≡ Some row_last
  there_last = left_there c ended (lost_in l t) so.parted gone so.parts.there so.parts.same

  its_last : IsClient (ending c (on g left)) client row_last
  its_last =
      let was : IsClient (ending c (on h left)) client row_last =
      its_row service (ending c (on h left)) so.parted client row_last parted_h seated there_last in
      let over : IsOver (ending c (on h left)) client row_last = was.phase in
      record {
        who = was.who;
        heard = tt;
        owed = subst (λ (seat : Seat). IsFrontOf client (ended seat) (due_bytes (view_on g).replies g.plan moment client)) (sym same_seat) front;
        desk = was.desk;
        coming = was.coming;
        phase = record {
          over = over.over;
          idle = over.idle;
          told = λ worded. absurd (true≢false (sym worded ∙ ap is_some wordless));
          homeless = over.homeless;
        };
      }

  rows_last : (x : tales.Client) → IsSeated g.tale x → IsClientOr (ending c (on h left)) x (so.parted.clients x.number)
      → IsClientOr (ending c (on g left)) x (so.parted.clients x.number)
  rows_last x at was = by (is_client c x.number) refl where
    by : (b : Bool) → is_client c x.number ≡ b → IsClientOr (ending c (on g left)) x (so.parted.clients x.number)
    by true same =
        subst (λ (y : tales.Client). IsClientOr (ending c (on g left)) y (so.parted.clients y.number)) (sym (it_alone x at same))
        (subst (λ (found : Option Client). IsClientOr (ending c (on g left)) client found) (sym there_last) its_last)
    by false apart =
        row_alike (ending c (on h left)) g.plan.own x (λ ordinal below. sym (then_alike g m (name_of x ordinal) (other_message x ordinal apart)))
        (so.parted.clients x.number) was

  pub parted_stands : Stands service (ending c (on g left)) so.parted
  parted_stands = stands_alike (ending c (on h left)) g.plan.own service so.parted parted_h owns_last rows_last where
    -- its own row ended
    owns_last : (x : tales.Client) → IsSeated g.tale x → (row : Client) → so.parted.clients x.number ≡ Some row → is_ended row.desk.seat.phase ≡ false
        → OwnsAlike (ending c (on h left)) g.plan.own x
    owns_last x at row there going = by (is_client c x.number) refl where
      by : (b : Bool) → is_client c x.number ≡ b → OwnsAlike (ending c (on h left)) g.plan.own x
      by true same =
          let one : row_last ≡ row = same_Some row_last row (sym there_last ∙ ap so.parted.clients (client_of c x.number same) ∙ there) in
          absurd (true≢false (ap (λ (r : Client). is_ended r.desk.seat.phase) one ∙ going))
      by false apart = λ ordinal below. sym (then_alike g m (name_of x ordinal) (other_message x ordinal apart))

  -- Links that carried its other sessions are all that may be given back then.

  homes : AreHomesOf c links mid
  homes = record {
    row = given_row (given c) so.homes.row;
    there = ap (option_map (given_row (given c))) so.homes.there;
    homes = λ k at home some.
        so.homes.homes k at (ap (λ (s : Session). s.home) (sym (sessions_so given t (given c) so.homes.row k)) ∙ home) some;
    known = so.homes.known;
    rising = so.homes.rising;
  }

  its_link : IsLinkOf client.link c row_then mid
  its_link =
      let at : IsAt (on h later) mid client = seated_of (IsAt (on h later) mid) g.tale client seated lost_h.clients.each in
      record { numbered = at.found (ap is_some there_then); there = there_then }

  pub are_all : AreAll g.setup g.plan links left
  are_all =
      let homed = laws.homed g.setup later.story lost_h.lawful in
      record {
        theirs = theirs service (on h later) mid client.link c row_then lost_h its_link links homes homed undone_h;
        all = λ k there out.
            done_less g.plan h.plan moment (then_more g m) (view_of g.setup left) (left.wires k) (link_in g.setup left k)
            (left_but service (on h later) mid client.link c row_then lost_h its_link links homes homed undone_h k there out);
      }

  pub to_servers : All (λ (k : LinkId). is_to_server left k ≡ true) links
  to_servers =
      all_theirs service (on h later) mid client.link c row_then lost_h its_link links homes (laws.homed g.setup later.story lost_h.lawful) undone_h
