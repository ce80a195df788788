-- A client's row is another one, as the tale has the client taken one message further: all else stands as it was.
use Rattle.std.specs.Prelude.{◌≡◌, ◌≤◌, ℕ, zero, suc, Bool, true, false, if◌then◌else◌, is_some, List, Option, Some, None}
use Rattle.std.proofs.Common.{refl, sym, ap, ◌∙◌, subst, arith}
use Rattle.mx_base.specs.declared.names.Hostgroup.{Hostgroup}
use Rattle.mx_base.specs.declared.names.LinkId.{LinkId}
use Rattle.client_session.specs.Setups.{Setup as Service}
use Rattle.private_model.proofs.Maps.{client_of, same_number}
use Rattle.private_model.specs.Lawful.{IsLawful}
use Rattle.private_model.specs.Names.{ClientNo, MessageName, SessionName}
use Rattle.private_model.specs.Story as story
use Rattle.private_model.specs.Story.{Question, Story, is_client, is_link_id}
use Rattle.private_model.specs.View as view
use Rattle.private_model.specs.View.{Link}
use Rattle.log_story.specs.Clients.{is_answered}
use Rattle.log_story.specs.Tale as tales
use Rattle.log_story.specs.Tale.{is_to_server, link_in, with_client}
use Rattle.step_laws.specs.Seats.{AreCounted, IsSeated}
use Rattle.step_laws.specs.Taken.{next_of}
use Rattle.step_laws.proofs.Taking.{numbers_new}
use Rattle.link_state.specs.declared.asking.Asking.{Asking}
use Rattle.link_state.specs.declared.asking.Purpose.{Purpose}
use Rattle.link_state.specs.declared.asking.Purpose.TheVariants as purposes
use Rattle.link_state.specs.declared.state.Stage.{Stage}
use Rattle.link_state.specs.declared.state.Stage.TheVariants.{Quiet, Asked, Answered}
use Rattle.lent_link.specs.declared.link.Begins.{Begins}
use Rattle.lent_link.specs.declared.link.Begins.TheVariants as begins
use Rattle.served_link.specs.declared.row.Row.{Row}
use Rattle.row_laws.specs.Whose.{OfStatement}
use Rattle.client_seat.specs.Seats.{is_ended}
use Rattle.client_seat.specs.declared.phase.Phase.{Phase}
use Rattle.client_seat.specs.declared.phase.Phase.TheVariants as phase
use Rattle.client_desk.specs.Desks.{session_of}
use Rattle.client_desk.specs.declared.session.Session.{Session}
use Rattle.client_desk.specs.declared.work.Work.{Work}
use Rattle.core_tables.specs.Tables.{Tabled, client_put}
use Rattle.core_tables.specs.declared.client.Client.{Client}
use Rattle.core_tables.specs.declared.server.Server.{Server}
use Rattle.core_stands.specs.Clients.{IsClient, IsClientOr, IsOwing, IsPhase, IsWorkingOr}
use Rattle.core_stands.specs.Grounds.{Ground, on, view_on}
use Rattle.core_stands.specs.Servers.{IsFirst, IsNextFor, IsNextOf, IsPartedAt, IsPartedFor, IsReplying, IsReplyingAt, IsReplyingFor, IsServer, IsServerBy, IsServerOr, IsStanding, IsStandingAt, IsTakenUp}
use Rattle.core_stands.specs.Stands.{AreClients, AreDuly, AreHomes, ArePrepared, IsAt, IsHome, IsKnown, IsPrepared, Stands}
use Rattle.core_laws.proofs.OfPrepared.Rows.{owns_stay, prepared_by_row, row_itself}
use Rattle.core_laws.proofs.OfTaking.Seated.{each_after, flipped, is_alone, of_seated, others_seated, others_seats, seated_after}

some_is : {A : Type 0} (a b : A) → Some a ≡ Some b → a ≡ b
some_is a b is = cc

-- What stands of a client stands so in a tale with other clients.

module _ (g : Ground) (cs : List tales.Client) where
  abbrev with_clients : Ground
  with_clients = on g (record g.tale { clients = cs })

  answered_so : (x : tales.Client) (ordinal : ℕ)
      → is_answered g.plan (record g.tale { clients = cs }) (view_on g) x ordinal ≡ is_answered g.plan g.tale (view_on g) x ordinal
  answered_so x zero = refl
  answered_so x (suc ordinal) = refl

  module _ (x : tales.Client) (row : Client) where
    working_so : (work : Option Work) → IsWorkingOr g x row work → IsWorkingOr with_clients x row work
    working_so None is = is
    working_so (Some work) is =
        record { last = is.last; went = is.went; number = is.number; only = is.only; prepares = is.prepares; keyed = is.keyed; first = is.first; unsent = is.unsent; there = is.there }

    phase_so : (ended : Bool) → IsPhase ended g x row → IsPhase ended with_clients x row
    phase_so true is = record {
      over = is.over;
      idle = is.idle;
      told = λ some ordinal below. answered_so x ordinal ∙ is.told some ordinal below;
      homeless = is.homeless;
    }
    phase_so false is = record {
      going = is.going;
      answered = is.answered ∙ sym (answered_so x x.taken);
      earlier = λ ordinal below. answered_so x ordinal ∙ is.earlier ordinal below;
      went = is.went;
      busy = is.busy;
      working = working_so row.desk.work is.working;
      unmoved = is.unmoved;
      account = is.account;
      collation = is.collation;
    }

    owing_so : (at : Phase) (fresh : Bool) → IsOwing at fresh g x row.desk.seat → IsOwing at fresh with_clients x row.desk.seat
    owing_so phase.LoggingIn true is = tt
    owing_so phase.LoggingIn false is = is
    owing_so (phase.Serving login) fresh is = is
    owing_so phase.Ended fresh is = is

    client_so : IsClient g x row → IsClient with_clients x row
    client_so is = record {
      who = is.who;
      heard = is.heard;
      owed = owing_so row.desk.seat.phase (g.fresh x.number) is.owed;
      desk = is.desk;
      coming = is.coming;
      phase = phase_so (is_ended row.desk.seat.phase) is.phase;
    }

  pub client_or_so : (x : tales.Client) (row : Option Client) → IsClientOr g x row → IsClientOr with_clients x row
  client_or_so x None is = record { over = is.over; homeless = is.homeless }
  client_or_so x (Some row) is = client_so x row is

-- one whose message was taken up
pub its_taken : (g : Ground) (client : tales.Client) → IsSeated g.tale client → (n : SessionName) (ordinal : ℕ) → IsTakenUp g n ordinal
    → n.client ≡ client.number → ordinal ≤ client.taken
its_taken g client seated n ordinal up named =
    let one : up.client ≡ client = is_alone client g.tale seated up.client up.seated (up.number ∙ named) in
    subst (λ (x : tales.Client). ordinal ≤ x.taken) one up.by_now

-- The rows of links, and the homes of sessions.

module _ (g : Ground) (past : Story) (t : Tabled) (client : tales.Client) (row new : Client)
    (seated : IsSeated g.tale client) (there : t.clients client.number ≡ Some row) (idle : row.desk.work ≡ None)
    (works : (work : Work) → new.desk.work ≡ Some work → work.ordinal ≡ suc client.taken)
    (home_is : (h : Hostgroup) → (session_of new.desk h).home ≡ (session_of row.desk h).home)
    (life_is : (h : Hostgroup) → (session_of new.desk h).life ≡ (session_of row.desk h).life) where
  abbrev told : Ground
  told = on g (record g.tale { story = past })

  abbrev after : Ground
  after = on g (with_client (next_of client) (record g.tale { story = past }))

  abbrev other : Tabled
  other = client_put client.number (Some new) t

  elsewhere : (c : ClientNo) → is_client c client.number ≡ false → other.clients c ≡ t.clients c
  elsewhere c apart = ap (λ (b : Bool). if b then Some new else t.clients c) (flipped c client.number apart)

  here : other.clients client.number ≡ Some new
  here = ap (λ (b : Bool). if b then Some new else t.clients client.number) (same_number client.number.0)

  its_new : (c : ClientNo) (found : Client) → is_client c client.number ≡ true → other.clients c ≡ Some found → found ≡ new
  its_new c found same at =
      some_is found new (sym at ∙ ap other.clients (client_of c client.number same) ∙ here)

  its_row : (c : ClientNo) (found : Client) → is_client c client.number ≡ true → t.clients c ≡ Some found → found ≡ row
  its_row c found same at =
      some_is found row (sym at ∙ ap t.clients (client_of c client.number same) ∙ there)

  module _ (l : LinkId) (server : Row) where
    taken_so : (n : SessionName) (ordinal : ℕ) → IsTakenUp told n ordinal → IsTakenUp after n ordinal
    taken_so n ordinal up = by (is_client up.client.number client.number) refl where
      by : (b : Bool) → is_client up.client.number client.number ≡ b → IsTakenUp after n ordinal
      by false apart = record {
        client = up.client;
        seated = others_seated client g.tale seated g.setup up.client apart up.seated;
        number = up.number;
        by_now = up.by_now;
      }
      by true e =
          let same : client.number ≡ n.client = sym (client_of up.client.number client.number e) ∙ up.number in
          let before : ordinal ≤ client.taken = its_taken told client seated n ordinal up (sym same) in
          record { client = next_of client; seated = seated_after client g.tale seated g.setup g.plan; number = same; by_now = omega arith }

    first_so : (n : SessionName) (ordinal first : ℕ) → IsTakenUp told n ordinal → IsFirst t n ordinal first → IsFirst other n ordinal first
    first_so n ordinal first taken is found work at working same = by (is_client n.client client.number) refl where
      by : (b : Bool) → is_client n.client client.number ≡ b → found.desk.seat.first ≡ first
      by false apart = is found work (sym (elsewhere n.client apart) ∙ at) working same
      by true e =
          let one : found ≡ new = its_new n.client found e at in
          let in_work : new.desk.work ≡ Some work = ap (λ (x : Client). x.desk.work) (sym one) ∙ working in
          let latest : work.ordinal ≡ suc client.taken = works work in_work in
          let before : ordinal ≤ client.taken = its_taken told client seated n ordinal taken (client_of n.client client.number e) in
          absurd (omega arith)

    next_for_so : (link : Link) (asking : Asking) (purpose : Purpose) → IsNextFor purpose told t server link asking
        → IsNextFor purpose after other server link asking
    next_for_so link asking (purposes.Statement n ordinal key) is = record {
      said = is.said;
      first = first_so n ordinal server.link.first is.taken_up is.first;
      asked = is.asked;
      number = is.number;
      taken_up = taken_so n ordinal is.taken_up;
    }
    next_for_so link asking (purposes.Prep n ordinal key) is = record { said = is.said; told = is.told; taken_up = taken_so n ordinal is.taken_up }
    next_for_so link asking (purposes.Sync n) is = record { command = is.command; said = is.said }
    next_for_so link asking purposes.Own is = record { command = is.command; said = is.said }
    next_for_so link asking (purposes.End n) is = is
    next_for_so link asking (purposes.Capture n) is = is

    next_so : (link : Link) (next : Option Begins) → IsNextOf next told t server link → IsNextOf next after other server link
    next_so link None is = tt
    next_so link (Some (begins.Asks asking)) is = (is.0, next_for_so link asking asking.purpose is.1)
    next_so link (Some (begins.Closes number)) is = is
    next_so link (Some (begins.Resets number)) is = is
    next_so link (Some begins.Quits) is = is

    replying_to : (asking : Asking) (n : SessionName) (ordinal : ℕ) → IsReplying told t l server asking n ordinal
        → IsReplying after other l server asking n ordinal
    replying_to asking n ordinal is = record {
      client = is.client;
      work = is.work;
      there = by (is_client n.client client.number) refl;
      in_work = is.in_work;
      last = is.last;
      sent = is.sent;
      hostgroup = is.hostgroup;
      number = is.number;
      first = is.first;
      coming = is.coming;
    } where
      by : (b : Bool) → is_client n.client client.number ≡ b → other.clients n.client ≡ Some is.client
      by false apart = elsewhere n.client apart ∙ is.there
      by true e =
          let one : is.client ≡ row = its_row n.client is.client e is.there in
          let no : None ≡ Some is.work = sym idle ∙ ap (λ (x : Client). x.desk.work) (sym one) ∙ is.in_work in
          absurd (cc)

    replying_for_so : (asking : Asking) (purpose : Purpose) → IsReplyingFor purpose told t l server asking
        → IsReplyingFor purpose after other l server asking
    replying_for_so asking (purposes.Statement n ordinal key) is = replying_to asking n ordinal is
    replying_for_so asking (purposes.Prep n ordinal key) is = tt
    replying_for_so asking (purposes.Sync n) is = tt
    replying_for_so asking purposes.Own is = tt
    replying_for_so asking (purposes.End n) is = tt
    replying_for_so asking (purposes.Capture n) is = tt

    replying_so : (stage : Stage) → IsReplyingAt stage told t l server → IsReplyingAt stage after other l server
    replying_so Quiet is = tt
    replying_so (Asked asking) is = replying_for_so asking asking.purpose is
    replying_so (Answered asking) is = replying_for_so asking asking.purpose is

    question_so : (question : Question) → OfStatement question (IsStanding told l) → OfStatement question (IsStanding after l)
    question_so (story.Statement n due) is = record { carrier = is.carrier; unanswered = is.unanswered }
    question_so (story.Prep n key text) is = tt
    question_so (story.Sync n command) is = tt
    question_so (story.Own command) is = tt
    question_so (story.End n) is = tt
    question_so (story.Capture n) is = tt

    standing_so : (stage : view.Stage) → IsStandingAt stage told l → IsStandingAt stage after l
    standing_so view.Quiet is = tt
    standing_so (view.Asked question) is = question_so question is
    standing_so (view.Answered question) is = question_so question is

    parted_for : (purpose : Purpose) → IsPartedFor purpose told → IsPartedFor purpose after
    parted_for (purposes.Statement n ordinal key) is = (is.0, taken_so n ordinal is.1)
    parted_for (purposes.Prep n ordinal key) is = tt
    parted_for (purposes.Sync n) is = tt
    parted_for purposes.Own is = tt
    parted_for (purposes.End n) is = tt
    parted_for (purposes.Capture n) is = tt

    parted_so : (stage : Stage) → IsPartedAt stage told → IsPartedAt stage after
    parted_so Quiet is = tt
    parted_so (Asked asking) is = parted_for asking.purpose is
    parted_so (Answered asking) is = parted_for asking.purpose is

    server_so : IsServer told t l server → IsServer after other l server
    server_so is = record {
      row = is.row;
      user = is.user;
      found_rows = is.found_rows;
      standing = standing_so (link_in g.setup told.tale l).stage is.standing;
      next = next_so (link_in g.setup told.tale l) server.link.next is.next;
      lent = is.lent;
      parted = λ sound whole left. parted_so server.link.state.stage (is.parted sound whole left);
      replying = λ sound whole mine. replying_so server.link.state.stage (is.replying sound whole mine);
    }

  server_by : (l : LinkId) (to_server : Bool) (found : Option Server) → IsServerBy to_server told t l found → IsServerBy to_server after other l found
  server_by l true (Some server) is = server_so l server.row is
  server_by l true None is = is
  server_by l false found is = is

  servers_so : (l : LinkId) → IsServerOr told t l (t.links l) → IsServerOr after other l (other.links l)
  servers_so l is = server_by l (is_to_server g.tale l) (t.links l) is

  home_so : (l : LinkId) (n : SessionName) (server : Server) → IsHome t l n server → IsHome other l n server
  home_so l n server is = record { there = is.there; carries = is.carries; present = is.present; whole = is.whole }

  abbrev Carries : ClientNo → Hostgroup → LinkId → Session → Type 0
  Carries c h l s =
      s.home ≡ Some l → (server : Server) × IsHome other l (record { client = c; hostgroup = h; life = s.life }) server

  carried_so : AreHomes g t → (c : ClientNo) (found : Client) (h : Hostgroup) (l : LinkId) → other.clients c ≡ Some found
      → Carries c h l (session_of found.desk h)
  carried_so are c found h l at = by (is_client c client.number) refl where
    were : (d : ClientNo) (old : Client) → t.clients d ≡ Some old → Carries d h l (session_of old.desk h)
    were d old was home =
        let it = are.carried d old h l was home in
        (it.0, home_so l (record { client = d; hostgroup = h; life = (session_of old.desk h).life }) it.0 it.1)

    by : (b : Bool) → is_client c client.number ≡ b → Carries c h l (session_of found.desk h)
    by false apart = were c found (sym (elsewhere c apart) ∙ at)
    by true e =
        subst (λ (x : Client). Carries c h l (session_of x.desk h)) (sym (its_new c found e at))
        (λ home. moved (were c row (ap t.clients (client_of c client.number e) ∙ there) (sym (home_is h) ∙ home))) where
          moved : (server : Server) × IsHome other l (record { client = c; hostgroup = h; life = (session_of row.desk h).life }) server
              → (server : Server) × IsHome other l (record { client = c; hostgroup = h; life = (session_of new.desk h).life }) server
          moved it = (
            it.0,
            subst (λ (life : ℕ). IsHome other l (record { client = c; hostgroup = h; life = life }) it.0) (sym (life_is h)) it.1,
          )

  homes_so : AreHomes g t → AreHomes after other
  homes_so are = record {
    carried = λ c found h l at home. carried_so are c found h l at home;
    home = λ l server n is carries present whole.
        let it = are.home l server n is carries present whole in
        by l n it.0 it.1 it.2 it.3 (is_client n.client client.number) refl;
  } where
    by : (l : LinkId) (n : SessionName) (old : Client) → t.clients n.client ≡ Some old
        → (session_of old.desk n.hostgroup).home ≡ Some l → (session_of old.desk n.hostgroup).life ≡ n.life
        → (b : Bool) → is_client n.client client.number ≡ b
        → (found : Client) × (other.clients n.client ≡ Some found) × ((session_of found.desk n.hostgroup).home ≡ Some l)
        × ((session_of found.desk n.hostgroup).life ≡ n.life)
    by l n old was home life false apart = (old, elsewhere n.client apart ∙ was, home, life)
    by l n old was home life true e =
        let same : session_of row.desk n.hostgroup ≡ session_of old.desk n.hostgroup =
        ap (λ (x : Client). session_of x.desk n.hostgroup) (sym (its_row n.client old e was)) in (
          new,
          ap other.clients (client_of n.client client.number e) ∙ here,
          home_is n.hostgroup ∙ ap (λ (s : Session). s.home) same ∙ home,
          life_is n.hostgroup ∙ ap (λ (s : Session). s.life) same ∙ life,
        )

  -- The clients.

  known_so : (c : ClientNo) (x : tales.Client) → is_client c client.number ≡ false → IsKnown g c x → IsKnown after c x
  known_so c x apart is = record {
    seated = others_seated client g.tale seated g.setup x (ap (λ (d : ClientNo). is_client d client.number) is.number ∙ apart) is.seated;
    number = is.number;
  }

  next_known : (c : ClientNo) → is_client c client.number ≡ true → IsKnown after c (next_of client)
  next_known c e = record { seated = seated_after client g.tale seated g.setup g.plan; number = sym (client_of c client.number e) }

  others_at : (x : tales.Client) → is_client x.number client.number ≡ false → IsClientOr told x (t.clients x.number) → IsAt g t x → IsAt after other x
  others_at x apart is at = record {
    row = subst (λ (found : Option Client). IsClientOr after x found) (sym (elsewhere x.number apart))
        (client_or_so told after.tale.clients x (t.clients x.number) is);
    found = λ some. at.found (ap is_some (sym (elsewhere x.number apart)) ∙ some);
    aside = at.aside;
    alone = each_after client (λ (y : tales.Client). is_link_id y.link x.link ≡ true → y.number ≡ x.number)
        (λ (y : tales.Client). is_link_id y.link x.link ≡ true → y.number ≡ x.number) g.tale.clients at.alone
        (of_seated client g.tale seated (λ (y : tales.Client). is_link_id y.link x.link ≡ true → y.number ≡ x.number) at.alone)
        (λ y differs is. is);
  }

  its_at : IsClient after (next_of client) new → IsAt g t client → IsAt after other (next_of client)
  its_at is at = record {
    row = subst (λ (found : Option Client). IsClientOr after (next_of client) found) (sym here) is;
    found = λ some. at.found (ap is_some there);
    aside = at.aside;
    alone = each_after client (λ (y : tales.Client). is_link_id y.link client.link ≡ true → y.number ≡ client.number)
        (λ (y : tales.Client). is_link_id y.link client.link ≡ true → y.number ≡ client.number) g.tale.clients at.alone
        (λ same. refl) (λ y differs is. is);
  }

  named_so : AreClients g t → (l : LinkId) (c : ClientNo) → t.numbers l ≡ Some c
      → (x : tales.Client) × IsKnown after c x × (x.link ≡ l) × (is_some (other.clients c) ≡ true)
  named_so are l c is = by (is_client c client.number) refl where
    was : (x : tales.Client) × IsKnown g c x × (x.link ≡ l) × (is_some (t.clients c) ≡ true)
    was = are.named l c is

    by : (b : Bool) → is_client c client.number ≡ b
        → (x : tales.Client) × IsKnown after c x × (x.link ≡ l) × (is_some (other.clients c) ≡ true)
    by false apart = (was.0, known_so c was.0 apart was.1, was.2, ap is_some (elsewhere c apart) ∙ was.3)
    by true e =
        let one : was.0 ≡ client = is_alone client g.tale seated was.0 was.1.seated (was.1.number ∙ client_of c client.number e) in (
          next_of client,
          next_known c e,
          ap (λ (x : tales.Client). x.link) (sym one) ∙ was.2,
          ap is_some (ap other.clients (client_of c client.number e) ∙ here),
        )

  abbrev Others : Type 0
  Others = (x : tales.Client) → is_client x.number client.number ≡ false → IsClientOr g x (t.clients x.number)
      → IsClientOr told x (t.clients x.number)

  clients_so : AreClients g t → Others → IsClient after (next_of client) new → AreClients after other
  clients_so are others its = record {
    counted = subst (AreCounted 1) (sym (numbers_new (next_of client) g.tale.clients)) are.counted;
    each = each_after client (IsAt g t) (IsAt after other) g.tale.clients are.each
        (its_at its (of_seated client g.tale seated (IsAt g t) are.each))
        (λ x apart at. others_at x apart (others x apart at.row) at);
    known = λ c found at. by c found at (is_client c client.number) refl;
    named = named_so are;
  } where
    by : (c : ClientNo) (found : Client) → other.clients c ≡ Some found → (b : Bool) → is_client c client.number ≡ b
        → (x : tales.Client) × IsKnown after c x
    by c found at true e = (next_of client, next_known c e)
    by c found at false apart =
        let was = are.known c found (sym (elsewhere c apart) ∙ at) in
        (was.0, known_so c was.0 apart was.1)

  -- What they have prepared.

  abbrev Replies : Type 0
  Replies = (m : MessageName) → (view_on told).replies m ≡ (view_on g).replies m

  abbrev Prepares : Type 0
  Prepares = is_ended new.desk.seat.phase ≡ false → IsPrepared after (next_of client) new

  prepared_so : AreClients g t → ArePrepared g t → Replies → Prepares → ArePrepared after other
  prepared_so are prepared replies its x now found at going = by (is_client x.number client.number) refl where
    by : (b : Bool) → is_client x.number client.number ≡ b → IsPrepared after x found
    by false apart =
        let was : IsSeated g.tale x = sym (others_seats client g.tale seated g.setup x.number apart) ∙ now in
        prepared_by_row g after.tale g.over g.fresh t other are replies (owns_stay {g = g} {tale = after.tale} refl) prepared x was found
        (row_itself t x.number found (sym (elsewhere x.number apart) ∙ at) going)
    by true e =
        let one : x ≡ next_of client =
        is_alone (next_of client) after.tale (seated_after client g.tale seated g.setup g.plan) x now (client_of x.number client.number e) in
        let same : found ≡ new = its_new x.number found e at in
        subst (λ (y : tales.Client). IsPrepared after y found) (sym one)
        (subst (λ (r : Client). IsPrepared after (next_of client) r) (sym same) (its (ap (λ (r : Client). is_ended r.desk.seat.phase) (sym same) ∙ going)))

  pub goes_so : (service : Service) → Stands service g t → Others → ((l : LinkId) → IsServerOr told t l (t.links l)) → IsLawful g.setup past
      → IsClient after (next_of client) new → Replies → AreDuly g.setup g.plan past → Prepares → Stands service after other
  goes_so service is others servers lawful its replies duly prepares = record {
    service_is = is.service_is;
    room_is = is.room_is;
    clients = clients_so is.clients others its;
    servers = λ l. servers_so l (servers l);
    homes = homes_so is.homes;
    lawful = lawful;
    prepared = prepared_so is.clients is.prepared replies prepares;
    duly = duly;
  }
