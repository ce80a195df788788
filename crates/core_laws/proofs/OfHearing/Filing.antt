-- What a client without work has prepared is another: all else stands, which reads nothing of it.
use Rattle.std.specs.Prelude.{◌≡◌, ◌⊎◌, ℕ, Bool, true, false, All, is_some, nat_eq, if◌then◌else◌, List, Option, Some, None}
use Rattle.std.proofs.Common.{refl, sym, ap, ◌∙◌, subst, inl, inr}
use Rattle.mx_base.specs.declared.names.Hostgroup.{Hostgroup}
use Rattle.private_model.specs.Names.{ClientNo, LinkId, SessionName}
use Rattle.private_model.specs.Story.{is_client}
use Rattle.log_story.specs.Owed.{due_bytes}
use Rattle.log_story.specs.Plan.{Plan}
use Rattle.log_story.specs.Tale as tales
use Rattle.stmt_map.specs.declared.client.ClientStatements.{ClientStatements}
use Rattle.client_desk.specs.declared.work.Work.{Work}
use Rattle.client_seat.specs.Seats.{is_ended}
use Rattle.client_seat.specs.Stands.{IsHeardIn, IsWrittenOf}
use Rattle.client_seat.specs.declared.phase.Phase.{Phase}
use Rattle.client_seat.specs.declared.phase.Phase.TheVariants as phase
use Rattle.client_seat.specs.declared.seat.Seat.{Seat}
use Rattle.core_tables.specs.Arrivals.{seated}
use Rattle.core_tables.specs.Preparing.{with_statements}
use Rattle.core_tables.specs.Tables.{Tabled, client_put}
use Rattle.core_tables.specs.declared.client.Client.{Client}
use Rattle.core_stands.specs.Clients.{IsClient, IsClientOr, IsFrontOf, IsGoing, IsOwing, IsPhase, IsWorkingOr}
use Rattle.core_stands.specs.Grounds.{Ground, known_on, view_on}
use Rattle.core_stands.specs.Stands.{AreClients, IsAt, IsKnown}
use Rattle.client_seat.specs.Stands.{due_so_far}
use Rattle.core_laws.proofs.OfArrival.Changing.{InWork, IsChange, RowsStay, are-homes, kept-by, put-other, put-same, read-by, servers-read}
use Rattle.core_laws.proofs.OfArrival.Finding.{client-true, map-itself, of-some}
use Rattle.core_laws.proofs.OfArrival.Grounding.{Aside}
use Rattle.core_laws.proofs.OfHearing.Standing.{StandsBut}
use Rattle.core_laws.proofs.OfPrepared.Mapping.{has_same}

-- The client itself.

module _ (g : Ground) (client : tales.Client) (row : Client) (s : ClientStatements) where
  abbrev seat : Seat
  seat = with_statements s row.desk.seat

  abbrev filed : Client
  filed = seated (with_statements s) row

  heard_filed : (at : Phase) → IsHeardIn at g.plan client row.desk.seat → IsHeardIn at g.plan client seat
  heard_filed phase.LoggingIn is = record {
    limit = is.limit;
    untaken = is.untaken;
    arrived = is.arrived;
    written = is.written;
    size = is.size;
    login = is.login;
  }
  heard_filed (phase.Serving account) is = record {
    limit = is.limit;
    known = is.known;
    logged_in = is.logged_in;
    faultless = is.faultless;
    arrived = is.arrived;
    gone = is.gone;
    size = is.size;
    rest = is.rest;
  }
  heard_filed phase.Ended is = tt

  written_filed : (due : List ℕ) → IsWrittenOf client row.desk.seat due → IsWrittenOf client seat due
  written_filed due is = record { written = is.written; size = is.size; all = is.all }

  owed_filed : (at : Phase) (fresh : Bool) → IsOwing at fresh g client row.desk.seat → IsOwing at fresh g client seat
  owed_filed phase.LoggingIn true is = tt
  owed_filed phase.LoggingIn false is = written_filed (due_so_far (known_on g) client) is
  owed_filed (phase.Serving account) fresh is = written_filed (due_so_far (known_on g) client) is
  owed_filed phase.Ended fresh is = record { written = is.written; size = is.size; front = is.front }

  working_filed : row.desk.work ≡ None → IsWorkingOr g client row row.desk.work → IsWorkingOr g client filed row.desk.work
  working_filed idle is =
      subst (λ (work : Option Work). IsWorkingOr g client filed work) (sym idle) (subst (λ (work : Option Work). IsWorkingOr g client row work) idle is)

  phase_filed : row.desk.work ≡ None → (ended : Bool) → IsPhase ended g client row → IsPhase ended g client filed
  phase_filed idle true is = record { over = is.over; idle = is.idle; told = is.told; homeless = is.homeless }
  phase_filed idle false is = record {
    going = is.going;
    earlier = is.earlier;
    answered = is.answered;
    went = is.went;
    busy = is.busy;
    working = working_filed idle is.working;
    unmoved = is.unmoved;
    account = is.account;
    collation = is.collation;
  }

  pub client_filed : row.desk.work ≡ None → IsClient g client row → IsClient g client filed
  client_filed idle is = record {
    who = record { link = is.who.link; number = is.who.number; port = is.who.port; salt = is.who.salt; drained = is.who.drained };
    heard = heard_filed row.desk.seat.phase is.heard;
    owed = owed_filed row.desk.seat.phase (g.fresh client.number) is.owed;
    desk = record { number = is.desk.number; sessions = is.desk.sessions; place = is.desk.place; work = is.desk.work; row = is.desk.row };
    coming = is.coming;
    phase = phase_filed idle (is_ended row.desk.seat.phase) is.phase;
  }

-- The tables.

module _ (in_work : InWork) (stay : RowsStay) (g : Ground) (t : Tabled) (but : StandsBut g t) (c : ClientNo) (row : Client)
    (there : t.clients c ≡ Some row) (idle : row.desk.work ≡ None) (s : ClientStatements) where
  abbrev now : Tabled
  now = client_put c (Some (seated (with_statements s) row)) t

  abbrev here : Aside
  here = record { moment = g.tale.moment; clients = g.tale.clients; over = g.over; fresh = g.fresh }

  change : IsChange g here t now c (λ (x : tales.Client). x) row (with_statements s row.desk.seat)
  change = record {
    clients = sym (map-itself g.tale.clients);
    moment = refl;
    number = λ x. refl;
    link = λ x. refl;
    taken = λ x. refl;
    more = λ x. has_same g.plan x;
    ends = λ n is. is;
    there = there;
    changed = put-same c (Some (seated (with_statements s) row)) t;
    others = λ other apart. put-other c other (Some (seated (with_statements s) row)) t apart;
    numbers = λ l. refl;
    links = λ l. refl;
  }

  kept : (n : ClientNo) → is_some (now.clients n) ≡ is_some (t.clients n)
  kept n = kept-by g here t now c (λ (x : tales.Client). x) row (with_statements s row.desk.seat) change n (is_client c n) refl

  some_kept : (n : ClientNo) (r : Client) → now.clients n ≡ Some r → (old : Client) × (t.clients n ≡ Some old)
  some_kept n r is = of-some (t.clients n) (sym (kept n) ∙ ap is_some is)

  row_filed : (x : tales.Client) → IsClientOr g x (t.clients x.number) → (b : Bool) → is_client c x.number ≡ b → IsClientOr g x (now.clients x.number)
  row_filed x is true same =
      let at : t.clients x.number ≡ Some row = ap t.clients (sym (client-true c x.number same)) ∙ there in
      subst (λ (found : Option Client). IsClientOr g x found) (sym (ap (λ (b : Bool). if b then Some (seated (with_statements s) row) else t.clients x.number) same))
      (client_filed g x row s idle (subst (λ (found : Option Client). IsClientOr g x found) at is))
  row_filed x is false apart =
      subst (λ (found : Option Client). IsClientOr g x found)
      (sym (ap (λ (b : Bool). if b then Some (seated (with_statements s) row) else t.clients x.number) apart)) is

  at_filed : (x : tales.Client) → IsAt g t x → IsAt g now x
  at_filed x is = record {
    row = row_filed x is.row (is_client c x.number) refl;
    found = λ some. is.found (sym (kept x.number) ∙ some);
    aside = is.aside;
    alone = is.alone;
  }

  pub filed_stands : StandsBut g now
  filed_stands = record {
    clients = record {
      counted = but.clients.counted;
      each = λ k d below. at_filed _ (but.clients.each k d below);
      known = λ n r is. (let old = some_kept n r is in but.clients.known n old.0 old.1);
      named = λ l n is. (let found = but.clients.named l n is in (found.0, found.1, found.2, kept n ∙ found.3));
    };
    servers = λ l. servers-read in_work g t now
        (λ n. read-by g here t now c (λ (x : tales.Client). x) row (with_statements s row.desk.seat) change (inr idle) n (is_client c n) refl)
        stay l (t.links l) (but.servers l);
    homes = (let homes = are-homes g here t now c (λ (x : tales.Client). x) row (with_statements s row.desk.seat) change but.homes in
        record { carried = homes.carried; home = homes.home });
  }
