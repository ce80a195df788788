-- A client stands as an answer to what was asked for it is read, or a piece of one.
use Rattle.std.specs.Prelude.{◌≡◌, ◌<◌, ◌+◌, ℕ, zero, suc, Bool, true, false, List, Option, Some, None}
use Rattle.std.proofs.Common.{refl, sym, ap, ◌∙◌, subst}
use Rattle.std.proofs.lemmas.Bool.{true≢false}
use Rattle.mx_base.specs.declared.names.Hostgroup.{Hostgroup}
use Rattle.session_state.specs.declared.place.Place.{Place}
use Rattle.private_model.specs.Names.{LinkId, MessageName}
use Rattle.log_story.specs.Clients.{is_answered}
use Rattle.log_story.specs.Tale as tales
use Rattle.log_story.specs.Owed.{name_of}
use Rattle.log_story.specs.Tale.{Tale, Wire, view_of}
use Rattle.link_state.specs.declared.asking.Form.{Form}
use Rattle.link_state.specs.declared.asking.Form.TheVariants as forms
use Rattle.client_seat.specs.Answers.{grown}
use Rattle.client_seat.specs.Seats.{is_ended}
use Rattle.client_seat.specs.Stands.{IsHeardIn}
use Rattle.client_seat.specs.declared.phase.Phase.{Phase}
use Rattle.client_seat.specs.declared.phase.Phase.TheVariants as phase
use Rattle.client_seat.specs.declared.seat.Seat.{Seat}
use Rattle.client_desk.specs.Desks.{moved_by, session_of}
use Rattle.client_desk.specs.Sessions.{session_in}
use Rattle.client_desk.specs.declared.desk.Desk.{Desk}
use Rattle.client_desk.specs.declared.session.Session.{Session}
use Rattle.client_desk.specs.declared.work.Work.{Work}
use Rattle.core_tables.specs.Hearing.{at_desk, grown_by}
use Rattle.stmt_map.specs.declared.client.ClientStatements.{ClientStatements}
use Rattle.core_tables.specs.declared.client.Client.{Client}
use Rattle.core_stands.specs.Clients.{IsClient, IsClientOr, IsOwing, IsPhase, IsWorkingOr}
use Rattle.core_stands.specs.Grounds.{Ground, on, view_on}
use Rattle.core_laws.proofs.OfHearing.Kept.{with_story}

-- Where a client stands in a statement's answer is all that this moves of a seat.

abbrev pub placed : Place → Seat → Seat
placed place seat = record seat { place = place }

pub moved_is : (form : Form) (ok : Bool) (seat : Seat) → moved_by form ok seat ≡ placed (moved_by form ok seat).place seat
moved_is (forms.Text class) ok seat = refl
moved_is forms.Fields ok seat = refl
moved_is (forms.Prepare class) ok seat = refl
moved_is (forms.SetId id) ok seat = refl
moved_is forms.ReadId ok seat = refl
moved_is forms.Reset ok seat = refl

pub moved_grown : (form : Form) (ok : Bool) (made : List ℕ) (seat : Seat) → (moved_by form ok (grown made seat)).place ≡ (moved_by form ok seat).place
moved_grown (forms.Text class) ok made seat = refl
moved_grown forms.Fields ok made seat = refl
moved_grown (forms.Prepare class) ok made seat = refl
moved_grown (forms.SetId id) ok made seat = refl
moved_grown forms.ReadId ok made seat = refl
moved_grown forms.Reset ok made seat = refl

-- sessions that have their homes and their lives
pub record IsSettled (lefts : ℕ) (old new : List Session) : Type 0 where
  pub home : (h : Hostgroup) → (session_in lefts new h).home ≡ (session_in lefts old h).home
  pub life : (h : Hostgroup) → (session_in lefts new h).life ≡ (session_in lefts old h).life

-- where only bytes are told of a link, clients stand
pub working_on : (g : Ground) (tale : Tale) (client : tales.Client) (row : Client) (desk : Desk) (work : Option Work) → desk.seat.outbox.coming ≡ row.desk.seat.outbox.coming
    → desk.seat.first ≡ row.desk.seat.first → desk.seat.statements ≡ row.desk.seat.statements → ((h : Hostgroup) → (session_of desk h).home ≡ (session_of row.desk h).home)
    → ((m : MessageName) → (view_of g.setup tale).carriers m ≡ (view_on g).carriers m)
    → IsWorkingOr g client row work → IsWorkingOr (on g tale) client (record row { desk = desk }) work
working_on g tale client row desk None coming first statements homes carriers is = coming ∙ is
working_on g tale client row desk (Some work) coming first statements homes carriers is = record {
  last = is.last;
  went = is.went;
  number = λ prepares.
      let next = is.number prepares in
      let last : desk.seat.statements.last ≡ row.desk.seat.statements.last = ap (λ (s : ClientStatements). s.last) statements in
      (next.0 ∙ ap (λ (n : ℕ). n + 1) (sym last), subst (λ (n : ℕ). n < 4294967295) (sym last) next.1);
  only = is.only;
  prepares = is.prepares;
  keyed = is.keyed;
  first = λ message there. first ∙ is.first message there;
  unsent = λ unsent. coming ∙ is.unsent unsent;
  there = λ sent. homes work.hostgroup ∙ is.there sent ∙ sym (carriers (name_of client work.ordinal));
}

module _ (g : Ground) (wires : LinkId → Wire) (client : tales.Client) where
  abbrev wired : Ground
  wired = on g (with_story g.tale.story wires g.tale)

  wired_answered : (ordinal : ℕ) → is_answered g.plan g.tale (view_on g) client ordinal ≡ is_answered g.plan wired.tale (view_on wired) client ordinal
  wired_answered zero = refl
  wired_answered (suc k) = refl

  wired_phase : (row : Client) (ended : Bool) → IsPhase ended g client row → IsPhase ended wired client row
  wired_phase row true is = record {
    over = is.over;
    idle = is.idle;
    told = λ word ordinal within. sym (wired_answered ordinal) ∙ is.told word ordinal within;
    homeless = is.homeless;
  }
  wired_phase row false is = record {
    going = is.going;
    earlier = λ ordinal below. sym (wired_answered ordinal) ∙ is.earlier ordinal below;
    answered = is.answered ∙ wired_answered client.taken;
    went = is.went;
    busy = is.busy;
    working = working_on g wired.tale client row row.desk row.desk.work refl refl refl (λ h. refl) (λ m. refl) is.working;
    unmoved = is.unmoved;
    account = is.account;
    collation = is.collation;
  }

  wired_owing : (seat : Seat) (at : Phase) (fresh : Bool) → IsOwing at fresh g client seat → IsOwing at fresh wired client seat
  wired_owing seat phase.LoggingIn true is = tt
  wired_owing seat phase.LoggingIn false is = is
  wired_owing seat (phase.Serving login) fresh is = is
  wired_owing seat phase.Ended fresh is = is

  pub client_wired : (row : Option Client) → IsClientOr g client row → IsClientOr wired client row
  client_wired None is = record { over = is.over; homeless = is.homeless }
  client_wired (Some row) is = record {
    who = is.who;
    heard = is.heard;
    owed = wired_owing row.desk.seat row.desk.seat.phase (g.fresh client.number) is.owed;
    desk = is.desk;
    coming = is.coming;
    phase = wired_phase row (is_ended row.desk.seat.phase) is.phase;
  }

-- A piece of a reply comes.

module _ (g : Ground) (client : tales.Client) (row : Client) (is : IsClient g client row) (work : Work) (in_work : row.desk.work ≡ Some work)
    (sent : work.sent ≡ true) (made : List ℕ) where
  abbrev grown_row : Client
  grown_row = at_desk (grown_by made) row

  heard_grown : (at : Phase) → IsHeardIn at g.plan client row.desk.seat → IsHeardIn at g.plan client grown_row.desk.seat
  heard_grown phase.LoggingIn is = record { limit = is.limit; untaken = is.untaken; arrived = is.arrived; written = is.written; size = is.size; login = is.login }
  heard_grown (phase.Serving account) is = record {
    limit = is.limit;
    known = is.known;
    logged_in = is.logged_in;
    faultless = is.faultless;
    arrived = is.arrived;
    gone = is.gone;
    size = is.size;
    rest = is.rest;
  }
  heard_grown phase.Ended is = tt

  owed_grown : (at : Phase) (fresh : Bool) → IsOwing at fresh g client row.desk.seat → IsOwing at fresh g client grown_row.desk.seat
  owed_grown phase.LoggingIn true is = tt
  owed_grown phase.LoggingIn false is = record { written = is.written; size = is.size; all = is.all }
  owed_grown (phase.Serving account) fresh is = record { written = is.written; size = is.size; all = is.all }
  owed_grown phase.Ended fresh is = record { written = is.written; size = is.size; front = is.front }

  working_grown : (at : Option Work) → at ≡ Some work → IsWorkingOr g client row at → IsWorkingOr g client grown_row at
  working_grown None same is = absurd (cc)
  working_grown (Some other) same is =
      let is_sent : other.sent ≡ true = ap (λ (w : Option Work). sent_of w) same ∙ sent in
      record {
        last = is.last;
        went = is.went;
        number = is.number;
        only = is.only;
        prepares = is.prepares;
        keyed = is.keyed;
        first = is.first;
        unsent = λ unsent. absurd (true≢false (sym is_sent ∙ unsent));
        there = is.there;
      } where
        sent_of : Option Work → Bool
        sent_of None = true
        sent_of (Some w) = w.sent

  phase_grown : (ended : Bool) → IsPhase ended g client row → IsPhase ended g client grown_row
  phase_grown true is = record { over = is.over; idle = is.idle; told = is.told; homeless = is.homeless }
  phase_grown false is = record {
    going = is.going;
    earlier = is.earlier;
    answered = is.answered;
    went = is.went;
    busy = is.busy;
    working = working_grown row.desk.work in_work is.working;
    unmoved = is.unmoved;
    account = is.account;
    collation = is.collation;
  }

  pub client_grown : IsClient g client grown_row
  client_grown = record {
    who = record { link = is.who.link; number = is.who.number; port = is.who.port; salt = is.who.salt; drained = is.who.drained };
    heard = heard_grown row.desk.seat.phase is.heard;
    owed = owed_grown row.desk.seat.phase (g.fresh client.number) is.owed;
    desk = record { number = is.desk.number; sessions = is.desk.sessions; place = is.desk.place; work = is.desk.work; row = is.desk.row };
    coming = is.coming;
    phase = phase_grown (is_ended row.desk.seat.phase) is.phase;
  }
