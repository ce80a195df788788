-- An entry is counted: rows stand for their clients as before, and those of whom a statement is given up have its answer.
use Rattle.std.specs.Prelude.{◌≡◌, ◌⊎◌, ◌<◌, ◌≤◌, ◌-◌, ℕ, zero, suc, Bool, true, false, not, is_some, ◌||◌, ◌&&◌, List, [], ◌∷◌, ◌++◌, Option, Some, None}
use Rattle.std.specs.Option.{option_map}
use Rattle.std.proofs.Common.{refl, sym, ap, ◌∙◌, subst, arith, inl, inr}
use Rattle.std.proofs.lemmas.Bool.{true≢false, false≢true}
use Rattle.std.proofs.lemmas.Option.{none-some, same_Some}
use Rattle.mx_base.specs.declared.names.Hostgroup.{Hostgroup}
use Rattle.packet_frame.specs.Packets.{Framed, spellings}
use Rattle.client_session.specs.Setups.{Setup as Service}
use Rattle.server_rule.specs.Classes.{Reads}
use Rattle.private_model.specs.Names.{ClientNo, LinkId}
use Rattle.private_model.specs.View.{View}
use Rattle.log_story.specs.Clients.{is_answered}
use Rattle.log_story.specs.Owed.{name_of}
use Rattle.log_story.specs.Plan.{own_at}
use Rattle.log_story.specs.Tale as tales
use Rattle.log_story.specs.Tale.{counted}
use Rattle.lent_link.specs.declared.link.Begins.{Begins}
use Rattle.lent_link.specs.declared.link.Begins.TheVariants as begins
use Rattle.link_state.specs.declared.asking.Purpose.{Purpose}
use Rattle.link_state.specs.declared.asking.Purpose.TheVariants as purposes
use Rattle.served_link.specs.declared.row.Row.{Row}
use Rattle.client_seat.specs.Answers.{answered}
use Rattle.client_seat.specs.Seats.{is_ended}
use Rattle.client_seat.specs.Stands.{Answers, IsHeardIn, Known, due_so_far}
use Rattle.client_seat.specs.declared.phase.Phase.{Phase}
use Rattle.client_seat.specs.declared.phase.Phase.TheVariants as phase
use Rattle.client_desk.specs.Desks.{gave_up, session_of}
use Rattle.client_desk.specs.declared.desk.Desk.{Desk}
use Rattle.client_desk.specs.declared.work.Work.{Work}
use Rattle.desk_laws.specs.Stands.{IsDesk}
use Rattle.core_tables.specs.Parting.{given_row, given_up_in}
use Rattle.core_tables.specs.Tables.{Tabled}
use Rattle.core_tables.specs.declared.client.Client.{Client}
use Rattle.core_tables.specs.declared.server.Server.{Server}
use Rattle.core_stands.specs.Clients.{IsClient, IsClientOr, IsGoing, IsOwing, IsPhase, IsWorking, IsWorkingOr}
use Rattle.core_stands.specs.Grounds.{Ground, known_on, on, view_on}
use Rattle.core_stands.specs.Stands.{Stands}
use Rattle.core_laws.specs.parting.Frames.{IsGlanced, IsNotInWork, Keeps, KeepsNext, KeepsNextFor, KeepsOr, client_at, glance}
use Rattle.core_laws.specs.parting.Partings.{AreCounted, AreGivenUp, IsCounted, is_sound}
use Rattle.core_laws.proofs.OfParting.Giving.{answers_so, apart_below, none_answered, taken_so, written_more}
use Rattle.core_laws.proofs.OfPrepared.Rows.{RowOf, are_prepared, row_gives_up, row_seated, seat_mapped}
use Rattle.core_laws.proofs.OfParting.Owning.{owns_given}
use Rattle.core_laws.proofs.OfParting.Moving.{SameSessions, any_then, homes_kept, mapped, stands_moved}
use Rattle.core_laws.proofs.OfParting.Owing.{Alike, answered_alike, bytes_alike, owing_alike, so_far_alike}
use Rattle.core_laws.proofs.OfParting.Reading.{any_kept}
use Rattle.core_laws.proofs.OfParting.Same.{each_of}
use Rattle.core_laws.proofs.OfParting.Staying.{working_so}

-- the laws that are composed

abbrev pub DesksGiveUp : Type 0
DesksGiveUp = (reads : Reads) (view : View) (c : ClientNo) (desk : Desk) → IsDesk reads view c desk → (payload : List ℕ) → IsDesk reads view c (gave_up payload desk)

abbrev pub AnswersOwed : Type 0
AnswersOwed = (x y : Known) (client : tales.Client) (before : List Framed) (message : Framed) (bytes : List ℕ) → Answers x y client before message bytes
    → due_so_far y client ≡ due_so_far x client ++ bytes

module _ (g : Ground) (client : tales.Client) where
  abbrev after : Ground
  after = on g (counted g.tale)

  -- nothing of it is given up
  module _ (is_counted : IsCounted g None client) where
    alike : Alike g.plan client (view_on g) (view_on after) g.tale.moment (suc g.tale.moment)
    alike = record { own = λ ordinal below. is_counted.own ordinal below refl; replies = λ ordinal. refl }

    still : (ordinal : ℕ) → ordinal ≤ client.taken → is_answered g.plan after.tale (view_on after) client ordinal ≡ is_answered g.plan g.tale (view_on g) client ordinal
    still = answered_alike g.plan client (view_on g) (view_on after) g.tale.moment (suc g.tale.moment) alike g.tale after.tale refl refl

    phase_counted : (row : Client) (ended : Bool) → IsPhase ended g client row → IsPhase ended after client row
    phase_counted row true is = record {
      over = is.over;
      idle = is.idle;
      told = λ word ordinal below. still ordinal below ∙ is.told (ap is_some (sym (is_counted.word is.over)) ∙ word) ordinal below;
      homeless = is.homeless;
    }
    phase_counted row false is = record {
      going = is.going;
      earlier = λ ordinal below. still ordinal (omega (arith, below)) ∙ is.earlier ordinal below;
      answered = is.answered ∙ sym (still client.taken (omega arith));
      went = is.went;
      busy = is.busy;
      working = working_so g after client row row.desk.work refl refl is.working;
      unmoved = is.unmoved;
      account = is.account;
      collation = is.collation;
    }

    over_of : (row : Client) (ended : Bool) → ended ≡ true → IsPhase ended g client row → g.over client.number ≡ true
    over_of row true so is = is.over
    over_of row false so is = absurd (false≢true so)

    pub row_counted : (row : Client) → IsClient g client row → IsClient after client row
    row_counted row is = record {
      who = is.who;
      heard = is.heard;
      owed = owing_alike g after client row.desk.seat.phase (g.fresh client.number) row.desk.seat
          (so_far_alike g.plan client (view_on g) (view_on after) g.tale.moment (suc g.tale.moment) alike)
          (λ ended. bytes_alike g.plan client (view_on g) (view_on after) g.tale.moment (suc g.tale.moment) alike
          (is_counted.word (over_of row (is_ended row.desk.seat.phase) ended is.phase))) is.owed;
      desk = is.desk;
      coming = is.coming;
      phase = phase_counted row (is_ended row.desk.seat.phase) is.phase;
    }

  -- its statement is given up
  module _ (payload : List ℕ) (is_counted : IsCounted g (Some payload) client) (row : Client) (work : Work) (in_work : row.desk.work ≡ Some work) where
    abbrev now : Client
    now = given_row (Some payload) row

    going_of : (ended : Bool) → IsPhase ended g client row → IsGoing g client row
    going_of true is = absurd (none-some work (sym is.idle ∙ in_work))
    going_of false is = is

    opened : IsGoing g client row → is_answered g.plan g.tale (view_on g) client client.taken ≡ false
    opened is = by row.desk.seat.answered is.answered (sym (ap is_some in_work) ∙ is.busy) where
      by : (b : Bool) → b ≡ is_answered g.plan g.tale (view_on g) client client.taken → true ≡ not b → is_answered g.plan g.tale (view_on g) client client.taken ≡ false
      by true so open_so = absurd (true≢false open_so)
      by false so open_so = sym so

    own_before : (ordinal : ℕ) → ordinal < client.taken → own_at g.plan (suc g.tale.moment) (name_of client ordinal) ≡ own_at g.plan g.tale.moment (name_of client ordinal)
    own_before ordinal below = is_counted.own ordinal (omega (arith, below)) (apart_below ordinal client.taken below)

    working_of : IsWorkingOr g client row row.desk.work → IsWorking g client row work
    working_of is = subst (λ (w : Option Work). IsWorkingOr g client row w) in_work is

    -- it is served
    heard_given : (at : Phase) → IsGoing g client row → IsHeardIn at g.plan client row.desk.seat → IsHeardIn at g.plan client now.desk.seat
    heard_given phase.LoggingIn going is =
        absurd (let some : 0 < client.taken = none_answered g.plan g.tale (view_on g) client client.taken (opened going) in
        let none : client.taken ≡ 0 = is.untaken in omega (arith, some, none))
    heard_given (phase.Serving account) going is = record {
      limit = is.limit;
      known = is.known;
      logged_in = is.logged_in;
      faultless = is.faultless;
      arrived = is.arrived;
      gone = is.gone;
      size = is.size;
      rest = is.rest;
    }
    heard_given phase.Ended going is = tt

    owed_given : AnswersOwed → (at : Phase) (fresh : Bool) → is_ended at ≡ false → IsGoing g client row → IsHeardIn at g.plan client row.desk.seat
        → IsOwing at fresh g client row.desk.seat → IsOwing at fresh after client now.desk.seat
    owed_given owes phase.LoggingIn fresh on going heard is =
        absurd (let some : 0 < client.taken = none_answered g.plan g.tale (view_on g) client client.taken (opened going) in
        let none : client.taken ≡ 0 = heard.untaken in omega (arith, some, none))
    owed_given owes phase.Ended fresh on going heard is = absurd (true≢false on)
    owed_given owes (phase.Serving account) fresh on going heard is =
        let some = none_answered g.plan g.tale (view_on g) client client.taken (opened going) in
        let taken = taken_so g.plan g.tale (view_on g) client row.desk.seat account heard some in
        let id = (working_of going.working).first taken.message taken.there in
        let answers = answers_so g.plan g.tale (view_on g) client (suc g.tale.moment) taken payload row.desk.seat.first (opened going) going.earlier own_before
        (is_counted.given_up payload refl) id in
        written_more client row.desk.seat payload (due_so_far (known_on g) client) (due_so_far (known_on after) client)
        (owes (known_on g) (known_on after) client taken.before taken.message (spellings row.desk.seat.first (payload ∷ [])) answers) is

    told_then : (ordinal : ℕ) → own_at g.plan (suc g.tale.moment) (name_of client ordinal) ≡ Some (payload ∷ [])
        → is_answered g.plan after.tale (view_on after) client ordinal ≡ true
    told_then zero own = refl
    told_then (suc n) own = ap (λ (o : Option (List (List ℕ))). is_some o || is_some ((view_on g).replies (name_of client (suc n)))) own

    earlier_then : (ordinal : ℕ) → ordinal < client.taken → is_answered g.plan g.tale (view_on g) client ordinal ≡ true
        → is_answered g.plan after.tale (view_on after) client ordinal ≡ true
    earlier_then zero below is = refl
    earlier_then (suc n) below is =
        ap (λ (o : Option (List (List ℕ))). is_some o || is_some ((view_on g).replies (name_of client (suc n)))) (own_before (suc n) below) ∙ is

    phase_given : IsGoing g client row → (ended : Bool) → ended ≡ false → IsPhase ended after client now
    phase_given is true on = absurd (true≢false on)
    phase_given is false on = record {
      going = is.going;
      earlier = λ ordinal below. earlier_then ordinal below (is.earlier ordinal below);
      answered = sym (told_then client.taken (is_counted.given_up payload refl));
      went = is.went;
      busy = refl;
      working = refl;
      unmoved = is.unmoved;
      account = is.account;
      collation = is.collation;
    }

    ended_not : (ended : Bool) → IsPhase ended g client row → ended ≡ false
    ended_not true is = absurd (none-some work (sym is.idle ∙ in_work))
    ended_not false is = refl

    pub row_given : DesksGiveUp → AnswersOwed → IsClient g client row → IsClient after client now
    row_given desks owes is =
        let going = going_of (is_ended row.desk.seat.phase) is.phase in
        let on = ended_not (is_ended row.desk.seat.phase) is.phase in
        record {
          who = record { link = is.who.link; number = is.who.number; port = is.who.port; salt = is.who.salt; drained = is.who.drained };
          heard = heard_given row.desk.seat.phase going is.heard;
          owed = owed_given owes row.desk.seat.phase (g.fresh client.number) on going is.heard is.owed;
          desk = desks g.setup.reads (view_on g) client.number row.desk is.desk payload;
          coming = is.coming;
          phase = phase_given going (is_ended row.desk.seat.phase) on;
        }

-- All of them.

module _ (given : ClientNo → Option (List ℕ)) (t : Tabled) where
  abbrev others : Tabled
  others = given_up_in given t

  glanced : (c : ClientNo) → given c ≡ None → IsGlanced t others c
  glanced c none = ap (λ (p : Option (List ℕ)). option_map glance (option_map (given_row p) (t.clients c))) none ∙ by (t.clients c) where
    by : (o : Option Client) → option_map glance (option_map (given_row None) o) ≡ option_map glance o
    by None = refl
    by (Some row) = refl

  not_in_work : (c : ClientNo) (payload : List ℕ) (ordinal : ℕ) → given c ≡ Some payload → IsNotInWork others c ordinal
  not_in_work c payload ordinal some row work there in_work =
      let old = mapped (given_row (Some payload)) (t.clients c) row (ap (λ (p : Option (List ℕ)). option_map (given_row p) (t.clients c)) (sym some) ∙ there) in
      absurd (none-some work (ap (λ (r : Client). r.desk.work) old.2 ∙ in_work))

  kept_for : (purpose : Purpose) → KeepsNextFor t others purpose
  kept_for (purposes.Statement n ordinal key) = by (given n.client) refl where
    by : (p : Option (List ℕ)) → given n.client ≡ p → IsGlanced t others n.client ⊎ IsNotInWork others n.client ordinal
    by None at = inl (glanced n.client at)
    by (Some payload) at = inr (not_in_work n.client payload ordinal at)
  kept_for (purposes.Prep n ordinal key) = tt
  kept_for (purposes.Sync n) = tt
  kept_for purposes.Own = tt
  kept_for (purposes.End n) = tt
  kept_for (purposes.Capture n) = tt

  pub kept_next : (next : Option Begins) → KeepsNext t others next
  kept_next None = tt
  kept_next (Some (begins.Asks asking)) = kept_for asking.purpose
  kept_next (Some (begins.Closes number)) = tt
  kept_next (Some (begins.Resets number)) = tt
  kept_next (Some begins.Quits) = tt

  sound_so : (row : Row) → row.link.spoilt ≡ false → row.lost ≡ false → row.left ≡ None → is_sound row ≡ true
  sound_so row sound kept mine = λ i. not (sound i) && (not (kept i) && not (is_some (mine i)))

  pub kept_row : (row : Row) → ((c : ClientNo) → is_some (given c) ≡ true → client_at row.link.state.stage ≡ Some c → is_sound row ≡ false) → Keeps t others row
  kept_row row aside = record {
    next = kept_next row.link.next;
    there = λ sound kept mine c at. by sound kept mine c at (given c) refl;
  } where
    by : row.link.spoilt ≡ false → row.lost ≡ false → row.left ≡ None → (c : ClientNo) → client_at row.link.state.stage ≡ Some c → (p : Option (List ℕ)) → given c ≡ p
        → IsGlanced t others c
    by sound kept mine c at None none = glanced c none
    by sound kept mine c at (Some payload) some = absurd (true≢false (sym (sound_so row sound kept mine) ∙ aside c (ap is_some some) at))

  pub sessions_so : (p : Option (List ℕ)) (row : Client) (h : Hostgroup) → session_of (given_row p row).desk h ≡ session_of row.desk h
  sessions_so None row h = refl
  sessions_so (Some payload) row h = refl

  pub same_sessions : SameSessions t others
  same_sessions = record {
    before = λ c row there.
        let old = mapped (given_row (given c)) (t.clients c) row there in
        (old.0, old.1, λ h. ap (λ (r : Client). session_of r.desk h) (sym old.2) ∙ sessions_so (given c) old.0 h);
    behind = λ c old there. (given_row (given c) old, ap (option_map (given_row (given c))) there, λ h. sessions_so (given c) old h);
    links = λ l. refl;
  }

  pub still_there : (c : ClientNo) → is_some (others.clients c) ≡ is_some (t.clients c)
  still_there c = by (t.clients c) where
    by : (o : Option Client) → is_some (option_map (given_row (given c)) o) ≡ is_some o
    by None = refl
    by (Some row) = refl

pub client_counted : DesksGiveUp → AnswersOwed → (g : Ground) (client : tales.Client) (p : Option (List ℕ)) (found : Option Client) → IsCounted g p client
    → ((payload : List ℕ) → p ≡ Some payload → (row : Client) × (work : Work) × (found ≡ Some row) × (row.desk.work ≡ Some work))
    → IsClientOr g client found → IsClientOr (on g (counted g.tale)) client (option_map (given_row p) found)
client_counted desks owes g client p None is_counted at is = record { over = is.over; homeless = is.homeless }
client_counted desks owes g client None (Some row) is_counted at is = row_counted g client is_counted row is
client_counted desks owes g client (Some payload) (Some row) is_counted at is =
    let there = at payload refl in
    let one : row ≡ there.0 = (let same : Some row ≡ Some there.0 = there.2 in cc) in
    row_given g client payload is_counted row there.1 (ap (λ (r : Client). r.desk.work) one ∙ there.3) desks owes is

module _ (desks : DesksGiveUp) (owes : AnswersOwed) (service : Service) (g : Ground) (t : Tabled) (given : ClientNo → Option (List ℕ)) (is : Stands service g t)
    (gives : AreGivenUp given (λ l. false) t) (are : AreCounted g given) where
  server_kept : (l : LinkId) (found : Option Server) → t.links l ≡ found → KeepsOr t (given_up_in given t) found
  server_kept l None at = tt
  server_kept l (Some server) at = kept_row given t server.row (λ c some here. gives.aside c l server some at refl here)

  given_row_of : (c : ClientNo) (row : Client) (p : Option (List ℕ)) → given c ≡ p → option_map (given_row (given c)) (t.clients c) ≡ Some row
      → is_ended row.desk.seat.phase ≡ false → RowOf t c row
  given_row_of c row None none there going =
      let of = seat_mapped (given_row None) (λ r. refl) (t.clients c) row
      (ap (λ (p : Option (List ℕ)). option_map (given_row p) (t.clients c)) (sym none) ∙ there) in
      row_seated t c of.old row of.there of.seat going
  given_row_of c row (Some payload) some there going =
      let at = gives.in_work c payload some in
      let made : given_row (Some payload) at.0 ≡ row =
      same_Some (given_row (Some payload) at.0) row
      (sym (ap (option_map (given_row (Some payload))) at.2.there) ∙ ap (λ (p : Option (List ℕ)). option_map (given_row p) (t.clients c)) (sym some) ∙ there) in
      row_gives_up t c at.0 row at.1 (payload ∷ []) at.2.there at.2.in_work (ap (λ (r : Client). r.desk.seat) (sym made)) going

  pub counted_so : Stands service (on g (counted g.tale)) (given_up_in given t)
  counted_so = stands_moved g g.tale.story (suc g.tale.moment) g.over t (given_up_in given t) service is (record {
    rows = λ client seated was. client_counted desks owes g client (given client.number) (t.clients client.number)
        (each_of (λ (c : tales.Client). IsCounted g (given c.number) c) g client seated are)
        (λ payload some. let at = gives.in_work client.number payload some in (at.0, at.1, at.2.there, at.2.in_work)) was;
    there = still_there given t;
    numbers = λ l. refl;
    servers = λ l. any_then g is.lawful (suc g.tale.moment) g.over (λ c ended. ended) (given_up_in given t) l (t.links l)
        (any_kept g t (given_up_in given t) l (t.links l) (is.servers l) (server_kept l (t.links l) refl));
    homes = homes_kept g (on g (counted g.tale)) t (given_up_in given t) (same_sessions given t) is.homes;
    lawful = is.lawful;
    prepared = are_prepared g (counted g.tale) g.over g.fresh t (given_up_in given t) is.clients (λ m. refl) (owns_given g t (counted g.tale) given (λ l. false) refl is.clients gives are) is.prepared (λ client seated. seated)
        (λ c row there going. given_row_of c row (given c) refl there going);
    duly = is.duly;
  })
