-- A client at rest begins anew as its link is lost, and goes on.
use Rattle.std.specs.Prelude.{◌≡◌, ◌&&◌, ◌||◌, ℕ, suc, not, Bool, true, false, All, if◌then◌else◌, is_some, List, [], ◌∷◌, Option, Some, None}
use Rattle.std.proofs.Common.{refl, sym, ap, ◌∙◌, subst, inl}
use Rattle.std.proofs.lemmas.Bool.{and_parts, false≢true, true≢false}
use Rattle.std.proofs.lemmas.List.Elements.{All-weaker}
use Rattle.std.proofs.lemmas.Option.{none-some}
use Rattle.mx_base.specs.declared.names.LinkId.{LinkId}
use Rattle.mx_wire.specs.Log.{Log}
use Rattle.mx_wire.specs.declared.entry.Entry.{Entry}
use Rattle.client_session.specs.Setups.{Setup as Service}
use Rattle.server_side.specs.Account.{Account}
use Rattle.session_vars.specs.Settings.{collation_settings}
use Rattle.private_model.specs.Names.{ClientNo, MessageName}
use Rattle.private_model.specs.Story.{Left, is_client}
use Rattle.private_model.specs.View.{Nobody, Setup, View, view_step}
use Rattle.log_story.specs.Owed.{name_of}
use Rattle.log_story.specs.Plan.{LastWord, WordPlace, word_at}
use Rattle.log_story.specs.Tale as tales
use Rattle.log_story.specs.Tale.{Tale, link_in, tell}
use Rattle.client_desk.specs.declared.work.Work.{Work}
use Rattle.client_seat.specs.Seats.{account_in, is_ended}
use Rattle.client_seat.specs.Stands.{IsHeardIn}
use Rattle.client_seat.specs.Takings.{begun_anew}
use Rattle.client_seat.specs.declared.phase.Phase.{Phase}
use Rattle.client_seat.specs.declared.phase.Phase.TheVariants as phase
use Rattle.client_seat.specs.declared.seat.Seat.{Seat}
use Rattle.desk_laws.specs.Stands.{IsPlaced}
use Rattle.row_laws.specs.Readied.{AreClasses}
use Rattle.step_laws.specs.Freed.{Ascend}
use Rattle.step_laws.specs.Seats.{IsSeated, is_its}
use Rattle.step_laws.specs.Steps.{IsOfOne, ends_now}
use Rattle.step_laws.specs.Taken.{is_called}
use Rattle.core_tables.specs.Parting.{left_in}
use Rattle.core_tables.specs.Tables.{IsSame, Tabled}
use Rattle.core_tables.specs.declared.client.Client.{Client}
use Rattle.core_stands.specs.Clients.{IsClient, IsGoing, IsOwing, IsPhase, IsWorkingOr}
use Rattle.core_stands.specs.Grounds.{Ground, on, view_on}
use Rattle.core_stands.specs.Stands.{IsAt, Rests, Stands}
use Rattle.core_laws.specs.parting.Partings.{HasLives, IsAnew, IsLeaving}
use Rattle.core_laws.proofs.OfArrival.Finding.{client-same, client-true}
use Rattle.core_laws.specs.arrival.Looks.{IsLetIn}
use Rattle.core_laws.proofs.OfEntry.Lists.{seated_of}
use Rattle.core_laws.specs.entry.Dues.{IsSaidLast}
use Rattle.core_laws.specs.entry.Entries.{behind}
use Rattle.core_laws.specs.entry.Kinds.{IsStill}
use Rattle.core_laws.proofs.OfClients.Facts.{has_lives}
use Rattle.core_laws.proofs.OfClients.Keeping.{follows_keep_rows}
use Rattle.core_laws.specs.clients.Chosen.{PlanHas}
use Rattle.core_laws.specs.clients.Following.{IsFollowing, IsPartedIn, ended_by}
use Rattle.core_laws.specs.clients.Follows.{Parting, ends_by}
use Rattle.core_laws.specs.clients.Turns.{Choice, Halt}
use Rattle.router_laws.proofs.OfClients.Duing.{moment_more}
use Rattle.router_laws.proofs.OfClients.Leaving.{IsLoss, spared_by}
use Rattle.router_laws.proofs.OfClients.Linking.{client_there, is_client_row, known, link_is, row_there, unwritten}
use Rattle.router_laws.proofs.OfClients.Losing.{Alike}
use Rattle.router_laws.proofs.OfClients.Saying.{arrived_there, goes_there}
use Rattle.router_laws.specs.clients.Behind.{IsDueBehind}
use Rattle.router_laws.specs.clients.Continues.{IsContinued}
use Rattle.router_laws.specs.clients.Leaves.{LeavesGoing}
use Rattle.router_laws.specs.clients.Plans.{IsDecided, PlansTurns, ends_of}

abbrev pub Anew : Type 0
Anew = (service : Service) (g : Ground) (t : Tabled) (client : tales.Client) (row : Client) (by : Seat → Seat) → Stands service g t
    → IsSeated g.tale client → t.clients client.number ≡ Some row → HasLives (view_on g) client.number
    → IsLeaving (on g (tell (Left client.number) g.tale)) client (by row.desk.seat) → IsAnew row.desk.seat (by row.desk.seat)
    → Stands service (on g (tell (Left client.number) g.tale)) (left_in client.number by t)

-- where one stands that begins anew
abbrev pub Places : Type 0
Places = (setup : Setup) (view : View) (c : ClientNo) (seat : Seat) → view.places c ≡ seat.place
    → (setup.places c).settings ≡ collation_settings seat.collation → (view_step setup view (Left c)).places c ≡ (begun_anew seat).place

some_account : (at : Phase) → is_some (account_in at) ≡ true → (account : Account) × (at ≡ phase.Serving account)
some_account phase.LoggingIn is = absurd (false≢true is)
some_account (phase.Serving account) is = (account, refl)
some_account phase.Ended is = absurd (false≢true is)

none_of : (work : Option Work) → is_some work ≡ false → work ≡ None
none_of None is = refl
none_of (Some work) is = absurd (true≢false is)

module _ (service : Service) (default : List ℕ) (g : Ground) (t now : Tabled) (roomy : ClientNo → Bool) (log : Log) (over : ClientNo → Bool) (link : LinkId)
    (c : ClientNo) (links : List LinkId) (ordinal : ℕ) (choices : List Choice) (halt : Halt) (parting : Parting) (e : Entry) (loss : IsLoss link e)
    (nobody_on : (link_in g.setup g.tale link).carries ≡ Nobody)
    (so : LeavesGoing service default link links ordinal choices halt parting c t now)
    (plans : PlansTurns service g log c ordinal choices halt parting over) (rests : Rests service g t roomy) where
  abbrev it : tales.Client
  it = client_there service g t link c so.row rests.stands so.its

  it_number : it.number ≡ c
  it_number = (known service g t link c so.row rests.stands so.its).number

  it_seated : IsSeated g.tale it
  it_seated = (known service g t link c so.row rests.stands so.its).seated

  own : IsClient g it so.row
  own = is_client_row service g t link c so.row rests.stands so.its

  abbrev seat : Seat
  seat = so.row.desk.seat

  served : (account : Account) × (seat.phase ≡ phase.Serving account)
  served = some_account seat.phase (and_parts (is_some (account_in seat.phase)) seat.answered so.rests).0

  idle : seat.answered ≡ true
  idle = (and_parts (is_some (account_in seat.phase)) seat.answered so.rests).1

  unended : is_ended seat.phase ≡ false
  unended = ap is_ended served.1

  pub it_goes : g.over it.number ≡ false
  it_goes = goes_there g it so.row own unended

  going : IsGoing g it so.row
  going = subst (λ (p : Phase). IsPhase (is_ended p) g it so.row) served.1 own.phase

  workless : so.row.desk.work ≡ None
  workless = none_of so.row.desk.work (going.busy ∙ ap not idle)

  abbrev after : Ground
  after = on g (tell (Left it.number) g.tale)

  anew : IsAnew seat (begun_anew seat)
  anew = record {
    login = served.0;
    served = served.1;
    serves = served.1;
    idle = idle;
    answered = idle;
    coming = subst (λ (work : Option Work). IsWorkingOr g it so.row work) workless going.working;
    collation = refl;
    statements = refl;
  }

  leaving : Places → IsLeaving after it (begun_anew seat)
  leaving places =
      let heard = subst (λ (p : Phase). IsHeardIn p g.plan it seat) served.1 own.heard in
      let owed = subst (λ (p : Phase). IsOwing p (g.fresh it.number) g it seat) served.1 own.owed in
      record {
        who = record { link = own.who.link; number = own.who.number; port = own.who.port; salt = own.who.salt; drained = own.who.drained };
        heard = subst (λ (p : Phase). IsHeardIn p g.plan it (begun_anew seat)) (sym served.1)
            (record {
              limit = heard.limit;
              known = heard.known;
              logged_in = heard.logged_in;
              faultless = heard.faultless;
              arrived = heard.arrived;
              gone = heard.gone;
              size = heard.size;
              rest = heard.rest;
            });
        owed = subst (λ (p : Phase). IsOwing p (g.fresh it.number) after it (begun_anew seat)) (sym served.1)
            (record { written = owed.written; size = owed.size; all = owed.all });
        placed = subst (λ (p : Phase). IsPlaced p (view_on after) it.number (begun_anew seat).place) (sym served.1)
            (places g.setup (view_on g) it.number seat (subst (λ (p : Phase). IsPlaced p (view_on g) it.number seat.place) served.1 own.desk.place)
            (going.collation served.0 (ap account_in served.1)));
      }

  pub first_anew : Anew → Places → Alike → Stands service (on g (tell (Left c) g.tale)) so.leaves.left
  first_anew law places alike =
      alike service (on g (tell (Left c) g.tale)) (left_in c begun_anew t) so.leaves.left
      (subst (λ (n : ClientNo). Stands service (on g (tell (Left n) g.tale)) (left_in n begun_anew t)) it_number
      (law service g t it so.row begun_anew rests.stands it_seated (row_there service g t link c so.row rests.stands so.its)
      (has_lives service g t it so.row rests.stands it_seated (row_there service g t link c so.row rests.stands so.its) so.leaves.lives) (leaving places) anew))
      so.leaves.leaves

  still_at : (x : tales.Client) → IsStill g x → IsStill (on g (tell (Left c) g.tale)) x
  still_at x still = record { keeps = still.keeps; word = still.word }

  pub still_anew : All (IsStill (on g (tell (Left c) g.tale))) g.tale.clients
  still_anew = All-weaker (IsStill g) (IsStill (on g (tell (Left c) g.tale))) still_at g.tale.clients plans.decided.still

  pub decided_it : IsDecided g (ends_of it.number (ends_by halt parting)) over
  decided_it = subst (λ (n : ClientNo). IsDecided g (ends_of n (ends_by halt parting)) over) (sym it_number) plans.decided

  pub its_apart : (x : ClientNo) → is_its it x ≡ false → is_client c x ≡ false
  its_apart x apart = by (is_client c x) refl where
    by : (b : Bool) → is_client c x ≡ b → is_client c x ≡ false
    by false other = other
    by true mine = absurd (true≢false (sym (client-same x it.number (sym (client-true c x mine) ∙ sym it_number)) ∙ apart))

  -- what follows for it

  pub names : record { client = c; ordinal = ordinal } ≡ name_of it (suc it.taken)
  names = λ i. record { client = sym it_number i; ordinal = (so.next ∙ ap suc (arrived_there g it so.row own unended)) i }

  pub going_on : (freed : Tale) → freed.moment ≡ suc g.tale.moment → IsOfOne g.setup g.plan g.tale e it (ended_by halt parting it.number) freed
      → is_called g.plan freed.moment (view_on g) e it ≡ true → AreClasses g.setup.reads → IsLetIn g default it → Ascend (λ l. l.0) freed.links
      → IsFollowing service default g e it freed choices halt parting
  going_on freed now_is one called classes let_in rising = record {
    of_one = one;
    tells = loss.of_all (is_its it) g.tale;
    spared = spared_by service g t link c so.row rests.stands so.its e loss nobody_on plans.decided.still (is_its it) its_apart;
    called = called;
    going = it_goes;
    classes = classes;
    let_in = let_in;
    unrouted = ap (λ (n : ClientNo). g.plan.routes (record { client = n; ordinal = 0 })) it_number ∙ plans.unrouted;
    chosen = subst (λ (n : ℕ). PlanHas choices halt g.setup.keys g.plan n (name_of it (suc it.taken))) (sym now_is)
        (subst (λ (m : MessageName). PlanHas choices halt g.setup.keys g.plan (suc g.tale.moment) m) names plans.chosen);
    parted = subst (λ (n : ℕ). IsPartedIn parting service g it.number n) (sym now_is)
        (subst (λ (n : ClientNo). IsPartedIn parting service g n (suc g.tale.moment)) (sym it_number) plans.parted);
    ends = decided_it.ends;
    rising = rising;
  }

  pub overs_then : (x : ClientNo) → over x ≡ (g.over x || ends_now g.plan (suc g.tale.moment) x)
  overs_then x = plans.decided.overs x ∙ ap (λ (b : Bool). g.over x || b) (sym (plans.decided.ends x))

  and_left : (a b : Bool) → (a && b) ≡ true → a ≡ true
  and_left true b is = refl
  and_left false b is = is

  pub going_due : (freed : Tale) → Stands service (on g freed) so.between → IsSeated freed it → Stands service (behind g e over) now
      → IsDueBehind g log e (ends_of c (ends_by halt parting)) over now
  going_due freed mid seated_then behind_it = record {
    writes = λ x there. inl (unwritten e loss.silent x.link);
    unread = λ x there is. loss.unread x.link;
    says = λ was x there on_it mine goes word at. says_word was x on_it mine word at;
    there = λ x there mine. row_after x mine;
    comes = λ x there come. absurd (loss.none_comes g.tale x come);
  } where
    numbered_then : so.between.numbers link ≡ Some c
    numbered_then =
        let at : IsAt (on g freed) so.between it = seated_of (IsAt (on g freed) so.between) freed it seated_then mid.clients.each in
        ap so.between.numbers (sym (link_is service g t link c so.row rests.stands so.its))
        ∙ at.found (ap (λ (n : ClientNo). is_some (so.between.clients n)) it_number ∙ ap is_some so.follows.homes.there)
        ∙ ap (λ (n : ClientNo). Some n) it_number

    row_after : (x : tales.Client) → (is_client c x.number && ends_by halt parting) ≡ true → is_some (now.clients x.number) ≡ true
    row_after x mine =
        let same : c ≡ x.number = client-true c x.number (and_left (is_client c x.number) (ends_by halt parting) mine) in
        let kept = follows_keep_rows service default c choices halt parting [] so.between now so.follows in
        ap (λ (n : ClientNo). is_some (now.clients n)) (sym same) ∙ (behind_it.clients.named link c (kept.numbers link ∙ numbered_then)).3

    says_word : (was x : tales.Client) → IsContinued g.plan g.tale e was x → (is_client c was.number && ends_by halt parting) ≡ true
        → (word : LastWord) → word_at g.plan (behind g e over).tale.moment x.number ≡ Some word → IsSaidLast word.place g.plan was
    says_word was x on_it mine word at =
        let same : c ≡ was.number = client-true c was.number (and_left (is_client c was.number) (ends_by halt parting) mine) in
        subst (λ (p : WordPlace). IsSaidLast p g.plan was)
        (sym (plans.said word
        ((sym (λ i. word_at g.plan (moment_more g.setup g.plan g.tale e i) ((on_it.number ∙ sym same) i))) ∙ at))) tt
