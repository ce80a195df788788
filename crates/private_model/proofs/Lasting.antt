-- What no reset takes back stands in no private session to which no statement was sent that may do so.
use Rattle.std.specs.Prelude.{◌≡◌, ◌⊎◌, ℕ, Bool, true, false, ◌||◌, if◌then◌else◌, List, Option, Some}
use Rattle.std.proofs.Common.{refl, sym, ap, ◌∙◌, subst, inl, inr}
use Rattle.private_model.specs.Names.{LinkId, SessionName}
use Rattle.private_model.specs.Commands.{Command, InitDb, Outcome, Prepare, Query, Quit, Reset, SetId, Step, class_of}
use Rattle.private_model.specs.Honest.{IsTrueRun}
use Rattle.private_model.specs.Lawful.{BeginsThere, GoesOnThere, IsStepOf, MaySend}
use Rattle.private_model.specs.Story.{Capture, Due, End, Own, Prep, Question, Sent, Statement, Sync, is_link_id, is_name, put}
use Rattle.private_model.specs.View.{Answered, Asked, Carried, Joined, Lent, Link, Nobody, Quiet, Setup, Stage, View, asked, ran_by, view_step}
use Rattle.private_model.specs.Worlds.{Private, Real, decoded, placed, private_drop, private_prep, private_run, readied}
use Rattle.private_model.proofs.Maps.{at_each, link_ids, names, no_home, no_other, put-other, put-same}
use Rattle.private_model.proofs.Meeting.{back_text}
use Rattle.private_model.proofs.Running.{AreDecoded, asks, data_there, dead_runs, end_name, ok_here, ok_ready, ran_own_same, sync_name, there_decoded, with_data}
use Rattle.private_model.proofs.Sessions.{or_left, or_right}
use Rattle.private_model.proofs.Stands.{IsAtBy, Stands}
use Rattle.private_model.proofs.Tame.{Tame}
use Rattle.server_rule.specs.Classes.{Reads}
use Rattle.server_rule.specs.Servers.{Tests}
use Rattle.server_rule.specs.declared.session.Session.{Session}
use Rattle.session_state.specs.Pins.{is_pinned}
use Rattle.session_state.specs.declared.pin.Pin.{Pin}

-- A statement that stands on a link was counted as it was sent, and a session is ended where none was.
pub record AreLasting (reads : Reads) (tests : Tests) (links : LinkId → Link) (lasting : SessionName → Bool) (sessions : SessionName → Session) : Type 0 where
  pub sessions_of : (n : SessionName) → lasting n ≡ false → tests.lasts (sessions n).deep ≡ false
  pub statements : (l : LinkId) (n : SessionName) (due : Due) → (links l).stage ≡ Asked (Statement n due) → lasting n ≡ false → (class_of reads due.command).outlasts_reset ≡ false
  pub ends : (l : LinkId) (n : SessionName) → (links l).stage ≡ Asked (End n) → lasting n ≡ false

module _ (reads : Reads) (tests : Tests) (links : LinkId → Link) (lasting : SessionName → Bool) (sessions : SessionName → Session) (are : AreLasting reads tests links lasting sessions) where
  -- a link goes on with what it was asked, or with nothing
  pub relinked : (number : LinkId) (link : Link) → ((q : Question) → link.stage ≡ Asked q → (links number).stage ≡ Asked q) → AreLasting reads tests (put is_link_id links number link) lasting sessions
  relinked number link was = record {
    sessions_of = are.sessions_of;
    statements = λ l n due at none. are.statements l n due (still l (Statement n due) at) none;
    ends = λ l n at. are.ends l n (still l (End n) at);
  }
    where
      still : (l : LinkId) (q : Question) → (put is_link_id links number link l).stage ≡ Asked q → (links l).stage ≡ Asked q
      still l q = at_each link_ids (λ l. (put is_link_id links number link l).stage ≡ Asked q → (links l).stage ≡ Asked q) number
          (λ at. was q (ap (λ (x : Link). x.stage) (sym (put-same link_ids links number link)) ∙ at))
          (λ l e at. ap (λ (x : Link). x.stage) (sym (put-other link_ids links number link l e)) ∙ at) l

  -- a session goes on
  pub resessioned : (n : SessionName) (session : Session) → (lasting n ≡ false → tests.lasts session.deep ≡ false) → AreLasting reads tests links lasting (put is_name sessions n session)
  resessioned n session here = record {
    sessions_of = at_each names (λ m. lasting m ≡ false → tests.lasts (put is_name sessions n session m).deep ≡ false) n
        (λ none. subst (λ (x : Session). tests.lasts x.deep ≡ false) (sym (put-same names sessions n session)) (here none))
        (λ m e none. subst (λ (x : Session). tests.lasts x.deep ≡ false) (sym (put-other names sessions n session m e)) (are.sessions_of m none));
    statements = are.statements;
    ends = are.ends;
  }

  -- a question goes out
  sent_other : (number : LinkId) (question : Question) → ((n : SessionName) (due : Due) → question ≡ Statement n due → ⊥) → ((n : SessionName) → question ≡ End n → lasting n ≡ false)
      → AreLasting reads tests (put is_link_id links number (asked question (links number))) lasting sessions
  sent_other number question no_statement ending = record {
    sessions_of = are.sessions_of;
    statements = λ l n due. at_each link_ids (λ l. (put is_link_id links number link l).stage ≡ Asked (Statement n due) → lasting n ≡ false → (class_of reads due.command).outlasts_reset ≡ false) number
        (λ at none. absurd (no_statement n due (of_asked question (Statement n due) (ap (λ (x : Link). x.stage) (sym (put-same link_ids links number link)) ∙ at))))
        (λ l e at none. are.statements l n due (ap (λ (x : Link). x.stage) (sym (put-other link_ids links number link l e)) ∙ at) none) l;
    ends = λ l n. at_each link_ids (λ l. (put is_link_id links number link l).stage ≡ Asked (End n) → lasting n ≡ false) number
        (λ at. ending n (of_asked question (End n) (ap (λ (x : Link). x.stage) (sym (put-same link_ids links number link)) ∙ at)))
        (λ l e at. are.ends l n (ap (λ (x : Link). x.stage) (sym (put-other link_ids links number link l e)) ∙ at)) l;
  }
    where
      link : Link
      link = asked question (links number)

      of_asked : (one other : Question) → Asked one ≡ Asked other → one ≡ other
      of_asked one other same = cc

  sent_statement : (number : LinkId) (n : SessionName) (due : Due) → ((l : LinkId) → is_link_id l number ≡ false → (links l).stage ≡ Asked (End n) → ⊥)
      → AreLasting reads tests (put is_link_id links number (asked (Statement n due) (links number))) (put is_name lasting n (lasting n || (class_of reads due.command).outlasts_reset)) sessions
  sent_statement number n due elsewhere = record {
    sessions_of = λ m none. are.sessions_of m (before m none);
    statements = λ l m d. at_each link_ids (λ l. (put is_link_id links number link l).stage ≡ Asked (Statement m d) → later m ≡ false → (class_of reads d.command).outlasts_reset ≡ false) number
        (λ at none. this m d (ap (λ (x : Link). x.stage) (sym (put-same link_ids links number link)) ∙ at) none)
        (λ l e at none. are.statements l m d (ap (λ (x : Link). x.stage) (sym (put-other link_ids links number link l e)) ∙ at) (before m none)) l;
    ends = λ l m. at_each link_ids (λ l. (put is_link_id links number link l).stage ≡ Asked (End m) → later m ≡ false) number
        (λ at. absurd (no_end m (ap (λ (x : Link). x.stage) (sym (put-same link_ids links number link)) ∙ at)))
        (λ l e at. end_still l e m (ap (λ (x : Link). x.stage) (sym (put-other link_ids links number link l e)) ∙ at)) l;
  }
    where
      link : Link
      link = asked (Statement n due) (links number)

      now : Bool
      now = lasting n || (class_of reads due.command).outlasts_reset

      later : SessionName → Bool
      later = put is_name lasting n now

      before : (m : SessionName) → later m ≡ false → lasting m ≡ false
      before = at_each names (λ m. later m ≡ false → lasting m ≡ false) n (λ none. or_left (lasting n) _ (sym (put-same names lasting n now) ∙ none))
          (λ m e none. sym (put-other names lasting n now m e) ∙ none)

      this : (m : SessionName) (d : Due) → Asked (Statement n due) ≡ Asked (Statement m d) → later m ≡ false → (class_of reads d.command).outlasts_reset ≡ false
      this m d same none =
          let name : n ≡ m = cc in
          let statement : due ≡ d = cc in
          subst (λ (x : Due). (class_of reads x.command).outlasts_reset ≡ false) statement
          (or_right (lasting n) _ (sym (put-same names lasting n now) ∙ subst (λ x. later x ≡ false) (sym name) none))

      no_end : (m : SessionName) → Asked (Statement n due) ≡ Asked (End m) → ⊥
      no_end m same = absurd (cc)

      end_still : (l : LinkId) → is_link_id l number ≡ false → (m : SessionName) → (links l).stage ≡ Asked (End m) → later m ≡ false
      end_still l e = at_each names (λ m. (links l).stage ≡ Asked (End m) → later m ≡ false) n (λ at. absurd (elsewhere l e at))
          (λ m other at. put-other names lasting n now m other ∙ are.ends l m at)

module _ (setup : Setup) (tests : Tests) (step : Step) (tame : Tame setup.reads tests step) (view : View) (real : Real) (private : Private) (stands : Stands setup tests view real private)
    (are : AreLasting setup.reads tests view.links view.lasting private.sessions) (number : LinkId) where
  abbrev Next : View → (SessionName → Session) → Type 0
  Next to sessions = AreLasting setup.reads tests to.links to.lasting sessions

  -- A question goes out.

  ending_home : (l : LinkId) (n : SessionName) → (view.links l).stage ≡ Asked (End n) → (view.held n).home ≡ Some l
  ending_home l n at =
      let carries = end_name setup tests l (view.links l).carries (view.links l) (real.peers l) view.held private.sessions (stands.links l) n at in
      (subst (λ c. IsAtBy setup tests c l (view.links l) (real.peers l) view.held private.sessions) carries (stands.links l)).home

  no_end_elsewhere : (n : SessionName) (due : Due) → BeginsThere setup n due (view.links number) (view.held n) ⊎ GoesOnThere setup n due (view.links number) (view.held n)
      → (l : LinkId) → is_link_id l number ≡ false → (view.links l).stage ≡ Asked (End n) → ⊥
  no_end_elsewhere n due how l other at = elim how [
    | inl begins ↦ elim begins.lends [
      | inl vacant ↦ no_home (view.held n).home vacant.homeless l (ending_home l n at)
      | inr lent ↦ no_other (view.held n).home number (subst (λ c. IsAtBy setup tests c number (view.links number) (real.peers number) view.held private.sessions) lent (stands.links number)).home l other (ending_home l n at)
    ]
    | inr goes_on ↦ no_other (view.held n).home number (subst (λ c. IsAtBy setup tests c number (view.links number) (real.peers number) view.held private.sessions) goes_on.carries (stands.links number)).home l other (ending_home l n at)
  ]

  pub sent_lasting : (question : Question) → MaySend setup view (view.links number) question → Next (view_step setup view (Sent number question)) private.sessions
  sent_lasting (Statement n due) may = sent_statement setup.reads tests view.links view.lasting private.sessions are number n due (no_end_elsewhere n due may.fits.how)
  sent_lasting (Prep n key text) may = sent_other setup.reads tests view.links view.lasting private.sessions are number (Prep n key text) (λ m d e. cc) (λ m e. cc)
  sent_lasting (Sync n command) may = sent_other setup.reads tests view.links view.lasting private.sessions are number (Sync n command) (λ m d e. cc) (λ m e. cc)
  sent_lasting (Own command) may = sent_other setup.reads tests view.links view.lasting private.sessions are number (Own command) (λ m d e. cc) (λ m e. cc)
  sent_lasting (End n) may = sent_other setup.reads tests view.links view.lasting private.sessions are number (End n) (λ m d e. cc)
      (λ m e. let same : n ≡ m = cc in subst (λ x. view.lasting x ≡ false) same may.fits.resets)
  sent_lasting (Capture n) may = sent_other setup.reads tests view.links view.lasting private.sessions are number (Capture n) (λ m d e. cc) (λ m e. cc)

  -- The server runs it.

  answered_link : (stage : Stage) → (view.links number).stage ≡ stage → (q : Question) → (ran_by setup.reads stage (view.links number)).stage ≡ Asked q → (view.links number).stage ≡ Asked q
  answered_link (Asked question) is q at = absurd (cc)
  answered_link Quiet is q at = at
  answered_link (Answered question) is q at = at

  pub ends_reset : (m : SessionName) → (view.links number).stage ≡ Asked (End m) → tests.lasts (private.sessions m).deep ≡ false
  ends_reset m at = are.sessions_of m (are.ends number m at)

  ready_deep : (due : Due) (anew : Bool) (p : Session) → (if anew then placed due.place p else p).deep ≡ p.deep
  ready_deep due true p = refl
  ready_deep due false p = refl

  abbrev runs_there : Session → Command → Outcome
  runs_there p c = step (private.stored (view.links number).server) p c

  -- a command that does nothing of the kind
  runs_plain : (n : SessionName) (c : Command) → (class_of setup.reads c).outlasts_reset ≡ false → view.lasting n ≡ false → tests.lasts (runs_there (private.sessions n) c).session.deep ≡ false
  runs_plain n c plain none =
      with_data setup tests step tame view real private stands number (λ d. tests.lasts (step d (private.sessions n) c).session.deep ≡ false)
      (tame.reset.brings (data_there setup tests step tame view real private stands number) (private.sessions n) (ok_here setup tests step tame view real private stands number n) c plain (are.sessions_of n none))

  step_plain : (c : Command) (pin : Pin) (id : Option ℕ) → IsStepOf setup.reads c pin id → (class_of setup.reads c).outlasts_reset ≡ false
  step_plain (InitDb schema) pin id fits = refl
  step_plain (Query text) pin id fits = fits.resets
  step_plain (SetId n) pin id fits = refl
  step_plain _ pin id fits = absurd fits

  statement_runs : AreDecoded setup tests step tame view real private stands number → (n : SessionName) (due : Due) → (real.peers number).alive ≡ true → (view.links number).stage ≡ Asked (Statement n due) → view.lasting n ≡ false
      → tests.lasts (runs_there (readied due (private.sessions n)) (decoded (private.tables n due.key) due.command)).session.deep ≡ false
  statement_runs are_decoded n due alive at none =
      let p = readied due (private.sessions n) in
      let d = data_there setup tests step tame view real private stands number in
      let c = there_decoded setup tests step tame view real private stands number due in
      let plain : (class_of setup.reads c).outlasts_reset ≡ false =
      back_text (λ x. (class_of setup.reads x).outlasts_reset ≡ false) (λ t a b a' b' g x. x) c due.command (are_decoded n due alive at).1 (are.statements number n due at none) in
      subst (λ (o : Outcome). tests.lasts o.session.deep ≡ false) (sym (ran_own_same setup tests step tame view real private stands number are_decoded n due alive at))
      (tame.reset.brings d p (ok_ready setup tests step tame view real private stands number n due) c plain
      (subst (λ x. tests.lasts x ≡ false) (sym (ready_deep due due.anew (private.sessions n))) (are.sessions_of n none)))

  abbrev Run : (alive : Bool) → Stage → Type 0
  Run alive stage = AreLasting setup.reads tests (put is_link_id view.links number (ran_by setup.reads stage (view.links number))) view.lasting (private_run step view.held private alive stage (view.links number).server).sessions

  linked : (stage : Stage) → (view.links number).stage ≡ stage → AreLasting setup.reads tests (put is_link_id view.links number (ran_by setup.reads stage (view.links number))) view.lasting private.sessions
  linked stage is = relinked setup.reads tests view.links view.lasting private.sessions are number (ran_by setup.reads stage (view.links number)) (answered_link stage is)

  with_session : (stage : Stage) → (view.links number).stage ≡ stage → (n : SessionName) (session : Session) → (view.lasting n ≡ false → tests.lasts session.deep ≡ false)
      → AreLasting setup.reads tests (put is_link_id view.links number (ran_by setup.reads stage (view.links number))) view.lasting (put is_name private.sessions n session)
  with_session stage is n session here = resessioned setup.reads tests _ view.lasting private.sessions (linked stage is) n session here

  prep_run : (n : SessionName) (key : ℕ) (text : List ℕ) → (view.links number).stage ≡ Asked (Prep n key text) → (pinned : Bool)
      → AreLasting setup.reads tests (put is_link_id view.links number (ran_by setup.reads (Asked (Prep n key text)) (view.links number))) view.lasting (private_prep step private pinned (view.links number).server n key text).sessions
  prep_run n key text is true = with_session (Asked (Prep n key text)) is n (runs_there (private.sessions n) (Prepare text)).session (runs_plain n (Prepare text) refl)
  prep_run n key text is false = linked (Asked (Prep n key text)) is

  ran_by_stage : AreDecoded setup tests step tame view real private stands number → (alive : Bool) (stage : Stage) → (real.peers number).alive ≡ alive → (view.links number).stage ≡ stage
      → IsTrueRun step real number (view.links number).live stage (view.links number).server → Run alive stage
  ran_by_stage are_decoded true (Asked (Statement n due)) alive is honest = with_session (Asked (Statement n due)) is n _ (statement_runs are_decoded n due alive is)
  ran_by_stage are_decoded true (Asked (Prep n key text)) alive is honest = prep_run n key text is (is_pinned (view.held n).pin)
  ran_by_stage are_decoded true (Asked (Sync n c)) alive is honest =
      let carries = sync_name setup tests number (view.links number).carries (view.links number) (real.peers number) view.held private.sessions (stands.links number) n c is in
      with_session (Asked (Sync n c)) is n _ (runs_plain n c (step_plain c (view.held n).pin (view.held n).id (asks setup tests step tame view real private stands number n (Sync n c) carries is).fits))
  ran_by_stage are_decoded true (Asked (Own c)) alive is honest = linked (Asked (Own c)) is
  ran_by_stage are_decoded true (Asked (End n)) alive is honest = with_session (Asked (End n)) is n _ (runs_plain n Reset refl)
  ran_by_stage are_decoded true (Asked (Capture n)) alive is honest = linked (Asked (Capture n)) is
  ran_by_stage are_decoded false (Asked question) alive is honest = dead_runs alive honest.alive
  ran_by_stage are_decoded true Quiet alive is honest = linked Quiet is
  ran_by_stage are_decoded true (Answered question) alive is honest = linked (Answered question) is
  ran_by_stage are_decoded false Quiet alive is honest = linked Quiet is
  ran_by_stage are_decoded false (Answered question) alive is honest = linked (Answered question) is

  pub ran_lasting : AreDecoded setup tests step tame view real private stands number → IsTrueRun step real number (view.links number).live (view.links number).stage (view.links number).server → Run (real.peers number).alive (view.links number).stage
  ran_lasting are_decoded honest = ran_by_stage are_decoded (real.peers number).alive (view.links number).stage refl refl honest

  -- A link is dropped.

  closed_deep : (n : SessionName) → tests.lasts (runs_there (private.sessions n) Quit).session.deep ≡ false
  closed_deep n =
      with_data setup tests step tame view real private stands number (λ d. tests.lasts (step d (private.sessions n) Quit).session.deep ≡ false)
      (subst (λ (x : Session). tests.lasts x.deep ≡ false) (sym (tame.reset.quit_session (data_there setup tests step tame view real private stands number) (private.sessions n) (ok_here setup tests step tame view real private stands number n))) tame.reset.nothing_lasts)

  pub dropped_lasting : (alive : Bool) (carried : Carried) → AreLasting setup.reads tests view.links view.lasting (private_drop step private alive carried (view.links number).server).sessions
  dropped_lasting false carried = are
  dropped_lasting true Nobody = are
  dropped_lasting true (Lent n) = resessioned setup.reads tests view.links view.lasting private.sessions are n _ (λ none. closed_deep n)
  dropped_lasting true (Joined n) = resessioned setup.reads tests view.links view.lasting private.sessions are n _ (λ none. closed_deep n)
