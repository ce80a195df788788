-- A desk stands for its client as before, whatever happens to others.
use Rattle.std.specs.Prelude.{◌≡◌, ◌⊎◌, ◌<◌, ◌≤◌, ℕ, suc, Bool, true, false, nat_eq, List, Option, Some, None}
use Rattle.std.proofs.Common.{refl, sym, ◌∙◌, arith, subst, inl, inr}
use Rattle.session_state.specs.declared.place.Place.{Place}
use Rattle.private_model.specs.Commands.{Reply}
use Rattle.private_model.specs.Names.{ClientNo, Hostgroup, LinkId, SessionName}
use Rattle.private_model.specs.Story.{BecameDue, Broke, Capture, Dropped, End, Freed, Gone, Happening, Heard, Left, LoggedIn, Mirrored, Own, Prep, Question, Ran, Sent, Statement, Sync, Unprepared, is_client, is_name, message_of}
use Rattle.private_model.specs.View.{Answered, Asked, Quiet, Setup, Stage, View, due_of, present, view_heard, view_step}
use Rattle.client_seat.specs.declared.phase.Phase.{Phase}
use Rattle.client_seat.specs.declared.phase.Phase.TheVariants as phase
use Rattle.client_desk.specs.declared.desk.Desk.{Desk}
use Rattle.client_desk.specs.declared.session.Session.{Session}
use Rattle.client_desk.specs.declared.work.Work.{Work}
use Rattle.desk_laws.specs.Spares.{IsOver, Spares, SparesQuestion, SparesStage, SparesAnswered, SparesAsked, SparesSent, SparesToCome, answered_for, asked_for, is_of, named, touches}
use Rattle.desk_laws.specs.Stands.{AreDueEarlier, AreSessions, AreToCome, IsDesk, IsPlaced, IsWorkOr, name_at}
use Rattle.desk_laws.proofs.Clear.{Clear, ClearAnswered, ClearAsked, ClearDue, ClearMessage, ClearMoved, ClearOr, ClearPlace, IsClear, clear_same, due_same, message_same, place_same}
use Rattle.desk_laws.proofs.Dues.{due_of_other, due_sent}
use Rattle.desk_laws.proofs.Names.{client_of, of_other_client, of_other_message, of_other_ordinal, of_past}
use Rattle.desk_laws.proofs.Same.{sessions_stay, work_stays}

-- what happens is none of this client's, or of no matter to its desk

abbrev pub ClearWork : View → ClientNo → Happening → Option Work → Type 0
ClearWork view c e None = Unit {0}
ClearWork view c e (Some work) = ClearMessage view c work.ordinal e × ClearDue c e

abbrev pub ClearPlaceIn : View → ClientNo → Happening → Phase → Type 0
ClearPlaceIn view c e (phase.Serving account) = ClearPlace view c e
ClearPlaceIn view c e _ = Unit {0}

pub record Clears (view : View) (c : ClientNo) (e : Happening) (work : Option Work) (at : Phase) : Type 0 where
  pub sessions : (h : Hostgroup) → IsClear view c h e
  pub work_is : ClearWork view c e work
  pub place : ClearPlaceIn view c e at

module _ (setup : Setup) (view : View) (c : ClientNo) (e : Happening) where
  work_or : (place : Place) (work : Option Work) → ((h : Hostgroup) → IsClear view c h e) → ClearWork view c e work
      → IsWorkOr setup.reads view c place work → IsWorkOr setup.reads (view_step setup view e) c place work
  work_or place None clear spared is = tt
  work_or place (Some work) clear spared is =
      work_stays setup.reads view (view_step setup view e) c place work
      (message_same setup view c work.ordinal e spared.0) (due_same setup view c work.hostgroup e (clear work.hostgroup) spared.1) is

  pub placed : (at : Phase) (place : Place) → ClearPlaceIn view c e at → IsPlaced at view c place → IsPlaced at (view_step setup view e) c place
  placed phase.LoggingIn place spared is = tt
  placed (phase.Serving account) place spared is = place_same setup view c e spared ∙ is
  placed phase.Ended place spared is = tt

  pub stays_clear : (desk : Desk) → Clears view c e desk.work desk.seat.phase → IsDesk setup.reads view c desk
      → IsDesk setup.reads (view_step setup view e) c desk
  stays_clear desk clears is = record {
    number = is.number;
    sessions = sessions_stay view (view_step setup view e) c desk.lefts desk.sessions (λ h. clear_same setup view c h e (clears.sessions h)) is.sessions;
    place = placed desk.seat.phase desk.seat.place clears.place is.place;
    work = work_or desk.seat.place desk.work clears.sessions clears.work_is is.work;
    row = is.row;
  }

-- Happenings of other clients.

module _ (view : View) (c : ClientNo) where
  of_none : (h : Hostgroup) (n : Option SessionName) → is_of c n ≡ false → ClearOr view c h n
  of_none h None other = tt
  of_none h (Some n) other = λ life from. of_other_client c h life n other

  apart_sessions : (e : Happening) → touches view e c ≡ false → (h : Hostgroup) → IsClear view c h e
  apart_sessions (LoggedIn link server account) apart h = tt
  apart_sessions (BecameDue client hostgroup ordinal key command multiplex) apart h = tt
  apart_sessions (Sent link question) apart h = of_none h (asked_for question) apart
  apart_sessions (Ran link) apart h = tt
  apart_sessions (Heard link reply) apart h = of_none h (answered_for (view.links link).stage) apart
  apart_sessions (Freed link) apart h = of_none h _ apart
  apart_sessions (Unprepared link number) apart h = tt
  apart_sessions (Dropped link) apart h = tt
  apart_sessions (Gone link) apart h = of_none h _ apart
  apart_sessions (Left client) apart h = apart
  apart_sessions Broke apart h = tt
  apart_sessions (Mirrored client job) apart h = tt

  apart_asked : (ordinal : ℕ) (question : Question) → is_of c (asked_for question) ≡ false → ClearAsked c ordinal question
  apart_asked ordinal (Statement n due) apart = of_other_message c ordinal (message_of n due) apart
  apart_asked ordinal (Prep n key text) apart = tt
  apart_asked ordinal (Sync n command) apart = tt
  apart_asked ordinal (Own command) apart = tt
  apart_asked ordinal (End n) apart = tt
  apart_asked ordinal (Capture n) apart = tt

  apart_answered : (ordinal : ℕ) (stage : Stage) → is_of c (answered_for stage) ≡ false → ClearAnswered c ordinal stage
  apart_answered ordinal Quiet apart = tt
  apart_answered ordinal (Asked question) apart = tt
  apart_answered ordinal (Answered question) apart = apart_asked ordinal question apart

  apart_message : (ordinal : ℕ) (e : Happening) → touches view e c ≡ false → ClearMessage view c ordinal e
  apart_message ordinal (LoggedIn link server account) apart = tt
  apart_message ordinal (BecameDue client hostgroup other key command multiplex) apart = tt
  apart_message ordinal (Sent link question) apart = apart_asked ordinal question apart
  apart_message ordinal (Ran link) apart = tt
  apart_message ordinal (Heard link reply) apart = apart_answered ordinal (view.links link).stage apart
  apart_message ordinal (Freed link) apart = tt
  apart_message ordinal (Unprepared link number) apart = tt
  apart_message ordinal (Dropped link) apart = tt
  apart_message ordinal (Gone link) apart = tt
  apart_message ordinal (Left client) apart = tt
  apart_message ordinal Broke apart = tt
  apart_message ordinal (Mirrored client job) apart = tt

  apart_due : (e : Happening) → touches view e c ≡ false → ClearDue c e
  apart_due (LoggedIn link server account) apart = tt
  apart_due (BecameDue client hostgroup other key command multiplex) apart = apart
  apart_due (Sent link question) apart = tt
  apart_due (Ran link) apart = tt
  apart_due (Heard link reply) apart = tt
  apart_due (Freed link) apart = tt
  apart_due (Unprepared link number) apart = tt
  apart_due (Dropped link) apart = tt
  apart_due (Gone link) apart = tt
  apart_due (Left client) apart = tt
  apart_due Broke apart = tt
  apart_due (Mirrored client job) apart = tt

  apart_moved : (stage : Stage) → is_of c (answered_for stage) ≡ false → ClearMoved c stage
  apart_moved Quiet apart = tt
  apart_moved (Asked question) apart = tt
  apart_moved (Answered (Statement n due)) apart = apart
  apart_moved (Answered (Prep n key text)) apart = tt
  apart_moved (Answered (Sync n command)) apart = tt
  apart_moved (Answered (Own command)) apart = tt
  apart_moved (Answered (End n)) apart = tt
  apart_moved (Answered (Capture n)) apart = tt

  pub apart_place : (e : Happening) → touches view e c ≡ false → ClearPlace view c e
  apart_place (LoggedIn link server account) apart = tt
  apart_place (BecameDue client hostgroup other key command multiplex) apart = tt
  apart_place (Sent link question) apart = tt
  apart_place (Ran link) apart = tt
  apart_place (Heard link reply) apart = apart_moved (view.links link).stage apart
  apart_place (Freed link) apart = tt
  apart_place (Unprepared link number) apart = tt
  apart_place (Dropped link) apart = tt
  apart_place (Gone link) apart = tt
  apart_place (Left client) apart = apart
  apart_place Broke apart = tt
  apart_place (Mirrored client job) apart = apart

  apart_work : (e : Happening) (work : Option Work) → touches view e c ≡ false → ClearWork view c e work
  apart_work e None apart = tt
  apart_work e (Some work) apart = (apart_message work.ordinal e apart, apart_due e apart)

  apart_phase : (e : Happening) (at : Phase) → touches view e c ≡ false → ClearPlaceIn view c e at
  apart_phase e phase.LoggingIn apart = tt
  apart_phase e (phase.Serving account) apart = apart_place e apart
  apart_phase e phase.Ended apart = tt

  apart_clears : (e : Happening) (work : Option Work) (at : Phase) → touches view e c ≡ false → Clears view c e work at
  apart_clears e work at apart = record { sessions = apart_sessions e apart; work_is = apart_work e work apart; place = apart_phase e at apart }

pub stays_apart : (setup : Setup) (view : View) (c : ClientNo) (desk : Desk) (e : Happening) → IsDesk setup.reads view c desk
    → touches view e c ≡ false → IsDesk setup.reads (view_step setup view e) c desk
stays_apart setup view c desk e is apart = stays_clear setup view c e desk (apart_clears view c e desk.work desk.seat.phase apart) is

pub sessions_apart : (setup : Setup) (view : View) (c : ClientNo) (lefts : ℕ) (rows : List Session) (e : Happening) → AreSessions view c lefts rows
    → touches view e c ≡ false → AreSessions (view_step setup view e) c lefts rows
sessions_apart setup view c lefts rows e are apart =
    sessions_stay view (view_step setup view e) c lefts rows (λ h. clear_same setup view c h e (apart_sessions view c e apart h)) are

-- Happenings of sessions that were left.

past_clear : (view : View) (c : ClientNo) (h : Hostgroup) (n : SessionName) → n.life < view.lives n.client n.hostgroup → Clear view c h n
past_clear view c h n past = λ life from. by (is_client c n.client) refl life from where
  by : (same : Bool) → is_client c n.client ≡ same → (life : ℕ) → view.lives c h ≤ life → is_name (name_at c h life) n ≡ false
  by false e life from = of_other_client c h life n e
  by true e life from =
      of_past (view.lives c) c h life n from (subst (λ (d : ClientNo). n.life < view.lives d n.hostgroup) (sym (client_of c n.client e)) past)

module _ (view : View) (c : ClientNo) (desk : Desk) (n : SessionName) (past : n.life < view.lives n.client n.hostgroup) where
  past_in : (h : Hostgroup) (m : Option SessionName) → m ≡ Some n → ClearOr view c h m
  past_in h m is = subst (λ (k : Option SessionName). ClearOr view c h k) (sym is) (past_clear view c h n past)

  past_sessions : (e : Happening) → named view e ≡ Some n → (h : Hostgroup) → IsClear view c h e
  past_sessions (LoggedIn link server account) is h = tt
  past_sessions (BecameDue client hostgroup ordinal key command multiplex) is h = tt
  past_sessions (Sent link question) is h = past_in h _ is
  past_sessions (Ran link) is h = tt
  past_sessions (Heard link reply) is h = past_in h _ is
  past_sessions (Freed link) is h = past_in h _ is
  past_sessions (Unprepared link number) is h = tt
  past_sessions (Dropped link) is h = tt
  past_sessions (Gone link) is h = past_in h _ is
  past_sessions (Left client) is h = absurd (cc)
  past_sessions Broke is h = tt
  past_sessions (Mirrored client job) is h = tt

  over_work : (e : Happening) (work : Option Work) → work ≡ None → ClearWork view c e work
  over_work e None idle = tt
  over_work e (Some work) idle = absurd (cc)

  over_phase : (e : Happening) (at : Phase) → at ≡ phase.Ended → ClearPlaceIn view c e at
  over_phase e phase.LoggingIn ended = tt
  over_phase e (phase.Serving account) ended = absurd (cc)
  over_phase e phase.Ended ended = tt

  -- what is neither a statement that goes out or is answered, nor becomes due
  calm_work : (e : Happening) (work : Option Work) → ((ordinal : ℕ) → ClearMessage view c ordinal e) → ClearDue c e → ClearWork view c e work
  calm_work e None message due = tt
  calm_work e (Some work) message due = (message work.ordinal, due)

  calm_phase : (e : Happening) (at : Phase) → ClearPlace view c e → ClearPlaceIn view c e at
  calm_phase e phase.LoggingIn place = tt
  calm_phase e (phase.Serving account) place = place
  calm_phase e phase.Ended place = tt

  asked_calm : (question : Question) → SparesQuestion desk question → IsOver desk ⊎ ((ordinal : ℕ) → ClearAsked c ordinal question)
  asked_calm (Statement m due) over = inl over
  asked_calm (Prep m key text) over = inr (λ ordinal. tt)
  asked_calm (Sync m command) over = inr (λ ordinal. tt)
  asked_calm (Own command) over = inr (λ ordinal. tt)
  asked_calm (End m) over = inr (λ ordinal. tt)
  asked_calm (Capture m) over = inr (λ ordinal. tt)

  answered_calm : (stage : Stage) → SparesStage desk stage → IsOver desk ⊎ ((ordinal : ℕ) → ClearAnswered c ordinal stage)
  answered_calm Quiet over = inr (λ ordinal. tt)
  answered_calm (Asked question) over = inr (λ ordinal. tt)
  answered_calm (Answered question) over = asked_calm question over

  moved_calm : (stage : Stage) → SparesStage desk stage → IsOver desk ⊎ ClearMoved c stage
  moved_calm Quiet over = inr tt
  moved_calm (Asked question) over = inr tt
  moved_calm (Answered (Statement m due)) over = inl over
  moved_calm (Answered (Prep m key text)) over = inr tt
  moved_calm (Answered (Sync m command)) over = inr tt
  moved_calm (Answered (Own command)) over = inr tt
  moved_calm (Answered (End m)) over = inr tt
  moved_calm (Answered (Capture m)) over = inr tt

  past_work : (e : Happening) → named view e ≡ Some n → Spares view desk e → ClearWork view c e desk.work
  past_work (Sent link question) is spares =
      elim (asked_calm question spares) [ inl over ↦ over_work (Sent link question) desk.work over.idle | inr calm ↦ calm_work (Sent link question) desk.work calm tt ]
  past_work (Heard link reply) is spares =
      elim (answered_calm (view.links link).stage spares) [ inl over ↦ over_work (Heard link reply) desk.work over.idle | inr calm ↦ calm_work (Heard link reply) desk.work calm tt ]
  past_work (Freed link) is spares = calm_work (Freed link) desk.work (λ ordinal. tt) tt
  past_work (Gone link) is spares = calm_work (Gone link) desk.work (λ ordinal. tt) tt
  past_work (LoggedIn link server account) is spares = absurd (cc)
  past_work (BecameDue client hostgroup ordinal key command multiplex) is spares = absurd (cc)
  past_work (Ran link) is spares = absurd (cc)
  past_work (Unprepared link number) is spares = absurd (cc)
  past_work (Dropped link) is spares = absurd (cc)
  past_work (Left client) is spares = absurd (cc)
  past_work Broke is spares = absurd (cc)
  past_work (Mirrored client job) is spares = absurd (cc)

  past_place : (e : Happening) → named view e ≡ Some n → Spares view desk e → ClearPlaceIn view c e desk.seat.phase
  past_place (Sent link question) is spares = calm_phase (Sent link question) desk.seat.phase tt
  past_place (Heard link reply) is spares =
      elim (moved_calm (view.links link).stage spares) [ inl over ↦ over_phase (Heard link reply) desk.seat.phase over.ended | inr calm ↦ calm_phase (Heard link reply) desk.seat.phase calm ]
  past_place (Freed link) is spares = calm_phase (Freed link) desk.seat.phase tt
  past_place (Gone link) is spares = calm_phase (Gone link) desk.seat.phase tt
  past_place (LoggedIn link server account) is spares = absurd (cc)
  past_place (BecameDue client hostgroup ordinal key command multiplex) is spares = absurd (cc)
  past_place (Ran link) is spares = absurd (cc)
  past_place (Unprepared link number) is spares = absurd (cc)
  past_place (Dropped link) is spares = absurd (cc)
  past_place (Left client) is spares = absurd (cc)
  past_place Broke is spares = absurd (cc)
  past_place (Mirrored client job) is spares = absurd (cc)

pub stays_past : (setup : Setup) (view : View) (c : ClientNo) (desk : Desk) (e : Happening) (n : SessionName) → IsDesk setup.reads view c desk
    → named view e ≡ Some n → n.life < view.lives n.client n.hostgroup → Spares view desk e → IsDesk setup.reads (view_step setup view e) c desk
stays_past setup view c desk e n is names past spares =
    stays_clear setup view c e desk (record { sessions = past_sessions view c desk n past e names; work_is = past_work view c desk n past e names spares; place = past_place view c desk n past e names spares }) is

-- Messages that are to come.

module _ (view : View) (c : ClientNo) (from ordinal : ℕ) (after : from < suc ordinal) where
  to_come_asked : (question : Question) → SparesAsked c from question → ClearAsked c ordinal question
  to_come_asked (Statement n due) (inl other) = of_other_message c ordinal (message_of n due) other
  to_come_asked (Statement n due) (inr below) =
      let apart : nat_eq ordinal due.ordinal ≡ false = grind arith in of_other_ordinal c ordinal (message_of n due) apart
  to_come_asked (Prep n key text) spares = tt
  to_come_asked (Sync n command) spares = tt
  to_come_asked (Own command) spares = tt
  to_come_asked (End n) spares = tt
  to_come_asked (Capture n) spares = tt

  to_come_answered : (stage : Stage) → SparesAnswered c from stage → ClearAnswered c ordinal stage
  to_come_answered Quiet spares = tt
  to_come_answered (Asked question) spares = tt
  to_come_answered (Answered question) spares = to_come_asked question spares

  to_come_sent : (question : Question) → SparesSent view c from question → ClearAsked c ordinal question
  to_come_sent (Statement n due) (inl other) = to_come_asked (Statement n due) (inl other)
  to_come_sent (Statement n due) (inr its) = to_come_asked (Statement n due) (inr its.0)
  to_come_sent (Prep n key text) spares = tt
  to_come_sent (Sync n command) spares = tt
  to_come_sent (Own command) spares = tt
  to_come_sent (End n) spares = tt
  to_come_sent (Capture n) spares = tt

  to_come_clear : (e : Happening) → SparesToCome view c from e → ClearMessage view c ordinal e
  to_come_clear (Sent link question) spares = to_come_sent question spares
  to_come_clear (Heard link reply) spares = to_come_answered (view.links link).stage spares
  to_come_clear (LoggedIn link server account) spares = tt
  to_come_clear (BecameDue client hostgroup other key command multiplex) spares = tt
  to_come_clear (Ran link) spares = tt
  to_come_clear (Freed link) spares = tt
  to_come_clear (Unprepared link number) spares = tt
  to_come_clear (Dropped link) spares = tt
  to_come_clear (Gone link) spares = tt
  to_come_clear (Left client) spares = tt
  to_come_clear Broke spares = tt
  to_come_clear (Mirrored client job) spares = tt

module _ (setup : Setup) (view : View) (c : ClientNo) (from : ℕ) (are : AreDueEarlier view.dues view.carriers c from) where
  abbrev Earlier : View → Type 0
  Earlier after = AreDueEarlier after.dues after.carriers c from

  due_asked : (link : LinkId) (question : Question) → SparesSent view c from question → Earlier (view_step setup view (Sent link question))
  due_asked link (Statement n due) (inl other) = due_sent view.dues view.carriers c from are n due link (inl other)
  due_asked link (Statement n due) (inr its) = due_sent view.dues view.carriers c from are n due link (inr its.1)
  due_asked link (Prep n key text) spares = are
  due_asked link (Sync n command) spares = are
  due_asked link (Own command) spares = are
  due_asked link (End n) spares = are
  due_asked link (Capture n) spares = are

  due_heard : (link : LinkId) (reply : Reply) (stage : Stage) → Earlier (view_heard setup view link reply stage)
  due_heard link reply Quiet = are
  due_heard link reply (Asked question) = are
  due_heard link reply (Answered question) = are

  due_stays : (e : Happening) → SparesToCome view c from e → Earlier (view_step setup view e)
  due_stays (BecameDue client hostgroup ordinal key command multiplex) apart =
      let n : SessionName = present view client hostgroup in
      due_of_other view.dues view.carriers c from are n (due_of view n ordinal key command multiplex) apart
  due_stays (Sent link question) spares = due_asked link question spares
  due_stays (Heard link reply) spares = due_heard link reply (view.links link).stage
  due_stays (LoggedIn link server account) spares = are
  due_stays (Ran link) spares = are
  due_stays (Freed link) spares = are
  due_stays (Unprepared link number) spares = are
  due_stays (Dropped link) spares = are
  due_stays (Gone link) spares = are
  due_stays (Left client) spares = are
  due_stays Broke spares = are
  due_stays (Mirrored client job) spares = are

pub to_come_stays : (setup : Setup) (view : View) (c : ClientNo) (from : ℕ) (e : Happening) → AreToCome view c from → SparesToCome view c from e
    → AreToCome (view_step setup view e) c from
to_come_stays setup view c from e are spares = record {
  unsent = λ ordinal after. (message_same setup view c ordinal e (to_come_clear view c from ordinal after e spares)).carrier ∙ are.unsent ordinal after;
  unanswered = λ ordinal after. (message_same setup view c ordinal e (to_come_clear view c from ordinal after e spares)).reply ∙ are.unanswered ordinal after;
  due = due_stays setup view c from are.due e spares;
}
