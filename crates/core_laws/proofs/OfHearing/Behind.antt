-- The row of the link itself behind a read: whom it carries, what stands next there, and the reply that its client gets.
use Rattle.std.specs.Prelude.{◌≡◌, ◌⊎◌, ℕ, Bool, true, false, List, Option, Some, None}
use Rattle.std.proofs.Common.{refl, sym, ap, ◌∙◌, subst, inl, inr}
use Rattle.std.proofs.lemmas.Bool.{false≢true, true≢false}
use Rattle.reply_track.specs.declared.reply.ReplyKind.{ReplyKind}
use Rattle.server_rule.specs.Classes.{Reads}
use Rattle.server_side.specs.Account.{Account as Login}
use Rattle.private_model.specs.Names.{LinkId, SessionName}
use Rattle.private_model.specs.View.{Link, Setup, View}
use Rattle.tale_world.specs.Tests.{is_told_key}
use Rattle.log_story.specs.Plan.{Plan}
use Rattle.log_story.specs.Tale.{Tale, Wire, view_of}
use Rattle.link_state.specs.Asks.{joined_for}
use Rattle.link_state.specs.Dones.{is_quiet}
use Rattle.link_state.specs.States.{ran_in}
use Rattle.link_state.specs.declared.asking.Asking.{Asking}
use Rattle.link_state.specs.declared.asking.Purpose.{Purpose}
use Rattle.link_state.specs.declared.asking.Purpose.TheVariants as purposes
use Rattle.link_state.specs.declared.state.Carried.{Carried}
use Rattle.link_state.specs.declared.state.LinkState.{LinkState}
use Rattle.link_state.specs.declared.state.Stage.{Stage}
use Rattle.link_state.specs.declared.state.Stage.TheVariants.{Quiet, Asked, Answered}
use Rattle.link_laws.specs.Stands.{Codes}
use Rattle.lent_link.specs.Hears.{expecting, expecting_at, expecting_by, expecting_if}
use Rattle.lent_link.specs.Rests.{is_resetting}
use Rattle.lent_link.specs.declared.link.Begins.{Begins}
use Rattle.lent_link.specs.declared.link.LentLink.{LentLink}
use Rattle.lent_link.specs.declared.link.Step.{Step}
use Rattle.lent_link.specs.declared.link.Step.TheVariants.{Other, Closes, Resets}
use Rattle.lent_link.specs.declared.reading.Reading.{Reading}
use Rattle.link_state.specs.declared.writing.Writing.{Writing}
use Rattle.served_link.specs.declared.row.Row.{Row}
use Rattle.row_laws.specs.Rows.{IsRowBy, IsRowIn, Serves}
use Rattle.row_laws.specs.Unread.{kind_answered, kind_due}
use Rattle.row_laws.specs.Whose.{IsFor, IsOwn, name_in}
use Rattle.row_laws.specs.Written.{IsWrittenBy}
use Rattle.mx_base.specs.declared.tag.Tag.TheVariants as tags
use Rattle.private_model.specs.Commands as commands
use Rattle.private_model.specs.Story.{Capture, End, Own, Prep, Question, Statement, Story, Sync, command_of}
use Rattle.private_model.specs.View.{view_after}
use Rattle.session_state.specs.declared.place.Told.{Told}
use Rattle.log_story.specs.Honest.{number_for}
use Rattle.log_story.specs.Plan as plan
use Rattle.log_story.specs.Plan.{step_payload, text_payload}
use Rattle.link_state.specs.Spells.{spelt}
use Rattle.lent_link.specs.declared.link.Begins.TheVariants as begins
use Rattle.reply_relay.specs.Cells.{CellRead}
use Rattle.row_laws.specs.Begins.{IsCellNext, IsNext, IsReadied}
use Rattle.row_laws.specs.Whose.{OfStatement}
use Rattle.row_laws.specs.Written.{spelt_as}
use Rattle.core_tables.specs.Tables.{Tabled}
use Rattle.core_stands.specs.Grounds.{Ground, on, view_on}
use Rattle.core_stands.specs.Servers.{IsAhead, IsFirst, IsNextFor, IsNextOf, IsTagged, IsTakenUp, OfLent, is_statement, is_stating, tag_for, keyed_text}
use Rattle.core_laws.proofs.OfHearing.Elsewhere.{AreFirst}
use Rattle.core_laws.proofs.OfHearing.Kept.{AsksAt, with_story}

-- As a reply is awaited, what stands there is what was asked, and the session is the same.

pub record IsAwaited (old new : LentLink) : Type 0 where
  pub asks : (asking : Asking) → new.state.stage ≡ Answered asking → AsksAt old.state.stage asking
  pub asked : (asking : Asking) → new.state.stage ≡ Asked asking → AsksAt old.state.stage asking
  pub carries : IsOwn old.state.stage old.state.carries → name_in new.state.carries ≡ name_in old.state.carries

asks_same : (stage : Stage) (asking : Asking) → stage ≡ Answered asking → AsksAt stage asking
asks_same Quiet asking same = absurd (cc)
asks_same (Asked at) asking same = absurd (cc)
asks_same (Answered at) asking same = (let it : at ≡ asking = cc in it)

asked_same : (stage : Stage) (asking : Asking) → stage ≡ Asked asking → AsksAt stage asking
asked_same Quiet asking same = absurd (cc)
asked_same (Answered at) asking same = absurd (cc)
asked_same (Asked at) asking same = (let it : at ≡ asking = cc in it)

same_link : (link : LentLink) → IsAwaited link link
same_link link = record { asks = λ asking same. asks_same link.state.stage asking same; asked = λ asking same. asked_same link.state.stage asking same; carries = λ own. refl }

joined_name : (purpose : Purpose) (carries : Carried) → IsFor purpose carries → name_in (joined_for purpose carries) ≡ name_in carries
joined_name (purposes.Statement n ordinal key) carries for = sym (for n refl)
joined_name (purposes.Prep n ordinal key) carries for = refl
joined_name (purposes.Sync n) carries for = refl
joined_name purposes.Own carries for = refl
joined_name (purposes.End n) carries for = refl
joined_name (purposes.Capture n) carries for = refl

awaited_stage : (link : LentLink) (stage : Stage) → link.state.stage ≡ stage → IsAwaited link (expecting_at stage link)
awaited_stage link Quiet same = same_link link
awaited_stage link (Answered asking) same = same_link link
awaited_stage link (Asked at) same = record {
  asks = λ asking there.
      subst (λ (s : Stage). AsksAt s asking) (sym same)
      (asked_is at asking (ap (λ (s : Stage). (ran_in s link.state).stage) (sym same) ∙ there));
  asked = λ asking there. absurd (clash asking (ap (λ (s : Stage). (ran_in s link.state).stage) (sym same) ∙ there));
  carries = λ own.
      ap (λ (s : Stage). name_in (ran_in s link.state).carries) same
      ∙ joined_name at.purpose link.state.carries (subst (λ (s : Stage). IsOwn s link.state.carries) same own);
} where
  asked_is : (a b : Asking) → Answered a ≡ Answered b → a ≡ b
  asked_is a b same = cc

  clash : (b : Asking) → Answered at ≡ Asked b → ⊥
  clash b same = cc

awaited_step : (link : LentLink) (step : Step) → IsAwaited link (expecting_by step link)
awaited_step link (Resets number) = record { asks = λ asking same. asks_same link.state.stage asking same; asked = λ asking same. asked_same link.state.stage asking same; carries = λ own. refl }
awaited_step link Other = awaited_stage link link.state.stage refl
awaited_step link (Closes number) = awaited_stage link link.state.stage refl

awaited_if : (link : LentLink) (reading : Option Reading) → IsAwaited link (expecting_if reading link)
awaited_if link (Some r) = same_link link
awaited_if link None = awaited_step link link.step

pub awaited : (link : LentLink) → IsAwaited link (expecting link)
awaited link = awaited_if link link.reading

-- What is asked there is asked for the session that the link carries.

own_of : (stage : Stage) (carries : Carried) (asking : Asking) → AsksAt stage asking → IsOwn stage carries → IsFor asking.purpose carries
own_of Quiet carries asking asks own = absurd asks
own_of (Asked at) carries asking asks own = subst (λ (a : Asking). IsFor a.purpose carries) asks own
own_of (Answered at) carries asking asks own = subst (λ (a : Asking). IsFor a.purpose carries) asks own

pub carried_for : (setup : Setup) (codes : Codes) (plan : Plan) (tale : Tale) (l : LinkId) (row : Row) → IsRowIn setup codes plan tale l row → (asking : Asking)
    → AsksAt row.link.state.stage asking → IsFor asking.purpose row.link.state.carries
carried_for setup codes plan tale l row is asking asks = by (tale.wires l).entered is.is where
  by : (entered : Bool) → IsRowBy entered setup.reads codes (plan.logins l) (view_of setup tale) row (tale.wires l) ((view_of setup tale).links l)
      → IsFor asking.purpose row.link.state.carries
  by true serves = own_of row.link.state.stage row.link.state.carries asking asks serves.own
  by false enters = absurd (subst (λ (s : Stage). AsksAt s asking) (ap (λ (state : LinkState). state.stage) enters.state) asks)

-- Where an answer is read nothing is to begin.
module _ (reads : Reads) (codes : Codes) (login : Login) (seen : View) (row : Row) (wire : Wire) (link : Link)
    (stands : Serves reads codes login seen row wire link) (fine : row.link.spoilt ≡ false) where
  quiet_undue : (stage : Stage) → is_quiet stage ≡ true → kind_answered stage ≡ None
  quiet_undue Quiet quiet = refl
  quiet_undue (Asked asking) quiet = absurd (false≢true quiet)
  quiet_undue (Answered asking) quiet = absurd (false≢true quiet)

  step_undue : (step : Step) (stage : Stage) → is_resetting step ≡ false → is_quiet stage ≡ true → kind_due step stage ≡ None
  step_undue Other stage plain quiet = quiet_undue stage quiet
  step_undue (Closes number) stage plain quiet = quiet_undue stage quiet
  step_undue (Resets number) stage plain quiet = absurd (true≢false plain)

  pub next_none : (r : Reading) → row.link.reading ≡ Some r → (bytes : List ℕ) → ((kind : ReplyKind) → kind_due row.link.step row.link.state.stage ≡ Some kind → ⊥)
      ⊎ (row.link.next ≡ None)
  next_none r under_way bytes = by row.link.next row.link.writing refl stands.written where
    by : (next : Option Begins) (writing : Option Writing) → row.link.next ≡ next
        → IsWrittenBy next writing row.link.state.stage row.link.step row.link.quits wire.step wire.written link
        → ((kind : ReplyKind) → kind_due row.link.step row.link.state.stage ≡ Some kind → ⊥) ⊎ (row.link.next ≡ None)
    by None writing same is = inr same
    by (Some next) writing same is = inl (λ kind due. clash kind (sym (step_undue row.link.step row.link.state.stage is.0.answered is.0.quiet) ∙ due)) where
      clash : (kind : ReplyKind) → None ≡ Some kind → ⊥
      clash kind same = cc

-- What is due where a link is lent stays so, until a statement runs there.

module _ (seen : View) where
  abbrev IsLending : LinkState → Type 0
  IsLending state = is_stating state.stage ≡ false → OfLent state.carries (IsAhead seen)

  lent_joined : (asking : Asking) (carries : Carried) → (is_stating (Asked asking) ≡ false → OfLent carries (IsAhead seen))
      → OfLent (joined_for asking.purpose carries) (IsAhead seen)
  lent_joined asking carries sound = by asking.purpose sound where
    by : (purpose : Purpose) → (is_statement purpose ≡ false → OfLent carries (IsAhead seen)) → OfLent (joined_for purpose carries) (IsAhead seen)
    by (purposes.Statement n ordinal key) sound = tt
    by (purposes.Prep n ordinal key) sound = sound refl
    by (purposes.Sync n) sound = sound refl
    by purposes.Own sound = sound refl
    by (purposes.End n) sound = sound refl
    by (purposes.Capture n) sound = sound refl

  lent_stage : (link : LentLink) (stage : Stage) → link.state.stage ≡ stage → IsLending link.state → IsLending (expecting_at stage link).state
  lent_stage link Quiet same sound = sound
  lent_stage link (Answered asking) same sound = sound
  lent_stage link (Asked asking) same sound = λ unstated.
      subst (λ (s : Stage). OfLent (ran_in s link.state).carries (IsAhead seen)) (sym same)
      (lent_joined asking link.state.carries (λ is. sound (ap is_stating same ∙ is)))

  lent_step : (link : LentLink) (step : Step) → IsLending link.state → IsLending (expecting_by step link).state
  lent_step link (Resets number) sound = sound
  lent_step link Other sound = lent_stage link link.state.stage refl sound
  lent_step link (Closes number) sound = lent_stage link link.state.stage refl sound

  lent_if : (link : LentLink) (reading : Option Reading) → IsLending link.state → IsLending (expecting_if reading link).state
  lent_if link (Some r) sound = sound
  lent_if link None sound = lent_step link link.step sound

  pub lent_due : (link : LentLink) → IsLending link.state → IsLending (expecting link).state
  lent_due link sound = lent_if link link.reading sound

-- What stands next there stays so.
module _ (g : Ground) (story : Story) (wires : LinkId → Wire) (t other : Tabled) (old new : Row) (link now : Link)
    (first : AreFirst t other) (dues : (n : SessionName) → (view_after g.setup story).dues n ≡ (view_on g).dues n)
    (writing : new.link.writing ≡ old.link.writing) (from : new.link.first ≡ old.link.first) (as_number : new.link.number ≡ old.link.number)
    (multiplex : new.multiplex ≡ old.multiplex) (cell : new.cell ≡ old.cell) (live : now.live ≡ link.live) (same_told : now.told ≡ link.told) where
  abbrev told : Ground
  told = on g (with_story story wires g.tale)

  readied : (asking : Asking) (question : Question) → IsReadied g.setup.reads g.codes old link asking question → IsReadied g.setup.reads g.codes new now asking question
  readied asking question is = record {
    asks = is.asks;
    spelt_so = subst (λ (w : Option Writing). IsNext w (spelt_as (command_of question) (number_for question now.live))) (sym writing)
        (subst (λ (l : ℕ → Option ℕ). IsNext old.link.writing (spelt_as (command_of question) (number_for question l))) (sym live) is.spelt_so);
    shared = subst (λ (m : Option Bool). OfStatement question (λ n due. m ≡ due.multiplex)) (sym multiplex) is.shared;
    cell_so = subst (λ (c : Option CellRead). IsCellNext asking.form c) (sym cell) is.cell_so;
  }

  taken_on : {n : SessionName} {ordinal : ℕ} → IsTakenUp g n ordinal → IsTakenUp told n ordinal
  taken_on is = record { client = is.client; seated = is.seated; number = is.number; by_now = is.by_now }

  for_on : (asking : Asking) (purpose : Purpose) → IsNextFor purpose g t old link asking → IsNextFor purpose told other new now asking
  for_on asking (purposes.Statement n ordinal key) is = record {
    said = λ due there at. readied asking (Statement n due) (is.said due (sym (dues n) ∙ there) at);
    first = subst (λ (id : ℕ). IsFirst other n ordinal id) (sym from) (first n ordinal old.link.first is.first);
    asked = λ due there at. is.asked due (sym (dues n) ∙ there) at;
    number = as_number ∙ is.number;
    taken_up = taken_on is.taken_up;
  }
  for_on asking (purposes.Prep n ordinal key) is = record {
    said = λ due there at. readied asking (Prep n due.key (keyed_text g due)) (is.said due (sym (dues n) ∙ there) at);
    told = λ due there at.
        ap (λ (x : Told). is_told_key g.setup due.key (keyed_text g due) x) same_told ∙ is.told due (sym (dues n) ∙ there) at;
    taken_up = taken_on is.taken_up;
  }
  for_on asking (purposes.Sync n) is = record { command = is.command; said = readied asking (Sync n is.command) is.said }
  for_on asking purposes.Own is = record { command = is.command; said = readied asking (Own is.command) is.said }
  for_on asking (purposes.End n) is = readied asking (End n) is
  for_on asking (purposes.Capture n) is = readied asking (Capture n) is

  own_on : (said : List ℕ) → IsTagged old.link.writing tags.Own × IsNext old.link.writing said → IsTagged new.link.writing tags.Own × IsNext new.link.writing said
  own_on said is =
      (subst (λ (w : Option Writing). IsTagged w tags.Own) (sym writing) is.0, subst (λ (w : Option Writing). IsNext w said) (sym writing) is.1)

  pub next_on : (next : Option Begins) → IsNextOf next g t old link → IsNextOf next told other new now
  next_on None is = tt
  next_on (Some (begins.Asks asking)) is =
      (subst (λ (w : Option Writing). IsTagged w (tag_for asking.purpose)) (sym writing) is.0, for_on asking asking.purpose is.1)
  next_on (Some (begins.Closes number)) is = own_on (spelt (step_payload (plan.Closes number))) is
  next_on (Some (begins.Resets number)) is = own_on (spelt (step_payload (plan.Resets number))) is
  next_on (Some begins.Quits) is = own_on (spelt (text_payload commands.Quit)) is
