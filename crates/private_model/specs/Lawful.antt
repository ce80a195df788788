-- What the router keeps to: what may be sent when, told of a story alone.
use Rattle.std.specs.Prelude.{◌≡◌, ◌≢◌, ◌⊎◌, ℕ, Bool, true, false, List, [], ◌∷◌, Option, Some, None}
use Rattle.pin_classifier.specs.declared.class.Class.{Class}
use Rattle.private_model.specs.Commands.{Account, Command, FieldList, InitDb, Prepare, Query, Quit, Run, SetId, class_of, is_marked}
use Rattle.private_model.specs.Story.{Broke, Capture, Due, End, Freed, Happening, LoggedIn, Own, Prep, Question, Sent, Statement, Story, Sync, Unprepared, message_of}
use Rattle.private_model.specs.View.{Held, Joined, Lent, Link, Nobody, Quiet, Setup, View, no_link, present, view_after}
use Rattle.server_rule.specs.Classes.{Reads, core}
use Rattle.session_state.specs.Classes.{Tracked, effect_of, sets_autocommit, takes}
use Rattle.session_state.specs.Pins.{is_pinned, needs_reset}
use Rattle.session_state.specs.declared.names.SessionName.{SessionName}
use Rattle.session_state.specs.declared.pin.Pin.{Pin}
use Rattle.session_state.specs.declared.place.Place.{Place}
use Rattle.session_state.specs.declared.place.Told.{Told}
use Rattle.session_vars.specs.declared.change.Change.{Change}
use Rattle.session_vars.specs.declared.change.SlotValue.{SlotValue}

-- Statements.

abbrev pub is_statement : Command → Bool
is_statement (Query text) = true
is_statement (InitDb schema) = true
is_statement (FieldList rest) = true
is_statement (Prepare text) = true
is_statement (Run text schema settings args) = true
is_statement _ = false

-- it is the text of a key, and the link was told its place, but for autocommit
pub record IsToldKey (setup : Setup) (key : ℕ) (text : List ℕ) (told : Told) : Type 0 where
  pub text_is : text ≡ (setup.keys key).text
  pub schema : told.schema ≡ Some (setup.keys key).place.schema
  pub core : core told.settings ≡ core (setup.keys key).place.settings

-- a Run is of a key that is prepared on the link
pub record IsLiveRun (setup : Setup) (key : ℕ) (text schema : List ℕ) (settings : List SlotValue) (live : ℕ → Option ℕ) : Type 0 where
  pub number : ℕ
  pub there : live key ≡ Some number
  pub text_of : text ≡ (setup.keys key).text
  pub schema_of : schema ≡ (setup.keys key).place.schema
  pub core_of : core settings ≡ core (setup.keys key).place.settings

abbrev pub IsKeyed : Setup → Command → (key : ℕ) → Told → (live : ℕ → Option ℕ) → Type 0
IsKeyed setup (Run text schema settings args) key told live = IsLiveRun setup key text schema settings live
IsKeyed setup (Prepare text) key told live = IsToldKey setup key text told
IsKeyed setup _ key told live = Unit {0}

-- the link was told just this
pub record IsPlaced (told : Told) (place : Place) : Type 0 where
  pub schema : told.schema ≡ Some place.schema
  pub settings : told.settings ≡ place.settings

-- the insert id of the link is known, and is the session's
pub record IdsAgree (of_link of_session : Option ℕ) : Type 0 where
  pub id : ℕ
  pub link : of_link ≡ Some id
  pub session : of_session ≡ Some id

-- A statement of an unpinned session goes to a link of its account.
pub record Begins (setup : Setup) (n : SessionName) (due : Due) (user : Account) (told : Told) (link_id : Option ℕ) (live : ℕ → Option ℕ) (pin : Pin) (id : Option ℕ) : Type 0 where
  pub statement : is_statement due.command ≡ true
  pub keyed : IsKeyed setup due.command due.key told live
  pub unpinned : is_pinned pin ≡ false
  pub anew : due.anew ≡ true
  pub placed : IsPlaced told due.place
  pub account : user ≡ setup.accounts n.client
  pub blind : (class_of setup.reads due.command).reads_diag ≡ false
  pub blind_found : (class_of setup.reads due.command).reads_found ≡ false
  pub known : ℕ
  pub no_capture : id ≡ Some known
  pub marks : is_marked setup.reads due.command ≡ true → link_id ≡ id

-- What it reads of earlier statements its own session left there.
pub record ReadsOwn (class : Class) (pin : Pin) : Type 0 where
  pub diag : class.reads_diag ≡ true → pin.own_diag ≡ true
  pub found : class.reads_found ≡ true → pin.own_found ≡ true

-- A statement of a pinned session goes to the session's own link.
pub record GoesOn (setup : Setup) (due : Due) (marked : Bool) (told : Told) (link_id : Option ℕ) (live : ℕ → Option ℕ) (pin : Pin) (id : Option ℕ) : Type 0 where
  pub statement : is_statement due.command ≡ true
  pub keyed : IsKeyed setup due.command due.key told live
  pub pinned : is_pinned pin ≡ true
  pub anew : due.anew ≡ false
  pub placed : IsPlaced told due.place
  pub reads : ReadsOwn (class_of setup.reads due.command) pin
  pub marks : is_marked setup.reads due.command ≡ true → (marked ≡ true) ⊎ IdsAgree link_id id

-- the link carries nobody and no link carries the session; or the text was prepared for it there
pub record IsVacant (link : Link) (held : Held) : Type 0 where
  pub free : link.carries ≡ Nobody
  pub homeless : held.home ≡ None

abbrev pub MayLend : SessionName → Link → Held → Type 0
MayLend n link held = IsVacant link held ⊎ (link.carries ≡ Lent n)

pub record BeginsThere (setup : Setup) (n : SessionName) (due : Due) (link : Link) (held : Held) : Type 0 where
  pub lends : MayLend n link held
  pub begins : Begins setup n due link.account link.told link.id link.live held.pin held.id

pub record GoesOnThere (setup : Setup) (n : SessionName) (due : Due) (link : Link) (held : Held) : Type 0 where
  pub carries : link.carries ≡ Joined n
  pub goes_on : GoesOn setup due link.marked link.told link.id link.live held.pin held.id

pub record IsStatement (setup : Setup) (view : View) (n : SessionName) (due : Due) (link : Link) : Type 0 where
  pub is_due : view.dues n ≡ Some due
  pub unsent : view.carriers (message_of n due) ≡ None
  pub present : n ≡ present view n.client n.hostgroup
  pub how : BeginsThere setup n due link (view.held n) ⊎ GoesOnThere setup n due link (view.held n)

-- The preparation of a text, on the way to a statement.

pub record PreparesFirst (setup : Setup) (n : SessionName) (key : ℕ) (text : List ℕ) (link : Link) (held : Held) : Type 0 where
  pub told : IsToldKey setup key text link.told
  pub lends : MayLend n link held
  pub unpinned : is_pinned held.pin ≡ false

pub record PreparesThere (setup : Setup) (n : SessionName) (key : ℕ) (text : List ℕ) (link : Link) (held : Held) : Type 0 where
  pub told : IsToldKey setup key text link.told
  pub carries : link.carries ≡ Joined n
  pub pinned : is_pinned held.pin ≡ true

-- Steps.

-- a tracked SET and nothing else, which ends no transaction
pub record IsSet (class : Class) (tx : Bool) : Type 0 where
  pub changes : List Change
  pub effect : effect_of class ≡ Tracked changes
  pub unmarked : class.marks_id ≡ false
  pub blind : class.reads_diag ≡ false
  pub blind_found : class.reads_found ≡ false
  pub shallow : class.deep ≡ false
  pub no_locks : takes class ≡ false
  pub next_tx : class.next_tx ≡ false
  pub savepoint : class.savepoint ≡ false
  pub resets : class.outlasts_reset ≡ false
  pub calm : sets_autocommit changes ≡ true → tx ≡ false

-- A step in a client's session; the id is the session's. No INIT_DB leads to no schema, so a link that was told one is never placed
-- for a client without.

abbrev pub IsStepOf : Reads → Command → Pin → (id : Option ℕ) → Type 0
IsStepOf reads (InitDb schema) pin id = schema ≢ []
IsStepOf reads (Query text) pin id = IsSet (reads.class text) pin.tx
IsStepOf reads (SetId n) pin id = id ≡ Some n.value
IsStepOf reads _ pin id = ⊥

abbrev pub IsOwnStep : Reads → Command → Type 0
IsOwnStep reads (InitDb schema) = schema ≢ []
IsOwnStep reads (Query text) = IsSet (reads.class text) false
IsOwnStep reads (SetId n) = Unit {0}
IsOwnStep reads Quit = Unit {0}
IsOwnStep reads _ = ⊥

pub record IsSync (setup : Setup) (n : SessionName) (command : Command) (link : Link) (held : Held) : Type 0 where
  pub carries : link.carries ≡ Joined n
  pub pinned : is_pinned held.pin ≡ true
  pub fits : IsStepOf setup.reads command held.pin held.id

pub record IsOwn (setup : Setup) (command : Command) (link : Link) : Type 0 where
  pub free : (link.carries ≡ Nobody) ⊎ ((who : SessionName) × (link.carries ≡ Lent who))
  pub fits : IsOwnStep setup.reads command

-- the session was left, and a reset takes back what it did; else its link is closed
pub record IsEnd (view : View) (n : SessionName) (link : Link) : Type 0 where
  pub carries : link.carries ≡ Joined n
  pub left : n ≢ present view n.client n.hostgroup
  pub needed : needs_reset (view.held n).pin ≡ true
  pub resets : view.lasting n ≡ false

-- a capture is due
pub record IsCapture (n : SessionName) (link : Link) (held : Held) : Type 0 where
  pub carries : link.carries ≡ Joined n
  pub unpinned : is_pinned held.pin ≡ false
  pub unknown : held.id ≡ None

abbrev pub Fits : Setup → View → Link → Question → Type 0
Fits setup view link (Statement n due) = IsStatement setup view n due link
Fits setup view link (Prep n key text) = PreparesFirst setup n key text link (view.held n) ⊎ PreparesThere setup n key text link (view.held n)
Fits setup view link (Sync n command) = IsSync setup n command link (view.held n)
Fits setup view link (Own command) = IsOwn setup command link
Fits setup view link (End n) = IsEnd view n link
Fits setup view link (Capture n) = IsCapture n link (view.held n)

pub record MaySend (setup : Setup) (view : View) (link : Link) (question : Question) : Type 0 where
  pub usable : link.usable ≡ true
  pub quiet : link.stage ≡ Quiet
  pub fits : Fits setup view link question

-- Links that are given back: the session is unpinned and its insert id known, or it was left and needs no reset.

pub record IsSettled (held : Held) : Type 0 where
  pub unpinned : is_pinned held.pin ≡ false
  pub known : ℕ
  pub is_known : held.id ≡ Some known

pub record MayFree (view : View) (link : Link) : Type 0 where
  pub who : SessionName
  pub carries : (link.carries ≡ Joined who) ⊎ (link.carries ≡ Lent who)
  pub quiet : link.stage ≡ Quiet
  pub harmless : needs_reset (view.held who).pin ≡ false
  pub settled : IsSettled (view.held who) ⊎ (who ≢ present view who.client who.hostgroup)

abbrev pub MayCome : Setup → View → Happening → Type 0
MayCome setup view (LoggedIn link server account) = view.links link ≡ no_link
MayCome setup view (Sent link question) = MaySend setup view (view.links link) question
MayCome setup view (Freed link) = MayFree view (view.links link)
MayCome setup view (Unprepared link number) = (view.links link).stage ≡ Quiet
MayCome setup view Broke = ⊥
MayCome setup view _ = Unit {0}

abbrev pub IsLawful : Setup → Story → Type 0
IsLawful setup [] = Unit {0}
IsLawful setup (e ∷ past) = IsLawful setup past × MayCome setup (view_after setup past) e
