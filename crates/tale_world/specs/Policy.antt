-- What the router does next, as functions of its world: which question goes to a link, to whom a free link goes, and what is opened. So what
-- an entry may be is a test of the world before it, and nothing is remembered of what was meant.
use Rattle.std.specs.Prelude.{ℕ, ◌+◌, Bool, true, false, not, ◌&&◌, ◌||◌, is_some, nat_le, nat_lt, if◌then◌else◌, List, [], ◌∷◌, length, filter, Option, Some, None}
use Rattle.std.specs.Option.{option_map_or}
use Rattle.mx_base.specs.declared.names.LinkId.{LinkId}
use Rattle.session_vars.specs.declared.change.SlotValue.{SlotValue}
use Rattle.session_state.specs.Pins.{is_pinned, needs_reset}
use Rattle.session_state.specs.declared.place.Place.{Place}
use Rattle.session_state.specs.declared.place.Told.{Told}
use Rattle.private_model.specs.Names.{Hostgroup, ServerId, SessionName}
use Rattle.private_model.specs.Commands.{Account, Command, InitDb, Number, Query, Run, SetId, is_marked}
use Rattle.private_model.specs.Story.{Capture, Due, End, Own, Prep, Question, Statement, Sync, is_hostgroup, is_name}
use Rattle.private_model.specs.View.{Carried, Held, Joined, Lent, Link, Nobody, Setup, View, present}
use Rattle.log_story.specs.Servers.{is_quiet}
use Rattle.tale_world.specs.Tests.{are_settings, is_account, is_flag, is_id, is_schema}

-- How settings are set: the text that leads from one to the other, or the first of two; and settings with autocommit as in others.
pub record Texts : Type 0 where
  pub leads : (from to : List SlotValue) → List ℕ
  pub calm : (settings told : List SlotValue) → List SlotValue

-- The question that goes to a link for a statement: a step to the schema, to the settings, the preparation, the insert id; or the statement.
-- It is asked for anew after each answer, so a step that failed shows by itself.

-- the step to a place
abbrev pub place_step : Texts → Told → Place → Option Command
place_step texts told place =
    if not (is_schema told.schema place.schema) then Some (InitDb place.schema)
    else if not (are_settings told.settings place.settings)
    then Some (Query (texts.leads told.settings place.settings))
    else None

abbrev pub numbered : (id : Option ℕ) → (ℕ → Option Number) → Option Number
numbered None of = None
numbered (Some n) of = of n

-- the step to the session's insert id, where the text is marked
abbrev pub id_step : Setup → (fits : ℕ → Option Number) → Due → (marked : Bool)
    → (link_id id : Option ℕ) → Option Command
id_step setup fits due marked link_id id =
    if is_marked setup.reads due.command
    && not (marked || is_id link_id id) then option_map_or (λ n. Some (SetId n)) (numbered id fits) None
    else None

-- its text isn't prepared on the link
abbrev pub is_unprepared : (live : ℕ → Option ℕ) → Due → Command → Bool
is_unprepared live due (Run text schema settings args) = not (is_some (live due.key))
is_unprepared live due _ = false

abbrev pub key_place : Texts → Setup → Due → Told → Place
key_place texts setup due told =
    record {
      schema = (setup.keys due.key).place.schema;
      settings = texts.calm
          (setup.keys due.key).place.settings told.settings;
    }

abbrev pub or_else : Option Command → (Command → Question) → Question → Question
or_else (Some command) step other = step command
or_else None step other = other

abbrev pub question_for : Texts → (fits : ℕ → Option Number) → Setup → SessionName → Due
    → (step : Command → Question) → Link → Held → Question
question_for texts fits setup n due step link held =
    if is_unprepared link.live due due.command
    then or_else (place_step texts link.told (key_place texts setup due link.told)) step
    (Prep n due.key (setup.keys due.key).text)
    else or_else (place_step texts link.told due.place) step
    (or_else (id_step setup fits due link.marked link.id held.id) step (Statement n due))

-- What goes to a link next, by whom it carries, and by whom it is readied for.

pub record Readied : Type 0 where
  pub name : SessionName
  pub due : Due

abbrev pub for_session : Texts → (fits : ℕ → Option Number) → Setup → View → Link → SessionName
    → Option Question
for_session texts fits setup view link n =
    if is_name n (present view n.client n.hostgroup)
    then if is_pinned (view.held n).pin
    then option_map_or (λ due. Some (question_for texts fits setup n due (Sync n) link (view.held n)))
    (view.dues n) None
    else if is_some (view.held n).id then None else Some (Capture n)
    else if needs_reset (view.held n).pin && not (view.lasting n) then Some (End n) else None

abbrev pub next_question : Texts → (fits : ℕ → Option Number) → Setup → View → Link → Option Readied
    → Option Question
next_question texts fits setup view link readied =
    if not (is_quiet link.stage && link.usable) then None else by_carried link.carries where
      by_carried : Carried → Option Question
      by_carried (Joined n) = for_session texts fits setup view link n
      -- behind a preparation for it
      by_carried (Lent n) =
          option_map_or (λ due. Some (question_for texts fits setup n due Own link (view.held n)))
          (view.dues n) None
      by_carried Nobody =
          option_map_or (λ r. Some (question_for texts fits setup r.name r.due Own link (view.held r.name)))
          readied None

-- Who waits, and what is opened.

-- a hostgroup, an account, and whether it is of those who stand in no schema: no step takes a link's schema away
pub record Key : Type 0 where
  pub hostgroup : Hostgroup
  pub account : Account
  pub bare : Bool

abbrev pub is_key : Key → Key → Bool
is_key a b =
    is_hostgroup a.hostgroup b.hostgroup && (is_account a.account b.account && is_flag a.bare b.bare)

-- a statement that is due and unsent, of a session that no link carries: its key, and the moment of the wake at which it became due
pub record Waiter : Type 0 where
  pub name : SessionName
  pub due : Due
  pub key : Key
  pub since : ℕ

-- a link that carries nobody and is of use
pub record Idle : Type 0 where
  pub link : LinkId
  pub key : Key

pub record Opening : Type 0 where
  pub server : ServerId
  pub key : Key

-- the moment of the last wake; who waits, the oldest first; whom links are readied for; which of two links is lent first; links that
-- carry nobody, and those that log in
pub record Rest : Type 0 where
  pub now : ℕ
  pub waiters : List Waiter
  pub readied : LinkId → Option Readied
  pub prefers : (one other : LinkId) → Bool
  pub idle : List Idle
  pub opening : List Opening

abbrev pub unsent : Rest → Key → ℕ
unsent rest key = length (filter (λ (w : Waiter). is_key w.key key) rest.waiters)

abbrev pub free : Rest → Key → ℕ
free rest key = length (filter (λ (i : Idle). is_key i.key key) rest.idle)

abbrev pub opening : Rest → Key → ℕ
opening rest key = length (filter (λ (o : Opening). is_key o.key key) rest.opening)

-- fewer links are free or opening than statements wait
abbrev pub wants_link : Rest → Key → Bool
wants_link rest key = nat_lt (free rest key + opening rest key) (unsent rest key)

pub record Wanted : Type 0 where
  pub key : Key
  pub server : ServerId

abbrev pub opens_for : Rest → (pick : Hostgroup → Option ServerId) → Key → Option Wanted → Option Wanted
opens_for rest pick key later =
    if wants_link rest key then option_map_or (λ server. Some (record { key = key; server = server }))
    (pick key.hostgroup) later else later

-- the link that is opened next, for the oldest whose key wants one and whose hostgroup has room
abbrev pub next_open : Rest → (pick : Hostgroup → Option ServerId) → List Waiter → Option Wanted
next_open rest pick [] = None
next_open rest pick (w ∷ later) = opens_for rest pick w.key (next_open rest pick later)

-- To whom a free link goes: the oldest that none is readied for; of the free links of its key that one which is preferred.

abbrev pub better : Rest → Idle → Option Idle → Option Idle
better rest one None = Some one
better rest one (Some other) = if rest.prefers one.link other.link then Some one else Some other

abbrev pub is_open_to : Rest → Key → Idle → Bool
is_open_to rest key one = is_key one.key key && not (is_some (rest.readied one.link))

abbrev pub best : Rest → Key → List Idle → Option Idle
best rest key [] = None
best rest key (one ∷ others) =
    if is_open_to rest key one then better rest one (best rest key others) else best rest key others

pub record Lends : Type 0 where
  pub link : LinkId
  pub to : Readied

abbrev pub lends_to : Rest → (is_served : SessionName → Bool) → Waiter → Option Lends → Option Lends
lends_to rest is_served w later =
    if is_served w.name then later
    else option_map_or (λ (one : Idle). Some
    (record { link = one.link; to = record { name = w.name; due = w.due } }))
    (best rest w.key rest.idle) later

abbrev pub next_lend : Rest → (is_served : SessionName → Bool) → List Waiter → Option Lends
next_lend rest is_served [] = None
next_lend rest is_served (w ∷ later) = lends_to rest is_served w (next_lend rest is_served later)

-- it is refused at a wake, since nothing was lent to it for so long
abbrev pub is_late : (wait_ms : ℕ) → Rest → Waiter → Bool
is_late wait_ms rest w = nat_le (w.since + wait_ms) rest.now
