-- What holds at every moment between the two worlds.
use Rattle.std.specs.Prelude.{◌≡◌, ℕ, Bool, true, false, List, [], Option, Some, None}
use Rattle.std.proofs.Common.{ap}
use Rattle.private_model.specs.Names.{LinkId, ServerId, MessageName, SessionName}
use Rattle.private_model.specs.Commands.{Account, Reply}
use Rattle.private_model.specs.Lawful.{Begins, GoesOn, IsOwnStep, IsStepOf, IsToldKey}
use Rattle.private_model.specs.Story.{Capture, Due, End, Key, Own, Prep, Question, Statement, Sync, command_of, message_of}
use Rattle.private_model.specs.View as view
use Rattle.private_model.specs.View.{Answered, Asked, Carried, Held, Joined, Lent, Link, Nobody, Quiet, Setup, Stage, View, pin_heard, id_heard, live_after, told_after}
use Rattle.private_model.specs.Worlds.{Peer, Private, Real}
use Rattle.server_rule.specs.Classes.{Reads, core}
use Rattle.server_rule.specs.Servers.{AgreeWhere, Tests, is_brief, is_some_of, with_diag, with_id}
use Rattle.server_rule.specs.declared.session.Session.{Session}
use Rattle.session_state.specs.Pins.{is_pinned}
use Rattle.session_state.specs.declared.pin.Pin.{Pin}
use Rattle.session_state.specs.declared.place.Told.{Told}
use Rattle.private_model.proofs.Tame.{account_of}

-- What the router will know once it has read the reply; before a run it is what it knows.

abbrev pub for_answered : {A : Type 0} → Stage → (Question → A) → A → A
for_answered (Answered question) changed old = changed question
for_answered _ changed old = old

abbrev pub soon_told : Reads → Stage → Reply → Told → Told
soon_told reads stage reply told = for_answered stage (λ question. told_after reads (command_of question) reply told) told

abbrev pub soon_id : Reads → Stage → Reply → Option ℕ → Option ℕ
soon_id reads stage reply id = for_answered stage (λ question. id_heard reads question reply id) id

abbrev pub soon_live : Stage → Reply → (ℕ → Option ℕ) → ℕ → Option ℕ
soon_live stage reply live = for_answered stage (λ question. live_after question reply live) live

abbrev pub soon_pin : Reads → Stage → Reply → Pin → Pin
soon_pin reads stage reply pin = for_answered stage (λ question. pin_heard reads question reply pin) pin

abbrev pub quieted : Stage → Stage
quieted stage = for_answered stage (λ question. Quiet) stage

abbrev pub soon : Reads → Reply → Link → Stage → Link
soon reads reply link stage = record link {
  stage = quieted stage;
  told = soon_told reads stage reply link.told;
  id = soon_id reads stage reply link.id;
  live = soon_live stage reply link.live;
}

abbrev pub heard : Reads → Reply → Link → Link
heard reads reply link = soon reads reply link link.stage

-- where the answer is there, it is what the view then has
pub heard_now : (reads : Reads) (question : Question) (reply : Reply) (link : Link) → link.stage ≡ Answered question
    → heard reads reply link ≡ view.heard reads question reply link
heard_now reads question reply link is = ap (soon reads reply link) is

-- Facts of one session.

pub record IsPlain (s : Session) : Type 0 where
  pub tx : s.tx ≡ []
  pub locks : s.locks ≡ []
  pub deep : s.deep ≡ []

-- its insert id, where it is known
pub record Knows (id : Option ℕ) (s : Session) : Type 0 where
  pub is : (n : ℕ) → id ≡ Some n → s.last_id ≡ n

-- its schema and settings are those that it was told
pub record Follows (told : Told) (s : Session) : Type 0 where
  pub schema : (name : List ℕ) → told.schema ≡ Some name → s.schema ≡ name
  pub settings : s.settings ≡ told.settings

-- its Pin says what it has
pub record Suits (pin : Pin) (s : Session) : Type 0 where
  pub tx : pin.after_err ≡ false → is_some_of s.tx ≡ pin.tx
  pub locks : pin.deep ≡ false → pin.locks ≡ false → s.locks ≡ []
  pub brief : pin.deep ≡ false → is_brief s.deep ≡ true
  pub none : pin.deep ≡ false → pin.next_tx ≡ false → s.deep ≡ []
  pub ended : pin.deep ≡ false → pin.tx ≡ true → is_some_of s.tx ≡ false → s.deep ≡ []

-- Facts of a link.

-- what the next client may rely on
pub record IsFree (user : Account) (told : Told) (id : Option ℕ) (s : Session) : Type 0 where
  pub account : account_of s ≡ user
  pub plain : IsPlain s
  pub follows : Follows told s
  pub knows : Knows id s

-- the session on the link is the private one, with the exceptions that the next statement may have
pub record IsTogether (tests : Tests) (user : Account) (marked : Bool) (told : Told) (id : Option ℕ) (pin : Pin) (s private : Session) : Type 0 where
  pub account : account_of s ≡ user
  pub rest : private ≡ with_diag private.diag (with_id private.last_id s)
  pub diag : is_pinned pin ≡ true → AgreeWhere tests pin.own_diag pin.own_found private.diag s.diag
  pub last_id : marked ≡ true → private.last_id ≡ s.last_id
  pub follows : pin.deep ≡ false → Follows told s
  pub knows : Knows id s
  pub suits : Suits pin private

abbrev pub IfAlive : (alive : Bool) → Type 0 → Type 0 → Type 0
IfAlive true living dead = living
IfAlive false living dead = dead

-- What may be asked on a link, by whom it carries.

abbrev pub IsAskedFree : Reads → Stage → Type 0
IsAskedFree reads Quiet = Unit {0}
IsAskedFree reads (Asked (Own command)) = IsOwnStep reads command
IsAskedFree reads (Answered (Own command)) = Unit {0}
IsAskedFree reads _ = ⊥

pub record IsFreeLink (setup : Setup) (link : Link) (peer : Peer) : Type 0 where
  pub asked : IsAskedFree setup.reads link.stage
  pub unmarked : link.marked ≡ false
  pub session : IfAlive peer.alive (IsFree link.account (soon_told setup.reads link.stage peer.answer link.told) (soon_id setup.reads link.stage peer.answer link.id) peer.session) (Unit {0})

pub record IsBeginning (setup : Setup) (n m : SessionName) (due : Due) (user : Account) (told : Told) (link_id : Option ℕ) (live : ℕ → Option ℕ) (held : Held) : Type 0 where
  pub same : m ≡ n
  pub begins : Begins setup n due user told link_id live held.pin held.id

pub record IsPreparing (setup : Setup) (n m : SessionName) (key : ℕ) (text : List ℕ) (told : Told) (held : Held) : Type 0 where
  pub told_key : IsToldKey setup key text told
  pub same : m ≡ n
  pub unpinned : is_pinned held.pin ≡ false

abbrev pub IsAskedLent : Setup → SessionName → Stage → (user : Account) → Told → (link_id : Option ℕ) → (live : ℕ → Option ℕ) → Held → Type 0
IsAskedLent setup n Quiet user told link_id live held = Unit {0}
IsAskedLent setup n (Asked (Statement m due)) user told link_id live held = IsBeginning setup n m due user told link_id live held
IsAskedLent setup n (Asked (Prep m key text)) user told link_id live held = IsPreparing setup n m key text told held
IsAskedLent setup n (Answered (Prep m key text)) user told link_id live held = IsPreparing setup n m key text told held
IsAskedLent setup n (Asked (Own command)) user told link_id live held = IsOwnStep setup.reads command
IsAskedLent setup n (Answered (Own command)) user told link_id live held = Unit {0}
IsAskedLent setup n _ user told link_id live held = ⊥

pub record IsLentLink (setup : Setup) (number : LinkId) (n : SessionName) (link : Link) (peer : Peer) (held : Held) (private : Session) : Type 0 where
  pub home : held.home ≡ Some number
  pub unmarked : link.marked ≡ false
  pub asked : IsAskedLent setup n link.stage link.account link.told link.id link.live held
  pub session : IfAlive peer.alive (IsFree link.account (soon_told setup.reads link.stage peer.answer link.told) (soon_id setup.reads link.stage peer.answer link.id) peer.session) (Unit {0})
  pub plain : IsPlain private
  pub id : Knows held.id private

pub record IsGoing (setup : Setup) (n m : SessionName) (due : Due) (marked : Bool) (told : Told) (link_id : Option ℕ) (live : ℕ → Option ℕ) (held : Held) : Type 0 where
  pub same : m ≡ n
  pub goes_on : GoesOn setup due marked told link_id live held.pin held.id

pub record IsStepping (setup : Setup) (n m : SessionName) (asks : Type 0) (held : Held) : Type 0 where
  pub same : m ≡ n
  pub pinned : is_pinned held.pin ≡ true
  pub fits : asks

pub record IsCapturing (n m : SessionName) (held : Held) : Type 0 where
  pub same : m ≡ n
  pub unpinned : is_pinned held.pin ≡ false
  pub unknown : held.id ≡ None

abbrev pub IsAskedJoined : Setup → SessionName → Stage → (marked : Bool) → Told → (link_id : Option ℕ) → (live : ℕ → Option ℕ) → Held → Type 0
IsAskedJoined setup n Quiet marked told link_id live held = Unit {0}
IsAskedJoined setup n (Asked (Statement m due)) marked told link_id live held = IsGoing setup n m due marked told link_id live held
IsAskedJoined setup n (Asked (Prep m key text)) marked told link_id live held = IsStepping setup n m (IsToldKey setup key text told) held
IsAskedJoined setup n (Answered (Prep m key text)) marked told link_id live held = m ≡ n
IsAskedJoined setup n (Asked (Sync m command)) marked told link_id live held = IsStepping setup n m (IsStepOf setup.reads command held.pin held.id) held
IsAskedJoined setup n (Asked (End m)) marked told link_id live held = m ≡ n
IsAskedJoined setup n (Asked (Capture m)) marked told link_id live held = IsCapturing n m held
IsAskedJoined setup n (Answered (Statement m due)) marked told link_id live held = m ≡ n
IsAskedJoined setup n (Answered (Sync m command)) marked told link_id live held = m ≡ n
IsAskedJoined setup n (Answered (End m)) marked told link_id live held = m ≡ n
IsAskedJoined setup n (Answered (Capture m)) marked told link_id live held = m ≡ n
IsAskedJoined setup n _ marked told link_id live held = ⊥

-- the session there is n's, and n's on no other link
pub record IsJoined (tests : Tests) (alive : Bool) (user : Account) (marked : Bool) (told : Told) (link_id : Option ℕ) (pin : Pin) (id : Option ℕ) (s private : Session) : Type 0 where
  pub session : IfAlive alive (IsTogether tests user marked told link_id pin s private) (IsPlain private)
  pub knows : Knows id private
  pub unknown : id ≡ None → marked ≡ true

pub record IsJoinedLink (setup : Setup) (tests : Tests) (number : LinkId) (n : SessionName) (link : Link) (peer : Peer) (held : Held) (private : Session) : Type 0 where
  pub home : held.home ≡ Some number
  pub asked : IsAskedJoined setup n link.stage link.marked link.told link.id link.live held
  pub joined : IsJoined tests peer.alive link.account link.marked (soon_told setup.reads link.stage peer.answer link.told) (soon_id setup.reads link.stage peer.answer link.id)
      (soon_pin setup.reads link.stage peer.answer held.pin) (soon_id setup.reads link.stage peer.answer held.id) peer.session private

abbrev pub IsAtBy : Setup → Tests → Carried → (number : LinkId) → Link → Peer → (SessionName → Held) → (SessionName → Session) → Type 0
IsAtBy setup tests Nobody number link peer held sessions = IsFreeLink setup link peer
IsAtBy setup tests (Lent n) number link peer held sessions = IsLentLink setup number n link peer (held n) (sessions n)
IsAtBy setup tests (Joined n) number link peer held sessions = IsJoinedLink setup tests number n link peer (held n) (sessions n)

abbrev pub IsAt : Setup → Tests → (number : LinkId) → Link → Peer → (SessionName → Held) → (SessionName → Session) → Type 0
IsAt setup tests number link peer held sessions = IsAtBy setup tests link.carries number link peer held sessions

-- a session that no link carries
pub record IsResting (held : Held) (private : Session) : Type 0 where
  pub plain : IsPlain private
  pub id : Knows held.id private

-- What was sent and answered.

-- the message whose statement stands on a link
abbrev pub message_on : Stage → Option MessageName
message_on (Asked (Statement n due)) = Some (message_of n due)
message_on (Answered (Statement n due)) = Some (message_of n due)
message_on _ = None

-- and that ran
abbrev pub ran_on : Stage → Option MessageName
ran_on (Answered (Statement n due)) = Some (message_of n due)
ran_on _ = None

pub record AreAnswered (links : LinkId → Link) (peers : LinkId → Peer) (carriers : MessageName → Option LinkId) (replies answers : MessageName → Option Reply) : Type 0 where
  pub carried : (number : LinkId) (m : MessageName) → message_on (links number).stage ≡ Some m → carriers m ≡ Some number
  pub unread : (number : LinkId) (m : MessageName) → message_on (links number).stage ≡ Some m → replies m ≡ None
  pub unsent : (m : MessageName) → carriers m ≡ None → replies m ≡ None
  pub answered : (number : LinkId) (m : MessageName) → ran_on (links number).stage ≡ Some m → answers m ≡ Some (peers number).answer
  pub replied : (m : MessageName) (reply : Reply) → replies m ≡ Some reply → answers m ≡ Some reply

-- What is prepared.

pub record IsOfKey (setup : Setup) (key : ℕ) (entry : Key) : Type 0 where
  pub text : entry.text ≡ (setup.keys key).text
  pub schema : entry.place.schema ≡ (setup.keys key).place.schema
  pub core : core entry.place.settings ≡ core (setup.keys key).place.settings

pub record IsKept (setup : Setup) (key : ℕ) (held : Option Key) : Type 0 where
  pub entry : Key
  pub is : held ≡ Some entry
  pub of_key : IsOfKey setup key entry

-- what is live on a link was prepared at its key's place
pub record AreKept (setup : Setup) (live : ℕ → Option ℕ) (table : ℕ → Option Key) : Type 0 where
  pub kept : (key number : ℕ) → live key ≡ Some number → IsKept setup key (table number)

-- and so was all that a session prepared
pub record IsUsual (setup : Setup) (table : ℕ → Option Key) : Type 0 where
  pub usual : (key : ℕ) (entry : Key) → table key ≡ Some entry → IsOfKey setup key entry

abbrev pub own_entry : Setup → (key : ℕ) → Option Key → Key
own_entry setup key (Some entry) = entry
own_entry setup key None = setup.keys key

pub record IsMatch (setup : Setup) (key : ℕ) (there here : Option Key) : Type 0 where
  pub entry : Key
  pub is : there ≡ Some entry
  pub text : entry.text ≡ (setup.keys key).text
  pub own_text : (own_entry setup key here).text ≡ (setup.keys key).text
  pub schema : entry.place.schema ≡ (own_entry setup key here).place.schema
  pub core : core entry.place.settings ≡ core (own_entry setup key here).place.settings

-- a joined link: what is live there is what the session has, also where nobody knows what that is
pub record AreMatched (setup : Setup) (live : ℕ → Option ℕ) (deep : Bool) (there here : ℕ → Option Key) : Type 0 where
  pub match : (key number : ℕ) → live key ≡ Some number → IsMatch setup key (there number) (here key)
  pub kept : deep ≡ false → AreKept setup live there
  pub usual : deep ≡ false → IsUsual setup here

abbrev pub AreTabledBy : Setup → Carried → Link → Peer → (SessionName → Held) → (SessionName → ℕ → Option Key) → Type 0
AreTabledBy setup Nobody link peer held tables = IfAlive peer.alive (AreKept setup (soon_live link.stage peer.answer link.live) peer.table) (Unit {0})
AreTabledBy setup (Lent n) link peer held tables = IfAlive peer.alive (AreKept setup (soon_live link.stage peer.answer link.live) peer.table) (Unit {0}) × IsUsual setup (tables n)
AreTabledBy setup (Joined n) link peer held tables = IfAlive peer.alive
    (AreMatched setup (soon_live link.stage peer.answer link.live) (soon_pin setup.reads link.stage peer.answer (held n).pin).deep peer.table (tables n))
    ((soon_pin setup.reads link.stage peer.answer (held n).pin).deep ≡ false → IsUsual setup (tables n))

pub record AreTabled (setup : Setup) (links : LinkId → Link) (peers : LinkId → Peer) (held : SessionName → Held) (tables : SessionName → ℕ → Option Key) : Type 0 where
  pub on : (number : LinkId) → AreTabledBy setup (links number).carries (links number) (peers number) held tables
  pub resting : (n : SessionName) → (held n).home ≡ None → IsUsual setup (tables n)

-- Data and sessions are such as the laws speak of.

abbrev pub IsGood : Tests → Session → Type 0
IsGood tests s = tests.is_session s.tx s.locks s.deep s.diag ≡ true

pub record AreAccepted (tests : Tests) (real : Real) (private : Private) : Type 0 where
  pub data_of : (server : ServerId) → tests.is_data (real.stored server) ≡ true
  pub peers : (number : LinkId) → IsGood tests (real.peers number).session
  pub sessions : (n : SessionName) → IsGood tests (private.sessions n)

-- The data, the sessions on links and those at rest.
pub record Stands (setup : Setup) (tests : Tests) (view : View) (real : Real) (private : Private) : Type 0 where
  pub accepted : AreAccepted tests real private
  pub stored : (server : ServerId) → private.stored server ≡ real.stored server
  pub owners : (n : SessionName) → account_of (private.sessions n) ≡ setup.accounts n.client
  pub resting : (n : SessionName) → (view.held n).home ≡ None → IsResting (view.held n) (private.sessions n)
  pub links : (number : LinkId) → IsAt setup tests number (view.links number) (real.peers number) view.held private.sessions
