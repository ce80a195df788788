-- Whose messages are taken up at an entry, and what that leaves of others.
use Rattle.std.specs.Prelude.{◌≡◌, ◌≤◌, ◌⊎◌, ℕ, zero, suc, Bool, true, false, not, ◌&&◌, ◌||◌, All, fold, length, slice_get, List, Option, Some, None}
use Rattle.std.specs.Option.{option_map_or}
use Rattle.mx_wire.specs.declared.entry.Entry.{Entry}
use Rattle.mx_wire.specs.declared.entry.Entry.TheVariants.{Woke}
use Rattle.private_model.specs.Names.{ClientNo, Hostgroup, MessageName, SessionName}
use Rattle.private_model.specs.Story.{Gone, Happening, Heard, Left, Mirrored, is_client}
use Rattle.private_model.specs.View.{Answered, Setup, Stage, View}
use Rattle.log_story.specs.Clients.{client_goes_on, is_answered, is_event_of, is_up, next_taken, taken_up, waits_for_capture}
use Rattle.log_story.specs.Executes.{requested}
use Rattle.log_story.specs.Owed.{has_room, messages, name_of}
use Rattle.log_story.specs.Plan.{Plan, Route, gives_up, is_before}
use Rattle.log_story.specs.Tale.{Client, Tale, view_of, with_client}
use Rattle.log_story.proofs.Frames.{asker}
use Rattle.step_laws.specs.Seats.{numbers, seats}
use Rattle.step_laws.specs.Spared.{carries_of}

-- it has an event, or its last message is given up, and it wasn't ended before; the view is that of before
abbrev pub is_called : Plan → (moment : ℕ) → View → Entry → Client → Bool
is_called plan moment view e client =
    (is_event_of view client e || gives_up plan moment (name_of client client.taken))
    && not (is_before moment (plan.ends client.number))

abbrev pub wakes : Entry → Bool
wakes (Woke until_ms now_ms) = true
wakes _ = false

-- what its next message makes of a tale, where it is whole, and up
abbrev pub next_made : Setup → Plan → Client → Tale → Option Tale
next_made setup plan client tale =
    next_taken setup plan client (slice_get (messages plan client) client.taken) tale

abbrev pub next_of : Client → Client
next_of client = record client { taken = suc client.taken }

abbrev pub IsIdle : Setup → Plan → Tale → Client → Type 0
IsIdle setup plan tale client = next_made setup plan client tale ≡ None

-- nothing is taken up of it
abbrev pub IsPassed : Setup → Plan → View → Entry → Tale → Client → Type 0
IsPassed setup plan view e tale client =
    (is_called plan tale.moment view e client ≡ false) ⊎ IsIdle setup plan tale client

abbrev pub ArePassedBut : Setup → Plan → View → Entry → (called : ClientNo → Bool) → Tale → Type 0
ArePassedBut setup plan view e called tale =
    All (λ (client : Client). called client.number ≡ false → IsPassed setup plan view e tale client)
    tale.clients

-- no copies are made of the messages of these clients
abbrev pub AreSingle : Plan → (whose : ClientNo → Bool) → Type 0
AreSingle plan whose =
    (m : MessageName) (route : Route) → whose m.client ≡ true → plan.routes m ≡ Some route
    → route.mirror ≡ None

-- nor of its next message
abbrev pub IsSingle : Plan → Client → Type 0
IsSingle plan client =
    (route : Route) → plan.routes (name_of client (suc client.taken)) ≡ Some route → route.mirror ≡ None

-- none of its messages is given up at this moment that were taken up
abbrev pub GivesUpNone : Plan → (moment : ℕ) → Client → Type 0
GivesUpNone plan moment client =
    (ordinal : ℕ) → ordinal ≤ client.taken → gives_up plan moment (name_of client ordinal) ≡ false

-- all that it can take up
abbrev pub all_taken : Setup → Plan → Client → Tale → Tale
all_taken setup plan client tale = taken_up (length (messages plan client)) setup plan client tale

abbrev pub gone_on : Setup → Plan → View → Entry → List Client → Tale → Tale
gone_on setup plan view e called tale = fold (client_goes_on setup plan view e) tale called

-- the client as it stands once its messages were taken up
abbrev pub taken_to : (most : ℕ) → Setup → Plan → Client → Tale → Client
taken_to zero setup plan client tale = client
taken_to (suc most) setup plan client tale =
    let next = next_of client in
    option_map_or (λ other. taken_to most setup plan next (with_client next other))
    (next_made setup plan client tale) client

-- Links, what is held of sessions and what was read stay; so do the dues, lives and places of others, and others themselves.
pub record SparesOthers (setup : Setup) (whose : ClientNo → Bool) (old new : Tale) : Type 0 where
  pub moment : new.moment ≡ old.moment
  pub to_servers : new.links ≡ old.links
  pub wires : new.wires ≡ old.wires
  pub links : (view_of setup new).links ≡ (view_of setup old).links
  pub held : (view_of setup new).held ≡ (view_of setup old).held
  pub carriers : (view_of setup new).carriers ≡ (view_of setup old).carriers
  pub lasting : (view_of setup new).lasting ≡ (view_of setup old).lasting
  pub replies : (view_of setup new).replies ≡ (view_of setup old).replies
  pub due : (n : SessionName) → whose n.client ≡ false
      → (view_of setup new).dues n ≡ (view_of setup old).dues n
  pub life : (c : ClientNo) (h : Hostgroup) → whose c ≡ false
      → (view_of setup new).lives c h ≡ (view_of setup old).lives c h
  pub place : (c : ClientNo) → whose c ≡ false
      → (view_of setup new).places c ≡ (view_of setup old).places c
  pub numbered : numbers new ≡ numbers old
  pub seat : (c : ClientNo) → whose c ≡ false → seats new c ≡ seats old c

-- What is looked at as another client's message is taken up.
pub record IsAsItWas (setup : Setup) (plan : Plan) (old new : Tale) (client : Client) : Type 0 where
  pub answered : (ordinal : ℕ) → ordinal ≤ client.taken
      → is_answered plan new (view_of setup new) client ordinal
      ≡ is_answered plan old (view_of setup old) client ordinal
  pub waits : waits_for_capture (view_of setup new) plan client
      ≡ waits_for_capture (view_of setup old) plan client
  pub room : has_room (view_of setup new).replies plan new.moment client
      ≡ has_room (view_of setup old).replies plan old.moment client
  pub up : is_up setup plan client new ≡ is_up setup plan client old
  pub asks : (ordinal : ℕ) (route : Route) (payload : List ℕ)
      → requested setup (view_of setup new) plan client ordinal route payload
      ≡ requested setup (view_of setup old) plan client ordinal route payload

-- Whose next message a happening may touch.

-- an answer is read to a question of this client's that ran
abbrev pub is_heard_of : Stage → ClientNo → Bool
is_heard_of (Answered question) c = option_map_or (λ m. is_client c m.client) (asker question) false
is_heard_of _ c = false

abbrev pub touched_client : View → Happening → ClientNo → Bool
touched_client view (Heard link reply) c = is_heard_of (view.links link).stage c
touched_client view (Gone link) c = carries_of (λ m. is_client c m.client) (view.links link).carries
touched_client view (Left client) c = is_client c client
touched_client view (Mirrored client job) c = is_client c job
touched_client view _ c = false
