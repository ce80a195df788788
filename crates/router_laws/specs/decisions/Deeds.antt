-- What is decided at one entry of the log, as data.
use Rattle.std.specs.Prelude.{◌≡◌, ℕ, suc, ◌+◌, Bool, true, false, All, ◌&&◌, is_some, nat_eq, nat_le, if◌then◌else◌, length, List, [], ◌∷◌, Option, Some, None}
use Rattle.std.specs.Option.{option_map, option_or}
use Rattle.mx_wire.specs.Log.{Log, accepted_links, opened_links}
use Rattle.mx_wire.specs.declared.entry.Entry.{Entry}
use Rattle.mx_wire.specs.declared.entry.Entry.TheVariants.{Opened, Wrote}
use Rattle.server_side.specs.Account.{Account as Login}
use Rattle.private_model.specs.Names.{ClientNo, LinkId, MessageName}
use Rattle.private_model.specs.Story.{Key, is_link_id}
use Rattle.log_story.specs.Plan.{LastWord, OwnAnswer, Route, StepText, WordPlace}
use Rattle.step_laws.specs.Freed.{is_among}
use Rattle.tale_world.specs.Decided.{Decided}
use Rattle.core_tables.specs.Parting.{given_to}
use Rattle.core_laws.specs.entry.Cores.{with_entry}
use Rattle.core_laws.specs.clients.Turns.{Answers, Choice, Ends, Goes, Halt, Keyed, Quits, Rests, Waits}

-- a last word to a client
pub record Word : Type 0 where
  pub place : WordPlace
  pub payloads : List (List ℕ)

-- By what payload a client's last message is given up; what is decided of those that it takes up behind that, and how that ends; whether it is
-- ended behind its turns, and with which last word; who logs in on a link that is opened; and whether the entry begins a question, and which step
-- that is.
pub record Deeds : Type 0 where
  pub given : ClientNo → Option (List ℕ)
  pub calls : ClientNo → List Choice
  pub halts : ClientNo → Halt
  pub ends : ClientNo → Option (Option Word)
  pub login : Option Login
  pub begun : Option (Option StepText)

-- A client whose turns end it is told no last word.

abbrev pub ends_by : Halt → Option (Option Word) → Option (Option Word)
ends_by Waits later = later
ends_by Rests later = later
ends_by Quits later = Some None
ends_by Ends later = Some None

abbrev pub ends_in : Deeds → ClientNo → Option (Option Word)
ends_in deeds c = ends_by (deeds.halts c) (deeds.ends c)

abbrev pub said_at : (now : ℕ) → Option (Option Word) → Option LastWord
said_at now (Some (Some word)) = Some (record { from = now; place = word.place; payloads = word.payloads })
said_at now _ = None

-- the last word to a client of one that it ends
abbrev pub word_of : Deeds → (now : ℕ) → ClientNo → Option LastWord
word_of deeds now c = said_at now (ends_in deeds c)

-- Deeds of few.

abbrev pub no_deeds : Deeds
no_deeds = record { given = λ c. None; calls = λ c. []; halts = λ c. Rests; ends = λ c. None; login = None; begun = None }

-- this for one client
abbrev pub for_one : {A : Type 0} → ClientNo → A → (others : A) → ClientNo → A
for_one c value others other = if nat_eq c.0 other.0 then value else others

abbrev pub giving : ClientNo → (payload : List ℕ) → Deeds → Deeds
giving c payload deeds = record deeds { given = given_to c payload }

abbrev pub taking : ClientNo → List Choice → Halt → Deeds → Deeds
taking c choices halt deeds = record deeds { calls = for_one c choices []; halts = for_one c halt Rests }

abbrev pub parting : ClientNo → Option (Option Word) → Deeds → Deeds
parting c end deeds = record deeds { ends = for_one c end None }

-- no copies are made

abbrev pub IsAlone : Choice → Type 0
IsAlone (Goes route keyed) = route.mirror ≡ None
IsAlone (Answers payloads) = Unit {0}

-- each text by which a message goes has its number among these

abbrev pub IsToldBy : (keys : (number : ℕ) → Option Key) → Choice → Type 0
IsToldBy keys (Goes route keyed) = All (λ (one : Keyed). keys one.number ≡ Some one.key) keyed
IsToldBy keys (Answers payloads) = Unit {0}

abbrev pub AreToldBy : (keys : (number : ℕ) → Option Key) → Deeds → Type 0
AreToldBy keys deeds = (c : ClientNo) → All (IsToldBy keys) (deeds.calls c)

abbrev pub AreAlone : Deeds → Type 0
AreAlone deeds = (c : ClientNo) → All IsAlone (deeds.calls c)

-- What it makes of what was decided.

-- how many messages of each client were taken up, and how many questions were begun on each link
pub record Counts : Type 0 where
  pub taken : ClientNo → ℕ
  pub begun : LinkId → ℕ

abbrev pub no_counts : Counts
no_counts = record { taken = λ c. 0; begun = λ l. 0 }

-- nothing is decided of clients that didn't come yet
abbrev pub among : (known : ℕ) → Deeds → Deeds
among known deeds = record deeds {
  given = λ c. if nat_le c.0 known then deeds.given c else None;
  calls = λ c. if nat_le c.0 known then deeds.calls c else [];
  halts = λ c. if nat_le c.0 known then deeds.halts c else Rests;
  ends = λ c. if nat_le c.0 known then deeds.ends c else None;
}

abbrev pub is_opened : LinkId → Log → Bool
is_opened l log = is_among (opened_links log) l

-- a login is that of the link which the entry opens, and a question begins on the link to a server on which it writes

abbrev pub login_at : Entry → Deeds → LinkId → Option Login
login_at (Opened server address link) deeds l = if is_link_id l link then deeds.login else None
login_at _ deeds l = None

abbrev pub begun_at : Log → Entry → Deeds → LinkId → Option (Option StepText)
begun_at log (Wrote link tag bytes) deeds l = if is_link_id l link && is_opened l log then deeds.begun else None
begun_at log _ deeds l = None

-- A message goes to a server, or is answered as it is taken up, or, as a COM_QUIT, neither.

pub record Fate : Type 0 where
  pub route : Option Route
  pub own : Option OwnAnswer

abbrev pub fate_of : Choice → Fate
fate_of (Goes route keyed) = record { route = Some route; own = None }
fate_of (Answers payloads) = record { route = None; own = Some (record { from = 0; payloads = payloads }) }

abbrev pub no_fate : Fate
no_fate = record { route = None; own = None }

abbrev pub is_quitting : Halt → Bool
is_quitting Quits = true
is_quitting _ = false

-- of the message of an ordinal, where these are of those from the first one on
abbrev pub fate_in : List Choice → Halt → (first ordinal : ℕ) → Option Fate
fate_in [] halt first ordinal = if is_quitting halt && nat_eq ordinal first then Some no_fate else None
fate_in (choice ∷ others) halt first ordinal =
    if nat_eq ordinal first then Some (fate_of choice) else fate_in others halt (suc first) ordinal

abbrev pub fate_at : Deeds → Counts → MessageName → Option Fate
fate_at deeds n m = fate_in (deeds.calls m.client) (deeds.halts m.client) (suc (n.taken m.client)) m.ordinal

-- how many are taken up
abbrev pub taken_by : List Choice → Halt → ℕ
taken_by choices halt = length choices + (if is_quitting halt then 1 else 0)

-- the last message is given up, where it was taken up and not answered

abbrev pub given_with : (now : ℕ) → Option (List ℕ) → Option (Option OwnAnswer) → Option (Option OwnAnswer)
given_with now (Some payload) (Some None) = Some (Some (record { from = now; payloads = payload ∷ [] }))
given_with now _ was = was

abbrev pub given_at : Deeds → Counts → (now : ℕ) → MessageName → Option (Option OwnAnswer) → Option (Option OwnAnswer)
given_at deeds n now m was = if nat_eq m.ordinal (n.taken m.client) then given_with now (deeds.given m.client) was else was

abbrev pub own_with : (now : ℕ) → Deeds → Counts → MessageName → Option (Option OwnAnswer) → Option (Option OwnAnswer)
own_with now deeds n m was = option_or (given_at deeds n now m was) (option_map (λ (fate : Fate). fate.own) (fate_at deeds n m))

abbrev pub word_with : (now : ℕ) → (ended : Option ℕ) → Option (Option Word) → Option LastWord → Option LastWord
word_with now (Some at) end was = was
word_with now None end was = option_or was (said_at now end)

abbrev pub step_with : Option (Option StepText) → (begun n : ℕ) → Option StepText → Option StepText
step_with (Some step) begun n was = if nat_eq n begun then option_or was step else was
step_with None begun n was = was

abbrev pub decided_by : Deeds → Counts → Log → Entry → (now : ℕ) → Decided → Decided
decided_by deeds n log e now d = record d {
  logins = λ l. option_or (d.logins l) (login_at e deeds l);
  routes = λ m. option_or (d.routes m) (option_map (λ (fate : Fate). fate.route) (fate_at deeds n m));
  own = λ m. own_with now deeds n m (d.own m);
  ends = λ c. option_or (d.ends c) (option_map (λ (end : Option Word). now) (ends_in deeds c));
  until = now;
  words = λ c. word_with now (d.ends c) (ends_in deeds c) (d.words c);
  steps = λ l k. step_with (begun_at log e deeds l) (n.begun l) k (d.steps l k);
}

abbrev pub counts_by : Deeds → Counts → Log → Entry → Counts
counts_by deeds n log e = record {
  taken = λ c. n.taken c + taken_by (deeds.calls c) (deeds.halts c);
  begun = λ l. if is_some (begun_at log e deeds l) then suc (n.begun l) else n.begun l;
}

-- of the clients that came by the entry
abbrev pub known_with : Log → Entry → ℕ
known_with log e = length (accepted_links (with_entry log e))

abbrev pub decided_with : Deeds → Counts → Log → Entry → Decided → Decided
decided_with deeds n log e d = decided_by (among (known_with log e) deeds) n log e (length (with_entry log e)) d

abbrev pub counts_with : Deeds → Counts → Log → Entry → Counts
counts_with deeds n log e = counts_by (among (known_with log e) deeds) n log e
