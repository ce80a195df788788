-- That what becomes of messages is what the promise's verdict says of them.
use Rattle.std.specs.Prelude.{◌≡◌, ◌<◌, ℕ, suc, Bool, true, All, is_some, length, slice_get, List, [], ◌∷◌, Option, Some}
use Rattle.mx_wire.specs.Log.{Log}
use Rattle.mx_wire.specs.declared.entry.Entry.{Entry}
use Rattle.mx_base.specs.declared.names.Port.{Port}
use Rattle.packet_frame.specs.Packets.{Framed}
use Rattle.client_session.specs.Answers.{Talk, is_quit, messages_of}
use Rattle.private_model.specs.Names.{ClientNo}
use Rattle.private_model.specs.Story.{Key}
use Rattle.private_model.specs.View.{Setup}
use Rattle.link_laws.specs.Stands.{Codes}
use Rattle.log_story.specs.Headline.{tale_of}
use Rattle.log_story.specs.Owed.{messages, name_of, talk_of}
use Rattle.log_story.specs.Plan.{Plan}
use Rattle.log_story.specs.Tale.{Client, Tale}
use Rattle.step_laws.specs.Seats.{IsSeated}
use Rattle.tale_world.specs.Decided.{Decided}
use Rattle.router_promises.specs.Takings.{Taking, takings_at}
use Rattle.core_service.specs.declared.service.Service.{Service}
use Rattle.core_laws.specs.clients.Found.{IsAmong, IsLastAmong}
use Rattle.core_laws.specs.clients.Refusals.{is_refused_talk}
use Rattle.core_laws.specs.clients.Turns.{Answers, Choice, Ends, Goes, Halt, Quits}
use Rattle.core_laws.specs.entry.Cores.{with_entry}
use Rattle.core_laws.specs.entry.Tells.{Fits, IsOf}
use Rattle.core_service.specs.Serves.{rules_in}
use Rattle.core_promises.specs.Administered.{MakesIf}
use Rattle.core_promises.specs.Administers.{Administered}
use Rattle.core_promises.specs.Causes.{IsCause}
use Rattle.core_promises.specs.Judges.{Rulebook, situation_of}
use Rattle.core_promises.specs.Ruled.{IsChoiceFor, Ruling, book_of}
use Rattle.router_laws.specs.decisions.Deeds.{Counts, Deeds, Word, decided_with, taken_by}
use Rattle.router_laws.specs.decisions.Partings.{IsPartCause}

-- a story's keys are those of the texts that are kept
abbrev pub HasKeys : (keys : (key : ℕ) → Option Key) → Setup → Type 0
HasKeys keys setup = (k : ℕ) (key : Key) → keys k ≡ Some key → setup.keys k ≡ key

abbrev pub all_keys : Setup → (key : ℕ) → Option Key
all_keys setup key = Some (setup.keys key)

-- What messages are judged by, and what administrators work on, before and behind.
pub record Judging : Type 0 where
  pub book : Rulebook
  pub was : Administered
  pub is : Administered

abbrev pub judging_by : Service → (was is : Administered) → Judging
judging_by service was is = record { book = book_of service; was = was; is = is }

abbrev pub judging_of : Ruling → Judging
judging_of ruling = record { book = ruling.book; was = ruling.was; is = ruling.is }

-- what becomes of a message makes this, where it is this message of a client of this port
abbrev pub IsMadeBy : Choice → Option Framed → Port → (was is : Administered) → Type 0
IsMadeBy (Goes route keyed) found port was is = is ≡ was
IsMadeBy (Answers payloads) found port was is = MakesIf found port (Some payloads) was is

-- by the taking of the message's name, which is one of these
pub record IsJudgedAs (judging : Judging) (setup : Setup) (plan : Plan) (client : Client) (takings : List Taking) (k : ℕ) (choice : Choice) : Type 0 where
  pub taking : Taking
  pub among : IsAmong takings (name_of client (suc k)) taking
  pub is : (message : Framed) → slice_get (messages plan client) k ≡ Some message
      → IsChoiceFor choice judging.book (situation_of setup plan taking) (all_keys setup) client.number message.payload
  pub made : IsMadeBy choice (slice_get (messages plan client) k) taking.client.port judging.was judging.is

-- its turns end by what it said: that it quits, by this message, or what is refused
abbrev pub SaysHalt : Halt → Talk → (k : ℕ) → Type 0
SaysHalt Quits talk k = (message : Framed) × ((slice_get (messages_of talk).messages k ≡ Some message) × (is_quit message.payload ≡ true))
SaysHalt Ends talk k = is_refused_talk talk ≡ true
SaysHalt _ talk k = Unit {0}

-- of a client's messages from the k-th on, where this is decided of them
abbrev pub JudgedFrom : Judging → Setup → Plan → Client → (takings : List Taking) → (k : ℕ) → List Choice → Halt → Type 0
JudgedFrom judging setup plan client takings k [] halt =
    (IsLastAmong halt takings (name_of client (suc k)) × SaysHalt halt (talk_of plan client) k) × (judging.is ≡ judging.was)
JudgedFrom judging setup plan client takings k (choice ∷ others) halt =
    (then : Administered)
    × (IsJudgedAs (record judging { is = then }) setup plan client takings k choice
    × JudgedFrom (record judging { was = then }) setup plan client takings (suc k) others halt)

-- the last message goes to a server, of each client for which this holds
abbrev pub AreSent : Plan → Tale → (ClientNo → Bool) → Type 0
AreSent plan tale given =
    All (λ (client : Client). given client.number ≡ true → is_some (plan.routes (name_of client client.taken)) ≡ true) tale.clients

-- Behind an entry with these deeds: what each client took up at it is judged, by the rules that were in force before, and makes what it says, from
-- client to client; and what is given up went to a server, and has its cause.
pub record IsJudgedThen (service : Service) (log : Log) (e : Entry) (n : Counts) (deeds : Deeds) (setup : Setup) (plan : Plan) (was is : Administered) : Type 0 where
  pub states : (number : ℕ) → Administered
  pub begins : states 1 ≡ was
  pub ends : states (suc (length (tale_of setup plan (with_entry log e)).clients)) ≡ is
  pub forced : (c : ClientNo) → 0 < taken_by (deeds.calls c) (deeds.halts c) → was.rules ≡ rules_in service
  pub takes : (client : Client) → IsSeated (tale_of setup plan (with_entry log e)) client
      → JudgedFrom (judging_by service (states client.number.0) (states (suc client.number.0))) setup plan client (takings_at setup plan (tale_of setup plan log) e) (n.taken client.number)
      (deeds.calls client.number) (deeds.halts client.number)
  pub gives : AreSent plan (tale_of setup plan log) (λ c. is_some (deeds.given c))
  pub why : (c : ClientNo) (payload : List ℕ) → deeds.given c ≡ Some payload
      → IsCause service.wait_ms setup plan log e (record { client = c; ordinal = n.taken c }) payload
  pub parts : (c : ClientNo) (end : Option Word) → deeds.ends c ≡ Some end → IsPartCause service.buffer_budget setup plan log e c end

-- by each plan that has what is decided then, and fits
abbrev pub JudgesThen : Service → Log → Entry → Decided → Counts → Deeds → (was is : Administered) → Type 0
JudgesThen service log e d n deeds was is =
    (setup : Setup) (codes : Codes) (plan : Plan) → IsOf (decided_with deeds n log e d) (length (with_entry log e)) plan
    → Fits (decided_with deeds n log e d).keys setup codes plan service.default_schema (tale_of setup plan (with_entry log e)) → IsJudgedThen service log e n deeds setup plan was is
